-- How `key` ends.
use Rattle.std.proofs.Common.{◌≡◌, ◌⊎◌, ℕ, List, Option, inl, inr, refl, sym, ◌∙◌, subst}
use Rattle.outside.specs.Causes.{Rose}
use Rattle.outside.specs.Told.{WhereTold}
use Rattle.key_types.specs.Kinds.{Kinds}
use Rattle.key_tool.specs.declared.request.KeyWay.{KeyWay}
use Rattle.key_tool.specs.declared.request.KeyWay.TheVariants.{Encode, Decode}
use Rattle.key_tool.specs.Shown.{ShowsLine}
use Rattle.key_tool.proofs.Lines.{key_texts}
use Rattle.table_tool.specs.declared.status.Status.{Status}
use Rattle.table_tool.specs.declared.status.Status.TheVariants as status
use Rattle.outside.specs.Files.{Files}
use Rattle.table_tool.specs.Keys.{IsOfKey, KeyEnds, WritesLine}
use Rattle.table_tool.specs.Outcome.{IsOrNoMemory, PrintsText, SaysRefusal}
use Rattle.table_tool.specs.Outside.{FaultRose, Outside, outside_of}
use Rattle.table_tool.proofs.Told.{told_so}

-- a text has one line
one_line : (way : KeyWay) (kinds : Kinds) (text a b : List ℕ) → ShowsLine way kinds text a → ShowsLine way kinds text b → a ≡ b
one_line Encode kinds text a b = key_texts.one_encoded kinds text a b
one_line Decode kinds text a b = key_texts.one_decoded kinds text a b

printed : (result : Status) → (result ≡ status.Ok) ⊎ (result ≡ status.SinkFault) → (line x y : List ℕ) → PrintsText line result x y → WritesLine result line x y
printed result (inl e) line x y prints = subst (λ (r : Status). WritesLine r line x y) (sym e) (subst (λ (r : Status). PrintsText line r x y) e prints)
printed result (inr e) line x y prints = subst (λ (r : Status). WritesLine r line x y) (sym e) (subst (λ (r : Status). PrintsText line r x y) e prints)

module _ (kinds : Kinds) (way : KeyWay) (text line : List ℕ) (a b : Option (List ℕ)) (sink sink' : ℕ) (result : Status) (shown : ShowsLine way kinds text line)
    (told : WhereTold a b (PrintsText line result)) (fault : result ≡ status.SinkFault → Rose sink sink') (left : Option (List ℕ)) (source : ℕ) (files : Option Files) (store reads : ℕ) where
  abbrev earlier : Outside
  earlier = outside_of left source a sink files store reads

  abbrev later : Outside
  later = outside_of left source b sink' files store reads

  possible_by : (result ≡ status.Ok) ⊎ (result ≡ status.SinkFault) → IsOfKey result
  possible_by (inl e) = subst (λ (r : Status). IsOfKey r) (sym e) tt
  possible_by (inr e) = subst (λ (r : Status). IsOfKey r) (sym e) tt

  faults_by : (result ≡ status.Ok) ⊎ (result ≡ status.SinkFault) → FaultRose earlier later result
  faults_by (inl e) = subst (λ (r : Status). FaultRose earlier later r) (sym e) tt
  faults_by (inr e) = subst (λ (r : Status). FaultRose earlier later r) (sym e) (fault e)

  other : result ≡ status.Key → (result ≡ status.Ok) ⊎ (result ≡ status.SinkFault) → ⊥
  other e (inl f) = let both = sym e ∙ f in cc
  other e (inr f) = let both = sym e ∙ f in cc

  whole : ¬ (Rose sink sink') → (result ≡ status.Ok) ⊎ (result ≡ status.SinkFault) → IsOrNoMemory status.Ok result
  whole still (inl e) = subst (IsOrNoMemory status.Ok) (sym e) refl
  whole still (inr e) = absurd (still (fault e))

  no_refusal : (x y : List ℕ) → (result ≡ status.Ok) ⊎ (result ≡ status.SinkFault) → SaysRefusal result sink sink' x y
  no_refusal x y (inl e) = subst (λ (r : Status). SaysRefusal r sink sink' x y) (sym e) tt
  no_refusal x y (inr e) = subst (λ (r : Status). SaysRefusal r sink sink' x y) (sym e) tt

  -- the line is printed
  pub line_ends : (result ≡ status.Ok) ⊎ (result ≡ status.SinkFault) → KeyEnds kinds way text earlier later result
  line_ends cases = record {
    possible = possible_by cases;
    faults = faults_by cases;
    refused_only = λ e. absurd (other e cases);
    refused = λ none. absurd (none line shown);
    line = λ l is. told_so a b (PrintsText line result) (WritesLine result l) (λ x y prints. subst (λ (t : List ℕ). WritesLine result t x y) (one_line way kinds text line l shown is) (printed result cases line x y prints)) told;
    complete = λ l is still. whole still cases;
    refusal = told_so a b (PrintsText line result) (SaysRefusal result sink sink') (λ x y prints. no_refusal x y cases) told;
    source = (refl, refl);
    store = (refl, refl, refl);
  }
