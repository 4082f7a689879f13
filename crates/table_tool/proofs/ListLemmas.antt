-- How `list` ends.
use Rattle.std.proofs.Common.{◌≡◌, ◌⊎◌, ℕ, List, [], Option, None, Some, Result, Ok, Err, inl, inr, refl, sym, ◌∙◌, ap, subst}
use Rattle.std.specs.Prelude.{IfSome}
use Rattle.outside.specs.Causes.{Rose}
use Rattle.outside.specs.Files.{Files}
use Rattle.outside.specs.Told.{WhereTold}
use Rattle.key_types.specs.Columns.{Columns}
use Rattle.table_tool.specs.declared.status.Status.{Status}
use Rattle.table_tool.specs.declared.status.Status.TheVariants as status
use Rattle.script_text.specs.declared.script.Script.{Script}
use Rattle.script_text.specs.Script.{puts_of, script_of}
use Rattle.script_run.specs.Runs.{HasRoom, IsFullAt}
use Rattle.table_tool.specs.Input.{TakesScript}
use Rattle.row_text.specs.Printed.{rows_text}
use Rattle.table_tool.specs.Rows.{rows_of}
use Rattle.table_tool.specs.Listing.{FillsShard, FitsShard, GivesOrFault, IsListed, IsOfList, ListEnds, WritesRows, listing, listing_of}
use Rattle.table_tool.specs.Outcome.{IsOrNoMemory, PrintsText, SaysRefusal, ended}
use Rattle.table_tool.specs.Outside.{FaultRose, Outside, outside_of}
use Rattle.table_tool.proofs.Told.{told_so}

if_so : {A : Type 0} (o : Option A) (P Q : A → Type 0) → ((x : A) → P x → Q x) → IfSome o P → IfSome o Q
if_so None P Q step p = tt
if_so (Some x) P Q step p = step x p

module _ (columns : Columns) (cells : ℕ) (left left' : Option (List ℕ)) (source source' : ℕ) (a b : Option (List ℕ)) (sink sink' : ℕ) (text : List ℕ) (result : Status)
    (told : IfSome left (λ bytes. GivesOrFault (Ok text) (listing columns bytes))) (pushed : WhereTold a b (PrintsText text result))
    (fault : result ≡ status.SinkFault → Rose sink sink') (files : Option Files) (store reads : ℕ) where
  abbrev earlier : Outside
  earlier = outside_of left source a sink files store reads

  abbrev later : Outside
  later = outside_of left' source' b sink' files store reads

  -- by the two statuses of a text that is printed
  by_cases : (P : Status → Type 0) → P status.Ok → (result ≡ status.SinkFault → P status.SinkFault) → (result ≡ status.Ok) ⊎ (result ≡ status.SinkFault) → P result
  by_cases P ok failed (inl e) = subst P (sym e) ok
  by_cases P ok failed (inr e) = subst P (sym e) (failed e)

  written_by : (cases : (result ≡ status.Ok) ⊎ (result ≡ status.SinkFault)) (x y : List ℕ) → PrintsText text result x y → WritesRows result text x y
  written_by (inl e) x y prints = subst (λ (r : Status). WritesRows r text x y) (sym e) (subst (λ (r : Status). PrintsText text r x y) e prints)
  written_by (inr e) x y prints = subst (λ (r : Status). WritesRows r text x y) (sym e) (subst (λ (r : Status). PrintsText text r x y) e prints)

  never_full : (o : Option (List ℕ)) → (result ≡ status.Ok) ⊎ (result ≡ status.SinkFault) → IfSome o (λ bytes. (line : ℕ) → result ≡ status.Full line → FillsShard cells columns bytes line)
  never_full None cases = tt
  never_full (Some bytes) (inl e) = λ line also. let both = sym e ∙ also in cc
  never_full (Some bytes) (inr e) = λ line also. let both = sym e ∙ also in cc

  -- the rows are printed
  pub rows_listed : (result ≡ status.Ok) ⊎ (result ≡ status.SinkFault) → ListEnds columns cells earlier later result
  rows_listed cases = record {
    possible = by_cases IsOfList tt (λ e. tt) cases;
    faults = by_cases (FaultRose earlier later) tt fault cases;
    decided = if_so left (λ bytes. GivesOrFault (Ok text) (listing columns bytes)) (λ bytes. IsListed result (listing columns bytes))
        (λ bytes is. by_cases (λ r. IsListed r (listing columns bytes)) (text, is) (λ e. (text, is)) cases) told;
    full = never_full left cases;
    complete = if_so left (λ bytes. GivesOrFault (Ok text) (listing columns bytes)) (λ bytes. ¬ (Rose source source') → ¬ (Rose sink sink') → FitsShard cells columns bytes → IsOrNoMemory (ended (listing columns bytes)) result)
        (λ bytes is quiet still fits. subst (λ (r : Result (List ℕ) Status). IsOrNoMemory (ended r) result) (sym is) (by_cases (IsOrNoMemory status.Ok) refl (λ e. absurd (still (fault e))) cases)) told;
    rows = if_so left (λ bytes. GivesOrFault (Ok text) (listing columns bytes)) (λ bytes. (t : List ℕ) → listing columns bytes ≡ Ok t → WhereTold a b (WritesRows result t))
        (λ bytes is t also. let same : ◌≡◌ {A = Result (List ℕ) Status} (Ok text) (Ok t) = sym is ∙ also in let one : text ≡ t = cc in
        told_so a b (PrintsText text result) (WritesRows result t) (λ x y prints. subst (λ (s : List ℕ). WritesRows result s x y) one (written_by cases x y prints)) pushed) told;
    refusal = told_so a b (PrintsText text result) (SaysRefusal result sink sink') (λ x y prints. by_cases (λ r. SaysRefusal r sink sink' x y) tt (λ e. tt) cases) pushed;
    store = (refl, refl, refl);
  }

-- ---- where the shard is full

module _ (columns : Columns) (cells : ℕ) (left : Option (List ℕ)) (script : Script) (line : ℕ) (takes : IfSome left (λ bytes. TakesScript (Ok script) (script_of columns 1 bytes))) where
  pub full_told : IfSome left (λ bytes. GivesOrFault (Err (status.Full line)) (listing columns bytes))
  full_told = if_so left _ _ (λ bytes is. (rows_text columns (rows_of (puts_of script.batches)), ap (listing_of columns) is)) takes

  pub full_fills : IsFullAt cells [] [] (puts_of script.batches) 0 line
      → IfSome left (λ bytes. (other : ℕ) → ◌≡◌ {A = Result (List ℕ) Status} (Err (status.Full line)) (Err (status.Full other)) → FillsShard cells columns bytes other)
  full_fills full = if_so left _ _ (λ bytes is other e. let same : line ≡ other = cc in (script, is, subst (IsFullAt cells [] [] (puts_of script.batches) 0) same full)) takes

  pub full_never : (HasRoom cells [] (puts_of script.batches) → ⊥)
      → IfSome left (λ bytes. FitsShard cells columns bytes → (other : ℕ) → ◌≡◌ {A = Result (List ℕ) Status} (Err (status.Full line)) (Err (status.Full other)) → ⊥)
  full_never never = if_so left _ _ (λ bytes is fits other e. never (fits script is)) takes
