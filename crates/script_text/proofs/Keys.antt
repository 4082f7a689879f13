-- Lines of a word and a key are read exactly, whatever stands behind the key, and their first number is marked that passes its type.
use Rattle.std.proofs.Common.{◌≡◌, ℕ, ◌+◌, Bool, true, false, List, [], ◌∷◌, ◌++◌, length, Option, Some, None, refl, sym, ◌∙◌, ap, subst, append_assoc, inl, inr}
use Rattle.std.specs.Prelude.{⊤, ◌⊎◌, codes, replicate}
use Rattle.std.proofs.lemmas.List.{append-nil}
use Rattle.grammar.specs.Exact.{Read, Exact, Viable, NextIs}
use Rattle.grammar.specs.Reading.{by_first, Either, token, IsToken, AfterGap, NoSpace}
use Rattle.grammar.proofs.Octets.{are_bytes, bytes_both}
use Rattle.key_types.specs.Kinds.{AreBytes}
use Rattle.grammar.proofs.Tokens.{token_exact, token_heads}
use Rattle.grammar.proofs.First.{first_exact}
use Rattle.grammar.proofs.Signs.{Heads, heads_begin, HasText}
use Rattle.key_types.specs.declared.schema.ValueType.{ValueType}
use Rattle.key_types.specs.Kinds.{Vals}
use Rattle.key_text.specs.Grammar.{IsList}
use Rattle.key_text.specs.Outside.{AllNumbersFit, ListPasses}
use Rattle.key_text.specs.Marking.{Marked, marked_list}
use Rattle.key_text.proofs.Plain.{list_at}
use Rattle.key_text.proofs.Composed.{exact_as}
use Rattle.key_text.proofs.Lists.{list_exact, list_heads, list_some}
use Rattle.key_text.proofs.Tracked.{Tracks, list_tracked}
use Rattle.key_types.specs.Columns.{Columns}
use Rattle.script_text.specs.Grammar.{IsSpacedWord}
use Rattle.script_text.specs.Reading.{RestText, KeyedText, unmarked, row_rest_at, static_at, is_open, rest_by, keyed_at, verb_at}
use Rattle.script_text.proofs.Paired.{both, Both, both_exact, Never, unmarked_tracked, first_tracked, paired_tracked}

-- the numbers of a row fit
abbrev pub RowNumbers : Columns → Option Vals → Type 0
RowNumbers s (Some cs) = AllNumbersFit s.clustering cs
RowNumbers s None = Unit {0}

module _ {A : Type 0} (s : Columns) (tail : ValueType → Option ℕ → Read (Marked A)) (plain : ValueType → Read A) (Tail : ValueType → A → List ℕ → Type 0) (after : ℕ → Type 0)
    (exact : (t : ValueType) → Exact (plain t) (Tail t) (λ _. after)) (tracked : (t : ValueType) → Tracks (Tail t) Never (λ _. ⊤) (tail t) (plain t)) (some : (t : ValueType) → HasText (Tail t))
    (begins : (t : ValueType) (spaced : Bool) (v : A) (bs rest : List ℕ) → Tail t v bs → NextIs after rest → NextIs (AfterGap true spaced) (bs ++ rest)) where
  -- ---- behind the components of a partition

  abbrev pub RestBy : Option Vals → A → List ℕ → Type 0
  RestBy (Some cs) v bs = (list : List ℕ) × (behind : List ℕ) × IsList s.clustering cs list × Tail s.value v behind × (bs ≡ list ++ behind)
  RestBy None v bs = (t : ValueType) × (word : List ℕ) × (behind : List ℕ) × (s.static_value ≡ Some t) × IsSpacedWord (codes "static") word × Tail t v behind × (bs ≡ word ++ behind)

  abbrev RestIs : RestText A → List ℕ → Type 0
  RestIs r bs = RestBy r.0 r.1 bs

  abbrev pub RowPasses : List ℕ → ℕ → Type 0
  RowPasses bs at = (list : List ℕ) × (behind : List ℕ) × (v : A) × (bs ≡ list ++ behind) × ListPasses s.clustering list at × Tail s.value v behind

  abbrev RestNumbers : RestText A → Type 0
  RestNumbers r = RowNumbers s r.0

  abbrev row_of : Vals → A → RestText A
  row_of cs v = (Some cs, v)

  abbrev static_of : Bool → A → RestText A
  static_of _ v = (None, v)

  abbrev plain_row : Read (RestText A)
  plain_row = both row_of (list_at s.clustering) (plain s.value)

  abbrev IsRowSet : RestText A → List ℕ → Type 0
  IsRowSet = Both row_of (IsList s.clustering) (Tail s.value)

  row_exact : Exact plain_row IsRowSet (λ _. after)
  row_exact = both_exact row_of (list_at s.clustering) (plain s.value) (IsList s.clustering) (Tail s.value) (λ _. NoSpace) after (list_exact s.clustering) (exact s.value) (some s.value)
      (λ cs v bs rest is h. begins s.value true v bs rest is h)

  row_tracked : Tracks RestIs RowPasses RestNumbers (row_rest_at s tail) plain_row
  row_tracked = paired_tracked row_of (marked_list s.clustering) (tail s.value) (list_at s.clustering) (plain s.value) (IsList s.clustering) (Tail s.value) RestIs (ListPasses s.clustering) Never RowPasses
      (AllNumbersFit s.clustering) (λ _. ⊤) RestNumbers (list_tracked s.clustering) (tracked s.value)
      (λ cs v front behind list set. (front, behind, list, set, refl)) (λ cs v h k. h) (λ v front behind at h set. (front, behind, v, refl, h, set)) (λ cs front behind at is h k. absurd k)

  abbrev plain_static : ValueType → Read (RestText A)
  plain_static t = both static_of (token true (codes "static")) (plain t)

  abbrev IsStaticSet : ValueType → RestText A → List ℕ → Type 0
  IsStaticSet t = Both static_of (IsToken (codes "static")) (Tail t)

  static_exact : (t : ValueType) → Exact (plain_static t) (IsStaticSet t) (λ _. after)
  static_exact t = both_exact static_of (token true (codes "static")) (plain t) (IsToken (codes "static")) (Tail t) (AfterGap true) after
      (token_exact true (codes "static") (are_bytes (codes "static") refl)) (exact t) (some t) (λ spaced v bs rest is h. begins t spaced v bs rest is h)

  static_tracked : (t : ValueType) → s.static_value ≡ Some t → Tracks RestIs RowPasses RestNumbers (static_at s tail t) (plain_static t)
  static_tracked t fixed = paired_tracked static_of (unmarked (token true (codes "static"))) (tail t) (token true (codes "static")) (plain t) (IsToken (codes "static")) (Tail t) RestIs Never Never RowPasses
      (λ _. ⊤) (λ _. ⊤) RestNumbers
      (unmarked_tracked (token true (codes "static")) (IsToken (codes "static")) (AfterGap true) (token_exact true (codes "static") (are_bytes (codes "static") refl))) (tracked t)
      (λ spaced v front behind word set. (t, front, behind, fixed, (spaced, word), set, refl)) (λ spaced v h k. tt) (λ v front behind at h set. absurd h) (λ spaced front behind at is h k. absurd k)

  -- where there is a static type, or none
  abbrev plain_rest : Option ValueType → Read (RestText A)
  plain_rest None = plain_row
  plain_rest (Some t) = by_first is_open plain_row (plain_static t)

  rest_text : HasText RestIs
  rest_text =
      let h = list_some s.clustering in
      let k = some s.value in
      ((Some h.0, k.0), h.1 ++ k.1, (h.1, k.1, h.2, k.2, refl), bytes_both h.1 k.1 h.3 k.3)

  row_to : (r : RestText A) (bs : List ℕ) → IsRowSet r bs → RestIs r bs
  row_to r bs (cs, list, set, l, (v, is, same), e) = subst (λ (x : RestText A). RestIs x bs) (sym same) (list, set, l, is, e)

  static_to : (t : ValueType) → s.static_value ≡ Some t → (r : RestText A) (bs : List ℕ) → IsStaticSet t r bs → RestIs r bs
  static_to t fixed r bs (spaced, word, set, w, (v, is, same), e) = subst (λ (x : RestText A). RestIs x bs) (sym same) (t, word, set, fixed, (spaced, w), is, e)

  some_same : (t u : ValueType) (o : Option ValueType) → o ≡ Some t → o ≡ Some u → u ≡ t
  some_same t u o e f = cc

  row_from : s.static_value ≡ None → (r : RestText A) (bs : List ℕ) → RestIs r bs → IsRowSet r bs
  row_from fixed (Some cs, v) bs (list, set, l, is, e) = (cs, list, set, l, (v, is, refl), e)
  row_from fixed (None, v) bs (t, word, set, some, w, is, e) = absurd (let no : None ≡ Some t = sym fixed ∙ some in cc)

  rest_to : (t : ValueType) → s.static_value ≡ Some t → (r : RestText A) (bs : List ℕ) → Either IsRowSet (IsStaticSet t) r bs → RestIs r bs
  rest_to t fixed r bs (inl is) = row_to r bs is
  rest_to t fixed r bs (inr is) = static_to t fixed r bs is

  rest_from : (t : ValueType) → s.static_value ≡ Some t → (r : RestText A) (bs : List ℕ) → RestIs r bs → Either IsRowSet (IsStaticSet t) r bs
  rest_from t fixed (Some cs, v) bs (list, set, l, is, e) = inl (cs, list, set, l, (v, is, refl), e)
  rest_from t fixed (None, v) bs (u, word, set, some, (spaced, w), is, e) = inr (spaced, word, set, w, (v, subst (λ (x : ValueType). Tail x v set) (some_same t u s.static_value fixed some) is, refl), e)

  row_set_heads : (r : RestText A) (bs : List ℕ) → IsRowSet r bs → (c : ℕ) × (cs : List ℕ) × (bs ≡ c ∷ cs) × (is_open c ≡ true)
  row_set_heads r bs (cs, list, set, l, rest, e) = (40, (replicate l.3.0 32 ++ (l.1 ++ l.2)) ++ set, e ∙ ap (λ x. x ++ set) (l.6 ∙ ap (λ x. x ++ (l.1 ++ l.2)) l.3.1), refl)

  static_set_heads : (t : ValueType) (r : RestText A) (bs : List ℕ) → IsStaticSet t r bs → (c : ℕ) × (cs : List ℕ) × (bs ≡ c ∷ cs) × (is_open c ≡ false)
  static_set_heads t r bs (spaced, word, set, w, rest, e) = let p = token_heads (codes "static") spaced word w in (115, codes "tatic" ++ (p.0 ++ set), e ∙ ap (λ x. x ++ set) p.1, refl)

  row_some : Viable IsRowSet []
  row_some =
      let h = list_some s.clustering in
      let k = some s.value in
      (h.1 ++ k.1, (Some h.0, k.0), (h.0, h.1, k.1, h.2, (k.0, k.2, refl), refl), bytes_both h.1 k.1 h.3 k.3)

  rest_exact : (o : Option ValueType) → s.static_value ≡ o → Exact (plain_rest o) RestIs (λ _. after)
  rest_exact None fixed = exact_as plain_row IsRowSet RestIs (λ _. after) row_exact row_to (row_from fixed)
  rest_exact (Some t) fixed = exact_as (by_first is_open plain_row (plain_static t)) (Either IsRowSet (IsStaticSet t)) RestIs (λ _. after)
      (first_exact is_open plain_row (plain_static t) IsRowSet (IsStaticSet t) (λ _. after) row_exact (static_exact t) row_set_heads (static_set_heads t)
      row_some)
      (rest_to t fixed) (rest_from t fixed)

  rest_tracked : (o : Option ValueType) → s.static_value ≡ o → Tracks RestIs RowPasses RestNumbers (rest_by s tail o) (plain_rest o)
  rest_tracked None fixed = row_tracked
  rest_tracked (Some t) fixed = first_tracked is_open RestIs RowPasses RestNumbers (row_rest_at s tail) (static_at s tail t) plain_row (plain_static t) row_tracked (static_tracked t fixed)

  rest_heads : (r : RestText A) (bs : List ℕ) → RestIs r bs → (c : ℕ) × (cs : List ℕ) × (bs ≡ c ∷ cs) × NoSpace c
  rest_heads (Some cs, v) bs (list, set, l, is, e) = let p = list_heads s.clustering cs list l in (p.0, p.1 ++ set, e ∙ ap (λ x. x ++ set) p.2, p.3)
  rest_heads (None, v) bs (t, word, set, fixed, w, is, e) = let p = token_heads (codes "static") w.0 word w.1 in (115, codes "tatic" ++ (p.0 ++ set), e ∙ ap (λ x. x ++ set) p.1, refl)

  -- ---- the components of a partition, and what is behind them

  abbrev pub KeyedIs : KeyedText A → List ℕ → Type 0
  KeyedIs x bs = (list : List ℕ) × (rest : List ℕ) × IsList s.partition x.0 list × RestBy x.1.0 x.1.1 rest × (bs ≡ list ++ rest)

  abbrev pub KeyedPasses : List ℕ → ℕ → Type 0
  KeyedPasses bs at =
      (list : List ℕ) × (rest : List ℕ) × (bs ≡ list ++ rest)
      × ((ListPasses s.partition list at × (cs : Option Vals) × (v : A) × RestBy cs v rest)
      ⊎ ((vs : Vals) × (k : ℕ) × IsList s.partition vs list × AllNumbersFit s.partition vs × RowPasses rest k × (at ≡ length list + k)))

  -- all numbers fit
  abbrev pub KeyedNumbers : KeyedText A → Type 0
  KeyedNumbers x = AllNumbersFit s.partition x.0 × RowNumbers s x.1.0

  abbrev keyed : Vals → RestText A → KeyedText A
  keyed vs rest = (vs, rest)

  abbrev plain_keyed : Read (KeyedText A)
  plain_keyed = both keyed (list_at s.partition) (plain_rest s.static_value)

  keyed_to : (x : KeyedText A) (bs : List ℕ) → Both keyed (IsList s.partition) RestIs x bs → KeyedIs x bs
  keyed_to x bs (vs, list, rest, l, (r, is, same), e) = subst (λ (y : KeyedText A). KeyedIs y bs) (sym same) (list, rest, l, is, e)

  keyed_from : (x : KeyedText A) (bs : List ℕ) → KeyedIs x bs → Both keyed (IsList s.partition) RestIs x bs
  keyed_from x bs (list, rest, l, is, e) = (x.0, list, rest, l, (x.1, is, refl), e)

  keyed_exact : Exact plain_keyed KeyedIs (λ _. after)
  keyed_exact = exact_as plain_keyed (Both keyed (IsList s.partition) RestIs) KeyedIs (λ _. after)
      (both_exact keyed (list_at s.partition) (plain_rest s.static_value) (IsList s.partition) RestIs (λ _. NoSpace) after (list_exact s.partition) (rest_exact s.static_value refl) rest_text
      (λ vs r bs rest is h. heads_begin NoSpace RestIs rest_heads r bs rest is)) keyed_to keyed_from

  keyed_tracked : Tracks KeyedIs KeyedPasses KeyedNumbers (keyed_at s tail) plain_keyed
  keyed_tracked = paired_tracked keyed (marked_list s.partition) (rest_by s tail s.static_value) (list_at s.partition) (plain_rest s.static_value) (IsList s.partition) RestIs KeyedIs (ListPasses s.partition) RowPasses KeyedPasses
      (AllNumbersFit s.partition) RestNumbers KeyedNumbers (list_tracked s.partition) (rest_tracked s.static_value refl)
      (λ vs r front behind list rest. (front, behind, list, rest, refl)) (λ vs r h k. (h, k))
      (λ r front behind at h is. (front, behind, refl, inl (h, r.0, r.1, is))) (λ vs front behind at is h k. (front, behind, refl, inr (vs, at, is, h, k, refl)))

  keyed_heads : (Holds : ℕ → Type 0) → Holds 40 → Heads Holds KeyedIs
  keyed_heads Holds h x bs (list, rest, l, is, e) = (40, (replicate l.3.0 32 ++ (l.1 ++ l.2)) ++ rest, e ∙ ap (λ x. x ++ rest) (l.6 ∙ ap (λ x. x ++ (l.1 ++ l.2)) l.3.1), h)

  keyed_text : HasText KeyedIs
  keyed_text =
      let h = list_some s.partition in
      let k = rest_text in
      (keyed h.0 k.0, h.1 ++ k.1, (h.1, k.1, h.2, k.2, refl), bytes_both h.1 k.1 h.3 k.3)

  -- ---- a word before them

  module _ (verb : List ℕ) (octets : AreBytes verb) where
    abbrev pub VerbIs : KeyedText A → List ℕ → Type 0
    VerbIs x bs = (word : List ℕ) × (behind : List ℕ) × IsSpacedWord verb word × KeyedIs x behind × (bs ≡ word ++ behind)

    abbrev pub VerbPasses : List ℕ → ℕ → Type 0
    VerbPasses bs at = (word : List ℕ) × (behind : List ℕ) × (k : ℕ) × IsSpacedWord verb word × KeyedPasses behind k × (bs ≡ word ++ behind) × (at ≡ length word + k)

    abbrev pub plain_verb : Read (KeyedText A)
    plain_verb = both (λ _ x. x) (token true verb) plain_keyed

    verb_to : (x : KeyedText A) (bs : List ℕ) → Both (λ _ y. y) (IsToken verb) KeyedIs x bs → VerbIs x bs
    verb_to x bs (spaced, word, behind, w, (y, is, same), e) = subst (λ (z : KeyedText A). VerbIs z bs) (sym same) (word, behind, (spaced, w), is, e)

    verb_from : (x : KeyedText A) (bs : List ℕ) → VerbIs x bs → Both (λ _ y. y) (IsToken verb) KeyedIs x bs
    verb_from x bs (word, behind, (spaced, w), is, e) = (spaced, word, behind, w, (x, is, refl), e)

    after_word : (spaced : Bool) → AfterGap true spaced 40
    after_word true = refl
    after_word false = (refl, refl)

    pub verb_exact : Exact plain_verb VerbIs (λ _. after)
    verb_exact = exact_as plain_verb (Both (λ _ y. y) (IsToken verb) KeyedIs) VerbIs (λ _. after)
        (both_exact (λ _ y. y) (token true verb) plain_keyed (IsToken verb) KeyedIs (AfterGap true) after (token_exact true verb octets) keyed_exact keyed_text
        (λ spaced x bs rest is h. heads_begin (AfterGap true spaced) KeyedIs (keyed_heads (AfterGap true spaced) (after_word spaced)) x bs rest is)) verb_to verb_from

    pub verb_tracked : Tracks VerbIs VerbPasses KeyedNumbers (verb_at s tail verb) plain_verb
    verb_tracked = paired_tracked (λ _ y. y) (unmarked (token true verb)) (keyed_at s tail) (token true verb) plain_keyed (IsToken verb) KeyedIs VerbIs Never KeyedPasses VerbPasses
        (λ _. ⊤) KeyedNumbers KeyedNumbers (unmarked_tracked (token true verb) (IsToken verb) (AfterGap true) (token_exact true verb octets)) keyed_tracked
        (λ spaced x front behind w is. (front, behind, (spaced, w), is, refl)) (λ spaced x h k. k) (λ x front behind at h is. absurd h)
        (λ spaced front behind at w h k. (front, behind, at, (spaced, w), k, refl, refl))

    pub verb_heads : (x : KeyedText A) (bs : List ℕ) → VerbIs x bs → (more : List ℕ) × (bs ≡ verb ++ more)
    verb_heads x bs (word, behind, (spaced, w), is, e) = let p = token_heads verb spaced word w in (p.0 ++ behind, e ∙ ap (λ l. l ++ behind) p.1 ∙ append_assoc verb p.0 behind)

    pub verb_text : HasText VerbIs
    verb_text =
        let h = keyed_text in
        (h.0, verb ++ h.1, (verb, h.1, (false, (tt, verb, [], refl, refl, sym (append-nil verb))), h.2, refl), bytes_both verb h.1 octets h.3)
