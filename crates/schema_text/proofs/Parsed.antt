-- What the reading of a whole text says of the grammar.
use Rattle.std.proofs.Common.{◌≡◌, ℕ, ◌+◌, ◌-◌, ◌≤◌, ◌<◌, List, [], ◌∷◌, ◌++◌, length, Result, Ok, Err, refl, sym, ◌∙◌, ap, arith, subst, length-append}
use Rattle.grammar.specs.Exact.{Longest, Viable}
use Rattle.grammar.specs.Reading.{whole, all_of, NoSpace}
use Rattle.grammar.proofs.Map.{whole_found, whole_all, longest}
use Rattle.key_types.specs.Columns.{Columns}
use Rattle.schema_text.specs.Grammar.{IsSchemaText}
use Rattle.schema_text.specs.Answers.{IsNoText}
use Rattle.schema_text.specs.Reading.{columns_at}
use Rattle.schema_text.proofs.Relation.{IsColumns}
use Rattle.schema_text.proofs.Named.{fuel_all}
use Rattle.schema_text.proofs.Texts.{named, unnamed}
use Rattle.schema_text.proofs.Agree.{columns_same}
use Rattle.schema_text.proofs.Wholly.{columns_exact}

-- enough fuel for the columns, and for a text of this many bytes
abbrev enough : Columns → ℕ → ℕ
enough s n = fuel_all s.partition + fuel_all s.clustering + n

abbrev pub Whole : ℕ → List ℕ → Result Columns ℕ
Whole fuel text = whole (columns_at fuel) text

pub found : (fuel : ℕ) (text : List ℕ) (s : Columns) → Whole fuel text ≡ Ok s → IsSchemaText s text
found fuel text s h = named fuel s text (whole_found (columns_at fuel) (IsColumns fuel) (λ _. NoSpace) (columns_exact fuel) text s h)

is_columns : (s : Columns) (text : List ℕ) (n : ℕ) → IsSchemaText s text → IsColumns (enough s n) s text
is_columns s text n is = unnamed (enough s n) s text (omega arith) (omega arith) is

pub all : (fuel : ℕ) (text : List ℕ) (s : Columns) → length text < fuel → IsSchemaText s text → Whole fuel text ≡ Ok s
all fuel text s h is =
    ap all_of (columns_same fuel (enough s fuel) text h (omega arith))
    ∙ whole_all (columns_at (enough s fuel)) (IsColumns (enough s fuel)) (λ _. NoSpace) (columns_exact (enough s fuel)) text s (is_columns s text fuel is)

apart : (s : Columns) (left : ℕ) (got : Result Columns ℕ) → got ≡ Ok s → got ≡ Err left → ⊥
apart s left got e h = cc

pub no_text : (fuel : ℕ) (text : List ℕ) (left : ℕ) → length text < fuel → Whole fuel text ≡ Err left → IsNoText text
no_text fuel text left h e s is = apart s left (Whole fuel text) (all fuel text s h is) e

same_split : (xs ys ps qs : List ℕ) → xs ++ ps ≡ ys ++ qs → length xs ≡ length ys → (xs ≡ ys) × (ps ≡ qs)
same_split [] [] ps qs e h = (refl, e)
same_split [] (y ∷ ys) ps qs e h = absurd (omega arith)
same_split (x ∷ xs) [] ps qs e h = absurd (omega arith)
same_split (x ∷ xs) (y ∷ ys) ps qs e h =
    let head : x ≡ y = cc in
    let tail : xs ++ ps ≡ ys ++ qs = cc in
    let p = same_split xs ys ps qs tail (omega arith) in
    (ap (λ z. z ∷ xs) head ∙ ap (λ l. y ∷ l) p.0, p.1)

module _ (fuel : ℕ) (text : List ℕ) (left : ℕ) (h : length text < fuel) (e : Whole fuel text ≡ Err left) where
  longest_at : (more : ℕ) → length text < more → Longest (IsColumns more) text (length text - left)
  longest_at more k = longest (columns_at more) (IsColumns more) (λ _. NoSpace) (columns_exact more) text left (ap all_of (columns_same more fuel text k h) ∙ e)

  here : Longest (IsColumns fuel) text (length text - left)
  here = longest_at fuel h

  no_further : (b : ℕ) (bs : List ℕ) → here.rest ≡ b ∷ bs → Viable IsSchemaText (here.front ++ b ∷ []) → ⊥
  no_further b bs is v =
      let more = enough v.1 fuel in
      let there = longest_at more (omega arith) in
      let same = same_split there.front here.front there.rest here.rest (sym there.parts ∙ here.parts) (there.count ∙ sym here.count) in
      let columns = is_columns v.1 ((here.front ++ b ∷ []) ++ v.0) fuel v.2 in
      there.no_further b bs (same.1 ∙ is) (v.0, v.1, subst (λ (l : List ℕ). IsColumns more v.1 ((l ++ b ∷ []) ++ v.0)) (sym same.0) columns, v.3)

  pub place : Longest IsSchemaText text (length text - left)
  place = record {
    front = here.front;
    rest = here.rest;
    parts = here.parts;
    count = here.count;
    goes_on = (let v = here.goes_on in (v.0, v.1, named fuel v.1 (here.front ++ v.0) v.2, v.3));
    no_further = no_further;
  }

  pub left_within : left ≤ length text
  left_within = left_by (columns_at fuel text) refl e
    where
      left_by : (got : Result (Columns × List ℕ) ℕ) → columns_at fuel text ≡ got → all_of got ≡ Err left → left ≤ length text
      left_by (Ok (s, [])) g k = cc
      left_by (Ok (s, b ∷ bs)) g k =
          let p = (columns_exact fuel).found text s (b ∷ bs) g in
          let l : length text ≡ length p.0 + length (b ∷ bs) = ap length p.1 ∙ length-append p.0 (b ∷ bs) in
          let n : left ≡ length (b ∷ bs) = cc in
          omega arith
      left_by (Err n) g k =
          let m : n ≡ left = cc in
          let s = (columns_exact fuel).stops text n g in
          let l : length text ≡ length s.front + length s.rest = ap length s.parts ∙ length-append s.front s.rest in
          let c = s.count in
          omega arith
