-- The parts of a line, read one after another while their strings are spelled.
use Rattle.std.proofs.Common.{◌≡◌, ◌+◌, ℕ, Bool, true, List, [], ◌++◌, length, Option, Some, None, Ok, refl, sym, ◌∙◌, ap, append_assoc, length-append}
use Rattle.std.specs.Prelude.{codes}
use Rattle.std.proofs.lemmas.List.{append-nil}
use Rattle.grammar.specs.Exact.{Read}
use Rattle.grammar.specs.Reading.{token}
use Rattle.key_types.specs.declared.schema.ValueType.{ValueType}
use Rattle.key_types.specs.Kinds.{Vals}
use Rattle.key_types.specs.Columns.{Columns}
use Rattle.key_text.specs.Marking.{Marked, marked_list}
use Rattle.script_text.specs.Reading.{RestText, row_rest_at, static_at, rest_by, verb_at}

-- ---- what is read

module _ {A : Type 0} (s : Columns) (tail : ValueType → Option ℕ → Read (Marked A)) where
  pub row_read : (mark middle now : Option ℕ) (bs inside rest : List ℕ) (vs : Vals) (v : A) → marked_list s.clustering mark bs ≡ Ok ((vs, middle), inside) → tail s.value middle inside ≡ Ok ((v, now), rest)
      → row_rest_at s tail mark bs ≡ Ok (((Some vs, v), now), rest)
  row_read mark middle now bs inside rest vs v list set = rw (list, set) refl

  pub static_read : (t : ValueType) (mark now : Option ℕ) (bs inside rest : List ℕ) (spaced : Bool) (v : A) → token true (codes "static") bs ≡ Ok (spaced, inside) → tail t mark inside ≡ Ok ((v, now), rest)
      → static_at s tail t mark bs ≡ Ok (((None, v), now), rest)
  static_read t mark now bs inside rest spaced v word set = rw (word, set) refl

  pub verb_read : (verb : List ℕ) (mark middle now : Option ℕ) (bs inside behind rest : List ℕ) (spaced : Bool) (vs : Vals) (r : RestText A) → token true verb bs ≡ Ok (spaced, inside)
      → marked_list s.partition mark inside ≡ Ok ((vs, middle), behind) → rest_by s tail s.static_value middle behind ≡ Ok ((r, now), rest) → verb_at s tail verb mark bs ≡ Ok (((vs, r), now), rest)
  verb_read verb mark middle now bs inside behind rest spaced vs r word list set = rw (word, list, set) refl

-- ---- what is spelled

-- one string behind another
pub behind_both : (before first second middle after : List ℕ) → after ≡ middle ++ second → middle ≡ before ++ first → after ≡ before ++ (first ++ second)
behind_both before first second middle after e f = e ∙ ap (λ l. l ++ second) f ∙ append_assoc before first second

-- where the first ends
pub end_behind : (before first middle : List ℕ) (n : ℕ) → n ≡ length middle → middle ≡ before ++ first → n ≡ length before + length first
end_behind before first middle n e f = e ∙ ap length f ∙ length-append before first

pub behind_nothing : (before first second middle after : List ℕ) → after ≡ middle ++ second → middle ≡ before ++ first → after ≡ before ++ (first ++ (second ++ []))
behind_nothing before first second middle after e f = behind_both before first second middle after e f ∙ ap (λ l. before ++ (first ++ l)) (sym (append-nil second))

pub end_of_both : (before first second middle after : List ℕ) (n : ℕ) → n ≡ length after → after ≡ middle ++ second → middle ≡ before ++ first → n ≡ (length before + length first) + length second
end_of_both before first second middle after n e f g = end_behind middle second after n e f ∙ ap (λ k. k + length second) (ap length g ∙ length-append before first)
