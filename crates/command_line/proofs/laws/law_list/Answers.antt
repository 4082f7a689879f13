use Rattle.std.proofs.Common.{◌≡◌, ◌==◌, Bool, ℕ, true, false, List, [], ◌∷◌, ◌++◌, codes, refl, Ok, cond}
use Rattle.clap.specs.Words.{Text}
use Rattle.clap.proofs.OnLiterals.{clap_on_literals}
use Rattle.command_line.specs.Reading.{command_of, found_in, is_refused, said_in}
use Rattle.command_line.specs.Laws.{begins_plainly}
use Rattle.command_line.specs.Said.{list}
use Rattle.command_line.proofs.laws.law_list.Goals as goal

list_plain : is_refused (codes "list") ≡ false
unfolding is_refused
list_plain = refl

schema_plain : is_refused (codes "--schema") ≡ false
unfolding is_refused
schema_plain = refl

attached_plain : (v : Text) → is_refused (codes "--schema=" ++ v) ≡ false
unfolding is_refused
attached_plain v = refl

is_plain : (b : ℕ) (bs : List ℕ) → begins_plainly (b ∷ bs) ≡ true → (b == 45) ≡ false
is_plain b bs h = by (b == 45) h
  where
    by : (t : Bool) → cond t false true ≡ true → t ≡ false
    by true e = cc
    by false e = refl

found_apart : (b : ℕ) (bs : List ℕ) → (b == 45) ≡ false
    → said_in (found_in (codes "list" ∷ codes "--schema" ∷ (b ∷ bs) ∷ [])) ≡ Ok (list (b ∷ bs) 262144)
unfolding clap_on_literals found_in
found_apart b bs e = simp e

found_empty : said_in (found_in (codes "list" ∷ codes "--schema" ∷ [] ∷ [])) ≡ Ok (list [] 262144)
unfolding clap_on_literals found_in
found_empty = refl

found_attached : (v : Text) → said_in (found_in (codes "list" ∷ (codes "--schema=" ++ v) ∷ [])) ≡ Ok (list v 262144)
unfolding clap_on_literals found_in
found_attached v = refl

read_apart : (v : Text) → begins_plainly v ≡ true → is_refused v ≡ false
    → command_of (codes "list" ∷ codes "--schema" ∷ v ∷ []) ≡ Ok (list v 262144)
read_apart [] plain refused = rw (list_plain, schema_plain, refused) found_empty
read_apart (b ∷ bs) plain refused = rw (list_plain, schema_plain, refused) (found_apart b bs (is_plain b bs plain))

pub returns-clause-apart : goal.returns-clause-apart
returns-clause-apart c = read_apart

pub returns-clause-attached : goal.returns-clause-attached
returns-clause-attached c = λ v. rw (list_plain, attached_plain v) (found_attached v)
