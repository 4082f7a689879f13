-- Values read from the front of bytes, with numbers of any size.
use Rattle.std.proofs.Common.{◌≡◌, ℕ, ◌==◌, Bool, true, false}
use Rattle.std.specs.Prelude.{ℤ, pos, neg_ℤ}
use Rattle.grammar.specs.Exact.{Read}
use Rattle.grammar.specs.Reading.{then_read, map_read, ends, sign_at}
use Rattle.key_types.specs.Kinds.{Kind, tiny, small, int, big, text, blob, boolean, tuple, reversed, Kinds, end, more, Val, number, bytes, truth, values, Vals, none, and}
use Rattle.key_text.specs.Reading.{number_at, quoted_text_at, blob_at, truth_at, closed_read, no_end, no_close}

abbrev pub signed : Bool × ℕ → ℤ
signed (true, n) = neg_ℤ (pos n)
signed (false, n) = pos n

abbrev pub number_value : Bool × ℕ → Val
number_value x = number (signed x)

abbrev mutual
  pub value_at : Kind → Read Val
  value_at tiny = map_read number_value (closed_read number_at)
  value_at small = map_read number_value (closed_read number_at)
  value_at int = map_read number_value (closed_read number_at)
  value_at big = map_read number_value (closed_read number_at)
  value_at text = map_read bytes (closed_read quoted_text_at)
  value_at blob = map_read bytes (closed_read blob_at)
  value_at boolean = map_read truth truth_at
  value_at (tuple ts) = then_read (sign_at 40) (λ _. then_read (all_at ts) (λ vs. map_read (λ _. values vs) (sign_at 41)))
  value_at (reversed t) = value_at t

  pub all_at : Kinds → Read Vals
  all_at end = ends no_close none
  all_at (more t ts) = then_read (value_at t) (λ v. map_read (and v) (rest_at ts))

  pub rest_at : Kinds → Read Vals
  rest_at end = ends no_close none
  rest_at (more t ts) = then_read (sign_at 44) (λ _. then_read (value_at t) (λ v. map_read (and v) (rest_at ts)))

abbrev pub list_at : Kinds → Read Vals
list_at ts = then_read (sign_at 40) (λ _. then_read (all_at ts) (λ vs. map_read (λ _. vs) (sign_at 41)))

-- what may stand behind a value
abbrev pub Follow : Kind → ℕ → Type 0
Follow (tuple ts) b = (b == 32) ≡ false
Follow (reversed t) b = Follow t b
Follow _ b = no_end b ≡ false
