-- Values read from the front of bytes, with the first number marked that passes its type: whole texts are read by it, and parts of lines may be.
use Rattle.std.specs.Prelude.{ℕ, ◌^◌, nat_le, nat_lt, Bool, true, false, length, ℤ, pos, neg_ℤ, Option, Some, None, if◌then◌else◌}
use Rattle.grammar.specs.Exact.{Read}
use Rattle.grammar.specs.Reading.{then_read, map_read, mapped, ends, sign_at}
use Rattle.key_types.specs.Kinds.{Kind, tiny, small, int, big, text, blob, boolean, tuple, reversed, Kinds, end, more, Val, number, bytes, truth, values, Vals, none, and}
use Rattle.key_text.specs.Reading.{number_at, quoted_text_at, blob_at, truth_at, closed_read, no_close}

-- the numbers of a type are from the negative of this on and below it
abbrev pub bound : Kind → ℕ
bound tiny = 2 ^ 7
bound small = 2 ^ 15
bound int = 2 ^ 31
bound big = 2 ^ 63
bound _ = 0

-- the number, where it is within the bound
abbrev pub kept : ℕ → Bool → ℕ → Option ℤ
kept most true n = if nat_le n most then Some (neg_ℤ (pos n)) else None
kept most false n = if nat_lt n most then Some (pos n) else None

-- a value, and how many bytes are left where its first number begins that passes its type
abbrev pub Marked : Type 0 → Type 0
Marked A = A × Option ℕ

-- the first mark stays
abbrev pub first_mark : Option ℕ → ℕ → Option ℕ
first_mark None left = Some left
first_mark (Some x) left = Some x

-- the number, or 0 with the place marked where it isn't within the bound
abbrev pub marked_number : Option ℕ → ℕ → Option ℤ → Marked Val
marked_number mark left (Some z) = (number z, mark)
marked_number mark left None = (number (pos 0), first_mark mark left)

-- a number of a type whose numbers are within the bound
abbrev pub marked_number_at : ℕ → Option ℕ → Read (Marked Val)
marked_number_at most mark bs = mapped (λ x. marked_number mark (length bs) (kept most x.0 x.1)) (closed_read number_at bs)

abbrev mutual
  pub marked_at : Kind → Option ℕ → Read (Marked Val)
  marked_at tiny mark = marked_number_at (2 ^ 7) mark
  marked_at small mark = marked_number_at (2 ^ 15) mark
  marked_at int mark = marked_number_at (2 ^ 31) mark
  marked_at big mark = marked_number_at (2 ^ 63) mark
  marked_at text mark = map_read (λ b. (bytes b, mark)) (closed_read quoted_text_at)
  marked_at blob mark = map_read (λ b. (bytes b, mark)) (closed_read blob_at)
  marked_at boolean mark = map_read (λ b. (truth b, mark)) truth_at
  marked_at (tuple ts) mark =
      then_read (sign_at 40) (λ _. then_read (marked_all ts mark) (λ x. map_read (λ _. (values x.0, x.1)) (sign_at 41)))
  marked_at (reversed t) mark = marked_at t mark

  -- components with a comma between each two
  pub marked_all : Kinds → Option ℕ → Read (Marked Vals)
  marked_all end mark = ends no_close (none, mark)
  marked_all (more t ts) mark = then_read (marked_at t mark) (λ x. map_read (λ y. (and x.0 y.0, y.1)) (marked_rest ts x.1))

  -- components with a comma before each
  pub marked_rest : Kinds → Option ℕ → Read (Marked Vals)
  marked_rest end mark = ends no_close (none, mark)
  marked_rest (more t ts) mark =
      then_read (sign_at 44) (λ _. then_read (marked_at t mark) (λ x. map_read (λ y. (and x.0 y.0, y.1)) (marked_rest ts x.1)))

-- a list of components in parentheses
abbrev pub marked_list : Kinds → Option ℕ → Read (Marked Vals)
marked_list ts mark = then_read (sign_at 40) (λ _. then_read (marked_all ts mark) (λ x. map_read (λ _. x) (sign_at 41)))
