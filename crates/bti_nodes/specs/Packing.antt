-- A row of bits is read as it was written.
use Rattle.std.specs.Prelude.{◌≡◌, ℕ, ◌+◌, ◌*◌, ◌^◌, ◌<◌, List, ◌++◌, length, get_or}
use Rattle.std.specs.List.{AllByRecursion}
use Rattle.bti_nodes.specs.Grammar.{bits_at}
use Rattle.bti_nodes.specs.Spelling.{row_of_bits}

-- at each place of the row, behind some bytes and before others, stands the number of that place
abbrev pub RowReads : ℕ → Type 0
RowReads width =
    (front rest ds : List ℕ) (i : ℕ) → AllByRecursion (λ d. d < 2 ^ width) ds → i < length ds
    → bits_at (front ++ row_of_bits width ds ++ rest) (8 * length front + i * width) width ≡ get_or ds i 0

pub record RowsRead : Type 0 where
  pub eight : RowReads 8
  pub twelve : RowReads 12
  pub sixteen : RowReads 16
  pub twenty_four : RowReads 24
  pub thirty_two : RowReads 32
  pub forty : RowReads 40
