-- Puts, gets and batches as contracts see them. This project's own.
use Rattle.std.specs.Prelude.{ℕ, List}

-- the number of its line, counted from 1, the key strings of its partition and of the row within it, which is empty for the partition's static value, and its value
pub record Put : Type 0 where
  pub line : ℕ
  pub partition : List ℕ
  pub clustering : List ℕ
  pub value : List ℕ

-- the number of its line, counted from 1, the number of the reader that it goes to, counted from 0, and the key strings of its partition and of the row within it, which is empty for the partition's static value
pub record Get : Type 0 where
  pub line : ℕ
  pub reader : ℕ
  pub partition : List ℕ
  pub clustering : List ℕ

-- puts and gets that may be done side by side, each in the order of their lines
pub record Batch : Type 0 where
  pub puts : List Put
  pub gets : List Get
