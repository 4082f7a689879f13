-- The generation of which `load` writes the files and `scan` reads them.
use Rattle.std.specs.Prelude.{ℕ}

abbrev pub first_generation : ℕ
first_generation = 1
