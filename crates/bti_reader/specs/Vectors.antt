-- Searches in the trie of a worked row.
use Rattle.std.specs.Prelude.{◌≡◌, ℕ, List, [], ◌∷◌, Some, None, Ok, Err}
use Rattle.bti_nodes.specs.declared.damage.Cause.TheVariants.{PastPage, BadOrder}
use Rattle.bti_nodes.specs.Trie.{Path, paths}
use Rattle.bti_reader.specs.Searches.{Answer, exact_in, floor_in, before_in, ceiling_in, after_in}

abbrev pub forty_rows : List ℕ
forty_rows =
    0x02 ∷ 0x43 ∷ 0x2B ∷ 0x02 ∷ 0x86 ∷ 0x4E ∷ 0x50 ∷ 0x02 ∷ 0x11 ∷ 0x22 ∷
    0x06 ∷ 0x03 ∷ 0x16 ∷ 0x00 ∷ 0x12 ∷ 0x00 ∷ 0x12 ∷ 0x80 ∷ 0x12 ∷ 0x40 ∷ []

-- the clustering string of a small number
abbrev pub small_row : ℕ → List ℕ
small_row n = 0x40 ∷ 0x80 ∷ 0 ∷ 0 ∷ n ∷ 0x38 ∷ []

abbrev pub path_low : List ℕ
path_low = 0x40 ∷ 0x80 ∷ 0 ∷ 0 ∷ 0x11 ∷ []

abbrev pub low : Path
low = record { path = path_low; node = 0; payload = 0x43 ∷ 0x2B ∷ [] }

abbrev pub high : Path
high = record { path = 0x40 ∷ 0x80 ∷ 0 ∷ 0 ∷ 0x22 ∷ []; node = 3; payload = 0x86 ∷ 0x4E ∷ [] }

abbrev pub found : Path → Answer
found p = Ok (Some p)

abbrev pub damaged : List ℕ
damaged = 0x01 ∷ 0xFF ∷ 0x50 ∷ 0x00 ∷ []

pub record AreSearchVectors : Type 0 where
  pub exact_17 : exact_in forty_rows 18 (small_row 17) ≡ found low
  pub exact_16 : exact_in forty_rows 18 (small_row 16) ≡ Ok None
  pub floor_16 : floor_in forty_rows 18 (small_row 16) ≡ Ok None
  pub floor_33 : floor_in forty_rows 18 (small_row 33) ≡ found low
  pub floor_39 : floor_in forty_rows 18 (small_row 39) ≡ found high
  pub floor_low : floor_in forty_rows 18 path_low ≡ found low
  pub before_low : before_in forty_rows 18 path_low ≡ Ok None
  pub before_39 : before_in forty_rows 18 (small_row 39) ≡ found high
  pub ceiling_0 : ceiling_in forty_rows 18 (small_row 0) ≡ found low
  pub ceiling_18 : ceiling_in forty_rows 18 (small_row 18) ≡ found high
  pub ceiling_39 : ceiling_in forty_rows 18 (small_row 39) ≡ Ok None
  pub ceiling_low : ceiling_in forty_rows 18 path_low ≡ found low
  pub after_low : after_in forty_rows 18 path_low ≡ found high
  pub all : paths forty_rows 18 ≡ Ok (low ∷ high ∷ [])
  pub bad_order : exact_in damaged 2 (0x40 ∷ []) ≡ Err (record { position = 2; cause = BadOrder })
  pub past_end : exact_in damaged 4 (0x40 ∷ []) ≡ Err (record { position = 4; cause = PastPage })
