-- Layouts, written out.
use Rattle.std.specs.Prelude.{◌≡◌, ℕ, List, [], ◌∷◌}
use Rattle.page_packer.specs.Tree.{TrieEntry, tree_of}
use Rattle.page_packer.specs.Layout.{lay, Laid}

abbrev pub entry : List ℕ → List ℕ → TrieEntry
entry k p = record { key = k; payload = p }

abbrev pub one : Laid
one = record { bytes = 0x01 ∷ 0xFF ∷ 0x12 ∷ 0x40 ∷ []; root = 2 }

abbrev pub forty : Laid
forty = record {
  bytes = 0x02 ∷ 0x43 ∷ 0x2B ∷ 0x02 ∷ 0x86 ∷ 0x4E ∷ 0x50 ∷ 0x02 ∷ 0x11 ∷ 0x22 ∷ 0x06 ∷ 0x03 ∷ 0x16 ∷ 0x00 ∷ 0x12 ∷ 0x00 ∷ 0x12 ∷ 0x80 ∷ 0x12 ∷ 0x40 ∷ [];
  root = 18;
}

abbrev pub three : Laid
three = record { bytes = 0x02 ∷ 0x80 ∷ 0x1A ∷ 0x22 ∷ 0x63 ∷ 0x03 ∷ 0x40 ∷ 0x11 ∷ 0x15 ∷ 0x62 ∷ 0x12 ∷ 0x40 ∷ []; root = 10 }

pub record AreLayoutVectors : Type 0 where
  pub one_put : lay (tree_of (entry (0x40 ∷ []) (0xFF ∷ []) ∷ [])) 0 ≡ one
  pub forty_rows : lay (tree_of (entry (0x40 ∷ 0x80 ∷ 0 ∷ 0 ∷ 0x11 ∷ []) (0x43 ∷ 0x2B ∷ []) ∷ entry (0x40 ∷ 0x80 ∷ 0 ∷ 0 ∷ 0x22 ∷ []) (0x86 ∷ 0x4E ∷ []) ∷ [])) 0 ≡ forty
  pub three_blocks : lay (tree_of (entry (0x40 ∷ 0x62 ∷ []) (0x40 ∷ 0x11 ∷ []) ∷ entry (0x40 ∷ 0x62 ∷ 0x63 ∷ []) (0x80 ∷ 0x1A ∷ []) ∷ [])) 0 ≡ three
