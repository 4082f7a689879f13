-- Nodes and their bytes, written out.
use Rattle.std.specs.Prelude.{◌≡◌, ℕ, List, [], ◌∷◌}
use Rattle.bti_nodes.specs.declared.node.Child.{Child}
use Rattle.bti_nodes.specs.Spelling.{node_bytes}

abbrev pub child : ℕ → ℕ → Child
child b d = record { byte = b; distance = d }

abbrev pub vector_bytes : List ℕ → List Child → List ℕ
vector_bytes payload children = node_bytes (record { payload = payload; children = children })

-- each of the nodes has these bytes
pub record AreVectors : Type 0 where
  pub leaf : vector_bytes (0xFF ∷ []) [] ≡ 0x01 ∷ 0xFF ∷ []
  pub near : vector_bytes [] (child 0x40 2 ∷ []) ≡ 0x12 ∷ 0x40 ∷ []
  pub single : vector_bytes [] (child 0x40 16 ∷ []) ≡ 0x20 ∷ 0x40 ∷ 0x10 ∷ []
  pub short : vector_bytes [] (child 0x40 256 ∷ []) ≡ 0x31 ∷ 0x00 ∷ 0x40 ∷ []
  pub paid : vector_bytes (0x40 ∷ 0x11 ∷ []) (child 0x63 3 ∷ []) ≡ 0x22 ∷ 0x63 ∷ 0x03 ∷ 0x40 ∷ 0x11 ∷ []
  pub far : vector_bytes [] (child 0x40 65536 ∷ []) ≡ 0x80 ∷ 0x01 ∷ 0x40 ∷ 0x01 ∷ 0x00 ∷ 0x00 ∷ []
  pub two : vector_bytes [] (child 0x11 6 ∷ child 0x22 3 ∷ []) ≡ 0x50 ∷ 0x02 ∷ 0x11 ∷ 0x22 ∷ 0x06 ∷ 0x03 ∷ []
  pub wide : vector_bytes [] (child 0x11 256 ∷ child 0x22 3 ∷ []) ≡ 0x60 ∷ 0x02 ∷ 0x11 ∷ 0x22 ∷ 0x10 ∷ 0x00 ∷ 0x03 ∷ []
  pub four : vector_bytes [] (child 0x61 8 ∷ child 0x62 6 ∷ child 0x63 4 ∷ child 0x64 2 ∷ []) ≡ 0xA0 ∷ 0x61 ∷ 0x03 ∷ 0x00 ∷ 0x80 ∷ 0x06 ∷ 0x00 ∷ 0x40 ∷ 0x02 ∷ []
  pub dense : vector_bytes [] (child 0x61 300 ∷ child 0x62 6 ∷ child 0x63 4 ∷ child 0x64 2 ∷ []) ≡ 0xA0 ∷ 0x61 ∷ 0x03 ∷ 0x12 ∷ 0xC0 ∷ 0x06 ∷ 0x00 ∷ 0x40 ∷ 0x02 ∷ []
