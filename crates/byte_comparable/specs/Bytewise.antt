-- How the code writes a text or a blob, byte by byte: only private contracts cite it. It comes to the whole runs of `escaped`.
use Rattle.std.specs.Prelude.{ℕ, Bool, true, false, List, [], ◌∷◌, ◌++◌, if◌then◌else◌, ◌==◌}

-- one byte, behind a zero or not
abbrev pub piece : Bool → ℕ → List ℕ
piece false b = b ∷ []
piece true b = if b == 0 then 0xFE ∷ [] else 0xFF ∷ b ∷ []

-- the byte at the end
abbrev pub last_byte : Bool → ℕ
last_byte false = 0
last_byte true = 0xFE

-- all bytes
abbrev pub bytewise : Bool → List ℕ → List ℕ
bytewise behind [] = last_byte behind ∷ []
bytewise behind (b ∷ bs) = piece behind b ++ bytewise (b == 0) bs
