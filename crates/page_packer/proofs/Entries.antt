-- One entry more, and how many bytes the keys have then.
use Rattle.std.proofs.Common.{◌≡◌, ℕ, ◌+◌, ◌<◌, List, [], ◌∷◌, ◌++◌, length, refl, arith}
use Rattle.page_packer.specs.Tree.{TrieEntry, key_after, key_bytes}

pub last_of_more : (last : List ℕ) (es : List TrieEntry) (e : TrieEntry) → key_after last (es ++ e ∷ []) ≡ e.key
last_of_more last [] e = refl
last_of_more last (f ∷ es) e = last_of_more f.key es e

pub bytes_of_more : (es : List TrieEntry) (e : TrieEntry) → key_bytes (es ++ e ∷ []) ≡ key_bytes es + length e.key
bytes_of_more [] e = omega arith
bytes_of_more (f ∷ es) e = let rest = bytes_of_more es e in omega (arith, rest)

-- keys of some bytes are some keys
pub some_entries : (es : List TrieEntry) → 0 < key_bytes es → 0 < length es
some_entries [] h = absurd (omega arith)
some_entries (e ∷ es) h = omega arith
