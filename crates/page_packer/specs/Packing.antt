-- What contracts see of a packer: the entries that it got, and what it appends for them.
use Rattle.std.specs.Prelude.{◌≡◌, ◌∷◌, [], ◌++◌, ℕ, List, Option, Result, length, drop}
use Rattle.outside.specs.Files.{Files, Appends}
use Rattle.outside.specs.declared.store.FileId.{FileId}
use Rattle.page_packer.specs.Tree.{TrieEntry, AreEntries, tree_of}
use Rattle.page_packer.specs.Layout.{Laid, lay}
use Rattle.page_packer.specs.Early.{early_of, early_more}

-- a packing: its file, the position at which its bytes begin, and the entries that were added
pub record Packing : Type 0 where
  pub file : FileId
  pub start : ℕ
  pub entries : List TrieEntry

-- a packing without entries
abbrev pub nothing_packed : FileId → ℕ → Packing
nothing_packed file start = record { file = file; start = start; entries = [] }

-- a packing with one entry more
abbrev pub with_entry : Packing → List ℕ → List ℕ → Packing
with_entry p key payload = record p { entries = p.entries ++ record { key = key; payload = payload } ∷ [] }

-- the layout of a packing's entries
abbrev pub laid : Packing → Laid
laid p = lay (tree_of p.entries) p.start

-- what is appended while more keys may come
abbrev pub early_bytes : Packing → List ℕ
early_bytes p = early_of p.entries p.start

-- what is appended for one entry more, behind what was appended early
abbrev pub packing_bytes_for : Packing → List ℕ → List ℕ → List ℕ
packing_bytes_for p key payload = early_more p.entries (record { key = key; payload = payload } ∷ []) p.start

-- Where there are bytes they are appended, and where there are none no call is made.
abbrev pub AppendsSome : {T E : Type 0} → Option Files → Option Files → FileId → Result T E → List ℕ → Type 0
AppendsSome before after file result [] = after ≡ before
AppendsSome before after file result (b ∷ bytes) = Appends before after file result (b ∷ bytes)

-- what is appended in the end, behind what was appended early
abbrev pub last_bytes : Packing → List ℕ
last_bytes p = drop (length (early_bytes p)) (laid p).bytes

-- What was appended early and what is appended in the end are together the layout.
abbrev pub PackingEnds : Type 0
PackingEnds = (p : Packing) → AreEntries p.entries → (laid p).bytes ≡ early_bytes p ++ last_bytes p
