-- What is left of a tree while more keys may come: what a streaming packer holds.
use Rattle.std.specs.Prelude.{◌≡◌, ◌≤◌, ◌^◌, ℕ, ◌+◌, ◌==◌, List, [], ◌∷◌, ◌++◌, length, if◌then◌else◌}
use Rattle.outside.specs.declared.store.FileId.{FileId}
use Rattle.page_packer.specs.declared.work.Stood.{Stood}
use Rattle.page_packer.specs.Tree.{Tree, Branches, tree, end, branch, TrieEntry, AreEntries, key_bytes, last_key, tree_of, path, with_key}
use Rattle.page_packer.specs.Layout.{Laid, LaidUnder, lay, light, closed_in_page}
use Rattle.page_packer.specs.Early.{early}

-- A subtree of which nothing was appended; a heavy node whose children stand, and one whose last child is left.
pub data Edge : Type 0 where
  whole : Tree → Edge
  bare : List ℕ → List Stood → Edge
  above : List ℕ → List Stood → ℕ → Edge → Edge

-- the children that stand, with one more
abbrev pub and_stood : List Stood → ℕ → ℕ → List Stood
and_stood done b position = done ++ record { byte = b; position = position } ∷ []

-- what is left of a tree from position p on
abbrev mutual
  pub left : Tree → ℕ → Edge
  left (tree q bs) p = if light (tree q bs) then whole (tree q bs) else left_under q [] bs p

  pub left_under : List ℕ → List Stood → Branches → ℕ → Edge
  left_under q done end p = bare q done
  left_under q done (branch b t end) p = above q done b (left t p)
  left_under q done (branch b t (branch c u bs)) p = let first = lay t p in left_under q (and_stood done b first.root) (branch c u bs) (p + length first.bytes)

abbrev pub under_of : List ℕ → List Stood → LaidUnder
under_of bytes children = record { bytes = bytes; children = children }

-- what closes it, from position p on
abbrev pub closes : Edge → ℕ → Laid
closes (whole t) p = lay t p
closes (bare q done) p = closed_in_page q (under_of [] done) p
closes (above q done b edge) p =
    let last = closes edge p in
    closed_in_page q (under_of last.bytes (and_stood done b last.root)) (p + length last.bytes)

-- bytes before a layout
abbrev pub after : List ℕ → Laid → Laid
after front laid = record { bytes = front ++ laid.bytes; root = laid.root }

-- The layout of a tree is what was appended early, and then what closes the rest.
abbrev pub EdgeCloses : Type 0
EdgeCloses = (t : Tree) (p : ℕ) → lay t p ≡ after (early t p) (closes (left t p) (p + length (early t p)))

-- what is appended for one key more, and what is left then
pub record Grown : Type 0 where
  pub bytes : List ℕ
  pub edge : Edge

abbrev pub put_onto : List ℕ → List Stood → ℕ → Grown → Grown
put_onto q done b g = record { bytes = g.bytes; edge = above q done b g.edge }

abbrev pub begun : Tree → ℕ → Grown
begun t p = record { bytes = early t p; edge = left t p }

abbrev pub beside_last : Laid → Grown → Grown
beside_last laid g = record { bytes = laid.bytes ++ g.bytes; edge = g.edge }

-- One key more: in the last child as far as its byte is the same; else the last child is closed, and a path begins.
abbrev pub with_more : Edge → List ℕ → List ℕ → ℕ → Grown
with_more (whole t) key v p = begun (with_key t key v) p
with_more (bare q done) [] v p = record { bytes = []; edge = bare v done }
with_more (bare q done) (b ∷ rest) v p = put_onto q done b (begun (path rest v) p)
with_more (above q done c edge) [] v p = record { bytes = []; edge = above v done c edge }
with_more (above q done c edge) (b ∷ rest) v p =
    if c == b then put_onto q done c (with_more edge rest v p)
    else (let last = closes edge p in beside_last last (put_onto q (and_stood done c last.root) b (begun (path rest v) (p + length last.bytes))))

-- what is left of ascending keys, and how much was appended
pub record Frontier : Type 0 where
  pub file : FileId
  pub start : ℕ
  pub end_ : ℕ
  pub bytes : ℕ
  pub last : List ℕ
  pub edge : Edge

-- The packer got these entries: a relation, since the packer holds no more than what is left of them.
pub record Reached (p : Frontier) (es : List TrieEntry) : Type 0 where
  pub entries : AreEntries es
  pub few : key_bytes es ≤ 2 ^ 30
  pub edge : p.edge ≡ left (tree_of es) p.start
  pub end_ : p.end_ ≡ p.start + length (early (tree_of es) p.start)
  pub bytes : p.bytes ≡ key_bytes es
  pub last : p.last ≡ last_key es

abbrev pub with_one : List TrieEntry → List ℕ → List ℕ → List TrieEntry
with_one es key v = es ++ record { key = key; payload = v } ∷ []

-- a packer with one key more, on what it holds alone
abbrev pub more_of : Frontier → List ℕ → List ℕ → Grown
more_of p key v = with_more p.edge key v p.end_

abbrev pub frontier_with : Frontier → List ℕ → List ℕ → Frontier
frontier_with p key v = let g = more_of p key v in record p { end_ = p.end_ + length g.bytes; bytes = p.bytes + length key; last = key; edge = g.edge }
