-- What a packer got: a relation, since it holds no more than what is left of the entries.
use Rattle.std.specs.Prelude.{◌≡◌, ◌≤◌, ◌<◌, ◌+◌, ◌^◌, ℕ, List, [], length, Option, Result, OnOk}
use Rattle.outside.specs.Files.{Files}
use Rattle.page_packer.specs.declared.packer.Packer.{Packer}
use Rattle.page_packer.specs.Tree.{IsBelow, last_key, key_bytes}
use Rattle.page_packer.specs.Edge.{Frontier, Reached, whole}
use Rattle.page_packer.specs.Boxes.{IsWeighed}
use Rattle.page_packer.specs.Levels.{tree_in, edge_over, last_over}
use Rattle.page_packer.specs.Packing.{Packing, AppendsSome, with_entry, packing_bytes_for}

-- what a packer holds
abbrev pub frontier_of : Packer → Frontier
frontier_of s = record {
  file = s.file;
  start = s.start;
  end_ = s.end_;
  bytes = s.bytes;
  last = last_over s.levels.items (tree_in s.held);
  edge = edge_over s.levels.items (whole (tree_in s.held));
}

-- The packer got the entries of this packing, which ascend and whose keys have together at most 2^30 bytes, and appended
-- what is early of them.
pub record Packs (s : Packer) (p : Packing) : Type 0 where
  pub file : s.file ≡ p.file
  pub start : s.start ≡ p.start
  pub reached : Reached (frontier_of s) p.entries
  pub weighed : IsWeighed s.held.children
  pub place : s.start < 2 ^ 60
  pub out : s.work.out ≡ []
  pub stood : s.work.stood.items ≡ []

-- A key may be added: it is above the last one, and all have together at most 2^30 bytes.
pub record Takes (s : Packer) (key : List ℕ) : Type 0 where
  pub packing : Packing
  pub packs : Packs s packing
  pub above : IsBelow (last_key packing.entries) key
  pub few : key_bytes packing.entries + length key ≤ 2 ^ 30

-- at least one key was added
pub record HasEntries (s : Packer) : Type 0 where
  pub packing : Packing
  pub packs : Packs s packing
  pub some : 0 < length packing.entries

-- At Ok the packer got one entry more, whichever packing it was; what is appended for that entry stands behind the file's
-- bytes, and after an error a prefix of it.
pub record AddsEntry (old new : Packer) (before after : Option Files) {T E : Type 0} (result : Result T E) (key payload : List ℕ) : Type 0 where
  pub packs : OnOk result ((p : Packing) → Packs old p → Packs new (with_entry p key payload))
  pub appends : (p : Packing) → Packs old p → AppendsSome before after p.file result (packing_bytes_for p key payload)
