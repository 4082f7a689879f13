use Rattle.std.proofs.Common.{◌≡◌, ◌≤◌, ◌^◌}
use Rattle.page_packer.specs.Tree.{last_key, key_bytes}
use Rattle.page_packer.specs.Packing.{Packing}
use Rattle.page_packer.specs.Packs.{Packs}
use Rattle.pages_bench.proofs.pack.Given as goal

abbrev pub invariant-loop-i : goal.invariant-loop-i
invariant-loop-i l = record {
  packing : Packing;
  packs : Packs l.packer packing;
  last : l.last ≡ last_key packing.entries;
  total : l.total ≡ key_bytes packing.entries;
  small : l.total ≤ 2 ^ 30;
}
