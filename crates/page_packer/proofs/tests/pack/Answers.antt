use Rattle.std.proofs.Common.{rules, ◌≡◌, ◌+◌, ◌≤◌, ◌^◌, ℕ, List, [], length, sym, ◌∙◌, ap, arith}
use Rattle.bti_nodes.specs.Spelling.{bytes_in}
use Rattle.page_packer.specs.Tree.{TrieEntry}
use Rattle.page_packer.specs.Packing.{with_entry}
use Rattle.page_packer.proofs.Entries.{last_of_more, bytes_of_more}
use Rattle.page_packer.proofs.tests.pack.Goals as goal

pub loop-i-preserved : goal.loop-i-preserved
loop-i-preserved c =
    let before = c.loop-i.invariant in
    let p = before.packing in
    let key = c.as_slice.result.now in
    let v = bytes_in c.payload_of.result in
    let entry : TrieEntry = record { key = key; payload = v } in
    let size : c.len-length.result ≡ length key = c.len-length.ensures ∙ ap (λ (x : List ℕ). length x) (sym c.as_slice.ensures) in
    let total : c.loop-i.total + c.len-length.result ≤ 2 ^ 30 = search rules in
    record {
      packing = with_entry p key v;
      packs = c.in_ok-add.ensures.added.packs p before.packs;
      last = sym c.as_slice.ensures ∙ sym (last_of_more [] p.entries entry);
      total = omega (arith, before.total, size, bytes_of_more p.entries entry);
      small = total;
    }
