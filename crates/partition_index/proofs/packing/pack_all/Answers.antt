use Rattle.std.proofs.Common.{rules, ◌<◌, ℕ, List, length, arith, ap, ◌∙◌}
use Rattle.std.specs.Prelude.{None}
use Rattle.bti_nodes.specs.declared.damage.PackError.{PackError}
use Rattle.partition_index.proofs.Ended.{if_ok, trie_appended, trie_failed, trie_is}
use Rattle.partition_index.proofs.Written.{last_pack, packed_some, packed_with}
use Rattle.partition_index.proofs.packing.pack_all.Goals as goal

pub pack_last-requires-clause-key : goal.pack_last-requires-clause-key
pack_last-requires-clause-key g c =
    let w = c.requires.0 in
    (last_pack c.args.packer c.args.newest.now w.file w.partitions c.requires.1 (search rules)).takes

pub pack_last-requires-clause-some : goal.pack_last-requires-clause-some
pack_last-requires-clause-some g c =
    let w = c.requires.0 in
    (last_pack c.args.packer c.args.newest.now w.file w.partitions c.requires.1 (search rules)).some

pub pack_last-requires-clause-before : goal.pack_last-requires-clause-before
pack_last-requires-clause-before g c =
    let w = c.requires.0 in
    (last_pack c.args.packer c.args.newest.now w.file w.partitions c.requires.1 (search rules)).before

pub pack_last-requires-clause-low : goal.pack_last-requires-clause-low
pack_last-requires-clause-low g c =
    let w = c.requires.0 in
    (last_pack c.args.packer c.args.newest.now w.file w.partitions c.requires.1 (search rules)).is.low

pub pack_last-requires-clause-high : goal.pack_last-requires-clause-high
pack_last-requires-clause-high g c =
    let w = c.requires.0 in
    (last_pack c.args.packer c.args.newest.now w.file w.partitions c.requires.1 (search rules)).is.high

pub returns-in_err-pack_last-clause-written : goal.returns-in_err-pack_last-clause-written
returns-in_err-pack_last-clause-written g c =
    λ w h.
    let some : 0 < c.args.newest.now.count = search rules in
    trie_failed (g.K.Store.files c.args.store.now) (g.K.Store.files c.pack_last.new.store) c.args.newest.now w.file w.partitions c.pack_last.result c.from_residual.result
    h.newest_is some h.fine (search rules) (search rules) (c.pack_last.ensures.added.appends _ h.packs)

pub finish-requires : goal.finish-requires
finish-requires g c =
    let w = c.requires.0 in
    record {
      packing = packed_with c.args.newest.now w.file w.partitions None;
      packs = c.in_ok-pack_last.ensures.added.packs _ c.requires.1.packs;
      some = packed_some c.args.newest.now w.file w.partitions None;
    }

pub returns-clause-trie : goal.returns-clause-trie
returns-clause-trie g c =
    let some : 0 < c.args.newest.now.count = search rules in
    if_ok c.finish.result _ _
    (λ packed root long w h.
    let q = packed_with c.args.newest.now w.file w.partitions None in
    let packs = c.in_ok-pack_last.ensures.added.packs _ h.packs in
    let is = trie_is c.args.newest.now w.file w.partitions h.newest_is some in
    (omega (arith, long q packs, ap (λ (l : List ℕ). length l) is.0), root q packs ∙ is.1))
    c.finish.ensures.root c.finish.ensures.end

pub returns-clause-written : goal.returns-clause-written
returns-clause-written g c =
    λ w h.
    let some : 0 < c.args.newest.now.count = search rules in
    trie_appended PackError (g.K.Store.files c.args.store.now) (g.K.Store.files c.pack_last.new.store) (g.K.Store.files c.finish.new.store) c.args.newest.now w.file w.partitions
    c.in_ok-pack_last.field-0 c.finish.result h.newest_is some h.fine (c.in_ok-pack_last.ensures.added.appends _ h.packs)
    (c.finish.ensures.written _ (c.in_ok-pack_last.ensures.added.packs _ h.packs))
