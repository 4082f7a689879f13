use Rattle.std.proofs.Common.{rules, ℕ, ℤ, w64, List, Ok, arith, refl, ap, subst, ◌∙◌}
use Rattle.std.proofs.lemmas.Int.{to_z-of_z}
use Rattle.std.proofs.lemmas.Result.{IfOk-from_err}
use Rattle.bti_nodes.specs.declared.damage.PackError.{PackError}
use Rattle.page_packer.specs.Packing.{AppendsSome}
use Rattle.partition_index.specs.Entries.{Numbered}
use Rattle.partition_index.specs.Writing.{newest_with, numbered}
use Rattle.partition_index.proofs.Ended.{some_as}
use Rattle.partition_index.proofs.Written.{appended_next, count_few, next_ready, next_writes, numbered_is, same_behind}
use Rattle.partition_index.proofs.writer.PartitionWriter.go_on.Goals as goal

pub pack_last-requires-clause-key : goal.pack_last-requires-clause-key
pack_last-requires-clause-key g c =
    let part = numbered_is c.args.key.now c.args.position c.type_inv.key c.requires.some c.requires.most c.requires.low c.requires.high in
    (next_ready c.args.self.now (numbered c.args.key.now c.args.position) c.requires.key c.requires.behind part).0.takes

pub pack_last-requires-clause-some : goal.pack_last-requires-clause-some
pack_last-requires-clause-some g c =
    let part = numbered_is c.args.key.now c.args.position c.type_inv.key c.requires.some c.requires.most c.requires.low c.requires.high in
    (next_ready c.args.self.now (numbered c.args.key.now c.args.position) c.requires.key c.requires.behind part).0.some

pub pack_last-requires-clause-before : goal.pack_last-requires-clause-before
pack_last-requires-clause-before g c =
    let part = numbered_is c.args.key.now c.args.position c.type_inv.key c.requires.some c.requires.most c.requires.low c.requires.high in
    (next_ready c.args.self.now (numbered c.args.key.now c.args.position) c.requires.key c.requires.behind part).0.before

pub pack_last-requires-clause-behind : goal.pack_last-requires-clause-behind
pack_last-requires-clause-behind g c =
    let part = numbered_is c.args.key.now c.args.position c.type_inv.key c.requires.some c.requires.most c.requires.low c.requires.high in
    (next_ready c.args.self.now (numbered c.args.key.now c.args.position) c.requires.key c.requires.behind part).1

pub pack_last-requires-clause-low : goal.pack_last-requires-clause-low
pack_last-requires-clause-low g c =
    let part = numbered_is c.args.key.now c.args.position c.type_inv.key c.requires.some c.requires.most c.requires.low c.requires.high in
    (next_ready c.args.self.now (numbered c.args.key.now c.args.position) c.requires.key c.requires.behind part).0.is.low

pub pack_last-requires-clause-high : goal.pack_last-requires-clause-high
pack_last-requires-clause-high g c =
    let part = numbered_is c.args.key.now c.args.position c.type_inv.key c.requires.some c.requires.most c.requires.low c.requires.high in
    (next_ready c.args.self.now (numbered c.args.key.now c.args.position) c.requires.key c.requires.behind part).0.is.high

pub take-requires : goal.take-requires
take-requires g c =
    let s = c.args.self.now in
    omega (arith, count_few s.packer s.newest c.requires.key.indexing c.requires.key.writes.trie)

pub returns-in_err-pack_last-clause-added : goal.returns-in_err-pack_last-clause-added
returns-in_err-pack_last-clause-added g c =
    let s = c.args.self.now in
    let n : Numbered = numbered c.args.key.now c.args.position in
    let old = g.K.Store.files c.args.store.now in
    let new = g.K.Store.files c.pack_last.new.store in
    record {
      writes = IfOk-from_err c.from_residual.result _ (search rules);
      appends = λ w h.
          subst (λ (bytes : List ℕ). AppendsSome old new w.file c.from_residual.result bytes) (appended_next s.newest w.file w.partitions n h.trie.newest_is c.requires.behind)
          (some_as old new w.file c.pack_last.result c.from_residual.result _ (search rules) (c.pack_last.ensures.added.appends _ h.trie.packs));
    }

pub returns-in_err-take-clause-added : goal.returns-in_err-take-clause-added
returns-in_err-take-clause-added g c =
    let s = c.args.self.now in
    let n : Numbered = numbered c.args.key.now c.args.position in
    let old = g.K.Store.files c.args.store.now in
    let new = g.K.Store.files c.pack_last.new.store in
    record {
      writes = IfOk-from_err c.from_residual-in_err-take.result _ (search rules);
      appends = λ w h.
          subst (λ (bytes : List ℕ). AppendsSome old new w.file c.from_residual-in_err-take.result bytes) (appended_next s.newest w.file w.partitions n h.trie.newest_is c.requires.behind)
          (some_as old new w.file c.pack_last.result c.from_residual-in_err-take.result _ (search rules) (c.pack_last.ensures.added.appends _ h.trie.packs));
    }

pub returns-clause-added : goal.returns-clause-added
returns-clause-added g c =
    let s = c.args.self.now in
    let taken = c.in_ok-take.ensures ∙ ap (λ (z : ℤ). newest_with s.newest c.args.key.now z) (to_z-of_z w64 c.args.position c.ranges.position) in
    let k = c.requires.key in
    let w = k.indexing in
    let n : Numbered = numbered c.args.key.now c.args.position in
    let part = numbered_is c.args.key.now c.args.position c.type_inv.key c.requires.some c.requires.most c.requires.low c.requires.high in
    let old = g.K.Store.files c.args.store.now in
    let new = g.K.Store.files c.pack_last.new.store in
    record {
      writes = λ v h room.
          next_writes s _ v n h c.requires.behind (same_behind s.newest w.partitions v.partitions n.string k.writes.trie.newest_is h.trie.newest_is k.behind) part room refl refl
          taken (c.in_ok-pack_last.ensures.added.packs _ h.trie.packs);
      appends = λ v h.
          subst (λ (bytes : List ℕ). AppendsSome {T = Unit {0}} {E = PackError} old new v.file (Ok tt) bytes) (appended_next s.newest v.file v.partitions n h.trie.newest_is c.requires.behind)
          (c.in_ok-pack_last.ensures.added.appends _ h.trie.packs);
    }
