use Rattle.std.proofs.Common.{length, min, take, slice_index_or, refl, ap, ◌∙◌, subst, arith}
use Rattle.std.proofs.lemmas.Option.{slice_get-get_or, get_or_from_slice_get}
use Rattle.trie_image.specs.Puts.{HasLastPut}
use Rattle.trie_rule.specs.Seats.{WriterAt}
use Rattle.shard_table.specs.Seats.{IsFreeWriter}
use Rattle.shard_table.proofs.Each.{each_length}
use Rattle.load_work.proofs.Settling.{writer_may}
use Rattle.load_work.proofs.settle.bound.Goals as goal

pub cells-requires : goal.cells-requires
cells-requires c = omega (arith, c.requires.can.inside, each_length IsFreeWriter c.args.table.now.shards c.args.writers.now c.requires.writing)

pub bounded-found-requires-clause-write : goal.bounded-found-requires-clause-write
bounded-found-requires-clause-write c = writer_may c.args.table.now.shards c.args.answer.shard c.cells.result.now c.cells.ensures c.args.writers.now c.index-writers-shard.result c.requires.writing

pub bounded-found-requires-clause-found : goal.bounded-found-requires-clause-found
bounded-found-requires-clause-found c = c.requires.can.found (slice_index_or c.args.writers.now c.args.answer.shard c.index-writers-shard.result) (slice_get-get_or c.args.writers.now c.args.answer.shard c.index-writers-shard.result c.requires.can.inside)

pub returns-clause-bounded : goal.returns-clause-bounded
returns-clause-bounded c =
    let found = c.bounded-found.result in let key = c.args.get.now.key.now in
    record {
      line = refl;
      reader = refl;
      shard = refl;
      at = λ w there. c.bounded-found.ensures.at ∙ ap (λ (v : WriterAt). min c.args.answer.at (length v.knows.made)) (get_or_from_slice_get c.args.writers.now c.args.answer.shard w c.index-writers-shard.result there);
      map = λ w there. subst (λ (v : WriterAt). HasLastPut (take found.at v.knows.made) key found.hit) (get_or_from_slice_get c.args.writers.now c.args.answer.shard w c.index-writers-shard.result there) c.bounded-found.ensures.map;
    }
