use Rattle.std.proofs.Common.{◌≡◌, List, sym, ap, ◌∙◌, subst, length, arith}
use Rattle.std.specs.List.{All}
use Rattle.trie_rule.specs.Seats.{CellsAt, WriterAt}
use Rattle.std.specs.Vec.{with_items}
use Rattle.std.proofs.lemmas.List.{with_items_is}
use Rattle.shard_table.specs.Seats.{AreEach, IsNewWriter, IsNewReader}
use Rattle.shard_table.proofs.Made.{new_workers}
use Rattle.shard_table.proofs.table.ShardTable.new.Goals as goal

pub returns-clause-workers : goal.returns-clause-workers
returns-clause-workers c =
    let shards = c.in_ok-shards.shards.items in
    let same : c.make_readers.new.writers ≡ c.in_ok-shards.writers.items = c.make_readers.ensures.same ∙ c.as_mut_slice.ensures.value in
    let writers : (with_items c.in_ok-shards.writers c.make_readers.new.writers).items ≡ c.in_ok-shards.writers.items =
    with_items_is c.in_ok-shards.writers c.make_readers.new.writers (omega (arith, ap (λ (l : List WriterAt). length l) same, c.in_ok-shards.writers.ok)) ∙ same in
    new_workers shards record { writers = with_items c.in_ok-shards.writers c.make_readers.new.writers; readers = c.in_ok-readers.readers }
    (subst (AreEach IsNewWriter shards) (sym writers) c.in_ok-shards.ensures.each)
    (subst (λ (cs : List CellsAt). All (λ seats. AreEach IsNewReader cs seats.items) c.in_ok-readers.readers.items) c.as_slice.ensures.value c.in_ok-readers.ensures.each)
