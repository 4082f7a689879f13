use Rattle.std.proofs.Common.{ap}
use Rattle.trie_rule.specs.Seats.{ReaderAt}
use Rattle.trie_reader.specs.Read.{IsValueOfRecord}
use Rattle.shard_table.specs.Seats.{OfSeat}
use Rattle.shard_table.proofs.Seated.{put_back, item_there, if_ok_map, row_long, seat_free, the_seat}
use Rattle.shard_table.proofs.table.ShardTable.value_of.Goals as goal

pub index_mut-seat-requires : goal.index_mut-seat-requires
index_mut-seat-requires c = row_long c.args.self.now.shards c.args.workers.now c.args.reader c.requires.workers c.requires.reader c.index_mut.result.now c.args.shard c.index_mut.ensures.value c.requires.shard

pub copy_value-requires-clause-own : goal.copy_value-requires-clause-own
copy_value-requires-clause-own c = (seat_free c.args.self.now.shards c.args.workers.now c.args.reader c.requires.workers c.requires.reader c.index_mut.result.now c.args.shard c.cells.result.now c.index_mut-seat.result.now c.index_mut.ensures.value c.requires.shard c.cells.ensures c.index_mut-seat.ensures.value).own

pub copy_value-requires-clause-idle : goal.copy_value-requires-clause-idle
copy_value-requires-clause-idle c = (seat_free c.args.self.now.shards c.args.workers.now c.args.reader c.requires.workers c.requires.reader c.index_mut.result.now c.args.shard c.cells.result.now c.index_mut-seat.result.now c.index_mut.ensures.value c.requires.shard c.cells.ensures c.index_mut-seat.ensures.value).idle

pub copy_value-requires-clause-record : goal.copy_value-requires-clause-record
copy_value-requires-clause-record c =
    let long = row_long c.args.self.now.shards c.args.workers.now c.args.reader c.requires.workers c.requires.reader c.index_mut.result.now c.args.shard c.index_mut.ensures.value c.requires.shard in
    c.requires.record c.index_mut.result.now c.index_mut-seat.result.now (item_there c.args.workers.now.readers c.args.reader c.index_mut.result.now c.requires.reader c.index_mut.ensures.value) (item_there c.index_mut.result.now c.args.shard c.index_mut-seat.result.now long c.index_mut-seat.ensures.value)

pub returns-clause-same : goal.returns-clause-same
returns-clause-same c =
    let row = put_back c.index_mut.result.now c.args.shard c.copy_value.new.seat c.index_mut-seat.result.now c.index_mut-seat.ensures.value c.copy_value.ensures.same in
    ap (λ rows. record { writers = c.args.workers.now.writers; readers = rows }) (put_back c.args.workers.now.readers c.args.reader _ c.index_mut.result.now c.index_mut.ensures.value row)

pub returns-clause-value : goal.returns-clause-value
returns-clause-value c =
    let long = row_long c.args.self.now.shards c.args.workers.now c.args.reader c.requires.workers c.requires.reader c.index_mut.result.now c.args.shard c.index_mut.ensures.value c.requires.shard in
    if_ok_map (IsValueOfRecord c.index_mut-seat.result.now.knows.seen c.args.rec) (λ bytes. OfSeat (λ seat. IsValueOfRecord seat.knows.seen c.args.rec bytes) c.args.workers.now c.args.reader c.args.shard) c.copy_value.result
    (λ bytes h. the_seat (λ (seat : ReaderAt). IsValueOfRecord seat.knows.seen c.args.rec bytes) c.args.workers.now c.args.reader c.args.shard c.index_mut.result.now c.index_mut-seat.result.now (item_there c.args.workers.now.readers c.args.reader c.index_mut.result.now c.requires.reader c.index_mut.ensures.value) (item_there c.index_mut.result.now c.args.shard c.index_mut-seat.result.now long c.index_mut-seat.ensures.value) h)
    c.copy_value.ensures.value
