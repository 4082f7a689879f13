-- Workers of shards that were just made are free.
use Rattle.std.proofs.Common.{List, [], ◌∷◌, slice_index_or, ap}
use Rattle.std.specs.List.{All}
use Rattle.trie_machine.specs.declared.Reader.{Reader}
use Rattle.trie_rule.specs.declared.views.WriteView.{WriteView}
use Rattle.trie_rule.specs.Seats.{CellsAt, WriterAt, ReaderAt}
use Rattle.shard_table.specs.declared.workers.Workers.{Workers}
use Rattle.shard_table.specs.Seats.{AreEach, IsNewWriter, IsNewReader, IsFreeWriter, IsFreeReader, AreWorkers}

free_writers : (shards : List CellsAt) (seats : List WriterAt) → AreEach IsNewWriter shards seats → AreEach IsFreeWriter shards seats
free_writers [] [] h = tt
free_writers [] (s ∷ seats) h = absurd h
free_writers (c ∷ shards) [] h = absurd h
free_writers (c ∷ shards) (s ∷ seats) (h, hs) = (record { own = h.own; idle = ap (λ (w : WriteView). w.begun) h.knows }, free_writers shards seats hs)

free_readers : (shards : List CellsAt) (seats : List ReaderAt) → AreEach IsNewReader shards seats → AreEach IsFreeReader shards seats
free_readers [] [] h = tt
free_readers [] (s ∷ seats) h = absurd h
free_readers (c ∷ shards) [] h = absurd h
free_readers (c ∷ shards) (s ∷ seats) (h, hs) = (record { own = h.own; idle = ap (λ (r : Reader). r.find) h.reader }, free_readers shards seats hs)

pub new_workers : (shards : List CellsAt) (w : Workers) → AreEach IsNewWriter shards w.writers.items → All (λ seats. AreEach IsNewReader shards seats.items) w.readers.items → AreWorkers shards w
new_workers shards w writers readers = record {
  writing = free_writers shards w.writers.items writers;
  reading = λ k d less. free_readers shards (slice_index_or w.readers.items k d).items (readers k d less);
}
