use Rattle.std.proofs.Common.{◌≡◌, ◌≤◌, ◌<◌, ◌+◌, ◌*◌, ◌-◌, false, length}
use Rattle.std.specs.Prelude.{IfSome}
use Rattle.outside.specs.Files.{bytes_of}
use Rattle.table_reader.specs.Window.{Continues}
use Rattle.table_reader.proofs.window.Window.read_ahead.Given as goal

abbrev pub invariant-pages : goal.invariant-pages
invariant-pages g l =
    let files = g.K.Store.files in
    let faults = g.K.Store.faults in
    let reads = g.K.Store.reads in
    record {
      told : IfSome (files l.fn.store) (λ m. Continues (bytes_of m l.file) l.fn.self → Continues (bytes_of m l.file) l.self);
      place : l.self.at ≡ l.fn.self.at;
      limit : l.self.limit ≡ l.fn.self.limit;
      same : files l.store ≡ files l.fn.store;
      kept : length l.fn.self.bytes ≤ length l.self.bytes;
      reads : 4096 * reads l.store + length l.fn.self.bytes ≤ 4096 * reads l.fn.store + length l.self.bytes;
      few : length l.self.bytes < 81920;
      open_still : l.self.whole ≡ false;
      later : faults l.fn.store ≤ faults l.store;
    }

abbrev pub decreases-pages : goal.decreases-pages
decreases-pages g l = 81920 - length l.self.bytes
