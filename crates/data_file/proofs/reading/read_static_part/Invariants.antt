use Rattle.std.proofs.Common.{◌≡◌, ◌+◌, ◌-◌, ◌*◌, ◌≤◌, ◌<◌, cond, length, IsTrue, false}
use Rattle.data_file.specs.Held.{IsFront, IsRest}
use Rattle.data_file.proofs.reading.read_static_part.Given as goal

abbrev pub invariant-pages : goal.invariant-pages
invariant-pages g l =
    let files = g.K.Store.files in
    let reads = g.K.Store.reads in
    record {
      front : IsFront (files l.store) l.file l.at l.held;
      rest : IsTrue l.ended → IsRest (files l.store) l.file l.at l.held;
      same : files l.store ≡ files l.fn.store;
      short : length l.held < 65538 + 4096;
      most : reads l.store ≤ reads l.fn.store + 17;
      pages : l.ended ≡ false → 4096 * reads l.store ≤ 4096 * reads l.fn.store + length l.held;
      later : g.K.Store.faults l.fn.store ≤ g.K.Store.faults l.store;
    }

abbrev pub decreases-pages : goal.decreases-pages
decreases-pages g l = cond l.ended 0 (1 + (65538 + 4096 - length l.held))
