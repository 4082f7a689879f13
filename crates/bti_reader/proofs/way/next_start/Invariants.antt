use Rattle.std.proofs.Common.{◌≡◌, ◌≤◌, drop, false, get_or, length, IfSome, None, Ok}
use Rattle.outside.specs.Files.{bytes_of}
use Rattle.page_cache.specs.Pages.{Honest}
use Rattle.bti_reader.specs.Searches.{above_from}
use Rattle.bti_reader.proofs.way.next_start.Given as goal

abbrev pub invariant-up : goal.invariant-up
invariant-up g l =
    let files = g.K.Store.files in
    record {
      honest : Honest (files l.store) l.cache;
      same : files l.store ≡ files l.fn.store;
      deep : l.depth ≤ length l.path;
      none : IfSome (files l.fn.store) (λ m. above_from false (bytes_of m l.file) (get_or l.nodes l.depth 0) (drop l.depth l.path) ≡ Ok None);
      later : g.K.Store.faults l.fn.store ≤ g.K.Store.faults l.store;
    }

abbrev pub decreases-up : goal.decreases-up
decreases-up g l = l.depth
