use Rattle.std.proofs.Common.{◌≡◌, ◌+◌, ◌≤◌, IfSome}
use Rattle.outside.specs.Files.{bytes_of}
use Rattle.page_cache.specs.Pages.{Honest}
use Rattle.bti_reader.specs.Searches.{first_path}
use Rattle.bti_reader.specs.Steps.{answer_of}
use Rattle.bti_reader.proofs.paths.first_path.Given as goal

abbrev pub invariant-nodes : goal.invariant-nodes
invariant-nodes g l =
    let files = g.K.Store.files in
    record {
      honest : Honest (files l.store) l.cache;
      same : files l.store ≡ files l.fn.store;
      search : IfSome (files l.fn.store) (λ m. answer_of l.file.part l.passed (first_path (bytes_of m l.file) l.position) ≡ answer_of l.file.part l.taken (first_path (bytes_of m l.file) l.start));
      room : l.passed + l.position ≤ l.taken + l.start;
      reads : g.K.Store.reads l.store + l.taken ≤ g.K.Store.reads l.fn.store + l.passed;
      later : g.K.Store.faults l.fn.store ≤ g.K.Store.faults l.store;
    }

abbrev pub decreases-nodes : goal.decreases-nodes
decreases-nodes g l = l.position
