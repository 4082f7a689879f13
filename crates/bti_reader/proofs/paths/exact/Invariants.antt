use Rattle.std.proofs.Common.{◌≡◌, ◌+◌, ◌≤◌, length, IfSome}
use Rattle.outside.specs.Files.{bytes_of}
use Rattle.page_cache.specs.Pages.{Honest}
use Rattle.bti_reader.specs.Searches.{exact_from}
use Rattle.bti_reader.specs.Steps.{answer_of}
use Rattle.bti_reader.proofs.paths.exact.Given as goal

abbrev pub invariant-nodes : goal.invariant-nodes
invariant-nodes g l =
    let files = g.K.Store.files in
    record {
      honest : Honest (files l.store) l.cache;
      same : files l.store ≡ files l.fn.store;
      search : IfSome (files l.fn.store) (λ m. answer_of l.file.part l.passed (exact_from (bytes_of m l.file) l.position l.rest) ≡ answer_of l.file.part 0 (exact_from (bytes_of m l.file) l.root l.key));
      taken : l.passed + length l.rest ≡ length l.key;
      reads : g.K.Store.reads l.store ≤ g.K.Store.reads l.fn.store + l.passed;
      later : g.K.Store.faults l.fn.store ≤ g.K.Store.faults l.store;
    }

abbrev pub decreases-nodes : goal.decreases-nodes
decreases-nodes g l = length l.rest
