use Rattle.std.proofs.Common.{◌≡◌, ◌≤◌, ◌++◌, ◌∷◌, [], get_or, length, IfSome}
use Rattle.outside.specs.Files.{bytes_of}
use Rattle.page_cache.specs.Pages.{Honest}
use Rattle.bti_reader.specs.Searches.{first_path}
use Rattle.bti_reader.specs.Walks.{path_answer}
use Rattle.bti_reader.specs.Ways.{IsWayIn}
use Rattle.bti_reader.proofs.way.first_into.Given as goal

abbrev pub invariant-down : goal.invariant-down
invariant-down g l =
    let files = g.K.Store.files in
    record {
      honest : Honest (files l.store) l.cache;
      same : files l.store ≡ files l.fn.store;
      search : IfSome (files l.fn.store) (λ m. path_answer l.file.part l.path (first_path (bytes_of m l.file) l.position) ≡ path_answer l.file.part l.fn.taken (first_path (bytes_of m l.file) l.start));
      count : length l.nodes ≡ length l.path;
      way : IsWayIn (files l.fn.store) l.file l.path (l.nodes ++ l.position ∷ []);
      root : get_or (l.nodes ++ l.position ∷ []) 0 0 ≡ get_or (l.fn.nodes ++ l.start ∷ []) 0 0;
      later : g.K.Store.faults l.fn.store ≤ g.K.Store.faults l.store;
    }

abbrev pub decreases-down : goal.decreases-down
decreases-down g l = l.position
