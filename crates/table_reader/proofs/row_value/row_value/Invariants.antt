use Rattle.std.proofs.Common.{◌≡◌, ◌⊎◌, ◌+◌, ◌-◌, ◌*◌, ◌%◌, ◌<◌, ◌≤◌, ◌++◌, ℕ, List, Option, Result, cond, drop, false, length, IsTrue}
use Rattle.key_types.specs.Columns.{columns_of}
use Rattle.bti_nodes.specs.declared.damage.Damage.{Damage}
use Rattle.page_cache.specs.Pages.{Honest}
use Rattle.data_file.specs.Held.{IsFront, IsRest}
use Rattle.table_reader.specs.Rows.{FindsRow}
use Rattle.table_reader.proofs.row_value.row_value.Given as goal

abbrev pub invariant-pages : goal.invariant-pages
invariant-pages g l =
    let files = g.K.Store.files in
    let reads = g.K.Store.reads in
    record {
      honest : Honest (files l.store) l.pages;
      same : files l.store ≡ files l.fn.store;
      front : IsFront (files l.store) l.file l.block.rows l.held;
      rest : IsTrue l.ended → IsRest (files l.store) l.file l.block.rows l.held;
      within : l.passed ≤ length l.held;
      inside : (l.passed ≡ 0) ⊎ (l.block.rows + l.passed < l.block.limit);
      short : (length l.held ≡ 0) ⊎ (length l.held < l.passed + 66564 + 4096);
      onward : (more : List ℕ) (found : Result (Option (List ℕ)) Damage) → FindsRow (columns_of l.schema) l.key l.block.limit (l.block.rows + l.passed) (drop l.passed l.held ++ more) found
          → FindsRow (columns_of l.schema) l.key l.block.limit l.block.rows (l.held ++ more) found;
      most : l.block.limit ≤ l.block.rows + 16384 → reads l.store ≤ reads l.fn.store + 22;
      count : l.ended ≡ false
          → ((length l.held ≡ 0) × (reads l.store ≤ reads l.fn.store))
          ⊎ (((l.block.rows + length l.held) % 4096 ≡ 0) × (4096 * reads l.store ≤ 4096 * reads l.fn.store + length l.held + 4095));
      later : g.K.Store.faults l.fn.store ≤ g.K.Store.faults l.store;
    }

abbrev pub decreases-pages : goal.decreases-pages
decreases-pages g l = cond l.ended 0 (1 + (l.block.limit + l.block.rows + 66564 + 4096 - length l.held))
