-- The entry that is read at a position of Rows.db is that of the file.
use Rattle.std.proofs.Common.{◌≡◌, ◌∙◌, ℕ, List, take, drop, Option, None, Some, IfSome, Result, Ok, Err, refl, subst}
use Rattle.std.specs.Prelude.{⊤}
use Rattle.std.proofs.lemmas.List.{take-append-drop}
use Rattle.outside.specs.Files.{Files, bytes_of}
use Rattle.outside.specs.declared.store.Part.TheVariants.{Rows}
use Rattle.key_types.specs.Columns.{Columns}
use Rattle.bti_nodes.specs.declared.damage.Cause.TheVariants.{BadEntry}
use Rattle.data_file.specs.declared.reading.DataError.TheVariants.{Damaged, StoreFault}
use Rattle.index_files.specs.declared.entry.EntryNumbers.{EntryNumbers}
use Rattle.index_files.specs.Entries.{NoEntry}
use Rattle.index_files.specs.Reading.{file_damage}
use Rattle.index_files.proofs.Told.{no_entry_told}
use Rattle.table_files.specs.Names.{rows_id}
use Rattle.data_walk.specs.declared.data_walk.PartitionSum.{PartitionSum}
use Rattle.data_walk.specs.declared.refusal.Refusal.{Refusal}
use Rattle.data_walk.specs.declared.refusal.Refusal.TheVariants.{Unread}
use Rattle.data_walk.specs.Refusals.{IsFault}
use Rattle.row_check.specs.Entries.{ComparesEntry, FindsEntry, SpellsEntry}
use Rattle.row_check.proofs.Spelled.{spelled_on}

-- a comparison asks nothing of the store
pub compares_no_fault : (at : ℕ) (partition : List ℕ) (numbers : EntryNumbers) (key : List ℕ) (sum : PartitionSum) (result : Result ⊤ Refusal)
    → ComparesEntry at partition numbers key sum result → result ≡ Err (Unread StoreFault) → ⊥
compares_no_fault at partition numbers key sum _ (ComparesEntry.same is position blocks) e = cc
compares_no_fault at partition numbers key sum _ (ComparesEntry.other_key other) e = cc
compares_no_fault at partition numbers key sum _ (ComparesEntry.other_position is other) e = cc
compares_no_fault at partition numbers key sum _ (ComparesEntry.other_blocks is position other) e = cc

module _ (columns : Columns) (generation at : ℕ) (key : List ℕ) (sum : PartitionSum) where
  -- what is found of a told file
  abbrev pub EntryFound : Option Files → Result EntryNumbers Refusal → Type 0
  EntryFound files result = IfSome files (λ m. FindsEntry columns (bytes_of m (rows_id generation)) at key sum result)

  pub entry_fault : (files : Option Files) (e : Refusal) → IsFault e → EntryFound files (Err e)
  entry_fault None e fault = tt
  entry_fault (Some m) e fault = FindsEntry.fault e fault

  module _ (held bytes : List ℕ) (same : bytes ≡ held) where
    -- these are the longest entry's bytes from there on
    abbrev pub Held : Option Files → Type 0
    Held files = IfSome files (λ m. held ≡ take 1046 (drop at (bytes_of m (rows_id generation))))

    pub entry_none : (files : Option Files) → Held files → NoEntry columns bytes at → EntryFound files (Err (Unread (Damaged (file_damage Rows at BadEntry))))
    entry_none None told none = tt
    entry_none (Some m) told none =
        let no_entry = no_entry_told (Some m) (rows_id generation) columns Rows at held bytes (Damaged (file_damage Rows at BadEntry)) told same refl none in
        FindsEntry.none no_entry.1

    in_file : (file : List ℕ) (partition : List ℕ) (numbers : EntryNumbers) → held ≡ take 1046 (drop at file) → SpellsEntry columns bytes at partition numbers
        → SpellsEntry columns (drop at file) at partition numbers
    in_file file partition numbers told spelled =
        let rest : List ℕ = drop at file in
        subst (λ (b : List ℕ). SpellsEntry columns b at partition numbers) (take-append-drop 1046 rest)
        (spelled_on columns (take 1046 rest) (drop 1046 rest) at partition numbers (subst (λ (b : List ℕ). SpellsEntry columns b at partition numbers) (same ∙ told) spelled))

    module _ (partition : List ℕ) (numbers : EntryNumbers) (spelled : SpellsEntry columns bytes at partition numbers) where
      pub entry_found : (files : Option Files) → Held files → ComparesEntry at partition numbers key sum (Ok tt) → EntryFound files (Ok numbers)
      entry_found None told compares = tt
      entry_found (Some m) told compares = FindsEntry.own partition numbers (in_file (bytes_of m (rows_id generation)) partition numbers told spelled) compares

      pub entry_clashes : (files : Option Files) (e : Refusal) → Held files → ComparesEntry at partition numbers key sum (Err e) → EntryFound files (Err e)
      entry_clashes None e told compares = tt
      entry_clashes (Some m) e told compares =
          FindsEntry.clashes partition numbers e (in_file (bytes_of m (rows_id generation)) partition numbers told spelled) compares
