-- Files stand for one map at most.
use Rattle.std.proofs.Common.{◌≡◌, ℕ, List, sym, ◌∙◌, ap, subst}
use Rattle.std.specs.FinMap as finite
use Rattle.outside.specs.Files.{Files, bytes_of}
use Rattle.key_types.specs.Columns.{Columns}
use Rattle.key_types.specs.Table.{Table}
use Rattle.data_file.proofs.Unique.{listing_unique}
use Rattle.table_files.specs.Names.{data_id, schema_id}
use Rattle.table_files.specs.Standing.{Holds, StandFor, entries_in}
use Rattle.table_files.proofs.SchemaLemmas.{one_schema}

pub files_determine : (files : Files) (generation : ℕ) (columns others : Columns) (table other : Table)
    → StandFor files generation columns table → StandFor files generation others other → (columns ≡ others) × (table ≡ other)
files_determine files generation columns others table other stand also =
    let one : columns ≡ others = one_schema (bytes_of files (schema_id generation)) columns others stand.schema also.schema in
    let bytes : List ℕ = bytes_of files (data_id generation) in
    let held : Holds columns bytes (finite.entries other) = subst (λ (c : Columns). Holds c bytes (finite.entries other)) (sym one) also.held in
    let parts = listing_unique columns bytes stand.held.partitions held.partitions stand.held.listed held.listed in
    (one, finite.same_entries_map table other (sym stand.held.same ∙ ap entries_in parts ∙ held.same))
