-- What is shown of files that stand for a map.
use Rattle.std.proofs.Common.{◌≡◌, ◌⊎◌, ◌∙◌, ℕ, List, Option, None, Some, IfSome, Result, Ok, Err, inl, inr, ap, refl, subst, sym}
use Rattle.std.specs.FinMap as finite
use Rattle.bti_nodes.specs.declared.damage.Damage.{Damage}
use Rattle.key_types.specs.Columns.{Columns}
use Rattle.key_types.specs.Table.{Table}
use Rattle.key_decode.specs.Strings.{IsStringOf}
use Rattle.outside.specs.Files.{Files, bytes_of}
use Rattle.table_files.specs.Names.{schema_id}
use Rattle.table_files.specs.SchemaFile.{IsSchemaFile}
use Rattle.table_files.specs.Standing.{StandFor}
use Rattle.table_files.proofs.SchemaLemmas.{one_schema}
use Rattle.table_reader.specs.Gets.{Found}
use Rattle.table_reader.specs.Laws.{string_of_key}
use Rattle.table_reader.proofs.Footers.{footers_stand}
use Rattle.table_reader.proofs.Whole.{gets_are}
use Rattle.get_tool.specs.declared.asked.AskedKey.{AskedKey}
use Rattle.get_tool.specs.declared.error.GetError.{GetError}
use Rattle.get_tool.specs.declared.error.GetError.TheVariants as get_error
use Rattle.get_tool.specs.Asked.{IsRowString, NamesKey, NamesNoKey}
use Rattle.get_tool.specs.Laws.{ShowsMap, ShowsOf}
use Rattle.get_tool.specs.Shown.{FindsKey, Shows, found_line}

row_string : (columns : Columns) (string : Option (List ℕ)) → IsRowString columns string → IfSome string (IsStringOf columns.clustering)
row_string columns None is = tt
row_string columns (Some string) is = is

module _ (files : Files) (generation : ℕ) (columns : Columns) (table : Table) (stand : StandFor files generation columns table) where
  -- what is found at a key is what the map has there
  found_is : (text : List ℕ) (key : AskedKey) (found : Found) → NamesKey columns text key → FindsKey files generation columns key found
      → found ≡ Ok (finite.get table (string_of_key key.partition key.clustering))
  found_is text key found names (inl (none, damage)) = let there = footers_stand files generation columns table stand in absurd (none _ _ there.0 there.1.2)
  found_is text key found names (inr (footer, has, gets)) =
      gets_are files generation columns table footer key.partition key.clustering found stand has names.are.0 (row_string columns key.clustering names.are.1) gets

  -- under the columns of the files
  same_columns : (others : Columns) → IsSchemaFile others (bytes_of files (schema_id generation)) → others ≡ columns
  same_columns others is = one_schema (bytes_of files (schema_id generation)) others columns is stand.schema

  shows_of : (text : List ℕ) (result : Result (List ℕ) GetError) → Shows files generation text result → ShowsOf columns table text result
  shows_of text (Ok line) (others, is, (key, names, (found, finds, e))) =
      let same = same_columns others is in
      let named = subst (λ (c : Columns). NamesKey c text key) same names in
      let f = found_is text key (Ok found) named (subst (λ (c : Columns). FindsKey files generation c key (Ok found)) same finds) in
      let value : found ≡ finite.get table (string_of_key key.partition key.clustering) = cc in
      (key, named, e ∙ ap (λ (c : Columns). found_line c key.clustering found) same ∙ ap (found_line columns key.clustering) value)
  shows_of text (Err (get_error.Damaged damage)) (others, is, (key, names, finds)) =
      let same = same_columns others is in
      let f = found_is text key (Err damage) (subst (λ (c : Columns). NamesKey c text key) same names) (subst (λ (c : Columns). FindsKey files generation c key (Err damage)) same finds) in
      cc
  shows_of text (Err get_error.Usage) (others, is, none) = subst (λ (c : Columns). NamesNoKey c text) (same_columns others is) none
  shows_of text (Err get_error.Unfinished) none = none (columns, stand.schema)
  shows_of text (Err get_error.StoreFault) told = tt
  shows_of text (Err get_error.NoMemory) told = tt

pub shows_map : ShowsMap
shows_map files generation columns table text result stand shows = shows_of files generation columns table stand text result shows
