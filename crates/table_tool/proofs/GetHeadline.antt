-- A `get` over the files of a `load` that was Ok.
use Rattle.std.proofs.Common.{◌≡◌, List, ◌++◌, ℕ, Option, Some, Result, Ok, Err, ◌∙◌, ap, subst}
use Rattle.std.specs.Prelude.{IfSome}
use Rattle.std.specs.FinMap as map
use Rattle.outside.specs.Files.{Files}
use Rattle.outside.specs.Told.{WhereTold}
use Rattle.key_types.specs.Columns.{Columns}
use Rattle.key_types.specs.Table.{Table}
use Rattle.script_text.specs.Puts.{Put}
use Rattle.script_text.specs.Script.{puts_of}
use Rattle.table_files.specs.Standing.{StandFor}
use Rattle.table_reader.specs.Laws.{string_of_key}
use Rattle.get_tool.specs.declared.asked.AskedKey.{AskedKey}
use Rattle.get_tool.specs.declared.error.GetError.{GetError}
use Rattle.get_tool.specs.declared.error.GetError.TheVariants as get_error
use Rattle.get_tool.specs.Asked.{NamesKey}
use Rattle.get_tool.specs.Laws.{ShowsOf}
use Rattle.get_tool.specs.Shown.{found_line}
use Rattle.get_tool.proofs.ShowReads.{one_key}
use Rattle.table_tool.specs.declared.status.Status.{Status}
use Rattle.table_tool.specs.declared.status.Status.TheVariants as status
use Rattle.table_tool.specs.First.{first_generation}
use Rattle.table_tool.specs.Getting.{FindsNamed, GetEnds, ShowsAs, ShowsOfMap}
use Rattle.table_tool.specs.Laws.{HeadlineOfGets}
use Rattle.table_tool.specs.Outcome.{IsOrNoMemory}
use Rattle.table_tool.specs.Outside.{Outside, SinkFails, StoreFails}
use Rattle.table_tool.specs.Rows.{table_put}
use Rattle.table_tool.proofs.Headline.{done, said, stands, taken}
use Rattle.table_tool.proofs.Told.{told_so}

-- ---- what is printed

module _ (columns : Columns) (table : Table) (text : List ℕ) (key : AskedKey) (names : NamesKey columns text key) (before after : Outside) where
  abbrev line : List ℕ
  line = found_line columns key.clustering (map.get table (string_of_key key.partition key.clustering))

  value_printed : (shown : Result (List ℕ) GetError) → ShowsOf columns table text shown → ShowsAs shown before after status.Ok
      → WhereTold before.written after.written (λ old new. new ≡ old ++ line)
  value_printed (Ok said) (other, also, is) ended =
      let same : said ≡ line =
      is ∙ ap (λ (k : AskedKey). found_line columns k.clustering (map.get table (string_of_key k.partition k.clustering))) (one_key columns text other key also names) in
      told_so before.written after.written _ _ (λ old new e. e ∙ ap (λ (l : List ℕ). old ++ l) same) ended.written
  value_printed (Err get_error.Usage) of ended = absurd (let e = ended.ends in cc)
  value_printed (Err get_error.StoreFault) of ended = absurd (let e = ended.ends in cc)
  value_printed (Err (get_error.Damaged damage)) of ended = absurd of
  value_printed (Err get_error.Unfinished) of ended = absurd of
  value_printed (Err get_error.NoMemory) of ended = absurd (let e = ended.ends in cc)

  module _ (files : Files) (result : Status) (told : before.files ≡ Some files) (ends : GetEnds text before after result) (stand : StandFor files first_generation columns table) where
    pub printed : result ≡ status.Ok → WhereTold before.written after.written (λ old new. new ≡ old ++ line)
    printed ok =
        let all = subst (λ (o : Option Files). IfSome o (λ m. ShowsOfMap text m before after result)) told ends.stand columns table stand in
        value_printed all.0 all.1 (subst (λ (r : Status). ShowsAs all.0 before after r) ok all.2)

    pub well : ¬ (StoreFails before after) → ¬ (SinkFails before after) → IsOrNoMemory status.Ok result
    well = subst (λ (o : Option Files). IfSome o (λ m. FindsNamed text m before after result)) told ends.complete columns table key stand names

pub files_asked : HeadlineOfGets
files_asked words words' asked bytes files text key before between between' after result ask ask' names left there also first second =
    let ends = first.load asked ask in
    let script = done asked bytes before between left ends in
    let is = taken asked bytes before between left ends in
    let lines = said asked.columns asked.readers bytes script.0 is in
    let stand = stands asked bytes before between left ends files there in
    let got = second.get text ask' in record {
      lines = lines.0;
      accepted = lines.1;
      printed = λ ok. subst
          (λ (ps : List Put). WhereTold between'.written after.written (λ old new. new ≡ old
          ++ found_line asked.columns key.clustering (map.get (table_put ps) (string_of_key key.partition key.clustering)))) (ap puts_of lines.2)
          (printed asked.columns (table_put (puts_of script.0.batches)) text key names between' after files result also got stand ok);
      complete = well asked.columns (table_put (puts_of script.0.batches)) text key names between' after files result also got stand;
    }
