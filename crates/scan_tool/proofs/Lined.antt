-- The line of an entry, put behind others.
use Rattle.std.proofs.Common.{◌≡◌, ◌∙◌, ℕ, ◌+◌, Bool, true, false, List, [], ◌∷◌, ◌++◌, Option, None, Some, refl, sym, ap, arith}
use Rattle.std.proofs.lemmas.List.{append-nil}
use Rattle.std.specs.Prelude.{if◌then◌else◌}
use Rattle.key_types.specs.Columns.{Columns}
use Rattle.key_types.specs.Table.{Entry}
use Rattle.key_decode.specs.Strings.{IsStringOf}
use Rattle.key_printing.specs.Texts.{IsTextOf}
use Rattle.flush_walk.specs.Entries.{has_some, row_count}
use Rattle.flush_walk.proofs.PartsLemmas.{some_string}
use Rattle.row_text.specs.Printed.{entry_line}
use Rattle.row_text.proofs.PrintedLemmas.{is_row_behind}
use Rattle.table_reader.specs.declared.walker.EntryStrings.{EntryStrings}
use Rattle.table_reader.specs.Ranges.{entry_of, within_bytes}
use Rattle.scan_tool.specs.declared.lines.Lines.{Lines}
use Rattle.scan_tool.specs.Steps.{PutsLine}

module _ (columns : Columns) (entry : EntryStrings) (lines lines' : Lines) (text value : List ℕ) (is_value : value ≡ entry.value) (has : IsTextOf columns.partition entry.partition text) where
  counted : (rest : List ℕ) (some : Bool) → (entry.partition ++ rest, value) ≡ entry_of entry → has_some rest ≡ some → row_count columns (entry_of entry ∷ []) ≡ (if some then 1 else 0) + 0
  counted rest some same is =
      ap (λ (e : Entry). row_count columns (e ∷ [])) (sym same) ∙ ap (λ (b : Bool). (if b then 1 else 0) + 0) (is_row_behind columns entry.partition text rest value has ∙ is)

  pub row_put : (row clustering : List ℕ) → entry.clustering ≡ Some row → clustering ≡ row → IsStringOf columns.clustering row
      → lines'.text ≡ lines.text ++ entry_line columns (entry.partition ++ clustering, value) → lines'.rows ≡ lines.rows + 1 → PutsLine columns entry lines lines'
  row_put row clustering is is_row string put rows =
      let same : (entry.partition ++ clustering, value) ≡ entry_of entry =
      ap (λ (v : List ℕ). (entry.partition ++ clustering, v)) is_value ∙ ap (λ (c : List ℕ). (entry.partition ++ c, entry.value)) is_row
      ∙ ap (λ (o : Option (List ℕ)). (entry.partition ++ within_bytes o, entry.value)) (sym is) in
      let count : row_count columns (entry_of entry ∷ []) ≡ 1 = counted clustering true same (ap has_some is_row ∙ some_string columns.clustering row string) in
      record {
        text = put ∙ ap (λ (e : Entry). lines.text ++ entry_line columns e) same;
        rows = rows ∙ ap (λ n. lines.rows + n) (sym count);
        few = omega (arith, rows);
      }

  pub static_put : entry.clustering ≡ None → lines'.text ≡ lines.text ++ entry_line columns (entry.partition, value) → lines'.rows ≡ lines.rows → PutsLine columns entry lines lines'
  static_put is put rows =
      let behind : (entry.partition ++ [], value) ≡ entry_of entry =
      ap (λ (v : List ℕ). (entry.partition ++ [], v)) is_value ∙ ap (λ (o : Option (List ℕ)). (entry.partition ++ within_bytes o, entry.value)) (sym is) in
      let same : (entry.partition, value) ≡ entry_of entry = ap (λ (k : List ℕ). (k, value)) (sym (append-nil entry.partition)) ∙ behind in
      let count : row_count columns (entry_of entry ∷ []) ≡ 0 = counted [] false behind refl in
      record {
        text = put ∙ ap (λ (e : Entry). lines.text ++ entry_line columns e) same;
        rows = omega (arith, rows, count);
        few = omega (arith, rows);
      }
