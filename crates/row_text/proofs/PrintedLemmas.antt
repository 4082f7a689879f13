-- The line of an entry names the components of which its key's string is put together.
use Rattle.std.proofs.Common.{◌≡◌, ℕ, ◌+◌, ◌≤◌, length, Bool, true, false, List, [], ◌∷◌, ◌++◌, Option, Some, None, Result, Ok, Err, OnOk, refl, sym, subst, ◌∙◌, ap, arith, append_assoc}
use Rattle.std.proofs.lemmas.List.{append-nil}
use Rattle.std.specs.Prelude.{codes, if◌then◌else◌}
use Rattle.key_types.specs.declared.schema.ValueType.{ValueType}
use Rattle.key_types.specs.Columns.{Columns}
use Rattle.key_types.specs.Kinds.{Kinds, end, more, Vals, none, and, EachFits}
use Rattle.key_types.specs.Literals.{list_literal}
use Rattle.key_types.specs.Table.{Entry}
use Rattle.byte_comparable.specs.Encoding.{key_string}
use Rattle.key_decode.specs.Reading.{values_at}
use Rattle.key_decode.proofs.Known.{read_key}
use Rattle.key_text.specs.Written.{equals_literal}
use Rattle.key_printing.specs.Texts.{IsTextOf, PutsText}
use Rattle.flush_walk.specs.Entries.{has_some, is_row, rest_behind, row_count}
use Rattle.flush_walk.proofs.PartsLemmas.{some_key, some_string}
use Rattle.key_decode.specs.Strings.{IsStringOf}
use Rattle.row_text.specs.Lines.{EndsLine, HoldsText}
use Rattle.row_text.specs.Printed.{entry_line, entry_lines, line_behind, line_by, row_by, row_line, static_by, static_line}

pub ok_so : {T E : Type 0} (r : Result T E) (P Q : Type 0) → (P → Q) → OnOk r P → OnOk r Q
ok_so (Ok x) P Q f p = f p
ok_so (Err e) P Q f p = tt

-- ---- texts one behind the other

four_behind : (before a b c d : List ℕ) → before ++ a ++ b ++ c ++ d ≡ before ++ (a ++ b ++ c ++ d)
four_behind before a b c d =
    ap (λ l. l ++ c ++ d) (append_assoc before a b) ∙ ap (λ l. l ++ d) (append_assoc before (a ++ b) c) ∙ append_assoc before (a ++ b ++ c) d

five_behind : (before a b c d e : List ℕ) → before ++ a ++ b ++ c ++ d ++ e ≡ before ++ (a ++ b ++ c ++ d ++ e)
five_behind before a b c d e = ap (λ l. l ++ e) (four_behind before a b c d) ∙ append_assoc before (a ++ b ++ c ++ d) e

-- ---- lines

module _ (columns : Columns) where
  read_whole : (ts : Kinds) (vs : Vals) → EachFits ts vs → values_at ts (key_string ts vs) ≡ Ok (vs, [])
  read_whole ts vs fits = ap (values_at ts) (sym (append-nil (key_string ts vs))) ∙ read_key ts vs [] fits

  row_there : (partition : Vals) (string value : List ℕ) → has_some string ≡ true → line_behind columns partition string value ≡ row_by columns partition (values_at columns.clustering string) value
  row_there partition [] value some = cc
  row_there partition (b ∷ bs) value some = refl

  -- the line of a row
  pub row_named : (partition clustering : Vals) (value : List ℕ) → EachFits columns.partition partition → EachFits columns.clustering clustering
      → entry_line columns (key_string columns.partition partition ++ key_string columns.clustering clustering, value) ≡ row_line columns partition clustering value
  row_named partition clustering value fits within =
      ap (λ (r : Result (Vals × List ℕ) ℕ). line_by columns r value) (read_key columns.partition partition (key_string columns.clustering clustering) fits)
      ∙ row_there partition (key_string columns.clustering clustering) value (some_key columns.clustering clustering within)
      ∙ ap (λ (r : Result (Vals × List ℕ) ℕ). row_by columns partition r value) (read_whole columns.clustering clustering within)

  pub is_row_entry : (partition : Vals) (rest value : List ℕ) → EachFits columns.partition partition → is_row columns (key_string columns.partition partition ++ rest, value) ≡ has_some rest
  is_row_entry partition rest value fits = ap (λ (r : Result (Vals × List ℕ) ℕ). has_some (rest_behind r)) (read_key columns.partition partition rest fits)

  -- that of a static value
  pub static_named : (partition : Vals) (value : List ℕ) → EachFits columns.partition partition
      → entry_line columns (key_string columns.partition partition, value) ≡ static_by columns columns.static_value partition value
  static_named partition value fits = ap (λ (r : Result (Vals × List ℕ) ℕ). line_by columns r value) (read_whole columns.partition partition fits)

  pub is_static_entry : (partition : Vals) (value : List ℕ) → EachFits columns.partition partition → is_row columns (key_string columns.partition partition, value) ≡ false
  is_static_entry partition value fits = ap (λ (r : Result (Vals × List ℕ) ℕ). has_some (rest_behind r)) (read_whole columns.partition partition fits)

  pub static_line_named : (type : ValueType) (partition : Vals) (value : List ℕ) → columns.static_value ≡ Some type → EachFits columns.partition partition
      → entry_line columns (key_string columns.partition partition, value) ≡ static_line columns type partition value
  static_line_named type partition value is fits = static_named partition value fits ∙ ap (λ (o : Option ValueType). static_by columns o partition value) is

  -- ---- what is written

  -- the line that begins with the text of a partition's components
  pub row_ended : (string value so_far spaced named valued whole : List ℕ) → spaced ≡ so_far ++ codes " " → PutsText columns.clustering string spaced named
      → valued ≡ named ++ equals_literal columns.value value → whole ≡ valued ++ codes "\n" → EndsLine columns string value so_far whole
  row_ended string value so_far spaced named valued whole space (text, (clustering, within, is, spelled), put) equals feed before key begun (partition, fits, is_key, begins) so =
      let names = list_literal columns.clustering clustering in
      let ends = equals_literal columns.value value in
      let all = ap (λ l. l ++ codes " " ++ names ++ ends ++ codes "\n") (so ∙ ap (λ l. before ++ l) begins) in
      let built = feed ∙ ap (λ l. l ++ codes "\n") (equals ∙ ap (λ l. l ++ ends) (put ∙ ap (λ l. l ++ text) space ∙ ap (λ l. so_far ++ codes " " ++ l) spelled)) in
      let line = ap (λ (s : List ℕ). entry_line columns (s, value)) (ap (λ k. k ++ string) is_key ∙ ap (λ s. key_string columns.partition partition ++ s) is) ∙ row_named partition clustering value fits within in
      built ∙ all ∙ five_behind before (list_literal columns.partition partition) (codes " ") names ends (codes "\n") ∙ ap (λ l. before ++ l) (sym line)

  -- that of a static value, before which other lines stand
  pub static_ended : (type : ValueType) (value before key text so_far whole : List ℕ) → columns.static_value ≡ Some type → IsTextOf columns.partition key text → so_far ≡ before ++ text
      → whole ≡ so_far ++ codes " static" ++ equals_literal type value ++ codes "\n" → whole ≡ before ++ entry_line columns (key, value)
  static_ended type value before key text so_far whole is (partition, fits, is_key, begins) so put =
      let ends = equals_literal type value in
      let all = ap (λ l. l ++ codes " static" ++ ends ++ codes "\n") (so ∙ ap (λ l. before ++ l) begins) in
      let line = ap (λ (s : List ℕ). entry_line columns (s, value)) is_key ∙ static_line_named type partition value is fits in
      put ∙ all ∙ four_behind before (list_literal columns.partition partition) (codes " static") ends (codes "\n") ∙ ap (λ l. before ++ l) (sym line)

  -- a table without a static type prints nothing of one
  pub no_static : (value key text before : List ℕ) → columns.static_value ≡ None → IsTextOf columns.partition key text → before ≡ before ++ entry_line columns (key, value)
  no_static value key text before is (partition, fits, is_key, begins) =
      let line = ap (λ (s : List ℕ). entry_line columns (s, value)) is_key ∙ static_named partition value fits ∙ ap (λ (o : Option ValueType). static_by columns o partition value) is in
      sym (ap (λ l. before ++ l) line ∙ append-nil before)

  -- ---- which entries are of rows

  pub is_row_behind : (key text rest value : List ℕ) → IsTextOf columns.partition key text → is_row columns (key ++ rest, value) ≡ has_some rest
  is_row_behind key text rest value (partition, fits, is, spelled) =
      ap (λ (k : List ℕ). is_row columns (k ++ rest, value)) is ∙ is_row_entry partition rest value fits

  -- ---- lines and more of them

  pub lines_append : (entries others : List Entry) → entry_lines columns (entries ++ others) ≡ entry_lines columns entries ++ entry_lines columns others
  lines_append [] others = refl
  lines_append (entry ∷ entries) others =
      ap (λ t. entry_line columns entry ++ t) (lines_append entries others) ∙ sym (append_assoc (entry_line columns entry) (entry_lines columns entries) (entry_lines columns others))

  pub count_append : (entries others : List Entry) → row_count columns (entries ++ others) ≡ row_count columns entries + row_count columns others
  count_append [] others = omega arith
  count_append (entry ∷ entries) others = omega (arith, count_append entries others)

  pub count_few : (entries : List Entry) → row_count columns entries ≤ length entries
  count_few [] = omega arith
  count_few (entry ∷ entries) = let one = one_row (is_row columns entry) in omega (arith, one, count_few entries)
    where
      one_row : (b : Bool) → (if b then 1 else 0) ≤ 1
      one_row true = omega arith
      one_row false = omega arith

-- ---- entries one behind the other

-- the text of the same partition is kept
pub text_kept : (kinds : Kinds) (last partition text : List ℕ) → IsStringOf kinds partition → HoldsText kinds last text → last ≡ partition → IsTextOf kinds partition text
text_kept kinds last partition text string holds same =
    subst (λ (s : List ℕ). IsTextOf kinds s text) same (holds (λ e. let some = some_string kinds partition string in let none : has_some partition ≡ false = ap has_some (sym same ∙ e) in let both = sym some ∙ none in cc))
