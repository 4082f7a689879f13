-- The text of Schema.txt.
use Rattle.std.proofs.Common.{◌≡◌, ◌⊎◌, ℕ, ◌<◌, ◌≤◌, ◌^◌, min, List, ◌++◌, length, take, drop, Option, None, Some, Ok, Err, inl, inr, refl, sym, ◌∙◌, ap, subst, arith, length-append}
use Rattle.std.proofs.lemmas.List.{append_cancel_right, take_all, take-append-drop, length-take}
use Rattle.std.proofs.Math.Seq.{take-append_seam, drop-append_seam}
use Rattle.std.proofs.lemmas.Bool.{cases_lt}
use Rattle.std.specs.Prelude.{codes, IfSome}
use Rattle.outside.specs.Files.{Files, bytes_of}
use Rattle.key_types.specs.declared.schema.Schema.{Schema}
use Rattle.key_types.specs.declared.schema.ValueType.{ValueType}
use Rattle.key_types.specs.Columns.{Columns, columns_of}
use Rattle.schema_text.specs.Answers.{ReadsCanonical}
use Rattle.schema_text.specs.Bounds.{KeepsBounds}
use Rattle.schema_text.specs.Canonical.{canonical}
use Rattle.schema_text.specs.Grammar.{IsSchemaText}
use Rattle.schema_text.proofs.Unique.{one, written}
use Rattle.table_files.specs.Names.{schema_id}
use Rattle.table_files.specs.SchemaFile.{IsSchemaFile, IsWholeSchemaFile, ReadsSchemaFile, version_line}

-- ---- one schema a text

version_length : (static : Option ValueType) → length (version_line static) ≡ 12
version_length None = refl
version_length (Some type) = refl

-- the same bytes have the same first line and the same text behind it
parts_same : (line other text rest end : List ℕ) → length line ≡ 12 → length other ≡ 12 → line ++ (text ++ end) ≡ other ++ (rest ++ end) → (line ≡ other) × (text ≡ rest)
parts_same line other text rest end long also e =
    let as_long : length line ≡ length other = omega (arith, long, also) in
    let front : line ≡ other =
    sym (take-append_seam line (text ++ end)) ∙ ap (take (length line)) e ∙ ap (λ (n : ℕ). take n (other ++ (rest ++ end))) as_long ∙ take-append_seam other (rest ++ end) in
    let back : text ++ end ≡ rest ++ end =
    sym (drop-append_seam line (text ++ end)) ∙ ap (drop (length line)) e ∙ ap (λ (n : ℕ). drop n (other ++ (rest ++ end))) as_long ∙ drop-append_seam other (rest ++ end) in
    (front, append_cancel_right text rest end back)

-- a canonical text is of one schema
one_canonical : (c d : Columns) → KeepsBounds c → KeepsBounds d → canonical c ≡ canonical d → c ≡ d
one_canonical c d h k e = one c d (canonical c) (written c h) (subst (IsSchemaText d) (sym e) (written d k))

pub one_schema : (bytes : List ℕ) (c d : Columns) → IsSchemaFile c bytes → IsSchemaFile d bytes → c ≡ d
one_schema bytes c d (h, e) (k, f) =
    let parts = parts_same (version_line c.static_value) (version_line d.static_value) (canonical c) (canonical d) (codes "\nend\n") (version_length c.static_value) (version_length d.static_value) (sym e ∙ f) in
    one_canonical c d h.0 k.0 parts.1

-- ---- what is read

-- parted behind twelve bytes
pub text_there : (bytes line rest text end : List ℕ) → line ≡ take 12 bytes → rest ≡ drop 12 bytes → 12 ≤ length bytes → rest ≡ text ++ end → (length line ≡ 12) × (bytes ≡ line ++ (text ++ end))
text_there bytes line rest text end front back long e = (
  omega (arith, ap length front, length-take 12 bytes),
  sym (take-append-drop 12 bytes) ∙ ap (λ (l : List ℕ). l ++ drop 12 bytes) (sym front) ∙ ap (λ (r : List ℕ). line ++ r) (sym back ∙ e),
)

pub none_there : (bytes rest end : List ℕ) → rest ≡ drop 12 bytes → ((front : List ℕ) → rest ≡ front ++ end → ⊥) → (line text : List ℕ) → length line ≡ 12 → bytes ≡ line ++ (text ++ end) → ⊥
none_there bytes rest end back never line text long e =
    never text (back ∙ ap (λ (n : ℕ). drop n bytes) (sym long) ∙ ap (drop (length line)) e ∙ drop-append_seam line (text ++ end))

-- nothing but a first line of twelve bytes and an end is a whole text
pub no_text : (bytes : List ℕ) → ((line text : List ℕ) → length line ≡ 12 → bytes ≡ line ++ (text ++ codes "\nend\n") → ⊥) → ¬ (IsWholeSchemaFile bytes)
no_text bytes never (columns, (are, e)) = never (version_line columns.static_value) (canonical columns) (version_length columns.static_value) e

module _ (bytes line text : List ℕ) (long : length line ≡ 12) (is : bytes ≡ line ++ (text ++ codes "\nend\n")) where
  parts_of : (columns : Columns) → IsSchemaFile columns bytes → (line ≡ version_line columns.static_value) × (text ≡ canonical columns)
  parts_of columns (are, e) = parts_same line (version_line columns.static_value) text (canonical columns) (codes "\nend\n") long (version_length columns.static_value) (sym is ∙ e)

  -- the text is no canonical one
  pub no_canonical : ReadsCanonical text (Ok None) → ¬ (IsWholeSchemaFile bytes)
  no_canonical none (columns, (are, e)) =
      let parts = parts_of columns (are, e) in
      none columns are.0 parts.1 (subst (λ (t : List ℕ). length t ≤ 4000) (sym parts.1) are.1)

  module _ (schema : Schema) (bounds : KeepsBounds (columns_of schema)) (read : ReadsCanonical text (Ok (Some schema))) where
    -- it is, and the first line is of its version
    pub is_schema : line ≡ version_line schema.static_value → IsSchemaFile (columns_of schema) bytes
    is_schema same = (
      (bounds, subst (λ (t : List ℕ). length t ≤ 4000) read.0 read.1),
      is ∙ ap (λ (l : List ℕ). l ++ (text ++ codes "\nend\n")) same ∙ ap (λ (t : List ℕ). version_line schema.static_value ++ (t ++ codes "\nend\n")) read.0,
    )

    -- it is, and the first line is another
    pub other_version : (line ≡ version_line schema.static_value → ⊥) → ¬ (IsWholeSchemaFile bytes)
    other_version apart (columns, (are, e)) =
        let parts = parts_of columns (are, e) in
        let same : columns ≡ columns_of schema = one_canonical columns (columns_of schema) are.0 bounds (sym parts.1 ∙ read.0) in
        apart (parts.0 ∙ ap (λ (c : Columns). version_line c.static_value) same)

-- ---- from a page

schema_length : (columns : Columns) (bytes : List ℕ) → IsSchemaFile columns bytes → length bytes ≤ 4017
schema_length columns bytes (are, e) =
    let few = are.1 in
    omega (arith, ap length e, version_length columns.static_value, length-append (version_line columns.static_value) (canonical columns ++ codes "\nend\n"), length-append (canonical columns) (codes "\nend\n"))

module _ (file page : List ℕ) (n : ℕ) (long : length page ≡ 4096) (count : n ≡ min (length page) (length (drop 0 file))) (same : take n page ≡ take n (drop 0 file)) where
  all_there : length file ≤ 4096 → take n page ≡ file
  all_there few = same ∙ take_all n file (omega (arith, count, long))

  cut_off : 4096 < length file → length (take n page) ≡ 4096
  cut_off more = omega (arith, ap length same, length-take n file, count, long)

  pub read_file : (o : Option Schema) → ReadsSchemaFile (take n page) o → ReadsSchemaFile file o
  read_file o read = by o read (cases_lt 4096 (length file))
    where
      by : (o : Option Schema) → ReadsSchemaFile (take n page) o → (4096 < length file) ⊎ (length file ≤ 4096) → ReadsSchemaFile file o
      by o read (inr few) = subst (λ (b : List ℕ). ReadsSchemaFile b o) (all_there few) read
      by (Some schema) read (inl more) = absurd (omega (arith, schema_length (columns_of schema) (take n page) read, cut_off more))
      by None read (inl more) = λ (columns, is). omega (arith, schema_length columns file is)

-- over the files that are told
pub read_there : (files : Option Files) (generation : ℕ) (page : List ℕ) (n : ℕ) (o : Option Schema) → length page ≡ 4096
    → IfSome files (λ m. (n ≡ min (length page) (length (drop 0 (bytes_of m (schema_id generation))))) × (take n page ≡ take n (drop 0 (bytes_of m (schema_id generation)))) × (length (bytes_of m (schema_id generation)) < 2 ^ 62))
    → ReadsSchemaFile (take n page) o → IfSome files (λ m. ReadsSchemaFile (bytes_of m (schema_id generation)) o)
read_there None generation page n o long read is = tt
read_there (Some m) generation page n o long read is = read_file (bytes_of m (schema_id generation)) page n long read.0 read.1 o is
