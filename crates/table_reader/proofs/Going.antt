-- What a walk's step goes over, and how far the next entry of its range is then.
use Rattle.std.proofs.Common.{◌≡◌, ◌≢◌, ◌∙◌, ℕ, ◌+◌, ◌≤◌, ◌/◌, ◌%◌, Bool, true, false, List, [], ◌∷◌, ◌++◌, length, drop, Option, None, Some, arith, ap, append_assoc, length-append, refl, subst, sym}
use Rattle.std.specs.Prelude.{if◌then◌else◌, not}
use Rattle.std.specs.Ordering.{is_lt}
use Rattle.length_prefix.proofs.Counts.{counted-same}
use Rattle.key_types.specs.Columns.{Columns, IsValueOf}
use Rattle.key_types.specs.declared.schema.ValueType.{ValueType}
use Rattle.key_types.specs.declared.schema.ValueType.TheVariants.{Text, Blob}
use Rattle.key_decode.specs.Strings.{IsStringOf}
use Rattle.key_decode.proofs.Known.{string_length}
use Rattle.data_file.specs.Listing.{ArePartitions, FitsStaticType, IsRow, Partition, Row, data_bytes, head_bytes, row_bytes, rows_bytes, static_part_bytes}
use Rattle.data_file.proofs.Unique.{row_front, static_part_front}
use Rattle.table_files.specs.Blocks.{rows_at}
use Rattle.table_files.specs.Standing.{RowsAscend}
use Rattle.table_files.proofs.Passing.{behind}
use Rattle.table_reader.specs.declared.seek.BoundString.{BoundString}
use Rattle.table_reader.specs.Going.{ListsOn, between_rows, bytes_ahead, bytes_of_partitions, bytes_of_rows, gives_static, is_lower}
use Rattle.table_reader.specs.Ranges.{IsBelow}
use Rattle.table_reader.specs.StepsOver.{IsOfStatic, StepsOver}
use Rattle.table_reader.specs.Window.{enough}
use Rattle.table_reader.proofs.Whole.{grouped}

-- ---- lengths

value_short : (type : ValueType) (value : List ℕ) → IsValueOf type value → length value ≤ 65535
value_short Text value is = is.0
value_short Blob value is = is

pub row_short : (columns : Columns) (clustering value : List ℕ) → IsRow columns clustering value → length (row_bytes clustering value) ≤ enough
row_short columns clustering value is =
    omega (
      arith,
      string_length columns.clustering clustering is.0,
      value_short columns.value value is.1,
      length-append (length clustering / 256 ∷ length clustering % 256 ∷ clustering) (length value / 256 ∷ length value % 256 ∷ value),
    )

part_short : (type : Option ValueType) (static_part : Option (List ℕ)) → FitsStaticType type static_part → length (static_part_bytes type static_part) ≤ 65538
part_short None static_part fits = omega arith
part_short (Some type) None fits = omega arith
part_short (Some type) (Some value) fits = let short = value_short type value fits in omega (arith, short)

no_part_short : (type : Option ValueType) (static_part : Option (List ℕ)) → static_part ≡ None → length (static_part_bytes type static_part) ≤ 1
no_part_short None static_part none = omega arith
no_part_short (Some type) None none = omega arith
no_part_short (Some type) (Some value) none = cc

module _ (columns : Columns) where
  pub head_short : (key : List ℕ) (static_part : Option (List ℕ)) → IsStringOf columns.partition key → FitsStaticType columns.static_value static_part
      → length (head_bytes key ++ static_part_bytes columns.static_value static_part) ≤ enough
  head_short key static_part string fits =
      omega (arith, string_length columns.partition key string, part_short columns.static_value static_part fits, length-append (head_bytes key) (static_part_bytes columns.static_value static_part))

  pub lone_head_short : (key : List ℕ) (static_part : Option (List ℕ)) → IsStringOf columns.partition key → static_part ≡ None
      → length (head_bytes key ++ static_part_bytes columns.static_value static_part) ≤ 1027
  lone_head_short key static_part string none =
      omega (arith, string_length columns.partition key string, no_part_short columns.static_value static_part none, length-append (head_bytes key) (static_part_bytes columns.static_value static_part))

-- ---- tests

pub lower_true : (from : Option BoundString) (partition within : List ℕ) → IsBelow from partition within → is_lower from partition within ≡ true
lower_true None partition within below = absurd below
lower_true (Some bound) partition within below = ap is_lt below

not_given : (from : Option BoundString) (partition : List ℕ) (static_part : Option (List ℕ)) → IsOfStatic (IsBelow from) partition static_part → gives_static from partition static_part ≡ false
not_given from partition None below = refl
not_given from partition (Some value) below = ap not (lower_true from partition [] below)

of_static : (P Q : List ℕ → List ℕ → Type 0) (partition : List ℕ) (static_part : Option (List ℕ)) → ((p w : List ℕ) → P p w → Q p w) → IsOfStatic P partition static_part → IsOfStatic Q partition static_part
of_static P Q partition None on is = tt
of_static P Q partition (Some value) on is = on partition [] is

pub row_lies_below : (from : Option BoundString) (key : List ℕ) (row : Row) (rows : List Row) (behind : ℕ) → is_lower from key row.clustering ≡ true
    → bytes_of_rows from key (row ∷ rows) behind ≡ length (row_bytes row.clustering row.value) + bytes_of_rows from key rows behind
row_lies_below from key row rows behind low = ap (λ (b : Bool). if b then length (row_bytes row.clustering row.value) + bytes_of_rows from key rows behind else 0) low

pub row_comes : (from : Option BoundString) (key : List ℕ) (row : Row) (rows : List Row) (behind : ℕ) → is_lower from key row.clustering ≡ false → bytes_of_rows from key (row ∷ rows) behind ≡ 0
row_comes from key row rows behind high = ap (λ (b : Bool). if b then length (row_bytes row.clustering row.value) + bytes_of_rows from key rows behind else 0) high

-- ---- soon

one_soon : (from : Option BoundString) (key : List ℕ) (static_part : Option (List ℕ)) (rows : List Row) (behind size : ℕ) → ((within : List ℕ) → is_lower from key within ≡ false)
    → (static_part ≡ None → rows ≢ []) → (static_part ≡ None → size ≤ 1027) → (if gives_static from key static_part then 0 else size + bytes_of_rows from key rows behind) ≤ 1027
one_soon from key None [] behind size high some small = absurd (some refl refl)
one_soon from key None (row ∷ rows) behind size high some small = let here = row_comes from key row rows behind (high row.clustering) in omega (arith, small refl, here)
one_soon from key (Some value) rows behind size high some small =
    let given : gives_static from key (Some value) ≡ true = ap not (high []) in
    let none : (if gives_static from key (Some value) then 0 else size + bytes_of_rows from key rows behind) ≡ 0 = ap (λ (b : Bool). if b then 0 else size + bytes_of_rows from key rows behind) given in
    omega (arith, none)

-- the first partition isn't below the bound
abbrev pub FirstIsHigh : Option BoundString → List Partition → Type 0
FirstIsHigh from [] = Unit {0}
FirstIsHigh from (p ∷ ps) = (within : List ℕ) → is_lower from p.key within ≡ false

pub partitions_soon : (columns : Columns) (from : Option BoundString) (ps : List Partition) → FirstIsHigh from ps → ArePartitions columns ps → RowsAscend ps
    → bytes_of_partitions from columns.static_value ps ≤ 1027
partitions_soon columns from [] high are some = omega arith
partitions_soon columns from (p ∷ ps) high are some =
    one_soon from p.key p.static_part p.rows (bytes_of_partitions from columns.static_value ps) (rows_at columns.static_value p) high some.0 (lone_head_short columns p.key p.static_part are.0)

-- without a bound every partition is high
pub all_high : (ps : List Partition) → FirstIsHigh None ps
all_high [] = tt
all_high (p ∷ ps) = λ within. refl

rows_soon : (key : List ℕ) (rows : List Row) (behind : ℕ) → behind ≤ 1027 → bytes_of_rows None key rows behind ≤ between_rows
rows_soon key [] behind few = omega (arith, few)
rows_soon key (row ∷ rows) behind few = omega arith

pub comes_soon : (columns : Columns) (file : List ℕ) (inside : Option (List ℕ)) (at : ℕ) (rows : List Row) (ps : List Partition) → ListsOn columns file inside at rows ps
    → bytes_ahead None columns.static_value inside rows ps ≤ between_rows
comes_soon columns file None at rows ps lists = omega (arith, partitions_soon columns None ps (all_high ps) lists.2 lists.3)
comes_soon columns file (Some key) at rows ps lists = rows_soon key rows (bytes_of_partitions None columns.static_value ps) (partitions_soon columns None ps (all_high ps) lists.2 lists.3)

-- ---- a step

module _ (columns : Columns) (file : List ℕ) where
  abbrev static : Option ValueType
  static = columns.static_value

  -- the first of some partitions has this head and this static part, and the rest stands behind it
  record HeadFirst (ps : List Partition) (key : List ℕ) (static_part : Option (List ℕ)) (rest : List ℕ) : Type 0 where
    p : Partition
    more : List Partition
    parts : ps ≡ p ∷ more
    key_is : key ≡ p.key
    static_is : static_part ≡ p.static_part
    rest_is : rest ≡ rows_bytes p.rows ++ 0 ∷ data_bytes static more

  head_first : (ps : List Partition) (key : List ℕ) (static_part : Option (List ℕ)) (rest : List ℕ) → ArePartitions columns ps → FitsStaticType static static_part
      → data_bytes static ps ≡ (head_bytes key ++ static_part_bytes static static_part) ++ rest → HeadFirst ps key static_part rest
  head_first [] key static_part rest are fits e = cc
  head_first (p ∷ more) key static_part rest are fits e =
      let heads = counted-same p.key key (static_part_bytes static p.static_part ++ (rows_bytes p.rows ++ 0 ∷ data_bytes static more)) (static_part_bytes static static_part ++ rest)
      (sym (grouped (head_bytes p.key) (static_part_bytes static p.static_part) (rows_bytes p.rows) (data_bytes static more)) ∙ e ∙ append_assoc (head_bytes key) (static_part_bytes static static_part) rest) in
      let parts = static_part_front static p.static_part static_part (rows_bytes p.rows ++ 0 ∷ data_bytes static more) rest are.1 fits heads.1 in
      record { p = p; more = more; parts = refl; key_is = sym heads.0; static_is = sym parts.0; rest_is = sym parts.1 }

  -- what Data.db lists behind a step, which isn't long; where it goes over something below a bound, it comes so much nearer
  pub record Follows (Is : List ℕ → List ℕ → Type 0) (inside : Option (List ℕ)) (at : ℕ) (rows : List Row) (ps : List Partition) (inside' : Option (List ℕ)) (at' : ℕ) : Type 0 where
    pub rows' : List Row
    pub ps' : List Partition
    pub lists : ListsOn columns file inside' at' rows' ps'
    pub short : at' ≤ at + enough
    pub nearer : (from : Option BoundString) → ((p w : List ℕ) → Is p w → IsBelow from p w)
        → at' + bytes_ahead from static inside' rows' ps' ≡ at + bytes_ahead from static inside rows ps

  over_head : (Is : List ℕ → List ℕ → Type 0) (key : List ℕ) (at at' : ℕ) (ps : List Partition) (static_part : Option (List ℕ)) (rest : List ℕ) → HeadFirst ps key static_part rest
      → ArePartitions columns ps → RowsAscend ps → IsStringOf columns.partition key → FitsStaticType static static_part → IsOfStatic Is key static_part
      → drop at file ≡ (head_bytes key ++ static_part_bytes static static_part) ++ rest → at' ≡ at + length (head_bytes key ++ static_part_bytes static static_part)
      → Follows Is None at [] ps (Some key) at'
  over_head Is key at at' ps static_part rest h are some string fits so here place =
      let are_parts = subst (ArePartitions columns) h.parts are in
      let size : length (head_bytes key ++ static_part_bytes static static_part) ≡ rows_at static h.p = λ i. length (head_bytes (h.key_is i) ++ static_part_bytes static (h.static_is i)) in
      record {
        rows' = h.p.rows;
        ps' = h.more;
        lists = (
          are_parts.2,
          ap (λ k. drop k file) place ∙ behind file (head_bytes key ++ static_part_bytes static static_part) rest at here ∙ h.rest_is,
          are_parts.3,
          (subst RowsAscend h.parts some).2,
        );
        short = omega (arith, place, head_short columns key static_part string fits);
        nearer = λ from on.
            let behind = bytes_of_partitions from static h.more in
            let low : gives_static from h.p.key h.p.static_part ≡ false =
            (λ i. gives_static from (sym h.key_is i) (sym h.static_is i)) ∙ not_given from key static_part (of_static Is (IsBelow from) key static_part on so) in
            let passed : bytes_of_partitions from static ps ≡ rows_at static h.p + bytes_of_rows from h.p.key h.p.rows behind =
            ap (bytes_of_partitions from static) h.parts ∙ ap (λ (b : Bool). if b then 0 else rows_at static h.p + bytes_of_rows from h.p.key h.p.rows behind) low in
            omega (arith, place, size, passed, ap (λ (k : List ℕ). bytes_of_rows from k h.p.rows behind) h.key_is);
      }

  pub follows : (Is : List ℕ → List ℕ → Type 0) (inside inside' : Option (List ℕ)) (at at' : ℕ) (rows : List Row) (ps : List Partition) → ListsOn columns file inside at rows ps
      → StepsOver columns Is file inside at inside' at' → Follows Is inside at rows ps inside' at'
  follows Is None None at at' rows ps lists step = absurd step
  follows Is None (Some key) at at' rows ps (none, bytes, are, some) (static_part, rest, string, fits, so, here, place) =
      subst (λ (rs : List Row). Follows Is None at rs ps (Some key) at') (sym none)
      (over_head Is key at at' ps static_part rest (head_first ps key static_part rest are fits (sym bytes ∙ here)) are some string fits so here place)
  follows Is (Some key) None at at' [] ps (are, bytes, more, some) (rest, here, place) =
      let both : 0 ∷ rest ≡ 0 ∷ data_bytes static ps = sym here ∙ bytes in
      let same : rest ≡ data_bytes static ps = cc in
      record {
        rows' = [];
        ps' = ps;
        lists = (refl, ap (λ k. drop k file) place ∙ behind file (0 ∷ []) rest at here ∙ same, more, some);
        short = omega (arith, place);
        nearer = λ from on. omega (arith, place);
      }
  follows Is (Some key) None at at' (row ∷ rows) ps (are, bytes, more, some) (rest, here, place) =
      let apart : 0 ∷ rest ≡ row_bytes row.clustering row.value ++ (rows_bytes rows ++ 0 ∷ data_bytes static ps) =
      sym here ∙ bytes ∙ append_assoc (row_bytes row.clustering row.value) (rows_bytes rows) (0 ∷ data_bytes static ps) in
      cc
  follows Is (Some key) (Some key') at at' [] ps (are, bytes, more, some) (clustering, value, rest, same, is, so, here, place) =
      let apart : 0 ∷ data_bytes static ps ≡ row_bytes clustering value ++ rest = sym bytes ∙ here in cc
  follows Is (Some key) (Some key') at at' (row ∷ rows) ps (are, bytes, more, some) (clustering, value, rest, same, is, so, here, place) =
      let one = row_front clustering value rest row.clustering row.value (rows_bytes rows ++ 0 ∷ data_bytes static ps)
      (sym here ∙ bytes ∙ append_assoc (row_bytes row.clustering row.value) (rows_bytes rows) (0 ∷ data_bytes static ps)) in
      let size : length (row_bytes clustering value) ≡ length (row_bytes row.clustering row.value) = λ i. length (row_bytes (one.0 i) (one.1 i)) in
      record {
        rows' = rows;
        ps' = ps;
        lists = (are.1, ap (λ k. drop k file) place ∙ behind file (row_bytes clustering value) rest at here ∙ one.2, more, some);
        short = omega (arith, place, row_short columns clustering value is);
        nearer = λ from on.
            let last = bytes_of_partitions from static ps in
            let low : is_lower from key row.clustering ≡ true = ap (λ (c : List ℕ). is_lower from key c) (sym one.0) ∙ lower_true from key clustering (on key clustering so) in
            omega (arith, place, size, row_lies_below from key row rows last low, ap (λ (k : List ℕ). bytes_of_rows from k rows last) same);
      }
