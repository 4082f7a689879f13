-- The entries of a table, given to the writer of its files.
use Rattle.std.proofs.Common.{◌≡◌, ℕ, ◌+◌, ◌≤◌, Bool, true, false, ◌&&◌, ◌||◌, List, [], ◌∷◌, ◌++◌, length, map, Option, None, Some, Result, Ok, Err, IsErr, OnErr, inl, inr, unwrap_or, refl, sym, ◌∙◌, ap, subst, arith}
use Rattle.std.proofs.lemmas.List.{append-nil, length-append}
use Rattle.std.specs.Prelude.{T, if◌then◌else◌, is_some, nat_eq}
use Rattle.std.specs.declared.cmp.Ordering.{Ordering}
use Rattle.std.specs.declared.cmp.Ordering.TheVariants.{Less, Equal, Greater}
use Rattle.std.specs.Ordering.{is_lt}
use Rattle.std.specs.Cmp.Lexicographic.{pointwise, same_text, other_text}
use Rattle.std.specs.FinMap as finite
use Rattle.std.specs.FinMap.Entries.{below_all, is_sorted}
use Rattle.outside.specs.Files.{Files}
use Rattle.key_types.specs.Columns.{Columns}
use Rattle.key_types.specs.Table.{Entry, string_cmp}
use Rattle.key_decode.specs.Strings.{IsStringOf}
use Rattle.data_file.specs.Listing.{AreRows, ArePartitions, Partition, Row}
use Rattle.data_file.specs.declared.writer.Counts.{Counts}
use Rattle.table_files.specs.Names.{data_id, partitions_id, rows_id, schema_id}
use Rattle.table_files.specs.Standing.{AreOfTable, entries_in, row_entries, static_entries}
use Rattle.table_files.specs.There.{any_there, file_there}
use Rattle.flush_walk.specs.declared.writer.TableWriter.{TableWriter}
use Rattle.flush_walk.specs.Given.{Flushing, Given, IsAboveLast, TakesEntries, TakesEntry, entry_given, growing_of, last_clustering, map_entry, nothing_given, partitions_given, with_entries, with_entry}
use Rattle.flush_walk.specs.Growing.{FourFiles, HaveBytes, NoneOf}
use Rattle.flush_walk.specs.Writing.{AreBegun, BeginsFiles, FinishesTable, LeavesBegun, WritesTable, files_of_table, rows_in_all}
use Rattle.flush_walk.proofs.Moves.{grows_torn}
use Rattle.flush_walk.proofs.Prefixes.{torn_begun}
use Rattle.flush_walk.proofs.Onward.{begins_same, is_last, left_begun, same_all, same_next, taken, taken_on}
use Rattle.flush_walk.specs.Entries.{clustering_in, has_some, partition_in, row_count}
use Rattle.flush_walk.specs.Flushed.{Flushes, all_given}
use Rattle.flush_walk.specs.TableEntries.{AreTableEntries, IsTableEntry, given_in}
use Rattle.flush_walk.proofs.Ascending.{partition_less, row_less}
use Rattle.flush_walk.proofs.PartsLemmas.{row_part, some_string}

both : (a b : Bool) → T (a && b) → T a × T b
both true b t = (tt, t)
both false b t = absurd t

less_is : (o : Ordering) → T (is_lt o) → o ≡ Less
less_is Less t = refl
less_is Equal t = absurd t
less_is Greater t = absurd t

first_less : (e f : Entry) (es : List Entry) → T (is_sorted string_cmp (e ∷ f ∷ es)) → string_cmp e.0 f.0 ≡ Less
first_less e f es sorted =
    let below = (both (below_all string_cmp e.0 (f ∷ es)) (is_sorted string_cmp (f ∷ es)) sorted).0 in
    less_is (string_cmp e.0 f.0) (both (is_lt (string_cmp e.0 f.0)) (below_all string_cmp e.0 es) below).0

rest_sorted : (e : Entry) (es : List Entry) → T (is_sorted string_cmp (e ∷ es)) → T (is_sorted string_cmp es)
rest_sorted e es sorted = (both (below_all string_cmp e.0 es) (is_sorted string_cmp es) sorted).1

-- ---- they may be given, one behind the other

module _ (generation : ℕ) (columns : Columns) where
  -- the first of them is above the last that was given
  abbrev IsNext : Flushing → List Entry → Type 0
  IsNext w [] = Unit {0}
  IsNext w (e ∷ es) = IsAboveLast w w.current (given_in columns e)

  module _ (e f : Entry) (is_e : IsTableEntry columns e) (is_f : IsTableEntry columns f) (less : string_cmp e.0 f.0 ≡ Less) where
    above_by : (w : Flushing) (p : Partition) → p.key ≡ partition_in columns e.0 → last_clustering p.rows ≡ clustering_in columns e.0
        → (t : Bool) → pointwise nat_eq (partition_in columns e.0) (partition_in columns f.0) ≡ t → IsAboveLast w (Some p) (given_in columns f)
    above_by w p key last true is =
        let same : partition_in columns e.0 ≡ partition_in columns f.0 = same_text (partition_in columns e.0) (partition_in columns f.0) (sym is) in
        inr (key ∙ same, ap (λ (c : List ℕ). string_cmp c (clustering_in columns f.0)) last ∙ row_less columns e f is_e is_f less same)
    above_by w p key last false is =
        inl (ap (λ (k : List ℕ). string_cmp k (partition_in columns f.0)) key
        ∙ partition_less columns e f is_e is_f less (other_text (partition_in columns e.0) (partition_in columns f.0) (sym is)))

    next_above : (w : Flushing) → IsAboveLast (with_entry w (given_in columns e)) (with_entry w (given_in columns e)).current (given_in columns f)
    next_above w =
        let last = is_last w (given_in columns e) in
        let next = with_entry w (given_in columns e) in
        subst (λ (o : Option Partition). IsAboveLast next o (given_in columns f)) (sym last.current)
        (above_by next last.p last.key last.last (pointwise nat_eq (partition_in columns e.0) (partition_in columns f.0)) refl)

  next_is : (w : Flushing) (e : Entry) (es : List Entry) → AreTableEntries columns (e ∷ es) → T (is_sorted string_cmp (e ∷ es))
      → IsNext (with_entry w (given_in columns e)) es
  next_is w e [] are sorted = tt
  next_is w e (f ∷ es) are sorted = next_above e f are.0 are.1.0 (first_less e f es sorted) w

  takes_one : (w : Flushing) (e : Entry) → w.columns ≡ columns → IsTableEntry columns e → IsAboveLast w w.current (given_in columns e)
      → length (entries_in (partitions_given w)) + 1 ≤ 1000000 → TakesEntry w (given_in columns e)
  takes_one w e is h above few =
      let of = λ (cs : Columns). TakesEntry (record w { columns = cs }) (given_in columns e) in
      subst of (sym is) (record { partition = h.partition; behind = h.behind; above = above; few = omega (arith, few) })

  pub takes_all : (w : Flushing) (es : List Entry) → w.columns ≡ columns → AreTableEntries columns es → T (is_sorted string_cmp es) → IsNext w es
      → length (entries_in (partitions_given w)) + length es ≤ 1000000 → AreOfTable w.columns (partitions_given w) → TakesEntries w (map (given_in columns) es)
  takes_all w [] is are sorted next few table = tt
  takes_all w (e ∷ es) is are sorted next few table =
      let g = given_in columns e in
      let one = takes_one w e is are.0 next (omega (arith, few)) in
      let more = taken w g one table in (
        one,
        takes_all (with_entry w g) es ((same_next w g).columns ∙ is) are.1 (rest_sorted e es sorted) (next_is w e es are sorted)
            (omega (arith, few, ap (λ (xs : List Entry). length xs) more.entries, length-append (entries_in (partitions_given w)) (map_entry g ∷ []))) (taken_on w g one table),
      )

  pub no_table : AreOfTable columns []
  no_table = record { are = tt; ascend = tt; rows = tt; few = omega arith }

  first_is : (files : Option Files) (es : List Entry) → IsNext (nothing_given generation columns files) es
  first_is files [] = tt
  first_is files (e ∷ es) = refl

  pub entries_taken : (files : Option Files) (es : List Entry) → AreTableEntries columns es → T (is_sorted string_cmp es) → length es ≤ 1000000
      → TakesEntries (nothing_given generation columns files) (map (given_in columns) es)
  entries_taken files es are sorted few =
      takes_all (nothing_given generation columns files) es refl are sorted (first_is files es) (omega (arith, few)) no_table

  -- ---- the entries of what was given

  entry_back : (e : Entry) → IsTableEntry columns e → map_entry (given_in columns e) ≡ e
  entry_back e is = ap (λ (s : List ℕ). (s, e.1)) is.parts

  pub entries_back : (es : List Entry) → AreTableEntries columns es → map map_entry (map (given_in columns) es) ≡ es
  entries_back [] are = refl
  entries_back (e ∷ es) are =
      ap (λ (x : Entry). x ∷ map map_entry (map (given_in columns) es)) (entry_back e are.0) ∙ ap (λ (xs : List Entry). e ∷ xs) (entries_back es are.1)

  -- ---- a step

  module _ (w all : Flushing) {es rest : List Entry} {key string partition clustering value bytes : List ℕ} (is : es ≡ (key, value) ∷ rest) (string_is : string ≡ key)
      (partition_is : partition ≡ partition_in columns string) (clustering_is : clustering ≡ clustering_in columns string) (bytes_is : bytes ≡ value) where
    given_is : given_in columns (key, value) ≡ entry_given partition clustering bytes
    given_is = λ i. entry_given (sym (partition_is ∙ ap (partition_in columns) string_is) i) (sym (clustering_is ∙ ap (clustering_in columns) string_is) i) (sym bytes_is i)

    pub takes_split : TakesEntries w (map (given_in columns) es)
        → TakesEntry w (entry_given partition clustering bytes) × TakesEntries (with_entry w (entry_given partition clustering bytes)) (map (given_in columns) rest)
    takes_split h =
        subst (λ (e : Given). TakesEntry w e × TakesEntries (with_entry w e) (map (given_in columns) rest)) given_is
        (subst (λ (xs : List Entry). TakesEntries w (map (given_in columns) xs)) is h)

    pub whole_split : with_entries w (map (given_in columns) es) ≡ all → with_entries (with_entry w (entry_given partition clustering bytes)) (map (given_in columns) rest) ≡ all
    whole_split h =
        subst (λ (e : Given). with_entries (with_entry w e) (map (given_in columns) rest) ≡ all) given_is
        (subst (λ (xs : List Entry). with_entries w (map (given_in columns) xs) ≡ all) is h)

    pub stopped_begun : (s : TableWriter) (f0 f1 : Option Files) → WritesTable s w f0 → TakesEntries w (map (given_in columns) es) → with_entries w (map (given_in columns) es) ≡ all
        → LeavesBegun (with_entry w (entry_given partition clustering bytes)) f1 → BeginsFiles all (partitions_given all) f1
    stopped_begun s f0 f1 writes takes whole left =
        let e = entry_given partition clustering bytes in
        let parts = takes_split takes in
        subst (λ (v : Flushing). BeginsFiles v (partitions_given v) f1) (whole_split whole)
        (left_begun (with_entry w e) (map (given_in columns) rest) f1 parts.1 (taken_on w e parts.0 writes.table) left)

  -- what stands where no entry more was given
  pub held_begun : (w all : Flushing) (es : List Entry) (s : TableWriter) (f : Option Files) → WritesTable s w f → TakesEntries w (map (given_in columns) es)
      → with_entries w (map (given_in columns) es) ≡ all → BeginsFiles all (partitions_given all) f
  held_begun w all es s f writes takes whole =
      subst (λ (v : Flushing). BeginsFiles v (partitions_given v) f) whole
      (left_begun w (map (given_in columns) es) f takes writes.table (torn_begun w f (grows_torn s.files (growing_of w) f writes.grows)))

  pub entries_split : {es rest : List Entry} {key value : List ℕ} → es ≡ (key, value) ∷ rest → AreTableEntries columns es → IsTableEntry columns (key, value) × AreTableEntries columns rest
  entries_split is h = subst (AreTableEntries columns) is h

  pub whole_end : (w all : Flushing) (es : List Entry) → es ≡ [] → with_entries w (map (given_in columns) es) ≡ all → w ≡ all
  whole_end w all es is h = subst (λ (xs : List Entry). with_entries w (map (given_in columns) xs) ≡ all) is h

  -- ---- none of it

  neither : (a b : Bool) → (a || b) ≡ false → (a ≡ false) × (b ≡ false)
  neither true b e = cc
  neither false b e = (refl, e)

  no_bytes : (o : Option (List ℕ)) → is_some o ≡ false → unwrap_or o [] ≡ []
  no_bytes None e = refl
  no_bytes (Some bytes) e = cc

  abbrev none : FourFiles
  none = record { listing = []; rows = []; partitions = []; schema = [] }

  have_none : (m : Files) → any_there generation m ≡ false → HaveBytes generation none m m
  have_none m e =
      let listing = file_there m (data_id generation) in
      let index = file_there m (partitions_id generation) in
      let rows = file_there m (rows_id generation) in
      let a = neither (listing || index || rows) (file_there m (schema_id generation)) e in
      let b = neither (listing || index) rows a.0 in
      let c = neither listing index b.0 in
      record {
        listing = no_bytes (finite.get m (data_id generation)) c.0;
        rows = no_bytes (finite.get m (rows_id generation)) b.1;
        partitions = no_bytes (finite.get m (partitions_id generation)) c.1;
        schema = no_bytes (finite.get m (schema_id generation)) a.1;
        others = λ file apart. refl;
      }

  none_begun : (whole : FourFiles) → AreBegun none whole
  none_begun whole = record {
    listing = (whole.listing, refl);
    rows = (whole.rows, refl);
    partitions = (whole.partitions, refl);
    schema = (whole.schema, refl);
    last = λ some. absurd (some refl);
  }

  nothing_begun : (ps : List Partition) (files : Option Files) → NoneOf generation files → BeginsFiles (nothing_given generation columns files) ps files
  nothing_begun ps None h = tt
  nothing_begun ps (Some m) h = (none, none_begun (files_of_table columns ps), have_none m h)

  pub never_begun : (es : List Entry) (files : Option Files) → NoneOf generation files → BeginsFiles (all_given generation columns files es) (partitions_given (all_given generation columns files es)) files
  never_begun es files h =
      let first = nothing_given generation columns files in
      begins_same first (all_given generation columns files es) (partitions_given (all_given generation columns files es)) files (same_all first (map (given_in columns) es))
      (nothing_begun (partitions_given (all_given generation columns files es)) files h)

  -- ---- how many rows

  count_static : (key : List ℕ) (part : Option (List ℕ)) (rest : List Entry) → IsStringOf columns.partition key → row_count columns (static_entries key part ++ rest) ≡ row_count columns rest
  count_static key None rest is = refl
  count_static key (Some value) rest is =
      let none : 0 + row_count columns rest ≡ row_count columns rest = omega arith in
      ap (λ (c : List ℕ). (if has_some c then 1 else 0) + row_count columns rest) (row_part columns key key [] is (sym (append-nil key))) ∙ none

  count_rows : (key : List ℕ) (rows : List Row) (rest : List Entry) → IsStringOf columns.partition key → AreRows columns rows
      → row_count columns (row_entries key rows ++ rest) ≡ length rows + row_count columns rest
  count_rows key [] rest is are = omega arith
  count_rows key (row ∷ rows) rest is are =
      let some : has_some (clustering_in columns (key ++ row.clustering)) ≡ true =
      ap has_some (row_part columns (key ++ row.clustering) key row.clustering is refl) ∙ some_string columns.clustering row.clustering are.0.0 in
      let one : ◌≡◌ {A = ℕ} (if has_some (clustering_in columns (key ++ row.clustering)) then 1 else 0) 1 = ap (λ (b : Bool). if b then 1 else 0) some in
      omega (arith, one, count_rows key rows rest is are.1)

  pub count_all : (ps : List Partition) → ArePartitions columns ps → row_count columns (entries_in ps) ≡ rows_in_all ps
  count_all [] are = refl
  count_all (p ∷ ps) are = omega (
    arith,
    count_static p.key p.static_part (row_entries p.key p.rows ++ entries_in ps) are.0,
    count_rows p.key p.rows (entries_in ps) are.0 are.2,
    count_all ps are.3,
  )

-- ---- the end

pub finished : {E : Type 0} (r : Result Counts E) (s : TableWriter) (w : Flushing) (f0 f1 : Option Files) → FinishesTable s f0 f1 r → WritesTable s w f0 → Flushes w f1 r
finished (Ok counts) s w f0 f1 h k = record { adds = h.adds w k; stand = h.stand w k; counts = h.counts w k; begun = tt }
finished (Err e) s w f0 f1 h k = record { adds = tt; stand = tt; counts = tt; begun = h.begun w k }

pub failed : {E : Type 0} (r : Result Counts E) (w : Flushing) (f : Option Files) → IsErr r → BeginsFiles w (partitions_given w) f → Flushes w f r
failed (Ok counts) w f bad begun = cc
failed (Err e) w f bad begun = record { adds = tt; stand = tt; counts = tt; begun = begun }

pub on_err : {T E : Type 0} (r : Result T E) (P : Type 0) → IsErr r → OnErr r P → P
on_err (Ok x) P bad h = cc
on_err (Err e) P bad h = h
