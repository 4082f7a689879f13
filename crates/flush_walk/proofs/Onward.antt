-- What a writer of a table was given with more entries behind.
use Rattle.std.proofs.Common.{◌≡◌, ℕ, Bool, true, false, List, [], ◌∷◌, ◌++◌, map, Option, Some, None, refl, sym, ◌∙◌, ap, subst}
use Rattle.std.specs.Prelude.{if◌then◌else◌, nat_eq}
use Rattle.std.proofs.lemmas.List.{append_assoc, append-nil}
use Rattle.std.specs.Cmp.Lexicographic.{pointwise, same_text, other_text}
use Rattle.outside.specs.Files.{Files}
use Rattle.key_types.specs.Columns.{Columns}
use Rattle.key_types.specs.Table.{Entry}
use Rattle.data_file.specs.Listing.{Partition, Row}
use Rattle.table_files.specs.Standing.{AreOfTable, entries_in}
use Rattle.flush_walk.specs.Given.{Flushing, Given, TakesEntries, TakesEntry, begun_with, last_clustering, listed, map_entry, opened, partitions_given, turned, with_entries, with_entry, with_entry_in, with_row}
use Rattle.flush_walk.specs.Writing.{BeginsFiles, GoOnFrom, LeavesBegun}
use Rattle.flush_walk.proofs.Adds.{first_ascends, other_above, same_above}
use Rattle.flush_walk.proofs.Next.{begun_of_table, entries_begun, entries_gone_on, gone_on_of_table, keys_begun}
use Rattle.flush_walk.proofs.Turns.{last_begun, last_next}

-- ---- the last entry

-- the open partition is that of the entry, which is the last in it
pub record IsLast (w : Flushing) (e : Given) : Type 0 where
  pub p : Partition
  pub current : w.current ≡ Some p
  pub key : p.key ≡ e.partition
  pub last : last_clustering p.rows ≡ e.clustering

module _ (w : Flushing) (e : Given) where
  begun_last : IsLast (opened (turned w) (begun_with e)) e
  begun_last = record { p = begun_with e; current = refl; key = refl; last = last_begun e.clustering e.value }

  last_by : (p : Partition) (t : Bool) → pointwise nat_eq p.key e.partition ≡ t
      → IsLast (if t then opened w (with_row p e.clustering e.value) else opened (turned w) (begun_with e)) e
  last_by p true is = record {
    p = with_row p e.clustering e.value;
    current = refl;
    key = same_text p.key e.partition (sym is);
    last = last_next p.rows (record { clustering = e.clustering; value = e.value });
  }
  last_by p false is = begun_last

  last_in : (o : Option Partition) → IsLast (with_entry_in o w e) e
  last_in None = begun_last
  last_in (Some p) = last_by p (pointwise nat_eq p.key e.partition) refl

  pub is_last : IsLast (with_entry w e) e
  is_last = last_in w.current

-- ---- the same table

-- both are of one generation, one schema and the same files before
pub record IsSameTable (w v : Flushing) : Type 0 where
  pub generation : v.generation ≡ w.generation
  pub columns : v.columns ≡ w.columns
  pub before : v.before ≡ w.before

module _ (w : Flushing) (e : Given) where
  same_by : (p : Partition) (t : Bool) → IsSameTable w (if t then opened w (with_row p e.clustering e.value) else opened (turned w) (begun_with e))
  same_by p true = record { generation = refl; columns = refl; before = refl }
  same_by p false = record { generation = refl; columns = refl; before = refl }

  same_in : (o : Option Partition) → IsSameTable w (with_entry_in o w e)
  same_in None = record { generation = refl; columns = refl; before = refl }
  same_in (Some p) = same_by p (pointwise nat_eq p.key e.partition)

  pub same_next : IsSameTable w (with_entry w e)
  same_next = same_in w.current

pub same_all : (w : Flushing) (es : List Given) → IsSameTable w (with_entries w es)
same_all w [] = record { generation = refl; columns = refl; before = refl }
same_all w (e ∷ es) =
    let first = same_next w e in
    let rest = same_all (with_entry w e) es in
    record { generation = rest.generation ∙ first.generation; columns = rest.columns ∙ first.columns; before = rest.before ∙ first.before }

pub begins_same : (w v : Flushing) (ps : List Partition) (now : Option Files) → IsSameTable w v → BeginsFiles w ps now → BeginsFiles v ps now
begins_same w v ps now same begins =
    let at = λ (g : ℕ) (cs : Columns) (b : Option Files). BeginsFiles (record w { generation = g; columns = cs; before = b }) ps now in
    subst (λ (g : ℕ). at g v.columns v.before) (sym same.generation)
    (subst (λ (cs : Columns). at w.generation cs v.before) (sym same.columns)
    (subst (λ (b : Option Files). at w.generation w.columns b) (sym same.before) begins))

-- ---- what goes on

module _ (w : Flushing) (e : Given) (ps : List Partition) where
  abbrev GoesFrom : Flushing → Type 0
  GoesFrom v = GoOnFrom v.closed v.current ps

  goes_behind : (p : Partition) → GoesFrom (opened (turned (opened w p)) (begun_with e)) → GoOnFrom w.closed (Some p) ps
  goes_behind p (q, rest, is, c) = (
    p,
    q ∷ rest,
    is ∙ append_assoc w.closed (p ∷ []) (q ∷ rest),
    record { key = refl; static_part = refl; more = []; rows = sym (append-nil p.rows) },
  )

  goes_into : (p : Partition) → GoesFrom (opened w (with_row p e.clustering e.value)) → GoOnFrom w.closed (Some p) ps
  goes_into p (q, rest, is, c) =
      let row : Row = record { clustering = e.clustering; value = e.value } in (
        q,
        rest,
        is,
        record { key = c.key; static_part = c.static_part; more = row ∷ c.more; rows = c.rows ∙ append_assoc p.rows (row ∷ []) c.more },
      )

  goes_by : (p : Partition) (t : Bool)
      → GoesFrom (if t then opened (opened w p) (with_row p e.clustering e.value) else opened (turned (opened w p)) (begun_with e)) → GoOnFrom w.closed (Some p) ps
  goes_by p true goes = goes_into p goes
  goes_by p false goes = goes_behind p goes

  goes_in : (o : Option Partition) → GoesFrom (with_entry_in o (record w { current = o }) e) → GoOnFrom w.closed o ps
  goes_in None (q, rest, is, c) = (q ∷ rest, is ∙ ap (λ (xs : List Partition). xs ++ q ∷ rest) (append-nil w.closed))
  goes_in (Some p) goes = goes_by p (pointwise nat_eq p.key e.partition) goes

  goes_before : GoesFrom (with_entry w e) → GoesFrom w
  goes_before goes = goes_in w.current goes

goes_none : (closed : List Partition) (o : Option Partition) → GoOnFrom closed o (closed ++ listed o)
goes_none closed None = ([], refl)
goes_none closed (Some p) = (p, [], refl, record { key = refl; static_part = refl; more = []; rows = sym (append-nil p.rows) })

pub goes_on : (w : Flushing) (es : List Given) → GoOnFrom w.closed w.current (partitions_given (with_entries w es))
goes_on w [] = goes_none w.closed w.current
goes_on w (e ∷ es) = goes_before w e (partitions_given (with_entries (with_entry w e) es)) (goes_on (with_entry w e) es)

-- ---- the partitions are those of a table, and of these entries

pub record AreTaken (w v : Flushing) (es : List Entry) : Type 0 where
  pub table : AreOfTable w.columns (partitions_given v)
  pub entries : entries_in (partitions_given v) ≡ entries_in (partitions_given w) ++ es

module _ (w : Flushing) (e : Given) where
  begun_taken : (o : Option Partition) (u : TakesEntry (record w { current = o }) e) (t : AreOfTable w.columns (w.closed ++ listed o))
      → AreOfTable w.columns ((w.closed ++ listed o) ++ begun_with e ∷ [])
      → AreTaken (record w { current = o }) (opened (turned (record w { current = o })) (begun_with e)) (map_entry e ∷ [])
  begun_taken o u t table = record { table = table; entries = entries_begun (record w { current = o }) e u t }

  taken_by : (p : Partition) (t : Bool) (u : TakesEntry (opened w p) e) (h : AreOfTable w.columns (w.closed ++ p ∷ [])) → pointwise nat_eq p.key e.partition ≡ t
      → AreTaken (opened w p) (if t then opened (opened w p) (with_row p e.clustering e.value) else opened (turned (opened w p)) (begun_with e)) (map_entry e ∷ [])
  taken_by p true u h is =
      let key : p.key ≡ e.partition = same_text p.key e.partition (sym is) in
      let above = same_above p.key e.partition (last_clustering p.rows) e.clustering key u.above in
      record {
        table = gone_on_of_table w.columns w.closed p e h u.behind u.few key above;
        entries = entries_gone_on w.columns w.closed p e h u.behind u.few key above;
      }
  taken_by p false u h is =
      let low = other_above p.key e.partition (last_clustering p.rows) e.clustering (other_text p.key e.partition (sym is)) u.above in
      begun_taken (Some p) u h (begun_of_table (opened w p) e u h (keys_begun (opened w p) e u h w.closed (Some p) h.ascend p refl low))

  taken_in : (o : Option Partition) (u : TakesEntry (record w { current = o }) e) (h : AreOfTable w.columns (w.closed ++ listed o))
      → AreTaken (record w { current = o }) (with_entry_in o (record w { current = o }) e) (map_entry e ∷ [])
  taken_in None u h = begun_taken None u h (begun_of_table (record w { current = None }) e u h (first_ascends w.closed None (begun_with e) u.above refl))
  taken_in (Some p) u h = taken_by p (pointwise nat_eq p.key e.partition) u h refl

  pub taken : TakesEntry w e → AreOfTable w.columns (partitions_given w) → AreTaken w (with_entry w e) (map_entry e ∷ [])
  taken u h = taken_in w.current u h

  pub taken_on : TakesEntry w e → AreOfTable w.columns (partitions_given w) → AreOfTable (with_entry w e).columns (partitions_given (with_entry w e))
  taken_on u h = subst (λ (cs : Columns). AreOfTable cs (partitions_given (with_entry w e))) (sym (same_next w e).columns) (taken u h).table

pub all_taken : (w : Flushing) (es : List Given) → TakesEntries w es → AreOfTable w.columns (partitions_given w) → AreTaken w (with_entries w es) (map map_entry es)
all_taken w [] u h = record { table = h; entries = sym (append-nil (entries_in (partitions_given w))) }
all_taken w (e ∷ es) u h =
    let first = taken w e u.0 h in
    let rest = all_taken (with_entry w e) es u.1 (taken_on w e u.0 h) in
    let last = partitions_given (with_entries (with_entry w e) es) in
    record {
      table = subst (λ (cs : Columns). AreOfTable cs last) (same_next w e).columns rest.table;
      entries = rest.entries ∙ ap (λ (xs : List Entry). xs ++ map map_entry es) first.entries
          ∙ append_assoc (entries_in (partitions_given w)) (map_entry e ∷ []) (map map_entry es);
    }

-- after an error a part of the files of all of them stands
pub left_begun : (w : Flushing) (es : List Given) (now : Option Files) → TakesEntries w es → AreOfTable w.columns (partitions_given w) → LeavesBegun w now
    → BeginsFiles (with_entries w es) (partitions_given (with_entries w es)) now
left_begun w es now u h left =
    let all = partitions_given (with_entries w es) in
    begins_same w (with_entries w es) all now (same_all w es) (left all (all_taken w es u h).table (goes_on w es))
