-- One entry more: where it goes, and what becomes of the files.
use Rattle.std.proofs.Common.{◌≡◌, ◌≢◌, ◌⊎◌, ℕ, ◌^◌, ◌<◌, ◌≤◌, Bool, true, false, List, [], ◌∷◌, ◌++◌, length, Option, Some, None, Result, Ok, Err, IsErr, inl, inr, arith, refl, sym, ◌∙◌, ap, subst}
use Rattle.std.specs.Prelude.{◌&&◌, if◌then◌else◌, nat_eq}
use Rattle.std.specs.Cmp.Lexicographic.{pointwise, same_text, other_text, nat_list_eq_equiv}
use Rattle.std.specs.declared.cmp.Ordering.TheVariants.{Less}
use Rattle.outside.specs.Files.{Files}
use Rattle.key_types.specs.Columns.{Columns, IsValueOf}
use Rattle.key_types.specs.Table.{string_cmp}
use Rattle.key_types.specs.declared.schema.ValueType.{ValueType}
use Rattle.key_types.specs.declared.schema.ValueType.TheVariants.{Text, Blob}
use Rattle.key_decode.proofs.Known.{string_length}
use Rattle.data_file.specs.Listing.{FitsStaticType, Partition}
use Rattle.table_files.specs.Standing.{AreOfTable, StringsAscend}
use Rattle.table_files.proofs.Numbering.{keys}
use Rattle.table_files.proofs.Strings.{never_itself}
use Rattle.flush_walk.specs.declared.writer.TableWriter.{TableWriter}
use Rattle.flush_walk.specs.Given.{Flushing, Given, IsAboveLast, IsBehindKey, TakesEntry, begun_with, growing_of, last_clustering, listed, opened, turned, with_entry, with_entry_in, with_row}
use Rattle.flush_walk.specs.Growing.{Torn}
use Rattle.flush_walk.specs.Writing.{AddsEntryTo, Goes, IsCurrent, LeavesBegun, WritesTable}
use Rattle.flush_walk.proofs.Ends.{with_current}
use Rattle.flush_walk.proofs.Next.{begun_of_table, gone_on_of_table, keys_begun}
use Rattle.flush_walk.proofs.Prefixes.{torn_begun}

both_true : (a b : Bool) → (a && b) ≡ true → (a ≡ true) × (b ≡ true)
both_true true b e = (refl, e)
both_true false b e = cc

not_both : (a b : Bool) → (a && b) ≡ false → a ≡ true → b ≡ false
not_both true b e is = e
not_both false b e is = cc

-- ---- how long its parts are

value_short : (type : ValueType) (value : List ℕ) → IsValueOf type value → length value < 2 ^ 16
value_short Text value is = let few = is.0 in omega (arith, few)
value_short Blob value is = omega (arith, is)

static_short : (static : Option ValueType) (value : List ℕ) → FitsStaticType static (Some value) → length value < 2 ^ 16
static_short None value is = absurd is
static_short (Some type) value is = value_short type value is

behind_short : (columns : Columns) (clustering value : List ℕ) → IsBehindKey columns clustering value → (length clustering ≤ 1024) × (length value < 2 ^ 16)
behind_short columns [] value is = (omega arith, static_short columns.static_value value is)
behind_short columns (b ∷ bs) value is = (string_length columns.clustering (b ∷ bs) is.0, value_short columns.value value is.1)

pub record IsShort (e : Given) : Type 0 where
  pub partition : length e.partition ≤ 1024
  pub clustering : length e.clustering ≤ 1024
  pub value : length e.value < 2 ^ 16

pub entry_short : (w : Flushing) (e : Given) → TakesEntry w e → IsShort e
entry_short w e t =
    let behind = behind_short w.columns e.clustering e.value t.behind in
    record { partition = string_length w.columns.partition e.partition t.partition; clustering = behind.0; value = behind.1 }

-- ---- into the open partition

some_above : (before c : List ℕ) → string_cmp before c ≡ Less → 0 < length c
some_above [] [] above = cc
some_above (x ∷ before) [] above = cc
some_above before (b ∷ c) above = omega arith

pub record Gone (s : TableWriter) (w : Flushing) (e : Given) (f : Option Files) : Type 0 where
  pub p : Partition
  pub writes : WritesTable s (opened w p) f
  pub table : AreOfTable w.columns (w.closed ++ with_row p e.clustering e.value ∷ [])
  pub next : with_entry w e ≡ opened w (with_row p e.clustering e.value)
  pub some : 0 < length e.clustering

pub same_above : (key partition : List ℕ) (last clustering : List ℕ) → key ≡ partition
    → ((string_cmp key partition ≡ Less) ⊎ ((key ≡ partition) × (string_cmp last clustering ≡ Less))) → string_cmp last clustering ≡ Less
same_above key partition last clustering is (inl low) = absurd (never_itself partition (subst (λ (k : List ℕ). string_cmp k partition ≡ Less) is low))
same_above key partition last clustering is (inr above) = above.1

pub gone : (s : TableWriter) (w : Flushing) (e : Given) (f : Option Files) → WritesTable s w f → TakesEntry w e
    → (s.current.is_open && pointwise nat_eq s.current.key e.partition) ≡ true → Gone s w e f
gone s w e f h t is =
    let tests = both_true s.current.is_open (pointwise nat_eq s.current.key e.partition) is in
    let q = with_current s w f h tests.0 in
    let p = q.0 in
    let k : WritesTable s (opened w p) f = subst (λ (u : Flushing). WritesTable s u f) q.1 h in
    let u : TakesEntry (opened w p) e = subst (λ (x : Flushing). TakesEntry x e) q.1 t in
    let key : p.key ≡ e.partition = sym k.current.key ∙ same_text s.current.key e.partition (sym tests.1) in
    let above : string_cmp (last_clustering p.rows) e.clustering ≡ Less = same_above p.key e.partition (last_clustering p.rows) e.clustering key u.above in
    let test : pointwise nat_eq p.key e.partition ≡ true = subst (λ (x : List ℕ). pointwise nat_eq p.key x ≡ true) key (nat_list_eq_equiv.refl p.key) in
    record {
      p = p;
      writes = k;
      table = gone_on_of_table w.columns w.closed p e k.table u.behind u.few key above;
      next = ap (λ (x : Flushing). with_entry x e) q.1
          ∙ ap (λ (b : Bool). if b then opened w (with_row p e.clustering e.value) else opened (turned (opened w p)) (begun_with e)) test;
      some = some_above (last_clustering p.rows) e.clustering above;
    }

-- ---- into one of its own

pub record Begins (w : Flushing) (e : Given) : Type 0 where
  pub table : AreOfTable w.columns ((turned w).closed ++ begun_with e ∷ [])
  pub next : with_entry w e ≡ opened (turned w) (begun_with e)

pub other_above : (key partition : List ℕ) (last clustering : List ℕ) → key ≢ partition
    → ((string_cmp key partition ≡ Less) ⊎ ((key ≡ partition) × (string_cmp last clustering ≡ Less))) → string_cmp key partition ≡ Less
other_above key partition last clustering apart (inl low) = low
other_above key partition last clustering apart (inr above) = absurd (apart above.0)

-- the first of all keys
pub first_ascends : (closed : List Partition) (current : Option Partition) (p : Partition) → closed ≡ [] → current ≡ None → StringsAscend (keys ((closed ++ listed current) ++ p ∷ []))
first_ascends [] None p is none = tt
first_ascends [] (Some q) p is none = cc
first_ascends (x ∷ closed) current p is none = cc

pub begins : (s : TableWriter) (w : Flushing) (e : Given) (f : Option Files) → WritesTable s w f → TakesEntry w e
    → (s.current.is_open && pointwise nat_eq s.current.key e.partition) ≡ false → Begins w e
begins s w e f h t is = by w.current refl h.current t.above
  where
    by : (o : Option Partition) → w.current ≡ o → IsCurrent s.current w.columns.static_value w.closed o → IsAboveLast w o e → Begins w e
    by None none current above = record {
      table = begun_of_table w e t h.table (first_ascends w.closed w.current (begun_with e) above none);
      next = ap (λ (o : Option Partition). with_entry_in o w e) none;
    }
    by (Some p) some current above =
        let test : pointwise nat_eq p.key e.partition ≡ false =
        subst (λ (x : List ℕ). pointwise nat_eq x e.partition ≡ false) current.key (not_both s.current.is_open (pointwise nat_eq s.current.key e.partition) is current.is_open) in
        let low = other_above p.key e.partition (last_clustering p.rows) e.clustering (other_text p.key e.partition (sym test)) above in
        record {
          table = begun_of_table w e t h.table (keys_begun w e t h.table w.closed w.current h.table.ascend p some low);
          next = ap (λ (o : Option Partition). with_entry_in o w e) some
              ∙ ap (λ (b : Bool). if b then opened w (with_row p e.clustering e.value) else opened (turned w) (begun_with e)) test;
        }

-- ---- what the call leaves

pub turned_begins : (w : Flushing) (e : Given) (f : Option Files) → LeavesBegun (turned w) f → LeavesBegun (opened (turned w) (begun_with e)) f
turned_begins w e f left ps h (q, rest, is, c) = left ps h (q ∷ rest, is)

pub adds_by : {T E : Type 0} (r : Result T E) (old new : TableWriter) (f0 f1 : Option Files) (e : Given)
    → ((w : Flushing) → WritesTable old w f0 → TakesEntry w e → Goes r new (with_entry w e) f1) → AddsEntryTo old new f0 f1 r e
adds_by (Ok x) old new f0 f1 e all = record { writes = all; begun = tt }
adds_by (Err x) old new f0 f1 e all = record { writes = tt; begun = λ w h t. torn_begun (with_entry w e) f1 (all w h t) }

pub adds_none : {T E : Type 0} (r : Result T E) (old new : TableWriter) (f0 f1 : Option Files) (e : Given) → IsErr r
    → ((w : Flushing) → WritesTable old w f0 → TakesEntry w e → LeavesBegun (with_entry w e) f1) → AddsEntryTo old new f0 f1 r e
adds_none (Ok x) old new f0 f1 e bad all = cc
adds_none (Err x) old new f0 f1 e bad all = record { writes = tt; begun = all }

pub torn_goes : {T E : Type 0} (r : Result T E) (s : TableWriter) (w : Flushing) (f : Option Files) → IsErr r → Goes r s w f → Torn (growing_of w) f
torn_goes (Ok x) s w f bad p = cc
torn_goes (Err e) s w f bad p = p
