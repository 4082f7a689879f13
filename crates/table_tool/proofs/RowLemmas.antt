-- The entries that the puts of an accepted script leave.
use Rattle.std.proofs.Common.{◌≡◌, ◌⊎◌, ℕ, ◌+◌, ◌≤◌, List, [], ◌∷◌, ◌++◌, length, Option, Some, Ok, inl, inr, refl, sym, ◌∙◌, ap, subst, arith}
use Rattle.std.proofs.lemmas.List.{length-map}
use Rattle.std.specs.Prelude.{T}
use Rattle.std.specs.declared.cmp.Ordering.{Ordering}
use Rattle.std.specs.declared.cmp.Ordering.TheVariants.{Less, Equal, Greater}
use Rattle.std.specs.Ordering.{match_ordering}
use Rattle.std.specs.BTreeMap.{insert_entry}
use Rattle.std.specs.FinMap as map
use Rattle.std.specs.FinMap.Entries.{is_sorted}
use Rattle.key_types.specs.Columns.{Columns, IsValueOf}
use Rattle.key_types.specs.Kinds.{Kinds}
use Rattle.key_types.specs.Table.{Entry, string_cmp, table_of}
use Rattle.key_types.specs.declared.schema.ValueType.{ValueType}
use Rattle.key_decode.specs.Strings.{IsStringOf}
use Rattle.key_decode.proofs.Known.{fitting}
use Rattle.data_file.specs.Listing.{FitsStaticType}
use Rattle.script_text.specs.Puts.{Put}
use Rattle.script_text.specs.declared.script.Script.{Script}
use Rattle.script_text.specs.Script.{entries_of, entry_of_put, puts_of}
use Rattle.script_text.specs.Laws.{ArePuts, IsAccepted, IsKeyString, IsSchemaPut, IsRowPut, IsStaticPut}
use Rattle.script_text.proofs.Accepted.{accepted_puts, accepted_script}
use Rattle.flush_walk.specs.Entries.{clustering_in}
use Rattle.flush_walk.specs.Given.{IsBehindKey}
use Rattle.flush_walk.specs.TableEntries.{AreTableEntries, IsTableEntry}
use Rattle.table_tool.specs.Input.{IsSpelled}
use Rattle.table_tool.specs.Rows.{rows_after, rows_of}
use Rattle.table_tool.proofs.MapLemmas.{rows_after_is}
use Rattle.flush_walk.proofs.PartsLemmas.{parted, some_string}

-- ---- they are entries of a table

pub key_is_string : (ts : Kinds) (string : List ℕ) → IsKeyString ts string → IsStringOf ts string
key_is_string ts string (vs, fits, e, short) = (vs, fitting ts vs fits (subst (λ (s : List ℕ). length s ≤ 1024) e short) ∙ ap Ok (sym e))

row_behind : (columns : Columns) (clustering value : List ℕ) → IsKeyString columns.clustering clustering → IsValueOf columns.value value → IsBehindKey columns clustering value
row_behind columns [] value key is = let never = some_string columns.clustering [] (key_is_string columns.clustering [] key) in cc
row_behind columns (b ∷ bs) value key is = (key_is_string columns.clustering (b ∷ bs) key, is)

put_behind : (columns : Columns) (put : Put) → IsRowPut columns put ⊎ IsStaticPut columns put → IsBehindKey columns put.clustering put.value
put_behind columns put (inl (key, value)) = row_behind columns put.clustering put.value key value
put_behind columns put (inr (type, static_part, empty, value)) =
    subst (λ (c : List ℕ). IsBehindKey columns c put.value) (sym empty) (subst (λ (static : Option ValueType). FitsStaticType static (Some put.value)) (sym static_part) value)

of_put : (columns : Columns) (put : Put) → IsSchemaPut columns put → IsTableEntry columns (entry_of_put put)
of_put columns put (key, behind) =
    let string : IsStringOf columns.partition put.partition = key_is_string columns.partition put.partition key in
    let parts = parted columns (put.partition ++ put.clustering) put.partition put.clustering string refl in
    record {
      partition = subst (IsStringOf columns.partition) (sym parts.0) string;
      behind = subst (λ (c : List ℕ). IsBehindKey columns c put.value) (sym parts.1) (put_behind columns put behind);
      parts = ap (λ (p : List ℕ). p ++ clustering_in columns (put.partition ++ put.clustering)) parts.0 ∙ ap (λ (c : List ℕ). put.partition ++ c) parts.1;
    }

module _ (columns : Columns) where
  of_puts : (puts : List Put) → ArePuts columns puts → AreTableEntries columns (entries_of puts)
  of_puts [] h = tt
  of_puts (put ∷ puts) h = (of_put columns put h.0, of_puts puts h.1)

  -- the same key with another value
  with_value : (e : Entry) (key value : List ℕ) → string_cmp key e.0 ≡ Equal → IsTableEntry columns (key, value) → IsTableEntry columns (e.0, value)
  with_value e key value tie new = subst (λ (k : List ℕ). IsTableEntry columns (k, value)) (map.slice_cmp-IsAntisymmetric map.nat_cmp-IsAntisymmetric key e.0 tie) new

  put_by : (o : Ordering) (e : Entry) (key value : List ℕ) (es rest : List Entry) → string_cmp key e.0 ≡ o → IsTableEntry columns (key, value) → AreTableEntries columns (e ∷ es) → AreTableEntries columns rest
      → AreTableEntries columns (match_ordering o ((key, value) ∷ e ∷ es) ((e.0, value) ∷ es) (e ∷ rest))
  put_by Less e key value es rest is new h behind = (new, h)
  put_by Equal e key value es rest is new h behind = (with_value e key value is new, h.1)
  put_by Greater e key value es rest is new h behind = (h.0, behind)

  put_are : (key value : List ℕ) (es : List Entry) → IsTableEntry columns (key, value) → AreTableEntries columns es → AreTableEntries columns (insert_entry string_cmp es key value)
  put_are key value [] new h = (new, tt)
  put_are key value (e ∷ es) new h = put_by (string_cmp key e.0) e key value es (insert_entry string_cmp es key value) refl new h (put_are key value es new h.1)

  after_are : (rows puts : List Entry) → AreTableEntries columns rows → AreTableEntries columns puts → AreTableEntries columns (rows_after rows puts)
  after_are rows [] h new = h
  after_are rows (put ∷ puts) h new = after_are (insert_entry string_cmp rows put.0 put.1) puts (put_are put.0 put.1 rows new.0 h) new.1

  rows_are : (puts : List Put) → ArePuts columns puts → AreTableEntries columns (rows_of puts)
  rows_are puts h = subst (AreTableEntries columns) (sym (rows_after_is (entries_of puts))) (after_are [] (entries_of puts) tt (of_puts puts h))

-- ---- they are no more than the puts

few_by : (o : Ordering) (e put : Entry) (es rest : List Entry) → length rest ≤ length es + 1 → length (match_ordering o (put ∷ e ∷ es) ((e.0, put.1) ∷ es) (e ∷ rest)) ≤ length es + 2
few_by Less e put es rest h = omega arith
few_by Equal e put es rest h = omega arith
few_by Greater e put es rest h = omega arith

put_few : (key value : List ℕ) (es : List Entry) → length (insert_entry string_cmp es key value) ≤ length es + 1
put_few key value [] = omega arith
put_few key value (e ∷ es) =
    omega (arith, few_by (string_cmp key e.0) e (key, value) es (insert_entry string_cmp es key value) (put_few key value es))

after_few : (rows puts : List Entry) → length (rows_after rows puts) ≤ length rows + length puts
after_few rows [] = omega arith
after_few rows (put ∷ puts) = omega (arith, after_few (insert_entry string_cmp rows put.0 put.1) puts, put_few put.0 put.1 rows)

rows_few : (puts : List Put) → length (rows_of puts) ≤ length puts
rows_few puts = omega (arith, ap length (rows_after_is (entries_of puts)), after_few [] (entries_of puts), length-map puts entry_of_put)

-- ---- of a script

module _ (columns : Columns) (readers : ℕ) where
  pub script_accepted : (script : Script) → 1 ≤ readers → IsSpelled columns readers script → IsAccepted columns readers script
  script_accepted script some (text, is) = accepted_script columns readers text script some is

  pub script_rows_are : (script : Script) (rows : List Entry) → IsSpelled columns readers script → rows ≡ rows_of (puts_of script.batches) → AreTableEntries columns rows
  script_rows_are script rows (text, is) same = subst (AreTableEntries columns) (sym same) (rows_are columns (puts_of script.batches) (accepted_puts columns readers text script is))

  pub script_rows_few : (script : Script) (rows : List Entry) → 1 ≤ readers → IsSpelled columns readers script → rows ≡ rows_of (puts_of script.batches) → length rows ≤ 1000000
  script_rows_few script rows some h is = omega (arith, ap length is, rows_few (puts_of script.batches), (script_accepted script some h).few)

pub rows_sorted : (puts : List Put) → T (is_sorted string_cmp (rows_of puts))
rows_sorted puts = map.entries_sorted (table_of (entries_of puts))
