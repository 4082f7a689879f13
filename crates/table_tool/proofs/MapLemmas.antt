-- The map that puts leave, as the list of its entries.
use Rattle.std.proofs.Common.{◌≡◌, ℕ, List, [], ◌∷◌, ◌++◌, refl, sym, ◌∙◌, ap}
use Rattle.std.proofs.lemmas.List.{nil_from_length, map-append}
use Rattle.std.specs.declared.cmp.Ordering.{Ordering}
use Rattle.std.specs.Ordering.{match_ordering}
use Rattle.std.specs.Cmp.Lexicographic.{nat_list_cmp_total}
use Rattle.std.specs.BTreeMap.{insert_entry}
use Rattle.std.specs.FinMap as map
use Rattle.key_types.specs.Table.{Entry, Table, string_cmp, table_after, table_of}
use Rattle.script_text.specs.Puts.{Put}
use Rattle.script_text.specs.Script.{entry_of_put, entries_of}
use Rattle.table_tool.specs.Rows.{rows_after}

-- an insertion into the list of the entries
insert_is_put : {K X : Type 0} (R : K → K → Ordering) (k : K) (v : X) (es : List (K × X)) → insert_entry R es k v ≡ map.put R k v es
insert_is_put R k v [] = refl
insert_is_put R k v (e ∷ es) = ap (match_ordering (R k e.0) ((k, v) ∷ e ∷ es) ((e.0, v) ∷ es)) (ap (λ r. e ∷ r) (insert_is_put R k v es)) ∙ refl

entries-empty : map.entries (map.empty {X = List ℕ} {R = string_cmp}) ≡ []
entries-empty = nil_from_length _ (sym (map.len-entries map.empty) ∙ map.len-empty string_cmp (List ℕ))

entries_after : (table : Table) (puts : List Entry) → map.entries (table_after table puts) ≡ rows_after (map.entries table) puts
entries_after table [] = refl
entries_after table (p ∷ ps) =
    entries_after (map.insert table p.0 p.1) ps
    ∙ ap (λ rows. rows_after rows ps) (map.entries-insert nat_list_cmp_total table p.0 p.1 ∙ sym (insert_is_put string_cmp p.0 p.1 (map.entries table)))

-- the entries of the map that puts leave are the list into which they were inserted
pub rows_after_is : (puts : List Entry) → map.entries (table_of puts) ≡ rows_after [] puts
rows_after_is puts = entries_after map.empty puts ∙ ap (λ rows. rows_after rows puts) entries-empty

-- puts, and then more of them
pub rows_after-append : (rows xs ys : List Entry) → rows_after rows (xs ++ ys) ≡ rows_after (rows_after rows xs) ys
rows_after-append rows [] ys = refl
rows_after-append rows (x ∷ xs) ys = rows_after-append (insert_entry string_cmp rows x.0 x.1) xs ys

-- a batch, and those behind it
pub more_puts : (rows : List Entry) (xs ys : List Put) → rows_after rows (entries_of (xs ++ ys)) ≡ rows_after (rows_after rows (entries_of xs)) (entries_of ys)
more_puts rows xs ys = ap (rows_after rows) (map-append entry_of_put xs ys) ∙ rows_after-append rows (entries_of xs) (entries_of ys)
