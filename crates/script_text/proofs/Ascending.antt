-- The entries of the map of an accepted script ascend by their typed keys.
use Rattle.std.proofs.Common.{◌≡◌, ℕ, Bool, true, false, ◌&&◌, List, [], ◌∷◌, ◌++◌, None, Some, Ok, refl, sym, ◌∙◌, ap, subst, inl, inr}
use Rattle.std.proofs.lemmas.List.{nil_from_length}
use Rattle.std.specs.declared.cmp.Ordering.{Ordering}
use Rattle.std.specs.declared.cmp.Ordering.TheVariants.{Less, Equal, Greater}
use Rattle.std.specs.Prelude.{T}
use Rattle.std.specs.Ordering.{is_lt}
use Rattle.std.specs.Cmp.Lexicographic.{nat_list_cmp_total}
use Rattle.std.specs.FinMap as map
use Rattle.std.specs.FinMap.Entries.{below_all, is_sorted}
use Rattle.key_types.specs.Columns.{Columns}
use Rattle.key_types.specs.Table.{Entry, Table, string_cmp, table_after, table_of}
use Rattle.byte_comparable.specs.Encoding.{key_string}
use Rattle.byte_comparable.specs.Order.{Key, key_order, string_of_key}
use Rattle.byte_comparable.proofs.Kept.{keys_kept}
use Rattle.script_text.specs.Puts.{Put}
use Rattle.script_text.specs.declared.script.Script.{Script}
use Rattle.script_text.specs.Script.{entries_of, puts_of, script_of}
use Rattle.script_text.specs.Laws.{IsSchemaPut, ArePuts, HasKey, AreOfKeys, KeysAscend}
use Rattle.script_text.proofs.Accepted.{accepted_puts}

module _ (s : Columns) where
  -- ---- each entry has a key

  abbrev Keyed : List ℕ → Type 0
  Keyed string = (key : Key) × HasKey s key string

  abbrev AllKeyed : List Entry → Type 0
  AllKeyed [] = Unit {0}
  AllKeyed (e ∷ es) = Keyed e.0 × AllKeyed es

  put_keyed : (put : Put) → IsSchemaPut s put → Keyed (put.partition ++ put.clustering)
  put_keyed put ((vs, fits, is, short), inl ((cs, fit, same, few), value)) =
      (record { partition = vs; clustering = Some cs }, ((fits, fit), ap (λ (x : List ℕ). x ++ put.clustering) is ∙ ap (λ (x : List ℕ). key_string s.partition vs ++ x) same))
  put_keyed put ((vs, fits, is, short), inr (t, some, none, value)) =
      (record { partition = vs; clustering = None }, ((fits, tt), ap (λ (x : List ℕ). x ++ put.clustering) is ∙ ap (λ (x : List ℕ). key_string s.partition vs ++ x) none))

  puts_keyed : (puts : List Put) → ArePuts s puts → AllKeyed (entries_of puts)
  puts_keyed [] h = tt
  puts_keyed (put ∷ puts) h = (put_keyed put h.0, puts_keyed puts h.1)

  placed : (k : List ℕ) (v : List ℕ) (es : List Entry) → Keyed k → AllKeyed es → AllKeyed (map.put string_cmp k v es)
  placed k v [] h hs = (h, tt)
  placed k v (e ∷ es) h hs = by (string_cmp k e.0) refl (placed k v es h hs.1)
    where
      by : (o : Ordering) → string_cmp k e.0 ≡ o → AllKeyed (map.put string_cmp k v es) → AllKeyed (map.put string_cmp k v (e ∷ es))
      by Less is rest = rw is (h, hs)
      by Equal is rest = rw is (hs.0, hs.1)
      by Greater is rest = rw is (hs.0, rest)

  all_placed : (table : Table) (puts : List Entry) → AllKeyed puts → AllKeyed (map.entries table) → AllKeyed (map.entries (table_after table puts))
  all_placed table [] h hs = hs
  all_placed table (put ∷ puts) h hs =
      all_placed (map.insert table put.0 put.1) puts h.1
      (subst AllKeyed (sym (map.entries-insert nat_list_cmp_total table put.0 put.1)) (placed put.0 put.1 (map.entries table) h.0 hs))

  none_there : map.entries (map.empty {X = List ℕ} {R = string_cmp}) ≡ []
  none_there = nil_from_length _ (sym (map.len-entries map.empty) ∙ map.len-empty string_cmp (List ℕ))

  table_keyed : (puts : List Put) → ArePuts s puts → AllKeyed (map.entries (table_of (entries_of puts)))
  table_keyed puts h = all_placed map.empty (entries_of puts) (puts_keyed puts h) (subst AllKeyed (sym none_there) tt)

  -- ---- and they ascend

  abbrev keys_of : (es : List Entry) → AllKeyed es → List Key
  keys_of [] h = []
  keys_of (e ∷ es) h = h.0.0 ∷ keys_of es h.1

  of_keys : (es : List Entry) (h : AllKeyed es) → AreOfKeys s (keys_of es h) es
  of_keys [] h = refl
  of_keys (e ∷ es) h = (e, es, refl, h.0.1, of_keys es h.1)

  both_hold : (a b : Bool) → T (a && b) → T a × T b
  both_hold true b h = (tt, h)
  both_hold false b h = absurd h

  is_less : (o : Ordering) → T (is_lt o) → o ≡ Less
  is_less Less h = refl
  is_less Equal h = absurd h
  is_less Greater h = absurd h

  less : (x y : List ℕ) (k l : Key) → HasKey s k x → HasKey s l y → string_cmp x y ≡ Less → key_order s.partition s.clustering k l ≡ Less
  less x y k l h j is =
      sym (keys_kept s.partition s.clustering k l h.0 j.0)
      ∙ ap (λ (z : List ℕ). string_cmp z (string_of_key s.partition s.clustering l)) (sym h.1) ∙ ap (string_cmp x) (sym j.1) ∙ is

  ascend : (es : List Entry) (h : AllKeyed es) → T (is_sorted string_cmp es) → KeysAscend s (keys_of es h)
  ascend [] h sorted = tt
  ascend (e ∷ []) h sorted = tt
  ascend (e ∷ f ∷ es) h sorted =
      let parts = both_hold (below_all string_cmp e.0 (f ∷ es)) (is_sorted string_cmp (f ∷ es)) sorted in
      let first = both_hold (is_lt (string_cmp e.0 f.0)) (below_all string_cmp e.0 es) parts.0 in
      (less e.0 f.0 h.0.0 h.1.0.0 h.0.1 h.1.0.1 (is_less (string_cmp e.0 f.0) first.0), ascend (f ∷ es) h.1 parts.1)

pub entries_ascend : (s : Columns) (readers : ℕ) (bytes : List ℕ) (script : Script) → script_of s readers bytes ≡ Ok script
    → (keys : List Key) × AreOfKeys s keys (map.entries (table_of (entries_of (puts_of script.batches)))) × KeysAscend s keys
entries_ascend s readers bytes script h =
    let es = map.entries (table_of (entries_of (puts_of script.batches))) in
    let keyed = table_keyed s (puts_of script.batches) (accepted_puts s readers bytes script h) in
    (keys_of s es keyed, of_keys s es keyed, ascend s es keyed (map.entries_sorted (table_of (entries_of (puts_of script.batches)))))
