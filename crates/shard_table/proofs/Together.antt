-- The entries of the shards are those of the sorted map of all puts.
use Rattle.std.proofs.Common.{◌≡◌, ◌≢◌, ℕ, zero, suc, ◌+◌, ◌≤◌, ◌<◌, Bool, true, false, cond, ◌&&◌, List, [], ◌∷◌, ◌++◌, length, map, count_by, Option, Some, None, inl, inr, refl, sym, ◌∙◌, ap, subst, arith}
use Rattle.std.specs.Prelude.{T, ◌⊎◌, nat_eq, nat_lt}
use Rattle.std.specs.List.{filter}
use Rattle.std.proofs.lemmas.Bool.{cases_eq}
use Rattle.std.proofs.lemmas.Bool.Decides.{nat_tests}
use Rattle.std.proofs.lemmas.List.{nil_from_length}
use Rattle.std.specs.declared.cmp.Ordering.{Ordering}
use Rattle.std.specs.declared.cmp.Ordering.TheVariants.{Less, Equal, Greater}
use Rattle.std.specs.Ordering.{eq_by_cmp, is_eq, is_le, is_lt, ordering_reverse}
use Rattle.std.specs.Cmp.Lexicographic.{nat_list_cmp_total}
use Rattle.std.specs.FinMap as map_of
use Rattle.std.specs.FinMap.Entries.{below_all, by_order, find, is_sorted, put, same_entries}
use Rattle.std.proofs.lemmas.List.Sums.{sum_by-cons}
use Rattle.key_types.specs.Table.{Entry, Table, string_cmp, table_after, table_of, value_over}
use Rattle.key_types.proofs.Puts.{is_over}
use Rattle.trie_rule.specs.Seats.{KeptWords}
use Rattle.shard_freeze.specs.Sorted.{entries_made, put_entries}
use Rattle.shard_table.specs.Shards.{is_reached, shard_index}
use Rattle.shard_table.specs.Together.{HoldPuts, LawShardsList, puts_in, shard_entries}
use Rattle.shard_table.proofs.Between.{count_more, same, turned}

both : (a b : Bool) → T a → T b → T (a && b)
both true b p q = q
both false b p q = absurd p

first : (a b : Bool) → T (a && b) → T a
first true b p = tt
first false b p = absurd p

second : (a b : Bool) → T (a && b) → T b
second true b p = p
second false b p = absurd p

-- ---- the keys of entries

-- each key has the property
abbrev AllKeys : (List ℕ → Type 0) → List Entry → Type 0
AllKeys P [] = Unit {0}
AllKeys P (e ∷ es) = P e.0 × AllKeys P es

module _ (P : List ℕ → Type 0) where
  put_keys : (k v : List ℕ) (es : List Entry) → P k → AllKeys P es → AllKeys P (put string_cmp k v es)
  put_keys k v [] pk h = (pk, tt)
  put_keys k v (e ∷ es) pk h = by (string_cmp k e.0) (put_keys k v es pk h.1)
    where
      by : (o : Ordering) → AllKeys P (put string_cmp k v es) → AllKeys P (by_order o ((k, v) ∷ e ∷ es) ((e.0, v) ∷ es) (e ∷ put string_cmp k v es))
      by Less rest = (pk, h)
      by Equal rest = (h.0, h.1)
      by Greater rest = (h.0, rest)

  after_keys : (table : Table) (puts : List Entry) → AllKeys P (map_of.entries table) → AllKeys P puts → AllKeys P (map_of.entries (table_after table puts))
  after_keys table [] h g = h
  after_keys table (p ∷ puts) h g =
      after_keys (map_of.insert table p.0 p.1) puts
      (subst (AllKeys P) (sym (map_of.entries-insert nat_list_cmp_total table p.0 p.1)) (put_keys p.0 p.1 (map_of.entries table) g.0 h)) g.1

  no_entries : map_of.entries (map_of.empty {X = List ℕ} {R = string_cmp}) ≡ []
  no_entries = nil_from_length _ (sym (map_of.len-entries map_of.empty) ∙ map_of.len-empty string_cmp (List ℕ))

  table_keys : (puts : List Entry) → AllKeys P puts → AllKeys P (map_of.entries (table_of puts))
  table_keys puts g = after_keys map_of.empty puts (subst (AllKeys P) (sym no_entries) tt) g

  joined_keys : (xs ys : List Entry) → AllKeys P xs → AllKeys P ys → AllKeys P (xs ++ ys)
  joined_keys [] ys h g = g
  joined_keys (x ∷ xs) ys h g = (h.0, joined_keys xs ys h.1 g)

module _ (P Q : List ℕ → Type 0) (f : (k : List ℕ) → P k → Q k) where
  as_keys : (es : List Entry) → AllKeys P es → AllKeys Q es
  as_keys [] h = tt
  as_keys (e ∷ es) h = (f e.0 h.0, as_keys es h.1)

-- ---- the value of a key

gets_one : (e : Entry) (key : List ℕ) → map_of.get (table_of (e ∷ [])) key ≡ cond (eq_by_cmp string_cmp key e.0) (Some e.1) None
gets_one e key =
    map_of.get-insert nat_list_cmp_total map_of.empty e.0 e.1 key
    ∙ ap (λ (o : Option (List ℕ)). cond (eq_by_cmp string_cmp key e.0) (Some e.1) o) (map_of.get-empty string_cmp key)

is_tied : (o : Ordering) → is_eq o ≡ true → o ≡ Equal
is_tied Less h = cc
is_tied Equal h = refl
is_tied Greater h = cc

-- an entry of another key has no say
one_none : (e : Entry) (key : List ℕ) → key ≢ e.0 → map_of.get (table_of (e ∷ [])) key ≡ None
one_none e key apart = gets_one e key ∙ by (eq_by_cmp string_cmp key e.0) refl
  where
    by : (b : Bool) → eq_by_cmp string_cmp key e.0 ≡ b → cond b (Some e.1) None ≡ None
    by true h = absurd (apart (same key e.0 (is_tied (string_cmp key e.0) h)))
    by false h = refl

over_none : (o : Option (List ℕ)) → value_over o None ≡ o
over_none (Some v) = refl
over_none None = refl

gets_more : (e : Entry) (puts : List Entry) (key : List ℕ)
    → map_of.get (table_of (e ∷ puts)) key ≡ value_over (map_of.get (table_of puts) key) (map_of.get (table_of (e ∷ [])) key)
gets_more e puts key = is_over (e ∷ []) puts key

found_joined : (xs ys : List Entry) (key : List ℕ) → find string_cmp key (xs ++ ys) ≡ value_over (find string_cmp key xs) (find string_cmp key ys)
found_joined [] ys key = refl
found_joined (x ∷ xs) ys key = by (eq_by_cmp string_cmp key x.0) (found_joined xs ys key)
  where
    by : (b : Bool) → find string_cmp key (xs ++ ys) ≡ value_over (find string_cmp key xs) (find string_cmp key ys) → cond b (Some x.1) (find string_cmp key (xs ++ ys)) ≡ value_over (cond b (Some x.1) (find string_cmp key xs)) (find string_cmp key ys)
    by true rest = refl
    by false rest = rest

module _ (bounds : List (List ℕ)) where
  abbrev index : List ℕ → ℕ
  index key = shard_index bounds key

  -- ---- the puts of a shard

  module _ (i : ℕ) where
    -- what is said of a put by whether it goes to the shard
    by_test : (e : Entry) (P : Bool → Type 0) → (index e.0 ≡ i → P true) → (index e.0 ≢ i → P false) → P (nat_eq (index e.0) i)
    by_test e P at_it apart = by (nat_eq (index e.0) i) refl
      where
        by : (b : Bool) → nat_eq (index e.0) i ≡ b → P b
        by true h = at_it (grind (arith, nat_tests, h))
        by false h = apart (λ is. let bad : nat_eq (index e.0) i ≡ true = grind (arith, nat_tests, is) in let worse : true ≡ false = sym bad ∙ h in absurd (cc))

    abbrev here : List Entry → List Entry
    here puts = puts_in bounds i puts

    keys_here : (puts : List Entry) → AllKeys (λ k. index k ≡ i) (here puts)
    keys_here [] = tt
    keys_here (e ∷ puts) =
        by_test e (λ b. AllKeys (λ k. index k ≡ i) (cond b (e ∷ here puts) (here puts))) (λ is. (is, keys_here puts)) (λ apart. keys_here puts)

    abbrev value : List ℕ → List Entry → Option (List ℕ)
    value key puts = map_of.get (table_of puts) key

    -- a key of this shard has the value that all puts leave
    gets_here : (puts : List Entry) (key : List ℕ) → index key ≡ i → value key (here puts) ≡ value key puts
    gets_here [] key is = refl
    gets_here (e ∷ puts) key is =
        by_test e (λ b. value key (cond b (e ∷ here puts) (here puts)) ≡ value key (e ∷ puts))
        (λ same_shard. gets_more e (here puts) key ∙ ap (λ (o : Option (List ℕ)). value_over o (value key (e ∷ []))) (gets_here puts key is) ∙ sym (gets_more e puts key))
        (λ other.
        gets_here puts key is ∙ sym (over_none (value key puts))
        ∙ ap (λ (o : Option (List ℕ)). value_over (value key puts) o) (sym (one_none e key (λ eq. other (sym (ap index eq) ∙ is)))) ∙ sym (gets_more e puts key))

    -- a key of another one has none
    gets_none : (puts : List Entry) (key : List ℕ) → index key ≢ i → value key (here puts) ≡ None
    gets_none [] key apart = map_of.get-empty string_cmp key
    gets_none (e ∷ puts) key apart =
        by_test e (λ b. value key (cond b (e ∷ here puts) (here puts)) ≡ None)
        (λ is.
        gets_more e (here puts) key ∙ ap (λ (o : Option (List ℕ)). value_over o (value key (e ∷ []))) (gets_none puts key apart)
        ∙ one_none e key (λ eq. apart (ap index eq ∙ is)))
        (λ other. gets_none puts key apart)

  -- ---- bounds part the strings in their order

  reached_too : (x y b : List ℕ) → string_cmp y x ≡ Less → is_reached y b ≡ true → is_reached x b ≡ true
  reached_too x y b less h = by (string_cmp b y) refl h
    where
      by : (o : Ordering) → string_cmp b y ≡ o → is_le o ≡ true → is_le (string_cmp b x) ≡ true
      by Less e h = ap is_le (nat_list_cmp_total.trans b y x e less)
      by Equal e h = ap is_le (ap (λ (z : List ℕ). string_cmp z x) (same b y e) ∙ less)
      by Greater e h = cc

  count_falls : (x y : List ℕ) → string_cmp y x ≡ Less → (bs : List (List ℕ)) → shard_index bs y ≤ shard_index bs x
  count_falls x y less [] = omega arith
  count_falls x y less (b ∷ bs) =
      by (is_reached y b) (is_reached x b) (reached_too x y b less) (count_more (is_reached y) b bs) (count_more (is_reached x) b bs) (count_falls x y less bs)
    where
      by : (s t : Bool) → (s ≡ true → t ≡ true) → shard_index (b ∷ bs) y ≡ cond s 1 0 + shard_index bs y → shard_index (b ∷ bs) x ≡ cond t 1 0 + shard_index bs x
          → shard_index bs y ≤ shard_index bs x → shard_index (b ∷ bs) y ≤ shard_index (b ∷ bs) x
      by true true both_are of_y of_x rest = omega (arith, rest, of_y, of_x)
      by true false both_are of_y of_x rest = let bad : false ≡ true = both_are refl in absurd (cc)
      by false true both_are of_y of_x rest = omega (arith, rest, of_y, of_x)
      by false false both_are of_y of_x rest = omega (arith, rest, of_y, of_x)

  -- strings of lesser shards are less
  less_by_shard : (x y : List ℕ) → index x < index y → string_cmp x y ≡ Less
  less_by_shard x y less = by (string_cmp x y) refl
    where
      by : (o : Ordering) → string_cmp x y ≡ o → o ≡ Less
      by Less e = refl
      by Equal e = let is : index x ≡ index y = ap index (same x y e) in absurd (omega (arith, less, is))
      by Greater e = let falls = count_falls x y (turned y x Greater e) bounds in absurd (omega (arith, less, falls))

  pub most_index : (key : List ℕ) → (bs : List (List ℕ)) → shard_index bs key ≤ length bs
  most_index key [] = omega arith
  most_index key (b ∷ bs) = by (is_reached key b) (count_more (is_reached key) b bs) (most_index key bs)
    where
      by : (t : Bool) → shard_index (b ∷ bs) key ≡ cond t 1 0 + shard_index bs key → shard_index bs key ≤ length bs → shard_index (b ∷ bs) key ≤ suc (length bs)
      by true is most = omega (arith, is, most)
      by false is most = omega (arith, is, most)

  -- ---- they ascend

  below_later : (i : ℕ) (x : List ℕ) (ys : List Entry) → index x ≡ i → AllKeys (λ k. i < index k) ys → T (below_all string_cmp x ys)
  below_later i x [] is h = tt
  below_later i x (y ∷ ys) is h =
      both (is_lt (string_cmp x y.0)) (below_all string_cmp x ys)
      (subst (λ (o : Ordering). T (is_lt o)) (sym (less_by_shard x y.0 (omega (arith, is, h.0)))) tt) (below_later i x ys is h.1)

  below_joined : (x : List ℕ) (xs ys : List Entry) → T (below_all string_cmp x xs) → T (below_all string_cmp x ys) → T (below_all string_cmp x (xs ++ ys))
  below_joined x [] ys h g = g
  below_joined x (e ∷ xs) ys h g =
      both (is_lt (string_cmp x e.0)) (below_all string_cmp x (xs ++ ys)) (first (is_lt (string_cmp x e.0)) (below_all string_cmp x xs) h)
      (below_joined x xs ys (second (is_lt (string_cmp x e.0)) (below_all string_cmp x xs) h) g)

  sorted_joined : (i : ℕ) (xs ys : List Entry) → T (is_sorted string_cmp xs) → AllKeys (λ k. index k ≡ i) xs → T (is_sorted string_cmp ys) → AllKeys (λ k. i < index k) ys
      → T (is_sorted string_cmp (xs ++ ys))
  sorted_joined i [] ys h p g q = g
  sorted_joined i (x ∷ xs) ys h p g q =
      both (below_all string_cmp x.0 (xs ++ ys)) (is_sorted string_cmp (xs ++ ys))
      (below_joined x.0 xs ys (first (below_all string_cmp x.0 xs) (is_sorted string_cmp xs) h) (below_later i x.0 ys p.0 q))
      (sorted_joined i xs ys (second (below_all string_cmp x.0 xs) (is_sorted string_cmp xs) h) p.1 g q)

  module _ (puts : List Entry) where
    shard_keys : (i : ℕ) (shard : KeptWords) → put_entries shard.made ≡ puts_in bounds i puts → AllKeys (λ k. index k ≡ i) (entries_made shard.made)
    shard_keys i shard is = table_keys (λ k. index k ≡ i) (put_entries shard.made) (subst (AllKeys (λ k. index k ≡ i)) (sym is) (keys_here i puts))

    later_keys : (i : ℕ) (shards : List KeptWords) → HoldPuts bounds i puts shards → AllKeys (λ k. i ≤ index k) (shard_entries shards)
    later_keys i [] h = tt
    later_keys i (shard ∷ shards) h =
        joined_keys (λ k. i ≤ index k) (entries_made shard.made) (shard_entries shards)
        (as_keys (λ k. index k ≡ i) (λ k. i ≤ index k) (λ k is. omega (arith, is)) (entries_made shard.made) (shard_keys i shard h.0))
        (as_keys (λ k. i + 1 ≤ index k) (λ k. i ≤ index k) (λ k is. omega (arith, is)) (shard_entries shards) (later_keys (i + 1) shards h.1))

    all_sorted : (i : ℕ) (shards : List KeptWords) → HoldPuts bounds i puts shards → T (is_sorted string_cmp (shard_entries shards))
    all_sorted i [] h = tt
    all_sorted i (shard ∷ shards) h =
        sorted_joined i (entries_made shard.made) (shard_entries shards) (map_of.entries_sorted (table_of (put_entries shard.made))) (shard_keys i shard h.0)
        (all_sorted (i + 1) shards h.1)
        (as_keys (λ k. i + 1 ≤ index k) (λ k. i < index k) (λ k is. omega (arith, is)) (shard_entries shards) (later_keys (i + 1) shards h.1))

    -- ---- they have the values of all puts

    abbrev found : List ℕ → List Entry → Option (List ℕ)
    found key es = find string_cmp key es

    found_in_shard : (i : ℕ) (shard : KeptWords) (key : List ℕ) → put_entries shard.made ≡ puts_in bounds i puts → found key (entries_made shard.made) ≡ map_of.get (table_of (puts_in bounds i puts)) key
    found_in_shard i shard key is =
        sym (map_of.get-entries (table_of (put_entries shard.made)) key) ∙ ap (λ (es : List Entry). map_of.get (table_of es) key) is

    none_later : (i : ℕ) (shards : List KeptWords) (key : List ℕ) → index key < i → HoldPuts bounds i puts shards → found key (shard_entries shards) ≡ None
    none_later i [] key less h = refl
    none_later i (shard ∷ shards) key less h =
        found_joined (entries_made shard.made) (shard_entries shards) key
        ∙ ap (λ (o : Option (List ℕ)). value_over o (found key (shard_entries shards)))
        (found_in_shard i shard key h.0 ∙ gets_none i puts key (λ is. absurd (omega (arith, less, is))))
        ∙ none_later (i + 1) shards key (omega (arith, less)) h.1

    found_from : (i : ℕ) (shards : List KeptWords) (key : List ℕ) → i ≤ index key → HoldPuts bounds i puts shards → found key (shard_entries shards) ≡ map_of.get (table_of puts) key
    found_from i [] key least h = absurd (omega (arith, least, h, most_index key bounds))
    found_from i (shard ∷ shards) key least h = by (cases_eq (index key) i) (λ apart. found_from (i + 1) shards key (omega (arith, least, apart)) h.1)
      where
        by : (index key ≡ i) ⊎ (index key ≢ i) → (index key ≢ i → found key (shard_entries shards) ≡ map_of.get (table_of puts) key) → found key (entries_made shard.made ++ shard_entries shards) ≡ map_of.get (table_of puts) key
        by (inl is) rest =
            found_joined (entries_made shard.made) (shard_entries shards) key
            ∙ ap (λ (o : Option (List ℕ)). value_over o (found key (shard_entries shards))) (found_in_shard i shard key h.0 ∙ gets_here i puts key is)
            ∙ ap (λ (o : Option (List ℕ)). value_over (map_of.get (table_of puts) key) o) (none_later (i + 1) shards key (omega (arith, is)) h.1)
            ∙ over_none (map_of.get (table_of puts) key)
        by (inr apart) rest =
            found_joined (entries_made shard.made) (shard_entries shards) key
            ∙ ap (λ (o : Option (List ℕ)). value_over o (found key (shard_entries shards))) (found_in_shard i shard key h.0 ∙ gets_none i puts key apart)
            ∙ rest apart

pub shards_list : LawShardsList
shards_list bounds puts shards h =
    same_entries string_cmp nat_list_cmp_total (map_of.slice_cmp-IsAntisymmetric map_of.nat_cmp-IsAntisymmetric) (shard_entries shards) (map_of.entries (table_of puts))
    (all_sorted bounds puts 0 shards h) (map_of.entries_sorted (table_of puts))
    (λ key. found_from bounds puts 0 shards key (omega arith) h ∙ map_of.get-entries (table_of puts) key)
