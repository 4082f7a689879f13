-- What the map of a table has at a key, by the partitions of its entries.
use Rattle.std.proofs.Common.{◌≡◌, ◌≢◌, ◌⊎◌, ◌∙◌, ℕ, ◌<◌, List, [], ◌∷◌, ◌++◌, length, true, false, cond, Option, None, Some, inl, inr, arith, ap, append_assoc, length-append, refl, subst, sym}
use Rattle.std.proofs.lemmas.List.{append-nil}
use Rattle.std.proofs.lemmas.Cmp.{nat_list_cmp_total}
use Rattle.std.specs.FinMap as finite
use Rattle.std.specs.Ordering.{eq_by_cmp, is_eq, nat_cmp, ordering_reverse}
use Rattle.std.specs.declared.cmp.Ordering.{Ordering}
use Rattle.std.specs.declared.cmp.Ordering.TheVariants.{Less, Equal, Greater}
use Rattle.byte_order.specs.Strings.{IsPrefix}
use Rattle.byte_order.proofs.Prefixes.{head_is, tail_is}
use Rattle.byte_order.proofs.Shared.{itself, rest_decides}
use Rattle.byte_order.proofs.Sizes.{never_longer}
use Rattle.key_decode.specs.Strings.{IsStringOf}
use Rattle.key_types.specs.Columns.{Columns}
use Rattle.key_types.specs.Kinds.{Kinds}
use Rattle.key_types.specs.Table.{Entry, LacksKey, string_cmp}
use Rattle.data_file.specs.Listing.{ArePartitions, AreRows, Partition, Row}
use Rattle.table_files.specs.Standing.{entries_in, row_entries, static_entries}
use Rattle.table_files.proofs.Strings.{apart_below, string_some}

-- ---- two strings

pub order_same : (a b : List ℕ) → string_cmp a b ≡ Equal → a ≡ b
order_same a b e = finite.slice_cmp-IsAntisymmetric finite.nat_cmp-IsAntisymmetric a b e

own : (o : Ordering) → o ≡ ordering_reverse o → o ≡ Equal
own Less e = cc
own Equal e = refl
own Greater e = cc

pub order_self : (a b : List ℕ) → a ≡ b → string_cmp a b ≡ Equal
order_self a b e = subst (λ (c : List ℕ). string_cmp a c ≡ Equal) e (own (string_cmp a a) (nat_list_cmp_total.antisymm a a))

pub turned : (a b : List ℕ) → string_cmp a b ≡ Greater → string_cmp b a ≡ Less
turned a b e = nat_list_cmp_total.antisymm b a ∙ ap ordering_reverse e

pub less_apart : (a b : List ℕ) → string_cmp a b ≡ Less → a ≢ b
less_apart a b low e = let same = order_self a b e in cc

pub decided : (a b : List ℕ) → (a ≡ b) ⊎ (a ≢ b)
decided a b = by (string_cmp a b) refl
  where
    by : (o : Ordering) → string_cmp a b ≡ o → (a ≡ b) ⊎ (a ≢ b)
    by Less e = inr (less_apart a b e)
    by Equal e = inl (order_same a b e)
    by Greater e = inr (λ s. less_apart b a (turned a b e) (sym s))

-- the test for a key
test_apart : (a b : List ℕ) → a ≢ b → eq_by_cmp string_cmp a b ≡ false
test_apart a b apart = by (string_cmp a b) refl
  where
    by : (o : Ordering) → string_cmp a b ≡ o → is_eq o ≡ false
    by Less e = refl
    by Equal e = absurd (apart (order_same a b e))
    by Greater e = refl

test_same : (a b : List ℕ) → a ≡ b → eq_by_cmp string_cmp a b ≡ true
test_same a b e = ap is_eq (order_self a b e)

-- what stands in front of both is no matter
front_off : (key a b : List ℕ) → string_cmp (key ++ a) (key ++ b) ≡ string_cmp a b
front_off [] a b = refl
front_off (k ∷ key) a b = rest_decides (nat_cmp k k) (string_cmp (key ++ a) (key ++ b)) (itself k k refl) ∙ front_off key a b

-- two beginnings of one string
pub common : (a b y x : List ℕ) → a ++ y ≡ b ++ x → IsPrefix a b ⊎ IsPrefix b a
common [] b y x e = inl (b, refl)
common (c ∷ a) [] y x e = inr (c ∷ a, refl)
common (c ∷ a) (d ∷ b) y x e = by (common a b y x (tail_is c d (a ++ y) (b ++ x) e))
  where
    same : c ≡ d
    same = head_is c d (a ++ y) (b ++ x) e

    by : IsPrefix a b ⊎ IsPrefix b a → IsPrefix (c ∷ a) (d ∷ b) ⊎ IsPrefix (d ∷ b) (c ∷ a)
    by (inl (more, f)) = inl (more, ap (λ z. z ∷ b) (sym same) ∙ ap (λ l. c ∷ l) f)
    by (inr (more, f)) = inr (more, ap (λ z. z ∷ a) same ∙ ap (λ l. d ∷ l) f)

module _ (ts : Kinds) where
  -- a string that begins another is that
  prefix_same : (a b : List ℕ) → IsStringOf ts a → IsStringOf ts b → IsPrefix a b → a ≡ b
  prefix_same a b is_a is_b p = by (string_cmp a b) refl
    where
      by : (o : Ordering) → string_cmp a b ≡ o → a ≡ b
      by Less e = absurd ((apart_below ts a b is_a is_b e).1 p)
      by Equal e = order_same a b e
      by Greater e = absurd (never_longer b a (turned a b e) p)

  -- behind different keys stand different strings
  keys_apart : (a b y x : List ℕ) → IsStringOf ts a → IsStringOf ts b → a ≢ b → a ++ y ≢ b ++ x
  keys_apart a b y x is_a is_b apart e = by (common a b y x e)
    where
      by : IsPrefix a b ⊎ IsPrefix b a → ⊥
      by (inl p) = apart (prefix_same a b is_a is_b p)
      by (inr p) = apart (sym (prefix_same b a is_b is_a p))

-- ---- entries

find_none : (q : List ℕ) (es : List Entry) → LacksKey q es → finite.find string_cmp q es ≡ None
find_none q [] lacks = refl
find_none q (e ∷ es) lacks = ap (λ t. cond t (Some e.1) (finite.find string_cmp q es)) (test_apart q e.0 lacks.0) ∙ find_none q es lacks.1

find_behind : (q : List ℕ) (front rest : List Entry) → LacksKey q front → finite.find string_cmp q (front ++ rest) ≡ finite.find string_cmp q rest
find_behind q [] rest lacks = refl
find_behind q (e ∷ front) rest lacks = ap (λ t. cond t (Some e.1) (finite.find string_cmp q (front ++ rest))) (test_apart q e.0 lacks.0) ∙ find_behind q front rest lacks.1

lacks_both : (q : List ℕ) (xs ys : List Entry) → LacksKey q xs → LacksKey q ys → LacksKey q (xs ++ ys)
lacks_both q [] ys f g = g
lacks_both q (x ∷ xs) ys f g = (f.0, lacks_both q xs ys f.1 g)

pub entries_both : (front rest : List Partition) → entries_in (front ++ rest) ≡ entries_in front ++ entries_in rest
entries_both [] rest = refl
entries_both (p ∷ front) rest =
    let static = static_entries p.key p.static_part in
    let rows = row_entries p.key p.rows in
    ap (λ l. static ++ (rows ++ l)) (entries_both front rest)
    ∙ sym (append_assoc static (rows ++ entries_in front) (entries_in rest) ∙ ap (λ l. static ++ l) (append_assoc rows (entries_in front) (entries_in rest)))

-- the value of a row
abbrev pub row_of : List ℕ → List Row → Option (List ℕ)
row_of key [] = None
row_of key (row ∷ rows) = cond (eq_by_cmp string_cmp key row.clustering) (Some row.value) (row_of key rows)

pub row_here : (key : List ℕ) (row : Row) (rows : List Row) → key ≡ row.clustering → row_of key (row ∷ rows) ≡ Some row.value
row_here key row rows e = ap (λ t. cond t (Some row.value) (row_of key rows)) (test_same key row.clustering e)

pub row_passed : (key : List ℕ) (row : Row) (rows : List Row) → key ≢ row.clustering → row_of key (row ∷ rows) ≡ row_of key rows
row_passed key row rows e = ap (λ t. cond t (Some row.value) (row_of key rows)) (test_apart key row.clustering e)

find_row_in : (key x : List ℕ) (rows : List Row) (rest : List Entry) → LacksKey (key ++ x) rest → finite.find string_cmp (key ++ x) (row_entries key rows ++ rest) ≡ row_of x rows
find_row_in key x [] rest lacks = find_none (key ++ x) rest lacks
find_row_in key x (row ∷ rows) rest lacks =
    ap (λ o. cond (is_eq o) (Some row.value) (finite.find string_cmp (key ++ x) (row_entries key rows ++ rest))) (front_off key x row.clustering)
    ∙ ap (λ l. cond (eq_by_cmp string_cmp x row.clustering) (Some row.value) l) (find_row_in key x rows rest lacks)

-- ---- partitions

-- none of the partitions is of the key
abbrev pub LacksPartition : List ℕ → List Partition → Type 0
LacksPartition key [] = Unit {0}
LacksPartition key (p ∷ ps) = (key ≢ p.key) × LacksPartition key ps

module _ (columns : Columns) (key x : List ℕ) (is : IsStringOf columns.partition key) where
  rows_lack : (p : List ℕ) (rows : List Row) → IsStringOf columns.partition p → key ≢ p → LacksKey (key ++ x) (row_entries p rows)
  rows_lack p [] is_p apart = tt
  rows_lack p (row ∷ rows) is_p apart = (keys_apart columns.partition key p x row.clustering is is_p apart, rows_lack p rows is_p apart)

  static_lacks : (p : List ℕ) (static : Option (List ℕ)) → IsStringOf columns.partition p → key ≢ p → LacksKey (key ++ x) (static_entries p static)
  static_lacks p None is_p apart = tt
  static_lacks p (Some value) is_p apart = (λ e. keys_apart columns.partition key p x [] is is_p apart (e ∙ sym (append-nil p)), tt)

  pub table_lacks : (ps : List Partition) → ArePartitions columns ps → LacksPartition key ps → LacksKey (key ++ x) (entries_in ps)
  table_lacks [] are lacks = tt
  table_lacks (p ∷ ps) are lacks =
      lacks_both (key ++ x) (static_entries p.key p.static_part) (row_entries p.key p.rows ++ entries_in ps) (static_lacks p.key p.static_part are.0 lacks.0)
      (lacks_both (key ++ x) (row_entries p.key p.rows) (entries_in ps) (rows_lack p.key p.rows are.0 lacks.0) (table_lacks ps are.3 lacks.1))

  pub table_none : (ps : List Partition) → ArePartitions columns ps → LacksPartition key ps → finite.find string_cmp (key ++ x) (entries_in ps) ≡ None
  table_none ps are lacks = find_none (key ++ x) (entries_in ps) (table_lacks ps are lacks)

longer : (key x : List ℕ) → 0 < length x → key ++ x ≢ key
longer key x some e = omega (arith, some, ap length e, length-append key x)

module _ (columns : Columns) (key : List ℕ) (is : IsStringOf columns.partition key) where
  -- the row of a key
  pub table_row : (x : List ℕ) (front : List Partition) (p : Partition) (rest : List Partition) → IsStringOf columns.clustering x → key ≡ p.key
      → ArePartitions columns front → ArePartitions columns rest → LacksPartition key front → LacksPartition key rest
      → finite.find string_cmp (key ++ x) (entries_in (front ++ p ∷ rest)) ≡ row_of x p.rows
  table_row x front p rest is_x same before behind lacks lacking =
      let q = key ++ x in
      let some = string_some columns.clustering x is_x in
      let static : LacksKey q (static_entries p.key p.static_part) = by p.static_part in
      ap (finite.find string_cmp q) (entries_both front (p ∷ rest)) ∙ find_behind q (entries_in front) (entries_in (p ∷ rest)) (table_lacks columns key x is front before lacks)
      ∙ find_behind q (static_entries p.key p.static_part) (row_entries p.key p.rows ++ entries_in rest) static
      ∙ ap (λ k. finite.find string_cmp q (row_entries k p.rows ++ entries_in rest)) (sym same)
      ∙ find_row_in key x p.rows (entries_in rest) (table_lacks columns key x is rest behind lacking)
    where
      by : (static : Option (List ℕ)) → LacksKey (key ++ x) (static_entries p.key static)
      by None = tt
      by (Some value) = (λ e. longer key x (string_some columns.clustering x is_x) (e ∙ sym same), tt)

  -- the static value of a key
  rows_longer : (rows : List Row) → AreRows columns rows → LacksKey key (row_entries key rows)
  rows_longer [] are = tt
  rows_longer (row ∷ rows) are = (λ e. longer key row.clustering (string_some columns.clustering row.clustering are.0.0) (sym e), rows_longer rows are.1)

  static_here : (static : Option (List ℕ)) (rest : List Entry) → LacksKey key rest → finite.find string_cmp key (static_entries key static ++ rest) ≡ static
  static_here None rest lacks = find_none key rest lacks
  static_here (Some value) rest lacks = ap (λ t. cond t (Some value) (finite.find string_cmp key rest)) (test_same key key refl)

  pub table_static : (front : List Partition) (p : Partition) (rest : List Partition) → key ≡ p.key → AreRows columns p.rows
      → ArePartitions columns front → ArePartitions columns rest → LacksPartition key front → LacksPartition key rest
      → finite.find string_cmp key (entries_in (front ++ p ∷ rest)) ≡ p.static_part
  table_static front p rest same rows before behind lacks lacking =
      let at_front : LacksKey key (entries_in front) = subst (λ (q : List ℕ). LacksKey q (entries_in front)) (append-nil key) (table_lacks columns key [] is front before lacks) in
      let at_rest : LacksKey key (entries_in rest) = subst (λ (q : List ℕ). LacksKey q (entries_in rest)) (append-nil key) (table_lacks columns key [] is rest behind lacking) in
      ap (finite.find string_cmp key) (entries_both front (p ∷ rest)) ∙ find_behind key (entries_in front) (entries_in (p ∷ rest)) at_front
      ∙ ap (λ k. finite.find string_cmp key (static_entries k p.static_part ++ (row_entries k p.rows ++ entries_in rest))) (sym same)
      ∙ static_here p.static_part (row_entries key p.rows ++ entries_in rest) (lacks_both key (row_entries key p.rows) (entries_in rest) (rows_longer p.rows rows) at_rest)
