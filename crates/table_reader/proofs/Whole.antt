-- What a get finds in files that stand for a map.
use Rattle.std.proofs.Common.{◌≡◌, ◌≢◌, ◌∙◌, ℕ, ◌+◌, List, [], ◌∷◌, ◌++◌, length, drop, Option, None, Some, true, IfSome, Result, Ok, Err, inl, inr, arith, ap, append_assoc, length-append, refl, subst, sym}
use Rattle.std.specs.Prelude.{ℤ}
use Rattle.std.proofs.lemmas.List.{append-nil, drop-drop}
use Rattle.std.proofs.Math.Seq.{drop-append_seam}
use Rattle.std.specs.FinMap as finite
use Rattle.bti_nodes.specs.declared.damage.Damage.{Damage}
use Rattle.bti_nodes.specs.Payloads.{signed_number, unsigned_number}
use Rattle.bti_nodes.specs.Trie.{Path, Paths, paths}
use Rattle.bti_reader.specs.Meaning.{find_last, path_below}
use Rattle.bti_reader.proofs.Finds.{searches_find}
use Rattle.key_types.specs.Columns.{Columns}
use Rattle.key_types.specs.Table.{string_cmp}
use Rattle.key_types.specs.declared.schema.ValueType.{ValueType}
use Rattle.key_decode.specs.Strings.{IsStringOf}
use Rattle.outside.specs.Files.{bytes_of}
use Rattle.length_prefix.specs.Counted.{counted}
use Rattle.length_prefix.proofs.Counts.{counted-same}
use Rattle.data_file.specs.Listing.{AreRows, ArePartitions, FitsStaticType, Partition, Row, data_bytes, head_bytes, partition_bytes, row_bytes, rows_bytes, static_bytes, static_part_bytes}
use Rattle.data_file.specs.Reading.{BeginsStaticPart}
use Rattle.data_file.proofs.Unique.{static_part_front}
use Rattle.index_files.specs.declared.footer.FooterNumbers.{FooterNumbers}
use Rattle.table_files.specs.Blocks.{blocks_among, blocks_of, rows_at}
use Rattle.table_files.specs.IndexMeaning.{AreBlockPaths, LeadsToEntry, MeansBlocks}
use Rattle.table_files.specs.Indexes.{placed_at}
use Rattle.table_files.specs.Names.{partitions_id, rows_id}
use Rattle.table_files.specs.Standing.{RowsAscend, StringsAscend, entries_in}
use Rattle.table_files.proofs.Blocked.{clusterings}
use Rattle.table_reader.specs.declared.block_at.BlockAt.{BlockAt}
use Rattle.table_reader.specs.declared.place.PartitionAt.{PartitionAt}
use Rattle.table_reader.specs.Gets.{FindsBlock, FindsHead, FindsInBlock, FindsInside, FindsStatic, FindsThere, FirstBlock, Found, Gets, IfThere, TableBytes, Then, bytes_in, number_in, number_of, offset_in, offset_of}
use Rattle.table_reader.specs.Laws.{GetsAreOfMap, string_of_key}
use Rattle.table_reader.specs.Rows.{FindsRow}
use Rattle.table_reader.proofs.InBlock.{AreBelow, AreEnough, FirstsAbove, IsLocated, below_passed, block_finds, located}
use Rattle.table_reader.proofs.Indexed.{FindsAmong, HasRoot, leads_ok, leads_sound, number_found}
use Rattle.table_reader.proofs.Lookup.{LacksPartition, row_of, table_none, table_row, table_static}

-- ---- a partition in its file

-- the partition stands at a place of Data.db
pub record StandsAt (columns : Columns) (file : List ℕ) (p : Partition) (base : ℕ) : Type 0 where
  pub tail : List ℕ
  pub bytes : drop base file ≡ counted p.key ++ (static_part_bytes columns.static_value p.static_part ++ (rows_bytes p.rows ++ 0 ∷ tail))
  pub key : IsStringOf columns.partition p.key
  pub static_part : FitsStaticType columns.static_value p.static_part
  pub rows : AreRows columns p.rows
  pub ascend : StringsAscend (clusterings p.rows)

pub grouped : (h s r t : List ℕ) → (h ++ (s ++ (r ++ 0 ∷ []))) ++ t ≡ h ++ (s ++ (r ++ 0 ∷ t))
grouped h s r t =
    append_assoc h (s ++ (r ++ 0 ∷ [])) t ∙ ap (λ x. h ++ x) (append_assoc s (r ++ 0 ∷ []) t ∙ ap (λ x. s ++ x) (append_assoc r (0 ∷ []) t))

pub data_both : (static : Option ValueType) (front rest : List Partition) → data_bytes static (front ++ rest) ≡ data_bytes static front ++ data_bytes static rest
data_both static [] rest = refl
data_both static (p ∷ front) rest = ap (λ l. partition_bytes static p ++ l) (data_both static front rest) ∙ sym (append_assoc (partition_bytes static p) (data_bytes static front) (data_bytes static rest))

pub are_parted : (columns : Columns) (front rest : List Partition) → ArePartitions columns (front ++ rest) → ArePartitions columns front × ArePartitions columns rest
are_parted columns [] rest are = (tt, are)
are_parted columns (p ∷ front) rest are = let more = are_parted columns front rest are.3 in ((are.0, are.1, are.2, more.0), more.1)

ascend_at : (front : List Partition) (p : Partition) (rest : List Partition) → RowsAscend (front ++ p ∷ rest) → StringsAscend (clusterings p.rows)
ascend_at [] p rest ascend = ascend.1
ascend_at (q ∷ front) p rest ascend = ascend_at front p rest ascend.2

pub stands_at : (columns : Columns) (file : List ℕ) (front : List Partition) (p : Partition) (rest : List Partition) → file ≡ data_bytes columns.static_value (front ++ p ∷ rest)
    → ArePartitions columns (front ++ p ∷ rest) → RowsAscend (front ++ p ∷ rest) → StandsAt columns file p (length (data_bytes columns.static_value front))
stands_at columns file front p rest e are ascend =
    let static = columns.static_value in
    let is = (are_parted columns front (p ∷ rest) are).1 in
    let there : drop (length (data_bytes static front)) file ≡ partition_bytes static p ++ data_bytes static rest =
    ap (drop (length (data_bytes static front))) (e ∙ data_both static front (p ∷ rest)) ∙ drop-append_seam (data_bytes static front) (data_bytes static (p ∷ rest)) in
    record {
      tail = data_bytes static rest;
      bytes = there ∙ grouped (counted p.key) (static_part_bytes static p.static_part) (rows_bytes p.rows) (data_bytes static rest);
      key = is.0;
      static_part = is.1;
      rows = is.2;
      ascend = ascend_at front p rest ascend;
    }

-- behind it stand the partitions that follow
pub stands_tail : (columns : Columns) (file : List ℕ) (front : List Partition) (p : Partition) (rest : List Partition) (e : file ≡ data_bytes columns.static_value (front ++ p ∷ rest))
    (are : ArePartitions columns (front ++ p ∷ rest)) (ascend : RowsAscend (front ++ p ∷ rest)) → (stands_at columns file front p rest e are ascend).tail ≡ data_bytes columns.static_value rest
unfolding stands_at
stands_tail columns file front p rest e are ascend = refl

-- ---- the block of a row

-- where the block of a row begins among the rows of a partition
abbrev pub IsFrom : List ℕ → ℕ → List Row → Option Path → Type 0
IsFrom key at rows None = AreEnough key 0 at rows
IsFrom key at rows (Some path) =
    (front : List Row) × (rest : List Row) × (rows ≡ front ++ rest) × AreBelow key front × (unsigned_number path.payload ≡ at + length (rows_bytes front))
    × AreEnough key (unsigned_number path.payload) (unsigned_number path.payload) rest

from_located : (key : List ℕ) (at : ℕ) (row : Row) (rows : List Row) (o : Option Path) → IsLocated key 0 row.clustering (at + length (row_bytes row.clustering row.value)) rows o → IsFrom key at (row ∷ rows) o
from_located key at row rows None there = there
from_located key at row rows (Some path) (front, rest, parts, low, below, place, enough) = (
  row ∷ front,
  rest,
  ap (λ l. row ∷ l) parts,
  (low, below),
  place ∙ omega (arith, length-append (row_bytes row.clustering row.value) (rows_bytes front)),
  enough,
)

from_paths : (key : List ℕ) (at : ℕ) (rows : List Row) (found : List Path) → StringsAscend (clusterings rows) → AreBlockPaths (blocks_among at rows) found
    → IsFrom key at rows (find_last (path_below true key) found)
from_paths key at [] [] ascend are = tt
from_paths key at [] (f ∷ found) ascend are = absurd are
from_paths key at (row ∷ rows) found ascend are =
    from_located key at row rows (find_last (path_below true key) found)
    (located key 0 row.clustering (at + length (row_bytes row.clustering row.value)) rows found ascend are)

pub no_blocks : (key : List ℕ) (at : ℕ) (rows : List Row) → blocks_among at rows ≡ [] → AreEnough key 0 at rows
no_blocks key at [] none = tt
no_blocks key at (row ∷ rows) none = subst (FirstsAbove key) (sym none) tt

from_means : (key file : List ℕ) (root at : ℕ) (rows : List Row) (found : Paths) → paths file root ≡ found → StringsAscend (clusterings rows) → MeansBlocks (blocks_among at rows) found
    → (o : Option Path) × (offset_in file (Some root) key ≡ offset_of (Ok o)) × IsFrom key at rows o
from_means key file root at rows (Err wrong) is ascend means = absurd means
from_means key file root at rows (Ok found) is ascend means =
    (find_last (path_below true key) found, ap offset_of (searches_find file key root found is).floor, from_paths key at rows found ascend means)

pub from_root : (key file : List ℕ) (root : Option ℕ) (at : ℕ) (rows : List Row) → StringsAscend (clusterings rows) → HasRoot file (blocks_among at rows) root
    → (o : Option Path) × (offset_in file root key ≡ offset_of (Ok o)) × IsFrom key at rows o
from_root key file None at rows ascend none = (None, refl, no_blocks key at rows none)
from_root key file (Some root) at rows ascend means = from_means key file root at rows (paths file root) refl ascend means

-- ---- in a partition

module _ (t : TableBytes) (p : Partition) (base : ℕ) (s : StandsAt t.columns t.entries p base) where
  abbrev static : Option ValueType
  static = t.columns.static_value

  abbrev part : List ℕ
  part = static_part_bytes static p.static_part

  abbrev rest : List ℕ
  rest = rows_bytes p.rows ++ 0 ∷ s.tail

  -- what stands behind a front
  dropped : (front more : List ℕ) (at place : ℕ) → place ≡ at + length front → drop at t.entries ≡ front ++ more → drop place t.entries ≡ more
  dropped front more at place n e = ap (λ k. drop k t.entries) n ∙ sym (drop-drop (length front) at t.entries) ∙ ap (drop (length front)) e ∙ drop-append_seam front more

  pub behind_head : (behind : ℕ) → behind ≡ base + length (head_bytes p.key) → drop behind t.entries ≡ part ++ rest
  behind_head behind n = dropped (counted p.key) (part ++ rest) base behind n s.bytes

  -- ---- the static value

  pub part_some : (type : ValueType) → static ≡ Some type → part ≡ static_bytes p.static_part
  part_some type e = ap (λ v. static_part_bytes v p.static_part) e

  pub begins_part : (type : ValueType) (behind : ℕ) → static ≡ Some type → behind ≡ base + length (head_bytes p.key) → BeginsStaticPart t.columns (drop behind t.entries) p.static_part
  begins_part type behind e n = (s.static_part, (rest, behind_head behind n ∙ ap (λ l. l ++ rest) (part_some type e)))

  pub same_part : (type : ValueType) (behind : ℕ) (value : Option (List ℕ)) → static ≡ Some type → behind ≡ base + length (head_bytes p.key) → BeginsStaticPart t.columns (drop behind t.entries) value
      → value ≡ p.static_part
  same_part type behind value e n (fits, (more, f)) =
      (static_part_front (Some type) value p.static_part more rest (subst (λ v. FitsStaticType v value) e fits) (subst (λ v. FitsStaticType v p.static_part) e s.static_part)
      (sym f ∙ behind_head behind n ∙ ap (λ l. l ++ rest) (part_some type e))).0

  no_static : static ≡ None → p.static_part ≡ None
  no_static e = by p.static_part (subst (λ v. FitsStaticType v p.static_part) e s.static_part)
    where
      by : (value : Option (List ℕ)) → FitsStaticType None value → value ≡ None
      by None fits = refl
      by (Some value) fits = absurd fits

  finds_static : (type : Option ValueType) (behind : ℕ) (found : Found) → static ≡ type → behind ≡ base + length (head_bytes p.key) → FindsStatic type t behind found → found ≡ Ok p.static_part
  finds_static None behind found e n is = is ∙ ap Ok (sym (no_static e))
  finds_static (Some type) behind (Ok value) e n begins = ap Ok (same_part type behind value e n begins)
  finds_static (Some type) behind (Err damage) e n (is, none) = absurd (none p.static_part (begins_part type behind e n))

  -- ---- a row

  abbrev pub first_at : ℕ
  first_at = rows_at static p

  pub first_long : length (head_bytes p.key) + length part ≡ first_at
  first_long = sym (length-append (counted p.key) part)

  -- the bytes behind some rows
  pub rows_behind : (front more : List Row) (at : ℕ) → p.rows ≡ front ++ more → at ≡ base + (first_at + length (rows_bytes front)) → drop at t.entries ≡ rows_bytes more ++ 0 ∷ s.tail
  rows_behind front more at parts n =
      let all : rows_bytes p.rows ≡ rows_bytes front ++ rows_bytes more = ap rows_bytes parts ∙ rows_both front more in
      let bytes : drop base t.entries ≡ (counted p.key ++ (part ++ rows_bytes front)) ++ (rows_bytes more ++ 0 ∷ s.tail) =
      s.bytes ∙ ap (λ l. counted p.key ++ (part ++ (l ++ 0 ∷ s.tail))) all ∙ parted (counted p.key) part (rows_bytes front) (rows_bytes more) (0 ∷ s.tail) in
      let long : length (counted p.key ++ (part ++ rows_bytes front)) ≡ first_at + length (rows_bytes front) =
      omega (arith, length-append (counted p.key) (part ++ rows_bytes front), length-append part (rows_bytes front), length-append (counted p.key) part) in
      dropped (counted p.key ++ (part ++ rows_bytes front)) (rows_bytes more ++ 0 ∷ s.tail) base at (n ∙ ap (λ k. base + k) (sym long)) bytes
    where
      rows_both : (xs ys : List Row) → rows_bytes (xs ++ ys) ≡ rows_bytes xs ++ rows_bytes ys
      rows_both [] ys = refl
      rows_both (x ∷ xs) ys = ap (λ l. row_bytes x.clustering x.value ++ l) (rows_both xs ys) ∙ sym (append_assoc (row_bytes x.clustering x.value) (rows_bytes xs) (rows_bytes ys))

      parted : (a b c d e : List ℕ) → a ++ (b ++ ((c ++ d) ++ e)) ≡ (a ++ (b ++ c)) ++ (d ++ e)
      parted a b c d e = simp append_assoc

  -- the first block
  first_block : (type : Option ValueType) (behind : ℕ) (block : BlockAt) → static ≡ type → behind ≡ base + length (head_bytes p.key) → FirstBlock type t base behind (Ok block)
      → (block.rows ≡ base + first_at) × (block.limit ≡ base + 16384)
  first_block None behind block e n is =
      let same : block ≡ record { rows = behind; limit = base + 16384 } = cc in
      let none : length part ≡ 0 = ap (λ v. length (static_part_bytes v p.static_part)) e in
      (ap (λ (b : BlockAt). b.rows) same ∙ n ∙ omega (arith, none, first_long), ap (λ (b : BlockAt). b.limit) same)
  first_block (Some type) behind block e n (value, begins, same) =
      let one : value ≡ p.static_part = same_part type behind value e n begins in
      let long : length (static_bytes value) ≡ length part = ap (λ v. length (static_bytes v)) one ∙ ap (λ l. length l) (sym (part_some type e)) in
      (ap (λ (b : BlockAt). b.rows) same ∙ omega (arith, n, long, first_long), ap (λ (b : BlockAt). b.limit) same)

  first_sound : (type : Option ValueType) (behind : ℕ) (damage : Damage) → static ≡ type → behind ≡ base + length (head_bytes p.key) → FirstBlock type t base behind (Err damage) → ⊥
  first_sound None behind damage e n is = cc
  first_sound (Some type) behind damage e n (is, none) = none p.static_part (begins_part type behind e n)

  -- what is found in the block from some of the rows on
  in_block : (key : List ℕ) (front more : List Row) (start : ℕ) (block : BlockAt) (found : Found) → p.rows ≡ front ++ more → AreBelow key front
      → block.rows ≡ base + (first_at + length (rows_bytes front)) → block.limit ≡ base + start + 16384
      → AreEnough key start (first_at + length (rows_bytes front)) more → FindsInBlock t key block found → found ≡ Ok (row_of key p.rows)
  in_block key front more start block found parts below there limit enough finds =
      let are = rows_are front more (subst (AreRows t.columns) parts s.rows) in
      let ascend = ascends_behind front more (subst (λ (rs : List Row). StringsAscend (clusterings rs)) parts s.ascend) in
      let f = subst (λ (n : ℕ). FindsRow t.columns key block.limit n (drop block.rows t.entries) found) there finds in
      block_finds t.columns key base start block.limit s.tail limit (first_at + length (rows_bytes front)) more (drop block.rows t.entries) found are ascend enough (rows_behind front more block.rows parts there) f
      ∙ ap Ok (sym (ap (row_of key) parts ∙ below_passed key front more below))
    where
      rows_are : (xs ys : List Row) → AreRows t.columns (xs ++ ys) → AreRows t.columns ys
      rows_are [] ys are = are
      rows_are (x ∷ xs) ys are = rows_are xs ys are.1

      ascends_tail : (x : Row) (ys : List Row) → StringsAscend (clusterings (x ∷ ys)) → StringsAscend (clusterings ys)
      ascends_tail x [] ascend = tt
      ascends_tail x (y ∷ ys) ascend = ascend.1

      ascends_behind : (xs ys : List Row) → StringsAscend (clusterings (xs ++ ys)) → StringsAscend (clusterings ys)
      ascends_behind [] ys ascend = ascend
      ascends_behind (x ∷ xs) ys ascend = ascends_behind xs ys (ascends_tail x (xs ++ ys) ascend)

  -- by what the row index has for the row
  finds_row_by : (key : List ℕ) (there : PartitionAt) (behind : ℕ) (o : Option Path) (found : Found) → there.head ≡ base → behind ≡ base + length (head_bytes p.key) → IsFrom key first_at p.rows o
      → Then (FindsBlock t there behind (offset_of (Ok o))) (FindsInBlock t key) found → found ≡ Ok (row_of key p.rows)
  finds_row_by key there behind None found at n from (inl (damage, step, is)) =
      absurd (first_sound static behind damage refl n (subst (λ (k : ℕ). FirstBlock static t k behind (Err damage)) at step))
  finds_row_by key there behind None found at n from (inr (block, step, finds)) =
      let b = first_block static behind block refl n (subst (λ (k : ℕ). FirstBlock static t k behind (Ok block)) at step) in
      let here : first_at ≡ first_at + length (rows_bytes []) = omega arith in
      in_block key [] p.rows 0 block found refl tt (b.0 ∙ ap (λ k. base + k) here) (b.1 ∙ omega arith) (subst (λ (k : ℕ). AreEnough key 0 k p.rows) here from) finds
  finds_row_by key there behind (Some path) found at n from (inl (damage, step, is)) = cc
  finds_row_by key there behind (Some path) found at n (front, more, parts, below, place, enough) (inr (block, step, finds)) =
      let offset = unsigned_number path.payload in
      let same : block ≡ record { rows = there.head + offset; limit = there.head + offset + 16384 } = cc in
      in_block key front more offset block found parts below (ap (λ (b : BlockAt). b.rows) same ∙ omega (arith, at, place)) (ap (λ (b : BlockAt). b.limit) same ∙ omega (arith, at))
      (subst (λ (k : ℕ). AreEnough key offset k more) place enough) finds

  finds_row : (key : List ℕ) (there : PartitionAt) (behind : ℕ) (found : Found) → there.head ≡ base → HasRoot t.rows (blocks_of static p) there.root → behind ≡ base + length (head_bytes p.key)
      → Then (FindsBlock t there behind (offset_in t.rows there.root key)) (FindsInBlock t key) found → found ≡ Ok (row_of key p.rows)
  finds_row key there behind found at root n finds =
      let from = from_root key t.rows there.root first_at p.rows s.ascend root in
      finds_row_by key there behind from.0 found at n from.2 (subst (λ (r : Result (Option ℕ) Damage). Then (FindsBlock t there behind r) (FindsInBlock t key) found) from.1 finds)

-- ---- all of it

-- what is found of the key is what the entries have
abbrev HasKey : List Partition → List ℕ → Option (List ℕ) → Found → Type 0
HasKey ps key wanted found = found ≡ Ok (finite.find string_cmp (string_of_key key wanted) (entries_in ps))

none_of : (columns : Columns) (ps : List Partition) (key : List ℕ) (wanted : Option (List ℕ)) → IsStringOf columns.partition key → ArePartitions columns ps → LacksPartition key ps
    → finite.find string_cmp (string_of_key key wanted) (entries_in ps) ≡ None
none_of columns ps key None is are lacks = ap (λ q. finite.find string_cmp q (entries_in ps)) (sym (append-nil key)) ∙ table_none columns key [] is ps are lacks
none_of columns ps key (Some row) is are lacks = table_none columns key row is ps are lacks

lacks_all : (key : List ℕ) (front : List Partition) (p : Partition) (more : List Partition) → LacksPartition key front → key ≢ p.key → LacksPartition key more → LacksPartition key (front ++ p ∷ more)
lacks_all key [] p more before apart behind = (apart, behind)
lacks_all key (q ∷ front) p more before apart behind = (before.0, lacks_all key front p more before.1 apart behind)

module _ (t : TableBytes) (key : List ℕ) (is : IsStringOf t.columns.partition key) (front : List Partition) (p : Partition) (rest : List Partition)
    (base : ℕ) (s : StandsAt t.columns t.entries p base) (are : ArePartitions t.columns (front ++ p ∷ rest)) (before : LacksPartition key front) (behind_all : LacksPartition key rest) where
  inside : (there : PartitionAt) (wanted : Option (List ℕ)) (behind : ℕ) (found : Found) → IfSome wanted (IsStringOf t.columns.clustering) → key ≡ p.key → there.head ≡ base
      → HasRoot t.rows (blocks_of t.columns.static_value p) there.root → behind ≡ base + length (head_bytes p.key) → FindsInside t there wanted behind found → HasKey (front ++ p ∷ rest) key wanted found
  inside there None behind found fits same at root n finds =
      let parts = are_parted t.columns front (p ∷ rest) are in
      finds_static t p base s t.columns.static_value behind found refl n finds
      ∙ ap Ok (sym (table_static t.columns key is front p rest same parts.1.2 parts.0 parts.1.3 before behind_all))
  inside there (Some row) behind found fits same at root n finds =
      let parts = are_parted t.columns front (p ∷ rest) are in
      finds_row t p base s row there behind found at root n finds
      ∙ ap Ok (sym (table_row t.columns key is row front p rest fits same parts.0 parts.1.3 before behind_all))

  at_head : (there : PartitionAt) (wanted : Option (List ℕ)) (found : Found) → IfSome wanted (IsStringOf t.columns.clustering) → there.head ≡ base
      → HasRoot t.rows (blocks_of t.columns.static_value p) there.root → Then (FindsHead t key there.head) (λ behind. IfThere behind (FindsInside t there wanted)) found
      → HasKey (front ++ p ∷ rest) key wanted found
  at_head there wanted found fits at root (inl (damage, (is_bad, none), ends)) =
      absurd (none p.key (s.key, (static_part_bytes t.columns.static_value p.static_part ++ (rows_bytes p.rows ++ 0 ∷ s.tail), ap (λ k. drop k t.entries) at ∙ s.bytes)))
  at_head there wanted found fits at root (inr (None, (other, apart, (is_other, (more, e))), ends)) =
      let same = counted-same p.key other (static_part_bytes t.columns.static_value p.static_part ++ (rows_bytes p.rows ++ 0 ∷ s.tail)) more (sym s.bytes ∙ ap (λ k. drop k t.entries) (sym at) ∙ e) in
      let differ : key ≢ p.key = λ k. apart (sym same.0 ∙ sym k) in
      ends ∙ ap Ok (sym (none_of t.columns (front ++ p ∷ rest) key wanted is are (lacks_all key front p rest before differ behind_all)))
  at_head there wanted found fits at root (inr (Some behind, ((is_key, (more, e)), place), finds)) =
      let same = counted-same p.key key (static_part_bytes t.columns.static_value p.static_part ++ (rows_bytes p.rows ++ 0 ∷ s.tail)) more (sym s.bytes ∙ ap (λ k. drop k t.entries) (sym at) ∙ e) in
      let n : behind ≡ base + length (head_bytes p.key) = place ∙ omega (arith, at, ap (λ (k : List ℕ). length k) same.0) in
      inside there wanted behind found fits (sym same.0) at root n finds

  finds_there : (wanted : Option (List ℕ)) (number : ℤ) (found : Found) → IfSome wanted (IsStringOf t.columns.clustering)
      → LeadsToEntry t.rows (placed_at t.columns.static_value base p) (blocks_of t.columns.static_value p) number → FindsThere t key wanted number found → HasKey (front ++ p ∷ rest) key wanted found
  finds_there wanted number found fits leads (inl (damage, step, ends)) =
      absurd (leads_sound t (placed_at t.columns.static_value base p) s.key (blocks_of t.columns.static_value p) number damage refl leads step)
  finds_there wanted number found fits leads (inr (there, step, finds)) =
      let place = leads_ok t (placed_at t.columns.static_value base p) s.key (blocks_of t.columns.static_value p) number there refl leads step in
      at_head there wanted found fits place.0 place.1 finds

-- by the number that the partition index has
by_number : (t : TableBytes) (key : List ℕ) (ps : List Partition) (footer : FooterNumbers) (wanted : Option (List ℕ)) (o : Option Path) (found : Found) → IsStringOf t.columns.partition key
    → IfSome wanted (IsStringOf t.columns.clustering) → t.entries ≡ data_bytes t.columns.static_value ps → ArePartitions t.columns ps → RowsAscend ps
    → number_in t.partitions footer key ≡ number_of (Ok o) → FindsAmong t.columns.static_value t.rows key 0 ps o → Gets t footer key wanted found → HasKey ps key wanted found
by_number t key ps footer wanted None found is fits bytes are ascend number lacks (inl (damage, step, ends)) = let apart = step ∙ number in cc
by_number t key ps footer wanted None found is fits bytes are ascend number lacks (inr (n, step, finds)) =
    let none : ◌≡◌ {A = Result (Option ℤ) Damage} (Ok n) (Ok None) = step ∙ number in
    let same : n ≡ None = cc in
    let ends : found ≡ Ok None = subst (λ (m : Option ℤ). IfThere m (FindsThere t key wanted) found) same finds in
    ends ∙ ap Ok (sym (none_of t.columns ps key wanted is are lacks))
by_number t key ps footer wanted (Some path) found is fits bytes are ascend number c (inl (damage, step, ends)) = let apart = step ∙ number in cc
by_number t key ps footer wanted (Some path) found is fits bytes are ascend number c (inr (n, step, finds)) =
    let some : ◌≡◌ {A = Result (Option ℤ) Damage} (Ok n) (Ok (Some (signed_number path.payload))) = step ∙ number in
    let same : n ≡ Some (signed_number path.payload) = cc in
    let there : FindsThere t key wanted (signed_number path.payload) found = subst (λ (m : Option ℤ). IfThere m (FindsThere t key wanted) found) same finds in
    let static = t.columns.static_value in
    let base = length (data_bytes static c.front) in
    let here : 0 + length (data_bytes static c.front) ≡ base = omega arith in
    let are_parts = subst (ArePartitions t.columns) c.parts are in
    let s = stands_at t.columns t.entries c.front c.p c.rest (bytes ∙ ap (data_bytes static) c.parts) are_parts (subst RowsAscend c.parts ascend) in
    let leads = subst (λ (k : ℕ). LeadsToEntry t.rows (placed_at static k c.p) (blocks_of static c.p) (signed_number path.payload)) here c.leads in
    subst (λ (qs : List Partition). HasKey qs key wanted found) (sym c.parts)
    (finds_there t key is c.front c.p c.rest base s are_parts c.before c.behind wanted (signed_number path.payload) found fits leads there)

pub gets_are : GetsAreOfMap
gets_are files generation columns table footer key wanted found stand (first, last, has) is fits gets =
    let held = stand.held in
    let number = number_found columns (bytes_of files (partitions_id generation)) (bytes_of files (rows_id generation)) key first last footer held.partitions stand.indexes.numbered
    stand.indexes.index stand.indexes.entries has in
    by_number (bytes_in columns files generation) key held.partitions footer wanted number.path found is fits held.listed.0 held.listed.1 held.rows number.number number.among gets
    ∙ ap Ok (ap (finite.find string_cmp (string_of_key key wanted)) held.same ∙ sym (finite.get-entries table (string_of_key key wanted)))
