-- The search for a scan's beginning: what its parts say together.
use Rattle.std.proofs.Common.{◌≡◌, ◌∙◌, ℕ, ℤ, ◌+◌, ◌<◌, ◌≤◌, List, length, drop, Option, None, Some, IfOk, IfSome, Result, Ok, Err, inl, inr, ap, arith, refl, subst, sym}
use Rattle.std.specs.Prelude.{unsigned_abs}
use Rattle.std.specs.declared.cmp.Ordering.{Ordering}
use Rattle.std.specs.declared.cmp.Ordering.TheVariants.{Less, Equal, Greater}
use Rattle.std.specs.FinMap as map
use Rattle.outside.specs.Files.{Files, bytes_of}
use Rattle.outside.specs.declared.store.FileId.{FileId}
use Rattle.outside.specs.declared.store.Part.TheVariants.{Partitions, Rows}
use Rattle.key_types.specs.Columns.{Columns, columns_of}
use Rattle.key_types.specs.Table.{string_cmp}
use Rattle.bti_nodes.specs.declared.damage.Damage.{Damage}
use Rattle.bti_reader.specs.declared.ask.Hit.{Hit}
use Rattle.bti_reader.proofs.Asking.{join, join3}
use Rattle.table_reader.proofs.Steps.{step_err, step_ok}
use Rattle.bti_reader.specs.Searches.{Answer, ceiling_in, exact_in, floor_in}
use Rattle.bti_reader.specs.Steps.{FindsHit, SearchAnswers, answer_of, payload_number}
use Rattle.data_file.specs.declared.reading.DataError.{DataError}
use Rattle.data_file.specs.declared.reading.DataError.TheVariants.{StoreFault, Damaged, NoMemory}
use Rattle.data_file.specs.declared.reading.Head.{Head as Head'}
use Rattle.data_file.specs.Answers.{IsHead}
use Rattle.data_file.specs.Listing.{head_bytes}
use Rattle.data_file.specs.Reading.{BeginsHead}
use Rattle.index_files.specs.declared.footer.FooterNumbers.{FooterNumbers}
use Rattle.index_files.specs.Reading.{partition_place}
use Rattle.table_files.specs.Names.{data_id, partitions_id, rows_id}
use Rattle.table_reader.specs.Faults.{fault_of}
use Rattle.table_reader.specs.Opened.{Opened}
use Rattle.table_reader.specs.declared.fault.TableFault.{TableFault}
use Rattle.table_reader.specs.declared.place.PartitionAt.{PartitionAt}
use Rattle.table_reader.specs.declared.seek.BoundString.{BoundString}
use Rattle.table_reader.specs.declared.seek.Start.{Start}
use Rattle.table_reader.specs.Gets.{LeadsTo, TableBytes, Then, bytes_in, number_of, offset_of}
use Rattle.table_reader.specs.Reads.{Ends, EndsCall, clustering_length, path_length}
use Rattle.table_reader.specs.Seeking.{BeginsAt, BeginsBlock, BeginsBy, BeginsFrom, BeginsNext, BeginsScan, BeginsWithin, HasHead, Seeks, at_head}
use Rattle.table_reader.specs.SeekReads.{WithinFrom, WithinScan, WithinSeek, block_len}

-- strings of which none is below the other are the same
pub same_strings : (a b : List ℕ) → string_cmp a b ≡ Equal → a ≡ b
same_strings a b compared = map.slice_cmp-IsAntisymmetric map.nat_cmp-IsAntisymmetric a b compared

-- ---- numbers

pub hit_number : Option Hit → Option ℤ
hit_number None = None
hit_number (Some hit) = Some hit.number

pub partition_found : (answer : Answer) (hit : Option Hit) → SearchAnswers (Ok hit) (answer_of Partitions 0 answer) → Ok (hit_number hit) ≡ number_of answer
unfolding hit_number
partition_found (Err wrong) hit e = cc
partition_found (Ok None) hit e = let is : None ≡ hit = cc in ap (λ (h : Option Hit). Ok (hit_number h)) (sym is)
partition_found (Ok (Some path)) hit e =
    let is : Some (record { path_len = 0 + length path.path; node = path.node; number = payload_number Partitions path.payload }) ≡ hit = cc in
    ap (λ (h : Option Hit). Ok (hit_number h)) (sym is)

pub number_along : (answer : Answer) (hit : Hit) → SearchAnswers (Ok (Some hit)) (answer_of Partitions 0 answer) → Ok (Some hit.number) ≡ number_of answer
unfolding hit_number
number_along answer hit e = partition_found answer (Some hit) e

pub partition_lost : (answer : Answer) (e : DataError) → SearchAnswers {A = Option Hit} (Err e) (answer_of Partitions 0 answer) → Ends (λ number. number ≡ number_of answer) (Err e)
partition_lost answer StoreFault told = tt
partition_lost answer NoMemory told = tt
partition_lost (Err wrong) (Damaged damage) told = ap Err (cc)
partition_lost (Ok None) (Damaged damage) told = cc
partition_lost (Ok (Some path)) (Damaged damage) told = cc

pub block_found : (answer : Answer) (hit : Hit) → SearchAnswers (Ok (Some hit)) (answer_of Rows 0 answer) → Ok (Some (unsigned_abs hit.number)) ≡ offset_of answer
block_found (Err wrong) hit e = cc
block_found (Ok None) hit e = cc
block_found (Ok (Some path)) hit e =
    let is : record { path_len = 0 + length path.path; node = path.node; number = payload_number Rows path.payload } ≡ hit = cc in
    ap (λ (h : Hit). Ok (Some (unsigned_abs h.number))) (sym is)

-- ---- the block of a partition

pub block_begins : (files : Option Files) (columns : Columns) (generation : ℕ) (place : PartitionAt) (clustering : List ℕ) (behind index at : ℕ) (file : FileId) (hit : Hit)
    → place.root ≡ Some index → file ≡ rows_id generation → FindsHit files file 0 (λ bytes. floor_in bytes index clustering) (Ok (Some hit)) → at ≡ place.head + unsigned_abs hit.number
    → IfSome files (λ m. Ends (BeginsBlock (bytes_in columns m generation) place clustering behind place.root) (Ok at))
block_begins None columns generation place clustering behind index at file hit root same found is = tt
block_begins (Some m) columns generation place clustering behind index at file hit root same found is =
    let table = bytes_in columns m generation in
    let answer = subst (λ (f : FileId). SearchAnswers (Ok (Some hit)) (answer_of f.part 0 (floor_in (bytes_of m f) index clustering))) same found in
    subst (λ (r : Option ℕ). Ends (BeginsBlock table place clustering behind r) (Ok at)) (sym root)
    (inr (Some (unsigned_abs hit.number), block_found (floor_in table.rows index clustering) hit answer, ap Ok is))

-- ---- the next partition

head_says : (table : TableBytes) (at : ℕ) (e : DataError) → IsHead table.columns (drop at table.entries) at (Err e) → Ends (HasHead table at) (Err e)
head_says table at StoreFault told = tt
head_says table at NoMemory told = tt
head_says table at (Damaged damage) told = told

-- what a search in Partitions.db finds, in the files of a generation
module _ (columns : Columns) (generation root : ℕ) (string : List ℕ) where
  abbrev pub Finds : (List ℕ → ℕ → List ℕ → Answer) → Files → Result (Option Hit) DataError → Type 0
  Finds search m result = SearchAnswers result (answer_of Partitions 0 (search (bytes_in columns m generation).partitions root string))

  finds : (search : List ℕ → ℕ → List ℕ → Answer) (files : Option Files) (file : FileId) (result : Result (Option Hit) DataError) → file ≡ partitions_id generation
      → FindsHit files file 0 (λ bytes. search bytes root string) result → IfSome files (λ m. Finds search m result)
  finds search None file result same found = tt
  finds search (Some m) file result same found = subst (λ (f : FileId). SearchAnswers result (answer_of f.part 0 (search (bytes_of m f) root string))) same found

  abbrev pub Next : Files → Result (Option Start) DataError → Type 0
  Next m result = Ends (BeginsNext (bytes_in columns m generation) root string) result

  pub next_lost : (files : Option Files) (file : FileId) (e : DataError) → file ≡ partitions_id generation → FindsHit files file 0 (λ bytes. ceiling_in bytes root string) (Err e)
      → IfSome files (λ m. Next m (Err e))
  next_lost files file e same found =
      let told = finds ceiling_in files file (Err e) same found in
      join files files refl told told (λ m p q. step_err (λ number. number ≡ number_of (ceiling_in (bytes_in columns m generation).partitions root string)) (BeginsAt (bytes_in columns m generation)) e (partition_lost (ceiling_in (bytes_in columns m generation).partitions root string) e p))

  -- at the partition that a number names, by what is said of it
  next_at : (files again : Option Files) (file : FileId) (hit : Hit) (result : Result (Option Start) DataError) → again ≡ files → file ≡ partitions_id generation
      → FindsHit files file 0 (λ bytes. ceiling_in bytes root string) (Ok (Some hit)) → IfSome again (λ m. Ends (BeginsAt (bytes_in columns m generation) (Some hit.number)) result)
      → IfSome files (λ m. Next m result)
  unfolding hit_number
  next_at files again file hit result stay same found said =
      join files again stay said (finds ceiling_in files file (Ok (Some hit)) same found)
      (λ m p q. step_ok (λ number. number ≡ number_of (ceiling_in (bytes_in columns m generation).partitions root string)) (BeginsAt (bytes_in columns m generation)) (Some hit.number) result (partition_found (ceiling_in (bytes_in columns m generation).partitions root string) (Some hit) q) p)

  pub next_place_stops : (files again : Option Files) (file : FileId) (hit : Hit) (e : DataError) → again ≡ files → file ≡ partitions_id generation
      → FindsHit files file 0 (λ bytes. ceiling_in bytes root string) (Ok (Some hit)) → IfSome again (λ m. Ends (LeadsTo (bytes_in columns m generation) (partition_place hit.number)) (Err e))
      → IfSome files (λ m. Next m (Err e))
  next_place_stops files again file hit e stay same found leads =
      next_at files again file hit (Err e) stay same found (join again again refl leads leads (λ m p q. step_err (LeadsTo (bytes_in columns m generation) (partition_place hit.number))
      (λ place. Then (HasHead (bytes_in columns m generation) place.head) (λ key start. start ≡ Ok (at_head place))) e p))

  pub next_head : (files again third : Option Files) (file : FileId) (hit : Hit) (place : PartitionAt) (found : Result Head' DataError) (result : Result (Option Start) DataError)
      → again ≡ files → third ≡ again → file ≡ partitions_id generation
      → FindsHit files file 0 (λ bytes. ceiling_in bytes root string) (Ok (Some hit)) → IfSome again (λ m. Ends (LeadsTo (bytes_in columns m generation) (partition_place hit.number)) (Ok place))
      → IfSome third (λ m. IsHead columns (drop place.head (bytes_of m (data_id generation))) place.head found)
      → ((m : Files) → IsHead columns (drop place.head (bytes_of m (data_id generation))) place.head found → Ends (Then (HasHead (bytes_in columns m generation) place.head) (λ key start. start ≡ Ok (at_head place))) result)
      → IfSome files (λ m. Next m result)
  next_head files again third file hit place found result stay stays same hits leads told says =
      next_at files again file hit result stay same hits
      (join again third stays told leads (λ m p q. step_ok (LeadsTo (bytes_in columns m generation) (partition_place hit.number))
      (λ (at : PartitionAt). Then (HasHead (bytes_in columns m generation) at.head) (λ key start. start ≡ Ok (at_head at))) place result q (says m p)))

  pub head_stops_next : (place : PartitionAt) (e : DataError) (m : Files) → IsHead columns (drop place.head (bytes_of m (data_id generation))) place.head (Err e)
      → Ends (Then (HasHead (bytes_in columns m generation) place.head) (λ key start. start ≡ Ok (at_head place))) (Err e)
  head_stops_next place e m told = step_err (HasHead (bytes_in columns m generation) place.head) (λ key (start : Result (Option Start) Damage). start ≡ Ok (at_head place)) e (head_says (bytes_in columns m generation) place.head e told)

  pub head_begins_next : (place : PartitionAt) (head : Head') (start : Option Start) (m : Files) → start ≡ at_head place → IsHead columns (drop place.head (bytes_of m (data_id generation))) place.head (Ok head)
      → Ends (Then (HasHead (bytes_in columns m generation) place.head) (λ key start. start ≡ Ok (at_head place))) (Ok start)
  head_begins_next place head start m is told = inr (head.partition, told.0, ap Ok is)

-- ---- within the bound's partition

within_so : (table : TableBytes) (place : PartitionAt) (key : List ℕ) (behind : ℕ) (wanted : Option (List ℕ)) (clustering string : List ℕ) (result : Result (Option Start) DataError)
    → wanted ≡ Some clustering → string ≡ clustering
    → Ends (Then (BeginsBlock table place string behind place.root) (λ at found. found ≡ Ok (Some (record { at = at; partition = Some key })))) result
    → behind ≡ place.head + length (head_bytes key) → Ends (BeginsWithin table place key wanted) result
within_so table place key behind wanted clustering string result names same said there =
    let Goes : List ℕ → ℕ → Type 0 = λ c at. Ends (Then (BeginsBlock table place c at place.root) (λ at found. found ≡ Ok (Some (record { at = at; partition = Some key })))) result in
    subst (λ (w : Option (List ℕ)). Ends (BeginsWithin table place key w) result) (sym names)
    (subst (Goes clustering) there (subst (λ (c : List ℕ). Goes c behind) same said))

module _ (columns : Columns) (generation : ℕ) (place : PartitionAt) (key : List ℕ) (behind : ℕ) (wanted : Option (List ℕ)) (clustering string : List ℕ) where
  pub within_stops : (files : Option Files) (e : DataError) → wanted ≡ Some clustering → string ≡ clustering
      → IfSome files (λ m. Ends (BeginsBlock (bytes_in columns m generation) place string behind place.root) (Err e))
      → IfSome files (λ m. behind ≡ place.head + length (head_bytes key) → Ends (BeginsWithin (bytes_in columns m generation) place key wanted) (Err e))
  within_stops files e names same told =
      join files files refl told told
      (λ m p q. within_so (bytes_in columns m generation) place key behind wanted clustering string (Err e) names same
      (step_err (BeginsBlock (bytes_in columns m generation) place string behind place.root) (λ at (found : Result (Option Start) Damage). found ≡ Ok (Some (record { at = at; partition = Some key }))) e p))

  pub within_begins : (files : Option Files) (at : ℕ) → wanted ≡ Some clustering → string ≡ clustering
      → IfSome files (λ m. Ends (BeginsBlock (bytes_in columns m generation) place string behind place.root) (Ok at))
      → IfSome files (λ m. behind ≡ place.head + length (head_bytes key) → Ends (BeginsWithin (bytes_in columns m generation) place key wanted) (Ok (Some (record { at = at; partition = Some key }))))
  within_begins files at names same told =
      join files files refl told told
      (λ m p q. within_so (bytes_in columns m generation) place key behind wanted clustering string (Ok (Some (record { at = at; partition = Some key }))) names same (inr (at, p, refl)))

-- ---- by the partition that is found

module _ (columns : Columns) (generation root : ℕ) (bound : BoundString) (number : ℤ) where
  abbrev pub From : Files → Result (Option Start) DataError → Type 0
  From m result = Ends (BeginsFrom (bytes_in columns m generation) root bound (Some number)) result

  pub from_head_stops : (files again : Option Files) (place : PartitionAt) (e : DataError) → again ≡ files
      → IfSome files (λ m. Ends (LeadsTo (bytes_in columns m generation) (partition_place number)) (Ok place))
      → IfSome again (λ m. IsHead columns (drop place.head (bytes_of m (data_id generation))) place.head (Err e)) → IfSome files (λ m. From m (Err e))
  from_head_stops files again place e stay leads told =
      join files again stay told leads
      (λ m p q. step_ok (LeadsTo (bytes_in columns m generation) (partition_place number))
      (λ (at : PartitionAt). Then (HasHead (bytes_in columns m generation) at.head) (λ key. BeginsBy (bytes_in columns m generation) root bound at (string_cmp key bound.partition))) place (Err e) q
      (step_err (HasHead (bytes_in columns m generation) place.head) (λ key. BeginsBy (bytes_in columns m generation) root bound place (string_cmp key bound.partition)) e
      (head_says (bytes_in columns m generation) place.head e p)))

  from_head : (files again third : Option Files) (place : PartitionAt) (head : Head') (order : Ordering) (result : Result (Option Start) DataError) (Told : Files → Type 0) → again ≡ files → third ≡ again
      → IfSome files (λ m. Ends (LeadsTo (bytes_in columns m generation) (partition_place number)) (Ok place))
      → IfSome again (λ m. IsHead columns (drop place.head (bytes_of m (data_id generation))) place.head (Ok head)) → string_cmp head.partition bound.partition ≡ order
      → IfSome third Told → ((m : Files) → head.rows_at ≡ place.head + length (head_bytes head.partition) → Told m → Ends (BeginsBy (bytes_in columns m generation) root bound place order) result)
      → IfSome files (λ m. From m result)
  from_head files again third place head order result Told stay stays leads begins compared told says =
      join3 files again third stay stays begins leads told
      (λ m p q s. step_ok (LeadsTo (bytes_in columns m generation) (partition_place number))
      (λ (at : PartitionAt). Then (HasHead (bytes_in columns m generation) at.head) (λ key. BeginsBy (bytes_in columns m generation) root bound at (string_cmp key bound.partition))) place result q
      (step_ok (HasHead (bytes_in columns m generation) place.head) (λ key. BeginsBy (bytes_in columns m generation) root bound place (string_cmp key bound.partition)) head.partition result p.0
      (subst (λ (o : Ordering). Ends (BeginsBy (bytes_in columns m generation) root bound place o) result) (sym compared) (says m p.1 s))))

  pub from_less : (files again third : Option Files) (place : PartitionAt) (head : Head') (string : List ℕ) (result : Result (Option Start) DataError) → again ≡ files → third ≡ again
      → IfSome files (λ m. Ends (LeadsTo (bytes_in columns m generation) (partition_place number)) (Ok place))
      → IfSome again (λ m. IsHead columns (drop place.head (bytes_of m (data_id generation))) place.head (Ok head)) → string_cmp head.partition bound.partition ≡ Less → string ≡ bound.partition
      → IfSome third (λ m. Ends (BeginsNext (bytes_in columns m generation) root string) result) → IfSome files (λ m. From m result)
  from_less files again third place head string result stay stays leads begins compared same told =
      from_head files again third place head Less result _ stay stays leads begins compared told
      (λ m at said. subst (λ (s : List ℕ). Ends (BeginsNext (bytes_in columns m generation) root s) result) same said)

  pub from_equal : (files again third : Option Files) (place : PartitionAt) (head : Head') (result : Result (Option Start) DataError) → again ≡ files → third ≡ again
      → IfSome files (λ m. Ends (LeadsTo (bytes_in columns m generation) (partition_place number)) (Ok place))
      → IfSome again (λ m. IsHead columns (drop place.head (bytes_of m (data_id generation))) place.head (Ok head)) → string_cmp head.partition bound.partition ≡ Equal
      → IfSome third (λ m. head.rows_at ≡ place.head + length (head_bytes head.partition) → Ends (BeginsWithin (bytes_in columns m generation) place head.partition bound.clustering) result)
      → IfSome files (λ m. From m result)
  from_equal files again third place head result stay stays leads begins compared told =
      from_head files again third place head Equal result _ stay stays leads begins compared told
      (λ m at said. subst (λ (s : List ℕ). Ends (BeginsWithin (bytes_in columns m generation) place s bound.clustering) result)
      (same_strings head.partition bound.partition compared) (said at))

  pub from_greater : (files again : Option Files) (place : PartitionAt) (head : Head') (start : Option Start) → again ≡ files
      → IfSome files (λ m. Ends (LeadsTo (bytes_in columns m generation) (partition_place number)) (Ok place))
      → IfSome again (λ m. IsHead columns (drop place.head (bytes_of m (data_id generation))) place.head (Ok head)) → string_cmp head.partition bound.partition ≡ Greater → start ≡ at_head place
      → IfSome files (λ m. From m (Ok start))
  from_greater files again place head start stay leads begins compared is =
      from_head files again again place head Greater (Ok start) _ stay refl leads begins compared begins (λ m at told. ap Ok is)

  -- ---- reads

  less_at : {A : Type 0} (m : Files) (string : List ℕ) (result : Result A DataError) (r0 r2 r3 : ℕ) → r2 ≤ r0 + 4 → string ≡ bound.partition
      → IfOk result (λ _. r3 ≤ r2 + (length string + path_length (ceiling_in (bytes_in columns m generation).partitions root string) + 5))
      → IfOk result (λ _. WithinFrom (bytes_in columns m generation) root bound (Some number) (r0 + (length bound.partition + 23)) r3)
  less_at m string (Err e) r0 r2 r3 few same told = tt
  less_at m string (Ok x) r0 r2 r3 few same told =
      let now = subst (λ (s : List ℕ). r3 ≤ r2 + (length s + path_length (ceiling_in (bytes_in columns m generation).partitions root s) + 5)) same told in
      (0, inl refl, omega arith)

  pub less_reads : {A : Type 0} (files third : Option Files) (string : List ℕ) (result : Result A DataError) (r0 r2 r3 : ℕ) → third ≡ files → r2 ≤ r0 + 4 → string ≡ bound.partition
      → IfSome third (λ m. IfOk result (λ _. r3 ≤ r2 + (length string + path_length (ceiling_in (bytes_of m (partitions_id generation)) root string) + 5)))
      → IfSome files (λ m. IfOk result (λ _. WithinFrom (bytes_in columns m generation) root bound (Some number) (r0 + (length bound.partition + 23)) r3))
  less_reads files third string result r0 r2 r3 stay few same told =
      let there = subst (λ (f : Option Files). IfSome f (λ m. IfOk result (λ _. r3 ≤ r2 + (length string + path_length (ceiling_in (bytes_of m (partitions_id generation)) root string) + 5)))) stay told in
      join files files refl there there (λ m p q. less_at m string result r0 r2 r3 few same p)

  equal_at : {A : Type 0} (m : Files) (place : PartitionAt) (head : Head') (result : Result A DataError) (r0 r2 r3 : ℕ) → r2 ≤ r0 + 4 → head.partition ≡ bound.partition
      → LeadsTo (bytes_in columns m generation) (partition_place number) (Ok place) → BeginsHead columns (drop place.head (bytes_of m (data_id generation))) head.partition
      → IfOk result (λ _. r3 ≤ r2 + (clustering_length bound.clustering + block_len (bytes_of m (rows_id generation)) bound.clustering place.root + 19))
      → IfOk result (λ _. WithinFrom (bytes_in columns m generation) root bound (Some number) (r0 + (length bound.partition + 23)) r3)
  equal_at m place head (Err e) r0 r2 r3 few same leads begins told = tt
  equal_at m place head (Ok x) r0 r2 r3 few same leads begins told = (
    block_len (bytes_of m (rows_id generation)) bound.clustering place.root,
    inr (place, leads, subst (λ (s : List ℕ). BeginsHead columns (drop place.head (bytes_of m (data_id generation))) s) same begins, refl),
    omega arith,
  )

  pub equal_reads : {A : Type 0} (files again third : Option Files) (place : PartitionAt) (head : Head') (result : Result A DataError) (r0 r2 r3 : ℕ) → again ≡ files → third ≡ again → r2 ≤ r0 + 4
      → string_cmp head.partition bound.partition ≡ Equal
      → IfSome files (λ m. Ends (LeadsTo (bytes_in columns m generation) (partition_place number)) (Ok place))
      → IfSome again (λ m. IsHead columns (drop place.head (bytes_of m (data_id generation))) place.head (Ok head))
      → IfSome third (λ m. IfOk result (λ _. r3 ≤ r2 + (clustering_length bound.clustering + block_len (bytes_of m (rows_id generation)) bound.clustering place.root + 19)))
      → IfSome files (λ m. IfOk result (λ _. WithinFrom (bytes_in columns m generation) root bound (Some number) (r0 + (length bound.partition + 23)) r3))
  equal_reads files again third place head result r0 r2 r3 stay stays few compared leads begins told =
      join3 files again third stay stays begins leads told
      (λ m p q s. equal_at m place head result r0 r2 r3 few (map.slice_cmp-IsAntisymmetric map.nat_cmp-IsAntisymmetric head.partition bound.partition compared) q p.0 s)

  pub greater_reads : (files : Option Files) (r0 r2 : ℕ) → r2 ≤ r0 + 4 → IfSome files (λ m. WithinFrom (bytes_in columns m generation) root bound (Some number) (r0 + (length bound.partition + 23)) r2)
  greater_reads None r0 r2 few = tt
  greater_reads (Some m) r0 r2 few = (0, inl refl, omega arith)

-- ---- the search

-- what a search along a string finds in Partitions.db, where the string is the bound's
pub finds_along : (columns : Columns) (generation root : ℕ) (string wanted : List ℕ) (search : List ℕ → ℕ → List ℕ → Answer) (files again : Option Files) (file : FileId) (result : Result (Option Hit) DataError)
    → again ≡ files → string ≡ wanted → file ≡ partitions_id generation → FindsHit again file 0 (λ bytes. search bytes root string) result
    → IfSome files (λ m. Finds columns generation root wanted search m result)
finds_along columns generation root string wanted search files again file result stay same name found =
    subst (λ (f : Option Files). IfSome f (λ m. Finds columns generation root wanted search m result)) stay
    (finds columns generation root wanted search again file result name
    (subst (λ (s : List ℕ). FindsHit again file 0 (λ bytes. search bytes root s) result) same found))

module _ (columns : Columns) (generation root : ℕ) (bound : BoundString) where
  abbrev pub Sought : Files → Result (Option Start) DataError → Type 0
  Sought m result = Ends (Seeks (bytes_in columns m generation) root bound) result

  pub seeks_lost : (files again : Option Files) (string : List ℕ) (file : FileId) (e : DataError) → again ≡ files → string ≡ bound.partition → file ≡ partitions_id generation
      → FindsHit again file 0 (λ bytes. exact_in bytes root string) (Err e) → IfSome files (λ m. Sought m (Err e))
  seeks_lost files again string file e stay same name found =
      let told = finds_along columns generation root string bound.partition exact_in files again file (Err e) stay same name found in
      join files files refl told told
      (λ m p q. step_err (λ number. number ≡ number_of (exact_in (bytes_in columns m generation).partitions root bound.partition)) (BeginsFrom (bytes_in columns m generation) root bound) e
      (partition_lost (exact_in (bytes_in columns m generation).partitions root bound.partition) e p))

  pub seeks_found : (files again third : Option Files) (string : List ℕ) (file : FileId) (found : Option Hit) (result : Result (Option Start) DataError) → again ≡ files → third ≡ again
      → string ≡ bound.partition → file ≡ partitions_id generation → FindsHit again file 0 (λ bytes. exact_in bytes root string) (Ok found)
      → IfSome third (λ m. Ends (BeginsFrom (bytes_in columns m generation) root bound (hit_number found)) result) → IfSome files (λ m. Sought m result)
  seeks_found files again third string file found result stay stays same name hits begins =
      join files third (stays ∙ stay) begins (finds_along columns generation root string bound.partition exact_in files again file (Ok found) stay same name hits)
      (λ m p q. step_ok (λ number. number ≡ number_of (exact_in (bytes_in columns m generation).partitions root bound.partition)) (BeginsFrom (bytes_in columns m generation) root bound)
      (hit_number found) result (partition_found (exact_in (bytes_in columns m generation).partitions root bound.partition) found q) p)

  pub begins_some : (third : Option Files) (hit : Hit) (number : ℤ) (result : Result (Option Start) DataError) → number ≡ hit.number
      → IfSome third (λ m. Ends (BeginsFrom (bytes_in columns m generation) root bound (Some number)) result)
      → IfSome third (λ m. Ends (BeginsFrom (bytes_in columns m generation) root bound (hit_number (Some hit))) result)
  unfolding hit_number
  begins_some third hit number result same told =
      subst (λ (z : ℤ). IfSome third (λ m. Ends (BeginsFrom (bytes_in columns m generation) root bound (Some z)) result)) same told

  pub begins_none : (third : Option Files) (string : List ℕ) (result : Result (Option Start) DataError) → string ≡ bound.partition
      → IfSome third (λ m. Ends (BeginsNext (bytes_in columns m generation) root string) result)
      → IfSome third (λ m. Ends (BeginsFrom (bytes_in columns m generation) root bound (hit_number None)) result)
  unfolding hit_number
  begins_none third string result same told =
      subst (λ (s : List ℕ). IfSome third (λ m. Ends (BeginsNext (bytes_in columns m generation) root s) result)) same told

  reads_at : {A : Type 0} (m : Files) (hit : Hit) (result : Result A DataError) (r0 r1 r3 : ℕ) → r1 ≤ r0 + (length bound.partition + 1)
      → Finds columns generation root bound.partition exact_in m (Ok (Some hit))
      → IfOk result (λ _. WithinFrom (bytes_in columns m generation) root bound (Some hit.number) (r1 + (length bound.partition + 23)) r3)
      → IfOk result (λ _. WithinSeek (bytes_in columns m generation) root bound r0 r3)
  unfolding hit_number
  reads_at m hit (Err e) r0 r1 r3 few found told = tt
  reads_at m hit (Ok x) r0 r1 r3 few found (size, has, within) =
      (Some hit.number, partition_found (exact_in (bytes_in columns m generation).partitions root bound.partition) (Some hit) found, (size, has, omega arith))

  pub seek_reads : {A : Type 0} (files again third : Option Files) (string : List ℕ) (file : FileId) (hit : Hit) (number : ℤ) (result : Result A DataError) (r0 r1 r3 : ℕ) → again ≡ files → third ≡ again
      → string ≡ bound.partition → file ≡ partitions_id generation → number ≡ hit.number → r1 ≤ r0 + (length string + 1) → FindsHit again file 0 (λ bytes. exact_in bytes root string) (Ok (Some hit))
      → IfSome third (λ m. IfOk result (λ _. WithinFrom (bytes_in columns m generation) root bound (Some number) (r1 + (length bound.partition + 23)) r3))
      → IfSome files (λ m. IfOk result (λ _. WithinSeek (bytes_in columns m generation) root bound r0 r3))
  seek_reads files again third string file hit number result r0 r1 r3 stay stays same name signed few hits within =
      let there = subst (λ (z : ℤ). IfSome third (λ m. IfOk result (λ _. WithinFrom (bytes_in columns m generation) root bound (Some z) (r1 + (length bound.partition + 23)) r3))) signed within in
      let short = subst (λ (s : List ℕ). r1 ≤ r0 + (length s + 1)) same few in
      join files third (stays ∙ stay) there (finds_along columns generation root string bound.partition exact_in files again file (Ok (Some hit)) stay same name hits)
      (λ m p q. reads_at m hit result r0 r1 r3 short q p)

-- ---- the table's call

table_says : {A : Type 0} (Is : Result A Damage → Type 0) (e : DataError) → Ends Is (Err e) → EndsCall Is (Err (fault_of e))
table_says Is StoreFault told = tt
table_says Is NoMemory told = tt
table_says Is (Damaged damage) told = told

some_partitions : (n : ℕ) → (n ≡ 0 → ⊥) → 0 < n
some_partitions n some = omega (arith, some)

module _ (files : Option Files) (table : Opened) (footer : FooterNumbers) (bound : BoundString) (from : Option BoundString) where
  abbrev pub SeekTold : Result (Option Start) TableFault → Type 0
  SeekTold result = IfSome files (λ m. IfSome table.footer (λ footer. EndsCall (BeginsScan (bytes_in (columns_of table.schema) m table.generation) footer from) result))

  told_by : (result : Result (Option Start) TableFault) → from ≡ Some bound → table.footer ≡ Some footer
      → IfSome files (λ m. EndsCall (BeginsScan (bytes_in (columns_of table.schema) m table.generation) footer (Some bound)) result) → SeekTold result
  told_by result named loaded told =
      let there = subst (λ (o : Option BoundString). IfSome files (λ m. EndsCall (BeginsScan (bytes_in (columns_of table.schema) m table.generation) footer o) result)) (sym named) told in
      subst (λ (o : Option FooterNumbers). IfSome files (λ m. IfSome o (λ f. EndsCall (BeginsScan (bytes_in (columns_of table.schema) m table.generation) f from) result))) (sym loaded) there

  pub seek_begins : (start : Option Start) → from ≡ Some bound → table.footer ≡ Some footer → (footer.partitions ≡ 0 → ⊥)
      → IfSome files (λ m. Ends (Seeks (bytes_in (columns_of table.schema) m table.generation) footer.root bound) (Ok start)) → SeekTold (Ok start)
  seek_begins start named loaded some told =
      told_by (Ok start) named loaded (join files files refl told told (λ m p q. inr (some_partitions footer.partitions some, p)))

  pub seek_stops : (e : DataError) (f : TableFault) → from ≡ Some bound → table.footer ≡ Some footer → (footer.partitions ≡ 0 → ⊥) → f ≡ fault_of e
      → IfSome files (λ m. Ends (Seeks (bytes_in (columns_of table.schema) m table.generation) footer.root bound) (Err e)) → SeekTold (Err f)
  seek_stops e f named loaded some is told =
      subst (λ (x : TableFault). SeekTold (Err x)) (sym is)
      (told_by (Err (fault_of e)) named loaded (join files files refl told told
      (λ m p q. table_says (BeginsScan (bytes_in (columns_of table.schema) m table.generation) footer (Some bound)) e (stops_some m e p))))
    where
      stops_some : (m : Files) (e : DataError) → Ends (Seeks (bytes_in (columns_of table.schema) m table.generation) footer.root bound) (Err e)
          → Ends (BeginsScan (bytes_in (columns_of table.schema) m table.generation) footer (Some bound)) (Err e)
      stops_some m StoreFault p = tt
      stops_some m NoMemory p = tt
      stops_some m (Damaged damage) p = inr (some_partitions footer.partitions some, p)

  pub seek_within : {A E : Type 0} (result : Result A E) (r0 r3 : ℕ) → from ≡ Some bound → table.footer ≡ Some footer
      → IfSome files (λ m. IfOk result (λ _. WithinSeek (bytes_in (columns_of table.schema) m table.generation) footer.root bound r0 r3))
      → IfSome files (λ m. IfSome table.footer (λ footer. IfOk result (λ _. WithinScan (bytes_in (columns_of table.schema) m table.generation) footer from r0 r3)))
  seek_within result r0 r3 named loaded told =
      let there = join files files refl told told (λ m p q. in_scan m result p) in
      let found = subst (λ (o : Option BoundString). IfSome files (λ m. IfOk result (λ _. WithinScan (bytes_in (columns_of table.schema) m table.generation) footer o r0 r3))) (sym named) there in
      subst (λ (o : Option FooterNumbers). IfSome files (λ m. IfSome o (λ f. IfOk result (λ _. WithinScan (bytes_in (columns_of table.schema) m table.generation) f from r0 r3)))) (sym loaded) found
    where
      in_scan : {A E : Type 0} (m : Files) (result : Result A E) → IfOk result (λ _. WithinSeek (bytes_in (columns_of table.schema) m table.generation) footer.root bound r0 r3)
          → IfOk result (λ _. WithinScan (bytes_in (columns_of table.schema) m table.generation) footer (Some bound) r0 r3)
      in_scan m (Ok x) p = inr p
      in_scan m (Err e) p = tt
