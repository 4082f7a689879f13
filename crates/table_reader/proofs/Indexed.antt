-- What a get finds in the index files of partitions.
use Rattle.std.proofs.Common.{◌≡◌, ◌≢◌, ◌∙◌, ℕ, suc, ◌+◌, ◌^◌, ◌<◌, ◌≤◌, List, [], ◌∷◌, ◌++◌, length, take, drop, Bool, true, false, cond, Option, None, Some, Result, Ok, Err, arith, ap, append_assoc, length-append, refl, subst, sym}
use Rattle.std.specs.Prelude.{ℤ, find, ◌==◌, if◌then◌else◌}
use Rattle.std.proofs.lemmas.Bool.{ne_eqb}
use Rattle.std.proofs.lemmas.List.{append-nil, drop-drop, take-append-drop}
use Rattle.std.proofs.Math.Seq.{drop-append_seam}
use Rattle.byteorder.specs.Endian.{big_bytes, big_number}
use Rattle.byteorder.specs.Numbers.{big_number-reads_back, length-bytes_high_first}
use Rattle.byte_order.specs.Strings.{IsPrefix, IsPrefixOfNone}
use Rattle.byte_order.proofs.Prefixes.{all, found}
use Rattle.bti_nodes.specs.declared.damage.Damage.{Damage}
use Rattle.bti_nodes.specs.Payloads.{signed_number}
use Rattle.bti_nodes.specs.Trie.{Path, Paths, paths}
use Rattle.bti_reader.specs.Meaning.{path_begins}
use Rattle.bti_reader.specs.Searches.{exact_in}
use Rattle.bti_reader.proofs.Finds.{searches_find}
use Rattle.key_types.specs.Columns.{Columns}
use Rattle.key_types.specs.declared.schema.ValueType.{ValueType}
use Rattle.key_decode.specs.Strings.{IsStringOf}
use Rattle.length_prefix.specs.Counted.{counted}
use Rattle.length_prefix.proofs.Counts.{counted-same}
use Rattle.data_file.specs.Listing.{Partition, data_bytes, partition_bytes}
use Rattle.index_files.specs.declared.entry.EntryNumbers.{EntryNumbers}
use Rattle.index_files.specs.declared.footer.FooterNumbers.{FooterNumbers}
use Rattle.index_files.specs.Entries.{numbers_in}
use Rattle.index_files.specs.Footers.{IsFooter, footer_numbers}
use Rattle.index_files.specs.Reading.{partition_place}
use Rattle.partition_index.specs.Entries.{Numbered, first_string, last_string, strings_of}
use Rattle.partition_index.specs.File.{behind_trie, footer, in_eight}
use Rattle.row_index.specs.Entries.{Block, BlockList}
use Rattle.row_index.specs.File.{entry_bytes}
use Rattle.table_files.specs.Blocks.{blocks_of}
use Rattle.table_files.specs.IndexMeaning.{AllLead, AreIndexPaths, HasEntry, IsIndexFile, IsIndexPath, LeadsToEntry, MeansBlocks, MeansIndex}
use Rattle.table_files.specs.Indexes.{placed, placed_at, placed_from}
use Rattle.table_reader.specs.declared.place.PartitionAt.{PartitionAt}
use Rattle.table_reader.specs.Gets.{LeadsTo, TableBytes, number_in, number_of}
use Rattle.table_reader.proofs.Lookup.{LacksPartition}

-- ---- the footer

-- the ends of one string, as long
ends_same : (a b x y : List ℕ) → a ++ x ≡ b ++ y → length x ≡ length y → x ≡ y
ends_same a b x y e n =
    let sum : length a + length x ≡ length b + length y = sym (length-append a x) ∙ ap length e ∙ length-append b y in
    let same : length a ≡ length b = omega arith in
    sym (drop-append_seam a x) ∙ ap (λ k. drop k (a ++ x)) same ∙ ap (drop (length b)) e ∙ drop-append_seam b y

pub eight_long : (n : ℕ) → length (in_eight n) ≡ 8
unfolding in_eight
eight_long n = length-bytes_high_first 8 n

pub eight_read : (n : ℕ) (more : List ℕ) → n < 2 ^ 64 → big_number 8 (in_eight n ++ more) ≡ n
unfolding in_eight
eight_read n more h = big_number-reads_back 8 n more h

-- what stands behind the first eight bytes, and behind the next
behind_eight : (n : ℕ) (more : List ℕ) → drop 8 (in_eight n ++ more) ≡ more
behind_eight n more = ap (λ k. drop k (in_eight n ++ more)) (sym (eight_long n)) ∙ drop-append_seam (in_eight n) more

pub footer_reads : (end_ count root : ℕ) → count < 2 ^ 64 → root < 2 ^ 64
    → ((footer_numbers (footer end_ count root)).partitions ≡ count) × ((footer_numbers (footer end_ count root)).root ≡ root)
footer_reads end_ count root few below =
    let rest = in_eight count ++ in_eight root in
    let second : drop 8 (footer end_ count root) ≡ rest = behind_eight end_ rest in
    let third : drop 16 (footer end_ count root) ≡ in_eight root =
    sym (drop-drop 8 8 (footer end_ count root)) ∙ ap (drop 8) second ∙ behind_eight count (in_eight root) in (
      ap (big_number 8) second ∙ eight_read count (in_eight root) few,
      ap (big_number 8) third ∙ ap (big_number 8) (sym (append-nil (in_eight root))) ∙ eight_read root [] below,
    )

-- the footer is the one that was written
pub footer_is : (columns : Columns) (file trie first last first' last' : List ℕ) (end_ count root : ℕ) (numbers : FooterNumbers)
    → file ≡ trie ++ behind_trie first last end_ count root → IsFooter columns file first' last' numbers → count < 2 ^ 64 → root < 2 ^ 64
    → (numbers.partitions ≡ count) × (numbers.root ≡ root)
footer_is columns file trie first last first' last' end_ count root numbers bytes f few below =
    let written = footer end_ count root in
    let one : file ≡ (trie ++ (counted first ++ counted last)) ++ written =
    bytes ∙ ap (λ l. trie ++ l) (sym (append_assoc (counted first) (counted last) written)) ∙ sym (append_assoc trie (counted first ++ counted last) written) in
    let other : file ≡ (f.trie ++ (counted first' ++ counted last')) ++ f.end =
    f.stands ∙ ap (λ l. f.trie ++ l) (sym (append_assoc (counted first') (counted last') f.end)) ∙ sym (append_assoc f.trie (counted first' ++ counted last') f.end) in
    let long : length f.end ≡ length written =
    f.count ∙ omega (arith, length-append (in_eight end_) (in_eight count ++ in_eight root), length-append (in_eight count) (in_eight root), eight_long end_, eight_long count, eight_long root) in
    let same : f.end ≡ written = ends_same (f.trie ++ (counted first' ++ counted last')) (trie ++ (counted first ++ counted last)) f.end written (sym other ∙ one) long in
    let is : numbers ≡ footer_numbers written = f.read ∙ ap footer_numbers same in
    let reads = footer_reads end_ count root few below in
    (ap (λ (n : FooterNumbers). n.partitions) is ∙ reads.0, ap (λ (n : FooterNumbers). n.root) is ∙ reads.1)

-- ---- the partition of a number

-- the partition that a path leads to, and those before it and behind it, of which none is of the key
pub record Chosen (static : Option ValueType) (rows key : List ℕ) (at : ℕ) (ps : List Partition) (path : Path) : Type 0 where
  pub front : List Partition
  pub p : Partition
  pub rest : List Partition
  pub parts : ps ≡ front ++ p ∷ rest
  pub leads : LeadsToEntry rows (placed_at static (at + length (data_bytes static front)) p) (blocks_of static p) (signed_number path.payload)
  pub before : LacksPartition key front
  pub behind : LacksPartition key rest

abbrev pub FindsAmong : Option ValueType → List ℕ → List ℕ → ℕ → List Partition → Option Path → Type 0
FindsAmong static rows key at ps None = LacksPartition key ps
FindsAmong static rows key at ps (Some path) = Chosen static rows key at ps path

module _ (static : Option ValueType) (rows key : List ℕ) where
  pub alone_behind : (a : List ℕ) (xs ys : List (List ℕ)) → IsPrefixOfNone a (xs ++ ys) → IsPrefixOfNone a ys
  alone_behind a [] ys h = h
  alone_behind a (x ∷ xs) ys h = alone_behind a xs ys h.1

  -- what begins with a path that none begins with
  lacks_of_alone : (a : List ℕ) (at : ℕ) (ps : List Partition) (ns : List Numbered) → AllLead rows (placed_from static at ps) ns → IsPrefixOfNone a (strings_of ns) → IsPrefix a key
      → LacksPartition key ps
  lacks_of_alone a at [] [] lead alone begins = tt
  lacks_of_alone a at [] (n ∷ ns) lead alone begins = absurd lead
  lacks_of_alone a at (p ∷ ps) [] lead alone begins = absurd lead
  lacks_of_alone a at (p ∷ ps) (n ∷ ns) lead alone begins = (
    λ same. alone.0 (begins.0, lead.0 ∙ sym same ∙ begins.1),
    lacks_of_alone a (at + length (partition_bytes static p)) ps ns lead.2 alone.1 begins,
  )

  chosen_on : (at : ℕ) (p : Partition) (ps : List Partition) (o : Option Path) → key ≢ p.key → FindsAmong static rows key (at + length (partition_bytes static p)) ps o
      → FindsAmong static rows key at (p ∷ ps) o
  chosen_on at p ps None apart lacks = (apart, lacks)
  chosen_on at p ps (Some path) apart c =
      let there : at + length (partition_bytes static p) + length (data_bytes static c.front) ≡ at + length (data_bytes static (p ∷ c.front)) =
      omega (arith, length-append (partition_bytes static p) (data_bytes static c.front)) in
      record {
        front = p ∷ c.front;
        p = c.p;
        rest = c.rest;
        parts = ap (λ l. p ∷ l) c.parts;
        leads = subst (λ (n : ℕ). LeadsToEntry rows (placed_at static n c.p) (blocks_of static c.p) (signed_number path.payload)) there c.leads;
        before = (apart, c.before);
        behind = c.behind;
      }

  pub front_begins : (n : ℕ) (s : List ℕ) → IsPrefix (take n s) s
  front_begins n s = (drop n s, sym (take-append-drop n s))

  among_by : (t : Bool) (before : List (List ℕ)) (at : ℕ) (p : Partition) (ps : List Partition) (n : Numbered) (ns : List Numbered) (path : Path) (others : Option Path)
      → path_begins key path ≡ t → IsIndexPath n (before ++ strings_of ns) path → AllLead rows (placed_from static at (p ∷ ps)) (n ∷ ns)
      → FindsAmong static rows key (at + length (partition_bytes static p)) ps others → FindsAmong static rows key at (p ∷ ps) (cond t (Some path) others)
  among_by true before at p ps n ns path others e is lead rest =
      let begins : IsPrefix path.path key = found path.path key e in
      let none = alone_behind path.path before (strings_of ns) (subst (λ (a : List ℕ). IsPrefixOfNone a (before ++ strings_of ns)) (sym is.path) is.unique.alone) in
      let here : at ≡ at + 0 = omega arith in
      record {
        front = [];
        p = p;
        rest = ps;
        parts = refl;
        leads = subst (λ (k : ℕ). LeadsToEntry rows (placed_at static k p) (blocks_of static p) (signed_number path.payload)) here
            (subst (λ (z : ℤ). LeadsToEntry rows (placed_at static at p) (blocks_of static p) z) (sym is.number) lead.1);
        before = tt;
        behind = lacks_of_alone path.path (at + length (partition_bytes static p)) ps ns lead.2 none begins;
      }
  among_by false before at p ps n ns path others e is lead rest =
      let apart : key ≢ p.key =
      λ same. let begins = subst (IsPrefix path.path) (lead.0 ∙ sym same) (subst (λ (a : List ℕ). IsPrefix a n.string) (sym is.path) (front_begins is.size n.string)) in
      let yes = all path.path key begins in cc in
      chosen_on at p ps others apart rest

  pub among : (before : List (List ℕ)) (at : ℕ) (ps : List Partition) (ns : List Numbered) (found : List Path) → AreIndexPaths before ns found → AllLead rows (placed_from static at ps) ns
      → FindsAmong static rows key at ps (find (path_begins key) found)
  among before at [] [] [] are lead = tt
  among before at [] [] (f ∷ fs) are lead = absurd are
  among before at [] (n ∷ ns) found are lead = absurd lead
  among before at (p ∷ ps) [] found are lead = absurd lead
  among before at (p ∷ ps) (n ∷ ns) [] are lead = absurd are
  among before at (p ∷ ps) (n ∷ ns) (f ∷ fs) are lead =
      among_by (path_begins key f) before at p ps n ns f (find (path_begins key) fs) refl are.0 lead
      (among (before ++ n.string ∷ []) (at + length (partition_bytes static p)) ps ns fs are.1 lead.2)

-- ---- the number of a key

-- what the partition index has for the key, and the partition of it
pub record IsNumberOf (static : Option ValueType) (file rows key : List ℕ) (numbers : FooterNumbers) (ps : List Partition) : Type 0 where
  pub path : Option Path
  pub number : number_in file numbers key ≡ number_of (Ok path)
  pub among : FindsAmong static rows key 0 ps path

number_some : (file key : List ℕ) (numbers : FooterNumbers) (k : ℕ) → numbers.partitions ≡ suc k → number_in file numbers key ≡ number_of (exact_in file numbers.root key)
number_some file key numbers k e =
    let some : (numbers.partitions == 0) ≡ false = ne_eqb numbers.partitions 0 (λ none. omega (arith, none, e)) in
    ap (λ t. if t then Ok None else number_of (exact_in file numbers.root key)) some

number_none : (file key : List ℕ) (numbers : FooterNumbers) → numbers.partitions ≡ 0 → number_in file numbers key ≡ Ok None
number_none file key numbers e = ap (λ n. if n == 0 then Ok None else number_of (exact_in file numbers.root key)) e

means_found : (static : Option ValueType) (rows key : List ℕ) (ps : List Partition) (ns : List Numbered) (file : List ℕ) (root : ℕ) (found : Paths) → paths file root ≡ found → MeansIndex ns found
    → AllLead rows (placed_from static 0 ps) ns → (path : Option Path) × (exact_in file root key ≡ Ok path) × FindsAmong static rows key 0 ps path
means_found static rows key ps ns file root (Err wrong) is means lead = absurd means
means_found static rows key ps ns file root (Ok found) is means lead =
    (find (path_begins key) found, (searches_find file key root found is).exact, among static rows key [] 0 ps ns found means lead)

pub number_found : (columns : Columns) (file rows key first last : List ℕ) (numbers : FooterNumbers) (ps : List Partition) (ns : List Numbered) → IsIndexFile file ns
    → AllLead rows (placed columns.static_value ps) ns → IsFooter columns file first last numbers → IsNumberOf columns.static_value file rows key numbers ps
number_found columns file rows key first last numbers [] [] index lead f =
    let is = footer_is columns file [] [] [] first last 0 0 0 numbers index f (omega arith) (omega arith) in
    record { path = None; number = number_none file key numbers is.0; among = tt }
number_found columns file rows key first last numbers (p ∷ ps) [] index lead f = absurd lead
number_found columns file rows key first last numbers ps (n ∷ ns) index lead f =
    let below : index.root < 2 ^ 64 =
    omega (arith, index.below, index.short, ap length index.bytes, length-append index.trie (behind_trie (first_string (n ∷ ns)) (last_string (n ∷ ns)) (length index.trie) (length (n ∷ ns)) index.root)) in
    let is = footer_is columns file index.trie (first_string (n ∷ ns)) (last_string (n ∷ ns)) first last (length index.trie) (length (n ∷ ns)) index.root numbers index.bytes f index.few below in
    let there = means_found columns.static_value rows key ps (n ∷ ns) file index.root (paths file index.root) refl index.means lead in
    record {
      path = there.0;
      number = number_some file key numbers (length ns) is.0 ∙ ap (λ r. number_of (exact_in file r key)) is.1 ∙ ap number_of there.1;
      among = there.2;
    }

-- ---- where it leads

-- the root means the blocks of a partition, which has none behind its first where there is no root
abbrev pub HasRoot : List ℕ → List Block → Option ℕ → Type 0
HasRoot rows blocks None = blocks ≡ []
HasRoot rows blocks (Some root) = MeansBlocks blocks (paths rows root)

-- what stands behind the first eight bytes, and behind the next
numbers_behind : (a b c rest : List ℕ) → length a ≡ 8 → length b ≡ 8
    → (drop 8 ((a ++ (b ++ c)) ++ rest) ≡ b ++ (c ++ rest)) × (drop 16 ((a ++ (b ++ c)) ++ rest) ≡ c ++ rest)
numbers_behind a b c rest n m =
    let all : (a ++ (b ++ c)) ++ rest ≡ a ++ (b ++ (c ++ rest)) = append_assoc a (b ++ c) rest ∙ ap (λ l. a ++ l) (append_assoc b c rest) in
    let second : drop 8 ((a ++ (b ++ c)) ++ rest) ≡ b ++ (c ++ rest) = ap (drop 8) all ∙ ap (λ k. drop k (a ++ (b ++ (c ++ rest)))) (sym n) ∙ drop-append_seam a (b ++ (c ++ rest)) in (
      second,
      sym (drop-drop 8 8 ((a ++ (b ++ c)) ++ rest)) ∙ ap (drop 8) second ∙ ap (λ k. drop k (b ++ (c ++ rest))) (sym m) ∙ drop-append_seam b (c ++ rest),
    )

-- the numbers of an entry, by the bytes of each
entry_numbers : (a b c rest : List ℕ) (data_at root blocks : ℕ) → length a ≡ 8 → length b ≡ 8 → ((more : List ℕ) → big_number 8 (a ++ more) ≡ data_at)
    → ((more : List ℕ) → big_number 8 (b ++ more) ≡ root) → ((more : List ℕ) → big_number 4 (c ++ more) ≡ blocks)
    → numbers_in ((a ++ (b ++ c)) ++ rest) ≡ record { position = data_at; root = root; blocks = blocks }
entry_numbers a b c rest data_at root blocks n m first second third =
    let behind = numbers_behind a b c rest n m in
    let position : big_number 8 ((a ++ (b ++ c)) ++ rest) ≡ data_at = ap (big_number 8) (append_assoc a (b ++ c) rest) ∙ first ((b ++ c) ++ rest) in
    let root_is : big_number 8 (drop 8 ((a ++ (b ++ c)) ++ rest)) ≡ root = ap (big_number 8) behind.0 ∙ second (c ++ rest) in
    let blocks_is : big_number 4 (drop 16 ((a ++ (b ++ c)) ++ rest)) ≡ blocks = ap (big_number 4) behind.1 ∙ third rest in
    λ i. record { position = position i; root = root_is i; blocks = blocks_is i }

-- an entry that was written, behind its string
record IsWritten (string : List ℕ) (data_at root blocks : ℕ) (bytes : List ℕ) : Type 0 where
  behind : List ℕ
  stands : bytes ≡ counted string ++ behind
  long : 20 ≤ length behind
  numbers : numbers_in behind ≡ record { position = data_at; root = root; blocks = blocks }

written : (string : List ℕ) (data_at root blocks : ℕ) (rest bytes : List ℕ) → bytes ≡ entry_bytes string data_at root blocks ++ rest → data_at < 2 ^ 64 → root < 2 ^ 64 → blocks < 2 ^ 32
    → IsWritten string data_at root blocks bytes
unfolding entry_bytes
written string data_at root blocks rest bytes e first second third =
    parts (big_bytes 8 data_at) (big_bytes 8 root) (big_bytes 4 blocks) e (length-bytes_high_first 8 data_at) (length-bytes_high_first 8 root) (length-bytes_high_first 4 blocks)
    (λ more. big_number-reads_back 8 data_at more first) (λ more. big_number-reads_back 8 root more second) (λ more. big_number-reads_back 4 blocks more third)
  where
    parts : (a b c : List ℕ) → bytes ≡ (counted string ++ (a ++ (b ++ c))) ++ rest → length a ≡ 8 → length b ≡ 8 → length c ≡ 4 → ((more : List ℕ) → big_number 8 (a ++ more) ≡ data_at)
        → ((more : List ℕ) → big_number 8 (b ++ more) ≡ root) → ((more : List ℕ) → big_number 4 (c ++ more) ≡ blocks) → IsWritten string data_at root blocks bytes
    parts a b c f n m k one two three = record {
      behind = (a ++ (b ++ c)) ++ rest;
      stands = f ∙ append_assoc (counted string) (a ++ (b ++ c)) rest;
      long = omega (arith, n, m, k, length-append (a ++ (b ++ c)) rest, length-append a (b ++ c), length-append b c);
      numbers = entry_numbers a b c rest data_at root blocks n m one two three;
    }

module _ (t : TableBytes) (partition : BlockList) (is : IsStringOf t.columns.partition partition.string) where
  entry_written : (at : ℕ) (entry : HasEntry t.rows partition at) → IsWritten partition.string partition.data_at entry.root (length partition.blocks + 1) (drop at t.rows)
  entry_written at entry =
      written partition.string partition.data_at entry.root (length partition.blocks + 1) entry.rest (drop at t.rows) entry.entry entry.place (omega (arith, entry.below, entry.short)) entry.few

  -- the place to which a number leads
  pub leads_ok : (blocks : List Block) (z : ℤ) (there : PartitionAt) → partition.blocks ≡ blocks → LeadsToEntry t.rows partition blocks z → LeadsTo t (partition_place z) (Ok there)
      → (there.head ≡ partition.data_at) × HasRoot t.rows partition.blocks there.root
  leads_ok [] z there none leads found =
      let at_head : Ok there ≡ Ok (record { head = partition.data_at; root = None }) = subst (λ (n : ℤ). LeadsTo t (partition_place n) (Ok there)) leads found in
      let same : there ≡ record { head = partition.data_at; root = None } = cc in
      (ap (λ (p : PartitionAt). p.head) same, subst (HasRoot t.rows partition.blocks) (sym (ap (λ (p : PartitionAt). p.root) same)) none)
  leads_ok (b ∷ bs) z there some (at, place, entry) found =
      let (string, numbers, begins, is_there) = subst (λ (n : ℤ). LeadsTo t (partition_place n) (Ok there)) place found in
      let w = entry_written at entry in
      let same = counted-same string partition.string begins.rest w.behind (sym begins.stands ∙ w.stands) in
      let read : numbers ≡ record { position = partition.data_at; root = entry.root; blocks = length partition.blocks + 1 } = begins.read ∙ ap numbers_in same.1 ∙ w.numbers in
      let root : there.root ≡ Some entry.root = ap (λ (p : PartitionAt). p.root) is_there ∙ ap (λ (n : EntryNumbers). Some n.root) read in
      (ap (λ (p : PartitionAt). p.head) is_there ∙ ap (λ (n : EntryNumbers). n.position) read, subst (HasRoot t.rows partition.blocks) (sym root) entry.means)

  -- it leads to no damage
  pub leads_sound : (blocks : List Block) (z : ℤ) (damage : Damage) → partition.blocks ≡ blocks → LeadsToEntry t.rows partition blocks z → LeadsTo t (partition_place z) (Err damage) → ⊥
  leads_sound [] z damage none leads found =
      let at_head : ◌≡◌ {A = Result PartitionAt Damage} (Err damage) (Ok (record { head = partition.data_at; root = None })) =
      subst (λ (n : ℤ). LeadsTo t (partition_place n) (Err damage)) leads found in
      cc
  leads_sound (b ∷ bs) z damage some (at, place, entry) found =
      let (bad, no_entry) = subst (λ (n : ℤ). LeadsTo t (partition_place n) (Err damage)) place found in
      let w = entry_written at entry in
      let numbers : EntryNumbers = numbers_in w.behind in
      no_entry partition.string numbers (
      record {
        string = is;
        rest = w.behind;
        stands = w.stands;
        whole = w.long;
        read = refl;
        root = subst (λ (n : EntryNumbers). n.root < at) (sym w.numbers) entry.below;
        blocks = subst (λ (n : EntryNumbers). 2 ≤ n.blocks) (sym w.numbers) (omega (arith, ap length some));
      }
      )
