-- The footer, the paths and the entries that are those of the partitions are index files that stand.
use Rattle.std.proofs.Common.{◌≡◌, ◌∙◌, ℕ, ◌+◌, ◌<◌, List, [], ◌∷◌, ◌++◌, length, map, Ok, inl, inr, ap, arith, refl, subst, sym}
use Rattle.std.specs.Prelude.{ℤ}
use Rattle.key_types.specs.Columns.{Columns}
use Rattle.byte_order.specs.Strings.{IsUniqueLength}
use Rattle.bti_nodes.specs.Payloads.{signed_number}
use Rattle.bti_nodes.specs.Trie.{Path, paths}
use Rattle.data_file.specs.Listing.{Partition, partition_bytes}
use Rattle.index_files.specs.Footers.{IsSoundFooter}
use Rattle.partition_index.specs.Entries.{Numbered, first_string, last_among, last_string, strings_of}
use Rattle.partition_index.specs.File.{behind_trie}
use Rattle.partition_index.specs.Writing.{numbered}
use Rattle.row_index.specs.Entries.{Block, BlockList}
use Rattle.table_files.specs.IndexMeaning.{AllLead, AreIndexPaths, IndexFilesStand, LeadsToEntry, MeansIndex}
use Rattle.table_files.specs.Indexes.{placed, placed_from}
use Rattle.row_check.specs.Entries.{EntriesAre, LeadsFromPath}
use Rattle.table_check.specs.declared.footer.Footer.{Footer}
use Rattle.table_check.specs.Footing.{HasFooterOf}
use Rattle.partition_check.specs.Found.{first_key, last_from, last_key}
use Rattle.partition_check.specs.Partitions.{ArePartitionPaths, IndexIs, IsNumberOf}

abbrev pub strings_in : List BlockList → List (List ℕ)
strings_in ps = map (λ (p : BlockList). p.string) ps

-- ---- the partitions with the numbers of their paths

abbrev pub with_numbers : List BlockList → List Path → List Numbered
with_numbers [] found = []
with_numbers (p ∷ ps) [] = []
with_numbers (p ∷ ps) (f ∷ found) = numbered p.string (signed_number f.payload) ∷ with_numbers ps found

strings_same : (before : List (List ℕ)) (ps : List BlockList) (found : List Path) → ArePartitionPaths before ps found
    → strings_of (with_numbers ps found) ≡ strings_in ps
strings_same before [] found are = refl
strings_same before (p ∷ ps) [] are = absurd are
strings_same before (p ∷ ps) (f ∷ found) are = ap (λ (l : List (List ℕ)). p.string ∷ l)
    (strings_same (before ++ p.string ∷ []) ps found are.1)

as_index : (before : List (List ℕ)) (ps : List BlockList) (found : List Path) → ArePartitionPaths before ps found
    → AreIndexPaths before (with_numbers ps found) found
as_index before [] [] are = tt
as_index before [] (f ∷ found) are = absurd are
as_index before (p ∷ ps) [] are = absurd are
as_index before (p ∷ ps) (f ∷ found) are =
    let same = strings_same (before ++ p.string ∷ []) ps found are.1 in (
      record {
        size = are.0.size;
        unique = subst (λ (l : List (List ℕ)). IsUniqueLength p.string (before ++ l) are.0.size)
            (sym same) are.0.unique;
        path = are.0.path;
        number = refl;
      },
      as_index (before ++ p.string ∷ []) ps found are.1,
    )

leads : (rows : List ℕ) (p : BlockList) (blocks : List Block) (number : ℤ) → IsNumberOf p blocks number
    → LeadsFromPath rows p blocks number
    → LeadsToEntry rows p blocks number
leads rows p [] number is lead = is
leads rows p (block ∷ blocks) number is lead = lead

all_lead : (rows : List ℕ) (before : List (List ℕ)) (ps : List BlockList) (found : List Path)
    → ArePartitionPaths before ps found
    → EntriesAre rows ps found → AllLead rows ps (with_numbers ps found)
all_lead rows before [] found are lead = tt
all_lead rows before (p ∷ ps) [] are lead = absurd are
all_lead rows before (p ∷ ps) (f ∷ found) are lead = (
  refl,
  leads rows p p.blocks (signed_number f.payload) are.0.number lead.0,
  all_lead rows
      (before ++ p.string ∷ []) ps found are.1 lead.1,
)

-- ---- the strings of numbered partitions

module _ (rows : List ℕ) (columns : Columns) where
  last_same : (at : ℕ) (key : List ℕ) (n : Numbered) (ps : List Partition) (ns : List Numbered) → n.string ≡ key
      → AllLead rows (placed_from columns.static_value at ps) ns → (last_among n ns).string ≡ last_from key ps
  last_same at key n [] [] is lead = is
  last_same at key n [] (m ∷ ns) is lead = absurd lead
  last_same at key n (p ∷ ps) [] is lead = absurd lead
  last_same at key n (p ∷ ps) (m ∷ ns) is lead =
      last_same (at + length (partition_bytes columns.static_value p)) p.key m ps ns lead.0 lead.2

  pub first_is : (at : ℕ) (ps : List Partition) (ns : List Numbered)
      → AllLead rows (placed_from columns.static_value at ps) ns
      → first_string ns ≡ first_key ps
  first_is at [] [] lead = refl
  first_is at [] (n ∷ ns) lead = absurd lead
  first_is at (p ∷ ps) [] lead = absurd lead
  first_is at (p ∷ ps) (n ∷ ns) lead = lead.0

  pub last_is : (at : ℕ) (ps : List Partition) (ns : List Numbered)
      → AllLead rows (placed_from columns.static_value at ps) ns
      → last_string ns ≡ last_key ps
  last_is at [] [] lead = refl
  last_is at [] (n ∷ ns) lead = absurd lead
  last_is at (p ∷ ps) [] lead = absurd lead
  last_is at (p ∷ ps) (n ∷ ns) lead = last_same
      (at + length (partition_bytes columns.static_value p)) p.key n ps ns lead.0 lead.2

  pub as_many : (at : ℕ) (ps : List Partition) (ns : List Numbered)
      → AllLead rows (placed_from columns.static_value at ps) ns
      → length ns ≡ length ps
  as_many at [] [] lead = refl
  as_many at [] (n ∷ ns) lead = absurd lead
  as_many at (p ∷ ps) [] lead = absurd lead
  as_many at (p ∷ ps) (n ∷ ns) lead =
      let rest = as_many (at + length (partition_bytes columns.static_value p)) ps ns lead.2 in
      omega (arith, rest)

-- ---- the index files stand

-- the footer of no partitions has no trie before it
empty_stands : (columns : Columns) (file : List ℕ) (read : Footer) → HasFooterOf columns file [] [] read
    → read.numbers.partitions ≡ 0
    → file ≡ behind_trie [] [] 0 0 0
empty_stands columns file read has none = by has.is.sound
  where
    no_items : (xs : List ℕ) → length xs ≡ 0 → xs ≡ []
    no_items [] e = refl
    no_items (x ∷ xs) e = absurd (omega (arith, e))

    by : IsSoundFooter columns [] [] read.numbers → file ≡ behind_trie [] [] 0 0 0
    by (inr full) = absurd (omega (arith, full.0, none))
    by (inl empty) =
        let gone : has.is.trie ≡ [] = no_items has.is.trie (omega (arith, has.is.place, empty.2)) in
        has.stands
        ∙ ap (λ (l : List ℕ). l ++ behind_trie [] [] (length l) read.numbers.partitions read.numbers.root) gone
        ∙ ap (λ (n : ℕ). behind_trie [] [] 0 n read.numbers.root) none
        ∙ ap (λ (n : ℕ). behind_trie [] [] 0 0 n) empty.1

-- that of some has its root within the trie
record IsWithin (root end_ : ℕ) : Type 0 where
  pub some : 0 < root
  pub below : root < end_

within : (columns : Columns) (file first last : List ℕ) (read : Footer)
    → (has : HasFooterOf columns file first last read)
    → 0 < read.numbers.partitions → IsWithin read.numbers.root (length has.is.trie)
within columns file first last read has some = by has.is.sound
  where
    by : IsSoundFooter columns first last read.numbers → IsWithin read.numbers.root (length has.is.trie)
    by (inl empty) = absurd (omega (arith, empty.0, some))
    by (inr full) = record { some = full.1; below = omega (arith, full.2, has.is.place) }

-- what the footer of the partitions is followed by: the paths and the entries that are theirs, where there are some
pub record AreIndexed (index rows : List ℕ) (root : ℕ) (partitions : List BlockList) : Type 0 where
  pub paths : IndexIs index root partitions
  pub entries : EntriesAre rows partitions paths.found

pub stand : (columns : Columns) (index rows : List ℕ) (ps : List Partition) (read : Footer)
    → HasFooterOf columns index (first_key ps) (last_key ps) read → read.numbers.partitions ≡ length ps
    → (0 < length ps → AreIndexed index rows read.numbers.root (placed columns.static_value ps))
    → IndexFilesStand index rows (placed columns.static_value ps)
stand columns index rows [] read has count indexed = record
    { numbered = []; index = empty_stands columns index read has count; entries = tt }
stand columns index rows (p ∷ ps) read has count indexed =
    let is = indexed (omega arith) in
    let lists = placed columns.static_value (p ∷ ps) in
    let found = is.paths.found in
    let lead = all_lead rows [] lists found is.paths.are is.entries in
    with_found lists refl found is.paths.are is.paths.means lead
  where
    with_found : (lists : List BlockList) → lists ≡ placed columns.static_value (p ∷ ps) → (found : List Path)
        → ArePartitionPaths [] lists found
        → paths index read.numbers.root ≡ Ok found → AllLead rows lists (with_numbers lists found)
        → IndexFilesStand index rows lists
    with_found [] same found are means lead = absurd (omega (arith, ap (λ (l : List BlockList). length l) same))
    with_found (l ∷ ls) same [] are means lead = absurd are
    with_found (l ∷ ls) same (f ∷ found) are means lead =
        let ns = with_numbers (l ∷ ls) (f ∷ found) in
        let there = subst (λ (b : List BlockList). AllLead rows b ns) same lead in
        let root = read.numbers.root in
        let many : length ns ≡ length (p ∷ ps) = as_many rows columns 0 (p ∷ ps) ns there in
        let inside = within columns index (first_key (p ∷ ps)) (last_key (p ∷ ps)) read has (omega (arith, count)) in
        let firsts = ap (λ (s : List ℕ). behind_trie s (last_key (p ∷ ps)) (length has.is.trie) (length ns) root)
        (sym (first_is rows columns 0 (p ∷ ps) ns there)) in
        let lasts = ap (λ (s : List ℕ). behind_trie (first_string ns) s (length has.is.trie) (length ns) root)
        (sym (last_is rows columns 0 (p ∷ ps) ns there)) in
        record {
          numbered = ns;
          index = record {
            trie = has.is.trie;
            root = root;
            bytes = has.stands
                ∙ ap (λ (n : ℕ). has.is.trie ++ behind_trie (first_key (p ∷ ps)) (last_key (p ∷ ps))
                (length has.is.trie) n root) (count ∙ sym many)
                ∙ ap (λ (l : List ℕ). has.is.trie ++ l) (firsts ∙ lasts);
            some = inside.some;
            below = inside.below;
            short = has.short;
            few = omega (arith, has.few, count, many);
            means = subst (MeansIndex ns) (sym means) (as_index [] (l ∷ ls) (f ∷ found) are);
          };
          entries = lead;
        }
