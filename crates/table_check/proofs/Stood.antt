-- Index files that stand have the footer, the paths and the entries of the partitions.
use Rattle.std.proofs.Common.{◌≡◌, ◌∙◌, ℕ, ◌<◌, ◌^◌, List, [], ◌∷◌, ◌++◌, length, take, Ok, Err, inl, inr, ap, arith, length-append, refl, subst, sym}
use Rattle.std.specs.Prelude.{ℤ}
use Rattle.key_types.specs.Columns.{Columns}
use Rattle.key_decode.specs.Strings.{IsStringOf}
use Rattle.byte_order.specs.Strings.{IsUniqueLength}
use Rattle.bti_nodes.specs.Payloads.{signed_number}
use Rattle.bti_nodes.specs.Trie.{Path, Paths, paths}
use Rattle.data_file.specs.Listing.{ArePartitions, Partition}
use Rattle.index_files.specs.declared.footer.FooterNumbers.{FooterNumbers}
use Rattle.index_files.specs.Footers.{IsFooter, footer_numbers}
use Rattle.partition_index.specs.Entries.{Numbered, first_string, last_string, strings_of}
use Rattle.partition_index.specs.File.{behind_trie, footer, in_eight}
use Rattle.row_index.specs.Entries.{Block, BlockList}
use Rattle.table_files.specs.IndexMeaning.{AllLead, AreIndexPaths, IndexFilesStand, IsIndexFile, LeadsToEntry, MeansIndex}
use Rattle.table_files.specs.Indexes.{placed, placed_from}
use Rattle.table_reader.proofs.Indexed.{eight_read, footer_reads}
use Rattle.row_check.specs.Entries.{EntriesAre, LeadsFromPath}
use Rattle.partition_check.specs.Found.{first_key, last_from, last_key}
use Rattle.partition_check.specs.Partitions.{ArePartitionPaths, IsNumberOf}
use Rattle.table_check.proofs.Once.{footer_long}
use Rattle.table_check.proofs.Standing.{AreIndexed, as_many, first_is, last_is, strings_in}

-- ---- the paths and the entries

number_is : (rows : List ℕ) (p : BlockList) (blocks : List Block) (number : ℤ) → LeadsToEntry rows p blocks number
    → IsNumberOf p blocks number
number_is rows p [] number lead = lead
number_is rows p (block ∷ blocks) number lead = (lead.0, lead.1)

leads_on : (rows : List ℕ) (p : BlockList) (blocks : List Block) (number : ℤ) → LeadsToEntry rows p blocks number
    → LeadsFromPath rows p blocks number
leads_on rows p [] number lead = tt
leads_on rows p (block ∷ blocks) number lead = lead

strings_there : (rows : List ℕ) (ps : List BlockList) (ns : List Numbered) → AllLead rows ps ns
    → strings_of ns ≡ strings_in ps
strings_there rows [] [] lead = refl
strings_there rows [] (n ∷ ns) lead = absurd lead
strings_there rows (p ∷ ps) [] lead = absurd lead
strings_there rows (p ∷ ps) (n ∷ ns) lead =
    ap (λ (s : List ℕ). s ∷ strings_of ns) lead.0
    ∙ ap (λ (l : List (List ℕ)). p.string ∷ l) (strings_there rows ps ns lead.2)

as_partitions : (rows : List ℕ) (before : List (List ℕ)) (ps : List BlockList) (ns : List Numbered)
    (found : List Path) → AllLead rows ps ns
    → AreIndexPaths before ns found → ArePartitionPaths before ps found × EntriesAre rows ps found
as_partitions rows before [] [] [] lead are = (tt, tt)
as_partitions rows before [] [] (f ∷ found) lead are = absurd are
as_partitions rows before [] (n ∷ ns) found lead are = absurd lead
as_partitions rows before (p ∷ ps) [] found lead are = absurd lead
as_partitions rows before (p ∷ ps) (n ∷ ns) [] lead are = absurd are
as_partitions rows before (p ∷ ps) (n ∷ ns) (f ∷ found) lead are =
    let is = are.0 in
    let others = strings_there rows ps ns lead.2 in
    let number : n.number ≡ signed_number f.payload = sym is.number in
    let rest = as_partitions rows (before ++ p.string ∷ []) ps ns found lead.2
    (subst (λ (s : List ℕ). AreIndexPaths (before ++ s ∷ []) ns found) lead.0 are.1) in
    let own = subst (λ (z : ℤ). LeadsToEntry rows p p.blocks z) number lead.1 in (
      (
        record {
          size = is.size;
          unique = subst (λ (s : List ℕ). IsUniqueLength s (before ++ strings_in ps) is.size) lead.0
              (subst (λ (l : List (List ℕ)). IsUniqueLength n.string (before ++ l) is.size) others is.unique);
          path = is.path ∙ ap (λ (s : List ℕ). take is.size s) lead.0;
          number = number_is rows p p.blocks (signed_number f.payload) own;
        },
        rest.0,
      ),
      (leads_on rows p p.blocks (signed_number f.payload) own, rest.1),
    )

indexed_by : (index rows : List ℕ) (root : ℕ) (ps : List BlockList) (ns : List Numbered) (found : Paths)
    → paths index root ≡ found
    → MeansIndex ns found → AllLead rows ps ns → AreIndexed index rows root ps
indexed_by index rows root ps ns (Err wrong) is means lead = absurd means
indexed_by index rows root ps ns (Ok found) is means lead =
    let both = as_partitions rows [] ps ns found lead means in
    record { paths = record { found = found; means = is; are = both.0 }; entries = both.1 }

-- ---- the footer

last_string_of : (columns : Columns) (key : List ℕ) (ps : List Partition) → IsStringOf columns.partition key
    → ArePartitions columns ps
    → IsStringOf columns.partition (last_from key ps)
last_string_of columns key [] is are = is
last_string_of columns key (p ∷ ps) is are = last_string_of columns p.key ps are.0 are.3

-- the footer of the partitions, and what it leads to
pub record HasIndexes (columns : Columns) (index rows : List ℕ) (ps : List Partition) : Type 0 where
  pub numbers : FooterNumbers
  pub is : IsFooter columns index (first_key ps) (last_key ps) numbers
  pub count : numbers.partitions ≡ length ps
  pub indexed : 0 < length ps → AreIndexed index rows numbers.root (placed columns.static_value ps)

module _ (columns : Columns) (index rows : List ℕ) where
  by_index : (ps : List Partition) (ns : List Numbered) → ArePartitions columns ps → IsIndexFile index ns
      → AllLead rows (placed_from columns.static_value 0 ps) ns → HasIndexes columns index rows ps
  by_index [] [] are is lead =
      let strings : (footer_numbers (footer 0 0 0)).strings ≡ 0 = eight_read 0 (in_eight 0 ++ in_eight 0)
      (omega arith) in
      let reads = footer_reads 0 0 0 (omega arith) (omega arith) in
      record {
        numbers = footer_numbers (footer 0 0 0);
        is = record {
          trie = [];
          place = sym strings;
          end = footer 0 0 0;
          count = footer_long 0 0 0;
          stands = is;
          read = refl;
          sound = inl (reads.0, reads.1, strings, refl, refl);
        };
        count = reads.0;
        indexed = λ some. absurd (omega (arith, some));
      }
  by_index [] (n ∷ ns) are is lead = absurd lead
  by_index (p ∷ ps) [] are is lead = absurd lead
  by_index (p ∷ ps) (n ∷ ns) are is lead =
      let end_ = length is.trie in
      let count = length (n ∷ ns) in
      let firsts = first_is rows columns 0 (p ∷ ps) (n ∷ ns) lead in
      let lasts = last_is rows columns 0 (p ∷ ps) (n ∷ ns) lead in
      let many = as_many rows columns 0 (p ∷ ps) (n ∷ ns) lead in
      let all = length-append is.trie (behind_trie (first_string (n ∷ ns)) (last_string (n ∷ ns)) end_ count is.root)
      in
      let short : end_ < 2 ^ 64 = omega (arith, is.short, ap length is.bytes, all) in
      let strings : (footer_numbers (footer end_ count is.root)).strings ≡ end_ = eight_read end_
      (in_eight count ++ in_eight is.root) short in
      let reads = footer_reads end_ count is.root is.few (omega (arith, is.below, short)) in
      let numbers = footer_numbers (footer end_ count is.root) in
      let root : is.root ≡ numbers.root = sym reads.1 in
      record {
        numbers = numbers;
        is = record {
          trie = is.trie;
          place = sym strings;
          end = footer end_ count is.root;
          count = footer_long end_ count is.root;
          stands = is.bytes
              ∙ ap (λ (s : List ℕ). is.trie ++ behind_trie s (last_string (n ∷ ns)) end_ count is.root) firsts
              ∙ ap (λ (s : List ℕ). is.trie ++ behind_trie p.key s end_ count is.root) lasts;
          read = refl;
          sound = inr (
            omega (arith, reads.0),
            omega (arith, reads.1, is.some),
            omega (arith, reads.1, strings, is.below),
            are.0,
            last_string_of columns p.key ps are.0 are.3,
          );
        };
        count = reads.0 ∙ many;
        indexed = λ some. subst (λ (r : ℕ). AreIndexed index rows r (placed columns.static_value (p ∷ ps))) root
            (indexed_by index rows is.root (placed columns.static_value (p ∷ ps)) (n ∷ ns) (paths index is.root) refl
            is.means lead);
      }

  pub has_indexes : (ps : List Partition) → ArePartitions columns ps
      → IndexFilesStand index rows (placed columns.static_value ps)
      → HasIndexes columns index rows ps
  has_indexes ps are stand = by_index ps stand.numbered are stand.index stand.entries
