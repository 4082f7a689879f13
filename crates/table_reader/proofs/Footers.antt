-- The partition index of files that stand has its footer.
use Rattle.std.proofs.Common.{◌≡◌, ℕ, ◌∙◌, ◌+◌, ◌-◌, ◌^◌, ◌<◌, List, [], ◌∷◌, ◌++◌, append_assoc, drop, length, inl, inr, arith, ap, length-append, refl, subst, sym}
use Rattle.std.proofs.Math.Seq.{drop-append_seam}
use Rattle.key_types.specs.Columns.{Columns}
use Rattle.key_decode.specs.Strings.{IsStringOf}
use Rattle.outside.specs.Files.{bytes_of}
use Rattle.data_file.specs.Listing.{ArePartitions, Partition, partition_bytes}
use Rattle.index_files.specs.declared.footer.FooterNumbers.{FooterNumbers}
use Rattle.index_files.specs.Footers.{IsFooter, footer_numbers}
use Rattle.length_prefix.specs.Counted.{counted}
use Rattle.partition_index.specs.Entries.{Numbered, first_string, last_among, last_string}
use Rattle.partition_index.specs.File.{behind_trie, footer, in_eight}
use Rattle.table_files.specs.IndexMeaning.{AllLead, IsIndexFile}
use Rattle.table_files.specs.Indexes.{placed_from}
use Rattle.table_files.specs.Names.{partitions_id}
use Rattle.table_reader.specs.Laws.{FootersStand}
use Rattle.table_reader.specs.Opened.{HasFooter}
use Rattle.table_reader.proofs.Indexed.{eight_long, eight_read, footer_reads}

footer_long : (end_ count root : ℕ) → length (footer end_ count root) ≡ 24
footer_long end_ count root =
    omega (arith, length-append (in_eight end_) (in_eight count ++ in_eight root), length-append (in_eight count) (in_eight root), eight_long end_, eight_long count, eight_long root)

-- the strings of a partition index are those of partitions
module _ (columns : Columns) (rows : List ℕ) where
  last_is : (at : ℕ) (p : Partition) (ps : List Partition) (n : Numbered) (ns : List Numbered) → ArePartitions columns (p ∷ ps)
      → AllLead rows (placed_from columns.static_value at (p ∷ ps)) (n ∷ ns) → IsStringOf columns.partition (last_among n ns).string
  last_is at p [] n [] are lead = subst (IsStringOf columns.partition) (sym lead.0) are.0
  last_is at p [] n (m ∷ ns) are lead = absurd lead.2
  last_is at p (q ∷ ps) n [] are lead = absurd lead.2
  last_is at p (q ∷ ps) n (m ∷ ns) are lead = last_is (at + length (partition_bytes columns.static_value p)) q ps m ns are.3 lead.2

  pub has_footer : (file : List ℕ) (ps : List Partition) (ns : List Numbered) → ArePartitions columns ps → IsIndexFile file ns → AllLead rows (placed_from columns.static_value 0 ps) ns
      → (numbers : FooterNumbers) × HasFooter columns file numbers
  has_footer file [] [] are index lead =
      let numbers = footer_numbers (footer 0 0 0) in
      let strings : numbers.strings ≡ 0 = eight_read 0 (in_eight 0 ++ in_eight 0) (omega arith) in
      let reads = footer_reads 0 0 0 (omega arith) (omega arith) in (
        numbers,
        (
          [],
          [],
          record {
            trie = [];
            place = sym strings;
            end = footer 0 0 0;
            count = footer_long 0 0 0;
            stands = index;
            read = refl;
            sound = inl (reads.0, reads.1, strings, refl, refl);
          },
        ),
      )
  has_footer file [] (n ∷ ns) are index lead = absurd lead
  has_footer file (p ∷ ps) [] are index lead = absurd lead
  has_footer file (p ∷ ps) (n ∷ ns) are index lead =
      let end_ = length index.trie in
      let count = length (n ∷ ns) in
      let all = length-append index.trie (behind_trie (first_string (n ∷ ns)) (last_string (n ∷ ns)) end_ count index.root) in
      let short : end_ < 2 ^ 64 = omega (arith, index.short, ap length index.bytes, all) in
      let numbers = footer_numbers (footer end_ count index.root) in
      let strings : numbers.strings ≡ end_ = eight_read end_ (in_eight count ++ in_eight index.root) short in
      let reads = footer_reads end_ count index.root index.few (omega (arith, index.below, short)) in (
        numbers,
        (
          first_string (n ∷ ns),
          last_string (n ∷ ns),
          record {
            trie = index.trie;
            place = sym strings;
            end = footer end_ count index.root;
            count = footer_long end_ count index.root;
            stands = index.bytes;
            read = refl;
            sound = inr (
              omega (arith, reads.0),
              omega (arith, reads.1, index.some),
              omega (arith, reads.1, strings, index.below),
              subst (IsStringOf columns.partition) (sym lead.0) are.0,
              last_is 0 p ps n ns are lead,
            );
          },
        ),
      )

pub footers_stand : FootersStand
footers_stand files generation columns table stand =
    has_footer columns _ (bytes_of files (partitions_id generation)) stand.held.partitions stand.indexes.numbered stand.held.listed.1 stand.indexes.index stand.indexes.entries

-- ---- a file has one footer

end_is : (file front end : List ℕ) → file ≡ front ++ end → length end ≡ 24 → end ≡ drop (length file - 24) file
end_is file front end stands count =
    let place : length file - 24 ≡ length front = omega (arith, ap (λ (l : List ℕ). length l) stands, length-append front end, count) in
    sym (ap (λ k. drop k file) place ∙ ap (drop (length front)) stands ∙ drop-append_seam front end)

numbers_are : (columns : Columns) (file first last : List ℕ) (numbers : FooterNumbers) → IsFooter columns file first last numbers → numbers ≡ footer_numbers (drop (length file - 24) file)
numbers_are columns file first last numbers f = f.read ∙ ap footer_numbers (end_is file (f.trie ++ (counted first ++ counted last)) f.end (f.stands ∙ grouped f.trie (counted first) (counted last) f.end) f.count)
  where
    grouped : (a b c d : List ℕ) → a ++ (b ++ (c ++ d)) ≡ (a ++ (b ++ c)) ++ d
    grouped a b c d = simp append_assoc

pub one_footer : (columns : Columns) (file : List ℕ) (one other : FooterNumbers) → HasFooter columns file one → HasFooter columns file other → one ≡ other
one_footer columns file one other (first, last, f) (first', last', g) = numbers_are columns file first last one f ∙ sym (numbers_are columns file first' last' other g)
