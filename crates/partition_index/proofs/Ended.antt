-- What ends a partition index: the rest of its trie, and what stands behind it.
use Rattle.std.proofs.Common.{◌≡◌, ℕ, ◌^◌, ◌<◌, List, [], ◌∷◌, ◌++◌, length, drop, arith, refl, ap, sym, subst, ◌∙◌, Result, IsErr, Ok, Err, IfOk}
use Rattle.std.proofs.Math.Seq.{drop-append_seam}
use Rattle.std.proofs.lemmas.List.{append_assoc, drop-append-le, length-append}
use Rattle.std.specs.Prelude.{Option, None}
use Rattle.outside.specs.Files.{Appends, Files}
use Rattle.outside.specs.declared.store.FileId.{FileId}
use Rattle.outside.proofs.Sets.{appended_as, appended_behind, failed_before, nothing_appended}
use Rattle.bti_nodes.specs.Payloads.{signed_bytes}
use Rattle.page_packer.specs.Tree.{AreEntries}
use Rattle.page_packer.specs.Packing.{AppendsSome, Packing, packing_bytes_for, early_bytes, laid, last_bytes}
use Rattle.page_packer.proofs.Early.{list_grows, packing_ends, prefix_is}
use Rattle.page_packer.proofs.Streamed.{empty_light}
use Rattle.partition_index.specs.declared.newest.Newest.{Newest}
use Rattle.partition_index.specs.declared.writer.PartitionWriter.{PartitionWriter}
use Rattle.partition_index.specs.Entries.{AreNumbered, Numbered, StandApart, entry_between, first_string, last_string, settled}
use Rattle.partition_index.specs.File.{behind_trie, early_index, index_trie, last_index_bytes, partition_file}
use Rattle.partition_index.specs.Writing.{AppendsTrie, Indexing, IsNewest, string_before, last_in, settled_packing, WritesIndex}
use Rattle.partition_index.proofs.Apart.{are_entries}
use Rattle.partition_index.proofs.Ends.{first_short, last_short}
use Rattle.partition_index.proofs.Settled.{trie_front}
use Rattle.partition_index.proofs.Written.{newest_count, packed_with, packing_last}

-- ---- appends where there is something to append

pub some_as : {T R E G : Type 0} (old new : Option Files) (file : FileId) (inner : Result T E) (outer : Result R G) (a : List ℕ)
    → (IsErr inner → IsErr outer) → AppendsSome old new file inner a → AppendsSome old new file outer a
some_as old new file r s [] up p = p
some_as old new file r s (b ∷ a) up p = appended_as old new file r s (b ∷ a) up p

some_behind : (E : Type 0) {T R G : Type 0} (old mid new : Option Files) (file : FileId) (first : T) (r : Result R G) (a b : List ℕ)
    → AppendsSome {E = E} old mid file (Ok first) a → Appends mid new file r b → Appends old new file r (a ++ b)
some_behind E old mid new file x r [] b p q = subst (λ (m : Option Files). Appends m new file r b) p q
some_behind E old mid new file x r (c ∷ a) b p q = appended_behind E old mid new file x r r (c ∷ a) b (λ e. e) (λ e. e) p q

some_failed : {T R E G : Type 0} (old new : Option Files) (file : FileId) (inner : Result T E) (outer : Result R G) (a b : List ℕ)
    → IsErr inner → IsErr outer → AppendsSome old new file inner a → Appends old new file outer (a ++ b)
some_failed old new file r s [] b bad worse p = subst (λ (m : Option Files). Appends old m file s b) (sym p) (nothing_appended old file s b worse)
some_failed old new file r s (c ∷ a) b bad worse p = failed_before old new file r s (c ∷ a) b bad worse p

-- ---- the whole trie

pub trie_whole : (newest : Newest) (file : FileId) (p : Numbered) (ps : List Numbered) → IsNewest newest (p ∷ ps) → 0 < newest.count → StandApart (p ∷ ps)
    → (index_trie (p ∷ ps)).bytes ≡ early_index (p ∷ ps)
    ++ (packing_bytes_for (settled_packing (record { file = file; partitions = p ∷ ps })) (entry_between (string_before newest) (last_in newest) None).key (signed_bytes newest.number)
    ++ last_bytes (packed_with newest file (p ∷ ps) None))
trie_whole newest file p ps h some fine =
    let packed = packed_with newest file (p ∷ ps) None in
    let is = packing_last newest file (p ∷ ps) h some in
    let all : AreEntries packed.entries = subst (λ (q : Packing). AreEntries q.entries) (sym is) (are_entries (p ∷ ps) fine) in
    let e = entry_between (string_before newest) (last_in newest) None in
    let early = early_index (p ∷ ps) in
    let grows = prefix_is early (early_bytes packed) (list_grows (settled (p ∷ ps)) (e ∷ []) 0 all) in
    let here = packing_bytes_for (settled_packing (record { file = file; partitions = p ∷ ps })) e.key (signed_bytes newest.number) in
    ap (λ (q : Packing). (laid q).bytes) (sym is) ∙ packing_ends packed all ∙ ap (λ (bytes : List ℕ). bytes ++ last_bytes packed) grows
    ∙ append_assoc early here (last_bytes packed)

ended : (newest : Newest) (file : FileId) (p : Numbered) (ps : List Numbered) → IsNewest newest (p ∷ ps) → 0 < newest.count → StandApart (p ∷ ps)
    → drop (length (early_index (p ∷ ps))) (index_trie (p ∷ ps)).bytes
    ≡ packing_bytes_for (settled_packing (record { file = file; partitions = p ∷ ps })) (entry_between (string_before newest) (last_in newest) None).key (signed_bytes newest.number)
    ++ last_bytes (packed_with newest file (p ∷ ps) None)
ended newest file p ps h some fine =
    ap (λ (bytes : List ℕ). drop (length (early_index (p ∷ ps))) bytes) (trie_whole newest file p ps h some fine) ∙ drop-append_seam (early_index (p ∷ ps)) _

-- where the trie stands
pub trie_is : (newest : Newest) (file : FileId) (ps : List Numbered) → IsNewest newest ps → 0 < newest.count
    → ((laid (packed_with newest file ps None)).bytes ≡ (index_trie ps).bytes) × ((laid (packed_with newest file ps None)).root ≡ (index_trie ps).root)
trie_is newest file [] h some = absurd (omega (arith, h.0, some))
trie_is newest file (p ∷ ps) h some =
    let is = packing_last newest file (p ∷ ps) h some in
    (ap (λ (q : Packing). (laid q).bytes) is, ap (λ (q : Packing). (laid q).root) is)

-- two facts of what stands in an Ok
pub if_ok : {T E : Type 0} (r : Result T E) (P Q : T → Type 0) {R : T → Type 0} → ((x : T) → P x → Q x → R x) → IfOk r P → IfOk r Q → IfOk r R
if_ok (Ok x) P Q f p q = f x p q
if_ok (Err e) P Q f p q = tt

-- the last partition is packed and the trie ended,
pub trie_appended : (E : Type 0) {T R G : Type 0} (old mid new : Option Files) (newest : Newest) (file : FileId) (ps : List Numbered) (first : T) (r : Result R G)
    → IsNewest newest ps → 0 < newest.count → AreNumbered ps
    → AppendsSome {E = E} old mid file (Ok first)
    (packing_bytes_for (settled_packing (record { file = file; partitions = ps })) (entry_between (string_before newest) (last_in newest) None).key (signed_bytes newest.number))
    → Appends mid new file r (last_bytes (packed_with newest file ps None)) → AppendsTrie old new file r ps
trie_appended E old mid new newest file [] x r h some fine p q = absurd (omega (arith, h.0, some))
trie_appended E old mid new newest file (k ∷ ps) x r h some fine p q =
    subst (λ (bytes : List ℕ). Appends old new file r bytes) (sym (ended newest file k ps h some fine.ascend)) (some_behind E old mid new file x r _ _ p q)

-- or the packing of the last partition failed
pub trie_failed : {T R E G : Type 0} (old new : Option Files) (newest : Newest) (file : FileId) (ps : List Numbered) (inner : Result T E) (outer : Result R G)
    → IsNewest newest ps → 0 < newest.count → AreNumbered ps → IsErr inner → IsErr outer
    → AppendsSome old new file inner
    (packing_bytes_for (settled_packing (record { file = file; partitions = ps })) (entry_between (string_before newest) (last_in newest) None).key (signed_bytes newest.number))
    → AppendsTrie old new file outer ps
trie_failed old new newest file [] r s h some fine bad worse p = absurd (omega (arith, h.0, some))
trie_failed old new newest file (k ∷ ps) r s h some fine bad worse p =
    subst (λ (bytes : List ℕ). Appends old new file s bytes) (sym (ended newest file k ps h some fine.ascend)) (some_failed old new file r s _ _ bad worse p)

-- ---- the whole file

pub no_count : (newest : Newest) (ps : List Numbered) → IsNewest newest ps → newest.count ≡ 0 → ps ≡ []
no_count newest [] h none = refl
no_count newest (p ∷ ps) h none = absurd (omega (arith, h.0, none))

abbrev pub ending_of : List Numbered → List ℕ
ending_of ps = let trie = index_trie ps in behind_trie (first_string ps) (last_string ps) (length trie.bytes) (length ps) trie.root

parts : (p : Numbered) (ps : List Numbered) → AreNumbered (p ∷ ps)
    → last_index_bytes (p ∷ ps) ≡ drop (length (early_index (p ∷ ps))) (index_trie (p ∷ ps)).bytes ++ ending_of (p ∷ ps)
parts p ps fine =
    let front = trie_front p ps fine.ascend in
    drop-append-le (length (early_index (p ∷ ps))) (index_trie (p ∷ ps)).bytes (ending_of (p ∷ ps))
    (omega (arith, ap (λ (bytes : List ℕ). length bytes) front.1, length-append (early_index (p ∷ ps)) front.0))

-- the trie was ended, and what stands behind it is appended,
pub file_appended : (E : Type 0) {T R G : Type 0} (old mid new : Option Files) (file : FileId) (ps : List Numbered) (first : T) (r : Result R G) → AreNumbered ps
    → AppendsTrie {E = E} old mid file (Ok first) ps → Appends mid new file r (ending_of ps) → Appends old new file r (last_index_bytes ps)
file_appended E old mid new file [] x r fine p q =
    subst (λ (bytes : List ℕ). Appends old new file r bytes) (sym (ap (λ (early : List ℕ). drop (length early) (partition_file [])) (empty_light 0).0))
    (subst (λ (m : Option Files). Appends m new file r (ending_of [])) p q)
file_appended E old mid new file (k ∷ ps) x r fine p q =
    subst (λ (bytes : List ℕ). Appends old new file r bytes) (sym (parts k ps fine)) (appended_behind E old mid new file x r r _ (ending_of (k ∷ ps)) (λ e. e) (λ e. e) p q)

-- or the trie was not ended
pub file_failed : {T R E G : Type 0} (old new : Option Files) (file : FileId) (ps : List Numbered) (inner : Result T E) (outer : Result R G) → AreNumbered ps → IsErr inner → IsErr outer
    → AppendsTrie old new file inner ps → Appends old new file outer (last_index_bytes ps)
file_failed old new file [] r s fine bad worse p = subst (λ (m : Option Files). Appends old m file s (last_index_bytes [])) (sym p) (nothing_appended old file s (last_index_bytes []) worse)
file_failed old new file (k ∷ ps) r s fine bad worse p =
    subst (λ (bytes : List ℕ). Appends old new file s bytes) (sym (parts k ps fine)) (failed_before old new file r s _ (ending_of (k ∷ ps)) bad worse p)

last_string_is : (newest : Newest) (ps : List Numbered) → IsNewest newest ps → newest.last ≡ last_string ps
last_string_is newest [] h = h.1
last_string_is newest (p ∷ ps) h = ap (λ (l : Numbered). l.string) h.1

pub ending_is : (s : PartitionWriter) (w : Indexing) (first last : List ℕ) (end_ root : ℕ) → WritesIndex s w → first ≡ s.first → last ≡ s.newest.last
    → end_ ≡ length (index_trie w.partitions).bytes → root ≡ (index_trie w.partitions).root → behind_trie first last end_ s.newest.count root ≡ ending_of w.partitions
ending_is s w first last end_ root h front back long top =
    let trie = index_trie w.partitions in
    let count = s.newest.count in
    let opening : first ≡ first_string w.partitions = front ∙ h.first in
    let closing : last ≡ last_string w.partitions = back ∙ last_string_is s.newest w.partitions h.trie.newest_is in
    ap (λ (string : List ℕ). behind_trie string last end_ count root) opening
    ∙ ap (λ (string : List ℕ). behind_trie (first_string w.partitions) string end_ count root) closing
    ∙ ap (λ (n : ℕ). behind_trie (first_string w.partitions) (last_string w.partitions) n count root) long
    ∙ ap (λ (n : ℕ). behind_trie (first_string w.partitions) (last_string w.partitions) (length trie.bytes) n root) (newest_count s.newest w.partitions h.trie.newest_is)
    ∙ ap (λ (n : ℕ). behind_trie (first_string w.partitions) (last_string w.partitions) (length trie.bytes) (length w.partitions) n) top

pub first_fits : (s : PartitionWriter) (w : Indexing) → WritesIndex s w → length s.first < 2 ^ 16
first_fits s w h = omega (arith, ap (λ (xs : List ℕ). length xs) h.first, first_short w.partitions h.trie.fine.ascend)

pub last_fits : (s : PartitionWriter) (w : Indexing) → WritesIndex s w → length s.newest.last < 2 ^ 16
last_fits s w h = omega (arith, ap (λ (xs : List ℕ). length xs) (last_string_is s.newest w.partitions h.trie.newest_is), last_short w.partitions h.trie.fine.ascend)
