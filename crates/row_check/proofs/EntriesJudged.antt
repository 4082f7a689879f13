-- What the check of entries finds, beside what the paths of Partitions.db lead to.
use Rattle.std.proofs.Common.{◌≡◌, ◌∙◌, ℕ, ◌+◌, ◌^◌, ◌<◌, ◌≤◌, List, [], ◌∷◌, ◌++◌, length, drop, Option, None, Some, Result, Ok, Err, ap, sym, subst, arith}
use Rattle.std.specs.Prelude.{ℤ, pos, negsuc, ⊤}
use Rattle.outside.specs.declared.store.Part.TheVariants.{Partitions}
use Rattle.key_types.specs.Columns.{Columns}
use Rattle.bti_nodes.specs.Payloads.{signed_number}
use Rattle.bti_nodes.specs.Trie.{Path, paths}
use Rattle.bti_reader.specs.Walks.{next_in}
use Rattle.data_file.specs.Listing.{Partition, data_bytes, partition_bytes}
use Rattle.index_files.specs.declared.entry.EntryNumbers.{EntryNumbers}
use Rattle.row_index.specs.Entries.{Block, BlockList}
use Rattle.row_index.specs.File.{entry_bytes}
use Rattle.table_files.specs.IndexMeaning.{HasEntry, MeansBlocks}
use Rattle.table_files.specs.Indexes.{placed, placed_at, placed_from}
use Rattle.data_walk.specs.declared.data_walk.PartitionSum.{PartitionSum}
use Rattle.data_walk.specs.declared.refusal.Refusal.{Refusal}
use Rattle.data_walk.specs.Ahead.{IsSumOf, PartitionAhead, PartitionsAhead}
use Rattle.data_walk.specs.DataWalk.{Place, place_at}
use Rattle.data_walk.specs.Refusals.{IsFault}
use Rattle.data_walk.proofs.Finding.{all_are_found, listed_are_ahead}
use Rattle.data_walk.proofs.Meeting.{low_some}
use Rattle.path_check.specs.Paths.{EndsPaths}
use Rattle.path_check.proofs.Following.{Follow, first_follows, none_follow, some_follow, whole_follows, whole_is}
use Rattle.row_check.specs.Entries.{ChecksEntries, ChecksNumber, ComparesEntries, ComparesEntry, EntriesAre, FindsEntry, LeadsFromPath, SpellsEntry}
use Rattle.row_check.specs.Laws.{EntriesAreJudged, Judges, MeansEntries}
use Rattle.row_check.proofs.BlocksJudged.{blocks_are_judged}
use Rattle.row_check.proofs.Once.{begins, entry_once, own_numbers, spelled_own}

-- ---- to an entry and back

module _ (rows : List ℕ) (partition : BlockList) where
  leads_nowhere : (blocks : List Block) (number : ℤ) → length blocks ≡ 0 → LeadsFromPath rows partition blocks number
  leads_nowhere [] number none = tt
  leads_nowhere (block ∷ blocks) number none = absurd (omega (arith, none))

  leads : (blocks : List Block) (number : ℤ) (at : ℕ) → 1 ≤ length blocks → number ≡ pos at → HasEntry rows partition at → LeadsFromPath rows partition blocks number
  leads [] number at some is entry = absurd (omega (arith, some))
  leads (block ∷ blocks) number at some is entry = (at, is, entry)

  led : (blocks : List Block) (number : ℤ) → 1 ≤ length blocks → LeadsFromPath rows partition blocks number → (at : ℕ) × (number ≡ pos at) × HasEntry rows partition at
  led [] number some leads = absurd (omega (arith, some))
  led (block ∷ blocks) number some leads = leads

  -- to the same one
  led_there : (blocks : List Block) (number : ℤ) (at : ℕ) → 1 ≤ length blocks → number ≡ pos at → LeadsFromPath rows partition blocks number → HasEntry rows partition at
  led_there blocks number at some is leads =
      let (there, same, entry) = led blocks number some leads in
      let both : pos there ≡ pos at = sym same ∙ is in
      subst (HasEntry rows partition) (one there at both) entry
    where
      one : (n m : ℕ) → pos n ≡ pos m → n ≡ m
      one n m e = cc

  not_led : (blocks : List Block) (number : ℤ) (n : ℕ) → 1 ≤ length blocks → number ≡ negsuc n → LeadsFromPath rows partition blocks number → ⊥
  not_led blocks number n some is leads =
      let (there, same, entry) = led blocks number some leads in
      let both : pos there ≡ negsuc n = sym same ∙ is in cc

module _ (columns : Columns) (entries rows : List ℕ) where
  -- the first of the partitions that stand ahead, whatever stood before
  alone : (place : Place) (p : Partition) (ps : List Partition) → PartitionsAhead columns entries place (p ∷ ps) → PartitionAhead columns entries (place_at place.at) p
  alone place p ps h =
      record {
        is = (h.are.0, h.are.1, h.are.2, tt);
        rest = data_bytes columns.static_value ps;
        stands = h.stands;
        above = low_some place.key p.key h.above.0;
        ascend = (h.ascend.0, h.ascend.1, tt);
      }

  -- ---- the number of one partition

  module _ (place next : Place) (p : Partition) (sum : PartitionSum) (ahead : PartitionAhead columns entries (place_at place.at) p) (is : IsSumOf columns place next p sum) where
    abbrev partition : BlockList
    partition = placed_at columns.static_value place.at p

    there : PartitionAhead columns entries (place_at sum.position) p
    there = subst (λ (n : ℕ). PartitionAhead columns entries (place_at n) p) (sym is.position) ahead

    some : 2 ≤ sum.blocks → 1 ≤ length partition.blocks
    some two = omega (arith, two, is.blocks)

    -- an entry that is found is that of the partition
    entry_found : (at : ℕ) (numbers : EntryNumbers) → at < 2 ^ 63 → FindsEntry columns rows at next.key sum (Ok numbers) → MeansBlocks partition.blocks (paths rows numbers.root)
        → HasEntry rows partition at
    entry_found at _ short (FindsEntry.own string numbers spelled (ComparesEntry.same key position blocks)) means =
        let same_string : string ≡ partition.string = key ∙ is.key in
        let same_place : numbers.position ≡ partition.data_at = position ∙ is.position in
        let same_blocks : numbers.blocks ≡ length partition.blocks + 1 = blocks ∙ is.blocks in
        record {
          root = numbers.root;
          rest = spelled.rest;
          entry = spelled.stands ∙ (λ i. entry_bytes (same_string i) (same_place i) numbers.root (same_blocks i) ++ spelled.rest);
          below = spelled.root;
          place = omega (arith, spelled.place, same_place);
          short = omega (arith, short);
          few = omega (arith, spelled.few, same_blocks);
          means = means;
        }

    number_leads : (node : ℕ) (number : ℤ) → ChecksNumber columns entries rows node number next.key sum (Ok tt) → LeadsFromPath rows partition partition.blocks number
    number_leads node number (ChecksNumber.single few) = leads_nowhere rows partition partition.blocks number (omega (arith, few, is.blocks))
    number_leads node number (ChecksNumber.found at numbers _ two leads_to short finds checks) =
        leads rows partition partition.blocks number at (some two) leads_to
        (entry_found at numbers short finds (blocks_are_judged columns entries rows sum.position numbers.root p (Ok tt) there checks))

    -- where the entry of the partition stands, it is found
    own_spelled : (at : ℕ) → 1 ≤ length partition.blocks → (entry : HasEntry rows partition at) → SpellsEntry columns (drop at rows) at partition.string (own_numbers partition entry.root)
    own_spelled at few entry = spelled_own columns rows partition at ahead.is.0 few entry

    no_clash : (at : ℕ) (string : List ℕ) (numbers : EntryNumbers) (e : Refusal) → (string ≡ partition.string) → numbers.position ≡ partition.data_at
        → numbers.blocks ≡ length partition.blocks + 1 → ComparesEntry at string numbers next.key sum (Err e) → ⊥
    no_clash at string numbers _ same position blocks (ComparesEntry.other_key apart) = apart (same ∙ sym is.key)
    no_clash at string numbers _ same position blocks (ComparesEntry.other_position key apart) = apart (position ∙ sym is.position)
    no_clash at string numbers _ same position blocks (ComparesEntry.other_blocks key there apart) = apart (blocks ∙ sym is.blocks)

    entry_there : (at : ℕ) (e : Refusal) → 1 ≤ length partition.blocks → HasEntry rows partition at → FindsEntry columns rows at next.key sum (Err e) → IsFault e
    entry_there at _ few entry (FindsEntry.clashes string numbers e spelled compares) =
        let once = entry_once columns (drop at rows) at string partition.string numbers (own_numbers partition entry.root) entry.short spelled (own_spelled at few entry) in
        absurd (no_clash at string numbers e once.0 (ap (λ (n : EntryNumbers). n.position) once.1) (ap (λ (n : EntryNumbers). n.blocks) once.1) compares)
    entry_there at _ few entry (FindsEntry.none nothing) =
        absurd (nothing partition.string (own_numbers partition entry.root)
        (begins columns (drop at rows) at partition.string (own_numbers partition entry.root) entry.short (own_spelled at few entry)))
    entry_there at _ few entry (FindsEntry.fault e fault) = fault

    root_there : (at : ℕ) (numbers : EntryNumbers) → 1 ≤ length partition.blocks → (entry : HasEntry rows partition at) → FindsEntry columns rows at next.key sum (Ok numbers)
        → numbers.root ≡ entry.root
    root_there at _ few entry (FindsEntry.own string numbers spelled compares) =
        let once = entry_once columns (drop at rows) at string partition.string numbers (own_numbers partition entry.root) entry.short spelled (own_spelled at few entry) in
        ap (λ (n : EntryNumbers). n.root) once.1

    number_fault : (node : ℕ) (number : ℤ) (e : Refusal) → ChecksNumber columns entries rows node number next.key sum (Err e)
        → LeadsFromPath rows partition partition.blocks number → IsFault e
    number_fault node number _ (ChecksNumber.negative n two below) to = absurd (not_led rows partition partition.blocks number n (some two) below to)
    number_fault node number _ (ChecksNumber.refused at e two leads_to finds) to =
        entry_there at e (some two) (led_there rows partition partition.blocks number at (some two) leads_to to) finds
    number_fault node number e (ChecksNumber.found at numbers _ two leads_to short finds checks) to =
        let entry = led_there rows partition partition.blocks number at (some two) leads_to to in
        let root = root_there at numbers (some two) entry finds in
        blocks_are_judged columns entries rows sum.position numbers.root p (Err e) there checks
        (subst (λ (r : ℕ). MeansBlocks partition.blocks (paths rows r)) (sym root) entry.means)

  -- ---- all partitions

  module _ (index : List ℕ) (root : ℕ) where
    -- what is found of the partitions from a position on, the last path being this
    abbrev Found : Option (List ℕ) → ℕ → List Partition → Result ⊤ Refusal → Type 0
    Found last at ps result = Judges (Follow index root last (EntriesAre rows (placed_from columns.static_value at ps))) result

    -- behind a partition
    abbrev Behind : Option (List ℕ) → Place → Partition → List Partition → Result ⊤ Refusal → Type 0
    Behind last place p ps result = Found last (place.at + length (partition_bytes columns.static_value p)) ps result

    found_on : (place next : Place) (last : Option (List ℕ)) (p : Partition) (ps : List Partition) (sum : PartitionSum) (path : Path) (result : Result ⊤ Refusal)
        → PartitionAhead columns entries (place_at place.at) p → IsSumOf columns place next p sum → next_in index root last ≡ Ok (Some path)
        → ChecksNumber columns entries rows path.node (signed_number path.payload) next.key sum (Ok tt) → Behind (Some path.path) place p ps result
        → Found last place.at (p ∷ ps) result
    found_on place next last p ps sum path (Ok done) ahead is had checks found =
        record { all = path ∷ found.all; given = (had, found.given); are = (number_leads place next p sum ahead is path.node (signed_number path.payload) checks, found.are) }
    found_on place next last p ps sum path (Err e) ahead is had checks found =
        λ f. let more = first_follows index root last (EntriesAre rows (placed_from columns.static_value place.at (p ∷ ps))) path had (λ none. none) f in
        found (record { all = more.all; given = more.given; are = more.are.1 })

    found_clash : (place next : Place) (last : Option (List ℕ)) (p : Partition) (ps : List Partition) (sum : PartitionSum) (path : Path) (e : Refusal)
        → PartitionAhead columns entries (place_at place.at) p → IsSumOf columns place next p sum → next_in index root last ≡ Ok (Some path)
        → ChecksNumber columns entries rows path.node (signed_number path.payload) next.key sum (Err e) → Found last place.at (p ∷ ps) (Err e)
    found_clash place next last p ps sum path e ahead is had checks =
        λ f. let more = first_follows index root last (EntriesAre rows (placed_from columns.static_value place.at (p ∷ ps))) path had (λ none. none) f in
        number_fault place next p sum ahead is path.node (signed_number path.payload) e checks more.are.0

    found_end : (at : ℕ) (last : Option (List ℕ)) (result : Result ⊤ Refusal) → EndsPaths Partitions index root last result → Found last at [] result
    found_end at last (Ok done) (EndsPaths.ends none) = record { all = []; given = none; are = tt }
    found_end at last (Err e) ends = none_follow index root Partitions last (EntriesAre rows []) e (λ p more are. are) ends

    compared : (place : Place) (last : Option (List ℕ)) (ps : List Partition) (result : Result ⊤ Refusal) → PartitionsAhead columns entries place ps
        → ComparesEntries columns entries rows index root place last result → Found last place.at ps result
    compared _ _ [] _ ahead (ComparesEntries.partition place next last sum path result finds had checks more) =
        absurd (all_are_found columns entries place next [] (Ok (Some sum)) ahead finds)
    compared _ _ (p ∷ ps) _ ahead (ComparesEntries.partition place next last sum path result finds had checks more) =
        let (is, left) = all_are_found columns entries place next (p ∷ ps) (Ok (Some sum)) ahead finds in
        let found : Behind (Some path.path) place p ps result = subst (λ (n : ℕ). Found (Some path.path) n ps result) is.at (compared next (Some path.path) ps result left more) in
        found_on place next last p ps sum path result (alone place p ps ahead) is had checks found
    compared _ _ [] _ ahead (ComparesEntries.clashes place next last sum path e finds had checks) =
        absurd (all_are_found columns entries place next [] (Ok (Some sum)) ahead finds)
    compared _ _ (p ∷ ps) _ ahead (ComparesEntries.clashes place next last sum path e finds had checks) =
        let (is, left) = all_are_found columns entries place next (p ∷ ps) (Ok (Some sum)) ahead finds in
        found_clash place next last p ps sum path e (alone place p ps ahead) is had checks
    compared _ _ [] _ ahead (ComparesEntries.lacks place next last sum e finds lacks) =
        absurd (all_are_found columns entries place next [] (Ok (Some sum)) ahead finds)
    compared _ _ (p ∷ ps) _ ahead (ComparesEntries.lacks place next last sum e finds lacks) =
        some_follow index root Partitions last (EntriesAre rows (placed_from columns.static_value place.at (p ∷ ps))) e (λ none. none) lacks
    compared _ _ [] _ ahead (ComparesEntries.ends place next last result finds ends) = found_end place.at last result ends
    compared _ _ (p ∷ ps) _ ahead (ComparesEntries.ends place next last result finds ends) =
        absurd (all_are_found columns entries place next (p ∷ ps) (Ok None) ahead finds)
    compared _ _ ps _ ahead (ComparesEntries.stops place next last e finds) =
        λ f. all_are_found columns entries place next ps (Err e) ahead finds

    checked : (ps : List Partition) (result : Result ⊤ Refusal) → PartitionsAhead columns entries (place_at 0) ps → ChecksEntries columns entries rows index root result
        → Found None 0 ps result
    checked ps _ ahead (ChecksEntries.whole result compares) = compared (place_at 0) None ps result ahead compares
    checked ps _ ahead (ChecksEntries.fault e fault) = λ f. fault

    -- the paths that follow are those of the trie
    meant : (partitions : List Partition) (result : Result ⊤ Refusal) → Found None 0 partitions result
        → Judges (MeansEntries rows (placed columns.static_value partitions) (paths index root)) result
    meant partitions (Ok done) found = whole_is index root (MeansEntries rows (placed columns.static_value partitions)) found
    meant partitions (Err e) found = λ means. found (whole_follows index root (MeansEntries rows (placed columns.static_value partitions)) (λ wrong no. no) means)

pub entries_are_judged : EntriesAreJudged
entries_are_judged columns entries rows index root partitions result listed ascend rows_ascend checks =
    meant columns entries rows index root partitions result (checked columns entries rows index root partitions result (listed_are_ahead columns entries partitions listed ascend rows_ascend) checks)
