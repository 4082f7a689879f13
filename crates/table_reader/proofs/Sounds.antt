-- Gets over files that stand for a map meet no damage, so that their reads are within their bound.
use Rattle.std.proofs.Common.{◌≡◌, ◌∙◌, ℕ, ◌+◌, ◌≤◌, List, length, Option, None, Some, Result, Ok, Err, true, arith, ap, refl, subst, sym}
use Rattle.std.specs.Prelude.{ℤ}
use Rattle.bti_nodes.specs.declared.damage.Damage.{Damage}
use Rattle.bti_nodes.specs.Payloads.{signed_number}
use Rattle.bti_nodes.specs.Trie.{Path, Paths, paths}
use Rattle.bti_reader.specs.Meaning.{find_last, path_below}
use Rattle.bti_reader.specs.Searches.{Answer, floor_in}
use Rattle.bti_reader.proofs.Finds.{searches_find}
use Rattle.data_file.specs.Listing.{ArePartitions, Partition, data_bytes}
use Rattle.index_files.specs.declared.footer.FooterNumbers.{FooterNumbers}
use Rattle.outside.specs.Files.{bytes_of}
use Rattle.row_index.specs.Entries.{Block}
use Rattle.table_files.specs.Blocks.{blocks_of}
use Rattle.table_files.specs.IndexMeaning.{LeadsToEntry, MeansBlocks}
use Rattle.table_files.specs.Indexes.{placed_at}
use Rattle.table_files.specs.Names.{partitions_id, rows_id}
use Rattle.table_files.specs.Standing.{RowsAscend}
use Rattle.table_reader.specs.Gets.{TableBytes, bytes_in, number_in, number_of}
use Rattle.table_reader.specs.Laws.{GetsAreBounded}
use Rattle.table_reader.specs.Reads.{IsPathWithin, IsSeparatorWithin, IsSoundThere, IsSoundWithin, IsWithinThere, path_length, separator_length}
use Rattle.table_reader.proofs.Indexed.{FindsAmong, HasRoot, leads_ok, number_found}
use Rattle.table_reader.proofs.Whole.{StandsAt, stands_at}

pub path_within : (a : Answer) (o : Option Path) (most : ℕ) → a ≡ Ok o → path_length a ≤ most → IsPathWithin a most
path_within (Err wrong) o most e l = cc
path_within (Ok None) o most e l = tt
path_within (Ok (Some path)) o most e l = l

root_within : (rows key : List ℕ) (root : ℕ) (blocks : List Block) (found : Paths) (most : ℕ) → paths rows root ≡ found → MeansBlocks blocks found → path_length (floor_in rows root key) ≤ most
    → IsPathWithin (floor_in rows root key) most
root_within rows key root blocks (Err wrong) most is means l = absurd means
root_within rows key root blocks (Ok fs) most is means l = path_within (floor_in rows root key) (find_last (path_below true key) fs) most (searches_find rows key root fs is).floor l

pub separator_within : (rows key : List ℕ) (root : Option ℕ) (blocks : List Block) (most : ℕ) → HasRoot rows blocks root → separator_length rows root key ≤ most → IsSeparatorWithin rows root key most
separator_within rows key None blocks most has l = tt
separator_within rows key (Some root) blocks most has l = root_within rows key root blocks (paths rows root) most refl has l

there_sound : (t : TableBytes) (p : Partition) (base : ℕ) (wanted : Option (List ℕ)) (number : ℤ) (most : ℕ) → StandsAt t.columns t.entries p base
    → LeadsToEntry t.rows (placed_at t.columns.static_value base p) (blocks_of t.columns.static_value p) number → IsWithinThere t number wanted most → IsSoundThere t number wanted most
there_sound t p base None number most s leads within = λ there is. tt
there_sound t p base (Some row) number most s leads within = λ there is.
    let found = leads_ok t (placed_at t.columns.static_value base p) s.key (blocks_of t.columns.static_value p) number there refl leads is in
    separator_within t.rows row there.root (blocks_of t.columns.static_value p) most found.1 (within there is)

sound_by : (t : TableBytes) (footer : FooterNumbers) (key : List ℕ) (ps : List Partition) (o : Option Path) (wanted : Option (List ℕ)) (most : ℕ) → t.entries ≡ data_bytes t.columns.static_value ps
    → ArePartitions t.columns ps → RowsAscend ps → number_in t.partitions footer key ≡ number_of (Ok o) → FindsAmong t.columns.static_value t.rows key 0 ps o
    → ((number : ℤ) → number_in t.partitions footer key ≡ Ok (Some number) → IsWithinThere t number wanted most) → IsSoundWithin t footer key wanted most
sound_by t footer key ps None wanted most bytes are ascend is among within = λ number e. let apart : ◌≡◌ {A = Result (Option ℤ) Damage} (Ok None) (Ok (Some number)) = sym is ∙ e in cc
sound_by t footer key ps (Some path) wanted most bytes are ascend is c within = λ number e.
    let both : ◌≡◌ {A = Result (Option ℤ) Damage} (Ok (Some (signed_number path.payload))) (Ok (Some number)) = sym is ∙ e in
    let same : signed_number path.payload ≡ number = cc in
    let static = t.columns.static_value in
    let base = length (data_bytes static c.front) in
    let here : 0 + length (data_bytes static c.front) ≡ base = omega arith in
    let s = stands_at t.columns t.entries c.front c.p c.rest (bytes ∙ ap (data_bytes static) c.parts) (subst (ArePartitions t.columns) c.parts are) (subst RowsAscend c.parts ascend) in
    let leads = subst (λ (k : ℕ). LeadsToEntry t.rows (placed_at static k c.p) (blocks_of static c.p) (signed_number path.payload)) here c.leads in
    there_sound t c.p base wanted number most s (subst (λ (z : ℤ). LeadsToEntry t.rows (placed_at static base c.p) (blocks_of static c.p) z) same leads) (within number e)

pub gets_bounded : GetsAreBounded
gets_bounded files generation columns table footer key wanted old new stand (first, last, has) always = λ most within.
    let held = stand.held in
    let number = number_found columns (bytes_of files (partitions_id generation)) (bytes_of files (rows_id generation)) key first last footer held.partitions stand.indexes.numbered
    stand.indexes.index stand.indexes.entries has in
    let sound = sound_by (bytes_in columns files generation) footer key held.partitions number.path wanted most held.listed.0 held.listed.1 held.rows number.number number.among within in
    let one = always most sound in
    omega (arith, one)
