-- How often the turns of a scan, and what is printed of a range, read the store.
use Rattle.std.proofs.Common.{◌≡◌, ◌∙◌, ℕ, ◌+◌, ◌*◌, ◌≤◌, List, [], ◌∷◌, ◌++◌, length, Option, None, Some, IfSome, Ok, arith, ap, length-append, subst, sym}
use Rattle.std.specs.FinMap as finite
use Rattle.outside.specs.Files.{Files, bytes_of}
use Rattle.key_types.specs.Columns.{Columns, columns_of}
use Rattle.key_types.specs.Table.{Entry}
use Rattle.byte_comparable.specs.declared.strings.Side.{Side}
use Rattle.byte_comparable.specs.declared.strings.Side.TheVariants.{Before, After}
use Rattle.index_files.specs.declared.footer.FooterNumbers.{FooterNumbers}
use Rattle.table_files.specs.Names.{data_id, partitions_id, schema_id}
use Rattle.table_files.specs.SchemaFile.{IsSchemaFile}
use Rattle.table_files.specs.Standing.{StandFor}
use Rattle.table_files.proofs.SchemaLemmas.{one_schema}
use Rattle.table_reader.specs.declared.seek.BoundString.{BoundString}
use Rattle.table_reader.specs.declared.walker.EntryStrings.{EntryStrings}
use Rattle.table_reader.specs.Gets.{bytes_in}
use Rattle.table_reader.specs.Going.{IsNear}
use Rattle.table_reader.specs.Left.{HasLeft, IsBound, NamesSome, range_of}
use Rattle.table_reader.specs.NextReads.{HasBlockWithin, bound_length}
use Rattle.table_reader.specs.Opened.{HasFooter, IsLoaded, Opened}
use Rattle.table_reader.specs.Ranges.{Scanning, entries_of}
use Rattle.table_reader.specs.Scans.{Scans}
use Rattle.table_reader.specs.SeekReads.{AlwaysWithinScan}
use Rattle.table_reader.proofs.Footers.{one_footer}
use Rattle.table_reader.proofs.Ranged.{ranges_begin}
use Rattle.table_reader.proofs.ScanSounds.{scans_bounded, scans_near}
use Rattle.scan_tool.specs.Bounds.{NamesEnd}
use Rattle.scan_tool.specs.PrintReads.{EntriesWithin, NamedWithin, PrintsWithin, RangeWithin, TurnsWithin}
use Rattle.scan_tool.proofs.Named.{named_bound, named_some, one_bound}
use Rattle.scan_tool.proofs.Ranged.{gives_front}
use Rattle.scan_tool.proofs.Turns.{Along}

-- ---- turns

entries_long : (entries : List EntryStrings) → length (entries_of entries) ≡ length entries
entries_long [] = omega arith
entries_long (e ∷ entries) = omega (arith, entries_long entries)

module _ (columns : Columns) (generation : ℕ) (first : Scanning) where
  -- a scan that was near at first is near after some turns, each of which took at most 64 reads
  abbrev pub NearAfter : Option Files → List EntryStrings → Scanning → ℕ → ℕ → Type 0
  NearAfter files entries scan before after = IfSome files (λ m. IsNear columns (bytes_of m (data_id generation)) first
      → IsNear columns (bytes_of m (data_id generation)) scan × (after ≤ before + 64 * length entries))

  abbrev pub TurnsSo : Option Files → Scanning → Scanning → ℕ → ℕ → Type 0
  TurnsSo files scan scan' before after = IfSome files (λ m. TurnsWithin columns (bytes_of m (data_id generation)) scan scan' before after)

  abbrev pub EntriesSo : Option Files → ℕ → ℕ → Type 0
  EntriesSo files before after = IfSome files (λ m. EntriesWithin columns (bytes_of m (data_id generation)) first before after)

  pub near_at_once : (files : Option Files) (before after : ℕ) → after ≤ before → NearAfter files [] first before after
  near_at_once None before after same = tt
  near_at_once (Some m) before after same = λ near. (near, omega (arith, same))

  pub near_more : (files now : Option Files) (mid scan' : Scanning) (entries : List EntryStrings) (entry : EntryStrings) (before between after : ℕ) → now ≡ files
      → NearAfter files entries mid before between → TurnsSo now mid scan' between after → NearAfter files (entries ++ entry ∷ []) scan' before after
  near_more None now mid scan' entries entry before between after stay nears turns = tt
  near_more (Some m) now mid scan' entries entry before between after stay nears turns = λ near.
      let here = nears near in
      let on = (subst (λ (fs : Option Files). TurnsSo fs mid scan' between after) stay turns) here.0 in
      (on.0, omega (arith, here.1, on.1, length-append entries (entry ∷ [])))

  -- the entries that were given are some of those that are left, and behind them comes one turn more
  pub near_last : (files now : Option Files) (mid scan' : Scanning) (entries : List EntryStrings) (before between after : ℕ) → now ≡ files → Along columns files generation first entries mid
      → NearAfter files entries mid before between → TurnsSo now mid scan' between after → EntriesSo files before after
  near_last None now mid scan' entries before between after stay along nears turns = tt
  near_last (Some m) now mid scan' entries before between after stay along nears turns = λ left has near.
      let front = gives_front columns (bytes_of m (data_id generation)) first mid entries left has along in
      let here = nears near in
      let on = (subst (λ (fs : Option Files). TurnsSo fs mid scan' between after) stay turns) here.0 in
      omega (arith, here.1, on.1, ap (λ (l : List Entry). length l) front.1, length-append (entries_of entries) front.0, entries_long entries)

-- ---- a range

pub few_ranged : (fs : Option Files) (generation : ℕ) (columns : Columns) (from to : Option BoundString) (before after : ℕ) → after ≤ before + 2
    → IfSome fs (λ m. RangeWithin m generation columns 258 from to before after)
few_ranged None generation columns from to before after few = tt
few_ranged (Some m) generation columns from to before after few = λ is some is_to table footer most stand has block. omega (arith, few)

pub few_named : (fs : Option Files) (generation : ℕ) (columns : Columns) (from to : Option (List ℕ)) (before after : ℕ) → after ≤ before
    → IfSome fs (λ m. NamedWithin m generation columns 258 from to before after)
few_named None generation columns from to before after few = tt
few_named (Some m) generation columns from to before after few = λ lower upper first second table footer most stand has block. omega (arith, few)

pub few_printed : (fs : Option Files) (generation : ℕ) (from to : Option (List ℕ)) (before after : ℕ) → after ≤ before + 1 → IfSome fs (λ m. PrintsWithin m generation from to before after)
few_printed None generation from to before after few = tt
few_printed (Some m) generation from to before after few = λ columns lower upper first second table footer most stand has block. omega (arith, few)

module _ (m : Files) (generation : ℕ) (columns : Columns) (from to : Option BoundString) where
  -- what is so of the footer that is loaded, where a scan's beginning reads the store
  abbrev BeginsWithin : FooterNumbers → ℕ → ℕ → Type 0
  BeginsWithin footer before after = AlwaysWithinScan (bytes_in columns m generation) footer from before after × (footer.partitions ≡ 0 → after ≤ before)

  -- no scan is begun
  unbegun_by : (loaded : FooterNumbers) (before between after : ℕ) → HasFooter columns (bytes_of m (partitions_id generation)) loaded → between ≤ before + 2 → BeginsWithin loaded between after
      → RangeWithin m generation columns 258 from to before after
  unbegun_by loaded before between after has few begins = λ is some is_to table footer most stand is_footer block.
      let same = one_footer columns (bytes_of m (partitions_id generation)) loaded footer has is_footer in
      let within = subst (λ (f : FooterNumbers). BeginsWithin f between after) same begins in
      let one = scans_bounded m generation columns table footer from between after stand is_footer within.0 within.1 most block in
      omega (arith, one, few)

  -- one is begun, and gives its entries
  begun_by : (loaded : FooterNumbers) (scan : Scanning) (before between begun after : ℕ) → HasFooter columns (bytes_of m (partitions_id generation)) loaded → between ≤ before + 2
      → BeginsWithin loaded between begun → Scans (bytes_in columns m generation) loaded from to (Ok scan) → EntriesWithin columns (bytes_of m (data_id generation)) scan begun after
      → RangeWithin m generation columns 258 from to before after
  begun_by loaded scan before between begun after has few begins scans gives = λ is some is_to table footer most stand is_footer block.
      let same = one_footer columns (bytes_of m (partitions_id generation)) loaded footer has is_footer in
      let within = subst (λ (f : FooterNumbers). BeginsWithin f between begun) same begins in
      let one = scans_bounded m generation columns table footer from between begun stand is_footer within.0 within.1 most block in
      let left = ranges_begin m generation columns table loaded from to (Ok scan) stand has is some is_to scans in
      let near = scans_near m generation columns table loaded from to scan stand has is some scans in
      let all = gives (range_of from to (finite.entries table)) left near in
      omega (arith, one, few, all)

  pub unbegun_in : (loaded : Option FooterNumbers) (before between after : ℕ) → IsLoaded columns (bytes_of m (partitions_id generation)) loaded → between ≤ before + 2
      → IfSome loaded (λ f. AlwaysWithinScan (bytes_in columns m generation) f from between after) → IfSome loaded (λ f. f.partitions ≡ 0 → after ≤ between)
      → RangeWithin m generation columns 258 from to before after
  unbegun_in None before between after has few always unread = absurd has
  unbegun_in (Some footer) before between after has few always unread = unbegun_by footer before between after has few (always, unread)

  pub begun_in : (loaded : Option FooterNumbers) (scan : Scanning) (before between begun after : ℕ) → IsLoaded columns (bytes_of m (partitions_id generation)) loaded → between ≤ before + 2
      → IfSome loaded (λ f. AlwaysWithinScan (bytes_in columns m generation) f from between begun) → IfSome loaded (λ f. f.partitions ≡ 0 → begun ≤ between)
      → IfSome loaded (λ f. Scans (bytes_in columns m generation) f from to (Ok scan)) → EntriesWithin columns (bytes_of m (data_id generation)) scan begun after
      → RangeWithin m generation columns 258 from to before after
  begun_in None scan before between begun after has few always unread scans gives = absurd has
  begun_in (Some footer) scan before between begun after has few always unread scans gives = begun_by footer scan before between begun after has few (always, unread) scans gives

-- ---- over an open table

-- a table whose footer was loaded is another with that footer
abbrev AlwaysOf : Option Files → Opened → Option BoundString → ℕ → ℕ → Type 0
AlwaysOf files table from before after =
    IfSome files (λ m. IfSome table.footer (λ footer. AlwaysWithinScan (bytes_in (columns_of table.schema) m table.generation) footer from before after))

abbrev ScansOf : Option Files → Opened → Option BoundString → Option BoundString → Scanning → Type 0
ScansOf files table from to scan =
    IfSome files (λ m. IfSome table.footer (λ footer. Scans (bytes_in (columns_of table.schema) m table.generation) footer from to (Ok scan)))

always_as : (fs gs : Option Files) (old new : Opened) (from : Option BoundString) (before after : ℕ) → gs ≡ fs → new ≡ record old { footer = new.footer; pages = new.pages }
    → AlwaysOf gs new from before after → AlwaysOf fs (record old { footer = new.footer; pages = new.pages }) from before after
always_as fs gs old new from before after stay same always =
    subst (λ (f : Option Files). AlwaysOf f (record old { footer = new.footer; pages = new.pages }) from before after) stay (subst (λ (t : Opened). AlwaysOf gs t from before after) same always)

scans_as : (fs gs : Option Files) (old new : Opened) (from to : Option BoundString) (scan : Scanning) → gs ≡ fs → new ≡ record old { footer = new.footer; pages = new.pages }
    → ScansOf gs new from to scan → ScansOf fs (record old { footer = new.footer; pages = new.pages }) from to scan
scans_as fs gs old new from to scan stay same scans =
    subst (λ (f : Option Files). ScansOf f (record old { footer = new.footer; pages = new.pages }) from to scan) stay (subst (λ (t : Opened). ScansOf gs t from to scan) same scans)

pub unbegun_within : (fs gs : Option Files) (old new : Opened) (from to : Option BoundString) (before between after : ℕ) → gs ≡ fs → new ≡ record old { footer = new.footer; pages = new.pages }
    → IfSome fs (λ m. IsLoaded (columns_of old.schema) (bytes_of m (partitions_id old.generation)) new.footer) → between ≤ before + 2
    → AlwaysOf gs new from between after → IfSome new.footer (λ f. f.partitions ≡ 0 → after ≤ between)
    → IfSome fs (λ m. RangeWithin m old.generation (columns_of old.schema) 258 from to before after)
unbegun_within None gs old new from to before between after stay same has few always unread = tt
unbegun_within (Some m) gs old new from to before between after stay same has few always unread =
    unbegun_in m old.generation (columns_of old.schema) from to new.footer before between after has few (always_as (Some m) gs old new from between after stay same always) unread

pub begun_within : (fs gs hs : Option Files) (old new table : Opened) (from to : Option BoundString) (scan : Scanning) (before between begun after : ℕ) → gs ≡ fs → hs ≡ gs
    → new ≡ record old { footer = new.footer; pages = new.pages } → table ≡ record new { pages = table.pages }
    → IfSome fs (λ m. IsLoaded (columns_of old.schema) (bytes_of m (partitions_id old.generation)) new.footer) → between ≤ before + 2
    → AlwaysOf gs new from between begun → IfSome new.footer (λ f. f.partitions ≡ 0 → begun ≤ between) → ScansOf gs new from to scan
    → IfSome hs (λ m. EntriesWithin (columns_of table.schema) (bytes_of m (data_id table.generation)) scan begun after)
    → IfSome fs (λ m. RangeWithin m old.generation (columns_of old.schema) 258 from to before after)
begun_within None gs hs old new table from to scan before between begun after stay stays same again has few always unread scans gives = tt
begun_within (Some m) gs hs old new table from to scan before between begun after stay stays same again has few always unread scans gives =
    let columns : columns_of table.schema ≡ columns_of old.schema = ap (λ (t : Opened). columns_of t.schema) again ∙ ap (λ (t : Opened). columns_of t.schema) same in
    let number : table.generation ≡ old.generation = ap (λ (t : Opened). t.generation) again ∙ ap (λ (t : Opened). t.generation) same in
    let there = subst (λ (o : Option Files). IfSome o (λ f. EntriesWithin (columns_of table.schema) (bytes_of f (data_id table.generation)) scan begun after)) (stays ∙ stay) gives in
    let gives_here = subst (λ (n : ℕ). EntriesWithin (columns_of old.schema) (bytes_of m (data_id n)) scan begun after) number
    (subst (λ (c : Columns). EntriesWithin c (bytes_of m (data_id table.generation)) scan begun after) columns there) in
    begun_in m old.generation (columns_of old.schema) from to new.footer scan before between begun after has few (always_as (Some m) gs old new from between begun stay same always) unread
    (scans_as (Some m) gs old new from to scan stay same scans) gives_here

-- ---- the bounds of texts

one_end : (columns : Columns) (side : Side) (text : Option (List ℕ)) (a b : Option BoundString) → NamesEnd columns side text a → NamesEnd columns side text b → a ≡ b
one_end columns side None a b is is' = is ∙ sym is'
one_end columns side (Some text) None b is is' = absurd is
one_end columns side (Some text) (Some a) None is is' = absurd is'
one_end columns side (Some text) (Some a) (Some b) is is' = ap Some (one_bound columns side text a b is is')

pub named_within : (fs : Option Files) (generation : ℕ) (columns others : Columns) (from to : Option (List ℕ)) (lower upper : Option BoundString) (before after : ℕ) → others ≡ columns
    → NamesEnd others Before from lower → NamesEnd others After to upper → IfSome fs (λ m. RangeWithin m generation columns 258 lower upper before after)
    → IfSome fs (λ m. NamedWithin m generation columns 258 from to before after)
named_within None generation columns others from to lower upper before after same first second within = tt
named_within (Some m) generation columns others from to lower upper before after same first second within = λ lower' upper' first' second'.
    let low = one_end columns Before from lower lower' (subst (λ (c : Columns). NamesEnd c Before from lower) same first) first' in
    let high = one_end columns After to upper upper' (subst (λ (c : Columns). NamesEnd c After to upper) same second) second' in
    let moved = subst (λ (u : Option BoundString). RangeWithin m generation columns 258 lower' u before after) high
    (subst (λ (l : Option BoundString). RangeWithin m generation columns 258 l upper before after) low within) in
    moved (named_bound columns Before from lower' first') (named_some columns from lower' first') (named_bound columns After to upper' second')

-- ---- the schema's file

more_within : (m : Files) (generation : ℕ) (columns : Columns) (from to : Option (List ℕ)) (before between after : ℕ) → between ≤ before + 1 → NamedWithin m generation columns 258 from to between after
    → NamedWithin m generation columns 320 from to before after
more_within m generation columns from to before between after few within = λ lower upper first second table footer most stand has block.
    let one = within lower upper first second table footer most stand has block in omega (arith, one, few)

pub opened_within : (fs gs : Option Files) (generation n : ℕ) (columns : Columns) (from to : Option (List ℕ)) (before between after : ℕ) → gs ≡ fs → n ≡ generation
    → IfSome fs (λ m. IsSchemaFile columns (bytes_of m (schema_id generation))) → between ≤ before + 1 → IfSome gs (λ m. NamedWithin m n columns 258 from to between after)
    → IfSome fs (λ m. PrintsWithin m generation from to before after)
opened_within None gs generation n columns from to before between after stay is schema few within = tt
opened_within (Some m) gs generation n columns from to before between after stay is schema few within = λ others lower upper first second table footer most stand.
    let there = subst (λ (k : ℕ). NamedWithin m k columns 258 from to between after) is (subst (λ (o : Option Files). IfSome o (λ f. NamedWithin f n columns 258 from to between after)) stay within) in
    let one : columns ≡ others = one_schema (bytes_of m (schema_id generation)) columns others schema stand.schema in
    subst (λ (c : Columns). NamedWithin m generation c 320 from to before after) one (more_within m generation columns from to before between after few there) lower upper first second table footer most stand
