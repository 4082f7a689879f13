-- How often what is shown of a key reads the store.
use Rattle.std.proofs.Common.{◌≡◌, ◌∙◌, ℕ, ◌+◌, ◌≤◌, List, length, Option, None, Some, IfSome, Result, Ok, arith, ap, subst, sym}
use Rattle.outside.specs.Files.{Files, bytes_of}
use Rattle.key_types.specs.Columns.{Columns, columns_of}
use Rattle.key_types.specs.Kinds.{Vals}
use Rattle.key_text.specs.Marking.{Marked}
use Rattle.index_files.specs.declared.footer.FooterNumbers.{FooterNumbers}
use Rattle.table_files.specs.Names.{partitions_id, schema_id}
use Rattle.table_files.specs.SchemaFile.{IsSchemaFile}
use Rattle.table_files.specs.Standing.{StandFor}
use Rattle.table_files.proofs.SchemaLemmas.{one_schema}
use Rattle.table_reader.specs.Gets.{bytes_in}
use Rattle.table_reader.specs.Opened.{IsLoaded, Opened}
use Rattle.table_reader.specs.Reads.{IsAlwaysBounded}
use Rattle.table_reader.proofs.Sounds.{gets_bounded}
use Rattle.get_tool.specs.declared.asked.AskedKey.{AskedKey}
use Rattle.get_tool.specs.Asked.{AreStringsOf, IsWithinOf, KeyText, NamesKey}
use Rattle.get_tool.specs.ShowReads.{FindsNamedWithin, FindsWithin, ShowsWithin}

-- ---- few reads

pub few_found : (fs : Option Files) (generation : ℕ) (columns : Columns) (key : AskedKey) (before after : ℕ) → after ≤ before + 2
    → IfSome fs (λ m. FindsWithin m generation columns 66 key before after)
few_found None generation columns key before after few = tt
few_found (Some m) generation columns key before after few = λ table most stand has. omega (arith, few)

pub few_named : (fs : Option Files) (generation : ℕ) (columns : Columns) (text : List ℕ) (before after : ℕ) → after ≤ before
    → IfSome fs (λ m. FindsNamedWithin m generation columns 66 text before after)
few_named None generation columns text before after few = tt
few_named (Some m) generation columns text before after few = λ key names table most stand has. omega (arith, few)

pub few_shown : (fs : Option Files) (generation : ℕ) (text : List ℕ) (before after : ℕ) → after ≤ before + 1 → IfSome fs (λ m. ShowsWithin m generation text before after)
few_shown None generation text before after few = tt
few_shown (Some m) generation text before after few = λ columns key names table most stand has. omega (arith, few)

-- ---- a get

-- what a get of a table with this footer reads
abbrev GetsWithin : Option Files → Opened → AskedKey → ℕ → ℕ → Type 0
GetsWithin files table key before after =
    IfSome files (λ m. IfSome table.footer (λ footer. IsAlwaysBounded (bytes_in (columns_of table.schema) m table.generation) footer key.partition key.clustering before after))

loaded_within : (m : Files) (generation : ℕ) (columns : Columns) (key : AskedKey) (loaded : Option FooterNumbers) (before between after : ℕ)
    → IsLoaded columns (bytes_of m (partitions_id generation)) loaded → between ≤ before + 2
    → IfSome loaded (λ footer. IsAlwaysBounded (bytes_in columns m generation) footer key.partition key.clustering between after) → FindsWithin m generation columns 66 key before after
loaded_within m generation columns key None before between after has few within = absurd has
loaded_within m generation columns key (Some footer) before between after has few within = λ table most stand separator.
    let one = gets_bounded m generation columns table footer key.partition key.clustering between after stand has within most (separator footer has) in omega (arith, one, few)

pub found_within : (fs gs : Option Files) (old new : Opened) (key : AskedKey) (before between after : ℕ) → gs ≡ fs → new ≡ record old { footer = new.footer; pages = new.pages }
    → IfSome fs (λ m. IsLoaded (columns_of old.schema) (bytes_of m (partitions_id old.generation)) new.footer) → between ≤ before + 2 → GetsWithin gs new key between after
    → IfSome fs (λ m. FindsWithin m old.generation (columns_of old.schema) 66 key before after)
found_within None gs old new key before between after same is has few within = tt
found_within (Some m) gs old new key before between after same is has few within =
    loaded_within m old.generation (columns_of old.schema) key new.footer before between after has few
    (subst (λ (f : Option Files). GetsWithin f (record old { footer = new.footer; pages = new.pages }) key between after) same (subst (λ (t : Opened). GetsWithin gs t key between after) is within))

-- ---- the key of a text

within_same : (columns : Columns) (components : Option Vals) (a b : Option (List ℕ)) → IsWithinOf columns components a → IsWithinOf columns components b → a ≡ b
within_same columns None a b is is' = is ∙ sym is'
within_same columns (Some vs) a b is is' = is ∙ sym is'

-- a text names one key
pub one_key : (columns : Columns) (text : List ℕ) (a b : AskedKey) → NamesKey columns text a → NamesKey columns text b → a ≡ b
one_key columns text a b is also =
    let both : ◌≡◌ {A = Result (Marked KeyText) ℕ} (Ok (is.components, None)) (Ok (also.components, None)) = sym is.read ∙ also.read in
    let pairs : ◌≡◌ {A = Marked KeyText} (is.components, None) (also.components, None) = cc in
    let same : is.components ≡ also.components = ap (λ (p : Marked KeyText). p.0) pairs in
    let strings = subst (λ (k : KeyText). AreStringsOf columns k a) same is.strings in
    let partition : a.partition ≡ b.partition = strings.0 ∙ sym also.strings.0 in
    let clustering : a.clustering ≡ b.clustering = within_same columns also.components.1 a.clustering b.clustering strings.1 also.strings.1 in
    λ i. record { partition = partition i; clustering = clustering i }

pub named_within : (fs : Option Files) (generation : ℕ) (columns others : Columns) (text : List ℕ) (key : AskedKey) (before after : ℕ) → others ≡ columns → NamesKey others text key
    → IfSome fs (λ m. FindsWithin m generation columns 66 key before after) → IfSome fs (λ m. FindsNamedWithin m generation columns 66 text before after)
named_within None generation columns others text key before after same names within = tt
named_within (Some m) generation columns others text key before after same names within = λ asked named.
    subst (λ (k : AskedKey). FindsWithin m generation columns 66 k before after) (one_key columns text key asked (subst (λ (c : Columns). NamesKey c text key) same names) named) within

-- ---- the schema's file

more_within : (m : Files) (generation : ℕ) (columns : Columns) (text : List ℕ) (before between after : ℕ) → between ≤ before + 1 → FindsNamedWithin m generation columns 66 text between after
    → FindsNamedWithin m generation columns 80 text before after
more_within m generation columns text before between after few within = λ key names table most stand has. let one = within key names table most stand has in omega (arith, one, few)

pub opened_within : (fs gs : Option Files) (generation n : ℕ) (columns : Columns) (text : List ℕ) (before between after : ℕ) → gs ≡ fs → n ≡ generation
    → IfSome fs (λ m. IsSchemaFile columns (bytes_of m (schema_id generation))) → between ≤ before + 1 → IfSome gs (λ m. FindsNamedWithin m n columns 66 text between after)
    → IfSome fs (λ m. ShowsWithin m generation text before after)
opened_within None gs generation n columns text before between after same is schema few within = tt
opened_within (Some m) gs generation n columns text before between after same is schema few within = λ others key names table most stand has.
    let there = subst (λ (k : ℕ). FindsNamedWithin m k columns 66 text between after) is (subst (λ (o : Option Files). IfSome o (λ x. FindsNamedWithin x n columns 66 text between after)) same within) in
    let one : columns ≡ others = one_schema (bytes_of m (schema_id generation)) columns others schema stand.schema in
    subst (λ (c : Columns). FindsNamedWithin m generation c 80 text before after) one (more_within m generation columns text before between after few there) key names table most stand has
