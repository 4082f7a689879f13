-- What a table tells of a key.
use Rattle.std.proofs.Common.{◌≡◌, ◌∙◌, ℕ, List, Option, None, Some, IfSome, Result, Ok, Err, ap, inl, inr, refl, subst, sym}
use Rattle.outside.specs.Files.{Files, bytes_of}
use Rattle.key_types.specs.Columns.{Columns, columns_of}
use Rattle.index_files.specs.declared.footer.FooterNumbers.{FooterNumbers}
use Rattle.table_files.specs.Names.{partitions_id, schema_id}
use Rattle.table_files.specs.SchemaFile.{IsSchemaFile}
use Rattle.table_reader.specs.declared.fault.TableFault.{TableFault}
use Rattle.table_reader.specs.declared.fault.TableFault.TheVariants.{StoreFault, Damaged, Unfinished, NoMemory}
use Rattle.table_reader.specs.Gets.{Gets, bytes_in}
use Rattle.table_reader.specs.Opened.{IsLoaded, LoadsFooter, Opened}
use Rattle.table_reader.specs.Reads.{EndsCall}
use Rattle.get_tool.specs.declared.asked.AskedKey.{AskedKey}
use Rattle.get_tool.specs.declared.error.GetError.{GetError}
use Rattle.get_tool.specs.declared.error.GetError.TheVariants as get_error
use Rattle.get_tool.specs.declared.asked.KeyStop.{KeyStop}
use Rattle.get_tool.specs.declared.asked.KeyStop.TheVariants as key_stop
use Rattle.get_tool.specs.Asked.{ReadsKey}
use Rattle.get_tool.specs.Shown.{Shows, ShowsFound, ShowsIn, ShowsLine, error_of, found_line, key_error}

-- no footer
no_footer_in : (m : Files) (generation : ℕ) (columns : Columns) (key : AskedKey) (footer : Option FooterNumbers) (e : TableFault)
    → LoadsFooter {T = Unit {0}} columns (bytes_of m (partitions_id generation)) footer (Err e) → ShowsFound m generation columns key (Err (error_of e))
no_footer_in m generation columns key footer StoreFault told = tt
no_footer_in m generation columns key footer NoMemory told = tt
no_footer_in m generation columns key footer Unfinished told = told
no_footer_in m generation columns key footer (Damaged damage) (is, none) = inl (none, ap Err is)

pub no_footer : (fs : Option Files) (generation : ℕ) (columns : Columns) (key : AskedKey) (footer : Option FooterNumbers) (e : TableFault) (f : GetError) → f ≡ error_of e
    → IfSome fs (λ m. LoadsFooter {T = Unit {0}} columns (bytes_of m (partitions_id generation)) footer (Err e)) → IfSome fs (λ m. ShowsFound m generation columns key (Err f))
no_footer None generation columns key footer e f is told = tt
no_footer (Some m) generation columns key footer e f is told = subst (λ (x : GetError). ShowsFound m generation columns key (Err x)) (sym is) (no_footer_in m generation columns key footer e told)

-- what a table with this footer finds is what the table finds that it was
abbrev GetsOf : Option Files → Opened → AskedKey → Result (Option (List ℕ)) TableFault → Type 0
GetsOf files table key result =
    IfSome files (λ m. IfSome table.footer (λ footer. EndsCall (Gets (bytes_in (columns_of table.schema) m table.generation) footer key.partition key.clustering) result))

as_before : (fs gs : Option Files) (old new : Opened) (key : AskedKey) (r : Result (Option (List ℕ)) TableFault) → gs ≡ fs → new ≡ record old { footer = new.footer; pages = new.pages }
    → GetsOf gs new key r → GetsOf fs (record old { footer = new.footer; pages = new.pages }) key r
as_before fs gs old new key r same is got = subst (λ (f : Option Files). GetsOf f (record old { footer = new.footer; pages = new.pages }) key r) same (subst (λ (t : Opened). GetsOf gs t key r) is got)

value_in : (m : Files) (generation : ℕ) (columns : Columns) (key : AskedKey) (loaded : Option FooterNumbers) (value : Option (List ℕ)) → IsLoaded columns (bytes_of m (partitions_id generation)) loaded
    → IfSome loaded (λ footer. EndsCall (Gets (bytes_in columns m generation) footer key.partition key.clustering) (Ok value)) → ShowsFound m generation columns key (Ok value)
value_in m generation columns key None value has got = absurd has
value_in m generation columns key (Some footer) value has got = inr (footer, has, got)

-- a value, or none
pub value_found : (fs gs : Option Files) (old new : Opened) (key : AskedKey) (value : Option (List ℕ)) → gs ≡ fs → new ≡ record old { footer = new.footer; pages = new.pages }
    → IfSome fs (λ m. IsLoaded (columns_of old.schema) (bytes_of m (partitions_id old.generation)) new.footer) → GetsOf gs new key (Ok value)
    → IfSome fs (λ m. ShowsFound m old.generation (columns_of old.schema) key (Ok value))
value_found None gs old new key value same is has got = tt
value_found (Some m) gs old new key value same is has got = value_in m old.generation (columns_of old.schema) key new.footer value has (as_before (Some m) gs old new key (Ok value) same is got)

-- an error
error_in : (m : Files) (generation : ℕ) (columns : Columns) (key : AskedKey) (loaded : Option FooterNumbers) (e : TableFault) → IsLoaded columns (bytes_of m (partitions_id generation)) loaded
    → IfSome loaded (λ footer. EndsCall {A = Option (List ℕ)} (Gets (bytes_in columns m generation) footer key.partition key.clustering) (Err e)) → ShowsFound m generation columns key (Err (error_of e))
error_in m generation columns key None e has got = absurd has
error_in m generation columns key (Some footer) StoreFault has got = tt
error_in m generation columns key (Some footer) NoMemory has got = tt
error_in m generation columns key (Some footer) Unfinished has got = got
error_in m generation columns key (Some footer) (Damaged damage) has got = inr (footer, has, got)

pub not_found : (fs gs : Option Files) (old new : Opened) (key : AskedKey) (e : TableFault) (f : GetError) → gs ≡ fs → new ≡ record old { footer = new.footer; pages = new.pages } → f ≡ error_of e
    → IfSome fs (λ m. IsLoaded (columns_of old.schema) (bytes_of m (partitions_id old.generation)) new.footer) → GetsOf gs new key (Err e)
    → IfSome fs (λ m. ShowsFound m old.generation (columns_of old.schema) key (Err f))
not_found None gs old new key e f same is told has got = tt
not_found (Some m) gs old new key e f same is told has got =
    subst (λ (x : GetError). ShowsFound m old.generation (columns_of old.schema) key (Err x)) (sym told)
    (error_in m old.generation (columns_of old.schema) key new.footer e has (as_before (Some m) gs old new key (Err e) same is got))

-- ---- lines

pub line_shown : (fs : Option Files) (generation : ℕ) (columns others : Columns) (key : AskedKey) (found : Option (List ℕ)) (line : List ℕ) → others ≡ columns
    → line ≡ found_line others key.clustering found → IfSome fs (λ m. ShowsFound m generation columns key (Ok found)) → IfSome fs (λ m. ShowsLine m generation columns key (Ok line))
line_shown None generation columns others key found line same e told = tt
line_shown (Some m) generation columns others key found line same e told = (found, told, e ∙ ap (λ (c : Columns). found_line c key.clustering found) same)

-- a text that names no key
none_in : (m : Files) (generation : ℕ) (columns : Columns) (text : List ℕ) (e : KeyStop) → ReadsKey columns text (Err e) → ShowsIn m generation columns text (Err (key_error e))
none_in m generation columns text key_stop.Refused told = told
none_in m generation columns text key_stop.NoMemory told = tt

pub none_named : (fs : Option Files) (generation : ℕ) (columns others : Columns) (text : List ℕ) (e : KeyStop) (f : GetError) → others ≡ columns → f ≡ key_error e → ReadsKey others text (Err e)
    → IfSome fs (λ m. ShowsIn m generation columns text (Err f))
none_named None generation columns others text e f same is told = tt
none_named (Some m) generation columns others text e f same is told =
    subst (λ (x : GetError). ShowsIn m generation columns text (Err x)) (sym is) (none_in m generation columns text e (subst (λ (c : Columns). ReadsKey c text (Err e)) same told))

-- under the schema of the files
under : (m : Files) (generation : ℕ) (columns : Columns) (text : List ℕ) (r : Result (List ℕ) GetError) → IsSchemaFile columns (bytes_of m (schema_id generation))
    → ShowsIn m generation columns text r → Shows m generation text r
under m generation columns text (Ok line) is shows = (columns, is, shows)
under m generation columns text (Err (get_error.Damaged damage)) is shows = (columns, is, shows)
under m generation columns text (Err get_error.Usage) is shows = (columns, is, shows)
under m generation columns text (Err get_error.Unfinished) is shows = absurd shows
under m generation columns text (Err get_error.StoreFault) is shows = tt
under m generation columns text (Err get_error.NoMemory) is shows = tt

pub opened_shows : (fs gs : Option Files) (generation n : ℕ) (columns : Columns) (text : List ℕ) (r : Result (List ℕ) GetError) → gs ≡ fs → n ≡ generation
    → IfSome fs (λ m. IsSchemaFile columns (bytes_of m (schema_id generation))) → IfSome gs (λ m. ShowsIn m n columns text r) → IfSome fs (λ m. Shows m generation text r)
opened_shows None gs generation n columns text r same is schema shows = tt
opened_shows (Some m) gs generation n columns text r same is schema shows =
    under m generation columns text r schema
    (subst (λ (k : ℕ). ShowsIn m k columns text r) is (subst (λ (o : Option Files). IfSome o (λ x. ShowsIn x n columns text r)) same shows))
