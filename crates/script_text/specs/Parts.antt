-- What was read of a line, spelled in a buffer: only private contracts cite it.
use Rattle.std.specs.Prelude.{◌≡◌, ◌+◌, ℕ, List, [], ◌++◌, length, ⊤, Option, None, Some, Result, Ok, Err}
use Rattle.std.specs.Borrow.{Bor}
use Rattle.grammar.specs.declared.stop.Stop.{Stop}
use Rattle.grammar.specs.Code.{GivesSome, GivesOnto}
use Rattle.key_types.specs.Kinds.{bytes, Val}
use Rattle.key_text.specs.Marking.{Marked}
use Rattle.key_types.specs.Columns.{Columns}
use Rattle.byte_comparable.specs.Encoding.{key_string}
use Rattle.byte_comparable.specs.Order.{Key, within_string}
use Rattle.script_text.specs.declared.commands.KeyEnds.{KeyEnds}
use Rattle.script_text.specs.declared.commands.Command.{Command}
use Rattle.script_text.specs.declared.commands.Command.TheVariants as command
use Rattle.script_text.specs.declared.script.ScriptError.{ScriptError}
use Rattle.script_text.specs.declared.script.ScriptError.TheVariants.{NoMemory}
use Rattle.script_text.specs.Grammar.{LineText, no_text, put_text, get_text, sync_text}
use Rattle.script_text.specs.Reading.{RestText, KeyedText, key_of}

-- ---- what the code read, and how its values are seen

-- some bytes, as this reading reads them, were put behind what was there
abbrev pub GivesBytes : List ℕ → List ℕ → Result (Bor (List ℕ)) Stop → Result (List ℕ × List ℕ) ℕ → Type 0
GivesBytes before after = GivesOnto (λ read. read) before after (λ read rest. (read, rest.now))

-- something was read of which this holds, up to the rest, with this mark
abbrev pub GivesBehind : {A : Type 0} → (A → Type 0) → Option ℕ → Result (Bor (List ℕ)) Stop → Result (Marked A × List ℕ) ℕ → Type 0
GivesBehind Of mark = GivesSome (λ a rest. ((a, mark), rest.now)) (λ a _. Of a)

-- so, where the code answers something else beside the rest
abbrev pub GivesWith : {A X : Type 0} → (A → X → Type 0) → Option ℕ → Result (X × Bor (List ℕ)) Stop → Result (Marked A × List ℕ) ℕ → Type 0
GivesWith Of mark = GivesSome (λ a x. ((a, mark), x.1.now)) (λ a x. Of a x.0)

-- so of a whole text, where the mark is answered
abbrev pub GivesWhole : {A X : Type 0} → (A → X → Type 0) → Result (X × Option ℕ) Stop → Result (Marked A) ℕ → Type 0
GivesWhole Of = GivesSome (λ a x. (a, x.1)) (λ a x. Of a x.0)

-- ---- what was put into the buffer

-- the bytes of a value were put behind what was there
abbrev pub PutsValue : List ℕ → List ℕ → Val → Type 0
PutsValue before after v = (value : List ℕ) × (v ≡ bytes value) × (after ≡ before ++ value)

-- so were the string within a partition and the value behind it, where the string ends here
abbrev pub PutsRest : Columns → List ℕ → List ℕ → RestText Val → ℕ → Type 0
PutsRest s before after rest end =
    (value : List ℕ) × (rest.1 ≡ bytes value) × (after ≡ before ++ (within_string s.clustering rest.0 ++ value)) × (end ≡ length before + length (within_string s.clustering rest.0))

-- the string within a partition was put behind what was there
abbrev pub PutsAsked : Columns → List ℕ → List ℕ → RestText ⊤ → Type 0
PutsAsked s before after rest = after ≡ before ++ within_string s.clustering rest.0

-- the strings of a key, which end at these places, and what is behind them stand behind what was there
abbrev pub PutsKey : Columns → List ℕ → List ℕ → Key → List ℕ → KeyEnds → Type 0
PutsKey s before after key behind ends =
    (after ≡ before ++ (key_string s.partition key.partition ++ (within_string s.clustering key.clustering ++ behind)))
    × (ends.partition ≡ length before + length (key_string s.partition key.partition))
    × (ends.clustering ≡ (length before + length (key_string s.partition key.partition)) + length (within_string s.clustering key.clustering))

-- a key and a value behind it
abbrev pub PutsSet : Columns → List ℕ → List ℕ → KeyedText Val → KeyEnds → Type 0
PutsSet s before after x ends = (value : List ℕ) × (x.1.1 ≡ bytes value) × PutsKey s before after (key_of x) value ends

-- a key alone
abbrev pub PutsGet : Columns → List ℕ → List ℕ → KeyedText ⊤ → KeyEnds → Type 0
PutsGet s before after x ends = PutsKey s before after (key_of x) [] ends

-- what a line says was read as this command
abbrev pub PutsSaid : Columns → List ℕ → List ℕ → LineText → Command → Type 0
PutsSaid s before after (put_text p) (command.Put ends) = (value : List ℕ) × (p.value ≡ bytes value) × PutsKey s before after p.key value ends
PutsSaid s before after (get_text key) (command.Get ends) = PutsKey s before after key [] ends
PutsSaid s before after sync_text command.Sync = after ≡ before
PutsSaid s before after _ _ = ⊥

-- the line says nothing, or what was read as this command; or it is refused so, or memory ran out
abbrev pub SeesLine : Columns → List ℕ → List ℕ → Result (Option Command) ScriptError → Result LineText ScriptError → Type 0
SeesLine s before after (Ok None) told = (told ≡ Ok no_text) × (after ≡ before)
SeesLine s before after (Ok (Some command)) told = (said : LineText) × (told ≡ Ok said) × PutsSaid s before after said command
SeesLine s before after (Err NoMemory) told = Unit {0}
SeesLine s before after (Err e) told = told ≡ Err e
