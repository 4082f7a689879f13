-- Which words are taken, and what they say.
use Rattle.std.specs.Prelude.{◌-◌, ◌^◌, Bool, true, false, List, [], ◌∷◌, codes}
use Rattle.std.specs.Prelude.{Option, Some, None, Result, Ok, Err, if◌then◌else◌}
use Rattle.std.specs.List.{list_any}
use Rattle.std.specs.Str.{bytes_eq}
use Rattle.clap.specs.Walk.{Row, Text, first_of}
use Rattle.clap.specs.Simple.{subcommand_of}
use Rattle.clap.specs.Kinds.{Kinds}
use Rattle.clap.specs.Faults.{fault_of}
use Rattle.command_line.specs.Grammar.{tool}
use Rattle.command_line.specs.Numbers.{cells_in, needed_number, readers_in, rows_and_gets}
use Rattle.command_line.specs.Said.{Said, Way, list, load, get, scan, check, key, gen, encode, decode}
use Rattle.command_line.specs.declared.command.WordsError.{WordsError}
use Rattle.command_line.specs.declared.command.WordsError.TheVariants.{Usage}

-- ---- which words are taken

-- words that ask for help or a version, and the end of options: refused wherever they stand
abbrev pub refused_words : List Text
refused_words = codes "help" ∷ codes "--help" ∷ codes "-h" ∷ codes "--version" ∷ codes "-V" ∷ codes "--" ∷ []

-- the word is one of these
unfoldable pub is_refused : Text → Bool
is_refused word = list_any (λ refused. bytes_eq word refused) refused_words

-- no fault was found
abbrev pub is_faultless : Kinds → Bool
is_faultless [] = true
is_faultless (kind ∷ kinds) = false

-- the command that the words name and the values that stand for it, where the declared command line, as `clap`
-- says what it takes, finds no fault with them
unfoldable pub found_in : List Text → Result (Option (Text × List Row)) WordsError
found_in words = if is_faultless (fault_of tool words) then Ok (subcommand_of tool words) else Err Usage

-- ---- what they say

-- the text of an argument that has to be there
abbrev pub needed_text : Option Text → Result Text WordsError
needed_text None = Err Usage
needed_text (Some text) = Ok text

-- what is said with a value, where the value isn't refused
abbrev pub reads : {X : Type 0} → Result X WordsError → (X → Result Said WordsError) → Result Said WordsError
reads (Ok x) next = next x
reads (Err e) next = Err Usage

-- `list` with its values
abbrev pub list_in : List Row → Result Said WordsError
list_in rows = reads (needed_text (first_of (codes "schema") rows)) (λ schema. reads (cells_in (first_of (codes "cells") rows)) (λ cells. Ok (list schema cells)))

-- the text of an argument, or the empty one
abbrev pub text_or_none : Option Text → Text
text_or_none None = []
text_or_none (Some text) = text

-- `load` with its values
abbrev pub load_in : List Row → Result Said WordsError
load_in rows = reads (needed_text (first_of (codes "schema") rows)) (λ schema.
    reads (cells_in (first_of (codes "cells") rows)) (λ cells.
    reads (readers_in (first_of (codes "readers") rows)) (λ readers.
    Ok (load schema (text_or_none (first_of (codes "bounds") rows)) cells readers))))

-- `get` with its value
abbrev pub get_in : List Row → Result Said WordsError
get_in rows = reads (needed_text (first_of (codes "key") rows)) (λ key. Ok (get key))

-- `scan` with its values
abbrev pub scan_in : List Row → Result Said WordsError
scan_in rows = Ok (scan (first_of (codes "from") rows) (first_of (codes "to") rows))

-- a flag is there: `clap` says so by the text true
abbrev pub is_set : Option Text → Bool
is_set None = false
is_set (Some text) = bytes_eq text (codes "true")

-- what `key` is to do, where exactly one of its two options is there
abbrev pub one_way : Option Text → Option Text → Result Way WordsError
one_way (Some text) None = Ok (encode text)
one_way None (Some text) = Ok (decode text)
one_way _ _ = Err Usage

-- `key` with its values
abbrev pub key_in : List Row → Result Said WordsError
key_in rows = reads (needed_text (first_of (codes "schema") rows)) (λ schema.
    reads (one_way (first_of (codes "encode") rows) (first_of (codes "decode") rows)) (λ way.
    Ok (key schema (is_set (first_of (codes "clustering") rows)) way)))

-- `gen` with its values; the seed is any number of 64 bits
abbrev pub gen_in : List Row → Result Said WordsError
gen_in rows = reads (needed_number 0 (2 ^ 64 - 1) (first_of (codes "seed") rows)) (λ seed.
    reads (rows_and_gets (first_of (codes "count") rows) (first_of (codes "gets") rows)) (λ numbers.
    reads (cells_in (first_of (codes "cells") rows)) (λ cells.
    reads (readers_in (first_of (codes "readers") rows)) (λ readers.
    Ok (gen seed numbers.0 numbers.1 (is_set (first_of (codes "print") rows)) cells readers)))))

-- the command of this name, with the values that were found for it
abbrev pub said_by : Text → List Row → Result Said WordsError
said_by name rows = if bytes_eq name (codes "list") then list_in rows
    else (if bytes_eq name (codes "load") then load_in rows
    else (if bytes_eq name (codes "get") then get_in rows
    else (if bytes_eq name (codes "scan") then scan_in rows
    else (if bytes_eq name (codes "check") then Ok check
    else (if bytes_eq name (codes "key") then key_in rows
    else (if bytes_eq name (codes "gen") then gen_in rows else Err Usage))))))

-- what the words that were found say
abbrev pub said_in : Result (Option (Text × List Row)) WordsError → Result Said WordsError
said_in (Ok (Some found)) = said_by found.0 found.1
said_in _ = Err Usage

-- what the words say, or Usage
abbrev pub command_of : List Text → Result Said WordsError
command_of words = if list_any is_refused words then Err Usage else said_in (found_in words)
