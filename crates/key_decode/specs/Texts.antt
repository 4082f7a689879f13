-- How far the reading of a text is: only private contracts cite it.
use Rattle.std.specs.Prelude.{ℕ, List, [], ◌++◌, Result, Ok, Err}
use Rattle.key_decode.specs.declared.texts.Place.{Place}
use Rattle.key_decode.specs.declared.texts.Place.TheVariants.{Plain, Behind, After}
use Rattle.key_decode.specs.declared.texts.Move.{Move}
use Rattle.key_decode.specs.declared.texts.Move.TheVariants.{End, Begin, Byte}
use Rattle.key_decode.specs.Reading.{text_at, after_zero, after_run}
use Rattle.grammar.specs.Reading.{onto}

-- what is read from a place on
abbrev pub at : Place → List ℕ → Result (List ℕ × List ℕ) ℕ
at Plain bs = text_at bs
at Behind bs = after_zero bs
at After bs = after_run bs

-- what is read where a move was made and these bytes are left
abbrev pub gone : Move → List ℕ → Result (List ℕ × List ℕ) ℕ
gone End rest = Ok ([], rest)
gone Begin rest = after_zero rest
gone (Byte b place) rest = onto b (at place rest)
