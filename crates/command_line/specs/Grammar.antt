-- The command line that the tool declares to `clap`.
use Rattle.std.specs.Prelude.{true, [], ◌∷◌, codes}
use Rattle.clap.specs.Simple.{App, Shape, new_shape}
use Rattle.command_line.specs.Forms.{flag, with, with_commands, with_options, with_required, word}

-- `list --schema S`, with `--cells n` there or not
abbrev pub list : Shape
list = with_options (with_required (new_shape (codes "list")) (codes "schema" ∷ [])) (codes "cells" ∷ [])

-- `load --schema S`, with `--bounds B`, `--cells n` and `--readers n` each there or not
abbrev pub load : Shape
load = with_options (with_required (new_shape (codes "load")) (codes "schema" ∷ [])) (codes "bounds" ∷ codes "cells" ∷ codes "readers" ∷ [])

-- `get K`
abbrev pub get : Shape
get = with (new_shape (codes "get")) (word (codes "key"))

-- `scan`, with `--from B` and `--to B` each there or not
abbrev pub scan : Shape
scan = with_options (new_shape (codes "scan")) (codes "from" ∷ codes "to" ∷ [])

-- `check`
abbrev pub check : Shape
check = new_shape (codes "check")

-- `key --schema S`, with `--encode L`, `--decode H` and `--clustering` each there or not
abbrev pub key : Shape
key = with (with_options (with_required (new_shape (codes "key")) (codes "schema" ∷ [])) (codes "encode" ∷ codes "decode" ∷ [])) (flag (codes "clustering"))

-- `gen --seed s --count n`, with `--gets g`, `--cells n`, `--readers n` and `--print` each there or not
abbrev pub gen : Shape
gen = with (with_options (with_required (new_shape (codes "gen")) (codes "seed" ∷ codes "count" ∷ []))
    (codes "gets" ∷ codes "cells" ∷ codes "readers" ∷ [])) (flag (codes "print"))

-- the command line before its commands: one of them has to be named, and there is no help and no version
abbrev pub bare : App
bare = record {
  top = record (new_shape (codes "sigvhal")) {
    no_binary_name = true;
    disable_help_flag = true;
    disable_help_subcommand = true;
    subcommand_required = true;
  };
  subs = [];
}

-- the command line: its commands
abbrev pub tool : App
tool = with_commands bare (list ∷ load ∷ get ∷ scan ∷ check ∷ key ∷ gen ∷ [])
