-- The shapes of command that the tool declares, over those of `clap`.
use Rattle.std.specs.Prelude.{true, List, [], ◌∷◌, ◌++◌, Some}
use Rattle.clap.specs.Walk.{Rule, Text}
use Rattle.clap.specs.Simple.{App, Shape, new_rule, with_subcommand}
use Rattle.clap.specs.declared.builder.action.ArgAction.TheVariants.{Set, SetTrue}

-- `--name VALUE` or `--name=VALUE`, at most once
abbrev pub option : Text → Rule
option name = record (new_rule name) { long = Some name; action = Some Set }

-- the same, exactly once
abbrev pub required_option : Text → Rule
required_option name = record (option name) { required = true }

-- `VALUE` in a word of its own, exactly once
abbrev pub word : Text → Rule
word name = record (new_rule name) { action = Some Set; required = true }

-- `--name`, at most once
abbrev pub flag : Text → Rule
flag name = record (new_rule name) { long = Some name; action = Some SetTrue }

-- the command with one more argument, the last
abbrev pub with : Shape → Rule → Shape
with shape rule = record shape { rules = shape.rules ++ rule ∷ [] }

-- the command with required options of these names, after its other arguments
abbrev pub with_required : Shape → List Text → Shape
with_required shape [] = shape
with_required shape (name ∷ names) = with_required (with shape (required_option name)) names

-- the command with options of these names, after its other arguments
abbrev pub with_options : Shape → List Text → Shape
with_options shape [] = shape
with_options shape (name ∷ names) = with_options (with shape (option name)) names

-- the command line with these commands, after its others
abbrev pub with_commands : App → List Shape → App
with_commands app [] = app
with_commands app (shape ∷ shapes) = with_commands (with_subcommand app shape) shapes
