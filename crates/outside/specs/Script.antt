-- The scripted failures of a sink and a store in memory.
use Rattle.std.specs.Prelude.{ℕ, List, [], ◌∷◌, Option, None, Some, if◌then◌else◌, ◌==◌}
use Rattle.outside.specs.declared.script.Fail.{Fail}

-- how many bytes the call with this number keeps, where it is to fail: the first entry that names it counts
abbrev pub kept_by : List Fail → ℕ → Option ℕ
kept_by [] call = None
kept_by (fail ∷ fails) call = if fail.call == call then Some fail.keep else kept_by fails call
