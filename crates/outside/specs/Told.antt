-- What an object of the outside tells of its contents.
use Rattle.std.specs.Prelude.{Option, None, Some}

-- Contents are told after a call exactly where they were told before it, and there the relation holds between the two.
abbrev pub WhereTold : {A : Type 0} → Option A → Option A → (A → A → Type 0) → Type 0
WhereTold None None P = Unit {0}
WhereTold None (Some after) P = ⊥
WhereTold (Some before) None P = ⊥
WhereTold (Some before) (Some after) P = P before after
