-- Why a step of a check ends before its end.
use Rattle.std.specs.Prelude.{ℕ}
use Rattle.outside.specs.declared.store.Part.{Part}
use Rattle.bti_nodes.specs.declared.damage.Cause.{Cause}
use Rattle.data_file.specs.declared.reading.DataError.TheVariants.{Damaged}
use Rattle.data_file.specs.Answers.{IsStop, damage_at}
use Rattle.data_walk.specs.declared.refusal.Refusal.{Refusal}
use Rattle.data_walk.specs.declared.refusal.Refusal.TheVariants.{Clashes, Unread}
use Rattle.data_walk.specs.declared.clash.Clash.{Clash}

-- a clash at a place of a file
abbrev pub clash_at : Part → ℕ → Clash → Refusal
clash_at part position clash = Clashes (record { part = part; position = position; clash = clash })

-- damage at a place of Data.db
abbrev pub damaged_at : ℕ → Cause → Refusal
damaged_at position cause = Unread (Damaged (damage_at position cause))

-- neither a clash nor damage: the store failed, or memory ran out
abbrev pub IsFault : Refusal → Type 0
IsFault (Clashes at) = ⊥
IsFault (Unread e) = IsStop e
