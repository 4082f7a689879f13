-- The values of a type.
use Rattle.std.proofs.Common.{◌≡◌, ℕ, List, Bool, refl}
use Rattle.std.specs.Prelude.{ℤ}
use Rattle.key_types.specs.Kinds.{Kind, tiny, small, int, big, text, blob, boolean, tuple, reversed, Kinds, Val, number, bytes, truth, values, Vals, Fits}

abbrev pub IsNumeric : Kind → Type 0
IsNumeric tiny = Unit {0}
IsNumeric small = Unit {0}
IsNumeric int = Unit {0}
IsNumeric big = Unit {0}
IsNumeric _ = ⊥

pub as_number : (t : Kind) (v : Val) → IsNumeric t → Fits t v → (n : ℤ) × (v ≡ number n)
as_number tiny (number n) i f = (n, refl)
as_number tiny (bytes b) i f = absurd f
as_number tiny (truth b) i f = absurd f
as_number tiny (values vs) i f = absurd f
as_number small (number n) i f = (n, refl)
as_number small (bytes b) i f = absurd f
as_number small (truth b) i f = absurd f
as_number small (values vs) i f = absurd f
as_number int (number n) i f = (n, refl)
as_number int (bytes b) i f = absurd f
as_number int (truth b) i f = absurd f
as_number int (values vs) i f = absurd f
as_number big (number n) i f = (n, refl)
as_number big (bytes b) i f = absurd f
as_number big (truth b) i f = absurd f
as_number big (values vs) i f = absurd f
as_number text v i f = absurd i
as_number blob v i f = absurd i
as_number boolean v i f = absurd i
as_number (tuple ts) v i f = absurd i
as_number (reversed t) v i f = absurd i

pub as_text : (v : Val) → Fits text v → (b : List ℕ) × (v ≡ bytes b)
as_text (number n) f = absurd f
as_text (bytes b) f = (b, refl)
as_text (truth b) f = absurd f
as_text (values vs) f = absurd f

pub as_blob : (v : Val) → Fits blob v → (b : List ℕ) × (v ≡ bytes b)
as_blob (number n) f = absurd f
as_blob (bytes b) f = (b, refl)
as_blob (truth b) f = absurd f
as_blob (values vs) f = absurd f

pub as_truth : (v : Val) → Fits boolean v → (b : Bool) × (v ≡ truth b)
as_truth (number n) f = absurd f
as_truth (bytes b) f = absurd f
as_truth (truth b) f = (b, refl)
as_truth (values vs) f = absurd f

pub as_values : (ts : Kinds) (v : Val) → Fits (tuple ts) v → (vs : Vals) × (v ≡ values vs)
as_values ts (number n) f = absurd f
as_values ts (bytes b) f = absurd f
as_values ts (truth b) f = absurd f
as_values ts (values vs) f = (vs, refl)
