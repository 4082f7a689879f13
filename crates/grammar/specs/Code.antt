-- What the code's readings say of those of the definitions.
use Rattle.std.specs.Prelude.{◌≡◌, ℕ, List, ◌++◌, Result, Ok, Err, min}
use Rattle.grammar.specs.declared.stop.Stop.{Stop}
use Rattle.grammar.specs.declared.stop.Stop.TheVariants.{Memory, At}

-- the definition's reading stops there too, or memory ran out
abbrev pub StopsAs : {Y : Type 0} → Stop → Result Y ℕ → Type 0
StopsAs Memory read = Unit {0}
StopsAs (At left) read = read ≡ Err left

-- the code read what the definition reads, seen as its values
abbrev pub Gives : {X Y : Type 0} → (X → Y) → Result X Stop → Result Y ℕ → Type 0
Gives view (Ok x) read = read ≡ Ok (view x)
Gives view (Err e) read = StopsAs e read

-- the code read something of which this holds, as the definition reads it, seen so
abbrev pub GivesSome : {A X Y : Type 0} → (A → X → Y) → (A → X → Type 0) → Result X Stop → Result Y ℕ → Type 0
GivesSome {A} seen Of (Ok x) read = (a : A) × (read ≡ Ok (seen a x)) × Of a x
GivesSome seen Of (Err e) read = StopsAs e read

-- the code put what it read, spelled so, behind what stood there before
abbrev pub GivesOnto : {A X Y : Type 0} → (A → List ℕ) → List ℕ → List ℕ → (A → X → Y) → Result X Stop → Result Y ℕ → Type 0
GivesOnto spelled before after seen = GivesSome seen (λ a x. after ≡ before ++ spelled a)

-- of two stops the one further on
abbrev pub Furthest : Stop → Stop → Stop → Type 0
Furthest (At a) (At b) c = c ≡ At (min a b)
Furthest _ _ c = c ≡ Memory
