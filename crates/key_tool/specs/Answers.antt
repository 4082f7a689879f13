-- What is answered where one thing is looked for. This project's own.
use Rattle.std.specs.Prelude.{Result, Ok, Err}
use Rattle.key_tool.specs.declared.request.KeyFault.{KeyFault}
use Rattle.key_tool.specs.declared.request.KeyFault.TheVariants.{Refused, NoMemory}

-- what is answered, as `view` sees it, is one of those that are looked for; Refused is answered only where there is none
abbrev pub Finds : {X A : Type 0} → (X → A) → (A → Type 0) → Result X KeyFault → Type 0
Finds view Is (Ok x) = Is (view x)
Finds {X} {A} view Is (Err Refused) = (a : A) → Is a → ⊥
Finds view Is (Err NoMemory) = Unit {0}
