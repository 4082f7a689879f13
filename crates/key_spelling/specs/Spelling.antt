-- What it is to spell literals as bytes of strings while they are read. This project's own.
use Rattle.key_types.specs.Kinds.{Kind, tiny, small, int, big, boolean}

-- numbers and booleans
abbrev pub IsPlain : Kind → Type 0
IsPlain tiny = Unit {0}
IsPlain small = Unit {0}
IsPlain int = Unit {0}
IsPlain big = Unit {0}
IsPlain boolean = Unit {0}
IsPlain _ = ⊥
