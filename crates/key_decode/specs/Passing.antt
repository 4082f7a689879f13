-- How a string is walked without its values: only private contracts cite it.
use Rattle.std.specs.Prelude.{◌≡◌, ℕ, List, Option, None, Some, Result, Ok, IsTrue}
use Rattle.std.specs.Str.{is_utf8}
use Rattle.key_types.specs.Kinds.{Kind, text, tuple, reversed, Kinds, more, Val, bytes, values, Vals, and}

-- each text in the value is UTF-8
abbrev mutual
  pub IsUtf8Of : Kind → Val → Type 0
  IsUtf8Of text (bytes b) = IsTrue (is_utf8 b)
  IsUtf8Of (tuple ts) (values vs) = AreUtf8Of ts vs
  IsUtf8Of (reversed t) v = IsUtf8Of t v
  IsUtf8Of _ _ = Unit {0}

  pub AreUtf8Of : Kinds → Vals → Type 0
  AreUtf8Of (more t ts) (and v vs) = IsUtf8Of t v × AreUtf8Of ts vs
  AreUtf8Of _ _ = Unit {0}

-- where something is left, a good value is read before it; and else none is
abbrev pub Skips : {A X : Type 0} → (A → Type 0) → (X → List ℕ) → Option X → Result (A × List ℕ) ℕ → Type 0
Skips {A} Good view (Some x) read = (a : A) × Good a × (read ≡ Ok (a, view x))
Skips {A} Good view None read = (a : A) (rest : List ℕ) → Good a → read ≡ Ok (a, rest) → ⊥
