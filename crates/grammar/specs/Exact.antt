-- When a reading is that of a grammar, and stops exactly where no text of the grammar goes on.
use Rattle.std.specs.Prelude.{◌≡◌, ℕ, List, [], ◌∷◌, ◌++◌, length, Result, Ok, Err}
use Rattle.key_types.specs.Kinds.{AreBytes}

-- what is read from the front of bytes with the bytes behind it, or how many bytes are left where nothing goes on
abbrev pub Read : Type 0 → Type 0
Read A = List ℕ → Result (A × List ℕ) ℕ

-- what may stand behind a text: nothing, or a byte of which this holds
abbrev pub NextIs : (ℕ → Type 0) → List ℕ → Type 0
NextIs follow [] = Unit {0}
NextIs follow (b ∷ bs) = follow b

-- some bytes behind these make a text of the grammar
abbrev pub Viable : {A : Type 0} → (A → List ℕ → Type 0) → List ℕ → Type 0
Viable {A} Is front = (more : List ℕ) × (a : A) × Is a (front ++ more) × AreBytes more

-- the reading stopped here: a text goes on up to here, and none goes on with the byte that stands here, whatever follows it
pub record StopsAt {A : Type 0} (read : Read A) (Is : A → List ℕ → Type 0) (text : List ℕ) (left : ℕ) : Type 0 where
  pub front : List ℕ
  pub rest : List ℕ
  pub parts : text ≡ front ++ rest
  pub count : left ≡ length rest
  pub goes_on : Viable Is front
  pub no_further : (b : ℕ) (bs : List ℕ) → rest ≡ b ∷ bs → (cs : List ℕ) → read (front ++ b ∷ cs) ≡ Err (length (b ∷ cs))

-- the reading reads the grammar, and stops exactly where none of its texts goes on; follow a holds of the bytes that may stand behind a text that was read as a
pub record Exact {A : Type 0} (read : Read A) (Is : A → List ℕ → Type 0) (follow : A → ℕ → Type 0) : Type 0 where
  pub found : (text : List ℕ) (a : A) (rest : List ℕ) → read text ≡ Ok (a, rest) → (front : List ℕ) × (text ≡ front ++ rest) × Is a front
  pub all : (a : A) (front rest : List ℕ) → Is a front → NextIs (follow a) rest → read (front ++ rest) ≡ Ok (a, rest)
  pub next : (text : List ℕ) (a : A) (b : ℕ) (bs : List ℕ) → read text ≡ Ok (a, b ∷ bs) → follow a b
  pub stops : (text : List ℕ) (left : ℕ) → read text ≡ Err left → StopsAt read Is text left

-- this many bytes of the text are its longest prefix that begins a text of the grammar
pub record Longest {A : Type 0} (Is : A → List ℕ → Type 0) (text : List ℕ) (at : ℕ) : Type 0 where
  pub front : List ℕ
  pub rest : List ℕ
  pub parts : text ≡ front ++ rest
  pub count : length front ≡ at
  pub goes_on : Viable Is front
  pub no_further : (b : ℕ) (bs : List ℕ) → rest ≡ b ∷ bs → Viable Is (front ++ b ∷ []) → ⊥
