-- Readings, and the grammars that they read.
use Rattle.std.specs.Prelude.{◌≡◌, ℕ, ◌+◌, ◌==◌, ◌&&◌, nat_le, Bool, true, false, min, List, [], ◌∷◌, ◌++◌, length, replicate, Result, Ok, Err, if◌then◌else◌, ⊤, ◌⊎◌}
use Rattle.grammar.specs.Exact.{Read}

-- ---- one after the other, either, perhaps

abbrev pub bind : {A B : Type 0} → Result (A × List ℕ) ℕ → (A → Read B) → Result (B × List ℕ) ℕ
bind (Ok x) f = f x.0 x.1
bind (Err e) f = Err e

abbrev pub then_read : {A B : Type 0} → Read A → (A → Read B) → Read B
then_read r f bs = bind (r bs) f

abbrev pub Then : {A B : Type 0} → (A → List ℕ → Type 0) → (A → B → List ℕ → Type 0) → B → List ℕ → Type 0
Then {A} First Second b text = (a : A) × (front : List ℕ) × (rest : List ℕ) × First a front × Second a b rest × (text ≡ front ++ rest)

abbrev pub further_stop : {A : Type 0} → ℕ → Result (A × List ℕ) ℕ → Result (A × List ℕ) ℕ
further_stop n (Ok x) = Ok x
further_stop n (Err m) = Err (min n m)

-- the second where the first stops; where both stop, the place is the one further on
abbrev pub or_else : {A : Type 0} → Result (A × List ℕ) ℕ → Result (A × List ℕ) ℕ → Result (A × List ℕ) ℕ
or_else (Ok x) other = Ok x
or_else (Err n) other = further_stop n other

abbrev pub either : {A : Type 0} → Read A → Read A → Read A
either r s bs = or_else (r bs) (s bs)

abbrev pub Either : {A : Type 0} → (A → List ℕ → Type 0) → (A → List ℕ → Type 0) → A → List ℕ → Type 0
Either First Second a text = First a text ⊎ Second a text

-- read where this byte stands, and else nothing
abbrev pub perhaps : {A : Type 0} → ℕ → A → Read A → Read A
perhaps c none r [] = Ok (none, [])
perhaps c none r (b ∷ bs) = if b == c then r (b ∷ bs) else Ok (none, b ∷ bs)

-- the first reading where the first byte passes a test, and else the second
abbrev pub by_first : {A : Type 0} → (ℕ → Bool) → Read A → Read A → Read A
by_first test r s [] = Err 0
by_first test r s (b ∷ bs) = if test b then r (b ∷ bs) else s (b ∷ bs)

-- ---- bytes in front of those that are read

-- one byte
abbrev pub onto : ℕ → Result (List ℕ × List ℕ) ℕ → Result (List ℕ × List ℕ) ℕ
onto b (Ok x) = Ok (b ∷ x.0, x.1)
onto b (Err e) = Err e

-- several
abbrev pub with_front : List ℕ → Result (List ℕ × List ℕ) ℕ → Result (List ℕ × List ℕ) ℕ
with_front front (Ok x) = Ok (front ++ x.0, x.1)
with_front front (Err e) = Err e

-- ---- tokens, each with the spaces behind it

-- these bytes
abbrev pub given_at : List ℕ → Read ⊤
given_at [] bs = Ok (tt, bs)
given_at (c ∷ cs) [] = Err 0
given_at (c ∷ cs) (b ∷ bs) = if b == c then given_at cs bs else Err (length bs + 1)

abbrev pub IsGiven : List ℕ → ⊤ → List ℕ → Type 0
IsGiven w _ bs = bs ≡ w

abbrev pub without_spaces : List ℕ → List ℕ
without_spaces [] = []
without_spaces (b ∷ bs) = if b == 32 then without_spaces bs else b ∷ bs

abbrev pub is_letter : ℕ → Bool
is_letter b = nat_le 97 b && nat_le b 122

-- the spaces behind a token, and whether there are any; behind a word, a letter stands only behind spaces
abbrev pub gap_at : Bool → Read Bool
gap_at word [] = Ok (false, [])
gap_at word (b ∷ bs) = if b == 32 then Ok (true, without_spaces bs) else (if word && is_letter b then Err (length bs + 1) else Ok (false, b ∷ bs))

abbrev pub IsGap : Bool → List ℕ → Type 0
IsGap false bs = bs ≡ []
IsGap true bs = (n : ℕ) × (bs ≡ 32 ∷ replicate n 32)

abbrev pub AfterGap : Bool → Bool → ℕ → Type 0
AfterGap word true b = (b == 32) ≡ false
AfterGap word false b = ((b == 32) ≡ false) × ((word && is_letter b) ≡ false)

-- a word or a sign, with the spaces behind it
abbrev pub token : Bool → List ℕ → Read Bool
token word w = then_read (given_at w) (λ _. gap_at word)

abbrev pub IsToken : List ℕ → Bool → List ℕ → Type 0
IsToken w = Then (IsGiven w) (λ _. IsGap)

-- spaces, or none
abbrev pub spaces_at : Read ⊤
spaces_at bs = Ok (tt, without_spaces bs)

abbrev pub AreSpaces : ⊤ → List ℕ → Type 0
AreSpaces _ text = (n : ℕ) × (text ≡ replicate n 32)

-- a sign with the spaces behind it
abbrev pub sign_at : ℕ → Read ⊤
sign_at c [] = Err 0
sign_at c (b ∷ bs) = if b == c then Ok (tt, without_spaces bs) else Err (length bs + 1)

abbrev pub IsSign : ℕ → ⊤ → List ℕ → Type 0
IsSign c _ text = (n : ℕ) × (text ≡ c ∷ replicate n 32)

-- no space stands here
abbrev pub NoSpace : ℕ → Type 0
NoSpace b = (b == 32) ≡ false

-- ---- what was read seen as another value, what may be left out, a whole text

abbrev pub mapped : {A B : Type 0} → (A → B) → Result (A × List ℕ) ℕ → Result (B × List ℕ) ℕ
mapped f (Ok x) = Ok (f x.0, x.1)
mapped f (Err e) = Err e

abbrev pub map_read : {A B : Type 0} → (A → B) → Read A → Read B
map_read f r bs = mapped f (r bs)

abbrev pub Mapped : {A B : Type 0} → (A → B) → (A → List ℕ → Type 0) → B → List ℕ → Type 0
Mapped {A} f Is b text = (a : A) × Is a text × (b ≡ f a)

abbrev pub Perhaps : {A : Type 0} → A → (A → List ℕ → Type 0) → A → List ℕ → Type 0
Perhaps none Is a text = Is a text ⊎ ((a ≡ none) × (text ≡ []))

abbrev pub all_of : {A : Type 0} → Result (A × List ℕ) ℕ → Result A ℕ
all_of (Ok (a, [])) = Ok a
all_of (Ok (a, b ∷ bs)) = Err (length (b ∷ bs))
all_of (Err e) = Err e

abbrev pub whole : {A : Type 0} → Read A → List ℕ → Result A ℕ
whole r bs = all_of (r bs)

-- a word with the spaces behind it, seen as what it names, and whether there are any spaces
abbrev pub named_word_at : {A : Type 0} → List ℕ × A → Read (A × Bool)
named_word_at {A} x = map_read (λ s. (x.1, s)) (token true x.0)

abbrev pub IsWord : {A : Type 0} → List ℕ × A → A × Bool → List ℕ → Type 0
IsWord {A} x = Mapped (λ s. (x.1, s)) (IsToken x.0)

-- one of several words
abbrev pub one_of : {A : Type 0} → List ℕ × A → List (List ℕ × A) → Read (A × Bool)
one_of x [] = named_word_at x
one_of x (y ∷ ys) = either (named_word_at x) (one_of y ys)

abbrev pub IsOneOf : {A : Type 0} → List ℕ × A → List (List ℕ × A) → A × Bool → List ℕ → Type 0
IsOneOf x [] = IsWord x
IsOneOf x (y ∷ ys) = Either (IsWord x) (IsOneOf y ys)

-- nothing, where no bad byte stands behind it
abbrev pub ends : {A : Type 0} → (ℕ → Bool) → A → Read A
ends bad a [] = Ok (a, [])
ends bad a (b ∷ bs) = if bad b then Err (length bs + 1) else Ok (a, b ∷ bs)

abbrev pub IsEnd : {A : Type 0} → A → A → List ℕ → Type 0
IsEnd a b text = (b ≡ a) × (text ≡ [])
