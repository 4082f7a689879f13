-- How the code reads tokens from the front of bytes: only private contracts cite it. That it reads exactly the grammar is proved.
use Rattle.std.specs.Prelude.{ℕ, ◌+◌, ◌-◌, ◌*◌, ◌^◌, ◌==◌, ◌||◌, not, min, Bool, true, false, ⊤, List, [], ◌∷◌, ◌++◌, length, Option, Some, None, Result, Ok, Err, codes, if◌then◌else◌}
use Rattle.grammar.specs.Exact.{Read}
use Rattle.grammar.specs.Reading.{then_read, mapped, map_read, given_at, ends, by_first, one_of, spaces_at, onto, with_front}
use Rattle.key_text.specs.Tokens.{is_digit, is_nonzero, is_hex, hex_value}

-- ---- numbers

-- the digits from here on, behind those of a number
abbrev pub digits_at : ℕ → Read ℕ
digits_at n [] = Ok (n, [])
digits_at n (b ∷ bs) = if is_digit b then digits_at (n * 10 + (b - 48)) bs else Ok (n, b ∷ bs)

-- digits that begin with no 0
abbrev pub positive_at : Read ℕ
positive_at [] = Err 0
positive_at (b ∷ bs) = if is_nonzero b then digits_at (b - 48) bs else Err (length bs + 1)

-- the digit 0
abbrev pub is_zero : ℕ → Bool
is_zero b = b == 48

-- a 0 that stands alone
abbrev pub zero_at : Read ℕ
zero_at = then_read (given_at (codes "0")) (λ _. ends is_digit 0)

-- digits without leading zeros
abbrev pub magnitude_at : Read ℕ
magnitude_at = by_first is_zero zero_at positive_at

-- a minus
abbrev pub is_minus : ℕ → Bool
is_minus b = b == 45

-- whether there is a minus, and the number without it
abbrev pub number_at : Read (Bool × ℕ)
number_at = by_first is_minus (then_read (given_at (codes "-")) (λ _. map_read (λ n. (true, n)) positive_at)) (map_read (λ n. (false, n)) magnitude_at)

-- greater numbers are read as this one
abbrev pub capped_number : Bool × ℕ → Bool × ℕ
capped_number x = (x.0, min x.1 (2 ^ 64 - 1))

-- ---- texts

-- up to the first quote that stands alone: two in a row stand for one
abbrev mutual
  pub quoted_at : Read (List ℕ)
  quoted_at [] = Err 0
  quoted_at (b ∷ bs) = if b == 39 then behind_quote bs else onto b (quoted_at bs)

  pub behind_quote : Read (List ℕ)
  behind_quote [] = Ok ([], [])
  behind_quote (b ∷ bs) = if b == 39 then onto 39 (quoted_at bs) else Ok ([], b ∷ bs)

-- a text in quotes
abbrev pub quoted_text_at : Read (List ℕ)
quoted_text_at = then_read (given_at (codes "'")) (λ _. quoted_at)

-- ---- blobs

-- pairs of digits
abbrev mutual
  pub hex_at : Read (List ℕ)
  hex_at [] = Ok ([], [])
  hex_at (b ∷ bs) = if is_hex b then low_at (hex_value b) bs else Ok ([], b ∷ bs)

  -- the second digit of a pair
  pub low_at : ℕ → Read (List ℕ)
  low_at high [] = Err 0
  low_at high (b ∷ bs) = if is_hex b then onto (high * 16 + hex_value b) (hex_at bs) else Err (length bs + 1)

-- 0x and pairs of digits
abbrev pub blob_at : Read (List ℕ)
blob_at = then_read (given_at (codes "0x")) (λ _. hex_at)

-- ---- with what may stand behind them

-- behind a value stands `,` or `)`
abbrev pub no_end : ℕ → Bool
no_end b = not (b == 44 || b == 41)

-- behind the last component of a list stands `)`
abbrev pub no_close : ℕ → Bool
no_close b = not (b == 41)

-- the spaces behind a token, and then the end of a value
abbrev pub closing_at : Read ⊤
closing_at = then_read spaces_at (λ _. ends no_end tt)

-- a token, and what stands behind it up to the end of a value
abbrev pub closed_read : {A : Type 0} → Read A → Read A
closed_read {A} r = then_read r (λ v. map_read (λ _. v) closing_at)

-- the word of a boolean, and whether spaces stand behind it
abbrev pub truth_word_at : Read (Bool × Bool)
truth_word_at = one_of (codes "true", true) ((codes "false", false) ∷ [])

-- a boolean, and then the end of a value
abbrev pub truth_at : Read Bool
truth_at = then_read truth_word_at (λ x. ends no_end x.0)

-- ---- parts of these readings, for the loops that do them

-- what is read of a number, under the cap
abbrev pub capped_all : Result (ℕ × List ℕ) ℕ → Result (ℕ × List ℕ) ℕ
capped_all read = mapped (λ n. min n (2 ^ 64 - 1)) read
