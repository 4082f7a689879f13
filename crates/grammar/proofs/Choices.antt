-- One of several words is read exactly, where each two of them differ somewhere.
use Rattle.std.proofs.Common.{◌≡◌, ℕ, ◌+◌, ◌==◌, Bool, true, false, cond, List, [], ◌∷◌, ◌++◌, length, Result, Ok, Err, refl, sym, ◌∙◌, ap, subst, append_assoc, inl, inr}
use Rattle.std.specs.Prelude.{⊤, ◌&&◌, if◌then◌else◌, replicate}
use Rattle.grammar.specs.Exact.{Exact}
use Rattle.key_types.specs.Kinds.{AreBytes}
use Rattle.grammar.specs.Reading.{given_at, token, gap_at, IsToken, AfterGap, NoSpace, spaces_at, AreSpaces, without_spaces, bind, mapped, named_word_at, IsWord, one_of, IsOneOf}
use Rattle.grammar.proofs.Tokens.{token_exact, token_heads, skipped, skips, no_space_left}
use Rattle.grammar.proofs.Map.{map_exact}
use Rattle.grammar.proofs.Choice.{either_exact}

-- ---- spaces

spaces_found : (text : List ℕ) (a : ⊤) (rest : List ℕ) → spaces_at text ≡ Ok (a, rest) → (front : List ℕ) × (text ≡ front ++ rest) × AreSpaces a front
spaces_found text a rest h =
    let pairs : ◌≡◌ {A = ⊤ × List ℕ} (tt, without_spaces text) (a, rest) = cc in
    let p = skipped text in
    (replicate p.0 32, p.1 ∙ ap (λ q. replicate p.0 32 ++ q.1) pairs, (p.0, refl))

spaces_next : (text : List ℕ) (a : ⊤) (b : ℕ) (bs : List ℕ) → spaces_at text ≡ Ok (a, b ∷ bs) → NoSpace b
spaces_next text a b bs h = let pairs : ◌≡◌ {A = ⊤ × List ℕ} (tt, without_spaces text) (a, b ∷ bs) = cc in no_space_left text b bs (ap (λ q. q.1) pairs)

pub spaces_exact : Exact spaces_at AreSpaces (λ _. NoSpace)
spaces_exact = record {
  found = spaces_found;
  all = λ a front rest is h. ap (λ l. spaces_at (l ++ rest)) is.1 ∙ ap (λ l. Ok (tt, l)) (skips is.0 rest h);
  next = spaces_next;
  stops = λ text left h. cc;
}

-- ---- words

-- they differ where both have a letter
abbrev pub differ : List ℕ → List ℕ → Bool
differ [] bs = false
differ (c ∷ cs) [] = false
differ (c ∷ cs) (b ∷ bs) = if b == c then differ cs bs else true

abbrev pub differs_from : {A : Type 0} → List ℕ → List ℕ × A → List (List ℕ × A) → Bool
differs_from w y [] = differ w y.0
differs_from w y (z ∷ zs) = differ w y.0 && differs_from w z zs

abbrev pub all_differ : {A : Type 0} → List ℕ × A → List (List ℕ × A) → Bool
all_differ x [] = true
all_differ x (y ∷ ys) = differs_from x.0 y ys && all_differ y ys

abbrev pub AllBytes : {A : Type 0} → List ℕ × A → List (List ℕ × A) → Type 0
AllBytes x [] = AreBytes x.0
AllBytes x (y ∷ ys) = AreBytes x.0 × AllBytes y ys

both : (a b : Bool) → (a && b) ≡ true → (a ≡ true) × (b ≡ true)
both true b h = (refl, h)
both false b h = cc

abbrev Fails : List ℕ → List ℕ → Type 0
Fails w text = (n : ℕ) × (given_at w text ≡ Err n)

fails_by : (t : Bool) (c b : ℕ) (cs bs rest : List ℕ) → (b == c) ≡ t → cond t (differ cs bs) true ≡ true → (differ cs bs ≡ true → Fails cs (bs ++ rest)) → Fails (c ∷ cs) (b ∷ (bs ++ rest))
fails_by true c b cs bs rest e h f = let p = f h in (p.0, ap (λ t. cond {A = Result (⊤ × List ℕ) ℕ} t (given_at cs (bs ++ rest)) (Err (length (bs ++ rest) + 1))) e ∙ p.1)
fails_by false c b cs bs rest e h f = (length (bs ++ rest) + 1, ap (λ t. cond {A = Result (⊤ × List ℕ) ℕ} t (given_at cs (bs ++ rest)) (Err (length (bs ++ rest) + 1))) e)

fails : (w v rest : List ℕ) → differ w v ≡ true → Fails w (v ++ rest)
fails [] v rest h = cc
fails (c ∷ cs) [] rest h = cc
fails (c ∷ cs) (b ∷ bs) rest h = fails_by (b == c) c b cs bs rest refl h (fails cs bs rest)

abbrev pub AfterWord : {A : Type 0} → A × Bool → ℕ → Type 0
AfterWord x b = AfterGap true x.1 b

module _ {A : Type 0} where
  word_exact : (x : List ℕ × A) → AreBytes x.0 → Exact (named_word_at x) (IsWord x) AfterWord
  word_exact x w = map_exact (λ (s : Bool). (x.1, s)) (token true x.0) (IsToken x.0) (AfterGap true) AfterWord (token_exact true x.0 w) (λ s c h. h) (λ s c h. h)

  begins_one : (x : List ℕ × A) (w : List ℕ) (a : A × Bool) (text rest : List ℕ) → differ w x.0 ≡ true → IsWord x a text → Fails w (text ++ rest)
  begins_one x w a text rest d is =
      let p = token_heads x.0 is.0 text is.1 in
      subst (λ (l : List ℕ). Fails w l) (sym (ap (λ l. l ++ rest) p.1 ∙ append_assoc x.0 p.0 rest)) (fails w x.0 (p.0 ++ rest) d)

  -- a word that differs from all of them isn't read where one of them stands
  begins_word : (x : List ℕ × A) (xs : List (List ℕ × A)) (w : List ℕ) (a : A × Bool) (text rest : List ℕ) → differs_from w x xs ≡ true → IsOneOf x xs a text → Fails w (text ++ rest)
  begins_word x [] w a text rest d is = begins_one x w a text rest d is
  begins_word x (y ∷ ys) w a text rest d (inl is) = begins_one x w a text rest (both (differ w x.0) (differs_from w y ys) d).0 is
  begins_word x (y ∷ ys) w a text rest d (inr is) = begins_word y ys w a text rest (both (differ w x.0) (differs_from w y ys) d).1 is

  pub one_of_exact : (x : List ℕ × A) (xs : List (List ℕ × A)) → AllBytes x xs → all_differ x xs ≡ true → Exact (one_of x xs) (IsOneOf x xs) AfterWord
  one_of_exact x [] w d = word_exact x w
  one_of_exact x (y ∷ ys) w d =
      let e = both (differs_from x.0 y ys) (all_differ y ys) d in
      either_exact (named_word_at x) (one_of y ys) (IsWord x) (IsOneOf y ys) AfterWord (word_exact x w.0) (one_of_exact y ys w.1 e.1)
      (λ a text rest is h.
      let f = begins_word y ys x.0 a text rest e.0 is in
      (f.0, ap (λ g. mapped (λ (s : Bool). (x.1, s)) (bind g (λ _. gap_at true))) f.1))
