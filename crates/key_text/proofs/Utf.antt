-- What is read from a text of UTF-8 fits its type.
use Rattle.std.proofs.Common.{◌≡◌, ℕ, zero, suc, ◌+◌, ◌<◌, ◌≤◌, ◌==◌, Bool, true, false, cond, List, [], ◌∷◌, ◌++◌, length, take, drop, get_or, refl, sym, ◌∙◌, ap, arith, subst, append_assoc, length-append}
use Rattle.std.specs.Prelude.{◌&&◌, replicate}
use Rattle.std.proofs.lemmas.Bool.Decides.{nat_tests}
use Rattle.std.proofs.lemmas.List.{append-nil}
use Rattle.std.proofs.lemmas.Str.{IsUtf8-nil, IsUtf8-append, IsUtf8-encode, IsUtf8-take, IsUtf8-drop, IsCharBoundary-after_ascii, IsCharBoundary-before_ascii, is_utf8-from_IsUtf8, IsUtf8-from_is_utf8, length-encode, len_utf8_bounds, encode_ascii, char_from_byte, inside_one}
use Rattle.std.specs.Str.{IsUtf8, is_utf8}
use lib.Utf8.{scalar, scalars, encodes, encode}
use Rattle.key_types.specs.Kinds.{Kind, tiny, small, int, big, text, blob, boolean, tuple, reversed, Kinds, end, more, Val, number, bytes, truth, values, Vals, none, and, AreBytes, Fits, EachFits}
use Rattle.key_types.specs.Literals.{quotes_doubled, text_literal}
use Rattle.key_text.specs.Tokens.{is_hex, hex_value, AreHex}
use Rattle.key_text.specs.Grammar.{IsLiteral, AreLiterals, AreFurther, IsList}
use Rattle.key_text.specs.Outside.{NumbersFit, AllNumbersFit}

pub both : (a b : Bool) → (a && b) ≡ true → (a ≡ true) × (b ≡ true)
both true b h = (refl, h)
both false b h = cc

-- ---- between quotes

at_seam : (before rest : List ℕ) (c : ℕ) → get_or (before ++ c ∷ rest) (length before) 0 ≡ c
at_seam [] rest c = refl
at_seam (b ∷ bs) rest c = at_seam bs rest c

past_seam : (before rest : List ℕ) (c : ℕ) → drop (length before + 1) (before ++ c ∷ rest) ≡ rest
past_seam before rest c = ap (λ n. drop n (before ++ c ∷ rest)) (one_more (length before)) ∙ past before
  where
    one_more : (n : ℕ) → n + 1 ≡ suc n
    one_more n = omega arith

    past : (front : List ℕ) → drop (suc (length front)) (front ++ c ∷ rest) ≡ rest
    past [] = refl
    past (b ∷ bs) = past bs

up_to_seam : (before rest : List ℕ) → take (length before) (before ++ rest) ≡ before
up_to_seam [] rest = refl
up_to_seam (b ∷ bs) rest = ap (λ l. b ∷ l) (up_to_seam bs rest)

shorter : (before rest : List ℕ) (c : ℕ) → length before < length (before ++ c ∷ rest)
shorter before rest c = let l = length-append before (c ∷ rest) in omega arith

after_quote : (before rest : List ℕ) → IsUtf8 (before ++ 39 ∷ rest) → IsUtf8 rest
after_quote before rest u =
    let bs = before ++ 39 ∷ rest in
    let e = at_seam before rest 39 in
    subst IsUtf8 (past_seam before rest 39) (IsUtf8-drop bs (length before + 1) u (IsCharBoundary-after_ascii bs (length before) u (shorter before rest 39) (omega arith)))

before_quote : (before rest : List ℕ) → IsUtf8 (before ++ 39 ∷ rest) → IsUtf8 before
before_quote before rest u =
    let bs = before ++ 39 ∷ rest in
    let e = at_seam before rest 39 in
    subst IsUtf8 (up_to_seam before (39 ∷ rest)) (IsUtf8-take bs (length before) u (IsCharBoundary-before_ascii bs (length before) (shorter before rest 39) (omega arith)))

-- ---- quotes that are doubled

abbrev pub NoQuotes : List ℕ → Type 0
NoQuotes es = (k : ℕ) → k < length es → get_or es k 0 ≡ 39 → ⊥

pub same_byte : (b c : ℕ) → (b == c) ≡ true → b ≡ c
same_byte b c e = grind (arith, nat_tests)

peel : (es rest v : List ℕ) → NoQuotes es → es ++ rest ≡ quotes_doubled v → (u : List ℕ) × (v ≡ es ++ u) × (rest ≡ quotes_doubled u)
peel [] rest v h e = (v, refl, e)
peel (x ∷ es) rest [] h e = absurd (let no : x ∷ (es ++ rest) ≡ [] = e in cc)
peel (x ∷ es) rest (b ∷ v) h e = by (b == 39) refl e (peel es rest v (λ k l g. h (suc k) (omega arith) g))
  where
    by : (t : Bool) → (b == 39) ≡ t → x ∷ (es ++ rest) ≡ cond t (39 ∷ 39 ∷ quotes_doubled v) (b ∷ quotes_doubled v) → (es ++ rest ≡ quotes_doubled v → (u : List ℕ) × (v ≡ es ++ u) × (rest ≡ quotes_doubled u))
        → (u : List ℕ) × (b ∷ v ≡ x ∷ (es ++ u)) × (rest ≡ quotes_doubled u)
    by true g f rec = let head : x ≡ 39 = cc in absurd (h 0 (omega arith) head)
    by false g f rec =
        let head : x ≡ b = cc in
        let tail : es ++ rest ≡ quotes_doubled v = cc in
        let p = rec tail in
        (p.0, ap (λ y. y ∷ v) (sym head) ∙ ap (λ l. x ∷ l) p.1, p.2)

-- a first byte that is ASCII is the first character
first_char : (c b : ℕ) (rest tail : List ℕ) → b < 128 → encode c ++ rest ≡ b ∷ tail → (c ≡ b) × (rest ≡ tail)
first_char c b rest tail h e =
    let same : c ≡ b = char_from_byte (b ∷ tail) rest c (sym e) h (omega arith) in
    let one : encode c ≡ c ∷ [] = encode_ascii c (omega arith) in
    let all : c ∷ rest ≡ b ∷ tail = ap (λ l. l ++ rest) (sym one) ∙ e in
    (same, cc)

quote_utf8 : IsUtf8 (39 ∷ [])
quote_utf8 = (39 ∷ [], (refl, ap (λ l. l ++ []) (encode_ascii 39 (omega arith))))

none_empty : (c : ℕ) (rest : List ℕ) → encode c ++ rest ≡ [] → ⊥
none_empty c rest e =
    let l = ap length e in
    let m = length-append (encode c) rest in
    let n = length-encode c in
    let o = (len_utf8_bounds c).0 in
    omega arith

nothing_doubled : (b : ℕ) (v : List ℕ) → [] ≡ quotes_doubled (b ∷ v) → ⊥
nothing_doubled b v = by (b == 39)
  where
    by : (t : Bool) → [] ≡ cond t (39 ∷ 39 ∷ quotes_doubled v) (b ∷ quotes_doubled v) → ⊥
    by true e = cc
    by false e = cc

pub no_quotes : (c : ℕ) → (c ≡ 39 → ⊥) → NoQuotes (encode c)
no_quotes c h k l e = h (inside_one c [] (encode c) k (sym (append-nil (encode c))) l (omega arith) ∙ e)

undoubled : (n : ℕ) (cs v : List ℕ) → length cs ≤ n → scalars cs ≡ true → encodes cs ≡ quotes_doubled v → IsUtf8 v
undoubled n [] [] l s e = IsUtf8-nil
undoubled n [] (b ∷ v) l s e = absurd (nothing_doubled b v e)
undoubled n (c ∷ cs) [] l s e = absurd (none_empty c (encodes cs) e)
undoubled zero (c ∷ cs) (b ∷ v) l s e = absurd (omega arith)
undoubled (suc n) (c ∷ cs) (b ∷ v) l s e = by (b == 39) refl e (λ ds u k t f. undoubled n ds u k t f)
  where
    ones : (scalar c ≡ true) × (scalars cs ≡ true)
    ones = both (scalar c) (scalars cs) s

    second : (ds : List ℕ) → length ds ≤ n → scalars ds ≡ true → encodes ds ≡ 39 ∷ quotes_doubled v → ((es u : List ℕ) → length es ≤ n → scalars es ≡ true → encodes es ≡ quotes_doubled u → IsUtf8 u) → IsUtf8 v
    second [] k t f rec = absurd (let no : [] ≡ 39 ∷ quotes_doubled v = f in cc)
    second (d ∷ ds) k t f rec = rec ds v (omega arith) (both (scalar d) (scalars ds) t).1 (first_char d 39 (encodes ds) (quotes_doubled v) (omega arith) f).1

    by : (t : Bool) → (b == 39) ≡ t → encode c ++ encodes cs ≡ cond t (39 ∷ 39 ∷ quotes_doubled v) (b ∷ quotes_doubled v)
        → ((es u : List ℕ) → length es ≤ n → scalars es ≡ true → encodes es ≡ quotes_doubled u → IsUtf8 u) → IsUtf8 (b ∷ v)
    by true g f rec =
        let p = first_char c 39 (encodes cs) (39 ∷ quotes_doubled v) (omega arith) f in
        subst (λ (x : ℕ). IsUtf8 (x ∷ v)) (sym (same_byte b 39 g)) (IsUtf8-append (39 ∷ []) v quote_utf8 (second cs (omega arith) ones.1 p.1 rec))
    by false g f rec =
        let plain : c ≡ 39 → ⊥ = λ h. other (sym (first_char 39 b (encodes cs) (quotes_doubled v) (low h) (subst (λ (x : ℕ). encode x ++ encodes cs ≡ b ∷ quotes_doubled v) h f)).0) in
        let p = peel (encode c) (encodes cs) (b ∷ v) (no_quotes c plain) (f ∙ sym (ap (λ t. cond t (39 ∷ 39 ∷ quotes_doubled v) (b ∷ quotes_doubled v)) g)) in
        subst IsUtf8 (sym p.1) (IsUtf8-append (encode c) p.0 (IsUtf8-encode c ones.0) (rec cs p.0 (omega arith) ones.1 p.2))
      where
        other : b ≡ 39 → ⊥
        other h = grind (arith, nat_tests)

        low : c ≡ 39 → b < 128
        low h = let k : 39 ∷ encodes cs ≡ b ∷ quotes_doubled v = ap (λ l. l ++ encodes cs) (sym (encode_ascii 39 (omega arith))) ∙ subst (λ (x : ℕ). encode x ++ encodes cs ≡ b ∷ quotes_doubled v) h f in let same : 39 ≡ b = cc in omega arith

pub utf8_undoubled : (v : List ℕ) → IsUtf8 (quotes_doubled v) → IsUtf8 v
utf8_undoubled v u = undoubled (length u.0) u.0 v (omega arith) u.1.0 u.1.1

-- ---- bytes below 256

front_bytes : (xs ys : List ℕ) → AreBytes (xs ++ ys) → AreBytes xs
front_bytes [] ys h = tt
front_bytes (x ∷ xs) ys h = (h.0, front_bytes xs ys h.1)

back_bytes : (xs ys : List ℕ) → AreBytes (xs ++ ys) → AreBytes ys
back_bytes [] ys h = h
back_bytes (x ∷ xs) ys h = back_bytes xs ys h.1

undoubled_bytes : (v : List ℕ) → AreBytes (quotes_doubled v) → AreBytes v
undoubled_bytes [] h = tt
undoubled_bytes (b ∷ v) h = by (b == 39) refl h (undoubled_bytes v)
  where
    by : (t : Bool) → (b == 39) ≡ t → AreBytes (cond t (39 ∷ 39 ∷ quotes_doubled v) (b ∷ quotes_doubled v)) → (AreBytes (quotes_doubled v) → AreBytes v) → AreBytes (b ∷ v)
    by true g k rec = (let e = same_byte b 39 g in omega arith, rec k.1.1)
    by false g k rec = (k.0, rec k.1)

hex_below : (b : ℕ) → is_hex b ≡ true → hex_value b < 16
hex_below b h = grind (arith, nat_tests)

hex_bytes : (v digits : List ℕ) → AreHex v digits → AreBytes v
hex_bytes [] digits h = tt
hex_bytes (b ∷ v) digits (high, low, rest, e, f, g, same, h) = (let p = hex_below high f in let q = hex_below low g in omega arith, hex_bytes v rest h)

-- ---- what is read fits

-- what stands between others in a text of UTF-8
abbrev Within : List ℕ → Type 0
Within front = (before : List ℕ) × (after : List ℕ) × IsUtf8 (before ++ (front ++ after))

within_first : (xs ys : List ℕ) → Within (xs ++ ys) → Within xs
within_first xs ys h = (h.0, ys ++ h.1, subst (λ (l : List ℕ). IsUtf8 (h.0 ++ l)) (append_assoc xs ys h.1) h.2)

within_second : (xs ys : List ℕ) → Within (xs ++ ys) → Within ys
within_second xs ys h = (h.0 ++ xs, h.1, subst IsUtf8 (ap (λ l. h.0 ++ l) (append_assoc xs ys h.1) ∙ sym (append_assoc h.0 xs (ys ++ h.1))) h.2)

text_fits : (b token : List ℕ) → token ≡ text_literal b → Within token → AreBytes token → Fits text (bytes b)
text_fits b token e h k =
    let w = subst Within e h in
    let closed : IsUtf8 (quotes_doubled b ++ 39 ∷ w.1) = subst IsUtf8 (append_assoc (quotes_doubled b) (39 ∷ []) w.1) (after_quote w.0 ((quotes_doubled b ++ 39 ∷ []) ++ w.1) w.2) in
    let inside = subst AreBytes e k in
    (is_utf8-from_IsUtf8 b (utf8_undoubled b (before_quote (quotes_doubled b) w.1 closed)), undoubled_bytes b (front_bytes (quotes_doubled b) (39 ∷ []) inside.1))

mutual
  pub literal_fits : (t : Kind) (v : Val) (front : List ℕ) → IsLiteral t v front → Within front → AreBytes front → NumbersFit t v → Fits t v
  literal_fits tiny (number z) front is w h n = n
  literal_fits tiny (bytes b) front is w h n = absurd is.2
  literal_fits tiny (truth b) front is w h n = absurd is.2
  literal_fits tiny (values vs) front is w h n = absurd is.2
  literal_fits small (number z) front is w h n = n
  literal_fits small (bytes b) front is w h n = absurd is.2
  literal_fits small (truth b) front is w h n = absurd is.2
  literal_fits small (values vs) front is w h n = absurd is.2
  literal_fits int (number z) front is w h n = n
  literal_fits int (bytes b) front is w h n = absurd is.2
  literal_fits int (truth b) front is w h n = absurd is.2
  literal_fits int (values vs) front is w h n = absurd is.2
  literal_fits big (number z) front is w h n = n
  literal_fits big (bytes b) front is w h n = absurd is.2
  literal_fits big (truth b) front is w h n = absurd is.2
  literal_fits big (values vs) front is w h n = absurd is.2
  literal_fits text (number z) front is w h n = absurd is.2
  literal_fits text (bytes b) front (token, k, is, e) w h n =
      text_fits b token is (within_first token (replicate k 32) (subst Within e w)) (front_bytes token (replicate k 32) (subst AreBytes e h))
  literal_fits text (truth b) front is w h n = absurd is.2
  literal_fits text (values vs) front is w h n = absurd is.2
  literal_fits blob (number z) front is w h n = absurd is.2
  literal_fits blob (bytes b) front (token, k, is, e) w h n = hex_bytes b is.0 is.2
  literal_fits blob (truth b) front is w h n = absurd is.2
  literal_fits blob (values vs) front is w h n = absurd is.2
  literal_fits boolean (number z) front is w h n = absurd is.2
  literal_fits boolean (bytes b) front is w h n = absurd is.2
  literal_fits boolean (truth b) front is w h n = tt
  literal_fits boolean (values vs) front is w h n = absurd is.2
  literal_fits (tuple ts) (number z) front is w h n = absurd is
  literal_fits (tuple ts) (bytes b) front is w h n = absurd is
  literal_fits (tuple ts) (truth b) front is w h n = absurd is
  literal_fits (tuple ts) (values vs) front (left, inside, right, first, all, last, e) w h n =
      literals_fit ts vs inside all (within_first inside right (within_second left (inside ++ right) (subst Within e w)))
      (front_bytes inside right (back_bytes left (inside ++ right) (subst AreBytes e h))) n
  literal_fits (reversed t) v front is w h n = literal_fits t v front is w h n

  literals_fit : (ts : Kinds) (vs : Vals) (front : List ℕ) → AreLiterals ts vs front → Within front → AreBytes front → AllNumbersFit ts vs → EachFits ts vs
  literals_fit end none front is w h n = tt
  literals_fit end (and v vs) front is w h n = absurd is
  literals_fit (more t ts) none front is w h n = absurd is
  literals_fit (more t ts) (and v vs) front (first, rest, lit, further, e) w h n =
      let x = subst Within e w in
      let y = subst AreBytes e h in
      (literal_fits t v first lit (within_first first rest x) (front_bytes first rest y) n.0, further_fit ts vs rest further (within_second first rest x) (back_bytes first rest y) n.1)

  further_fit : (ts : Kinds) (vs : Vals) (front : List ℕ) → AreFurther ts vs front → Within front → AreBytes front → AllNumbersFit ts vs → EachFits ts vs
  further_fit end none front is w h n = tt
  further_fit end (and v vs) front is w h n = absurd is
  further_fit (more t ts) none front is w h n = absurd is
  further_fit (more t ts) (and v vs) front (comma, first, rest, sign, lit, further, e) w h n =
      let x = within_second comma (first ++ rest) (subst Within e w) in
      let y = back_bytes comma (first ++ rest) (subst AreBytes e h) in
      (literal_fits t v first lit (within_first first rest x) (front_bytes first rest y) n.0, further_fit ts vs rest further (within_second first rest x) (back_bytes first rest y) n.1)

pub list_fits : (ts : Kinds) (vs : Vals) (front : List ℕ) → IsList ts vs front → Within front → AreBytes front → AllNumbersFit ts vs → EachFits ts vs
list_fits ts vs front (left, inside, right, first, all, last, e) w h n =
    literals_fit ts vs inside all (within_first inside right (within_second left (inside ++ right) (subst Within e w))) (front_bytes inside right (back_bytes left (inside ++ right) (subst AreBytes e h))) n

-- the bytes behind the spaces of a whole text
pub whole_within : (n : ℕ) (rest bs : List ℕ) → bs ≡ replicate n 32 ++ rest → is_utf8 bs ≡ true → Within rest
whole_within n rest bs e u = (replicate n 32, [], subst IsUtf8 (e ∙ ap (λ l. replicate n 32 ++ l) (sym (append-nil rest))) (IsUtf8-from_is_utf8 bs u))

pub whole_bytes : (n : ℕ) (rest bs : List ℕ) → bs ≡ replicate n 32 ++ rest → AreBytes bs → AreBytes rest
whole_bytes n rest bs e h = back_bytes (replicate n 32) rest (subst AreBytes e h)

pub bytes_by_index : (bs : List ℕ) → ((i : ℕ) → get_or bs i 0 < 256) → AreBytes bs
bytes_by_index [] h = tt
bytes_by_index (b ∷ bs) h = (h 0, bytes_by_index bs (λ i. h (suc i)))
