-- Texts and blobs are read exactly.
use Rattle.std.proofs.Common.{◌≡◌, ℕ, ◌+◌, ◌*◌, ◌==◌, Bool, true, false, cond, List, [], ◌∷◌, ◌++◌, length, Result, Ok, Err, refl, sym, ◌∙◌, ap, arith, subst, add-one, append_assoc}
use Rattle.std.specs.Prelude.{⊤, codes}
use Rattle.std.proofs.lemmas.Bool.Decides.{nat_tests}
use Rattle.std.proofs.lemmas.List.{append-nil}
use Rattle.key_types.specs.Literals.{quotes_doubled}
use Rattle.grammar.specs.Exact.{Exact, StopsAt, NextIs}
use Rattle.key_types.specs.Kinds.{AreBytes}
use Rattle.grammar.specs.Reading.{given_at, IsGiven, Then, onto}
use Rattle.grammar.proofs.Octets.{are_bytes}
use Rattle.grammar.proofs.Bind.{bind_exact}
use Rattle.grammar.proofs.Tokens.{literal_exact, any_rest}
use Rattle.grammar.proofs.Signs.{HasText}
use Rattle.key_text.specs.Tokens.{is_hex, hex_value, AreHex}
use Rattle.key_text.specs.Reading.{quoted_at, behind_quote, quoted_text_at, hex_at, low_at, blob_at}

same_byte : (b c : ℕ) → (b == c) ≡ true → b ≡ c
same_byte b c e = grind (arith, nat_tests)

abbrev Got : Type 0
Got = Result (List ℕ × List ℕ) ℕ

-- what was read with a byte in front
onto_ok : (b : ℕ) (read : Got) (v rest : List ℕ) → onto b read ≡ Ok (v, rest) → (w : List ℕ) × (read ≡ Ok (w, rest)) × (v ≡ b ∷ w)
onto_ok b (Ok x) v rest h =
    let pairs : ◌≡◌ {A = List ℕ × List ℕ} (b ∷ x.0, x.1) (v, rest) = cc in
    (x.0, ap (λ q. Ok (x.0, q)) (ap (λ q. q.1) pairs), sym (ap (λ q. q.0) pairs))
onto_ok b (Err e) v rest h = cc

onto_err : (b : ℕ) (read : Got) (left : ℕ) → onto b read ≡ Err left → read ≡ Err left
onto_err b (Ok x) left h = cc
onto_err b (Err e) left h = cc

-- ---- texts

abbrev pub NoQuote : ℕ → Type 0
NoQuote b = (b == 39) ≡ false

-- a text behind its first quote
abbrev IsQuoted : List ℕ → List ℕ → Type 0
IsQuoted v bs = bs ≡ quotes_doubled v ++ 39 ∷ []

doubled : (b : ℕ) (v : List ℕ) → (b == 39) ≡ true → quotes_doubled (b ∷ v) ≡ 39 ∷ 39 ∷ quotes_doubled v
doubled b v e = ap (λ t. cond t (39 ∷ 39 ∷ quotes_doubled v) (b ∷ quotes_doubled v)) e

single : (b : ℕ) (v : List ℕ) → (b == 39) ≡ false → quotes_doubled (b ∷ v) ≡ b ∷ quotes_doubled v
single b v e = ap (λ t. cond t (39 ∷ 39 ∷ quotes_doubled v) (b ∷ quotes_doubled v)) e

-- what stands behind a quote: nothing of the text, or a second quote and the rest of it
abbrev IsBehind : List ℕ → List ℕ → Type 0
IsBehind v bs = 39 ∷ bs ≡ quotes_doubled v ++ 39 ∷ []

abbrev FoundQuoted : List ℕ → Type 0
FoundQuoted text = (v rest : List ℕ) → quoted_at text ≡ Ok (v, rest) → (front : List ℕ) × (text ≡ front ++ rest) × IsQuoted v front

abbrev FoundBehind : List ℕ → Type 0
FoundBehind text = (v rest : List ℕ) → behind_quote text ≡ Ok (v, rest) → (front : List ℕ) × (text ≡ front ++ rest) × IsBehind v front

quoted_by : (t : Bool) (b : ℕ) (bs v rest : List ℕ) → (b == 39) ≡ t → cond {A = Got} t (behind_quote bs) (onto b (quoted_at bs)) ≡ Ok (v, rest) → FoundQuoted bs → FoundBehind bs → (front : List ℕ) × (b ∷ bs ≡ front ++ rest) × IsQuoted v front
quoted_by true b bs v rest e h f g =
    let p = g v rest h in
    (39 ∷ p.0, ap (λ x. x ∷ bs) (same_byte b 39 e) ∙ ap (λ l. 39 ∷ l) p.1, p.2)
quoted_by false b bs v rest e h f g =
    let o = onto_ok b (quoted_at bs) v rest h in
    let p = f o.0 rest o.1 in
    (b ∷ p.0, ap (λ l. b ∷ l) p.1, ap (λ l. b ∷ l) p.2 ∙ ap (λ l. l ++ 39 ∷ []) (sym (single b o.0 e)) ∙ ap (λ w. quotes_doubled w ++ 39 ∷ []) (sym o.2))

behind_by : (t : Bool) (b : ℕ) (bs v rest : List ℕ) → (b == 39) ≡ t → cond {A = Got} t (onto 39 (quoted_at bs)) (Ok ([], b ∷ bs)) ≡ Ok (v, rest) → FoundQuoted bs → (front : List ℕ) × (b ∷ bs ≡ front ++ rest) × IsBehind v front
behind_by true b bs v rest e h f =
    let o = onto_ok 39 (quoted_at bs) v rest h in
    let p = f o.0 rest o.1 in
    (39 ∷ p.0, ap (λ x. x ∷ bs) (same_byte b 39 e) ∙ ap (λ l. 39 ∷ l) p.1, ap (λ l. 39 ∷ 39 ∷ l) p.2 ∙ ap (λ w. quotes_doubled w ++ 39 ∷ []) (sym o.2))
behind_by false b bs v rest e h f =
    let pairs : ◌≡◌ {A = List ℕ × List ℕ} ([], b ∷ bs) (v, rest) = cc in
    ([], ap (λ q. q.1) pairs, ap (λ q. quotes_doubled q.0 ++ 39 ∷ []) pairs)

mutual
  quoted_found : (text : List ℕ) → FoundQuoted text
  quoted_found [] v rest h = cc
  quoted_found (b ∷ bs) v rest h = quoted_by (b == 39) b bs v rest refl h (quoted_found bs) (behind_found bs)

  behind_found : (text : List ℕ) → FoundBehind text
  behind_found [] v rest h = let pairs : ◌≡◌ {A = List ℕ × List ℕ} ([], []) (v, rest) = cc in ([], ap (λ q. q.1) pairs, ap (λ q. quotes_doubled q.0 ++ 39 ∷ []) pairs)
  behind_found (b ∷ bs) v rest h = behind_by (b == 39) b bs v rest refl h (quoted_found bs)

closes : (rest : List ℕ) → NextIs NoQuote rest → behind_quote rest ≡ Ok ([], rest)
closes [] h = refl
closes (b ∷ bs) h = ap (λ t. cond {A = Got} t (onto 39 (quoted_at bs)) (Ok ([], b ∷ bs))) h

all_by : (t : Bool) (b : ℕ) (v rest : List ℕ) → (b == 39) ≡ t → quoted_at (quotes_doubled v ++ 39 ∷ rest) ≡ Ok (v, rest) → quoted_at (cond t (39 ∷ 39 ∷ quotes_doubled v) (b ∷ quotes_doubled v) ++ 39 ∷ rest) ≡ Ok (b ∷ v, rest)
all_by true b v rest e h = ap (onto 39) h ∙ ap (λ x. Ok (x ∷ v, rest)) (sym (same_byte b 39 e))
all_by false b v rest e h = ap (λ t. cond {A = Got} t (behind_quote (quotes_doubled v ++ 39 ∷ rest)) (onto b (quoted_at (quotes_doubled v ++ 39 ∷ rest)))) e ∙ ap (onto b) h

quoted_all : (v rest : List ℕ) → NextIs NoQuote rest → quoted_at (quotes_doubled v ++ 39 ∷ rest) ≡ Ok (v, rest)
quoted_all [] rest h = closes rest h
quoted_all (b ∷ v) rest h = all_by (b == 39) b v rest refl (quoted_all v rest h)

abbrev NextQuoted : (List ℕ → Got) → List ℕ → Type 0
NextQuoted read text = (v : List ℕ) (c : ℕ) (cs : List ℕ) → read text ≡ Ok (v, c ∷ cs) → NoQuote c

next_by : (t : Bool) (b : ℕ) (bs v : List ℕ) (c : ℕ) (cs : List ℕ) → cond {A = Got} t (behind_quote bs) (onto b (quoted_at bs)) ≡ Ok (v, c ∷ cs) → NextQuoted quoted_at bs → NextQuoted behind_quote bs → NoQuote c
next_by true b bs v c cs h f g = g v c cs h
next_by false b bs v c cs h f g = let o = onto_ok b (quoted_at bs) v (c ∷ cs) h in f o.0 c cs o.1

next_behind : (t : Bool) (b : ℕ) (bs v : List ℕ) (c : ℕ) (cs : List ℕ) → (b == 39) ≡ t → cond {A = Got} t (onto 39 (quoted_at bs)) (Ok ([], b ∷ bs)) ≡ Ok (v, c ∷ cs) → NextQuoted quoted_at bs → NoQuote c
next_behind true b bs v c cs e h f = let o = onto_ok 39 (quoted_at bs) v (c ∷ cs) h in f o.0 c cs o.1
next_behind false b bs v c cs e h f =
    let pairs : ◌≡◌ {A = List ℕ × List ℕ} ([], b ∷ bs) (v, c ∷ cs) = cc in
    let lists : b ∷ bs ≡ c ∷ cs = ap (λ q. q.1) pairs in
    let same : b ≡ c = cc in
    subst NoQuote same e

mutual
  quoted_next : (text : List ℕ) → NextQuoted quoted_at text
  quoted_next [] v c cs h = cc
  quoted_next (b ∷ bs) v c cs h = next_by (b == 39) b bs v c cs h (quoted_next bs) (behind_next bs)

  behind_next : (text : List ℕ) → NextQuoted behind_quote text
  behind_next [] v c cs h = let pairs : ◌≡◌ {A = List ℕ × List ℕ} ([], []) (v, c ∷ cs) = cc in let lists : [] ≡ c ∷ cs = ap (λ q. q.1) pairs in cc
  behind_next (b ∷ bs) v c cs h = next_behind (b == 39) b bs v c cs refl h (quoted_next bs)

-- a text without its last quote: it is read to its end, and goes on
abbrev Unclosed : List ℕ → ℕ → Type 0
Unclosed text left = (left ≡ 0) × (v : List ℕ) × IsQuoted v (text ++ 39 ∷ [])

unclosed_by : (t : Bool) (b : ℕ) (bs : List ℕ) (left : ℕ) → (b == 39) ≡ t → cond {A = Got} t (behind_quote bs) (onto b (quoted_at bs)) ≡ Err left → (quoted_at bs ≡ Err left → Unclosed bs left)
    → (behind_quote bs ≡ Err left → (left ≡ 0) × (v : List ℕ) × IsBehind v (bs ++ 39 ∷ [])) → Unclosed (b ∷ bs) left
unclosed_by true b bs left e h f g = let p = g h in (p.0, p.1, ap (λ x. x ∷ (bs ++ 39 ∷ [])) (same_byte b 39 e) ∙ p.2)
unclosed_by false b bs left e h f g = let p = f (onto_err b (quoted_at bs) left h) in (p.0, b ∷ p.1, ap (λ l. b ∷ l) p.2 ∙ ap (λ l. l ++ 39 ∷ []) (sym (single b p.1 e)))

unclosed_behind : (t : Bool) (b : ℕ) (bs : List ℕ) (left : ℕ) → (b == 39) ≡ t → cond {A = Got} t (onto 39 (quoted_at bs)) (Ok ([], b ∷ bs)) ≡ Err left → (quoted_at bs ≡ Err left → Unclosed bs left)
    → (left ≡ 0) × (v : List ℕ) × IsBehind v ((b ∷ bs) ++ 39 ∷ [])
unclosed_behind true b bs left e h f = let p = f (onto_err 39 (quoted_at bs) left h) in (p.0, 39 ∷ p.1, ap (λ x. 39 ∷ x ∷ (bs ++ 39 ∷ [])) (same_byte b 39 e) ∙ ap (λ l. 39 ∷ 39 ∷ l) p.2)
unclosed_behind false b bs left e h f = cc

mutual
  unclosed : (text : List ℕ) (left : ℕ) → quoted_at text ≡ Err left → Unclosed text left
  unclosed [] left h = ((let e : left ≡ 0 = cc in e), [], refl)
  unclosed (b ∷ bs) left h = unclosed_by (b == 39) b bs left refl h (unclosed bs left) (behind_unclosed bs left)

  behind_unclosed : (text : List ℕ) (left : ℕ) → behind_quote text ≡ Err left → (left ≡ 0) × (v : List ℕ) × IsBehind v (text ++ 39 ∷ [])
  behind_unclosed [] left h = cc
  behind_unclosed (b ∷ bs) left h = unclosed_behind (b == 39) b bs left refl h (unclosed bs left)

quote_bytes : AreBytes (39 ∷ [])
quote_bytes = are_bytes (codes "'") refl

quoted_stops : (text : List ℕ) (left : ℕ) → quoted_at text ≡ Err left → StopsAt quoted_at IsQuoted text left
quoted_stops text left h =
    let p = unclosed text left h in
    record {
      front = text;
      rest = [];
      parts = sym (append-nil text);
      count = p.0;
      goes_on = (39 ∷ [], p.1, p.2, quote_bytes);
      no_further = λ b bs is cs. cc;
    }

quoted_exact : Exact quoted_at IsQuoted (λ _. NoQuote)
quoted_exact = record {
  found = λ text v rest h. quoted_found text v rest h;
  all = λ v front rest is h. ap (λ l. quoted_at (l ++ rest)) is ∙ ap quoted_at (append_assoc (quotes_doubled v) (39 ∷ []) rest) ∙ quoted_all v rest h;
  next = λ text v b bs h. quoted_next text v b bs h;
  stops = quoted_stops;
}

abbrev pub IsText : List ℕ → List ℕ → Type 0
IsText = Then (IsGiven (codes "'")) (λ _. IsQuoted)

pub text_exact : Exact quoted_text_at IsText (λ _. NoQuote)
text_exact = bind_exact (given_at (codes "'")) (λ _. quoted_at) (IsGiven (codes "'")) (λ _. IsQuoted) (λ _ _. ⊤) (λ _. NoQuote) (literal_exact (codes "'") quote_bytes) (λ _. quoted_exact) (λ _. ([], 39 ∷ [], refl, quote_bytes))
    (λ a v text rest is h. any_rest (text ++ rest))

pub text_text : HasText IsText
text_text = ([], codes "''", (tt, codes "'", codes "'", refl, refl, refl), are_bytes (codes "''") refl)

-- ---- blobs

abbrev pub NoHex : ℕ → Type 0
NoHex b = is_hex b ≡ false

-- the second digit of a pair, and further pairs
abbrev IsLow : ℕ → List ℕ → List ℕ → Type 0
IsLow high [] text = ⊥
IsLow high (b ∷ v) text = (low : ℕ) × (rest : List ℕ) × (text ≡ low ∷ rest) × (is_hex low ≡ true) × (b ≡ high * 16 + hex_value low) × AreHex v rest

abbrev FoundHex : List ℕ → Type 0
FoundHex text = (v rest : List ℕ) → hex_at text ≡ Ok (v, rest) → (front : List ℕ) × (text ≡ front ++ rest) × AreHex v front

abbrev FoundLow : List ℕ → Type 0
FoundLow text = (high : ℕ) (v rest : List ℕ) → low_at high text ≡ Ok (v, rest) → (front : List ℕ) × (text ≡ front ++ rest) × IsLow high v front

paired : (b : ℕ) (v front : List ℕ) → is_hex b ≡ true → IsLow (hex_value b) v front → AreHex v (b ∷ front)
paired b [] front e is = absurd is
paired b (x ∷ v) front e is = (b, is.0, is.1, ap (λ l. b ∷ l) is.2, e, is.3, is.4, is.5)

hex_by : (t : Bool) (b : ℕ) (bs v rest : List ℕ) → is_hex b ≡ t → cond {A = Got} t (low_at (hex_value b) bs) (Ok ([], b ∷ bs)) ≡ Ok (v, rest) → FoundLow bs → (front : List ℕ) × (b ∷ bs ≡ front ++ rest) × AreHex v front
hex_by true b bs v rest e h f = let p = f (hex_value b) v rest h in (b ∷ p.0, ap (λ l. b ∷ l) p.1, paired b v p.0 e p.2)
hex_by false b bs v rest e h f = let pairs : ◌≡◌ {A = List ℕ × List ℕ} ([], b ∷ bs) (v, rest) = cc in ([], ap (λ q. q.1) pairs, subst (λ (w : List ℕ). AreHex w []) (ap (λ q. q.0) pairs) refl)

low_by : (t : Bool) (high b : ℕ) (bs v rest : List ℕ) → is_hex b ≡ t → cond {A = Got} t (onto (high * 16 + hex_value b) (hex_at bs)) (Err (length bs + 1)) ≡ Ok (v, rest) → FoundHex bs → (front : List ℕ) × (b ∷ bs ≡ front ++ rest) × IsLow high v front
low_by true high b bs v rest e h f =
    let o = onto_ok (high * 16 + hex_value b) (hex_at bs) v rest h in
    let p = f o.0 rest o.1 in
    (b ∷ p.0, ap (λ l. b ∷ l) p.1, subst (λ (w : List ℕ). IsLow high w (b ∷ p.0)) (sym o.2) (b, p.0, refl, e, refl, p.2))
low_by false high b bs v rest e h f = cc

mutual
  hex_found : (text : List ℕ) → FoundHex text
  hex_found [] v rest h = let pairs : ◌≡◌ {A = List ℕ × List ℕ} ([], []) (v, rest) = cc in ([], ap (λ q. q.1) pairs, subst (λ (w : List ℕ). AreHex w []) (ap (λ q. q.0) pairs) refl)
  hex_found (b ∷ bs) v rest h = hex_by (is_hex b) b bs v rest refl h (low_found bs)

  low_found : (text : List ℕ) → FoundLow text
  low_found [] high v rest h = cc
  low_found (b ∷ bs) high v rest h = low_by (is_hex b) high b bs v rest refl h (hex_found bs)

hex_end : (rest : List ℕ) → NextIs NoHex rest → hex_at rest ≡ Ok ([], rest)
hex_end [] h = refl
hex_end (b ∷ bs) h = ap (λ t. cond {A = Got} t (low_at (hex_value b) bs) (Ok ([], b ∷ bs))) h

hex_all : (v front rest : List ℕ) → AreHex v front → NextIs NoHex rest → hex_at (front ++ rest) ≡ Ok (v, rest)
hex_all [] front rest is h = ap (λ l. hex_at (l ++ rest)) is ∙ hex_end rest h
hex_all (b ∷ v) front rest (high, low, more, e, f, g, same, is) h =
    ap (λ l. hex_at (l ++ rest)) e ∙ ap (λ t. cond {A = Got} t (low_at (hex_value high) (low ∷ (more ++ rest))) (Ok ([], high ∷ low ∷ (more ++ rest)))) f
    ∙ ap (λ t. cond {A = Got} t (onto (hex_value high * 16 + hex_value low) (hex_at (more ++ rest))) (Err (length (more ++ rest) + 1))) g ∙ ap (onto (hex_value high * 16 + hex_value low)) (hex_all v more rest is h)
    ∙ ap (λ x. Ok (x ∷ v, rest)) (sym same)

abbrev NextHex : (List ℕ → Got) → List ℕ → Type 0
NextHex read text = (v : List ℕ) (c : ℕ) (cs : List ℕ) → read text ≡ Ok (v, c ∷ cs) → NoHex c

hex_next_by : (t : Bool) (b : ℕ) (bs v : List ℕ) (c : ℕ) (cs : List ℕ) → is_hex b ≡ t → cond {A = Got} t (low_at (hex_value b) bs) (Ok ([], b ∷ bs)) ≡ Ok (v, c ∷ cs) → NextHex (low_at (hex_value b)) bs → NoHex c
hex_next_by true b bs v c cs e h f = f v c cs h
hex_next_by false b bs v c cs e h f =
    let pairs : ◌≡◌ {A = List ℕ × List ℕ} ([], b ∷ bs) (v, c ∷ cs) = cc in
    let lists : b ∷ bs ≡ c ∷ cs = ap (λ q. q.1) pairs in
    let same : b ≡ c = cc in
    subst NoHex same e

low_next_by : (t : Bool) (high b : ℕ) (bs v : List ℕ) (c : ℕ) (cs : List ℕ) → cond {A = Got} t (onto (high * 16 + hex_value b) (hex_at bs)) (Err (length bs + 1)) ≡ Ok (v, c ∷ cs) → NextHex hex_at bs → NoHex c
low_next_by true high b bs v c cs h f = let o = onto_ok (high * 16 + hex_value b) (hex_at bs) v (c ∷ cs) h in f o.0 c cs o.1
low_next_by false high b bs v c cs h f = cc

mutual
  hex_next : (text : List ℕ) → NextHex hex_at text
  hex_next [] v c cs h = let pairs : ◌≡◌ {A = List ℕ × List ℕ} ([], []) (v, c ∷ cs) = cc in let lists : [] ≡ c ∷ cs = ap (λ q. q.1) pairs in cc
  hex_next (b ∷ bs) v c cs h = hex_next_by (is_hex b) b bs v c cs refl h (low_next (hex_value b) bs)

  low_next : (high : ℕ) (text : List ℕ) → NextHex (low_at high) text
  low_next high [] v c cs h = cc
  low_next high (b ∷ bs) v c cs h = low_next_by (is_hex b) high b bs v c cs h (hex_next bs)

zero_digit : AreBytes (48 ∷ [])
zero_digit = are_bytes (codes "0") refl

-- where pairs stop, and where the second digit of a pair does
abbrev StopsHex : List ℕ → ℕ → Type 0
StopsHex text left = StopsAt hex_at AreHex text left

abbrev StopsLow : ℕ → List ℕ → ℕ → Type 0
StopsLow high text left = StopsAt (low_at high) (IsLow high) text left

hex_stops_by : (t : Bool) (b : ℕ) (bs : List ℕ) (left : ℕ) → is_hex b ≡ t → cond {A = Got} t (low_at (hex_value b) bs) (Ok ([], b ∷ bs)) ≡ Err left → (low_at (hex_value b) bs ≡ Err left → StopsLow (hex_value b) bs left) → StopsHex (b ∷ bs) left
hex_stops_by true b bs left e h f =
    let s = f h in
    let v = s.goes_on in
    record {
      front = b ∷ s.front;
      rest = s.rest;
      parts = ap (λ l. b ∷ l) s.parts;
      count = s.count;
      goes_on = (v.0, v.1, paired b v.1 (s.front ++ v.0) e v.2, v.3);
      no_further = λ d ds is cs. ap (λ t. cond {A = Got} t (low_at (hex_value b) (s.front ++ d ∷ cs)) (Ok ([], b ∷ (s.front ++ d ∷ cs)))) e ∙ s.no_further d ds is cs;
    }
hex_stops_by false b bs left e h f = cc

low_here : (high : ℕ) (rest : List ℕ) (left : ℕ) → left ≡ length rest → ((d : ℕ) (ds : List ℕ) → rest ≡ d ∷ ds → is_hex d ≡ false) → StopsLow high rest left
low_here high rest left e never = record {
  front = [];
  rest = rest;
  parts = refl;
  count = e;
  goes_on = (48 ∷ [], (high * 16 + 0) ∷ [], (48, [], refl, refl, refl, refl), zero_digit);
  no_further = λ d ds is cs. ap (λ t. cond {A = Got} t (onto (high * 16 + hex_value d) (hex_at cs)) (Err (length cs + 1))) (never d ds is) ∙ ap Err (add-one (length cs));
}

low_stops_by : (t : Bool) (high b : ℕ) (bs : List ℕ) (left : ℕ) → is_hex b ≡ t → cond {A = Got} t (onto (high * 16 + hex_value b) (hex_at bs)) (Err (length bs + 1)) ≡ Err left → (hex_at bs ≡ Err left → StopsHex bs left) → StopsLow high (b ∷ bs) left
low_stops_by true high b bs left e h f =
    let s = f (onto_err (high * 16 + hex_value b) (hex_at bs) left h) in
    let v = s.goes_on in
    record {
      front = b ∷ s.front;
      rest = s.rest;
      parts = ap (λ l. b ∷ l) s.parts;
      count = s.count;
      goes_on = (v.0, (high * 16 + hex_value b) ∷ v.1, (b, s.front ++ v.0, refl, e, refl, v.2), v.3);
      no_further = λ d ds is cs.
          ap (λ t. cond {A = Got} t (onto (high * 16 + hex_value b) (hex_at (s.front ++ d ∷ cs))) (Err (length (s.front ++ d ∷ cs) + 1))) e ∙ ap (onto (high * 16 + hex_value b)) (s.no_further d ds is cs);
    }
low_stops_by false high b bs left e h f =
    let k : left ≡ length bs + 1 = cc in
    low_here high (b ∷ bs) left (k ∙ add-one (length bs)) (λ d ds is. let same : b ≡ d = cc in subst NoHex same e)

mutual
  hex_stops : (text : List ℕ) (left : ℕ) → hex_at text ≡ Err left → StopsHex text left
  hex_stops [] left h = cc
  hex_stops (b ∷ bs) left h = hex_stops_by (is_hex b) b bs left refl h (low_stops (hex_value b) bs left)

  low_stops : (high : ℕ) (text : List ℕ) (left : ℕ) → low_at high text ≡ Err left → StopsLow high text left
  low_stops high [] left h = low_here high [] left (let e : left ≡ 0 = cc in e) (λ d ds is. cc)
  low_stops high (b ∷ bs) left h = low_stops_by (is_hex b) high b bs left refl h (hex_stops bs left)

hex_exact : Exact hex_at AreHex (λ _. NoHex)
hex_exact = record {
  found = λ text v rest h. hex_found text v rest h;
  all = hex_all;
  next = λ text v b bs h. hex_next text v b bs h;
  stops = hex_stops;
}

abbrev pub IsHexed : List ℕ → List ℕ → Type 0
IsHexed = Then (IsGiven (codes "0x")) (λ _. AreHex)

pub blob_exact : Exact blob_at IsHexed (λ _. NoHex)
blob_exact = bind_exact (given_at (codes "0x")) (λ _. hex_at) (IsGiven (codes "0x")) (λ _. AreHex) (λ _ _. ⊤) (λ _. NoHex) (literal_exact (codes "0x") (are_bytes (codes "0x") refl)) (λ _. hex_exact) (λ _. ([], [], refl, tt))
    (λ a v text rest is h. any_rest (text ++ rest))

pub blob_text : HasText IsHexed
blob_text = ([], codes "0x", (tt, codes "0x", [], refl, refl, refl), are_bytes (codes "0x") refl)
