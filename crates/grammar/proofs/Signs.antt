-- Signs are read exactly, and readings one after the other of which each begins with no space.
use Rattle.std.proofs.Common.{◌≡◌, ℕ, ◌+◌, ◌<◌, ◌==◌, Bool, true, false, cond, List, [], ◌∷◌, ◌++◌, length, Result, Ok, Err, refl, sym, ◌∙◌, ap, subst, add-one}
use Rattle.std.specs.Prelude.{⊤, replicate}
use Rattle.grammar.specs.Exact.{Read, Exact, StopsAt, NextIs}
use Rattle.key_types.specs.Kinds.{AreBytes}
use Rattle.grammar.specs.Reading.{without_spaces, sign_at, IsSign, NoSpace, then_read, Then, Mapped, IsToken, IsEnd}
use Rattle.std.proofs.lemmas.List.{append-nil}
use Rattle.grammar.proofs.Octets.{bytes_both}
use Rattle.grammar.proofs.Tokens.{same_byte, self, skipped, no_space_left, skips}
use Rattle.grammar.proofs.Bind.{bind_exact}
use Rattle.grammar.proofs.Front.{stops_first, stops_empty}

abbrev GotSign : Type 0
GotSign = Result (⊤ × List ℕ) ℕ

sign_by : (t : Bool) (c b : ℕ) (bs : List ℕ) (a : ⊤) (rest : List ℕ) → (b == c) ≡ t → cond {A = GotSign} t (Ok (tt, without_spaces bs)) (Err (length bs + 1)) ≡ Ok (a, rest) → (b ≡ c) × (without_spaces bs ≡ rest)
sign_by true c b bs a rest e h = let pairs : ◌≡◌ {A = ⊤ × List ℕ} (tt, without_spaces bs) (a, rest) = cc in (same_byte b c e, ap (λ q. q.1) pairs)
sign_by false c b bs a rest e h = cc

sign_found : (c : ℕ) (text : List ℕ) (a : ⊤) (rest : List ℕ) → sign_at c text ≡ Ok (a, rest) → (front : List ℕ) × (text ≡ front ++ rest) × IsSign c a front
sign_found c [] a rest h = cc
sign_found c (b ∷ bs) a rest h =
    let p = sign_by (b == c) c b bs a rest refl h in
    let q = skipped bs in
    (c ∷ replicate q.0 32, ap (λ x. x ∷ bs) p.0 ∙ ap (λ l. c ∷ l) q.1 ∙ ap (λ l. c ∷ (replicate q.0 32 ++ l)) p.1, (q.0, refl))

sign_all : (c : ℕ) (a : ⊤) (front rest : List ℕ) → IsSign c a front → NextIs NoSpace rest → sign_at c (front ++ rest) ≡ Ok (a, rest)
sign_all c a front rest is h =
    ap (λ l. sign_at c (l ++ rest)) is.1
    ∙ ap (λ t. cond {A = GotSign} t (Ok (tt, without_spaces (replicate is.0 32 ++ rest))) (Err (length (replicate is.0 32 ++ rest) + 1))) (self c) ∙ ap (λ l. Ok (tt, l)) (skips is.0 rest h)

sign_next : (c : ℕ) (text : List ℕ) (a : ⊤) (b : ℕ) (bs : List ℕ) → sign_at c text ≡ Ok (a, b ∷ bs) → NoSpace b
sign_next c [] a b bs h = cc
sign_next c (x ∷ xs) a b bs h = no_space_left xs b bs (sign_by (x == c) c x xs a (b ∷ bs) refl h).1

sign_stops_by : (t : Bool) (c b : ℕ) (bs : List ℕ) (left : ℕ) → c < 256 → (b == c) ≡ t → cond {A = GotSign} t (Ok (tt, without_spaces bs)) (Err (length bs + 1)) ≡ Err left → StopsAt (sign_at c) (IsSign c) (b ∷ bs) left
sign_stops_by true c b bs left w e h = cc
sign_stops_by false c b bs left w e h =
    let k : left ≡ length bs + 1 = cc in
    stops_first (sign_at c) _ b bs left (k ∙ add-one (length bs)) (c ∷ [], tt, (0, refl), (w, tt)) (λ xs. (rw (e, add-one) refl))

sign_stops : (c : ℕ) (text : List ℕ) (left : ℕ) → c < 256 → sign_at c text ≡ Err left → StopsAt (sign_at c) (IsSign c) text left
sign_stops c [] left w h = stops_empty _ _ left (let e : left ≡ 0 = cc in e) (c ∷ [], tt, (0, refl), (w, tt))
sign_stops c (b ∷ bs) left w h = sign_stops_by (b == c) c b bs left w refl h

pub sign_exact : (c : ℕ) → c < 256 → Exact (sign_at c) (IsSign c) (λ _. NoSpace)
sign_exact c w = record { found = sign_found c; all = sign_all c; next = sign_next c; stops = λ text left h. sign_stops c text left w h }

-- ---- texts that begin with a byte of which something holds

abbrev pub Heads : {A : Type 0} → (ℕ → Type 0) → (A → List ℕ → Type 0) → Type 0
Heads {A} Holds Is = (a : A) (text : List ℕ) → Is a text → (b : ℕ) × (bs : List ℕ) × (text ≡ b ∷ bs) × Holds b

pub sign_heads : (c : ℕ) (Holds : ℕ → Type 0) → Holds c → Heads Holds (IsSign c)
sign_heads c Holds h a text is = (c, replicate is.0 32, is.1, h)

pub then_heads : {A B : Type 0} (Holds : ℕ → Type 0) (First : A → List ℕ → Type 0) (Second : A → B → List ℕ → Type 0) → Heads Holds First → Heads Holds (Then First Second)
then_heads Holds First Second h b text t = let p = h t.0 t.1 t.3 in (p.0, p.1 ++ t.2, t.5 ∙ ap (λ l. l ++ t.2) p.2, p.3)

pub map_heads : {A B : Type 0} (Holds : ℕ → Type 0) (f : A → B) (Is : A → List ℕ → Type 0) → Heads Holds Is → Heads Holds (Mapped f Is)
map_heads Holds f Is h b text is = h is.0 text is.1

-- a text that so begins may stand where such a byte may
pub heads_begin : {A : Type 0} (Holds : ℕ → Type 0) (Is : A → List ℕ → Type 0) → Heads Holds Is → (a : A) (text rest : List ℕ) → Is a text → NextIs Holds (text ++ rest)
heads_begin Holds Is h a text rest is = let p = h a text is in subst (λ (l : List ℕ). NextIs Holds (l ++ rest)) (sym p.2) p.3

pub begins_as : (P Q : ℕ → Type 0) → ((b : ℕ) → P b → Q b) → (rest : List ℕ) → NextIs P rest → NextIs Q rest
begins_as P Q f [] h = tt
begins_as P Q f (b ∷ bs) h = f b h

-- a reading behind which any byte but a space may stand, and then one whose texts begin with no space
module _ {A B : Type 0} (r : Read A) (f : A → Read B) (First : A → List ℕ → Type 0) (Second : A → B → List ℕ → Type 0) (after : B → ℕ → Type 0)
    (one : Exact r First (λ _. NoSpace)) (two : (a : A) → Exact (f a) (Second a) after)
    (some : (a : A) → (b : B) × (text : List ℕ) × Second a b text × AreBytes text)
    (heads : (a : A) → Heads NoSpace (Second a)) where
  pub next_exact : Exact (then_read r f) (Then First Second) after
  next_exact = bind_exact r f First Second (λ _. NoSpace) after one two some (λ a b text rest is h. heads_begin NoSpace (Second a) (heads a) b text rest is)

-- ---- grammars that have a text

abbrev pub HasText : {A : Type 0} → (A → List ℕ → Type 0) → Type 0
HasText {A} Is = (a : A) × (text : List ℕ) × Is a text × AreBytes text

pub sign_text : (c : ℕ) → c < 256 → HasText (IsSign c)
sign_text c w = (tt, c ∷ [], (0, refl), (w, tt))

pub token_text : (w : List ℕ) → AreBytes w → HasText (IsToken w)
token_text w h = (false, w, (tt, w, [], refl, refl, sym (append-nil w)), h)

pub end_text : {A : Type 0} (a : A) → HasText (IsEnd a)
end_text a = (a, [], (refl, refl), tt)

pub map_text : {A B : Type 0} (f : A → B) (Is : A → List ℕ → Type 0) → HasText Is → HasText (Mapped f Is)
map_text f Is h = (f h.0, h.1, (h.0, h.2, refl), h.3)

pub then_text : {A B : Type 0} (First : A → List ℕ → Type 0) (Second : A → B → List ℕ → Type 0) → HasText First → ((a : A) → HasText (Second a)) → HasText (Then First Second)
then_text First Second h k = let y = k h.0 in (y.0, h.1 ++ y.1, (h.0, h.1, y.1, h.2, y.2, refl), bytes_both h.1 y.1 h.3 y.3)

-- nothing stands between
pub empty_begins : (follow : ℕ → Type 0) (text rest : List ℕ) → text ≡ [] → NextIs follow rest → NextIs follow (text ++ rest)
empty_begins follow text rest e h = subst (λ (l : List ℕ). NextIs follow (l ++ rest)) (sym e) h
