-- The bound at the front of bytes, as the code reads it.
use Rattle.std.proofs.Common.{◌≡◌, ℕ, ◌<◌, ◌≤◌, true, false, List, [], ◌∷◌, ◌++◌, length, Option, Some, None, Result, Ok, Err, refl, sym, ◌∙◌, ap, arith, subst, length-append}
use Rattle.std.specs.Option.{is_some}
use Rattle.std.specs.Str.{IsUtf8}
use Rattle.grammar.specs.Exact.{NextIs}
use Rattle.grammar.specs.Reading.{NoSpace}
use Rattle.key_types.specs.Kinds.{Kinds, Vals, EachFits, AreBytes}
use Rattle.key_text.specs.Grammar.{IsList}
use Rattle.key_text.specs.Marking.{Marked, marked_list}
use Rattle.key_text.specs.Outside.{AllNumbersFit, ListPasses}
use Rattle.key_text.proofs.Plain.{list_at}
use Rattle.key_text.proofs.Lists.{list_exact, list_heads}
use Rattle.key_text.proofs.Tracked.{Tracked, list_tracked}
use Rattle.key_text.proofs.Utf.{list_fits}
use Rattle.key_text.proofs.Back.{list_outside}
use Rattle.byte_comparable.specs.Encoding.{key_string}
use Rattle.byte_comparable.specs.Strings.{longest_string}
use Rattle.bounds_text.specs.Steps.{EndsUtf8, BeginsWithBound}

-- ---- there is at most one

same_read : {A : Type 0} (a b : A) (r s : List ℕ) (got : Result (A × List ℕ) ℕ) → got ≡ Ok (a, r) → got ≡ Ok (b, s) → (a ≡ b) × (r ≡ s)
same_read {A} a b r s got e f = let pairs : ◌≡◌ {A = A × List ℕ} (a, r) (b, s) = cc in (ap (λ q. q.0) pairs, ap (λ q. q.1) pairs)

read_plainly : (ts : Kinds) (bytes bound behind : List ℕ) (h : BeginsWithBound ts bytes bound behind) → list_at ts bytes ≡ Ok (h.components, behind)
read_plainly ts bytes bound behind h = ap (list_at ts) h.parts ∙ (list_exact ts).all h.components h.list behind h.is_list h.next

pub one_bound : (ts : Kinds) (bytes a b r s : List ℕ) → BeginsWithBound ts bytes a r → BeginsWithBound ts bytes b s → (a ≡ b) × (r ≡ s)
one_bound ts bytes a b r s h k =
    let p = same_read h.components k.components r s (list_at ts bytes) (read_plainly ts bytes a r h) (read_plainly ts bytes b s k) in
    (h.string ∙ ap (key_string ts) p.0 ∙ sym k.string, p.1)

-- ---- as it is read

abbrev TracksList : Kinds → List ℕ → Result (Marked Vals × List ℕ) ℕ → Type 0
TracksList ts bytes got = Tracked (IsList ts) (ListPasses ts) (AllNumbersFit ts) None bytes got (list_at ts bytes)

tracked : (ts : Kinds) (bytes : List ℕ) (got : Result (Marked Vals × List ℕ) ℕ) → marked_list ts None bytes ≡ got → TracksList ts bytes got
tracked ts bytes got e = subst (TracksList ts bytes) e (list_tracked ts None bytes)

no_space_behind : (ts : Kinds) (bytes rest : List ℕ) (vs : Vals) → list_at ts bytes ≡ Ok (vs, rest) → NextIs NoSpace rest
no_space_behind ts bytes [] vs e = tt
no_space_behind ts bytes (b ∷ bs) vs e = (list_exact ts).next bytes vs b bs e

shorter : (ts : Kinds) (vs : Vals) (bytes list rest : List ℕ) → IsList ts vs list → bytes ≡ list ++ rest → length rest < length bytes
shorter ts vs bytes list rest is e =
    let p = list_heads ts vs list is in
    let l = ap length p.2 in
    let m = ap length e ∙ length-append list rest in
    omega arith

-- without a mark
found : (ts : Kinds) (bytes rest out : List ℕ) (vs : Vals) → marked_list ts None bytes ≡ Ok ((vs, None), rest) → out ≡ key_string ts vs → EndsUtf8 bytes → AreBytes bytes
    → BeginsWithBound ts bytes out rest × (length rest < length bytes)
found ts bytes rest out vs e string (before, utf8) octets =
    let (w, list, read, parts, is, marks) = tracked ts bytes (Ok ((vs, None), rest)) e in
    let utf8_list : IsUtf8 (before ++ (list ++ rest)) = subst (λ (l : List ℕ). IsUtf8 (before ++ l)) parts utf8 in (
      record {
        components = w;
        list = list;
        is_list = is;
        fit = list_fits ts w list is (before, rest, utf8_list) (front_bytes list rest (subst AreBytes parts octets)) marks.0;
        string = string ∙ ap (key_string ts) marks.1;
        parts = parts;
        next = no_space_behind ts bytes rest w read;
      },
      shorter ts w bytes list rest is parts,
    )
  where
    front_bytes : (xs ys : List ℕ) → AreBytes (xs ++ ys) → AreBytes xs
    front_bytes [] ys h = tt
    front_bytes (x ∷ xs) ys h = (h.0, front_bytes xs ys h.1)

-- with one
none_marked : (ts : Kinds) (bytes rest bound behind : List ℕ) (vs : Vals) (left : ℕ) → marked_list ts None bytes ≡ Ok ((vs, Some left), rest) → BeginsWithBound ts bytes bound behind → ⊥
none_marked ts bytes rest bound behind vs left e h =
    let (w, list, read, parts, is, marks) = tracked ts bytes (Ok ((vs, Some left), rest)) e in
    let (at, passes, place) = marks in
    let same = same_read h.components w behind rest (list_at ts bytes) (read_plainly ts bytes bound behind h) read in
    list_outside ts w list at (0, list, at, refl, passes, omega arith) (0, list, refl, is) (subst (EachFits ts) same.0 h.fit)

-- where the reading stops
pub none_read : (ts : Kinds) (bytes bound behind : List ℕ) (left : ℕ) → marked_list ts None bytes ≡ Err left → BeginsWithBound ts bytes bound behind → ⊥
none_read ts bytes bound behind left e h = apart (list_at ts bytes) (tracked ts bytes (Err left) e) (read_plainly ts bytes bound behind h)
  where
    apart : (got : Result (Vals × List ℕ) ℕ) → got ≡ Err left → got ≡ Ok (h.components, behind) → ⊥
    apart got f g = cc

-- ---- of a mark that may be there

no_mark : (mark : Option ℕ) → is_some mark ≡ false → mark ≡ None
no_mark None e = refl
no_mark (Some left) e = cc

marked : (mark : Option ℕ) → is_some mark ≡ true → (left : ℕ) × (mark ≡ Some left)
marked None e = cc
marked (Some left) e = (left, refl)

module _ (ts : Kinds) (bytes rest out : List ℕ) (vs : Vals) (mark : Option ℕ) (read : marked_list ts None bytes ≡ Ok ((vs, mark), rest)) where
  pub out_of_range : is_some mark ≡ true → (bound behind : List ℕ) → BeginsWithBound ts bytes bound behind → ⊥
  out_of_range some bound behind h = let (left, e) = marked mark some in none_marked ts bytes rest bound behind vs left (read ∙ ap (λ m. Ok ((vs, m), rest)) e) h

  module _ (string : out ≡ key_string ts vs) (utf8 : EndsUtf8 bytes) (octets : AreBytes bytes) (none : is_some mark ≡ false) where
    pub answered : BeginsWithBound ts bytes out rest × (length rest < length bytes)
    answered = found ts bytes rest out vs (read ∙ ap (λ m. Ok ((vs, m), rest)) (no_mark mark none)) string utf8 octets

    pub too_long : longest_string < length out → (bound behind : List ℕ) → BeginsWithBound ts bytes bound behind → length bound ≤ longest_string → ⊥
    too_long long bound behind h short = let l = ap length (one_bound ts bytes out bound rest behind answered.0 h).0 in omega arith
