-- What is read are the encodings of the values that fit, but for the demand of UTF-8.
use Rattle.std.proofs.Common.{◌≡◌, ℕ, zero, suc, ◌+◌, ◌-◌, ◌^◌, ◌%◌, ◌<◌, Bool, true, false, cond, List, [], ◌∷◌, ◌++◌, arith, refl, sym, ◌∙◌, ap, subst, inl, inr, append_assoc}
use Rattle.std.specs.Prelude.{ℤ, pos, negsuc, IsTrue}
use Rattle.std.specs.Int.{bytes_high_first}
use Rattle.std.proofs.lemmas.Bool.Decides.{nat_tests}
use Rattle.grammar.proofs.Octets.{bytes_both}
use Rattle.key_types.specs.Kinds as k
use Rattle.key_types.specs.Kinds.{Kind, tiny, small, int, big, text, blob, boolean, tuple, reversed, Kinds, end, more, Val, number, bytes, truth, values, Vals, none, and, within, Fits, EachFits, AreBytes}
use Rattle.byte_comparable.specs.Encoding.{encoding, components, key_string, complement, unsigned_of, long_bytes, escaped}
use Rattle.byte_comparable.proofs.Zeros.{plain, behind_zero, escaped_plain}
use Rattle.byte_comparable.proofs.Compare.{bytes_complement}
use Rattle.byte_comparable.proofs.Compose.{text_bytes}
use Rattle.byte_comparable.proofs.Long.{big_are_bytes}
use Rattle.byte_comparable.proofs.Numbers.{Within, in_7, in_15, in_31, shifted_below, small_mod, high_are_bytes}
use Rattle.key_decode.specs.Reading.{byte_complement, complemented, lowered}
use Rattle.key_decode.specs.Shapes.{FitsAsBytes, EachFitsAsBytes}
use Rattle.key_decode.proofs.Exact.{value_from, IsLong}
use Rattle.key_decode.proofs.Turn.{all_twice, turned_bytes}
use Rattle.key_decode.proofs.All.{IsSigned, IsBig, IsRead, AreRead}
use Rattle.key_decode.proofs.Digits.{from_below, digits, bytes_long, from_bytes, raised, lowered_within, lowered_again, of_7, of_15, of_31, of_63}
use Rattle.key_decode.proofs.Bigints.{long_found, long_all}

-- ---- bytes

pub to_bytes : (xs : List ℕ) → k.AreBytes xs → AreBytes xs
to_bytes [] h = tt
to_bytes (x ∷ xs) h = (h.0, to_bytes xs h.1)

pub bytes_front : (xs ys : List ℕ) → AreBytes (xs ++ ys) → AreBytes xs
bytes_front [] ys h = tt
bytes_front (x ∷ xs) ys h = (h.0, bytes_front xs ys h.1)

pub bytes_behind : (xs ys : List ℕ) → AreBytes (xs ++ ys) → AreBytes ys
bytes_behind [] ys h = h
bytes_behind (x ∷ xs) ys h = bytes_behind xs ys h.1

mutual
  of_plain : (bs : List ℕ) → AreBytes (plain bs) → k.AreBytes bs
  of_plain [] h = tt
  of_plain (zero ∷ bs) h = (omega arith, of_behind bs h.1)
  of_plain (suc b ∷ bs) h = (h.0, of_plain bs h.1)

  of_behind : (bs : List ℕ) → AreBytes (behind_zero bs) → k.AreBytes bs
  of_behind [] h = tt
  of_behind (zero ∷ bs) h = (omega arith, of_behind bs h.1)
  of_behind (suc b ∷ bs) h = (h.1.0, of_plain bs h.1.1)

turn_is : (b : ℕ) → b < 256 → byte_complement b ≡ 255 - b
turn_is b h = grind (arith, nat_tests)

turned_complement : (xs : List ℕ) → AreBytes xs → complemented xs ≡ complement xs
turned_complement [] h = refl
turned_complement (x ∷ xs) h = ap (λ y. y ∷ complemented xs) (turn_is x h.0) ∙ ap (λ l. (255 - x) ∷ l) (turned_complement xs h.1)

turned_back : (xs : List ℕ) → AreBytes xs → complemented (complement xs) ≡ xs
turned_back xs h = ap complemented (sym (turned_complement xs h)) ∙ all_twice xs

-- ---- what is read

abbrev Linked : Kind → Val → List ℕ → Type 0
Linked t v bs = FitsAsBytes t v × (bs ≡ encoding t v)

signed_link : (n half : ℕ) (v : Val) (bs : List ℕ) → IsSigned n half v bs → AreBytes bs → half + half ≡ 256 ^ n → (x : ℤ) × (v ≡ number x) × Within half x × (bs ≡ bytes_high_first n (unsigned_of half x))
signed_link n half v bs is h e =
    let m = is.0 in
    let small : m < 256 ^ n = subst (λ (x : ℕ). x < 256 ^ n) (sym is.1.1) (subst (λ (x : ℕ). value_from 0 bs < 256 ^ x) is.1.0 (from_below bs h)) in (
      lowered half m,
      is.2,
      lowered_within half m (omega arith),
      sym (digits 0 bs h) ∙ ap (λ x. bytes_high_first x (value_from 0 bs)) is.1.0 ∙ ap (bytes_high_first n) (sym is.1.1) ∙ ap (bytes_high_first n) (sym (raised half m)),
    )

big_link : (v : Val) (bs : List ℕ) → IsBig v bs → AreBytes bs → Linked big v bs
big_link v bs (inl is) h =
    let p = long_found is.0 bs is.1 h in
    subst (λ (w : Val). Linked big w bs) (sym is.2) (of_63 (pos is.0) p.0, p.1)
big_link v bs (inr is) h =
    let p = long_found is.0 (complemented bs) is.1 (turned_bytes bs h) in
    let whole : bs ≡ complement (long_bytes is.0) =
    sym (all_twice bs) ∙ ap complemented p.1 ∙ turned_complement (long_bytes is.0) (subst AreBytes p.1 (turned_bytes bs h)) in
    subst (λ (w : Val). Linked big w bs) (sym is.2) (of_63 (negsuc is.0) p.0, whole)

truth_bytes : (b : Bool) → cond b 1 0 ∷ [] ≡ encoding boolean (truth b)
truth_bytes true = refl
truth_bytes false = refl

text_link : (v : Val) (bs : List ℕ) (a : List ℕ) → v ≡ bytes a → bs ≡ escaped a → AreBytes bs → k.AreBytes a × (v ≡ bytes a) × (bs ≡ escaped a)
text_link v bs a e is h = (of_plain a (subst AreBytes (is ∙ escaped_plain a) h), e, is)

mutual
  pub link : (t : Kind) (v : Val) (bs : List ℕ) → IsRead t v bs → AreBytes bs → FitsAsBytes t v × (bs ≡ encoding t v)
  link tiny v bs is h = let p = signed_link 1 (2 ^ 7) v bs is h (omega arith) in subst (λ (w : Val). Linked tiny w bs) (sym p.1) (of_7 p.0 p.2, p.3)
  link small v bs is h = let p = signed_link 2 (2 ^ 15) v bs is h (omega arith) in subst (λ (w : Val). Linked small w bs) (sym p.1) (of_15 p.0 p.2, p.3)
  link int v bs is h = let p = signed_link 4 (2 ^ 31) v bs is h (omega arith) in subst (λ (w : Val). Linked int w bs) (sym p.1) (of_31 p.0 p.2, p.3)
  link big v bs is h = big_link v bs is h
  link text v bs is h = let p = text_link v bs is.0 is.2 is.1 h in subst (λ (w : Val). Linked text w bs) (sym p.1) (p.0, p.2)
  link blob v bs is h = let p = text_link v bs is.0 is.2 is.1 h in subst (λ (w : Val). Linked blob w bs) (sym p.1) (p.0, p.2)
  link boolean v bs is h = subst (λ (w : Val). Linked boolean w bs) (sym is.1) (tt, is.2 ∙ truth_bytes is.0)
  link (tuple ts) v bs is h = subst (λ (w : Val). Linked (tuple ts) w bs) (sym is.2) (all_link ts is.0 bs is.1 h)
  link (reversed t) v bs is h =
      let p = link t v (complemented bs) is (turned_bytes bs h) in
      (p.0, sym (all_twice bs) ∙ ap complemented p.1 ∙ turned_complement (encoding t v) (subst AreBytes p.1 (turned_bytes bs h)))

  pub all_link : (ts : Kinds) (vs : Vals) (bs : List ℕ) → AreRead ts vs bs → AreBytes bs → EachFitsAsBytes ts vs × (bs ≡ key_string ts vs)
  all_link end vs bs is h = subst (λ (w : Vals). EachFitsAsBytes end w × (bs ≡ key_string end w)) (sym is.2) (tt, is.1)
  all_link (more t ts) vs bs is h =
      let inner = is.4 in
      let v = inner.0 in
      let vs1 = inner.4.0 in
      let parts : bs ≡ 0x40 ∷ (inner.1 ++ inner.2) = is.5 ∙ ap (λ l. l ++ is.2) is.3 ∙ ap (λ l. 0x40 ∷ l) inner.5 in
      let all : AreBytes (0x40 ∷ (inner.1 ++ inner.2)) = subst AreBytes parts h in
      let one = link t v inner.1 inner.3 (bytes_front inner.1 inner.2 all.1) in
      let others = all_link ts vs1 inner.2 inner.4.1 (bytes_behind inner.1 inner.2 all.1) in
      let whole : bs ≡ key_string (more t ts) (and v vs1) =
      parts ∙ ap (λ l. 0x40 ∷ (l ++ inner.2)) one.1 ∙ ap (λ l. 0x40 ∷ (encoding t v ++ l)) others.1
      ∙ ap (λ l. 0x40 ∷ l) (sym (append_assoc (encoding t v) (components ts vs1) (0x38 ∷ []))) in
      subst (λ (w : Vals). EachFitsAsBytes (more t ts) w × (bs ≡ key_string (more t ts) w)) (sym inner.4.2) ((one.0, others.0), whole)

-- ---- and all that is written

abbrev Backed : Kind → Val → Type 0
Backed t v = IsRead t v (encoding t v) × AreBytes (encoding t v)

signed_back : (n half : ℕ) (x : ℤ) → Within half x → half + half ≡ 256 ^ n → IsSigned n half (number x) (bytes_high_first n (unsigned_of half x)) × AreBytes (bytes_high_first n (unsigned_of half x))
signed_back n half x w e =
    let m = unsigned_of half x in
    let low = shifted_below half x w in
    let small : m % 256 ^ n ≡ m = small_mod m (256 ^ n) (omega arith) in
    let sum = from_bytes 0 n m in
    let same : m ≡ value_from 0 (bytes_high_first n m) = sym small ∙ sym (sum ∙ omega arith) in
    ((m, (bytes_long n m, same), ap number (sym (lowered_again half x w))), to_bytes (bytes_high_first n m) (high_are_bytes n m))

big_within : (x : ℤ) → IsTrue (within (negsuc 9223372036854775807) (pos 9223372036854775808) x) → Within (2 ^ 63) x
big_within (pos n) h = grind (arith, nat_tests)
big_within (negsuc n) h = grind (arith, nat_tests)

big_back : (x : ℤ) → IsTrue (within (negsuc 9223372036854775807) (pos 9223372036854775808) x) → Within (2 ^ 63) x → Backed big (number x)
big_back (pos n) f w = (inl (n, long_all n w, refl), to_bytes (long_bytes n) (big_are_bytes (pos n) f))
big_back (negsuc n) f w =
    let f_pos = of_63 (pos n) w in
    let same = turned_back (long_bytes n) (to_bytes (long_bytes n) (big_are_bytes (pos n) f_pos)) in
    (inr (n, subst (IsLong n) (sym same) (long_all n w), refl), to_bytes (complement (long_bytes n)) (big_are_bytes (negsuc n) f))

truth_back : (b : Bool) → Backed boolean (truth b)
truth_back true = ((true, refl, refl), (omega arith, tt))
truth_back false = ((false, refl, refl), (omega arith, tt))

mutual
  pub back : (t : Kind) (v : Val) → FitsAsBytes t v → IsRead t v (encoding t v) × AreBytes (encoding t v)
  back tiny (number x) f = signed_back 1 (2 ^ 7) x (in_7 x f) (omega arith)
  back tiny (bytes b) f = absurd f
  back tiny (truth b) f = absurd f
  back tiny (values vs) f = absurd f
  back small (number x) f = signed_back 2 (2 ^ 15) x (in_15 x f) (omega arith)
  back small (bytes b) f = absurd f
  back small (truth b) f = absurd f
  back small (values vs) f = absurd f
  back int (number x) f = signed_back 4 (2 ^ 31) x (in_31 x f) (omega arith)
  back int (bytes b) f = absurd f
  back int (truth b) f = absurd f
  back int (values vs) f = absurd f
  back big (number x) f = big_back x f (big_within x f)
  back big (bytes b) f = absurd f
  back big (truth b) f = absurd f
  back big (values vs) f = absurd f
  back text (bytes b) f = ((b, refl, refl), to_bytes (escaped b) (text_bytes b f))
  back text (number x) f = absurd f
  back text (truth b) f = absurd f
  back text (values vs) f = absurd f
  back blob (bytes b) f = ((b, refl, refl), to_bytes (escaped b) (text_bytes b f))
  back blob (number x) f = absurd f
  back blob (truth b) f = absurd f
  back blob (values vs) f = absurd f
  back boolean (truth b) f = truth_back b
  back boolean (number x) f = absurd f
  back boolean (bytes b) f = absurd f
  back boolean (values vs) f = absurd f
  back (tuple ts) (values vs) f = let p = all_back ts vs f in ((vs, p.0, refl), p.1)
  back (tuple ts) (number x) f = absurd f
  back (tuple ts) (bytes b) f = absurd f
  back (tuple ts) (truth b) f = absurd f
  back (reversed t) v f =
      let p = back t v f in
      (subst (IsRead t v) (sym (turned_back (encoding t v) p.1)) p.0, to_bytes (complement (encoding t v)) (bytes_complement (encoding t v)))

  pub all_back : (ts : Kinds) (vs : Vals) → EachFitsAsBytes ts vs → AreRead ts vs (key_string ts vs) × AreBytes (key_string ts vs)
  all_back end none f = ((tt, refl, refl), (omega arith, tt))
  all_back end (and v vs) f = absurd f
  all_back (more t ts) none f = absurd f
  all_back (more t ts) (and v vs) f =
      let one = back t v f.0 in
      let others = all_back ts vs f.1 in
      let rest = components ts vs ++ 0x38 ∷ [] in
      let joined = append_assoc (encoding t v) (components ts vs) (0x38 ∷ []) in (
        (tt, 0x40 ∷ [], encoding t v ++ rest, refl, (v, encoding t v, rest, one.0, (vs, others.0, refl), refl), ap (λ l. 0x40 ∷ l) joined),
        (omega arith, subst AreBytes (sym joined) (bytes_both (encoding t v) rest one.1 others.1)),
      )

-- ---- values that fit

mutual
  pub fit_as_bytes : (t : Kind) (v : Val) → Fits t v → FitsAsBytes t v
  fit_as_bytes tiny v f = f
  fit_as_bytes small v f = f
  fit_as_bytes int v f = f
  fit_as_bytes big v f = f
  fit_as_bytes text (bytes b) f = f.1
  fit_as_bytes text (number x) f = absurd f
  fit_as_bytes text (truth b) f = absurd f
  fit_as_bytes text (values vs) f = absurd f
  fit_as_bytes blob v f = f
  fit_as_bytes boolean v f = f
  fit_as_bytes (tuple ts) (values vs) f = each_fits_as_bytes ts vs f
  fit_as_bytes (tuple ts) (number x) f = absurd f
  fit_as_bytes (tuple ts) (bytes b) f = absurd f
  fit_as_bytes (tuple ts) (truth b) f = absurd f
  fit_as_bytes (reversed t) v f = fit_as_bytes t v f

  pub each_fits_as_bytes : (ts : Kinds) (vs : Vals) → EachFits ts vs → EachFitsAsBytes ts vs
  each_fits_as_bytes end none f = tt
  each_fits_as_bytes end (and v vs) f = absurd f
  each_fits_as_bytes (more t ts) none f = absurd f
  each_fits_as_bytes (more t ts) (and v vs) f = (fit_as_bytes t v f.0, each_fits_as_bytes ts vs f.1)
