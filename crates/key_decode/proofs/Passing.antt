-- Strings are walked by their types as they are read.
use Rattle.std.proofs.Common.{◌≡◌, ℕ, ◌+◌, ◌<◌, ◌≤◌, Bool, List, [], ◌∷◌, ◌++◌, length, drop, Option, None, Some, Result, Ok, Err, arith, refl, sym, ◌∙◌, ap, subst, length-append, Bor}
use Rattle.std.specs.Prelude.{not, IsErr, IsTrue, IfErr, IfSome, MatchOption, MatchResult}
use Rattle.std.specs.Str.{is_utf8}
use Rattle.grammar.specs.Exact.{Read}
use Rattle.grammar.specs.Reading.{bind, map_read, mapped, given_at}
use Rattle.grammar.specs.Code.{Gives}
use Rattle.grammar.specs.declared.stop.Stop.{Stop}
use Rattle.grammar.specs.declared.stop.Stop.TheVariants.{Memory, At}
use Rattle.key_types.specs.Kinds.{Kind, text as text_kind, reversed, Kinds, more, Val, number, Vals, and, value_of, bytes as value_bytes}
use Rattle.key_types.specs.declared.kinds.Value.{Value}
use Rattle.key_decode.specs.Reading.{seen, text_at, complemented, back, complement_read, lowered, signed_at, value_at, values_at}
use Rattle.key_decode.specs.Passing.{IsUtf8Of, AreUtf8Of, Skips}
use Rattle.key_decode.proofs.All.{value_exact, values_exact}
use Rattle.key_decode.proofs.Turn.{seen_length}
use Rattle.key_decode.proofs.Flipped.{other, turned_ok}
use Rattle.key_decode.proofs.Cut.{seen_drop, number_enough, number_few}

same_read : {A : Type 0} (a b : A) (xs ys : List ℕ) → ◌≡◌ {A = Result (A × List ℕ) ℕ} (Ok (a, xs)) (Ok (b, ys)) → a ≡ b
same_read {A} a b xs ys e = let pairs : ◌≡◌ {A = A × List ℕ} (a, xs) (b, ys) = cc in ap (λ q. q.0) pairs

-- ---- what is left is no longer

behind_front : (text front rest : List ℕ) → text ≡ front ++ rest → length rest ≤ length text
behind_front text front rest e = let both : length text ≡ length front + length rest = ap length e ∙ length-append front rest in omega arith

-- behind a value fewer bytes or as many are left
pub value_shorter : (k : Kind) (t : Bool) (bytes rest : List ℕ) (v : Val) → value_at k (seen t bytes) ≡ Ok (v, seen t rest) → length rest ≤ length bytes
value_shorter k t bytes rest v e =
    let p = (value_exact k).found (seen t bytes) v (seen t rest) e in
    let less = behind_front (seen t bytes) p.0 (seen t rest) p.1 in
    let old = seen_length t bytes in
    let new = seen_length t rest in
    omega arith

-- and behind a string
pub values_shorter : (ks : Kinds) (bytes rest : List ℕ) (vs : Vals) → values_at ks bytes ≡ Ok (vs, rest) → length rest ≤ length bytes
values_shorter ks bytes rest vs e = let p = (values_exact ks).found bytes vs rest e in behind_front bytes p.0 rest p.1

pub passes_shorter : (k : Kind) (t : Bool) (bytes : List ℕ) (o : Option (Bor (List ℕ))) → Skips (IsUtf8Of k) (λ (x : Bor (List ℕ)). seen t x.now) o (value_at k (seen t bytes))
    → IfSome o (λ x. length x.now ≤ length bytes)
passes_shorter k t bytes (Some x) p = value_shorter k t bytes x.now p.0 p.2
passes_shorter k t bytes None p = tt

-- ---- one component and those behind it

module _ (t : Kind) (ts : Kinds) where
  -- behind the separator
  abbrev others : Val → Read Vals
  others v = map_read (and v) (values_at ts)

  opened : (text rest : List ℕ) → given_at (0x40 ∷ []) text ≡ Ok (tt, rest) → values_at (more t ts) text ≡ bind (value_at t rest) others
  opened text rest e = ap (λ g. bind g (λ _ bs. bind (value_at t bs) others)) e

  further_by : {X : Type 0} (view : X → List ℕ) (o : Option X) (v : Val) (got : Result (Vals × List ℕ) ℕ) → IsUtf8Of t v → Skips (AreUtf8Of ts) view o got
      → Skips (AreUtf8Of (more t ts)) view o (mapped (and v) got)
  further_by view (Some x) v got good p = (and v p.0, (good, p.1), ap (mapped (and v)) p.2)
  further_by view None v (Ok (vs, bs)) good p = λ a rest f e. let same = same_read (and v vs) a bs rest e in let both : AreUtf8Of (more t ts) (and v vs) = subst (AreUtf8Of (more t ts)) (sym same) f in p vs bs both.1 refl
  further_by view None v (Err n) good p = λ a rest f e. cc

  stopped_by : (got : Result (Val × List ℕ) ℕ) → ((v : Val) (bs : List ℕ) → IsUtf8Of t v → got ≡ Ok (v, bs) → ⊥) → (a : Vals) (rest : List ℕ) → AreUtf8Of (more t ts) a → bind got others ≡ Ok (a, rest) → ⊥
  stopped_by (Err n) p a rest f e = cc
  stopped_by (Ok (v, bs)) p a rest f e = inside (values_at ts bs) e
    where
      inside : (got : Result (Vals × List ℕ) ℕ) → mapped (and v) got ≡ Ok (a, rest) → ⊥
      inside (Err n) e = cc
      inside (Ok (vs, cs)) e = let same = same_read (and v vs) a cs rest e in let both : AreUtf8Of (more t ts) (and v vs) = subst (AreUtf8Of (more t ts)) (sym same) f in p v bs both.0 refl

  -- the first value is passed
  pub more_pass : {X Y : Type 0} (see : Y → List ℕ) (view : X → List ℕ) (text rest : List ℕ) (first : Option Y) (x : Y) (o : Option X) → given_at (0x40 ∷ []) text ≡ Ok (tt, rest)
      → Skips (IsUtf8Of t) see first (value_at t rest) → first ≡ Some x → Skips (AreUtf8Of ts) view o (values_at ts (see x)) → Skips (AreUtf8Of (more t ts)) view o (values_at (more t ts) text)
  more_pass see view text rest None x o e p is q = cc
  more_pass see view text rest (Some y) x o e p is q =
      let same : y ≡ x = cc in
      subst (Skips (AreUtf8Of (more t ts)) view o) (sym (opened text rest e ∙ ap (λ g. bind g others) (p.2 ∙ ap (λ z. Ok (p.0, see z)) same)))
      (further_by view o p.0 (values_at ts (see x)) p.1 q)

  -- the first value isn't
  pub none_passes : {X Y : Type 0} (see : Y → List ℕ) (view : X → List ℕ) (text rest : List ℕ) (first : Option Y) (o : Option X) → given_at (0x40 ∷ []) text ≡ Ok (tt, rest)
      → Skips (IsUtf8Of t) see first (value_at t rest) → first ≡ None → o ≡ None → Skips (AreUtf8Of (more t ts)) view o (values_at (more t ts) text)
  none_passes see view text rest (Some y) o e p is none = cc
  none_passes see view text rest None (Some x) e p is none = cc
  none_passes see view text rest None None e p is none = λ a left f g. stopped_by (value_at t rest) p a left f (sym (opened text rest e) ∙ g)

-- ---- by the type, which is named

turned_read : (t u : Bool) → u ≡ not t → (bytes : List ℕ) (k : Kind) (got : Result (Val × List ℕ) ℕ) → value_at k (seen u bytes) ≡ got → complement_read (value_at k) (seen t bytes) ≡ back got
turned_read t u e bytes k got is = ap (λ l. back (value_at k l)) (other t u bytes e) ∙ ap back is

module _ (kind k : Kind) (same : kind ≡ k) (t : Bool) (bytes : List ℕ) where
  abbrev Passed : Kind → Option (Bor (List ℕ)) → Type 0
  Passed k o = Skips (IsUtf8Of k) (λ (x : Bor (List ℕ)). seen t x.now) o (value_at k (seen t bytes))

  -- a value that takes no memory to read
  pub read_passes : (read : Result (Value × Bor (List ℕ)) Stop) (o : Option (Bor (List ℕ))) → ((v : Val) → IsUtf8Of k v)
      → Gives (λ (x : Value × Bor (List ℕ)). (value_of x.0, seen t x.1.now)) read (value_at k (seen t bytes)) → IfErr read (λ e. ¬ (e ≡ Memory))
      → MatchOption o (IsErr read) (λ rest. MatchResult read (λ x. x.1.now ≡ rest.now) (λ e. ⊥)) → Passed kind o
  read_passes read o good gives never is = subst (λ (j : Kind). Passed j o) (sym same) (by read o gives never is)
    where
      by : (read : Result (Value × Bor (List ℕ)) Stop) (o : Option (Bor (List ℕ)))
          → Gives (λ (x : Value × Bor (List ℕ)). (value_of x.0, seen t x.1.now)) read (value_at k (seen t bytes)) → IfErr read (λ e. ¬ (e ≡ Memory))
          → MatchOption o (IsErr read) (λ rest. MatchResult read (λ x. x.1.now ≡ rest.now) (λ e. ⊥)) → Passed k o
      by (Ok x) (Some rest) gives never is = (value_of x.0, good (value_of x.0), gives ∙ ap (λ l. Ok (value_of x.0, seen t l)) is)
      by (Ok x) None gives never is = cc
      by (Err e) (Some rest) gives never is = absurd is
      by (Err Memory) None gives never is = absurd (never refl)
      by (Err (At left)) None gives never is = λ v rest f e. cc

  -- a number of which each byte may be any
  pub number_passes : (count half : ℕ) (o : Option (Bor (List ℕ))) → ((v : Val) → IsUtf8Of k v) → value_at k (seen t bytes) ≡ signed_at count half (seen t bytes)
      → MatchOption o (length bytes < count) (λ rest. (count ≤ length bytes) × (rest.now ≡ drop count bytes)) → Passed kind o
  number_passes count half o good reads is = subst (λ (j : Kind). Passed j o) (sym same) (by o is)
    where
      value : ℕ → Val
      value n = number (lowered half n)

      by : (o : Option (Bor (List ℕ))) → MatchOption o (length bytes < count) (λ rest. (count ≤ length bytes) × (rest.now ≡ drop count bytes)) → Passed k o
      by (Some rest) (enough, cut) =
          let p = number_enough count 0 (seen t bytes) (rw (seen_length t bytes) enough) in
          (value p.0, good (value p.0), reads ∙ ap (mapped value) p.1 ∙ ap (λ l. Ok (value p.0, l)) (seen_drop t count bytes ∙ ap (seen t) (sym cut)))
      by None few = λ v rest f e.
          let stops = reads ∙ ap (mapped value) (number_few count 0 (seen t bytes) (rw (seen_length t bytes) few)) in cc

  text_by : (o : Option (Bor (List ℕ))) (got : Result (List ℕ × List ℕ) ℕ) → Skips (λ s. IsTrue (is_utf8 s)) (λ (x : Bor (List ℕ)). seen t x.now) o got
      → Skips (IsUtf8Of text_kind) (λ (x : Bor (List ℕ)). seen t x.now) o (mapped value_bytes got)
  text_by (Some x) got p = (value_bytes p.0, p.1, ap (mapped value_bytes) p.2)
  text_by None (Err n) p = λ v rest f e. cc
  text_by None (Ok (s, bs)) p = λ v rest f e. let is = same_read (value_bytes s) v bs rest e in p s bs (subst (IsUtf8Of text_kind) (sym is) f) refl

pub text_passes : (kind : Kind) → kind ≡ text_kind → (t : Bool) (bytes : List ℕ) (o : Option (Bor (List ℕ)))
    → Skips (λ s. IsTrue (is_utf8 s)) (λ (x : Bor (List ℕ)). seen t x.now) o (text_at (seen t bytes))
    → Skips (IsUtf8Of kind) (λ (x : Bor (List ℕ)). seen t x.now) o (value_at kind (seen t bytes))
text_passes kind same t bytes o p =
    subst (λ (k : Kind). Skips (IsUtf8Of k) (λ (x : Bor (List ℕ)). seen t x.now) o (value_at k (seen t bytes))) (sym same) (text_by kind kind refl t bytes o (text_at (seen t bytes)) p)

pub reversed_passes : (kind k : Kind) → kind ≡ reversed k → (t u : Bool) → u ≡ not t → (bytes : List ℕ) (o : Option (Bor (List ℕ)))
    → Skips (IsUtf8Of k) (λ (x : Bor (List ℕ)). seen u x.now) o (value_at k (seen u bytes))
    → Skips (IsUtf8Of kind) (λ (x : Bor (List ℕ)). seen t x.now) o (value_at kind (seen t bytes))
reversed_passes kind k same t u e bytes o p =
    subst (λ (j : Kind). Skips (IsUtf8Of j) (λ (x : Bor (List ℕ)). seen t x.now) o (value_at j (seen t bytes))) (sym same) (by o p)
  where
    stopped : (got : Result (Val × List ℕ) ℕ) → value_at k (seen u bytes) ≡ got → ((v : Val) (rest : List ℕ) → IsUtf8Of k v → value_at k (seen u bytes) ≡ Ok (v, rest) → ⊥)
        → (v : Val) (rest : List ℕ) → IsUtf8Of k v → complement_read (value_at k) (seen t bytes) ≡ Ok (v, rest) → ⊥
    stopped (Ok (w, bs)) is p v rest f g =
        let one = same_read w v (complemented bs) rest (sym (turned_read t u e bytes k (Ok (w, bs)) is) ∙ g) in
        p w bs (subst (IsUtf8Of k) (sym one) f) is
    stopped (Err n) is p v rest f g =
        let both = sym (turned_read t u e bytes k (Err n) is) ∙ g in clash n v rest both
      where
        clash : (n : ℕ) (v : Val) (rest : List ℕ) → ◌≡◌ {A = Result (Val × List ℕ) ℕ} (Err n) (Ok (v, rest)) → ⊥
        clash n v rest h = cc

    by : (o : Option (Bor (List ℕ))) → Skips (IsUtf8Of k) (λ (x : Bor (List ℕ)). seen u x.now) o (value_at k (seen u bytes))
        → Skips (IsUtf8Of (reversed k)) (λ (x : Bor (List ℕ)). seen t x.now) o (value_at (reversed k) (seen t bytes))
    by (Some x) (v, good, is) = (v, good, turned_ok {A = Val} {X = Val} (λ z. z) (λ z. []) (value_at k) t u e bytes v x.now is)
    by None p = stopped (value_at k (seen u bytes)) refl p
