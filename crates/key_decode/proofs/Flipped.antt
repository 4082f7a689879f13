-- Readings of the complements of the bytes, and numbers of a sign.
use Rattle.std.proofs.Common.{◌≡◌, ℕ, zero, suc, ◌^◌, ◌<◌, ◌≤◌, Bool, true, false, cond, List, [], ◌∷◌, Result, Ok, Err, arith, sym, ◌∙◌, ap, subst, get_or}
use Rattle.std.proofs.lemmas.Bool.Decides.{nat_tests}
use Rattle.std.specs.Prelude.{not, IfOk, pos, negsuc}
use Rattle.grammar.specs.Exact.{Read}
use Rattle.grammar.specs.Reading.{bind, map_read, mapped}
use Rattle.grammar.specs.Code.{Gives, StopsAs}
use Rattle.grammar.specs.declared.stop.Stop.{Stop}
use Rattle.grammar.specs.declared.stop.Stop.TheVariants.{Memory, At}
use Rattle.key_types.specs.Kinds.{Val, number, AreBytes}
use Rattle.key_types.proofs.Octets.{are_bytes}
use Rattle.key_decode.specs.Reading.{complemented, back, complement_read, seen, byte_from, count_behind, second_at, long_at, big_at, is_high}
use Rattle.key_decode.proofs.Turn.{all_twice, turned_bytes}
use Rattle.key_decode.proofs.Exact.{long_exact}
use Rattle.key_decode.proofs.Bigints.{long_found}
use Rattle.key_decode.proofs.Link.{to_bytes, bytes_front}

-- ---- bytes and their complements

pub other : (t u : Bool) (bs : List ℕ) → u ≡ not t → complemented (seen t bs) ≡ seen u bs
other true u bs e = all_twice bs ∙ ap (λ x. seen x bs) (sym e)
other false u bs e = ap (λ x. seen x bs) (sym e)

again : (t u : Bool) (bs : List ℕ) → u ≡ not t → complemented (seen u bs) ≡ seen t bs
again t u bs e = ap complemented (sym (other t u bs e)) ∙ all_twice (seen t bs)

pub seen_bytes : (t : Bool) (bs : List ℕ) → ((i : ℕ) → get_or bs i 0 < 256) → AreBytes (seen t bs)
seen_bytes true bs h = turned_bytes bs (to_bytes bs (are_bytes bs h))
seen_bytes false bs h = to_bytes bs (are_bytes bs h)

module _ {A X : Type 0} (f : X → A) (g : X → List ℕ) (r : Read A) (t u : Bool) (e : u ≡ not t) (bs : List ℕ) where
  pub turned_ok : (a : A) (rest : List ℕ) → r (seen u bs) ≡ Ok (a, seen u rest) → complement_read r (seen t bs) ≡ Ok (a, seen t rest)
  turned_ok a rest h = ap (λ l. back (r l)) (other t u bs e) ∙ ap back h ∙ ap (λ l. Ok (a, l)) (again t u rest e)

  pub turned_err : (left : ℕ) → r (seen u bs) ≡ Err left → complement_read r (seen t bs) ≡ Err left
  turned_err left h = ap (λ l. back (r l)) (other t u bs e) ∙ ap back h

  pub turned_gives : (result : Result X Stop) → Gives (λ x. (f x, seen u (g x))) result (r (seen u bs)) → Gives (λ x. (f x, seen t (g x))) result (complement_read r (seen t bs))
  turned_gives (Ok x) h = turned_ok (f x) (g x) h
  turned_gives (Err Memory) h = tt
  turned_gives (Err (At left)) h = turned_err left h

-- ---- bigints below zero

low_first : (all : List ℕ) (b : ℕ) (more : List ℕ) → all ≡ b ∷ more → is_high b ≡ false → big_at all ≡ map_read (λ n. number (negsuc n)) (complement_read long_at) all
low_first all b more e h =
    subst (λ (l : List ℕ). big_at l ≡ map_read (λ n. number (negsuc n)) (complement_read long_at) l) (sym e)
    (ap (λ x. cond {A = Result (Val × List ℕ) ℕ} x (map_read (λ n. number (pos n)) long_at (b ∷ more)) (map_read (λ n. number (negsuc n)) (complement_read long_at) (b ∷ more))) h)

module _ (t u : Bool) (e : u ≡ not t) (bs : List ℕ) (b : ℕ) (more : List ℕ) (parts : seen t bs ≡ b ∷ more) (low : is_high b ≡ false) where
  pub low_ok : (n : ℕ) (rest : List ℕ) → long_at (seen u bs) ≡ Ok (n, seen u rest) → big_at (seen t bs) ≡ Ok (number (negsuc n), seen t rest)
  low_ok n rest h =
      low_first (seen t bs) b more parts low ∙ ap (mapped (λ n. number (negsuc n))) (turned_ok {A = ℕ} {X = ℕ} (λ x. x) (λ x. []) long_at t u e bs n rest h)

  pub low_err : (left : ℕ) → long_at (seen u bs) ≡ Err left → big_at (seen t bs) ≡ Err left
  low_err left h =
      low_first (seen t bs) b more parts low ∙ ap (mapped (λ n. number (negsuc n))) (turned_err {A = ℕ} {X = ℕ} (λ x. x) (λ x. []) long_at t u e bs left h)

  pub low_stops : (stop : Stop) → StopsAs stop (long_at (seen u bs)) → StopsAs stop (big_at (seen t bs))
  low_stops Memory h = tt
  low_stops (At left) h = low_err left h

-- ---- how great a bigint is

pub long_below : (all : List ℕ) (n : ℕ) (rest : List ℕ) → AreBytes all → long_at all ≡ Ok (n, rest) → n < 2 ^ 63
long_below all n rest h e =
    let p = long_exact.found all n rest e in
    (long_found n p.0 p.2 (bytes_front p.0 rest (subst AreBytes p.1 h))).0

pub below : {B : Type 0} (see : B → List ℕ) (all : List ℕ) (b : ℕ) (rest : List ℕ) (k : ℕ) (result : Result (ℕ × B) Stop) → AreBytes all → byte_from 128 all ≡ Ok (b, rest) → k ≡ count_behind b
    → Gives (λ x. (x.0, see x.1)) result (second_at k b rest) → IfOk result (λ x. x.0 < 2 ^ 63)
below see all b rest k (Ok x) h e c is =
    long_below all x.0 (see x.1) h (ap (λ g. bind g (λ y. second_at (count_behind y) y)) e ∙ ap (λ y. second_at y b rest) (sym c) ∙ is)
below see all b rest k (Err x) h e c is = tt

pub four_bytes : (k : ℕ) → k ≤ 4 → 256 ^ k ≤ 2 ^ 32
four_bytes zero h = omega arith
four_bytes (suc zero) h = omega arith
four_bytes (suc (suc zero)) h = omega arith
four_bytes (suc (suc (suc zero))) h = omega arith
four_bytes (suc (suc (suc (suc zero)))) h = omega arith
four_bytes (suc (suc (suc (suc (suc k))))) h = absurd (omega arith)

pub is_low : (b : ℕ) → b < 128 → is_high b ≡ false
is_low b h = grind (arith, nat_tests)
