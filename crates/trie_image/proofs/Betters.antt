-- One pointer put in place of another that sees the same but for one key.
use Rattle.std.proofs.Common.{◌≡◌, ◌≢◌, ◌⊎◌, ℕ, suc, ◌+◌, ◌*◌, ◌/◌, ◌%◌, ◌^◌, ◌<◌, ◌≤◌, ◌==◌, cond, List, [], ◌∷◌, ◌++◌, length, get_or, Option, Some, None, refl, sym, ap, ◌∙◌, subst, inl, inr, ⊎_elim, arith, ap₂, eq-eqb, ne_eqb}
use Rattle.std.proofs.lemmas.Bool.{cases_eq, cond-true, cond-false}
use Rattle.cell_layout.specs.declared.Kind.{Kind}
use Rattle.cell_layout.specs.declared.Kind.TheVariants as kind
use Rattle.cell_layout.specs.Pointers.{kind_at}
use Rattle.cell_layout.proofs.PointerKinds.{is_chain}
use Rattle.trie_image.specs.Reading.{Reading, sees, sees_from, Reads, Better}
use Rattle.trie_image.specs.Image.{field, cell_byte, chain_child, child_of, record_of, reading}
use Rattle.trie_image.proofs.Readings.{sees_none, sees_there}

module _ (r : Reading) where
  no_bytes : (p b : ℕ) (k : List ℕ) → p ≢ 0 → r.child p b ≡ 0 → sees_from r p (b ∷ k) ≡ None
  no_bytes p b k ne e = sees_there r p (b ∷ k) ne ∙ sees_none r (r.child p b) k e

  no_record : (p : ℕ) → p ≢ 0 → r.record_at p ≡ None → sees_from r p [] ≡ None
  no_record p ne e = sees_there r p [] ne ∙ e

  on_byte : (p b : ℕ) (k : List ℕ) → p ≢ 0 → sees_from r p (b ∷ k) ≡ sees_from r (r.child p b) k
  on_byte p b k ne = sees_there r p (b ∷ k) ne

  pub reads_on : (bs cs : List ℕ) (p x y : ℕ) → Reads r p bs x → Reads r x cs y → Reads r p (bs ++ cs) y
  reads_on [] cs p x y e h = subst (λ (z : ℕ). Reads r z cs y) (sym e) h
  reads_on (b ∷ bs) cs p x y (ne, none, only, rest) h = (ne, none, only, reads_on bs cs (r.child p b) x y rest h)

  same_head : (a b : ℕ) (k l : List ℕ) → a ∷ k ≡ b ∷ l → a ≡ b
  same_head a b k l e = cc

  same_tail : (a b : ℕ) (k l : List ℕ) → a ∷ k ≡ b ∷ l → k ≡ l
  same_tail a b k l e = cc

  under_byte : (b : ℕ) (rest : List ℕ) (p p' new : ℕ) → p ≢ 0 → p' ≢ 0 → r.record_at p ≡ None → r.record_at p' ≡ None → ((a : ℕ) → a ≢ b → r.child p a ≡ 0) → ((a : ℕ) → a ≢ b → r.child p' a ≡ 0) → Better r (r.child p b) (r.child p' b) rest new → Better r p p' (b ∷ rest) new
  under_byte b rest p p' new ne ne' none none' only only' better [] = inr ((λ e. cc), no_record p' ne' none' ∙ sym (no_record p ne none))
  under_byte b rest p p' new ne ne' none none' only only' better (a ∷ k) = ⊎_elim
      (λ (is : a ≡ b). subst (λ (z : ℕ). ((z ∷ k ≡ b ∷ rest) × (sees_from r p' (z ∷ k) ≡ Some new)) ⊎ ((z ∷ k ≡ b ∷ rest → ⊥) × (sees_from r p' (z ∷ k) ≡ sees_from r p (z ∷ k)))) (sym is)
      (⊎_elim (λ (t : (k ≡ rest) × (sees_from r (r.child p' b) k ≡ Some new)). inl (ap (λ (l : List ℕ). b ∷ l) t.0, on_byte p' b k ne' ∙ t.1))
      (λ (t : (k ≡ rest → ⊥) × (sees_from r (r.child p' b) k ≡ sees_from r (r.child p b) k)). let n = t.0 in inr ((λ e. n (same_tail b b k rest e)), on_byte p' b k ne' ∙ (t.1 ∙ sym (on_byte p b k ne)))) (better k)))
      (λ (other : a ≢ b). inr ((λ e. other (same_head a b k rest e)), no_bytes p' a k ne' (only' a other) ∙ sym (no_bytes p a k ne (only a other)))) (cases_eq a b)

  -- what is better after the same bytes is better before them
  pub under_bytes : (bs rest : List ℕ) (p p' x x' new : ℕ) → Reads r p bs x → Reads r p' bs x' → Better r x x' rest new → Better r p p' (bs ++ rest) new
  under_bytes [] rest p p' x x' new e e' better = subst (λ (z : ℕ). Better r z p' rest new) (sym e) (subst (λ (z : ℕ). Better r x z rest new) (sym e') better)
  under_bytes (b ∷ bs) rest p p' x x' new (ne, none, only, on) (ne', none', only', on') better = under_byte b (bs ++ rest) p p' new ne ne' none none' only only' (under_bytes bs rest (r.child p b) (r.child p' b) x x' new on on' better)

  better_content : (x new : ℕ) → x ≢ 0 → r.record_at x ≡ Some new → ((a : ℕ) → r.child x a ≡ 0) → Better r 0 x [] new
  better_content x new ne is none [] = inl (refl, sees_there r x [] ne ∙ is)
  better_content x new ne is none (a ∷ k) = inr ((λ e. cc), no_bytes x a k ne (none a))

  chain_byte : (b : ℕ) (rest : List ℕ) (p new : ℕ) → p ≢ 0 → r.record_at p ≡ None → ((a : ℕ) → a ≢ b → r.child p a ≡ 0) → Better r 0 (r.child p b) rest new → Better r 0 p (b ∷ rest) new
  chain_byte b rest p new ne none only better [] = inr ((λ e. cc), no_record p ne none)
  chain_byte b rest p new ne none only better (a ∷ k) = ⊎_elim
      (λ (is : a ≡ b). subst (λ (z : ℕ). ((z ∷ k ≡ b ∷ rest) × (sees_from r p (z ∷ k) ≡ Some new)) ⊎ ((z ∷ k ≡ b ∷ rest → ⊥) × (sees_from r p (z ∷ k) ≡ None))) (sym is)
      (⊎_elim (λ (t : (k ≡ rest) × (sees_from r (r.child p b) k ≡ Some new)). inl (ap (λ (l : List ℕ). b ∷ l) t.0, on_byte p b k ne ∙ t.1))
      (λ (t : (k ≡ rest → ⊥) × (sees_from r (r.child p b) k ≡ None)). let n = t.0 in inr ((λ e. n (same_tail b b k rest e)), on_byte p b k ne ∙ t.1)) (better k)))
      (λ (other : a ≢ b). inr ((λ e. other (same_head a b k rest e)), no_bytes p a k ne (only a other))) (cases_eq a b)

  -- a chain that ends at the new record, in place of nothing
  pub better_chain : (bs : List ℕ) (p x new : ℕ) → Reads r p bs x → x ≢ 0 → r.record_at x ≡ Some new → ((a : ℕ) → r.child x a ≡ 0) → Better r 0 p bs new
  better_chain [] p x new e ne is none = subst (λ (z : ℕ). Better r 0 z [] new) (sym e) (better_content x new ne is none)
  better_chain (b ∷ bs) p x new (there, none, only, on) ne is leaf = chain_byte b bs p new there none only (better_chain bs (r.child p b) x new on ne is leaf)

-- an edge that leads to a better pointer gives the law of Publish at its node
pub edge : (r r' : Reading) (key : List ℕ) (new p b : ℕ) (q k : List ℕ) → (r'.child p b ≡ r.child p b) ⊎ ((rest : List ℕ) × (q ++ b ∷ rest ≡ key) × Better r' (r.child p b) (r'.child p b) rest new)
    → (sees r' p (b ∷ k) ≡ sees_from r' (r.child p b) k) ⊎ ((q ++ b ∷ k ≡ key) × (sees r' p (b ∷ k) ≡ Some new))
edge r r' key new p b q k h = ⊎_elim (λ (e : r'.child p b ≡ r.child p b). inl (ap (λ (c : ℕ). sees_from r' c k) e))
    (λ (t : (rest : List ℕ) × (q ++ b ∷ rest ≡ key) × Better r' (r.child p b) (r'.child p b) rest new). let better = t.2 in ⊎_elim
    (λ (s : (k ≡ t.0) × (sees_from r' (r'.child p b) k ≡ Some new)). inr (ap (λ (l : List ℕ). q ++ b ∷ l) s.0 ∙ t.1, s.1))
    (λ (s : (k ≡ t.0 → ⊥) × (sees_from r' (r'.child p b) k ≡ sees_from r' (r.child p b) k)). inl s.1) (better k)) h

-- the bytes of a chain cell from an offset on, and then its tail
module _ (w : List ℕ) (c : ℕ) where
  module _ (b o p : ℕ) (is : p ≡ 32 * c + o) (ne : p ≢ 0) (small : p < 2 ^ 31) (less : o ≤ 27) (byte : cell_byte w c o ≡ b) where
    cell : p / 32 ≡ c
    cell = omega arith

    offset : p % 32 ≡ o
    offset = omega arith

    chain : kind_at p ≡ Some kind.Chain
    chain = is_chain p ne small (omega (arith, offset))

    here : cell_byte w (p / 32) (p % 32) ≡ b
    here = ap₂ (λ (x y : ℕ). cell_byte w x y) cell offset ∙ byte

    child : (a : ℕ) → child_of w p a (kind_at p) ≡ chain_child w p a
    child a = ap (λ (k : Option Kind). child_of w p a k) chain

    none : record_of w p (kind_at p) ≡ None
    none = ap (λ (k : Option Kind). record_of w p k) chain

    only : (a : ℕ) → a ≢ b → child_of w p a (kind_at p) ≡ 0
    only a other = child a ∙ cond-false (cell_byte w (p / 32) (p % 32) == a) (cond (p % 32 == 27) (field w (p / 32) 7) (p + 1)) 0 (ne_eqb (cell_byte w (p / 32) (p % 32)) a (λ e. other (sym e ∙ here)))

    led : child_of w p b (kind_at p) ≡ cond (p % 32 == 27) (field w (p / 32) 7) (p + 1)
    led = child b ∙ cond-true (cell_byte w (p / 32) (p % 32) == b) (cond (p % 32 == 27) (field w (p / 32) 7) (p + 1)) 0 (eq-eqb (cell_byte w (p / 32) (p % 32)) b here)

    last : o ≡ 27 → child_of w p b (kind_at p) ≡ field w c 7
    last e = led ∙ (cond-true (p % 32 == 27) (field w (p / 32) 7) (p + 1) (eq-eqb (p % 32) 27 (offset ∙ e)) ∙ ap (λ (x : ℕ). field w x 7) cell)

    next : o < 27 → child_of w p b (kind_at p) ≡ p + 1
    next l = led ∙ cond-false (p % 32 == 27) (field w (p / 32) 7) (p + 1) (ne_eqb (p % 32) 27 (λ e. omega (arith, offset)))

  pub cell_reads : (bs : List ℕ) (o p : ℕ) → p ≡ 32 * c + o → p ≢ 0 → p < 2 ^ 31 → length bs + o ≡ 28 → 0 < length bs → ((i : ℕ) → i < length bs → cell_byte w c (o + i) ≡ get_or bs i 0) → Reads (reading w) p bs (field w c 7)
  cell_reads [] o p is ne small len some_ bytes = absurd (omega arith)
  cell_reads (b ∷ []) o p is ne small len some_ bytes = let byte : cell_byte w c o ≡ b = subst (λ (n : ℕ). cell_byte w c n ≡ b) (let e : o + 0 ≡ o = omega arith in e) (bytes 0 (omega arith)) in
      (ne, none b o p is ne small (omega arith) byte, only b o p is ne small (omega arith) byte, last b o p is ne small (omega arith) byte (omega arith))
  cell_reads (b ∷ d ∷ bs) o p is ne small len some_ bytes = let byte : cell_byte w c o ≡ b = subst (λ (n : ℕ). cell_byte w c n ≡ b) (let e : o + 0 ≡ o = omega arith in e) (bytes 0 (omega arith)) in let less : o ≤ 27 = omega arith in let further : o < 27 = omega arith in (
    ne,
    none b o p is ne small less byte,
    only b o p is ne small less byte,
    subst (λ (x : ℕ). Reads (reading w) x (d ∷ bs) (field w c 7)) (sym (next b o p is ne small less byte further))
        (cell_reads (d ∷ bs) (o + 1) (p + 1) (omega arith) (λ e. omega arith) (let at : p % 32 ≡ o = offset b o p is ne small less byte in omega arith) (omega arith) (omega arith)
        (λ i l. let e : o + suc i ≡ o + 1 + i = omega arith in subst (λ (n : ℕ). cell_byte w c n ≡ get_or (d ∷ bs) i 0) e (bytes (suc i) (omega arith)))),
  )
