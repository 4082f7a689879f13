-- The complements of two encodings part the other way round.
use Rattle.std.proofs.Common.{◌≡◌, ℕ, List, ◌++◌, sym, ◌∙◌, ap}
use Rattle.std.specs.Ordering.{ordering_then, ordering_reverse}
use Rattle.std.specs.declared.cmp.Ordering.{Ordering}
use Rattle.key_types.specs.Kinds.{AreBytes}
use Rattle.byte_comparable.specs.Encoding.{complement}
use Rattle.byte_comparable.proofs.Compare.{apart, reverse_then, reverse_twice, bytes_both, bytes_complement, complement_both, complement_twice, apart_complement, follows_bytes, follows_complement, KeptAs}

out : (xs p : List ℕ) → AreBytes p → complement xs ++ p ≡ complement (xs ++ complement p)
out xs p h = ap (λ l. complement xs ++ l) (sym (complement_twice p h)) ∙ sym (complement_both xs (complement p))

twice : (p q : List ℕ) → AreBytes p → AreBytes q → ordering_reverse (apart (complement p) (complement q)) ≡ apart p q
twice p q h k = ap ordering_reverse (apart_complement p q h k) ∙ reverse_twice (apart p q)

pub turn_kept : (xs ys : List ℕ) (o : Ordering) → AreBytes xs → AreBytes ys → KeptAs xs ys o → KeptAs (complement xs) (complement ys) (ordering_reverse o)
turn_kept xs ys o bx by kept p q h k =
    let hp = follows_bytes p h in
    let kq = follows_bytes q k in
    let cp = complement p in
    let cq = complement q in
    ap (λ l. apart l (complement ys ++ q)) (out xs p hp) ∙ ap (λ l. apart (complement (xs ++ cp)) l) (out ys q kq)
    ∙ apart_complement (xs ++ cp) (ys ++ cq) (bytes_both xs cp bx (bytes_complement p)) (bytes_both ys cq by (bytes_complement q))
    ∙ ap ordering_reverse (kept cp cq (follows_complement p h) (follows_complement q k))
    ∙ reverse_then o (apart cp cq) ∙ ap (λ r. ordering_then (ordering_reverse o) r) (twice p q hp kq)
