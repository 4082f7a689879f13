-- The lists of a text, parted where a reading of them stands.
use Rattle.std.proofs.Common.{◌≡◌, ℕ, List, [], ◌∷◌, ◌++◌, refl, sym, ◌∙◌, ap, subst, append_assoc}
use Rattle.std.proofs.lemmas.List.{append-nil}
use Rattle.grammar.specs.Exact.{NextIs}
use Rattle.grammar.specs.Reading.{NoSpace}
use Rattle.key_types.specs.Kinds.{Kinds}
use Rattle.key_text.proofs.Lists.{list_heads}
use Rattle.bounds_text.specs.Bounds.{AreBoundLists}
use Rattle.bounds_text.specs.Steps.{BeginsWithBound}
use Rattle.bounds_text.proofs.Ahead.{one_bound}

-- lists of components begin with no space
begins_with : (ts : Kinds) (bounds : List (List ℕ)) (read left : List ℕ) → AreBoundLists ts bounds read → NextIs NoSpace left → NextIs NoSpace (read ++ left)
begins_with ts [] read left h n = subst (λ (l : List ℕ). NextIs NoSpace (l ++ left)) (sym h) n
begins_with ts (bound ∷ bounds) read left (vs, list, rest, is, fit, string, lists, parts) n =
    let p = list_heads ts vs list is in
    subst (λ (l : List ℕ). NextIs NoSpace (l ++ left)) (sym (parts ∙ ap (λ l. l ++ rest) p.2)) p.3

pub begins : (ts : Kinds) (bounds : List (List ℕ)) (bytes : List ℕ) → AreBoundLists ts bounds bytes → NextIs NoSpace bytes
begins ts bounds bytes h = subst (NextIs NoSpace) (append-nil bytes) (begins_with ts bounds bytes [] h tt)

-- no list is empty
pub none_left : (ts : Kinds) (bounds : List (List ℕ)) → AreBoundLists ts bounds [] → bounds ≡ []
none_left ts [] h = refl
none_left ts (bound ∷ bounds) (vs, list, rest, is, fit, string, lists, parts) = absurd (no (list_heads ts vs list is))
  where
    no : (b : ℕ) × (bs : List ℕ) × (list ≡ b ∷ bs) × NoSpace b → ⊥
    no (b, bs, e, n) = let some : [] ≡ b ∷ (bs ++ rest) = parts ∙ ap (λ l. l ++ rest) e in cc

-- some bytes have a first bound
pub first_left : (ts : Kinds) (bounds : List (List ℕ)) (left : List ℕ) → AreBoundLists ts bounds left → (left ≡ [] → ⊥)
    → (bound : List ℕ) × (more : List (List ℕ)) × (behind : List ℕ) × (bounds ≡ bound ∷ more) × BeginsWithBound ts left bound behind
first_left ts [] left h some = absurd (some h)
first_left ts (bound ∷ bounds) left (vs, list, rest, is, fit, string, lists, parts) some =
    (bound, bounds, rest, refl, record { components = vs; list = list; is_list = is; fit = fit; string = string; parts = parts; next = begins ts bounds rest lists })

-- the bounds of a text are those read, and those of the bytes left
pub parted : (ts : Kinds) (bounds all : List (List ℕ)) (read left : List ℕ) → AreBoundLists ts bounds read → NextIs NoSpace left → AreBoundLists ts all (read ++ left)
    → (more : List (List ℕ)) × (all ≡ bounds ++ more) × AreBoundLists ts more left
parted ts [] all read left h n k = (all, refl, subst (λ (l : List ℕ). AreBoundLists ts all (l ++ left)) h k)
parted ts (a ∷ firsts) [] read left (vs, list, rest, is, fit, string, lists, parts) n k = absurd (no (list_heads ts vs list is))
  where
    no : (b : ℕ) × (bs : List ℕ) × (list ≡ b ∷ bs) × NoSpace b → ⊥
    no (b, bs, e, n) = let some : [] ≡ b ∷ ((bs ++ rest) ++ left) = sym k ∙ ap (λ l. l ++ left) (parts ∙ ap (λ l. l ++ rest) e) in cc
parted ts (a ∷ firsts) (b ∷ bs) read left (vs, list, rest, is, fit, string, lists, parts) n (ws, other, behind, are, fits, same, others, halves) =
    let one : BeginsWithBound ts (read ++ left) a (rest ++ left) = record {
      components = vs;
      list = list;
      is_list = is;
      fit = fit;
      string = string;
      parts = ap (λ l. l ++ left) parts ∙ append_assoc list rest left;
      next = begins_with ts firsts rest left lists n;
    } in
    let two : BeginsWithBound ts (read ++ left) b behind = record {
      components = ws;
      list = other;
      is_list = are;
      fit = fits;
      string = same;
      parts = halves;
      next = begins ts bs behind others;
    } in
    let p = one_bound ts (read ++ left) a b (rest ++ left) behind one two in
    let (more, e, h) = parted ts firsts bs rest left lists n (subst (AreBoundLists ts bs) (sym p.1) others) in
    (more, ap (λ x. x ∷ bs) (sym p.0) ∙ ap (λ l. a ∷ l) e, h)

-- a list behind others
pub one_more : (ts : Kinds) (bounds : List (List ℕ)) (read bytes bound behind : List ℕ) → AreBoundLists ts bounds read → (h : BeginsWithBound ts bytes bound behind) → AreBoundLists ts (bounds ++ bound ∷ []) (read ++ h.list)
one_more ts [] read bytes bound behind e h = (h.components, h.list, [], h.is_list, h.fit, h.string, refl, ap (λ l. l ++ h.list) e ∙ sym (append-nil h.list))
one_more ts (a ∷ firsts) read bytes bound behind (vs, list, rest, is, fit, string, lists, parts) h =
    (vs, list, rest ++ h.list, is, fit, string, one_more ts firsts rest bytes bound behind lists h, ap (λ l. l ++ h.list) parts ∙ append_assoc list rest h.list)
