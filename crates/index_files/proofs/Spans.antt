-- Bytes of a file that stand on its pages.
use Rattle.std.proofs.Common.{◌≡◌, ◌∙◌, ℕ, zero, suc, ◌+◌, ◌-◌, ◌*◌, ◌/◌, ◌%◌, ◌≤◌, List, [], ◌∷◌, ◌++◌, take, drop, Option, None, Some, IfSome, ap, arith, refl, subst, sym}
use Rattle.std.proofs.lemmas.List.{drop-drop, drop-take}
use Rattle.std.proofs.Math.Seq.{take-add}
use Rattle.outside.specs.declared.store.FileId.{FileId}
use Rattle.outside.specs.Files.{Files, bytes_of}
use Rattle.outside.specs.Pages.{page_of}

take_less : (n m : ℕ) (xs : List ℕ) → n ≤ m → take n (take m xs) ≡ take n xs
take_less zero m xs h = refl
take_less (suc n) zero xs h = absurd (omega (arith, h))
take_less (suc n) (suc m) [] h = refl
take_less (suc n) (suc m) (x ∷ xs) h = ap (λ l. x ∷ l) (take_less n m xs (omega (arith, h)))

-- so many bytes of a page are those of the file from there on
page_part : (file : List ℕ) (at count : ℕ) → at % 4096 + count ≤ 4096 → take count (drop (at % 4096) (page_of file (at / 4096))) ≡ take count (drop at file)
page_part file at count fits =
    let from = at % 4096 in
    let page = drop (4096 * (at / 4096)) file in
    let more : 4096 ≡ from + (4096 - from) = omega (arith, fits) in
    let place : 4096 * (at / 4096) + from ≡ at = omega arith in
    let enough : count ≤ 4096 - from = omega (arith, fits) in
    let rest : drop from (take 4096 page) ≡ take (4096 - from) (drop from page) = ap (λ n. drop from (take n page)) more ∙ drop-take from (4096 - from) page in
    let whole : drop from page ≡ drop at file = drop-drop from (4096 * (at / 4096)) file ∙ ap (λ n. drop n file) place in
    ap (take count) rest ∙ take_less count (4096 - from) (drop from page) enough ∙ ap (take count) whole

-- what is taken of a page is put behind what was held
pub page_added : (files : Option Files) (file : FileId) (at count : ℕ) (old page part new : List ℕ) → at % 4096 + count ≤ 4096
    → IfSome files (λ m. page ≡ page_of (bytes_of m file) (at / 4096)) → part ≡ take count (drop (at % 4096) page) → new ≡ old ++ part
    → IfSome files (λ m. new ≡ old ++ take count (drop at (bytes_of m file)))
page_added None file at count old page part new fits told taken is = tt
page_added (Some m) file at count old page part new fits told taken is =
    let front : part ≡ take count (drop at (bytes_of m file)) =
    taken ∙ ap (λ p. take count (drop (at % 4096) p)) told ∙ page_part (bytes_of m file) at count fits in
    is ∙ ap (λ p. old ++ p) front

-- the bytes of two pages, one behind the other
pub both_added : (files again : Option Files) (file : FileId) (at first next more count : ℕ) (old one two : List ℕ) → again ≡ files → old ≡ []
    → next ≡ at + first → first + more ≡ count → IfSome files (λ m. one ≡ old ++ take first (drop at (bytes_of m file)))
    → IfSome again (λ m. two ≡ one ++ take more (drop next (bytes_of m file))) → IfSome files (λ m. two ≡ take count (drop at (bytes_of m file)))
both_added None again file at first next more count old one two same none n c a b = tt
both_added (Some m) again file at first next more count old one two same none n c a b =
    let bytes = bytes_of m file in
    let behind : two ≡ one ++ take more (drop next bytes) =
    subst (λ (f : Option Files). IfSome f (λ x. two ≡ one ++ take more (drop next (bytes_of x file)))) same b in
    let front : one ≡ take first (drop at bytes) = a ∙ ap (λ l. l ++ take first (drop at bytes)) none in
    let rest : drop next bytes ≡ drop first (drop at bytes) = ap (λ k. drop k bytes) n ∙ sym (drop-drop first at bytes) in
    let joined : take first (drop at bytes) ++ take more (drop first (drop at bytes)) ≡ take (first + more) (drop at bytes) = sym (take-add first more (drop at bytes)) in
    behind ∙ ap (λ l. l ++ take more (drop next bytes)) front ∙ ap (λ l. take first (drop at bytes) ++ take more l) rest ∙ joined ∙ ap (λ k. take k (drop at bytes)) c
