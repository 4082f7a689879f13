-- A file that is set in the files, and pieces appended to it one behind the other.
use Rattle.std.proofs.Common.{◌≡◌, ℕ, suc, ◌+◌, ◌<◌, ◌^◌, Bool, true, false, cond, List, [], ◌∷◌, ◌++◌, length, take, Option, None, Some, Result, Ok, Err, IsErr, inl, inr, unwrap_or, refl, sym, ◌∙◌, ap, subst, arith}
use Rattle.std.proofs.lemmas.List.{append_assoc, length-append, take-append-le}
use Rattle.std.proofs.Math.Seq.{take-length}
use Rattle.std.specs.declared.cmp.Ordering.{Ordering}
use Rattle.std.specs.declared.cmp.Ordering.TheVariants.{Less, Equal, Greater}
use Rattle.std.specs.Ordering.{eq_by_cmp, nat_cmp, ordering_then}
use Rattle.std.specs.Cmp.{eq_by_cmp_equiv}
use Rattle.std.specs.FinMap as map
use Rattle.outside.specs.Files.{Appends, Files, LeavesPrefix, bytes_of, file_cmp, file_cmp_total, part_at, part_at-place_of, place_of}
use Rattle.outside.specs.declared.store.FileId.{FileId}

-- ---- a file set

both_tie : (r s : Ordering) → ordering_then r s ≡ Equal → (r ≡ Equal) × (s ≡ Equal)
both_tie Less s e = cc
both_tie Equal s e = (refl, e)
both_tie Greater s e = cc

same_file : map.IsAntisymmetric file_cmp
same_file x y e =
    let ties = both_tie (nat_cmp x.generation y.generation) (nat_cmp (place_of x.part) (place_of y.part)) e in
    let generations : x.generation ≡ y.generation = map.nat_cmp-IsAntisymmetric x.generation y.generation ties.0 in
    let places : place_of x.part ≡ place_of y.part = map.nat_cmp-IsAntisymmetric (place_of x.part) (place_of y.part) ties.1 in
    let parts : x.part ≡ y.part = sym (part_at-place_of x.part) ∙ ap part_at places ∙ part_at-place_of y.part in
    λ i. record { generation = generations i; part = parts i }

pub get-same : (files : Files) (file : FileId) (bytes : List ℕ) → map.get (map.insert files file bytes) file ≡ Some bytes
get-same files file bytes =
    map.get-insert file_cmp_total files file bytes file
    ∙ ap (λ (b : Bool). cond b (Some bytes) (map.get files file)) ((eq_by_cmp_equiv file_cmp_total).refl file)

twice_by : {X : Type 0} (b : Bool) (x y z : X) → cond b x (cond b y z) ≡ cond b x z
twice_by true x y z = refl
twice_by false x y z = refl

pub insert-twice : (files : Files) (file : FileId) (first second : List ℕ) → map.insert (map.insert files file first) file second ≡ map.insert files file second
insert-twice files file first second = map.same_map file_cmp_total same_file _ _ (λ q.
    map.get-insert file_cmp_total (map.insert files file first) file second q
    ∙ ap (λ (o : Option (List ℕ)). cond (eq_by_cmp file_cmp q file) (Some second) o) (map.get-insert file_cmp_total files file first q)
    ∙ twice_by (eq_by_cmp file_cmp q file) (Some second) (Some first) (map.get files q)
    ∙ sym (map.get-insert file_cmp_total files file second q))

pub bytes_of-same : (files : Files) (file : FileId) (bytes : List ℕ) → bytes_of (map.insert files file bytes) file ≡ bytes
bytes_of-same files file bytes = ap (λ (o : Option (List ℕ)). unwrap_or o []) (get-same files file bytes)

-- ---- pieces

set_behind : (xs ys zs : Files) (file : FileId) (a b : List ℕ) → ys ≡ map.insert xs file (bytes_of xs file ++ a) → zs ≡ map.insert ys file (bytes_of ys file ++ b)
    → zs ≡ map.insert xs file (bytes_of xs file ++ (a ++ b))
set_behind xs ys zs file a b first second =
    let made : Files = map.insert xs file (bytes_of xs file ++ a) in
    second
    ∙ ap (λ (m : Files). map.insert m file (bytes_of m file ++ b)) first
    ∙ ap (λ (bs : List ℕ). map.insert made file (bs ++ b)) (bytes_of-same xs file (bytes_of xs file ++ a))
    ∙ insert-twice xs file (bytes_of xs file ++ a) ((bytes_of xs file ++ a) ++ b)
    ∙ ap (λ (bs : List ℕ). map.insert xs file bs) (append_assoc (bytes_of xs file) a b)

-- the length of a file that was set twice
set_length : (xs ys : Files) (file : FileId) (a b : List ℕ) → ys ≡ map.insert xs file (bytes_of xs file ++ a) → length (bytes_of ys file ++ b) < 2 ^ 62
    → length (bytes_of xs file ++ (a ++ b)) < 2 ^ 62
set_length xs ys file a b first few =
    let made : bytes_of ys file ≡ bytes_of xs file ++ a = ap (λ (m : Files). bytes_of m file) first ∙ bytes_of-same xs file (bytes_of xs file ++ a) in
    subst (λ (bs : List ℕ). length bs < 2 ^ 62) (ap (λ (bs : List ℕ). bs ++ b) made ∙ append_assoc (bytes_of xs file) a b) few

-- a prefix of a piece is one of a longer piece,
left_more : (xs ys : Files) (file : FileId) (a b : List ℕ) → LeavesPrefix xs ys file a → LeavesPrefix xs ys file (a ++ b)
left_more xs ys file a b (inl same) = inl same
left_more xs ys file a b (inr (k, n, is)) =
    inr (k, omega (arith, n, length-append a b), is ∙ ap (λ (bs : List ℕ). map.insert xs file (bytes_of xs file ++ bs)) (sym (take-append-le k a b n)))

-- and so is one behind a piece that stands
take_behind : (k : ℕ) (a b : List ℕ) → take (length a + k) (a ++ b) ≡ a ++ take k b
take_behind k [] b = let none : 0 + k ≡ k = omega arith in ap (λ (n : ℕ). take n b) none
take_behind k (x ∷ a) b =
    let one : suc (length a) + k ≡ suc (length a + k) = omega arith in
    ap (λ (n : ℕ). take n (x ∷ (a ++ b))) one ∙ ap (λ (l : List ℕ). x ∷ l) (take_behind k a b)

left_behind : (xs ys zs : Files) (file : FileId) (a b : List ℕ) → ys ≡ map.insert xs file (bytes_of xs file ++ a) → LeavesPrefix ys zs file b → LeavesPrefix xs zs file (a ++ b)
left_behind xs ys zs file a b first (inl same) =
    inr (length a, omega (arith, length-append a b), same ∙ first ∙ ap (λ (bs : List ℕ). map.insert xs file (bytes_of xs file ++ bs)) (sym (whole a b)))
  where
    whole : (a b : List ℕ) → take (length a) (a ++ b) ≡ a
    whole [] b = refl
    whole (x ∷ a) b = ap (λ (l : List ℕ). x ∷ l) (whole a b)
left_behind xs ys zs file a b first (inr (k, n, is)) =
    inr (
      length a + k,
      omega (arith, n, length-append a b),
      set_behind xs ys zs file a (take k b) first is ∙ ap (λ (bs : List ℕ). map.insert xs file (bytes_of xs file ++ bs)) (sym (take_behind k a b)),
    )

-- ---- appends

-- two pieces are one
pub appended_behind : (E : Type 0) {T S R F G : Type 0} (old mid new : Option Files) (file : FileId) (first : T) (second : Result S F) (both : Result R G) (a b : List ℕ)
    → (IsErr both → IsErr second) → (IsErr second → IsErr both) → Appends {E = E} old mid file (Ok first) a → Appends mid new file second b → Appends old new file both (a ++ b)
appended_behind E None None None file x s r a b up down p q = tt
appended_behind E None None (Some n) file x s r a b up down p q = q
appended_behind E None (Some m) new file x s r a b up down p q = absurd p
appended_behind E (Some o) None new file x s r a b up down p q = absurd p
appended_behind E (Some o) (Some m) None file x s r a b up down p q = q
appended_behind E (Some o) (Some m) (Some n) file x (Ok y) (Ok z) a b up down p q = (set_behind o m n file a b p.0 q.0, set_length o m file a b p.0 q.1)
appended_behind E (Some o) (Some m) (Some n) file x (Ok y) (Err z) a b up down p q = let wrong = up refl in cc
appended_behind E (Some o) (Some m) (Some n) file x (Err y) (Ok z) a b up down p q = let wrong = down refl in cc
appended_behind E (Some o) (Some m) (Some n) file x (Err y) (Err z) a b up down p q = left_behind o m n file a b p.0 q

-- where the first piece failed, a prefix of both stands
pub failed_before : {T R E G : Type 0} (old new : Option Files) (file : FileId) (first : Result T E) (both : Result R G) (a b : List ℕ)
    → IsErr first → IsErr both → Appends old new file first a → Appends old new file both (a ++ b)
failed_before None None file f r a b bad worse p = tt
failed_before None (Some n) file f r a b bad worse p = p
failed_before (Some o) None file f r a b bad worse p = p
failed_before (Some o) (Some n) file (Ok x) r a b bad worse p = cc
failed_before (Some o) (Some n) file (Err x) (Ok z) a b bad worse p = cc
failed_before (Some o) (Some n) file (Err x) (Err z) a b bad worse p = left_more o n file a b p

-- where nothing was appended behind the first piece, a prefix of both stands
pub stopped_behind : (E : Type 0) {T R G : Type 0} (old new : Option Files) (file : FileId) (first : T) (both : Result R G) (a b : List ℕ)
    → IsErr both → Appends {E = E} old new file (Ok first) a → Appends old new file both (a ++ b)
stopped_behind E None None file x r a b bad p = tt
stopped_behind E None (Some n) file x r a b bad p = p
stopped_behind E (Some o) None file x r a b bad p = p
stopped_behind E (Some o) (Some n) file x (Ok z) a b bad p = cc
stopped_behind E (Some o) (Some n) file x (Err z) a b bad p = left_behind o n n file a b p.0 (inl refl)

-- where nothing was appended, a prefix stands
pub nothing_appended : {R G : Type 0} (files : Option Files) (file : FileId) (result : Result R G) (a : List ℕ) → IsErr result → Appends files files file result a
nothing_appended None file r a bad = tt
nothing_appended (Some o) file (Ok x) a bad = cc
nothing_appended (Some o) file (Err x) a bad = inl refl

-- what a call appended is appended by one that ends with it, and fails where it fails
pub appended_as : {T R E G : Type 0} (old new : Option Files) (file : FileId) (inner : Result T E) (outer : Result R G) (a : List ℕ)
    → (IsErr inner → IsErr outer) → Appends old new file inner a → Appends old new file outer a
appended_as None None file r s a up p = tt
appended_as None (Some n) file r s a up p = p
appended_as (Some o) None file r s a up p = p
appended_as (Some o) (Some n) file (Ok x) (Ok y) a up p = p
appended_as (Some o) (Some n) file (Ok x) (Err y) a up p =
    inr (length a, omega arith, p.0 ∙ ap (λ (bs : List ℕ). map.insert o file (bytes_of o file ++ bs)) (sym (take-length a)))
appended_as (Some o) (Some n) file (Err x) (Ok y) a up p = let wrong = up refl in cc
appended_as (Some o) (Some n) file (Err x) (Err y) a up p = p
