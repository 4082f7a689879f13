-- Files in a map of the code, and in a finite map.
use Rattle.std.proofs.Common.{◌≡◌, ◌∙◌, ℕ, cond, List, [], ◌∷◌, ◌++◌, Option, None, Some, IsSome, unwrap_or, refl, sym, ap, subst}
use Rattle.std.specs.declared.cmp.Ordering.{Ordering}
use Rattle.std.specs.declared.cmp.Ordering.TheVariants.{Less, Equal, Greater}
use Rattle.std.specs.Ordering.{nat_cmp, ordering_then, eq_by_cmp, is_eq}
use Rattle.std.specs.Cmp.{eq_by_cmp_equiv}
use Rattle.std.specs.Map.{lookup}
use Rattle.std.specs.FinMap as map
use Rattle.std.specs.BTreeMap.{BTreeMap, UpdatesBy, WritesThrough, get, get_by, is_at}
use Rattle.outside.specs.Files.{bytes_of, file_cmp, file_cmp_total, files_of, place_of}
use Rattle.outside.specs.declared.store.FileId.{FileId}
use Rattle.outside.specs.declared.store.Part.{Part}
use Rattle.outside.specs.declared.store.Part.TheVariants.{Data, Partitions, Rows, Schema}

same_part : (a b : Part) → nat_cmp (place_of a) (place_of b) ≡ Equal → a ≡ b
same_part Data Data e = refl
same_part Data Partitions e = cc
same_part Data Rows e = cc
same_part Data Schema e = cc
same_part Partitions Data e = cc
same_part Partitions Partitions e = refl
same_part Partitions Rows e = cc
same_part Partitions Schema e = cc
same_part Rows Data e = cc
same_part Rows Partitions e = cc
same_part Rows Rows e = refl
same_part Rows Schema e = cc
same_part Schema Data e = cc
same_part Schema Partitions e = cc
same_part Schema Rows e = cc
same_part Schema Schema e = refl

both_tie : (r s : Ordering) → ordering_then r s ≡ Equal → (r ≡ Equal) × (s ≡ Equal)
both_tie Less s e = cc
both_tie Equal s e = (refl, e)
both_tie Greater s e = cc

pub file_cmp-IsAntisymmetric : map.IsAntisymmetric file_cmp
file_cmp-IsAntisymmetric x y e =
    let ties = both_tie (nat_cmp x.generation y.generation) (nat_cmp (place_of x.part) (place_of y.part)) e in
    let generations = map.nat_cmp-IsAntisymmetric x.generation y.generation ties.0 in
    let parts = same_part x.part y.part ties.1 in
    λ i. record { generation = generations i; part = parts i }

found : (q : FileId) (es : List (FileId × List ℕ)) → map.find file_cmp q es ≡ lookup (is_at (file_cmp q)) es
found q [] = refl
found q (e ∷ es) = ap (cond (eq_by_cmp file_cmp q e.0) (Some e.1)) (found q es)

-- what the finite map has at a name is what the code's map has there
pub get-files_of : (m : BTreeMap FileId (List ℕ)) (q : FileId) → map.get (files_of m) q ≡ lookup (is_at (file_cmp q)) m.entries
get-files_of m q = map.get-from_entries file_cmp_total m.entries q ∙ found q m.entries

-- a file set in the code's map is set in the finite map
pub files_of-set : (m n : BTreeMap FileId (List ℕ)) (k : FileId) (v : List ℕ) → UpdatesBy file_cmp (file_cmp k) m n (Some v)
    → files_of n ≡ map.insert (files_of m) k v
files_of-set m n k v h = map.same_map file_cmp_total file_cmp-IsAntisymmetric _ _ (λ q.
    get-files_of n q ∙ h.0 q
    ∙ ap (λ b. cond b (Some v) (lookup (is_at (file_cmp q)) m.entries)) ((eq_by_cmp_equiv file_cmp_total).symm k q)
    ∙ ap (cond (eq_by_cmp file_cmp q k) (Some v)) (sym (get-files_of m q))
    ∙ sym (map.get-insert file_cmp_total (files_of m) k v q))

-- what the code's map has at a name are the bytes of the file
bytes_of-files_of : (m : BTreeMap FileId (List ℕ)) (k : FileId) (found : Option (List ℕ)) → found ≡ get_by (file_cmp k) m
    → bytes_of (files_of m) k ≡ unwrap_or found []
bytes_of-files_of m k found is = ap (λ o. unwrap_or o []) (get-files_of m k ∙ sym is)

-- longer bytes are written at a name that is there
pub files_of-extended : (m n : BTreeMap FileId (List ℕ)) (k : FileId) (old piece : List ℕ) → Some old ≡ get_by (file_cmp k) m
    → WritesThrough file_cmp (file_cmp k) m (old ++ piece) n
    → files_of n ≡ map.insert (files_of m) k (bytes_of (files_of m) k ++ piece)
files_of-extended m n k old piece is h =
    files_of-set m n k (old ++ piece) (h.3 (subst IsSome is refl))
    ∙ ap (λ bs. map.insert (files_of m) k (bs ++ piece)) (sym (bytes_of-files_of m k (Some old) is))

-- a new name gets the piece alone
pub inserted_new : (m : BTreeMap FileId (List ℕ)) (k : FileId) (piece : List ℕ) → None ≡ get_by (file_cmp k) m
    → map.insert (files_of m) k piece ≡ map.insert (files_of m) k (bytes_of (files_of m) k ++ piece)
inserted_new m k piece is = ap (λ bs. map.insert (files_of m) k (bs ++ piece)) (sym (bytes_of-files_of m k None is))

-- the same bytes are written back
pub files_of-same : (m n : BTreeMap FileId (List ℕ)) (k : FileId) (old : List ℕ) → Some old ≡ get_by (file_cmp k) m
    → WritesThrough file_cmp (file_cmp k) m old n → files_of n ≡ files_of m
files_of-same m n k old is h = map.same_map file_cmp_total file_cmp-IsAntisymmetric _ _ (λ q. get-files_of n q ∙ (h.3 (subst IsSome is refl)).0 q ∙ by q (file_cmp k q) refl ∙ sym (get-files_of m q))
  where
    by : (q : FileId) (r : Ordering) → file_cmp k q ≡ r → cond (is_eq r) (Some old) (get file_cmp m q) ≡ get file_cmp m q
    by q Less e = refl
    by q Greater e = refl
    by q Equal e = is ∙ sym (get-files_of m k) ∙ sym (map.get_tied file_cmp_total (files_of m) k q e) ∙ get-files_of m q
