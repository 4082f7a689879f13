-- What a writer leaves where it fails.
use Rattle.std.proofs.Common.{◌≡◌, ℕ, List, [], take, drop, Option, None, Some, Result, Ok, Err, IsErr, inl, inr, refl, sym, subst}
use Rattle.std.proofs.lemmas.List.{take-append-drop}
use Rattle.outside.specs.declared.store.FileId.{FileId}
use Rattle.outside.specs.declared.stream.Failed.{Failed}
use Rattle.outside.specs.Files.{Appends, Files, LeavesPrefix}
use Rattle.data_file.specs.Writing.{AppendsWhole, PutsButHeld, PutsAllBut}

none_put : (m : Files) (file : FileId) (bytes : List ℕ) → (left : List ℕ) × PutsAllBut m m file bytes left
none_put m file bytes = (bytes, ([], refl, inr (refl, refl)))

prefix_put : (xs ys : Files) (file : FileId) (bytes : List ℕ) → LeavesPrefix xs ys file bytes → (left : List ℕ) × PutsAllBut xs ys file bytes left
prefix_put xs ys file bytes (inl same) = (bytes, ([], refl, inr (refl, same)))
prefix_put xs ys file bytes (inr (k, n, is)) = (drop k bytes, (take k bytes, sym (take-append-drop k bytes), inl is))

-- before anything was appended
pub nothing_put : {T E : Type 0} (files : Option Files) (file : FileId) (r : Result T E) (bytes held : List ℕ) → IsErr r → PutsButHeld files files file r bytes held
nothing_put None file r bytes held bad = tt
nothing_put (Some m) file (Ok x) bytes held bad = cc
nothing_put (Some m) file (Err e) bytes held bad = none_put m file bytes

-- by a failed append
pub failed_put : {T E : Type 0} (old new : Option Files) (file : FileId) (r : Result T E) (e : Failed) (piece bytes held : List ℕ) → IsErr r → piece ≡ bytes
    → Appends {T = Unit {0}} old new file (Err e) piece → PutsButHeld old new file r bytes held
failed_put None None file r e piece bytes held bad same left = tt
failed_put None (Some n) file r e piece bytes held bad same left = left
failed_put (Some m) None file r e piece bytes held bad same left = left
failed_put (Some m) (Some n) file (Ok x) e piece bytes held bad same left = cc
failed_put (Some m) (Some n) file (Err x) e piece bytes held bad same left = prefix_put m n file bytes (subst (LeavesPrefix m n file) same left)

pub failed_finish : {T E : Type 0} (old new : Option Files) (file : FileId) (r : Result T E) (e : Failed) (piece bytes : List ℕ) → IsErr r → piece ≡ bytes
    → Appends {T = Unit {0}} old new file (Err e) piece → AppendsWhole old new file r bytes
failed_finish None None file r e piece bytes bad same left = tt
failed_finish None (Some n) file r e piece bytes bad same left = left
failed_finish (Some m) None file r e piece bytes bad same left = left
failed_finish (Some m) (Some n) file (Ok x) e piece bytes bad same left = cc
failed_finish (Some m) (Some n) file (Err x) e piece bytes bad same left = prefix_put m n file bytes (subst (LeavesPrefix m n file) same left)
