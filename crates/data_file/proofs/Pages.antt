-- Held bytes of a file, and the next ones.
use Rattle.std.proofs.Common.{◌≡◌, ◌∙◌, ℕ, ◌+◌, ◌<◌, ◌≤◌, List, ◌++◌, length, take, drop, Option, None, Some, Ok, arith, sym, ap, append_assoc}
use Rattle.std.proofs.lemmas.List.{take-append-drop, drop-drop, take_all}
use Rattle.std.proofs.Math.Seq.{drop-append_seam}
use Rattle.outside.specs.declared.store.FileId.{FileId}
use Rattle.outside.specs.declared.stream.Failed.{Failed}
use Rattle.outside.specs.Files.{Files, ReadsBytes, bytes_of}
use Rattle.data_file.specs.Held.{IsFront, IsRest}

next : (bytes held rest : List ℕ) (at place : ℕ) → place ≡ at + length held → drop at bytes ≡ held ++ rest → drop place bytes ≡ rest
next bytes held rest at place p e =
    ap (λ n. drop n bytes) p ∙ sym (drop-drop (length held) at bytes) ∙ ap (drop (length held)) e ∙ drop-append_seam held rest

-- a page is put behind the held bytes
pub read_front : (files : Option Files) (file : FileId) (at place count : ℕ) (held into new : List ℕ) → place ≡ at + length held
    → IsFront files file at held → ReadsBytes {E = Failed} files file place (Ok count) into → new ≡ held ++ take count into → IsFront files file at new
read_front None file at place count held into new p front read is = tt
read_front (Some m) file at place count held into new p (rest, e) (n, same, short) is =
    let left = next (bytes_of m file) held rest at place p e in
    let piece : take count into ≡ take count rest = same ∙ ap (take count) left in
    let whole : drop at (bytes_of m file) ≡ (held ++ take count rest) ++ drop count rest =
    e ∙ ap (λ t. held ++ t) (sym (take-append-drop count rest)) ∙ sym (append_assoc held (take count rest) (drop count rest)) in
    let kept : new ≡ held ++ take count rest = is ∙ ap (λ t. held ++ t) piece in
    (drop count rest, whole ∙ ap (λ t. t ++ drop count rest) (sym kept))

-- the last page
pub read_rest : (files : Option Files) (file : FileId) (at place count : ℕ) (held into new : List ℕ) → place ≡ at + length held
    → IsFront files file at held → ReadsBytes {E = Failed} files file place (Ok count) into → new ≡ held ++ take count into → count < length into → IsRest files file at new
read_rest None file at place count held into new p front read is less = tt
read_rest (Some m) file at place count held into new p (rest, e) (n, same, short) is less =
    let left = next (bytes_of m file) held rest at place p e in
    let piece : take count into ≡ take count rest = same ∙ ap (take count) left in
    let long : length (drop place (bytes_of m file)) ≡ length rest = ap length left in
    let enough : length rest ≤ count = omega arith in
    e ∙ ap (λ t. held ++ t) (sym (take_all count rest enough) ∙ sym piece) ∙ sym is
