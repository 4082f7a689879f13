-- A window that is read ahead by a page.
use Rattle.std.proofs.Common.{◌≡◌, ℕ, ◌+◌, ◌-◌, ◌<◌, ◌^◌, Bool, true, false, min, List, [], ◌++◌, length, take, drop, sym, ◌∙◌, ap, arith, refl, None, Some}
use Rattle.std.specs.Prelude.{Option, IfSome}
use Rattle.std.proofs.lemmas.List.{append_assoc, take-append-drop, length-drop}
use Rattle.std.proofs.Math.ListN.{drop_of_length-le}
use Rattle.outside.specs.Files.{Files, bytes_of}
use Rattle.outside.specs.declared.store.FileId.{FileId}
use Rattle.table_files.proofs.Passing.{behind}
use Rattle.table_reader.specs.Window.{Unread, Continues, PaysReads, last_page, read_to}

-- what a read answers of a file
abbrev pub ReadIs : List ℕ → ℕ → ℕ → List ℕ → Type 0
ReadIs file end n page = (n ≡ min (length page) (length (drop end file))) × (take n page ≡ take n (drop end file)) × (length file < 2 ^ 62)

-- a page more, behind which the file ends where it isn't whole
one_page : (file page bytes : List ℕ) (end n k : ℕ) (whole : Bool) (w : Unread) → Continues file w → end ≡ w.at + length w.bytes → k ≡ min n (w.limit - end) → ReadIs file end n page
    → bytes ≡ w.bytes ++ take k page → (whole ≡ true → (w.whole ≡ true → ⊥) → k < length page) → Continues file (record { bytes = bytes; at = w.at; limit = w.limit; whole = whole })
one_page file page bytes end n k whole w c place cut read is short =
    let b : drop end file ≡ c.rest = ap (λ i. drop i file) place ∙ behind file w.bytes c.rest w.at c.is in
    let uncut : k ≡ n = omega (arith, c.long, read.0, length-drop end file) in
    let front : take k page ≡ take k c.rest = ap (λ i. take i page) uncut ∙ (read.1 ∙ (ap (take n) b ∙ ap (λ i. take i c.rest) (sym uncut))) in
    let joined : bytes ++ drop k c.rest ≡ w.bytes ++ c.rest = ap (λ (xs : List ℕ). xs ++ drop k c.rest) (is ∙ ap (λ (xs : List ℕ). w.bytes ++ xs) front) ∙ rw append_assoc (ap (λ (xs : List ℕ). w.bytes ++ xs) (take-append-drop k c.rest)) in
    record {
      rest = drop k c.rest;
      is = c.is ∙ sym joined;
      ended = λ all. ends (w.whole) c.ended (short all) b uncut;
      long = c.long;
    }
  where
    ends : (was : Bool) → (was ≡ true → c.rest ≡ []) → ((was ≡ true → ⊥) → k < length page) → drop end file ≡ c.rest → k ≡ n → drop k c.rest ≡ []
    ends true ended less b uncut = ap (drop k) (ended refl) ∙ drop_of_length-le [] (omega arith)
    ends false ended less b uncut = let few : k < length page = less (λ (e : false ≡ true). cc) in drop_of_length-le c.rest (omega (arith, read.0, ap length b))

-- the same where the files are told
pub told_page : (files : Option Files) (file : FileId) (page bytes : List ℕ) (end n k : ℕ) (whole : Bool) (w : Unread) → end ≡ w.at + length w.bytes → k ≡ min n (w.limit - end)
    → bytes ≡ w.bytes ++ take k page → (whole ≡ true → (w.whole ≡ true → ⊥) → k < length page) → IfSome files (λ m. ReadIs (bytes_of m file) end n page)
    → IfSome files (λ m. Continues (bytes_of m file) w → Continues (bytes_of m file) (record { bytes = bytes; at = w.at; limit = w.limit; whole = whole }))
told_page None file page bytes end n k whole w place cut is short read = tt
told_page (Some m) file page bytes end n k whole w place cut is short read = λ c. one_page (bytes_of m file) page bytes end n k whole w c place cut read is short

-- ---- reads

-- a window that is read ahead, and then passes what it has
pub pays_on : (first w v u : Unread) (r0 r1 r2 : ℕ) → PaysReads first w r0 r1 → PaysReads w v r1 r2 → read_to u ≡ read_to v → u.whole ≡ v.whole → PaysReads first u r0 r2
pays_on first w v u r0 r1 r2 paid more same whole = omega (arith, paid, more, same, ap last_page whole)
