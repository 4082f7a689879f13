-- What is found in held bytes is found in the file.
use Rattle.std.proofs.Common.{◌≡◌, ◌⊎◌, ◌∙◌, ℕ, ◌+◌, ◌≤◌, List, [], ◌∷◌, ◌++◌, length, take, drop, Option, None, Some, IfSome, Result, Ok, Err, Bool, IsTrue, inl, inr, arith, refl, sym, ap, append_assoc, subst}
use Rattle.std.proofs.lemmas.List.{append-nil, take-append-drop, take-append-le}
use Rattle.std.proofs.Math.Seq.{take-append_seam}
use Rattle.outside.specs.declared.store.FileId.{FileId}
use Rattle.outside.specs.Files.{Files, bytes_of}
use Rattle.bti_nodes.specs.declared.damage.Cause.TheVariants.{BadHead, BadRow}
use Rattle.key_types.specs.Columns.{Columns}
use Rattle.data_file.specs.declared.reading.Head.{Head}
use Rattle.data_file.specs.declared.reading.StaticPart.{StaticPart}
use Rattle.data_file.specs.declared.reading.RowAt.{RowAt}
use Rattle.data_file.specs.declared.reading.RowAt.TheVariants.{Row, End}
use Rattle.data_file.specs.declared.reading.DataError.{DataError}
use Rattle.data_file.specs.declared.reading.DataError.TheVariants.{StoreFault, Damaged, NoMemory}
use Rattle.length_prefix.specs.Counted.{counted}
use Rattle.data_file.specs.Listing.{head_bytes, row_bytes, static_bytes}
use Rattle.data_file.specs.Reading.{IsStaticPartAt, IsRowAt, NoStaticPart, NoHead, NoRow}
use Rattle.data_file.specs.Held.{IsFront, IsRest}
use Rattle.data_file.specs.Answers.{IsHead, IsRowOrEnd, IsStaticPart, IsStop, damage_at}
use Rattle.key_decode.proofs.Known.{string_length}

longer : (bytes front more rest : List ℕ) → bytes ≡ front ++ more → bytes ++ rest ≡ front ++ (more ++ rest)
longer bytes front more rest e = ap (λ t. t ++ rest) e ∙ append_assoc front more rest

-- ---- rows

pub row_goes_on : (columns : Columns) (bytes rest : List ℕ) (at : ℕ) (row : RowAt) → IsRowAt columns bytes at row → IsRowAt columns (bytes ++ rest) at row
row_goes_on columns bytes rest at (Row row) ((is, (more, e)), place) =
    ((is, (more ++ rest, longer bytes (row_bytes row.clustering row.value) more rest e)), place)
row_goes_on columns bytes rest at (End behind) ((more, e), place) = ((more ++ rest, longer bytes (0 ∷ []) more rest e), place)

pub damaged_row : (columns : Columns) (bytes : List ℕ) (at : ℕ) (e : DataError) → e ≡ Damaged (damage_at at BadRow) → NoRow columns bytes
    → IsRowOrEnd columns bytes at (Err e)
damaged_row columns bytes at e is none = subst (λ (x : DataError). IsRowOrEnd columns bytes at (Err x)) (sym is) (refl, none)

pub bad_alone : (columns : Columns) (bytes : List ℕ) → ((more : List ℕ) → NoRow columns (bytes ++ more)) → NoRow columns bytes
bad_alone columns bytes none = subst (λ (b : List ℕ). NoRow columns b) (append-nil bytes) (none [])

-- what is told of the held bytes and of whatever follows them holds of the file's
told_early : (files : Option Files) (file : FileId) (at : ℕ) (held : List ℕ) (Told : List ℕ → Type 0) → IsFront files file at held
    → ((rest : List ℕ) → Told (held ++ rest)) → IfSome files (λ m. Told (drop at (bytes_of m file)))
told_early None file at held Told front told = tt
told_early (Some m) file at held Told (rest, e) told = subst Told (sym e) (told rest)

told_late : (files : Option Files) (file : FileId) (at : ℕ) (held : List ℕ) (Told : List ℕ → Type 0) → IsRest files file at held
    → Told held → IfSome files (λ m. Told (drop at (bytes_of m file)))
told_late None file at held Told front told = tt
told_late (Some m) file at held Told e told = subst Told (sym e) told

pub stopped_row : (files : Option Files) (file : FileId) (columns : Columns) (at : ℕ) (e : DataError) → IsStop e
    → IfSome files (λ m. IsRowOrEnd columns (drop at (bytes_of m file)) at (Err e))
stopped_row None file columns at e stop = tt
stopped_row (Some m) file columns at StoreFault stop = tt
stopped_row (Some m) file columns at NoMemory stop = tt
stopped_row (Some m) file columns at (Damaged damage) stop = absurd stop

-- ---- static parts

pub static_part_goes_on : (columns : Columns) (bytes rest : List ℕ) (at : ℕ) (static_part : StaticPart) → IsStaticPartAt columns bytes at static_part → IsStaticPartAt columns (bytes ++ rest) at static_part
static_part_goes_on columns bytes rest at static_part ((is, (more, e)), place) =
    ((is, (more ++ rest, longer bytes (static_bytes static_part.value) more rest e)), place)

pub damaged_static_part : (columns : Columns) (bytes : List ℕ) (at : ℕ) (e : DataError) → e ≡ Damaged (damage_at at BadRow) → NoStaticPart columns bytes
    → IsStaticPart columns bytes at (Err e)
damaged_static_part columns bytes at e is none = subst (λ (x : DataError). IsStaticPart columns bytes at (Err x)) (sym is) (refl, none)

pub bad_static_part_alone : (columns : Columns) (bytes : List ℕ) → ((more : List ℕ) → NoStaticPart columns (bytes ++ more)) → NoStaticPart columns bytes
bad_static_part_alone columns bytes none = subst (λ (b : List ℕ). NoStaticPart columns b) (append-nil bytes) (none [])

pub stopped_static_part : (files : Option Files) (file : FileId) (columns : Columns) (at : ℕ) (e : DataError) → IsStop e
    → IfSome files (λ m. IsStaticPart columns (drop at (bytes_of m file)) at (Err e))
stopped_static_part None file columns at e stop = tt
stopped_static_part (Some m) file columns at StoreFault stop = tt
stopped_static_part (Some m) file columns at NoMemory stop = tt
stopped_static_part (Some m) file columns at (Damaged damage) stop = absurd stop

-- ---- heads

pub damaged_head : (columns : Columns) (bytes : List ℕ) (at : ℕ) (e : DataError) → e ≡ Damaged (damage_at at BadHead) → NoHead columns bytes
    → IsHead columns bytes at (Err e)
damaged_head columns bytes at e is none = subst (λ (x : DataError). IsHead columns bytes at (Err x)) (sym is) (refl, none)

front_of : (a r b s : List ℕ) → length b ≤ length a → a ++ r ≡ b ++ s → a ≡ b ++ drop (length b) a
front_of a r b s n e =
    let front : take (length b) a ≡ b = sym (take-append-le (length b) a r n) ∙ ap (take (length b)) e ∙ take-append_seam b s in
    sym (take-append-drop (length b) a) ∙ ap (λ t. t ++ drop (length b) a) front

pub no_head_on : (columns : Columns) (held rest : List ℕ) → 1026 ≤ length held → NoHead columns held → NoHead columns (held ++ rest)
no_head_on columns held rest long none key (is, (more, f)) =
    let short = string_length columns.partition key is in
    let fits : length (counted key) ≤ length held = omega arith in
    none key (is, (drop (length (counted key)) held, front_of held rest (counted key) more fits f))

head_goes_on : (columns : Columns) (held rest : List ℕ) (at : ℕ) (found : Result Head DataError) → 1026 ≤ length held → IsHead columns held at found
    → IsHead columns (held ++ rest) at found
head_goes_on columns held rest at (Ok head) long ((is, (more, f)), place) =
    ((is, (more ++ rest, longer held (head_bytes head.partition) more rest f)), place)
head_goes_on columns held rest at (Err (Damaged damage)) long (is, none) = (is, no_head_on columns held rest long none)
head_goes_on columns held rest at (Err StoreFault) long told = tt
head_goes_on columns held rest at (Err NoMemory) long told = tt

-- the held bytes are all that there are, or enough for a head
pub told_head : (files : Option Files) (file : FileId) (columns : Columns) (at : ℕ) (held : List ℕ) (ended : Bool) (found : Result Head DataError)
    → IsFront files file at held → IsTrue ended ⊎ (length held ≡ 4096) → (IsTrue ended → IsRest files file at held) → IsHead columns held at found
    → IfSome files (λ m. IsHead columns (drop at (bytes_of m file)) at found)
told_head None file columns at held ended found front enough whole told = tt
told_head (Some m) file columns at held ended found (rest, f) (inl end) whole told =
    subst (λ (b : List ℕ). IsHead columns b at found) (sym (whole end)) told
told_head (Some m) file columns at held ended found (rest, f) (inr long) whole told =
    subst (λ (b : List ℕ). IsHead columns b at found) (sym f) (head_goes_on columns held rest at found (omega arith) told)

pub stopped_head : (files : Option Files) (file : FileId) (columns : Columns) (at : ℕ) (e : DataError) → IsStop e
    → IfSome files (λ m. IsHead columns (drop at (bytes_of m file)) at (Err e))
stopped_head None file columns at e stop = tt
stopped_head (Some m) file columns at StoreFault stop = tt
stopped_head (Some m) file columns at NoMemory stop = tt
stopped_head (Some m) file columns at (Damaged damage) stop = absurd stop

-- nothing is held at first
pub none_held : (files : Option Files) (file : FileId) (at : ℕ) (held : List ℕ) → held ≡ [] → IsFront files file at held
none_held None file at held e = tt
none_held (Some m) file at held e = (drop at (bytes_of m file), sym (ap (λ h. h ++ drop at (bytes_of m file)) e))

-- ---- as the functions know them: files that stayed, and the held bytes as a slice

pub head_stays : (old new : Option Files) (file : FileId) (columns : Columns) (at : ℕ) (held bytes : List ℕ) (ended : Bool) (found : Result Head DataError)
    → new ≡ old → bytes ≡ held → IsFront new file at held → IsTrue ended ⊎ (length held ≡ 4096) → (IsTrue ended → IsRest new file at held)
    → IsHead columns bytes at found → IfSome old (λ m. IsHead columns (drop at (bytes_of m file)) at found)
head_stays old new file columns at held bytes ended found same is front enough whole told =
    subst (λ (f : Option Files). IfSome f (λ m. IsHead columns (drop at (bytes_of m file)) at found)) same
    (told_head new file columns at held ended found front enough whole (subst (λ (b : List ℕ). IsHead columns b at found) is told))

pub early_stays : (old new : Option Files) (file : FileId) (at : ℕ) (held bytes : List ℕ) (Told : List ℕ → Type 0) → new ≡ old
    → bytes ≡ held → IsFront new file at held → ((rest : List ℕ) → Told (bytes ++ rest))
    → IfSome old (λ m. Told (drop at (bytes_of m file)))
early_stays old new file at held bytes Told same is front told =
    subst (λ (f : Option Files). IfSome f (λ m. Told (drop at (bytes_of m file)))) same
    (told_early new file at held Told front (subst (λ (b : List ℕ). (rest : List ℕ) → Told (b ++ rest)) is told))

pub late_stays : (old new : Option Files) (file : FileId) (at : ℕ) (held bytes : List ℕ) (Told : List ℕ → Type 0) → new ≡ old
    → bytes ≡ held → IsRest new file at held → Told bytes → IfSome old (λ m. Told (drop at (bytes_of m file)))
late_stays old new file at held bytes Told same is rest told =
    subst (λ (f : Option Files). IfSome f (λ m. Told (drop at (bytes_of m file)))) same
    (told_late new file at held Told rest (subst Told is told))

pub first_page : (ended : Bool) (held new : List ℕ) → held ≡ [] → IsTrue ended ⊎ (length new ≡ length held + 4096) → IsTrue ended ⊎ (length new ≡ 4096)
first_page ended held new none (inl end) = inl end
first_page ended held new none (inr grown) = inr (grown ∙ ap (λ h. length h + 4096) none)
