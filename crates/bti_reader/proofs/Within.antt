-- How many reads a search makes, whatever it answers.
use Rattle.std.proofs.Common.{◌≡◌, ◌≢◌, ℕ, ◌+◌, ◌<◌, ◌≤◌, List, length, Option, Some, None, Result, Ok, Err, IfSome, refl, sym, subst, arith}
use Rattle.outside.specs.declared.store.FileId.{FileId}
use Rattle.outside.specs.declared.store.Part.{Part}
use Rattle.outside.specs.Files.{Files, bytes_of}
use Rattle.data_file.specs.declared.reading.DataError.TheVariants.{StoreFault, NoMemory, Damaged}
use Rattle.bti_reader.specs.declared.nearest.Spare.{Spare}
use Rattle.bti_reader.specs.declared.nearest.Spare.TheVariants.{Nothing, Own, From}
use Rattle.bti_reader.specs.Searches.{Answer, first_path, last_path}
use Rattle.bti_reader.specs.Steps.{SearchAnswers, SpareFits, WithinFound, WithinReply, WithinSpare, answer_of, spare_answer}
use Rattle.bti_reader.proofs.Asking.{Reply}
use Rattle.bti_reader.proofs.Sound.{first_is_some, last_is_some}

pub within_any : (before after : ℕ) (r : Reply) → after ≤ before → WithinReply before after r
within_any before after (Ok None) l = l
within_any before after (Ok (Some hit)) l = omega (arith, l)
within_any before after (Err e) l = tt

-- more reads before, and fewer behind
pub within_less : (before before' after after' : ℕ) (r : Reply) → before + after' ≤ before' + after → WithinReply before after r → WithinReply before' after' r
within_less before before' after after' (Ok None) l w = omega (arith, l, w)
within_less before before' after after' (Ok (Some hit)) l w = omega (arith, l, w)
within_less before before' after after' (Err e) l w = tt

pub found_any : (files : Option Files) (file : FileId) (passed : ℕ) (search : List ℕ → Answer) (before after : ℕ) → after ≤ before → WithinFound files file passed search before after
found_any None file passed search before after l = tt
found_any (Some m) file passed search before after l = within_any before after (answer_of file.part passed (search (bytes_of m file))) l

-- ---- the ways down

deep_within : (part : Part) (passed : ℕ) (a : Answer) (before after : ℕ) → a ≢ Ok None → after ≤ before + passed → WithinReply before after (answer_of part passed a)
deep_within part passed (Err w) before after some l = tt
deep_within part passed (Ok None) before after some l = absurd (some refl)
deep_within part passed (Ok (Some p)) before after some l = omega (arith, l)

pub first_within : (files : Option Files) (file : FileId) (start position passed taken before after : ℕ)
    → IfSome files (λ m. answer_of file.part passed (first_path (bytes_of m file) position) ≡ answer_of file.part taken (first_path (bytes_of m file) start)) → after ≤ before + passed
    → WithinFound files file taken (λ bytes. first_path bytes start) before after
first_within None file start position passed taken before after same l = tt
first_within (Some m) file start position passed taken before after same l =
    subst (WithinReply before after) same (deep_within file.part passed (first_path (bytes_of m file) position) before after (first_is_some (bytes_of m file) position) l)

pub last_within : (files : Option Files) (file : FileId) (start position passed taken before after : ℕ)
    → IfSome files (λ m. answer_of file.part passed (last_path (bytes_of m file) position) ≡ answer_of file.part taken (last_path (bytes_of m file) start)) → after ≤ before + passed
    → WithinFound files file taken (λ bytes. last_path bytes start) before after
last_within None file start position passed taken before after same l = tt
last_within (Some m) file start position passed taken before after same l =
    subst (WithinReply before after) same (deep_within file.part passed (last_path (bytes_of m file) position) before after (last_is_some (bytes_of m file) position) l)

-- ---- what was kept

pub spare_any : (files : Option Files) (file : FileId) (search : List ℕ → ℕ → Answer) (spare : Spare) (before after : ℕ) → after ≤ before → WithinSpare files file search spare before after
spare_any None file search spare before after l = tt
spare_any (Some m) file search spare before after l = within_any before after (spare_answer file.part (search (bytes_of m file)) spare) l

pub spare_from : (files : Option Files) (file : FileId) (search : List ℕ → ℕ → Answer) (start passed old new : ℕ) → 0 < passed
    → WithinFound files file passed (λ bytes. search bytes start) (old + 1) (new + passed) → WithinSpare files file search (From start passed) old new
spare_from None file search start passed old new some w = tt
spare_from (Some m) file search start passed old new some w =
    within_less (old + 1) old (new + passed) new (answer_of file.part passed (search (bytes_of m file) start)) (omega (arith, some)) w

-- ---- from one answer to another

-- what a search in bytes answers is no fault of a store
abbrev pub IsOfBytes : Reply → Type 0
IsOfBytes (Ok hit) = Unit {0}
IsOfBytes (Err (Damaged damage)) = Unit {0}
IsOfBytes (Err StoreFault) = ⊥
IsOfBytes (Err NoMemory) = ⊥

pub answer_of_bytes : (part : Part) (passed : ℕ) (a : Answer) → IsOfBytes (answer_of part passed a)
answer_of_bytes part passed (Err w) = tt
answer_of_bytes part passed (Ok None) = tt
answer_of_bytes part passed (Ok (Some p)) = tt

pub spare_of_bytes : (part : Part) (go : ℕ → Answer) (spare : Spare) → IsOfBytes (spare_answer part go spare)
spare_of_bytes part go Nothing = tt
spare_of_bytes part go (Own hit) = tt
spare_of_bytes part go (From start passed) = answer_of_bytes part passed (go start)

-- whatever answers the one answers the other, so the reads are within both
pub within_on : (x whole : Reply) (before after : ℕ) → IsOfBytes x → ((r : Reply) → SearchAnswers r x → SearchAnswers r whole) → WithinReply before after x → WithinReply before after whole
within_on (Ok hit) whole before after is on w = subst (WithinReply before after) (sym (on (Ok hit) refl)) w
within_on (Err (Damaged damage)) whole before after is on w = subst (WithinReply before after) (sym (on (Err (Damaged damage)) refl)) tt
within_on (Err StoreFault) whole before after is on w = absurd is
within_on (Err NoMemory) whole before after is on w = absurd is
