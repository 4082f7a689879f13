-- What the steps of a get tell of the files.
use Rattle.std.proofs.Common.{◌≡◌, ◌≢◌, ◌⊎◌, ◌∙◌, ℕ, ◌+◌, ◌≤◌, ◌<◌, List, ◌++◌, length, take, drop, Option, None, Some, IfSome, Ok, Err, inl, inr, arith, ap, append_assoc, refl, subst, sym}
use Rattle.std.proofs.lemmas.Bool.{cases_lt}
use Rattle.std.proofs.lemmas.List.{length-take, take-append-drop, take_all}
use Rattle.outside.specs.declared.store.FileId.{FileId}
use Rattle.outside.specs.Files.{Files, bytes_of}
use Rattle.key_types.specs.Columns.{Columns}
use Rattle.bti_nodes.specs.declared.damage.Cause.TheVariants.{BadHead}
use Rattle.data_file.specs.declared.reading.DataError.{DataError}
use Rattle.data_file.specs.declared.reading.DataError.TheVariants.{StoreFault, Damaged, NoMemory}
use Rattle.data_file.specs.Answers.{damage_at}
use Rattle.data_file.specs.Reading.{BeginsHead, NoHead}
use Rattle.data_file.proofs.Found.{no_head_on}
use Rattle.index_files.specs.declared.place.PartitionPlace.{PartitionPlace}
use Rattle.index_files.specs.declared.place.PartitionPlace.TheVariants.{Entry}
use Rattle.index_files.specs.Reading.{ReadsEntry}
use Rattle.length_prefix.specs.Counted.{counted}
use Rattle.table_files.specs.Names.{data_id, rows_id}
use Rattle.table_reader.specs.Gets.{FindsHead, LeadsTo, bytes_in}
use Rattle.table_reader.specs.Reads.{Ends}
use Rattle.table_reader.proofs.Held.{ends_damaged}

-- ---- entries

-- an entry that isn't read
entry_ends : (columns : Columns) (m : Files) (generation at : ℕ) (e : DataError) → ReadsEntry columns (rows_id generation).part (bytes_of m (rows_id generation)) at (Err e)
    → Ends (LeadsTo (bytes_in columns m generation) (Entry at)) (Err e)
entry_ends columns m generation at StoreFault told = tt
entry_ends columns m generation at NoMemory told = tt
entry_ends columns m generation at (Damaged damage) told = told

pub no_entry : (files : Option Files) (columns : Columns) (generation at : ℕ) (file : FileId) (place : PartitionPlace) (e f : DataError) → file ≡ rows_id generation → place ≡ Entry at
    → IfSome files (λ m. ReadsEntry columns file.part (bytes_of m file) at (Err e)) → f ≡ e → IfSome files (λ m. Ends (LeadsTo (bytes_in columns m generation) place) (Err f))
no_entry None columns generation at file place e f is leads told same = tt
no_entry (Some m) columns generation at file place e f is leads told same =
    let entry = entry_ends columns m generation at e (subst (λ (x : FileId). ReadsEntry columns x.part (bytes_of m x) at (Err e)) is told) in
    subst (λ (p : PartitionPlace). Ends (LeadsTo (bytes_in columns m generation) p) (Err f)) (sym leads)
    (subst (λ (x : DataError). Ends (LeadsTo (bytes_in columns m generation) (Entry at)) (Err x)) (sym same) entry)

-- ---- heads

-- a head stands in its first 1,026 bytes
head_whole : (columns : Columns) (bytes key : List ℕ) → BeginsHead columns (take 1026 bytes) key → BeginsHead columns bytes key
head_whole columns bytes key (is, (rest, e)) =
    (is, (rest ++ drop 1026 bytes, sym (take-append-drop 1026 bytes) ∙ ap (λ l. l ++ drop 1026 bytes) e ∙ append_assoc (counted key) rest (drop 1026 bytes)))

no_head_whole : (columns : Columns) (bytes : List ℕ) → NoHead columns (take 1026 bytes) → NoHead columns bytes
no_head_whole columns bytes none = by (cases_lt (length bytes) 1026)
  where
    by : (length bytes < 1026) ⊎ (1026 ≤ length bytes) → NoHead columns bytes
    by (inl short) = subst (NoHead columns) (take_all 1026 bytes (omega (arith, short))) none
    by (inr long) = subst (NoHead columns) (take-append-drop 1026 bytes) (no_head_on columns (take 1026 bytes) (drop 1026 bytes) (omega (arith, length-take 1026 bytes, long)) none)

-- what is read of a place tells what stands there
abbrev ReadAt : Option Files → FileId → ℕ → List ℕ → Type 0
ReadAt files file at bytes = IfSome files (λ m. bytes ≡ take 1026 (drop at (bytes_of m file)))

moved : (P : List ℕ → Type 0) (m : Files) (generation at : ℕ) (file : FileId) → file ≡ data_id generation → P (drop at (bytes_of m file)) → P (drop at (bytes_of m (data_id generation)))
moved P m generation at file is p = subst (λ (f : FileId). P (drop at (bytes_of m f))) is p

-- the head is the key's
pub head_is : (files now : Option Files) (columns : Columns) (generation at : ℕ) (file : FileId) (held bytes found key : List ℕ) (behind : ℕ) → now ≡ files → file ≡ data_id generation
    → ReadAt now file at held → bytes ≡ held → BeginsHead columns bytes found → found ≡ key → behind ≡ at + 2 + length key
    → IfSome files (λ m. Ends (FindsHead (bytes_in columns m generation) key at) (Ok (Some behind)))
head_is None now columns generation at file held bytes found key behind same is read slice head keys place = tt
head_is (Some m) now columns generation at file held bytes found key behind same is read slice head keys place =
    let told : held ≡ take 1026 (drop at (bytes_of m file)) = subst (λ (f : Option Files). ReadAt f file at held) same read in
    let there = head_whole columns (drop at (bytes_of m file)) found (subst (λ (b : List ℕ). BeginsHead columns b found) (slice ∙ told) head) in
    (moved (λ b. BeginsHead columns b key) m generation at file is (subst (BeginsHead columns (drop at (bytes_of m file))) keys there), omega (arith, place))

-- it is another's
pub head_other : (files now : Option Files) (columns : Columns) (generation at : ℕ) (file : FileId) (held bytes found key : List ℕ) → now ≡ files → file ≡ data_id generation
    → ReadAt now file at held → bytes ≡ held → BeginsHead columns bytes found → found ≢ key
    → IfSome files (λ m. Ends (FindsHead (bytes_in columns m generation) key at) (Ok None))
head_other None now columns generation at file held bytes found key same is read slice head apart = tt
head_other (Some m) now columns generation at file held bytes found key same is read slice head apart =
    let told : held ≡ take 1026 (drop at (bytes_of m file)) = subst (λ (f : Option Files). ReadAt f file at held) same read in
    let there = head_whole columns (drop at (bytes_of m file)) found (subst (λ (b : List ℕ). BeginsHead columns b found) (slice ∙ told) head) in
    (found, apart, moved (λ b. BeginsHead columns b found) m generation at file is there)

-- there is none
pub head_none : (files now : Option Files) (columns : Columns) (generation at : ℕ) (file : FileId) (held bytes key : List ℕ) (e : DataError) → now ≡ files → file ≡ data_id generation
    → ReadAt now file at held → bytes ≡ held → NoHead columns bytes → e ≡ Damaged (damage_at at BadHead)
    → IfSome files (λ m. Ends (FindsHead (bytes_in columns m generation) key at) (Err e))
head_none None now columns generation at file held bytes key e same is read slice none damaged = tt
head_none (Some m) now columns generation at file held bytes key e same is read slice none damaged =
    let told : held ≡ take 1026 (drop at (bytes_of m file)) = subst (λ (f : Option Files). ReadAt f file at held) same read in
    let there = no_head_whole columns (drop at (bytes_of m file)) (subst (NoHead columns) (slice ∙ told) none) in
    ends_damaged (FindsHead (bytes_in columns m generation) key at) e (damage_at at BadHead) damaged (refl, moved (NoHead columns) m generation at file is there)
