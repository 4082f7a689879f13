-- Bytes of a file that are held, and those that are read on.
use Rattle.std.proofs.Common.{◌≡◌, ◌⊎◌, ◌∙◌, ℕ, ◌+◌, ◌-◌, ◌*◌, ◌%◌, ◌<◌, ◌≤◌, List, [], ◌++◌, length, take, drop, Option, None, Some, IfSome, Result, Err, inl, inr, arith, ap, append_assoc, length-append, subst, sym}
use Rattle.std.proofs.lemmas.List.{append-nil, drop-append-le, drop-drop, length-drop, length-take, take-append-drop, take_all}
use Rattle.std.proofs.Math.Seq.{drop-append_seam}
use Rattle.outside.specs.declared.store.FileId.{FileId}
use Rattle.outside.specs.Files.{Files, bytes_of}
use Rattle.key_types.specs.Columns.{Columns}
use Rattle.bti_nodes.specs.declared.damage.Cause.TheVariants.{BadRow}
use Rattle.bti_nodes.specs.declared.damage.Damage.{Damage}
use Rattle.data_file.specs.declared.reading.DataError.{DataError}
use Rattle.data_file.specs.declared.reading.DataError.TheVariants.{Damaged}
use Rattle.data_file.specs.Answers.{damage_at}
use Rattle.data_file.specs.Held.{IsFront, IsRest}
use Rattle.table_files.specs.Names.{data_id}
use Rattle.table_reader.specs.declared.block_at.BlockAt.{BlockAt}
use Rattle.table_reader.specs.Gets.{FindsInBlock, bytes_in}
use Rattle.table_reader.specs.Reads.{Ends}
use Rattle.table_reader.specs.Rows.{FindsRow, IsCutAt}

next : (bytes held rest : List ℕ) (at place : ℕ) → place ≡ at + length held → drop at bytes ≡ held ++ rest → drop place bytes ≡ rest
next bytes held rest at place p e =
    ap (λ n. drop n bytes) p ∙ sym (drop-drop (length held) at bytes) ∙ ap (drop (length held)) e ∙ drop-append_seam held rest

-- more bytes are held
pub front_grown : (files : Option Files) (file : FileId) (at place count : ℕ) (held new : List ℕ) → place ≡ at + length held
    → IsFront files file at held → IfSome files (λ m. new ≡ held ++ take count (drop place (bytes_of m file))) → IsFront files file at new
front_grown None file at place count held new p front added = tt
front_grown (Some m) file at place count held new p (rest, e) added =
    let piece : take count (drop place (bytes_of m file)) ≡ take count rest = ap (take count) (next (bytes_of m file) held rest at place p e) in
    let kept : new ≡ held ++ take count rest = added ∙ ap (λ t. held ++ t) piece in
    let whole : drop at (bytes_of m file) ≡ (held ++ take count rest) ++ drop count rest =
    e ∙ ap (λ t. held ++ t) (sym (take-append-drop count rest)) ∙ sym (append_assoc held (take count rest) (drop count rest)) in
    (drop count rest, whole ∙ ap (λ t. t ++ drop count rest) (sym kept))

few_taken : (count : ℕ) (rest : List ℕ) → length (take count rest) < count → length rest ≤ count
few_taken count rest few = omega (arith, few, length-take count rest)

-- fewer than asked for, so the file ended
pub rest_whole : (files : Option Files) (file : FileId) (at place count : ℕ) (held new : List ℕ) → place ≡ at + length held
    → IsFront files file at held → IfSome files (λ m. new ≡ held ++ take count (drop place (bytes_of m file))) → length new < length held + count
    → IsRest files file at new
rest_whole None file at place count held new p front added few = tt
rest_whole (Some m) file at place count held new p (rest, e) added few =
    let piece : take count (drop place (bytes_of m file)) ≡ take count rest = ap (take count) (next (bytes_of m file) held rest at place p e) in
    let kept : new ≡ held ++ take count rest = added ∙ ap (λ t. held ++ t) piece in
    let all : take count rest ≡ rest = take_all count rest (few_taken count rest (omega (arith, few, ap length kept, length-append held (take count rest)))) in
    e ∙ ap (λ t. held ++ t) (sym all) ∙ sym kept

-- damage is what a step ends in
pub ends_damaged : {A : Type 0} (Finds : Result A Damage → Type 0) (e : DataError) (damage : Damage) → e ≡ Damaged damage → Finds (Err damage) → Ends Finds (Err e)
ends_damaged Finds e damage is found = subst (λ (x : DataError). Ends Finds (Err x)) (sym is) found

-- what is found behind the rows that were passed is found in the block
abbrev pub GoesOn : Columns → List ℕ → BlockAt → ℕ → List ℕ → Type 0
GoesOn columns key block passed held =
    (more : List ℕ) (found : Result (Option (List ℕ)) Damage) → FindsRow columns key block.limit (block.rows + passed) (drop passed held ++ more) found
    → FindsRow columns key block.limit block.rows (held ++ more) found

-- a row is cut off where the file ends
pub cut_at_end : (files now : Option Files) (generation : ℕ) (file : FileId) (columns : Columns) (key : List ℕ) (block : BlockAt) (held rest : List ℕ) (passed place : ℕ) (e : DataError)
    → now ≡ files → file ≡ data_id generation → IsRest now file block.rows held → rest ≡ drop passed held → GoesOn columns key block passed held
    → IsCutAt columns key block.limit (block.rows + passed) rest place → e ≡ Damaged (damage_at place BadRow)
    → IfSome files (λ m. Ends (FindsInBlock (bytes_in columns m generation) key block) (Err e))
cut_at_end None now generation file columns key block held rest passed place e same is whole left on cut damaged = tt
cut_at_end (Some m) now generation file columns key block held rest passed place e same is whole left on cut damaged =
    let all : drop block.rows (bytes_of m file) ≡ held = subst (λ (f : Option Files). IsRest f file block.rows held) same whole in
    let bytes : drop block.rows (bytes_of m (data_id generation)) ≡ held = ap (λ f. drop block.rows (bytes_of m f)) (sym is) ∙ all in
    let damage = damage_at place BadRow in
    let behind : FindsRow columns key block.limit (block.rows + passed) (drop passed held ++ []) (Err damage) =
    subst (λ (b : List ℕ). FindsRow columns key block.limit (block.rows + passed) b (Err damage)) (left ∙ sym (append-nil (drop passed held))) cut.damaged in
    let here : FindsRow columns key block.limit block.rows held (Err damage) =
    subst (λ (b : List ℕ). FindsRow columns key block.limit block.rows b (Err damage)) (append-nil held) (on [] (Err damage) behind) in
    ends_damaged (FindsInBlock (bytes_in columns m generation) key block) e damage damaged
    (subst (λ (b : List ℕ). FindsRow columns key block.limit block.rows b (Err damage)) (sym bytes) here)

-- the rows that were passed, once more bytes are held
pub goes_on : (columns : Columns) (key : List ℕ) (block : BlockAt) (passed place : ℕ) (held rest more new : List ℕ) → passed ≤ length held → rest ≡ drop passed held
    → GoesOn columns key block passed held → (cut : IsCutAt columns key block.limit (block.rows + passed) rest place) → new ≡ held ++ more
    → GoesOn columns key block (passed + cut.passed) new
goes_on columns key block passed place held rest more new within left on cut is others found f =
    let there : block.rows + (passed + cut.passed) ≡ place = omega (arith, cut.there) in
    let few : passed + cut.passed ≤ length held = omega (arith, cut.within, within, ap length left, length-drop passed held) in
    let behind : drop (passed + cut.passed) held ≡ drop cut.passed rest = ap (λ n. drop n held) (omega arith) ∙ sym (drop-drop cut.passed passed held) ∙ ap (drop cut.passed) (sym left) in
    let kept : drop (passed + cut.passed) new ≡ drop cut.passed rest ++ more =
    ap (drop (passed + cut.passed)) is ∙ drop-append-le (passed + cut.passed) held more few ∙ ap (λ l. l ++ more) behind in
    let begun : drop (passed + cut.passed) new ++ others ≡ drop cut.passed rest ++ (more ++ others) = ap (λ l. l ++ others) kept ∙ append_assoc (drop cut.passed rest) more others in
    let g : FindsRow columns key block.limit place (drop cut.passed rest ++ (more ++ others)) found =
    subst (λ (n : ℕ). FindsRow columns key block.limit n (drop cut.passed rest ++ (more ++ others)) found) there
    (subst (λ (b : List ℕ). FindsRow columns key block.limit (block.rows + (passed + cut.passed)) b found) begun f) in
    let h : FindsRow columns key block.limit (block.rows + passed) (drop passed held ++ (more ++ others)) found =
    subst (λ (b : List ℕ). FindsRow columns key block.limit (block.rows + passed) (b ++ (more ++ others)) found) left (cut.onward (more ++ others) found g) in
    subst (λ (b : List ℕ). FindsRow columns key block.limit block.rows b found) (sym (append_assoc held more others) ∙ ap (λ l. l ++ others) (sym is)) (on (more ++ others) found h)

-- the rest of some bytes behind a front
pub back_is : (bytes held front back : List ℕ) (n : ℕ) → bytes ≡ held → bytes ≡ front ++ back → length front ≡ n → back ≡ drop n held
back_is bytes held front back n same parted few =
    sym (drop-append_seam front back) ∙ ap (drop (length front)) (sym parted ∙ same) ∙ ap (λ k. drop k held) few

-- nothing is passed at first
pub none_passed : (columns : Columns) (key : List ℕ) (block : BlockAt) (held : List ℕ) → GoesOn columns key block 0 held
none_passed columns key block held more found f =
    let none : block.rows + 0 ≡ block.rows = omega arith in
    subst (λ (n : ℕ). FindsRow columns key block.limit n (held ++ more) found) none f

-- ---- how often the file is read

-- how far the passed rows go
pub nearer : (rows limit passed more place : ℕ) → place ≡ rows + passed + more → (passed ≡ 0) ⊎ (rows + passed < limit) → (more ≡ 0) ⊎ (place < limit)
    → (passed + more ≡ 0) ⊎ (place < limit)
nearer rows limit passed more place there (inl none) (inl still) = inl (omega arith)
nearer rows limit passed more place there (inr below) (inl still) = inr (omega arith)
nearer rows limit passed more place there inside (inr below) = inr below

-- nothing is read yet, or whole pages but for the first
abbrev pub Counts : ℕ → ℕ → ℕ → ℕ → Type 0
Counts first before rows held = ((held ≡ 0) × (before ≤ first)) ⊎ (((rows + held) % 4096 ≡ 0) × (4096 * before ≤ 4096 * first + held + 4095))

pub most_reads : (first before after rows limit held passed place : ℕ) → place ≡ rows + passed → limit ≤ rows + 16384 → (passed ≡ 0) ⊎ (place < limit)
    → held < passed + 66564 → after ≤ before + 1 → Counts first before rows held → after ≤ first + 22
most_reads first before after rows limit held passed place there near inside few one (inl none) = omega (arith, none.1)
most_reads first before after rows limit held passed place there near (inl start) few one (inr some) = omega (arith, some.1)
most_reads first before after rows limit held passed place there near (inr below) few one (inr some) = omega (arith, some.1)

pub counted_reads : (first before after rows held new : ℕ) → new ≡ held + (4096 - (rows + held) % 4096) → after ≤ before + 1 → Counts first before rows held
    → ((rows + new) % 4096 ≡ 0) × (4096 * after ≤ 4096 * first + new + 4095)
counted_reads first before after rows held new grown one (inl none) = (omega arith, omega (arith, none.0, none.1))
counted_reads first before after rows held new grown one (inr some) = (omega arith, omega (arith, some.0, some.1))
