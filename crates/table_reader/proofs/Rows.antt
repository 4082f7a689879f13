-- Rows that a search passes over, and what it meets behind them.
use Rattle.std.proofs.Common.{◌≡◌, ◌⊎◌, ◌∙◌, ℕ, ◌+◌, ◌<◌, ◌≤◌, List, [], ◌∷◌, ◌++◌, length, drop, Option, None, Some, Result, Ok, Err, inl, inr, ap, arith, refl, subst, sym, append_assoc, length-append}
use Rattle.std.proofs.lemmas.List.{append-nil, drop-drop, length-drop}
use Rattle.std.proofs.Math.Seq.{drop-append_seam}
use Rattle.std.specs.declared.cmp.Ordering.TheVariants.{Less, Greater}
use Rattle.key_types.specs.Columns.{Columns}
use Rattle.key_types.specs.Table.{string_cmp}
use Rattle.bti_nodes.specs.declared.damage.Cause.TheVariants.{BadRow}
use Rattle.bti_nodes.specs.declared.damage.Damage.{Damage}
use Rattle.data_file.specs.Answers.{damage_at}
use Rattle.data_file.specs.Listing.{row_bytes, rows_bytes}
use Rattle.data_file.specs.Reading.{BeginsEnd, BeginsRow, NoRow}
use Rattle.table_reader.specs.Rows.{ArePassed, FindsRow, FindsWith, IsCutAt, Meets}

-- what is met at once
met_here : (columns : Columns) (key : List ℕ) (limit at : ℕ) (bytes : List ℕ) (found : Result (Option (List ℕ)) Damage) → Meets columns key limit at bytes found → FindsRow columns key limit at bytes found
met_here columns key limit at bytes found met =
    let place : at ≡ at + 0 = omega arith in
    record { rows = []; passed = tt; rest = bytes; stands = refl; met = subst (λ (p : ℕ). Meets columns key limit p bytes found) place met }

row_on : (columns : Columns) (bytes more clustering value : List ℕ) → BeginsRow columns bytes clustering value → BeginsRow columns (bytes ++ more) clustering value
row_on columns bytes more clustering value (is, (rest, e)) =
    (is, (rest ++ more, ap (λ l. l ++ more) e ∙ append_assoc (row_bytes clustering value) rest more))

-- the key's row
pub meets_row : (columns : Columns) (key : List ℕ) (limit at : ℕ) (bytes clustering value : List ℕ) → clustering ≡ key → BeginsRow columns bytes clustering value
    → FindsWith columns key limit at bytes (Ok (Some value))
meets_row columns key limit at bytes clustering value same row more =
    met_here columns key limit at (bytes ++ more) (Ok (Some value))
    (subst (λ (k : List ℕ). BeginsRow columns (bytes ++ more) k value) same (row_on columns bytes more clustering value row))

-- a row above it
pub meets_above : (columns : Columns) (key : List ℕ) (limit at : ℕ) (bytes clustering value : List ℕ) → string_cmp clustering key ≡ Greater → BeginsRow columns bytes clustering value
    → FindsWith columns key limit at bytes (Ok None)
meets_above columns key limit at bytes clustering value above row more =
    met_here columns key limit at (bytes ++ more) (Ok None)
    (inl (record { clustering = clustering; value = value; row = row_on columns bytes more clustering value row; above = above }))

-- the end of the partition
pub meets_end : (columns : Columns) (key : List ℕ) (limit at : ℕ) (bytes : List ℕ) → BeginsEnd bytes → FindsWith columns key limit at bytes (Ok None)
meets_end columns key limit at bytes (rest, e) more =
    met_here columns key limit at (bytes ++ more) (Ok None) (inr (inl (rest ++ more, ap (λ l. l ++ more) e)))

-- the block's last row
pub meets_last : (columns : Columns) (key : List ℕ) (limit at : ℕ) (bytes clustering value : List ℕ) → string_cmp clustering key ≡ Less → limit ≤ at + length (row_bytes clustering value)
    → BeginsRow columns bytes clustering value → FindsWith columns key limit at bytes (Ok None)
meets_last columns key limit at bytes clustering value below last row more =
    met_here columns key limit at (bytes ++ more) (Ok None)
    (inr (inr (record { clustering = clustering; value = value; row = row_on columns bytes more clustering value row; below = below; last = last })))

-- nothing sound, whatever follows
pub meets_bad : (columns : Columns) (key : List ℕ) (limit at : ℕ) (bytes : List ℕ) → ((more : List ℕ) → NoRow columns (bytes ++ more))
    → FindsWith columns key limit at bytes (Err (damage_at at BadRow))
meets_bad columns key limit at bytes none more = met_here columns key limit at (bytes ++ more) (Err (damage_at at BadRow)) (refl, none more)

-- a row that is cut off, behind some of the bytes
pub cut_at : (columns : Columns) (key : List ℕ) (limit at : ℕ) (bytes : List ℕ) (place passed : ℕ) (rest : List ℕ) → place ≡ at + passed → passed ≤ length bytes
    → rest ≡ drop passed bytes → (passed ≡ 0) ⊎ (place < limit) → NoRow columns rest → length rest < 66564
    → ((more : List ℕ) (found : Result (Option (List ℕ)) Damage) → FindsRow columns key limit place (rest ++ more) found → FindsRow columns key limit at (bytes ++ more) found)
    → IsCutAt columns key limit at bytes place
cut_at columns key limit at bytes place passed rest there within left inside none few behind =
    let met : FindsRow columns key limit place (rest ++ []) (Err (damage_at place BadRow)) =
    met_here columns key limit place (rest ++ []) (Err (damage_at place BadRow)) (refl, subst (NoRow columns) (sym (append-nil rest)) none) in
    let all = behind [] (Err (damage_at place BadRow)) met in
    record {
      damaged = subst (λ (b : List ℕ). FindsRow columns key limit at b (Err (damage_at place BadRow))) (append-nil bytes) all;
      passed = passed;
      there = there;
      inside = inside;
      within = within;
      few = omega (arith, few, within, ap length left, length-drop passed bytes);
      onward = λ more found f. behind more found (subst (λ (r : List ℕ). FindsRow columns key limit place (r ++ more) found) (sym left) f);
    }

-- one row more is passed
pub passed_on : (at limit place : ℕ) (bytes rest front behind : List ℕ) (size : ℕ)
    → (k : ℕ) × (place ≡ at + k) × (k ≤ length bytes) × (rest ≡ drop k bytes) × ((k ≡ 0) ⊎ (place < limit))
    → rest ≡ front ++ behind → length front ≡ size → place + size < limit
    → (k : ℕ) × (place + size ≡ at + k) × (k ≤ length bytes) × (behind ≡ drop k bytes) × ((k ≡ 0) ⊎ (place + size < limit))
passed_on at limit place bytes rest front behind size (k, there, within, left, inside) parted n below =
    let more : length rest ≡ size + length behind = ap length parted ∙ length-append front behind ∙ ap (λ m. m + length behind) n in
    let rest_is : behind ≡ drop (k + size) bytes =
    sym (drop-append_seam front behind) ∙ ap (drop (length front)) (sym parted ∙ left) ∙ ap (λ m. drop m (drop k bytes)) n ∙ drop-drop size k bytes in
    (k + size, omega (arith, there), omega (arith, more, ap length left, length-drop k bytes), rest_is, inr below)

-- what is found behind a row that is passed over is found from that row on
pub passes_row : (columns : Columns) (key : List ℕ) (limit at place : ℕ) (bytes clustering value front behind more : List ℕ) (found : Result (Option (List ℕ)) Damage)
    → BeginsRow columns bytes clustering value → string_cmp clustering key ≡ Less → place ≡ at + length (row_bytes clustering value) → place < limit
    → bytes ≡ front ++ behind → length front ≡ length (row_bytes clustering value)
    → FindsRow columns key limit place (behind ++ more) found → FindsRow columns key limit at (bytes ++ more) found
passes_row columns key limit at place bytes clustering value front behind more found (is, (rest, e)) less p inside b n f =
    let row = row_bytes clustering value in
    let left : rest ≡ behind =
    sym (drop-append_seam row rest) ∙ ap (drop (length row)) (sym e) ∙ ap (λ k. drop k bytes) (sym n) ∙ ap (drop (length front)) b ∙ drop-append_seam front behind in
    let stands : bytes ++ more ≡ (row ++ rows_bytes f.rows) ++ f.rest =
    ap (λ l. l ++ more) (e ∙ ap (λ l. row ++ l) left) ∙ append_assoc row behind more ∙ ap (λ l. row ++ l) f.stands ∙ sym (append_assoc row (rows_bytes f.rows) f.rest) in
    let there : place + length (rows_bytes f.rows) ≡ at + length (row ++ rows_bytes f.rows) = omega (arith, p, length-append row (rows_bytes f.rows)) in
    record {
      rows = record { clustering = clustering; value = value } ∷ f.rows;
      passed = (is, less, subst (λ (k : ℕ). k < limit) p inside, subst (λ (k : ℕ). ArePassed columns key limit k f.rows) p f.passed);
      rest = f.rest;
      stands = stands;
      met = subst (λ (k : ℕ). Meets columns key limit k f.rest found) there f.met;
    }
