-- Bytes with which no entry begins.
use Rattle.std.proofs.Common.{◌≡◌, ◌∙◌, ℕ, ◌<◌, ◌≤◌, List, ◌++◌, length, ap, arith, subst, sym}
use Rattle.key_types.specs.Columns.{Columns}
use Rattle.key_decode.specs.Strings.{IsStringOf}
use Rattle.length_prefix.specs.Counted.{counted, IsCutOff}
use Rattle.length_prefix.proofs.Counts.{counted-same, not_cut_off}
use Rattle.index_files.specs.declared.entry.EntryNumbers.{EntryNumbers}
use Rattle.index_files.specs.Entries.{numbers_in, BeginsEntry, NoEntry}

pub no_entry_cut : (columns : Columns) (bytes : List ℕ) (at : ℕ) → IsCutOff bytes → NoEntry columns bytes at
no_entry_cut columns bytes at cut partition numbers e = not_cut_off bytes partition e.rest cut e.stands

same_front : (columns : Columns) (bytes key rest : List ℕ) (at : ℕ) (partition : List ℕ) (numbers : EntryNumbers) → bytes ≡ counted key ++ rest → (e : BeginsEntry columns bytes at partition numbers) → (key ≡ partition) × (rest ≡ e.rest)
same_front columns bytes key rest at partition numbers b e = counted-same key partition rest e.rest (sym b ∙ e.stands)

pub no_entry_string : (columns : Columns) (bytes key rest : List ℕ) (at : ℕ) → bytes ≡ counted key ++ rest → (IsStringOf columns.partition key → ⊥) → NoEntry columns bytes at
no_entry_string columns bytes key rest at b not partition numbers e =
    not (subst (IsStringOf columns.partition) (sym (same_front columns bytes key rest at partition numbers b e).0) e.string)

pub no_entry_short : (columns : Columns) (bytes key rest : List ℕ) (at : ℕ) → bytes ≡ counted key ++ rest → length rest < 20 → NoEntry columns bytes at
no_entry_short columns bytes key rest at b few partition numbers e =
    omega (arith, few, e.whole, ap length (same_front columns bytes key rest at partition numbers b e).1)

same_numbers : (columns : Columns) (bytes key rest : List ℕ) (at : ℕ) (read : EntryNumbers) (partition : List ℕ) (numbers : EntryNumbers) → bytes ≡ counted key ++ rest → read ≡ numbers_in rest → BeginsEntry columns bytes at partition numbers → numbers ≡ read
same_numbers columns bytes key rest at read partition numbers b r e =
    e.read ∙ ap numbers_in (sym (same_front columns bytes key rest at partition numbers b e).1) ∙ sym r

pub no_entry_root : (columns : Columns) (bytes key rest : List ℕ) (at : ℕ) (read : EntryNumbers) → bytes ≡ counted key ++ rest → read ≡ numbers_in rest → at ≤ read.root → NoEntry columns bytes at
no_entry_root columns bytes key rest at read b r far partition numbers e =
    omega (arith, far, e.root, ap (λ (n : EntryNumbers). n.root) (same_numbers columns bytes key rest at read partition numbers b r e))

pub no_entry_blocks : (columns : Columns) (bytes key rest : List ℕ) (at : ℕ) (read : EntryNumbers) → bytes ≡ counted key ++ rest → read ≡ numbers_in rest → read.blocks < 2 → NoEntry columns bytes at
no_entry_blocks columns bytes key rest at read b r few partition numbers e =
    omega (arith, few, e.blocks, ap (λ (n : EntryNumbers). n.blocks) (same_numbers columns bytes key rest at read partition numbers b r e))
