-- Bytes spell one entry at most, and what the index files mean by an entry is spelled.
use Rattle.std.proofs.Common.{◌≡◌, ◌∙◌, ℕ, ◌+◌, ◌^◌, ◌<◌, ◌≤◌, List, ◌++◌, length, drop, ap, sym, arith, append_assoc, length-append}
use Rattle.std.proofs.Math.Seq.{drop-append_seam}
use Rattle.std.proofs.lemmas.List.{drop-drop}
use Rattle.byteorder.specs.Endian.{big_bytes, big_number}
use Rattle.byteorder.specs.Numbers.{big_number-reads_back, length-bytes_high_first}
use Rattle.key_types.specs.Columns.{Columns}
use Rattle.key_decode.specs.Strings.{IsStringOf}
use Rattle.length_prefix.specs.Counted.{counted}
use Rattle.length_prefix.proofs.Counts.{counted-same}
use Rattle.index_files.specs.declared.entry.EntryNumbers.{EntryNumbers}
use Rattle.index_files.specs.Entries.{BeginsEntry, numbers_in}
use Rattle.row_index.specs.Entries.{BlockList}
use Rattle.row_index.specs.File.{entry_bytes}
use Rattle.table_files.specs.IndexMeaning.{HasEntry}
use Rattle.row_check.specs.Entries.{SpellsEntry}

-- the numbers of an entry, by the bytes of each
numbers_read : (a b c rest : List ℕ) (numbers : EntryNumbers) → length a ≡ 8 → length b ≡ 8 → ((more : List ℕ) → big_number 8 (a ++ more) ≡ numbers.position)
    → ((more : List ℕ) → big_number 8 (b ++ more) ≡ numbers.root) → ((more : List ℕ) → big_number 4 (c ++ more) ≡ numbers.blocks)
    → numbers_in ((a ++ (b ++ c)) ++ rest) ≡ numbers
numbers_read a b c rest numbers n m first second third =
    let bytes : List ℕ = (a ++ (b ++ c)) ++ rest in
    let all : bytes ≡ a ++ (b ++ (c ++ rest)) = append_assoc a (b ++ c) rest ∙ ap (λ (l : List ℕ). a ++ l) (append_assoc b c rest) in
    let behind : drop 8 bytes ≡ b ++ (c ++ rest) = ap (drop 8) all ∙ ap (λ (k : ℕ). drop k (a ++ (b ++ (c ++ rest)))) (sym n) ∙ drop-append_seam a (b ++ (c ++ rest)) in
    let last : drop 16 bytes ≡ c ++ rest = sym (drop-drop 8 8 bytes) ∙ ap (drop 8) behind ∙ ap (λ (k : ℕ). drop k (b ++ (c ++ rest))) (sym m) ∙ drop-append_seam b (c ++ rest) in
    let position : big_number 8 bytes ≡ numbers.position = ap (big_number 8) all ∙ first (b ++ (c ++ rest)) in
    let root : big_number 8 (drop 8 bytes) ≡ numbers.root = ap (big_number 8) behind ∙ second (c ++ rest) in
    let blocks : big_number 4 (drop 16 bytes) ≡ numbers.blocks = ap (big_number 4) last ∙ third rest in
    λ i. record { position = position i; root = root i; blocks = blocks i }

-- an entry that is written begins there
pub begins : (columns : Columns) (bytes : List ℕ) (at : ℕ) (partition : List ℕ) (numbers : EntryNumbers) → at < 2 ^ 64
    → SpellsEntry columns bytes at partition numbers → BeginsEntry columns bytes at partition numbers
unfolding entry_bytes
begins columns bytes at partition numbers short e =
    let a : List ℕ = big_bytes 8 numbers.position in
    let b : List ℕ = big_bytes 8 numbers.root in
    let c : List ℕ = big_bytes 4 numbers.blocks in
    let n = length-bytes_high_first 8 numbers.position in
    let m = length-bytes_high_first 8 numbers.root in
    let k = length-bytes_high_first 4 numbers.blocks in
    record {
      string = e.string;
      rest = (a ++ (b ++ c)) ++ e.rest;
      stands = e.stands ∙ append_assoc (counted partition) (a ++ (b ++ c)) e.rest;
      whole = omega (arith, n, m, k, length-append (a ++ (b ++ c)) e.rest, length-append a (b ++ c), length-append b c);
      read = sym (numbers_read a b c e.rest numbers n m (λ more. big_number-reads_back 8 numbers.position more e.place)
          (λ more. big_number-reads_back 8 numbers.root more (omega (arith, e.root, short))) (λ more. big_number-reads_back 4 numbers.blocks more e.few));
      root = e.root;
      blocks = e.blocks;
    }

-- no two of them
pub entry_once : (columns : Columns) (bytes : List ℕ) (at : ℕ) (partition other : List ℕ) (numbers others : EntryNumbers) → at < 2 ^ 64
    → SpellsEntry columns bytes at partition numbers → SpellsEntry columns bytes at other others → (partition ≡ other) × (numbers ≡ others)
entry_once columns bytes at partition other numbers others short e f =
    let x = begins columns bytes at partition numbers short e in
    let y = begins columns bytes at other others short f in
    let same = counted-same partition other x.rest y.rest (sym x.stands ∙ y.stands) in
    (same.0, x.read ∙ ap numbers_in same.1 ∙ sym y.read)

-- the numbers of a partition's entry
abbrev pub own_numbers : BlockList → ℕ → EntryNumbers
own_numbers partition root = record { position = partition.data_at; root = root; blocks = length partition.blocks + 1 }

pub spelled_own : (columns : Columns) (rows : List ℕ) (partition : BlockList) (at : ℕ) → IsStringOf columns.partition partition.string → 1 ≤ length partition.blocks
    → (entry : HasEntry rows partition at) → SpellsEntry columns (drop at rows) at partition.string (own_numbers partition entry.root)
spelled_own columns rows partition at string some entry = record {
  string = string;
  rest = entry.rest;
  stands = entry.entry;
  place = entry.place;
  root = entry.below;
  blocks = omega (arith, some);
  few = entry.few;
}
