-- Bytes that begin with an entry begin with it as it is written.
use Rattle.std.proofs.Common.{◌≡◌, ◌∙◌, ℕ, zero, suc, ◌+◌, ◌*◌, ◌/◌, ◌^◌, ◌<◌, ◌≤◌, List, [], ◌∷◌, ◌++◌, length, take, drop, Option, None, Some, IfSome, refl, ap, sym, subst, arith, append_assoc}
use Rattle.std.specs.Prelude.{slice_index}
use Rattle.std.proofs.Math.Nat.{mod-eq_of_lt, mod-lt}
use Rattle.std.proofs.lemmas.List.{append-nil, drop-drop, length-drop, take-append-drop, take_all}
use Rattle.std.specs.Int.{byte_at, bytes_high_first}
use Rattle.byteorder.specs.Endian.{big_bytes, big_from, big_number}
use Rattle.byteorder.specs.Numbers.{big_from-bytes, big_from-cons, big_from-lt, length-bytes_high_first}
use Rattle.key_types.specs.Columns.{Columns}
use Rattle.length_prefix.specs.Counted.{counted}
use Rattle.index_files.specs.declared.entry.EntryNumbers.{EntryNumbers}
use Rattle.index_files.specs.Entries.{BeginsEntry, numbers_in}
use Rattle.row_index.specs.File.{entry_bytes}
use Rattle.row_check.specs.Entries.{SpellsEntry}

-- ---- numbers determine their bytes

-- each is a byte
abbrev pub AreSmall : List ℕ → Type 0
AreSmall xs = (k : ℕ) → slice_index xs k < 256

same_digits : (x y base r s : ℕ) → r < base → s < base → x * base + r ≡ y * base + s → (x ≡ y) × (r ≡ s)
same_digits zero zero base r s h l e = (refl, omega arith)
same_digits zero (suc y) base r s h l e = absurd (omega arith)
same_digits (suc x) zero base r s h l e = absurd (omega arith)
same_digits (suc x) (suc y) base r s h l e =
    let less : x * base + r ≡ y * base + s = omega arith in
    let rest = same_digits x y base r s h l less in
    (ap suc rest.0, rest.1)

tail_small : (x : ℕ) (xs : List ℕ) → AreSmall (x ∷ xs) → AreSmall xs
tail_small x xs small k = small (suc k)

same_bytes : (n : ℕ) (xs ys : List ℕ) → n ≤ length xs → n ≤ length ys → AreSmall xs → AreSmall ys → big_from 0 n xs ≡ big_from 0 n ys → take n xs ≡ take n ys
same_bytes zero xs ys long long' small small' e = refl
same_bytes (suc n) [] ys long long' small small' e = absurd (omega (arith, long))
same_bytes (suc n) (x ∷ xs) [] long long' small small' e = absurd (omega (arith, long'))
same_bytes (suc n) (x ∷ xs) (y ∷ ys) long long' small small' e =
    let rest = tail_small x xs small in
    let rest' = tail_small y ys small' in
    let front : x * 256 ^ n + big_from 0 n xs ≡ y * 256 ^ n + big_from 0 n ys =
    sym (ap (λ (r : ℕ). x * 256 ^ n + r) (big_from-cons 0 n x xs)) ∙ e ∙ ap (λ (r : ℕ). y * 256 ^ n + r) (big_from-cons 0 n y ys) in
    let both = same_digits x y (256 ^ n) (big_from 0 n xs) (big_from 0 n ys) (big_from-lt 0 n xs rest) (big_from-lt 0 n ys rest') front in
    let behind : take n xs ≡ take n ys = same_bytes n xs ys (omega (arith, long)) (omega (arith, long')) rest rest' both.1 in
    λ i. both.0 i ∷ behind i

byte_small : (n x : ℕ) → byte_at n x < 256
byte_small zero x = mod-lt x (omega arith)
byte_small (suc n) x = mod-lt (x / 256 ^ suc n) (omega arith)

small_bytes : (n x : ℕ) → AreSmall (bytes_high_first n x)
small_bytes zero x k = omega arith
small_bytes (suc n) x zero = byte_small n x
small_bytes (suc n) x (suc k) = small_bytes n x k

-- a number is written as the bytes that it was read from
pub written_back : (n : ℕ) (xs : List ℕ) → n ≤ length xs → AreSmall xs → take n xs ≡ big_bytes n (big_number n xs)
written_back n xs long small =
    let number : ℕ = big_from 0 n xs in
    let bytes : List ℕ = bytes_high_first n number in
    let size = length-bytes_high_first n number in
    let read : big_from 0 n bytes ≡ number =
    ap (big_from 0 n) (sym (append-nil bytes)) ∙ big_from-bytes n number [] ∙ mod-eq_of_lt (big_from-lt 0 n xs small) in
    same_bytes n xs bytes long (omega (arith, size)) small (small_bytes n number) (sym read) ∙ take_all n bytes (omega (arith, size))

-- ---- an entry

-- what stands behind bytes is small where they all are
behind_small : (xs ys : List ℕ) → AreSmall (xs ++ ys) → AreSmall ys
behind_small [] ys small = small
behind_small (x ∷ xs) ys small = behind_small xs ys (tail_small x (xs ++ ys) small)

drop_small : (n : ℕ) (xs : List ℕ) → AreSmall xs → AreSmall (drop n xs)
drop_small zero xs small = small
drop_small (suc n) [] small = small
drop_small (suc n) (x ∷ xs) small = drop_small n xs (tail_small x xs small)

numbers_written : (rest : List ℕ) → 20 ≤ length rest → AreSmall rest
    → rest ≡ (big_bytes 8 (big_number 8 rest) ++ (big_bytes 8 (big_number 8 (drop 8 rest)) ++ big_bytes 4 (big_number 4 (drop 16 rest)))) ++ drop 20 rest
numbers_written rest long small =
    let first = written_back 8 rest (omega (arith, long)) small in
    let second = written_back 8 (drop 8 rest) (omega (arith, long, length-drop 8 rest)) (drop_small 8 rest small) in
    let third = written_back 4 (drop 16 rest) (omega (arith, long, length-drop 16 rest)) (drop_small 16 rest small) in
    let a : List ℕ = big_bytes 8 (big_number 8 rest) in
    let b : List ℕ = big_bytes 8 (big_number 8 (drop 8 rest)) in
    let c : List ℕ = big_bytes 4 (big_number 4 (drop 16 rest)) in
    let one : rest ≡ a ++ drop 8 rest = sym (take-append-drop 8 rest) ∙ ap (λ (l : List ℕ). l ++ drop 8 rest) first in
    let two : drop 8 rest ≡ b ++ drop 16 rest =
    sym (take-append-drop 8 (drop 8 rest)) ∙ ap (λ (l : List ℕ). take 8 (drop 8 rest) ++ l) (drop-drop 8 8 rest) ∙ ap (λ (l : List ℕ). l ++ drop 16 rest) second in
    let three : drop 16 rest ≡ c ++ drop 20 rest =
    sym (take-append-drop 4 (drop 16 rest)) ∙ ap (λ (l : List ℕ). take 4 (drop 16 rest) ++ l) (drop-drop 4 16 rest) ∙ ap (λ (l : List ℕ). l ++ drop 20 rest) third in
    one ∙ ap (λ (l : List ℕ). a ++ l) (two ∙ ap (λ (l : List ℕ). b ++ l) three ∙ sym (append_assoc b c (drop 20 rest))) ∙ sym (append_assoc a (b ++ c) (drop 20 rest))

pub spelled : (columns : Columns) (bytes : List ℕ) (at : ℕ) (partition : List ℕ) (numbers : EntryNumbers) → AreSmall bytes
    → BeginsEntry columns bytes at partition numbers → SpellsEntry columns bytes at partition numbers
unfolding entry_bytes
spelled columns bytes at partition numbers small e =
    let rest : List ℕ = e.rest in
    let small_rest : AreSmall rest = behind_small (counted partition) rest (subst AreSmall e.stands small) in
    let read : EntryNumbers = numbers_in rest in
    let there : bytes ≡ (counted partition ++ (big_bytes 8 read.position ++ (big_bytes 8 read.root ++ big_bytes 4 read.blocks))) ++ drop 20 rest =
    e.stands ∙ ap (λ (l : List ℕ). counted partition ++ l) (numbers_written rest e.whole small_rest)
    ∙ sym (append_assoc (counted partition) (big_bytes 8 read.position ++ (big_bytes 8 read.root ++ big_bytes 4 read.blocks)) (drop 20 rest)) in
    let position : numbers.position ≡ read.position = ap (λ (n : EntryNumbers). n.position) e.read in
    let blocks : numbers.blocks ≡ read.blocks = ap (λ (n : EntryNumbers). n.blocks) e.read in
    let below = big_from-lt 0 8 rest small_rest in
    let few = big_from-lt 0 4 (drop 16 rest) (drop_small 16 rest small_rest) in
    record {
      string = e.string;
      rest = drop 20 rest;
      stands = there ∙ ap (λ (n : EntryNumbers). (counted partition ++ (big_bytes 8 n.position ++ (big_bytes 8 n.root ++ big_bytes 4 n.blocks))) ++ drop 20 rest) (sym e.read);
      place = omega (arith, position, below);
      root = e.root;
      blocks = e.blocks;
      few = omega (arith, blocks, few);
    }

-- the same of what is found, where it is
pub each_some : {A : Type 0} (P Q : A → Type 0) (o : Option A) → ((a : A) → P a → Q a) → IfSome o P → IfSome o Q
each_some P Q None f h = tt
each_some P Q (Some a) f h = f a h

-- an entry goes on in the file behind the bytes that are held
pub spelled_on : (columns : Columns) (bytes more : List ℕ) (at : ℕ) (partition : List ℕ) (numbers : EntryNumbers)
    → SpellsEntry columns bytes at partition numbers → SpellsEntry columns (bytes ++ more) at partition numbers
spelled_on columns bytes more at partition numbers e = record {
  string = e.string;
  rest = e.rest ++ more;
  stands = ap (λ (l : List ℕ). l ++ more) e.stands ∙ append_assoc (entry_bytes partition numbers.position numbers.root numbers.blocks) e.rest more;
  place = e.place;
  root = e.root;
  blocks = e.blocks;
  few = e.few;
}
