-- The numbers of a footer spell its last bytes.
use Rattle.std.proofs.Common.{◌≡◌, ◌∙◌, ℕ, zero, suc, ◌+◌, ◌*◌, ◌<◌, ◌≤◌, ◌^◌, List, [], ◌∷◌, ◌++◌, length, take, drop, slice_index, ap, arith, refl, subst, sym, length-append}
use Rattle.std.proofs.lemmas.List.{drop-drop, length-drop, length-take-le, take-append-drop, take_all}
use Rattle.byteorder.specs.Endian.{big_from, big_number, big_bytes}
use Rattle.byteorder.specs.Numbers.{big_from-cons, big_from-take}
use Rattle.key_types.specs.Columns.{Columns}
use Rattle.key_types.specs.Kinds.{AreBytes}
use Rattle.key_decode.proofs.Exact.{value_from}
use Rattle.key_decode.proofs.Digits.{digits, from_below, from_sum}
use Rattle.length_prefix.specs.Counted.{counted}
use Rattle.index_files.specs.declared.footer.FooterNumbers.{FooterNumbers}
use Rattle.index_files.specs.Footers.{EndsIn, footer_numbers}
use Rattle.partition_index.specs.File.{footer, in_eight}
use Rattle.table_check.specs.Footing.{EndsInThis}
use Rattle.index_files.proofs.Footers.{grouped}

-- ---- bytes

pub as_bytes : (bs : List ℕ) → ((i : ℕ) → slice_index bs i < 256) → AreBytes bs
as_bytes [] small = tt
as_bytes (b ∷ bs) small = (small 0, as_bytes bs (λ i. small (suc i)))

bytes_behind : (front bs : List ℕ) → AreBytes (front ++ bs) → AreBytes bs
bytes_behind [] bs are = are
bytes_behind (b ∷ front) bs are = bytes_behind front bs are.1

front_bytes : (n : ℕ) (bs : List ℕ) → AreBytes bs → AreBytes (take n bs)
front_bytes zero bs are = tt
front_bytes (suc n) [] are = tt
front_bytes (suc n) (b ∷ bs) are = (are.0, front_bytes n bs are.1)

-- ---- one number

as_value : (bs : List ℕ) → big_from 0 (length bs) bs ≡ value_from 0 bs
as_value [] = refl
as_value (b ∷ bs) =
    let none : b ≡ 0 * 256 + b = omega arith in
    ap (λ n. b * 256 ^ length bs + n) (big_from-cons 0 (length bs) b bs ∙ as_value bs) ∙ sym (from_sum b bs)
    ∙ ap (λ n. value_from n bs) none

-- a number of bytes spells these
spelled_back : (k : ℕ) (bs : List ℕ) → length bs ≡ k → AreBytes bs → big_bytes k (big_number k bs) ≡ bs
spelled_back k bs long are =
    ap (λ n. big_bytes n (big_number n bs)) (sym long) ∙ ap (big_bytes (length bs)) (as_value bs) ∙ digits 0 bs are

eight_back : (bs : List ℕ) → 8 ≤ length bs → AreBytes bs → in_eight (big_number 8 bs) ≡ take 8 bs
unfolding in_eight
eight_back bs long are =
    ap (big_bytes 8) (sym (big_from-take 0 8 8 bs (omega arith)))
    ∙ spelled_back 8 (take 8 bs) (length-take-le 8 bs long) (front_bytes 8 bs are)

-- and it is below the numbers of more bytes
eight_few : (bs : List ℕ) → 8 ≤ length bs → AreBytes bs → big_number 8 bs < 2 ^ 64
eight_few bs long are =
    let front = take 8 bs in
    let size : length front ≡ 8 = length-take-le 8 bs long in
    let is : big_number 8 bs ≡ value_from 0 front =
    sym (big_from-take 0 8 8 bs (omega arith)) ∙ ap (λ n. big_from 0 n front) (sym size) ∙ as_value front in
    let low : value_from 0 front < 256 ^ 8 = subst (λ (n : ℕ). value_from 0 front < 256 ^ n) size
    (from_below front (front_bytes 8 bs are)) in
    omega (arith, is, low)

-- ---- the three

parted : (n : ℕ) (bs : List ℕ) → take n bs ++ drop n bs ≡ bs
parted n bs = take-append-drop n bs

behind_bytes : (n : ℕ) (bs : List ℕ) → AreBytes bs → AreBytes (drop n bs)
behind_bytes n bs are = bytes_behind (take n bs) (drop n bs) (subst AreBytes (sym (parted n bs)) are)

footer_back : (end_ : List ℕ) → length end_ ≡ 24 → AreBytes end_
    → end_ ≡ footer (footer_numbers end_).strings (footer_numbers end_).partitions (footer_numbers end_).root
footer_back end_ long are =
    let behind = drop 8 end_ in
    let last = drop 16 end_ in
    let twice : drop 8 behind ≡ last = drop-drop 8 8 end_ in
    let first_is = eight_back end_ (omega (arith, long)) are in
    let second_is = eight_back behind (omega (arith, long, length-drop 8 end_)) (behind_bytes 8 end_ are) in
    let third_is = eight_back last (omega (arith, long, length-drop 16 end_)) (behind_bytes 16 end_ are)
    ∙ take_all 8 last (omega (arith, long, length-drop 16 end_)) in
    let rest : behind ≡ in_eight (big_number 8 behind) ++ in_eight (big_number 8 last) =
    sym (parted 8 behind) ∙ ap (λ l. take 8 behind ++ l) (twice ∙ sym third_is)
    ∙ ap (λ l. l ++ in_eight (big_number 8 last)) (sym second_is) in
    sym (parted 8 end_) ∙ ap (λ l. take 8 end_ ++ l) rest
    ∙ ap (λ l. l ++ (in_eight (big_number 8 behind) ++ in_eight (big_number 8 last))) (sym first_is)

-- ---- the last bytes of a file

-- of two equal lists the longer front has the shorter one, and what is behind it
behind_front : (xs ys a b : List ℕ) → length xs ≤ length ys → xs ++ a ≡ ys ++ b → (rest : List ℕ) × (a ≡ rest ++ b)
behind_front [] ys a b l e = (ys, e)
behind_front (x ∷ xs) [] a b l e = absurd (omega (arith, l))
behind_front (x ∷ xs) (y ∷ ys) a b l e =
    let tails : xs ++ a ≡ ys ++ b = cc in
    behind_front xs ys a b (omega (arith, l)) tails

-- so many zeros
abbrev zeros : ℕ → List ℕ
zeros zero = []
zeros (suc n) = 0 ∷ zeros n

zeros_long : (n : ℕ) → length (zeros n) ≡ n
zeros_long zero = refl
zeros_long (suc n) = ap suc (zeros_long n)

pub spells : (columns : Columns) (start : ℕ) (tail first last : List ℕ) (numbers : FooterNumbers) → 28 ≤ length tail
    → AreBytes tail
    → EndsIn columns start tail first last numbers → EndsInThis columns start tail first last numbers
spells columns start tail first last numbers long are ends =
    let before = zeros start in
    let f = ends before (zeros_long start) in
    let strings = f.trie ++ (counted first ++ counted last) in
    let whole : before ++ tail ≡ strings ++ f.end = f.stands ∙ grouped f.trie (counted first) (counted last) f.end in
    let lengths : length before + length tail ≡ length strings + length f.end =
    sym (length-append before tail) ∙ ap length whole ∙ length-append strings f.end in
    let cut = behind_front before strings tail f.end (omega (arith, lengths, long, f.count)) whole in
    let small : AreBytes f.end = bytes_behind cut.0 f.end (subst AreBytes cut.1 are) in
    let spelled = footer_back f.end f.count small in
    let second = eight_few (drop 8 f.end) (omega (arith, f.count, length-drop 8 f.end)) (behind_bytes 8 f.end small) in
    record {
      ends = ends;
      spelled = (
        cut.0,
        cut.1 ∙ ap (λ l. cut.0 ++ l)
            (spelled ∙ ap (λ (n : FooterNumbers). footer n.strings n.partitions n.root) (sym f.read)),
      );
      few = omega (arith, second, ap (λ (n : FooterNumbers). n.partitions) f.read);
    }
