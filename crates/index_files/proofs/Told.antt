-- What the bytes that were read tell of the file.
use Rattle.std.proofs.Common.{◌≡◌, ◌∙◌, ◌⊎◌, ℕ, zero, suc, ◌+◌, ◌-◌, ◌*◌, ◌^◌, ◌<◌, ◌≤◌, List, [], ◌∷◌, ◌++◌, length, take, drop, Option, None, Some, IfSome, Ok, Err, inl, inr, ap, arith, refl, subst, sym, append_assoc, length-append}
use Rattle.std.specs.Prelude.{slice_index, unwrap_or}
use Rattle.std.specs.FinMap as map
use Rattle.std.proofs.lemmas.List.{drop-append-le, get_or_append_left, length-drop, length-take-le, take-append-drop, take_all}
use Rattle.std.proofs.Math.Seq.{take-append-add}
use Rattle.byteorder.specs.Endian.{big_from, big_number}
use Rattle.outside.specs.declared.store.FileId.{FileId}
use Rattle.outside.specs.declared.store.Part.{Part}
use Rattle.outside.specs.Files.{Files, SizeIs, bytes_of}
use Rattle.bti_nodes.specs.declared.damage.Cause.TheVariants.{BadEntry, BadFooter}
use Rattle.data_file.specs.declared.reading.DataError.{DataError}
use Rattle.data_file.specs.declared.reading.DataError.TheVariants.{Damaged}
use Rattle.key_types.specs.Columns.{Columns}
use Rattle.key_decode.proofs.Known.{string_length}
use Rattle.length_prefix.specs.Counted.{counted}
use Rattle.index_files.specs.declared.entry.EntryNumbers.{EntryNumbers}
use Rattle.index_files.specs.declared.footer.FooterNumbers.{FooterNumbers}
use Rattle.index_files.specs.Entries.{numbers_in, BeginsEntry, NoEntry}
use Rattle.index_files.specs.Footers.{EndsInNone, IsFooter, NoFooter}
use Rattle.index_files.specs.Reading.{file_damage, footer_place, EndsInNumbers, ReadsEntry, ReadsFooter}

-- ---- entries

front_number : (i n : ℕ) (xs ys : List ℕ) → i + n ≤ length xs → big_from i n (xs ++ ys) ≡ big_from i n xs
front_number i zero xs ys h = refl
front_number i (suc n) xs ys h =
    let first : slice_index (xs ++ ys) i ≡ slice_index xs i = get_or_append_left xs ys 0 i (omega (arith, h)) in
    let rest : big_from (suc i) n (xs ++ ys) ≡ big_from (suc i) n xs = front_number (suc i) n xs ys (omega (arith, h)) in
    ap (λ k. k * 256 ^ n + big_from (suc i) n (xs ++ ys)) first ∙ ap (λ k. slice_index xs i * 256 ^ n + k) rest

behind_number : (n at : ℕ) (xs ys : List ℕ) → at + n ≤ length xs → big_number n (drop at (xs ++ ys)) ≡ big_number n (drop at xs)
behind_number n at xs ys h =
    ap (big_number n) (drop-append-le at xs ys (omega (arith, h))) ∙ front_number 0 n (drop at xs) ys (omega (arith, h, length-drop at xs))

-- what follows twenty bytes is no matter
numbers_go_on : (xs ys : List ℕ) → 20 ≤ length xs → numbers_in (xs ++ ys) ≡ numbers_in xs
numbers_go_on xs ys h =
    let position : big_number 8 (xs ++ ys) ≡ big_number 8 xs = front_number 0 8 xs ys (omega (arith, h)) in
    let root : big_number 8 (drop 8 (xs ++ ys)) ≡ big_number 8 (drop 8 xs) = behind_number 8 8 xs ys (omega (arith, h)) in
    let blocks : big_number 4 (drop 16 (xs ++ ys)) ≡ big_number 4 (drop 16 xs) = behind_number 4 16 xs ys (omega (arith, h)) in
    λ i. record { position = position i; root = root i; blocks = blocks i }

entry_goes_on : (columns : Columns) (bytes more : List ℕ) (at : ℕ) (partition : List ℕ) (numbers : EntryNumbers) → BeginsEntry columns bytes at partition numbers → BeginsEntry columns (bytes ++ more) at partition numbers
entry_goes_on columns bytes more at partition numbers e = record {
  string = e.string;
  rest = e.rest ++ more;
  stands = ap (λ l. l ++ more) e.stands ∙ append_assoc (counted partition) e.rest more;
  whole = omega (arith, e.whole, length-append e.rest more);
  read = e.read ∙ sym (numbers_go_on e.rest more e.whole);
  root = e.root;
  blocks = e.blocks;
}

-- an entry stands in its first 1,046 bytes
entry_in_front : (columns : Columns) (bytes : List ℕ) (at : ℕ) (partition : List ℕ) (numbers : EntryNumbers) → BeginsEntry columns bytes at partition numbers → BeginsEntry columns (take 1046 bytes) at partition numbers
entry_in_front columns bytes at partition numbers e =
    let few = string_length columns.partition partition e.string in
    let k = 1046 - length (counted partition) in
    let count : 1046 ≡ length (counted partition) + k = omega (arith, few) in
    let enough : 20 ≤ k = omega (arith, few) in
    let cut : take 1046 bytes ≡ counted partition ++ take k e.rest = ap (take 1046) e.stands ∙ ap (λ n. take n (counted partition ++ e.rest)) count ∙ take-append-add (counted partition) e.rest k in
    let back : numbers_in (take k e.rest) ≡ numbers_in e.rest = sym (numbers_go_on (take k e.rest) (drop k e.rest) (twenty k e.rest enough e.whole)) ∙ ap numbers_in (take-append-drop k e.rest) in
    record {
      string = e.string;
      rest = take k e.rest;
      stands = cut;
      whole = twenty k e.rest enough e.whole;
      read = e.read ∙ sym back;
      root = e.root;
      blocks = e.blocks;
    }
  where
    least : (n k : ℕ) (xs : List ℕ) → n ≤ k → n ≤ length xs → n ≤ length (take k xs)
    least zero k xs h l = omega arith
    least (suc n) zero xs h l = absurd (omega (arith, h))
    least (suc n) (suc k) [] h l = absurd (omega (arith, l))
    least (suc n) (suc k) (x ∷ xs) h l = let rest = least n k xs (omega (arith, h)) (omega (arith, l)) in omega (arith, rest)

    twenty : (k : ℕ) (xs : List ℕ) → 20 ≤ k → 20 ≤ length xs → 20 ≤ length (take k xs)
    twenty k xs h l = least 20 k xs h l

pub entry_told : (files : Option Files) (file : FileId) (columns : Columns) (part : Part) (at : ℕ) (held bytes partition : List ℕ) (numbers : EntryNumbers)
    → IfSome files (λ m. held ≡ take 1046 (drop at (bytes_of m file))) → bytes ≡ held → BeginsEntry columns bytes at partition numbers
    → IfSome files (λ m. ReadsEntry columns part (bytes_of m file) at (Ok numbers))
entry_told None file columns part at held bytes partition numbers told same e = tt
entry_told (Some m) file columns part at held bytes partition numbers told same e =
    let rest = drop at (bytes_of m file) in (
      partition,
      subst (λ (b : List ℕ). BeginsEntry columns b at partition numbers) (take-append-drop 1046 rest)
          (entry_goes_on columns (take 1046 rest) (drop 1046 rest) at partition numbers (subst (λ (b : List ℕ). BeginsEntry columns b at partition numbers) (same ∙ told) e)),
    )

pub no_entry_told : (files : Option Files) (file : FileId) (columns : Columns) (part : Part) (at : ℕ) (held bytes : List ℕ) (e : DataError)
    → IfSome files (λ m. held ≡ take 1046 (drop at (bytes_of m file))) → bytes ≡ held → e ≡ Damaged (file_damage part at BadEntry) → NoEntry columns bytes at
    → IfSome files (λ m. ReadsEntry columns part (bytes_of m file) at (Err e))
no_entry_told None file columns part at held bytes e told same is none = tt
no_entry_told (Some m) file columns part at held bytes e told same is none =
    subst (λ (x : DataError). ReadsEntry columns part (bytes_of m file) at (Err x)) (sym is) (
      refl,
      λ partition numbers b. none partition numbers (subst (λ (l : List ℕ). BeginsEntry columns l at partition numbers) (sym (same ∙ told))
          (entry_in_front columns (drop at (bytes_of m file)) at partition numbers b)),
    )

-- ---- footers

-- a footer has twenty-eight bytes at least, with its strings
pub short_tail : (columns : Columns) (before tail : List ℕ) (start : ℕ) → length tail < 28 → (start ≡ 0) ⊎ (2076 ≤ length tail) → length before ≡ start
    → NoFooter columns (before ++ tail)
short_tail columns before tail start few (inr many) b first last numbers f = omega (arith, few, many)
short_tail columns before tail start few (inl none) b first last numbers f =
    omega (
      arith,
      few,
      none,
      b,
      f.count,
      ap length f.stands,
      length-append before tail,
      length-append f.trie (counted first ++ (counted last ++ f.end)),
      length-append (counted first) (counted last ++ f.end),
      length-append (counted last) f.end,
    )

size_is : (bytes : Option (List ℕ)) (size : Option ℕ) → SizeIs bytes size → unwrap_or size 0 ≡ length (unwrap_or bytes [])
size_is None None is = refl
size_is (Some b) None is = cc
size_is None (Some n) is = absurd (is.1 refl)
size_is (Some b) (Some n) is = is.0

-- the size of a file, none where it isn't there
pub size_told : (files : Option Files) (file : FileId) (size : Option ℕ) (n : ℕ) → IfSome files (λ m. SizeIs (map.get m file) size) → n ≡ unwrap_or size 0
    → IfSome files (λ m. n ≡ length (bytes_of m file))
size_told None file size n is e = tt
size_told (Some m) file size n is e = e ∙ size_is (map.get m file) size is

-- the last bytes, and the place where they begin
pub record IsTail (file : List ℕ) (start : ℕ) (tail : List ℕ) : Type 0 where
  pub before : length (take start file) ≡ start
  pub joined : take start file ++ tail ≡ file
  pub enough : (start ≡ 0) ⊎ (2076 ≤ length tail)

enough : (start size count : ℕ) → start ≡ size - 2076 → count ≡ size - start → (start ≡ 0) ⊎ (2076 ≤ count)
enough zero size count s n = inl refl
enough (suc k) size count s n = inr (omega (arith, s, n))

pub tail_of : (file : List ℕ) (size start : ℕ) (tail : List ℕ) → size ≡ length file → start ≡ size - 2076 → tail ≡ take 2076 (drop start file) → IsTail file start tail
tail_of file size start tail n s t =
    let all : tail ≡ drop start file = t ∙ take_all 2076 (drop start file) (omega (arith, n, s, length-drop start file)) in
    record {
      before = length-take-le start file (omega (arith, n, s));
      joined = ap (λ l. take start file ++ l) all ∙ take-append-drop start file;
      enough = enough start size (length tail) s (ap length all ∙ length-drop start file ∙ ap (λ k. k - start) (sym n));
    }

pub footer_told : (files : Option Files) (file : FileId) (columns : Columns) (part : Part) (size start : ℕ) (held tail : List ℕ) (numbers : FooterNumbers)
    → IfSome files (λ m. size ≡ length (bytes_of m file)) → start ≡ size - 2076 → IfSome files (λ m. held ≡ take 2076 (drop start (bytes_of m file)))
    → tail ≡ held → EndsInNumbers columns start tail numbers → IfSome files (λ m. ReadsFooter columns part (bytes_of m file) (Ok numbers))
footer_told None file columns part size start held tail numbers n s told same (first, last, ends) = tt
footer_told (Some m) file columns part size start held tail numbers n s told same (first, last, ends) =
    let bytes = bytes_of m file in
    let t = tail_of bytes size start tail n s (same ∙ told) in
    (first, last, subst (λ (f : List ℕ). IsFooter columns f first last numbers) t.joined (ends (take start bytes) t.before))

pub no_footer_told : (files : Option Files) (file : FileId) (columns : Columns) (part : Part) (size start place : ℕ) (held tail : List ℕ) (e : DataError)
    → IfSome files (λ m. size ≡ length (bytes_of m file)) → start ≡ size - 2076 → IfSome files (λ m. held ≡ take 2076 (drop start (bytes_of m file)))
    → tail ≡ held → place ≡ footer_place size → e ≡ Damaged (file_damage part place BadFooter) → ((start ≡ 0) ⊎ (2076 ≤ length tail) → EndsInNone columns start tail)
    → IfSome files (λ m. ReadsFooter columns part (bytes_of m file) (Err e))
no_footer_told None file columns part size start place held tail e n s told same p is none = tt
no_footer_told (Some m) file columns part size start place held tail e n s told same p is none =
    let bytes = bytes_of m file in
    let t = tail_of bytes size start tail n s (same ∙ told) in
    let there : place ≡ footer_place (length bytes) = p ∙ ap footer_place n in
    subst (λ (x : DataError). ReadsFooter columns part bytes (Err x)) (sym is)
    (ap (λ k. file_damage part k BadFooter) there, subst (NoFooter columns) t.joined (none t.enough (take start bytes) t.before))
