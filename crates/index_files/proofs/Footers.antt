-- Footers, and files that have none.
use Rattle.std.proofs.Common.{◌≡◌, ◌∙◌, ◌⊎◌, ℕ, ◌+◌, ◌-◌, ◌<◌, ◌≤◌, List, [], ◌∷◌, ◌++◌, length, inl, inr, ap, arith, refl, subst, sym, append_assoc}
use Rattle.std.proofs.lemmas.List.{append-nil, length-append}
use Rattle.key_types.specs.Columns.{Columns}
use Rattle.key_decode.proofs.Known.{string_length}
use Rattle.length_prefix.specs.Counted.{counted, IsCutOff}
use Rattle.length_prefix.proofs.Counts.{counted-same, not_cut_off}
use Rattle.index_files.specs.declared.footer.FooterNumbers.{FooterNumbers}
use Rattle.index_files.specs.Footers.{footer_numbers, AreStrings, IsFooter, IsSoundFooter, NoFooter}

-- ---- lists that are equal and begin with as many items

pub same_fronts : (xs ys a b : List ℕ) → length xs ≡ length ys → xs ++ a ≡ ys ++ b → (xs ≡ ys) × (a ≡ b)
same_fronts [] [] a b n e = (refl, e)
same_fronts [] (y ∷ ys) a b n e = absurd (omega (arith, n))
same_fronts (x ∷ xs) [] a b n e = absurd (omega (arith, n))
same_fronts (x ∷ xs) (y ∷ ys) a b n e =
    let tails : xs ++ a ≡ ys ++ b = cc in
    let rest = same_fronts xs ys a b (omega (arith, n)) tails in
    let same : xs ≡ ys = rest.0 in
    (cc, rest.1)

pub same_ends : (xs ys a b : List ℕ) → length a ≡ length b → xs ++ a ≡ ys ++ b → (xs ≡ ys) × (a ≡ b)
same_ends xs ys a b n e = same_fronts xs ys a b (omega (arith, n, length-append xs a, length-append ys b, ap length e)) e

-- ---- two strings

pub strings_cut : (bytes skipped strings : List ℕ) (from : ℕ) → length skipped ≡ from → bytes ≡ skipped ++ strings → IsCutOff strings → (first last : List ℕ) → AreStrings bytes from first last → ⊥
strings_cut bytes skipped strings from n b cut first last s =
    not_cut_off strings first (counted last) cut (same_fronts skipped s.front strings (counted first ++ counted last) (n ∙ sym s.place) (sym b ∙ s.stands)).1

-- what stands behind the first string
behind : (bytes skipped strings one rest : List ℕ) (from : ℕ) (first last : List ℕ) → length skipped ≡ from → bytes ≡ skipped ++ strings → strings ≡ counted one ++ rest → AreStrings bytes from first last → (one ≡ first) × (rest ≡ counted last)
behind bytes skipped strings one rest from first last n b e s =
    counted-same one first rest (counted last) (sym e ∙ (same_fronts skipped s.front strings (counted first ++ counted last) (n ∙ sym s.place) (sym b ∙ s.stands)).1)

pub second_cut : (bytes skipped strings one rest : List ℕ) (from : ℕ) → length skipped ≡ from → bytes ≡ skipped ++ strings → strings ≡ counted one ++ rest → IsCutOff rest → (first last : List ℕ) → AreStrings bytes from first last → ⊥
second_cut bytes skipped strings one rest from n b e cut first last s =
    not_cut_off rest last [] cut ((behind bytes skipped strings one rest from first last n b e s).1 ∙ sym (append-nil (counted last)))

pub more_behind : (bytes skipped strings one rest two more : List ℕ) (from : ℕ) → length skipped ≡ from → bytes ≡ skipped ++ strings → strings ≡ counted one ++ rest → rest ≡ counted two ++ more → (more ≡ [] → ⊥) → (first last : List ℕ) → AreStrings bytes from first last → ⊥
more_behind bytes skipped strings one rest two more from n b e f some first last s =
    some (counted-same two last more [] (sym f ∙ (behind bytes skipped strings one rest from first last n b e s).1 ∙ sym (append-nil (counted last)))).1

pub too_far : (bytes : List ℕ) (from : ℕ) → length bytes < from → (first last : List ℕ) → AreStrings bytes from first last → ⊥
too_far bytes from far first last s = omega (arith, far, s.place, ap length s.stands, length-append s.front (counted first ++ counted last))

pub both_strings : (bytes skipped strings one rest two more : List ℕ) (from : ℕ) → length skipped ≡ from → bytes ≡ skipped ++ strings → strings ≡ counted one ++ rest → rest ≡ counted two ++ more → more ≡ [] → AreStrings bytes from one two
both_strings bytes skipped strings one rest two more from n b e f none = record {
  front = skipped;
  place = n;
  stands = b ∙ ap (λ l. skipped ++ l) (e ∙ ap (λ l. counted one ++ l) (f ∙ ap (λ l. counted two ++ l) none ∙ append-nil (counted two)));
}

same_strings : (bytes : List ℕ) (from : ℕ) (one two first last : List ℕ) → AreStrings bytes from one two → AreStrings bytes from first last → (one ≡ first) × (two ≡ last)
same_strings bytes from one two first last a b =
    let both = (same_fronts a.front b.front (counted one ++ counted two) (counted first ++ counted last) (a.place ∙ sym b.place) (sym a.stands ∙ b.stands)).1 in
    let front = counted-same one first (counted two) (counted last) both in
    (front.0, (counted-same two last [] [] (append-nil (counted two) ∙ front.1 ∙ sym (append-nil (counted last)))).0)

-- ---- footers

pub grouped : (trie a b end : List ℕ) → trie ++ (a ++ (b ++ end)) ≡ (trie ++ (a ++ b)) ++ end
grouped trie a b end = ap (λ l. trie ++ l) (sym (append_assoc a b end)) ∙ sym (append_assoc trie (a ++ b) end)

-- what a footer says of the last bytes
record Ends (columns : Columns) (before front end first last : List ℕ) (numbers : FooterNumbers) : Type 0 where
  pub trie : List ℕ
  pub place : length trie ≡ numbers.strings
  pub fronts : before ++ front ≡ trie ++ (counted first ++ counted last)
  pub read : numbers ≡ footer_numbers end
  pub sound : IsSoundFooter columns first last numbers

ends : (columns : Columns) (before tail front end first last : List ℕ) (numbers : FooterNumbers) → tail ≡ front ++ end → length end ≡ 24 → IsFooter columns (before ++ tail) first last numbers → Ends columns before front end first last numbers
ends columns before tail front end first last numbers t n f =
    let whole : (before ++ front) ++ end ≡ (f.trie ++ (counted first ++ counted last)) ++ f.end =
    append_assoc before front end ∙ ap (λ l. before ++ l) (sym t) ∙ f.stands ∙ grouped f.trie (counted first) (counted last) f.end in
    let two = same_ends (before ++ front) (f.trie ++ (counted first ++ counted last)) end f.end (n ∙ sym f.count) whole in
    record { trie = f.trie; place = f.place; fronts = two.0; read = f.read ∙ ap footer_numbers (sym two.1); sound = f.sound }

-- sound strings are short
short : (columns : Columns) (first last : List ℕ) (numbers : FooterNumbers) → IsSoundFooter columns first last numbers → (length first ≤ 1024) × (length last ≤ 1024)
short columns first last numbers (inl e) = (omega (arith, ap length e.3), omega (arith, ap length e.4))
short columns first last numbers (inr f) = (string_length columns.partition first f.3, string_length columns.partition last f.4)

-- the longer of two fronts begins with the shorter
record Cut (xs ys a b : List ℕ) : Type 0 where
  pub rest : List ℕ
  pub count : length xs + length rest ≡ length ys
  pub joined : a ≡ rest ++ b

cut : (xs ys a b : List ℕ) → length xs ≤ length ys → xs ++ a ≡ ys ++ b → Cut xs ys a b
cut [] ys a b l e = record { rest = ys; count = omega arith; joined = e }
cut (x ∷ xs) [] a b l e = absurd (omega (arith, l))
cut (x ∷ xs) (y ∷ ys) a b l e =
    let tails : xs ++ a ≡ ys ++ b = cc in
    let c = cut xs ys a b (omega (arith, l)) tails in
    record { rest = c.rest; count = omega (arith, c.count); joined = c.joined }

strings_at : (columns : Columns) (before front end first last : List ℕ) (numbers : FooterNumbers) → length before ≤ numbers.strings → Ends columns before front end first last numbers → AreStrings front (numbers.strings - length before) first last
strings_at columns before front end first last numbers l e =
    let c = cut before e.trie front (counted first ++ counted last) (omega (arith, l, e.place)) e.fronts in
    record { front = c.rest; place = omega (arith, c.count, e.place); stands = c.joined }

pub footer_is : (columns : Columns) (before tail front end first last : List ℕ) (numbers : FooterNumbers) → tail ≡ front ++ end → length end ≡ 24 → numbers ≡ footer_numbers end → length before ≤ numbers.strings
    → AreStrings front (numbers.strings - length before) first last → IsSoundFooter columns first last numbers → IsFooter columns (before ++ tail) first last numbers
footer_is columns before tail front end first last numbers t n r l s sound = record {
  trie = before ++ s.front;
  place = length-append before s.front ∙ omega (arith, s.place, l);
  end = end;
  count = n;
  stands = ap (λ l. before ++ l) (t ∙ ap (λ l. l ++ end) s.stands) ∙ sym (append_assoc before (s.front ++ (counted first ++ counted last)) end) ∙ ap (λ l. l ++ end) (sym (append_assoc before s.front (counted first ++ counted last)))
      ∙ sym (grouped (before ++ s.front) (counted first) (counted last) end);
  read = r;
  sound = sound;
}

pub before_the_tail : (columns : Columns) (before tail front end : List ℕ) (read : FooterNumbers) (start : ℕ) → tail ≡ front ++ end → length end ≡ 24 → read ≡ footer_numbers end → length before ≡ start → (start ≡ 0) ⊎ (2076 ≤ length tail) → read.strings < start → NoFooter columns (before ++ tail)
before_the_tail columns before tail front end read start t n r b (inl none) far first last numbers f = omega (arith, none, far)
before_the_tail columns before tail front end read start t n r b (inr many) far first last numbers f =
    let e = ends columns before tail front end first last numbers t n f in
    let few = short columns first last numbers e.sound in
    let same : numbers.strings ≡ read.strings = ap (λ (x : FooterNumbers). x.strings) (e.read ∙ sym r) in
    omega (arith, many, far, few.0, few.1, same, e.place, b, n, ap length e.fronts, length-append before front, length-append e.trie (counted first ++ counted last), length-append (counted first) (counted last), ap length t, length-append front end)

pub no_strings : (columns : Columns) (before tail front end : List ℕ) (read : FooterNumbers) (start : ℕ) → tail ≡ front ++ end → length end ≡ 24 → read ≡ footer_numbers end → length before ≡ start → start ≤ read.strings
    → ((first last : List ℕ) → AreStrings front (read.strings - start) first last → ⊥) → NoFooter columns (before ++ tail)
no_strings columns before tail front end read start t n r b l none first last numbers f =
    let e = ends columns before tail front end first last numbers t n f in
    let same : numbers.strings ≡ read.strings = ap (λ (x : FooterNumbers). x.strings) (e.read ∙ sym r) in
    let from : numbers.strings - length before ≡ read.strings - start = omega (arith, same, b) in
    none first last (subst (λ k. AreStrings front k first last) from (strings_at columns before front end first last numbers (omega (arith, same, b, l)) e))

pub unsound : (columns : Columns) (before tail front end one two : List ℕ) (read : FooterNumbers) (start : ℕ) → tail ≡ front ++ end → length end ≡ 24 → read ≡ footer_numbers end → length before ≡ start → start ≤ read.strings
    → AreStrings front (read.strings - start) one two → (IsSoundFooter columns one two read → ⊥) → NoFooter columns (before ++ tail)
unsound columns before tail front end one two read start t n r b l s not first last numbers f =
    let e = ends columns before tail front end first last numbers t n f in
    let equal : numbers ≡ read = e.read ∙ sym r in
    let same : numbers.strings ≡ read.strings = ap (λ (x : FooterNumbers). x.strings) equal in
    let from : numbers.strings - length before ≡ read.strings - start = omega (arith, same, b) in
    let theirs = subst (λ k. AreStrings front k first last) from (strings_at columns before front end first last numbers (omega (arith, same, b, l)) e) in
    let both = same_strings front (read.strings - start) one two first last s theirs in
    not (subst (λ (x : List ℕ). IsSoundFooter columns x two read) (sym both.0) (subst (λ (x : List ℕ). IsSoundFooter columns first x read) (sym both.1) (subst (λ (x : FooterNumbers). IsSoundFooter columns first last x) equal e.sound)))
