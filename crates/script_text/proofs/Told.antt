-- What is told of a line says exactly what it says, or why it isn't accepted.
use Rattle.std.proofs.Common.{◌≡◌, ℕ, zero, suc, ◌-◌, ◌≤◌, ◌==◌, Bool, true, false, ◌&&◌, ◌||◌, List, [], ◌∷◌, ◌++◌, length, Option, Some, None, Result, Ok, Err, refl, sym, ◌∙◌, ap, arith, subst, append_assoc, inl, inr}
use Rattle.std.specs.Prelude.{replicate, if◌then◌else◌}
use Rattle.std.specs.Str.{IsUtf8, is_utf8}
use Rattle.grammar.specs.Exact.{Longest}
use Rattle.grammar.proofs.Tokens.{same_byte}
use Rattle.key_types.specs.declared.schema.ValueType.{ValueType}
use Rattle.key_types.specs.declared.schema.ValueType.TheVariants.{Text, Blob}
use Rattle.key_types.specs.Kinds.{Val, number, bytes, truth, values, Vals, Fits, AreBytes}
use Rattle.key_text.specs.Grammar.{IsLiteral, IsText}
use Rattle.key_text.specs.Outside.{NumbersFit}
use Rattle.key_text.specs.Marking.{Marked}
use Rattle.key_text.proofs.Utf.{literal_fits, list_fits, whole_within, whole_bytes}
use Rattle.key_text.proofs.Answered as answered
use Rattle.key_types.specs.Columns.{Columns}
use Rattle.byte_comparable.specs.Order.{Key, KeyFits}
use Rattle.script_text.specs.declared.script.LineCause.TheVariants.{BadText}
use Rattle.script_text.specs.Grammar.{PutText, LineText, no_text, put_text, get_text, sync_text, value_kind, IsSet, IsKeyText, IsPut, IsGet, IsCommand, IsComment, IsBlank, IsLine, PutFits, LineFits}
use Rattle.script_text.specs.Passing.{CommandPasses, LinePasses}
use Rattle.script_text.specs.Reading.{command_at, whole_line, is_comment, is_blank, has_dash, told, line_of}
use Rattle.script_text.specs.Laws.{LineReads}
use Rattle.script_text.proofs.Octets.{utf8_bytes}
use Rattle.script_text.proofs.Sayings.{AfterLine, KeyNumbers, LineNumbers, plain_command, command_tracked, command_heads, command_text, spaced_command_exact}

-- ---- what was read fits

-- what stands between others in a text of UTF-8
abbrev Within : List ℕ → Type 0
Within front = (before : List ℕ) × (after : List ℕ) × IsUtf8 (before ++ (front ++ after))

within_first : (xs ys : List ℕ) → Within (xs ++ ys) → Within xs
within_first xs ys h = (h.0, ys ++ h.1, subst (λ (l : List ℕ). IsUtf8 (h.0 ++ l)) (append_assoc xs ys h.1) h.2)

within_second : (xs ys : List ℕ) → Within (xs ++ ys) → Within ys
within_second xs ys h = (h.0 ++ xs, h.1, subst IsUtf8 (ap (λ l. h.0 ++ l) (append_assoc xs ys h.1) ∙ sym (append_assoc h.0 xs (ys ++ h.1))) h.2)

front_bytes : (xs ys : List ℕ) → AreBytes (xs ++ ys) → AreBytes xs
front_bytes [] ys h = tt
front_bytes (x ∷ xs) ys h = (h.0, front_bytes xs ys h.1)

back_bytes : (xs ys : List ℕ) → AreBytes (xs ++ ys) → AreBytes ys
back_bytes [] ys h = h
back_bytes (x ∷ xs) ys h = back_bytes xs ys h.1

-- a text or blob has no number
column_numbers : (t : ValueType) (v : Val) (bs : List ℕ) → IsLiteral (value_kind t) v bs → NumbersFit (value_kind t) v
column_numbers Text (number z) bs is = absurd is.2
column_numbers Text (bytes b) bs is = tt
column_numbers Text (truth b) bs is = absurd is.2
column_numbers Text (values vs) bs is = absurd is.2
column_numbers Blob (number z) bs is = absurd is.2
column_numbers Blob (bytes b) bs is = tt
column_numbers Blob (truth b) bs is = absurd is.2
column_numbers Blob (values vs) bs is = absurd is.2

set_fits : (t : ValueType) (v : Val) (bs : List ℕ) → IsSet t v bs → Within bs → AreBytes bs → Fits (value_kind t) v
set_fits t v bs (equals, value, sign, lit, e) w h =
    literal_fits (value_kind t) v value lit (within_second equals value (subst Within e w)) (back_bytes equals value (subst AreBytes e h)) (column_numbers t v value lit)

key_fits_by : (s : Columns) (vs : Vals) (cs : Option Vals) (bs : List ℕ) → IsKeyText s (record { partition = vs; clustering = cs }) bs → Within bs → AreBytes bs → KeyNumbers s (record { partition = vs; clustering = cs })
    → KeyFits s.partition s.clustering (record { partition = vs; clustering = cs })
key_fits_by s vs (Some cs) bs (list, row, l, r, e) w h n =
    let x = subst Within e w in
    let y = subst AreBytes e h in
    (list_fits s.partition vs list l (within_first list row x) (front_bytes list row y) n.0, list_fits s.clustering cs row r (within_second list row x) (back_bytes list row y) n.1)
key_fits_by s vs None bs (list, static, l, r, e) w h n = (list_fits s.partition vs list l (within_first list static (subst Within e w)) (front_bytes list static (subst AreBytes e h)) n.0, tt)

key_fits : (s : Columns) (key : Key) (bs : List ℕ) → IsKeyText s key bs → Within bs → AreBytes bs → KeyNumbers s key → KeyFits s.partition s.clustering key
key_fits s key = key_fits_by s key.partition key.clustering

put_fits : (s : Columns) (p : PutText) (bs : List ℕ) → IsPut s p bs → Within bs → AreBytes bs → KeyNumbers s p.key → PutFits s p
put_fits s p bs (t, word, key, set, spaced, k, typed, is, e) w h n =
    let x = within_second word (key ++ set) (subst Within e w) in
    let y = back_bytes word (key ++ set) (subst AreBytes e h) in
    (key_fits s p.key key k (within_first key set x) (front_bytes key set y) n, (t, typed, set_fits t p.value set is (within_second key set x) (back_bytes key set y)))

get_fits : (s : Columns) (asked : Key) (bs : List ℕ) → IsGet s asked bs → Within bs → AreBytes bs → KeyNumbers s asked → KeyFits s.partition s.clustering asked
get_fits s asked bs (word, key, spaced, k, e) w h n = key_fits s asked key k (within_second word key (subst Within e w)) (back_bytes word key (subst AreBytes e h)) n

command_fits : (s : Columns) (said : LineText) (bs : List ℕ) → IsCommand s said bs → Within bs → AreBytes bs → LineNumbers s said → LineFits s said
command_fits s no_text bs is w h n = tt
command_fits s (put_text p) bs is w h n = put_fits s p bs is w h n
command_fits s (get_text key) bs is w h n = get_fits s key bs is w h n
command_fits s sync_text bs is w h n = tt

-- ---- comments and blank lines

comment_found : (line : List ℕ) → is_comment line ≡ true → IsComment line
comment_found [] h = cc
comment_found (a ∷ []) h = cc
comment_found (a ∷ b ∷ bs) h = by (a == 45) (b == 45) refl refl h
  where
    by : (t u : Bool) → (a == 45) ≡ t → (b == 45) ≡ u → (t && u) ≡ true → IsComment (a ∷ b ∷ bs)
    by true true e f k = (bs, ap (λ x. x ∷ b ∷ bs) (same_byte a 45 e) ∙ ap (λ x. 45 ∷ x ∷ bs) (same_byte b 45 f))
    by true false e f k = cc
    by false u e f k = cc

pub comment_is : (line : List ℕ) → IsComment line → is_comment line ≡ true
comment_is line (rest, e) = ap is_comment e

blank_found : (line : List ℕ) → is_blank line ≡ true → IsBlank line
blank_found [] h = (0, refl)
blank_found (b ∷ bs) h = by (b == 32) refl h (blank_found bs)
  where
    by : (t : Bool) → (b == 32) ≡ t → (t && is_blank bs) ≡ true → (is_blank bs ≡ true → IsBlank bs) → IsBlank (b ∷ bs)
    by true e k f = let p = f k in (suc p.0, ap (λ x. x ∷ bs) (same_byte b 32 e) ∙ ap (λ l. 32 ∷ l) p.1)
    by false e k f = cc

spaces_blank : (n : ℕ) → is_blank (replicate n 32) ≡ true
spaces_blank zero = refl
spaces_blank (suc n) = spaces_blank n

pub blank_is : (line : List ℕ) → IsBlank line → is_blank line ≡ true
blank_is line (n, e) = ap is_blank e ∙ spaces_blank n

never : (t : Bool) → t ≡ false → t ≡ true → ⊥
never true h k = cc
never false h k = cc

module _ (s : Columns) where
  -- what a line that says something says, seen as such a line
  pub as_line : (said : LineText) (line : List ℕ) → IsText (IsCommand s) said line → IsLine s said line
  as_line no_text line is = absurd is.3
  as_line (put_text p) line is = is
  as_line (get_text key) line is = is
  as_line sync_text line is = is

  -- ---- a dash in front

  no_dash_by : (n : ℕ) (said : LineText) (rest bs : List ℕ) → 45 ∷ bs ≡ replicate n 32 ++ rest → IsCommand s said rest → ⊥
  no_dash_by zero said rest bs e is =
      let h = command_heads s said rest is in
      let lists : 45 ∷ bs ≡ h.0 ∷ h.1 = e ∙ h.2 in
      let same : ◌≡◌ {A = ℕ} 45 h.0 = cc in
      never (h.0 == 45) h.3.1 (subst (λ (c : ℕ). (c == 45) ≡ true) same refl)
  no_dash_by (suc n) said rest bs e is = let same : ◌≡◌ {A = ℕ} 45 32 = cc in omega arith

  -- a line that says something begins with no dash, and neither do spaces
  no_dash : (said : LineText) (bs : List ℕ) → IsText (IsCommand s) said (45 ∷ bs) → ⊥
  no_dash said bs (n, rest, e, is) = no_dash_by n said rest bs e is

  no_dash_blank : (n : ℕ) (bs : List ℕ) → 45 ∷ bs ≡ replicate n 32 → ⊥
  no_dash_blank zero bs e = cc
  no_dash_blank (suc n) bs e = let same : ◌≡◌ {A = ℕ} 45 32 = cc in omega arith

  second_dash : (c : ℕ) (cs more : List ℕ) → IsComment (45 ∷ c ∷ more) → is_comment (45 ∷ c ∷ cs) ≡ true
  second_dash c cs more (rest, e) = let same : c ≡ 45 = cc in ap (λ x. is_comment (45 ∷ x ∷ cs)) same

  -- the longest prefix of a line with one dash is the dash
  dash_longest : (bs : List ℕ) → is_comment (45 ∷ bs) ≡ false → Longest (IsLine s) (45 ∷ bs) 1
  dash_longest bs h = record {
    front = 45 ∷ [];
    rest = bs;
    parts = refl;
    count = refl;
    goes_on = (45 ∷ [], no_text, inl ([], refl), (omega arith, tt));
    no_further = λ c cs e v. further c cs e v.0 v.1 v.2;
  }
    where
      further : (c : ℕ) (cs : List ℕ) → bs ≡ c ∷ cs → (more : List ℕ) (said : LineText) → IsLine s said (45 ∷ c ∷ more) → ⊥
      further c cs e more no_text (inl is) = never (is_comment (45 ∷ bs)) h (ap (λ l. is_comment (45 ∷ l)) e ∙ second_dash c cs more is)
      further c cs e more no_text (inr is) = no_dash_blank is.0 (c ∷ more) is.1
      further c cs e more (put_text p) is = no_dash (put_text p) (c ∷ more) is
      further c cs e more (get_text key) is = no_dash (get_text key) (c ∷ more) is
      further c cs e more sync_text is = no_dash sync_text (c ∷ more) is

  dash_none : (bs : List ℕ) → is_comment (45 ∷ bs) ≡ false → (said : LineText) → IsLine s said (45 ∷ bs) → ⊥
  dash_none bs h no_text (inl is) = never (is_comment (45 ∷ bs)) h (comment_is (45 ∷ bs) is)
  dash_none bs h no_text (inr is) = no_dash_blank is.0 bs is.1
  dash_none bs h (put_text p) is = no_dash (put_text p) bs is
  dash_none bs h (get_text key) is = no_dash (get_text key) bs is
  dash_none bs h sync_text is = no_dash sync_text bs is

  dash_by : (b : ℕ) (bs : List ℕ) → b ≡ 45 → is_comment (b ∷ bs) ≡ false → LineReads s (b ∷ bs) (Err (BadText 1))
  dash_by b bs e = subst (λ (x : ℕ). is_comment (x ∷ bs) ≡ false → LineReads s (x ∷ bs) (Err (BadText 1))) (sym e) (λ h. (dash_none bs h, dash_longest bs h))

  dash_reads : (line : List ℕ) → is_comment line ≡ false → has_dash line ≡ true → LineReads s line (Err (BadText 1))
  dash_reads [] h k = cc
  dash_reads (b ∷ bs) h k = dash_by b bs (same_byte b 45 k) h

  -- ---- without one

  cut_spaces : (n : ℕ) (xs ys : List ℕ) → xs ++ ys ≡ replicate n 32 → (m : ℕ) × (xs ≡ replicate m 32)
  cut_spaces n [] ys e = (0, refl)
  cut_spaces zero (x ∷ xs) ys e = cc
  cut_spaces (suc n) (x ∷ xs) ys e =
      let head : x ≡ 32 = cc in
      let tail : xs ++ ys ≡ replicate n 32 = cc in
      let p = cut_spaces n xs ys tail in
      (suc p.0, ap (λ y. y ∷ xs) head ∙ ap (λ l. 32 ∷ l) p.1)

  dash_first : (front : List ℕ) (b : ℕ) (bs line more : List ℕ) → line ≡ front ++ b ∷ bs → IsComment ((front ++ b ∷ []) ++ more) → has_dash line ≡ true
  dash_first [] b bs line more e (rest, f) = let same : b ≡ 45 = cc in ap has_dash e ∙ ap (λ x. x == 45) same
  dash_first (x ∷ xs) b bs line more e (rest, f) = let same : x ≡ 45 = cc in ap has_dash e ∙ ap (λ y. y == 45) same

  -- what goes on as a line goes on as one that says something, but for a comment
  lifted : (line : List ℕ) (at : ℕ) → has_dash line ≡ false → Longest (IsText (IsCommand s)) line at → Longest (IsLine s) line at
  lifted line at h l = record {
    front = l.front;
    rest = l.rest;
    parts = l.parts;
    count = l.count;
    goes_on = (l.goes_on.0, l.goes_on.1, as_line l.goes_on.1 (l.front ++ l.goes_on.0) l.goes_on.2, l.goes_on.3);
    no_further = λ b bs e v. further b bs e v.0 v.1 v.2 v.3;
  }
    where
      further : (b : ℕ) (bs : List ℕ) → l.rest ≡ b ∷ bs → (more : List ℕ) (said : LineText) → IsLine s said ((l.front ++ b ∷ []) ++ more) → AreBytes more → ⊥
      further b bs e more no_text (inl is) k = never (has_dash line) h (dash_first l.front b bs line more (l.parts ∙ ap (λ x. l.front ++ x) e) is)
      further b bs e more no_text (inr is) k =
          let cut = cut_spaces is.0 (l.front ++ b ∷ []) more is.1 in
          let put = command_text s in
          l.no_further b bs e (put.1, put.0, (cut.0, put.1, ap (λ x. x ++ put.1) cut.1, put.2), put.3)
      further b bs e more (put_text p) is k = l.no_further b bs e (more, put_text p, is, k)
      further b bs e more (get_text key) is k = l.no_further b bs e (more, get_text key, is, k)
      further b bs e more sync_text is k = l.no_further b bs e (more, sync_text, is, k)

  module _ (line : List ℕ) where
    read : (said : LineText) → whole_line s line ≡ Ok (said, None) → IsText (IsCommand s) said line × LineNumbers s said
    read said h = answered.read (IsCommand s) (CommandPasses s) (LineNumbers s) (AfterLine s) (command_at s) (plain_command s) (command_tracked s) (spaced_command_exact s) line said h

    pub out_of_range : (said : LineText) (left : ℕ) → whole_line s line ≡ Ok (said, Some left) → (left ≤ length line) × LinePasses s line (length line - left)
    out_of_range said left h = answered.out_of_range (IsCommand s) (CommandPasses s) (LineNumbers s) (AfterLine s) (command_at s) (plain_command s) (command_tracked s) (spaced_command_exact s) line said left h

    refused : (left : ℕ) → whole_line s line ≡ Err left → ((said : LineText) → IsText (IsCommand s) said line → ⊥) × Longest (IsText (IsCommand s)) line (length line - left)
    refused left h = answered.refused (IsCommand s) (CommandPasses s) (LineNumbers s) (AfterLine s) (command_at s) (plain_command s) (command_tracked s) (spaced_command_exact s) line left h

    pub left_within : (left : ℕ) → whole_line s line ≡ Err left → left ≤ length line
    left_within left h = answered.left_within (IsCommand s) (CommandPasses s) (LineNumbers s) (AfterLine s) (command_at s) (plain_command s) (command_tracked s) (spaced_command_exact s) line left h

    whole_fits : (said : LineText) → IsText (IsCommand s) said line → LineNumbers s said → is_utf8 line ≡ true → LineFits s said
    whole_fits said (n, rest, e, is) h u = command_fits s said rest is (whole_within n rest line e u) (whole_bytes n rest line e (utf8_bytes line u)) h

    none : is_comment line ≡ false → is_blank line ≡ false → ((said : LineText) → IsText (IsCommand s) said line → ⊥) → (said : LineText) → IsLine s said line → ⊥
    none c b h no_text (inl is) = never (is_comment line) c (comment_is line is)
    none c b h no_text (inr is) = never (is_blank line) b (blank_is line is)
    none c b h (put_text p) is = h (put_text p) is
    none c b h (get_text key) is = h (get_text key) is
    none c b h sync_text is = h sync_text is

    told_by : (got : Result (Marked LineText) ℕ) → whole_line s line ≡ got → is_utf8 line ≡ true → is_comment line ≡ false → is_blank line ≡ false → has_dash line ≡ false → LineReads s line (told (length line) got)
    told_by (Ok (said, None)) e u c b d = let h = read said e in (as_line said line h.0, whole_fits said h.0 h.1 u)
    told_by (Ok (said, Some left)) e u c b d = (out_of_range said left e).1
    told_by (Err left) e u c b d = let h = refused left e in (none c b h.0, lifted line (length line - left) d h.1)

    reads_by : (t v w : Bool) → is_comment line ≡ t → is_blank line ≡ v → has_dash line ≡ w → is_utf8 line ≡ true
        → LineReads s line (if t || v then Ok no_text else (if w then Err (BadText 1) else told (length line) (whole_line s line)))
    reads_by true v w c b d u = (inl (comment_found line c), tt)
    reads_by false true w c b d u = (inr (blank_found line b), tt)
    reads_by false false true c b d u = dash_reads line c d
    reads_by false false false c b d u = told_by (whole_line s line) refl u c b d

    pub line_reads : is_utf8 line ≡ true → LineReads s line (line_of s line)
    line_reads u = reads_by (is_comment line) (is_blank line) (has_dash line) refl refl refl u
