-- What is computed of bytes is what they say as a script.
use Rattle.std.proofs.Common.{◌≡◌, ℕ, ◌+◌, ◌%◌, ◌≤◌, ◌<◌, Bool, true, false, ◌||◌, List, [], ◌∷◌, length, Result, Ok, Err, refl, sym, ◌∙◌, ap, arith, subst, inl, inr}
use Rattle.std.specs.Prelude.{⊤, if◌then◌else◌, nat_lt}
use Rattle.std.specs.Str.{is_utf8}
use Rattle.std.proofs.lemmas.Bool.Decides.{nat_tests}
use Rattle.key_types.specs.Columns.{Columns, longest_value}
use Rattle.byte_comparable.specs.Strings.{longest_string}
use Rattle.script_text.specs.Puts.{Put, Get}
use Rattle.script_text.specs.declared.script.Script.{Script}
use Rattle.script_text.specs.declared.script.LineCause.{LineCause}
use Rattle.script_text.specs.declared.script.LineCause.TheVariants.{NotUtf8, BadText, OutOfRange, KeyTooLong, ValueTooLong}
use Rattle.script_text.specs.declared.script.ScriptError.{ScriptError}
use Rattle.script_text.specs.declared.script.ScriptError.TheVariants.{BadLine, TooLarge, NoMemory}
use Rattle.script_text.specs.Lines.{lines_of}
use Rattle.script_text.specs.Grammar.{LineText, IsLine, LineFits}
use Rattle.script_text.specs.Reading.{line_of}
use Rattle.script_text.specs.Script.{◌>>=◌, short_line, line_on, at_line, lines_from, script_by, most_bytes, most_lines, script_of, AnswersScript}
use Rattle.script_text.specs.Laws.{LineReads}
use Rattle.script_text.specs.Meaning.{IsShort, HasLongKey, HasLongValue, IsAcceptedLine, IsRefusedLine, AreAcceptedLines, IsFirstRefused, IsTooLarge, IsScript, ReadsScript, ScriptMeaning}
use Rattle.script_text.proofs.Told.{line_reads}
use Rattle.script_text.proofs.Passed.{line_all}
use Rattle.script_text.specs.Spelled.{Line, no_line, put_line, get_line, sync_line, spelled_line, gets_after}

-- ---- lengths

over : (a b : ℕ) → nat_lt a b ≡ true → a < b
over a b e = grind (arith, nat_tests)

within : (a b : ℕ) → nat_lt a b ≡ false → b ≤ a
within a b e = grind (arith, nat_tests)

not_over : (a b : ℕ) → b ≤ a → nat_lt a b ≡ false
not_over a b h = grind (arith, nat_tests)

-- ---- what is spelled_line, judged by its lengths

abbrev Judged : Line → Result Line LineCause → Type 0
Judged x (Ok line) = (line ≡ x) × IsShort x
Judged x (Err NotUtf8) = ⊥
Judged x (Err (BadText at)) = ⊥
Judged x (Err (OutOfRange at)) = ⊥
Judged x (Err (KeyTooLong n)) = HasLongKey x n
Judged x (Err (ValueTooLong n)) = HasLongValue x n

abbrev key_by : Bool → ℕ → Result ⊤ LineCause
key_by t n = if t then Err (KeyTooLong n) else Ok tt

abbrev value_by : Bool → ℕ → Result ⊤ LineCause
value_by t n = if t then Err (ValueTooLong n) else Ok tt

put_judged : (p : Put) (t u w : Bool) → nat_lt longest_string (length p.partition) ≡ t → nat_lt longest_string (length p.clustering) ≡ u → nat_lt longest_value (length p.value) ≡ w
    → Judged (put_line p) ((key_by t (length p.partition) >>= λ _. key_by u (length p.clustering)) >>= λ _. value_by w (length p.value) >>= λ _. Ok (put_line p))
put_judged p true u w e f g = inl (over longest_string (length p.partition) e, refl)
put_judged p false true w e f g = inr (within longest_string (length p.partition) e, over longest_string (length p.clustering) f, refl)
put_judged p false false true e f g =
    ((within longest_string (length p.partition) e, within longest_string (length p.clustering) f), over longest_value (length p.value) g, refl)
put_judged p false false false e f g =
    (refl, ((within longest_string (length p.partition) e, within longest_string (length p.clustering) f), within longest_value (length p.value) g))

get_judged : (g : Get) (t u : Bool) → nat_lt longest_string (length g.partition) ≡ t → nat_lt longest_string (length g.clustering) ≡ u
    → Judged (get_line g) ((key_by t (length g.partition) >>= λ _. key_by u (length g.clustering)) >>= λ _. Ok (get_line g))
get_judged g true u e f = inl (over longest_string (length g.partition) e, refl)
get_judged g false true e f = inr (within longest_string (length g.partition) e, over longest_string (length g.clustering) f, refl)
get_judged g false false e f = (refl, (within longest_string (length g.partition) e, within longest_string (length g.clustering) f))

judged : (x : Line) → Judged x (short_line x)
judged no_line = (refl, tt)
judged (put_line p) = put_judged p (nat_lt longest_string (length p.partition)) (nat_lt longest_string (length p.clustering)) (nat_lt longest_value (length p.value)) refl refl refl
judged (get_line g) = get_judged g (nat_lt longest_string (length g.partition)) (nat_lt longest_string (length g.clustering)) refl refl
judged sync_line = (refl, tt)

short_accepted : (x : Line) → IsShort x → short_line x ≡ Ok x
short_accepted no_line h = refl
short_accepted (put_line p) h = rw (
  not_over longest_string (length p.partition) h.0.0,
  not_over longest_string (length p.clustering) h.0.1,
  not_over longest_value (length p.value) h.1,
) refl
short_accepted (get_line g) h = rw (not_over longest_string (length g.partition) h.0, not_over longest_string (length g.clustering) h.1) refl
short_accepted sync_line h = refl

-- ---- a line

module _ (s : Columns) (number reader : ℕ) (text : List ℕ) where
  abbrev LineTold : Result Line LineCause → Type 0
  LineTold (Ok line) = IsAcceptedLine s number reader text line
  LineTold (Err cause) = IsRefusedLine s number reader text cause

  of_judged : (said : LineText) → IsLine s said text → LineFits s said → is_utf8 text ≡ true → (r : Result Line LineCause) → Judged (spelled_line s number reader said) r → LineTold r
  of_judged said is fits u (Ok line) h = (u, (said, is, fits, h))
  of_judged said is fits u (Err NotUtf8) h = absurd h
  of_judged said is fits u (Err (BadText at)) h = absurd h
  of_judged said is fits u (Err (OutOfRange at)) h = absurd h
  of_judged said is fits u (Err (KeyTooLong n)) h = (u, (said, is, fits, h))
  of_judged said is fits u (Err (ValueTooLong n)) h = (u, (said, is, fits, h))

  said_told : (c : Result LineText LineCause) → LineReads s text c → is_utf8 text ≡ true → LineTold (c >>= λ said. short_line (spelled_line s number reader said))
  said_told (Ok said) r u = of_judged said r.0 r.1 u (short_line (spelled_line s number reader said)) (judged (spelled_line s number reader said))
  said_told (Err NotUtf8) r u = absurd r
  said_told (Err (BadText at)) r u = (u, r.0, r.1)
  said_told (Err (OutOfRange at)) r u = (u, r)
  said_told (Err (KeyTooLong n)) r u = absurd r
  said_told (Err (ValueTooLong n)) r u = absurd r

  told_by : (t : Bool) → is_utf8 text ≡ t → LineTold (if t then (line_of s text >>= λ said. short_line (spelled_line s number reader said)) else Err NotUtf8)
  told_by true u = said_told (line_of s text) (line_reads s text u) u
  told_by false u = u

  line_told : LineTold (line_on s number reader text)
  line_told = told_by (is_utf8 text) refl

  -- an accepted line is computed so
  accepted_line : (line : Line) → IsAcceptedLine s number reader text line → line_on s number reader text ≡ Ok line
  accepted_line line (u, (said, is, fits, (same, short))) =
      ap (λ t. if t then (line_of s text >>= λ x. short_line (spelled_line s number reader x)) else Err NotUtf8) u
      ∙ ap (λ r. r >>= λ x. short_line (spelled_line s number reader x)) (line_all s said text is fits) ∙ short_accepted (spelled_line s number reader said) short ∙ ap Ok (sym same)

-- ---- all lines

module _ (s : Columns) (readers : ℕ) where
  abbrev LinesTold : ℕ → ℕ → List (List ℕ) → Result (List Line) ScriptError → Type 0
  LinesTold number gets texts (Ok lines) = AreAcceptedLines s readers number gets texts lines
  LinesTold number gets texts (Err (BadLine bad cause)) = IsFirstRefused s readers number gets texts bad cause
  LinesTold number gets texts (Err TooLarge) = ⊥
  LinesTold number gets texts (Err NoMemory) = ⊥

  behind : (number gets : ℕ) (text : List ℕ) (texts : List (List ℕ)) (line : Line) (rest : Result (List Line) ScriptError) → IsAcceptedLine s number (gets % readers) text line → LinesTold (number + 1) (gets_after line gets) texts rest
      → LinesTold number gets (text ∷ texts) (rest >>= λ lines. Ok (line ∷ lines))
  behind number gets text texts line (Ok lines) h hs = (line, lines, h, hs, refl)
  behind number gets text texts line (Err (BadLine bad cause)) h hs = inr (line, h, hs)
  behind number gets text texts line (Err TooLarge) h hs = hs
  behind number gets text texts line (Err NoMemory) h hs = hs

  joined : (number gets : ℕ) (text : List ℕ) (texts : List (List ℕ)) (first : Result Line LineCause) → LineTold s number (gets % readers) text first
      → ((line : Line) → LinesTold (number + 1) (gets_after line gets) texts (lines_from s readers (number + 1) (gets_after line gets) texts))
      → LinesTold number gets (text ∷ texts) (at_line number first >>= λ line. lines_from s readers (number + 1) (gets_after line gets) texts >>= λ lines. Ok (line ∷ lines))
  joined number gets text texts (Err cause) h rest = inl (refl, h)
  joined number gets text texts (Ok line) h rest = behind number gets text texts line (lines_from s readers (number + 1) (gets_after line gets) texts) h (rest line)

  lines_told : (number gets : ℕ) (texts : List (List ℕ)) → LinesTold number gets texts (lines_from s readers number gets texts)
  lines_told number gets [] = refl
  lines_told number gets (text ∷ texts) =
      joined number gets text texts (line_on s number (gets % readers) text) (line_told s number (gets % readers) text) (λ line. lines_told (number + 1) (gets_after line gets) texts)

  accepted_lines : (number gets : ℕ) (texts : List (List ℕ)) (lines : List Line) → AreAcceptedLines s readers number gets texts lines → lines_from s readers number gets texts ≡ Ok lines
  accepted_lines number gets [] lines h = ap Ok (sym h)
  accepted_lines number gets (text ∷ texts) lines (line, rest, one, others, same) =
      ap (λ (r : Result Line LineCause). at_line number r >>= λ x. lines_from s readers (number + 1) (gets_after x gets) texts >>= λ xs. Ok (x ∷ xs)) (accepted_line s number (gets % readers) text line one)
      ∙ ap (λ (r : Result (List Line) ScriptError). r >>= λ xs. Ok (line ∷ xs)) (accepted_lines (number + 1) (gets_after line gets) texts rest others) ∙ ap Ok (sym same)

  -- ---- a script

  module _ (bytes : List ℕ) where
    abbrev whole_by : Bool → Bool → Result Script ScriptError
    whole_by t u = if t || u then Err TooLarge else script_by (lines_from s readers 1 0 (lines_of bytes))

    made : (read : Result (List Line) ScriptError) → LinesTold 1 0 (lines_of bytes) read → (IsTooLarge bytes → ⊥) → IsScript s readers bytes (script_by read)
    made (Ok lines) h few_enough = (few_enough, (lines, h, refl))
    made (Err (BadLine bad cause)) h few_enough = (few_enough, h)
    made (Err TooLarge) h few_enough = absurd h
    made (Err NoMemory) h few_enough = absurd h

    small : nat_lt most_bytes (length bytes) ≡ false → nat_lt most_lines (length (lines_of bytes)) ≡ false → IsTooLarge bytes → ⊥
    small e f (inl l) = let h = within most_bytes (length bytes) e in absurd (omega arith)
    small e f (inr l) = let h = within most_lines (length (lines_of bytes)) f in absurd (omega arith)

    told : (t u : Bool) → nat_lt most_bytes (length bytes) ≡ t → nat_lt most_lines (length (lines_of bytes)) ≡ u → IsScript s readers bytes (whole_by t u)
    told true u e f = inl (over most_bytes (length bytes) e)
    told false true e f = inr (over most_lines (length (lines_of bytes)) f)
    told false false e f = made (lines_from s readers 1 0 (lines_of bytes)) (lines_told 1 0 (lines_of bytes)) (small e f)

    few : (t u : Bool) → nat_lt most_bytes (length bytes) ≡ t → nat_lt most_lines (length (lines_of bytes)) ≡ u → (IsTooLarge bytes → ⊥) → whole_by t u ≡ script_by (lines_from s readers 1 0 (lines_of bytes))
    few true u e f few_enough = absurd (few_enough (inl (over most_bytes (length bytes) e)))
    few false true e f few_enough = absurd (few_enough (inr (over most_lines (length (lines_of bytes)) f)))
    few false false e f few_enough = refl

    many : (t u : Bool) → nat_lt most_bytes (length bytes) ≡ t → nat_lt most_lines (length (lines_of bytes)) ≡ u → IsTooLarge bytes → whole_by t u ≡ Err TooLarge
    many true u e f is = refl
    many false true e f is = refl
    many false false e f is = absurd (small e f is)

    accepted : (script : Script) → IsScript s readers bytes (Ok script) → script_of s readers bytes ≡ Ok script
    accepted script (few_enough, (lines, h, same)) =
        few (nat_lt most_bytes (length bytes)) (nat_lt most_lines (length (lines_of bytes))) refl refl few_enough ∙ ap script_by (accepted_lines 1 0 (lines_of bytes) lines h) ∙ ap Ok (sym same)

    lines_few : (t : Bool) → nat_lt most_lines (length (lines_of bytes)) ≡ t → (IsTooLarge bytes → ⊥) → length (lines_of bytes) ≤ most_lines
    lines_few true f few_enough = absurd (few_enough (inr (over most_lines (length (lines_of bytes)) f)))
    lines_few false f few_enough = within most_lines (length (lines_of bytes)) f

    -- there are not too many lines
    pub few_lines : (IsTooLarge bytes → ⊥) → length (lines_of bytes) ≤ most_lines
    few_lines = lines_few (nat_lt most_lines (length (lines_of bytes))) refl

pub computed : (s : Columns) (readers : ℕ) (bytes : List ℕ) → IsScript s readers bytes (script_of s readers bytes)
computed s readers bytes = told s readers bytes (nat_lt most_bytes (length bytes)) (nat_lt most_lines (length (lines_of bytes))) refl refl

-- what is answered, seen as what the bytes say
pub answered : (s : Columns) (readers : ℕ) (bytes : List ℕ) (result : Result Script ScriptError) → AnswersScript result (script_of s readers bytes) → ReadsScript s readers bytes result
answered s readers bytes (Ok script) h = subst (IsScript s readers bytes) (sym h) (computed s readers bytes)
answered s readers bytes (Err (BadLine line cause)) h = subst (IsScript s readers bytes) (sym h) (computed s readers bytes)
answered s readers bytes (Err TooLarge) h = subst (IsScript s readers bytes) (sym h) (computed s readers bytes)
answered s readers bytes (Err NoMemory) h = tt

pub meaning : ScriptMeaning
meaning = record {
  computed = computed;
  accepted = λ s readers bytes script is. accepted s readers bytes script is;
  large = λ s readers bytes is. many s readers bytes (nat_lt most_bytes (length bytes)) (nat_lt most_lines (length (lines_of bytes))) refl refl is;
}
