-- What the batches of an accepted script are.
use Rattle.std.proofs.Common.{◌≡◌, ℕ, suc, ◌+◌, ◌%◌, ◌≤◌, ◌<◌, List, [], ◌∷◌, ◌++◌, length, Option, Some, None, Ok, refl, sym, arith, subst, inl, inr}
use Rattle.std.specs.Prelude.{map}
use Rattle.std.proofs.lemmas.Nat.{mod_below}
use Rattle.key_types.specs.declared.schema.ValueType.{ValueType}
use Rattle.key_types.specs.declared.schema.ValueType.TheVariants.{Text, Blob}
use Rattle.key_types.specs.Kinds as kinds
use Rattle.key_types.specs.Kinds.{Val, Vals, Fits}
use Rattle.key_types.specs.Columns.{Columns, IsValueOf, longest_value}
use Rattle.script_text.specs.Puts.{Put, Get, Batch}
use Rattle.script_text.specs.declared.script.Script.{Script}
use Rattle.script_text.specs.Lines.{lines_of}
use Rattle.script_text.specs.Grammar.{LineText, no_text, put_text, get_text, sync_text, value_kind, IsLine, PutFits, LineFits}
use Rattle.script_text.specs.Script.{batches_of, puts_of, gets_of, script_with, most_lines, script_of}
use Rattle.script_text.specs.Meaning.{IsShort, IsAcceptedLine, AreAcceptedLines, IsTooLarge, IsScript}
use Rattle.script_text.specs.Laws.{IsSchemaPut, ArePuts, IsSchemaGet, AreGets, AreDealt, NumbersAscend, PutsAscend, GetsAscend, EachAscends, IsAccepted}
use Rattle.script_text.proofs.Batches.{puts_kept, gets_kept}
use Rattle.script_text.proofs.Meaning.{computed, few_lines}
use Rattle.script_text.specs.Spelled.{Line, no_line, put_line, get_line, sync_line, value_bytes, spelled_put, spelled_line, gets_after, puts_in, gets_in}

-- ---- a line

column_value : (t : ValueType) (v : Val) → Fits (value_kind t) v → length (value_bytes v) ≤ longest_value → IsValueOf t (value_bytes v)
column_value Text (kinds.number z) h l = absurd h
column_value Text (kinds.bytes b) h l = (l, h.0)
column_value Text (kinds.truth b) h l = absurd h
column_value Text (kinds.values vs) h l = absurd h
column_value Blob (kinds.number z) h l = absurd h
column_value Blob (kinds.bytes b) h l = l
column_value Blob (kinds.truth b) h l = absurd h
column_value Blob (kinds.values vs) h l = absurd h

module _ (s : Columns) (number reader : ℕ) where
  -- what a line is that was accepted
  abbrev IsLineOf : Line → Type 0
  IsLineOf no_line = Unit {0}
  IsLineOf (put_line p) = IsSchemaPut s p × (p.line ≡ number)
  IsLineOf (get_line g) = IsSchemaGet s g × (g.line ≡ number) × (g.reader ≡ reader)
  IsLineOf sync_line = Unit {0}

  put_is : (vs : Vals) (cs : Option Vals) (v : Val) → PutFits s (record { key = record { partition = vs; clustering = cs }; value = v })
      → IsShort (put_line (spelled_put s number (record { key = record { partition = vs; clustering = cs }; value = v }))) → IsSchemaPut s (spelled_put s number (record { key = record { partition = vs; clustering = cs }; value = v }))
  put_is vs (Some cs) v (fits, (t, typed, set)) short =
      ((vs, fits.0, refl, short.0.0), inl ((cs, fits.1, refl, short.0.1), column_value s.value v (subst (λ (x : ValueType). Fits (value_kind x) v) typed set) short.1))
  put_is vs None v (fits, (t, typed, set)) short = ((vs, fits.0, refl, short.0.0), inr (t, typed, refl, column_value t v set short.1))

  get_is : (vs : Vals) (cs : Option Vals) (text : List ℕ) → IsLine s (get_text (record { partition = vs; clustering = cs })) text → LineFits s (get_text (record { partition = vs; clustering = cs }))
      → IsShort (spelled_line s number reader (get_text (record { partition = vs; clustering = cs }))) → IsLineOf (spelled_line s number reader (get_text (record { partition = vs; clustering = cs })))
  get_is vs (Some cs) text is fits short = (((vs, fits.0, refl, short.0), inl (cs, fits.1, refl, short.1)), refl, refl)
  get_is vs None text (n, rest, e, (word, key, w, (list, within, l, (t, some, static), f), g)) fits short = (((vs, fits.0, refl, short.0), inr (t, some, refl)), refl, refl)

  said_is : (said : LineText) (text : List ℕ) → IsLine s said text → LineFits s said → IsShort (spelled_line s number reader said) → IsLineOf (spelled_line s number reader said)
  said_is no_text text is fits short = tt
  said_is (put_text p) text is fits short = (put_is p.key.partition p.key.clustering p.value fits short, refl)
  said_is (get_text key) text is fits short = get_is key.partition key.clustering text is fits short
  said_is sync_text text is fits short = tt

  line_is : (text : List ℕ) (line : Line) → IsAcceptedLine s number reader text line → IsLineOf line
  line_is text line (u, (said, is, fits, (same, short))) = subst IsLineOf (sym same) (said_is said text is fits short)

-- ---- numbers that ascend

ascend_from : (n m : ℕ) (ns : List ℕ) → n ≤ m → NumbersAscend m ns → NumbersAscend n ns
ascend_from n m [] l h = tt
ascend_from n m (k ∷ ks) l h = ((let e = h.0 in omega arith), h.1)

next_ascends : (n m : ℕ) (ns : List ℕ) → m ≡ n → NumbersAscend (n + 1) ns → NumbersAscend n (m ∷ ns)
next_ascends n m ns e h = (omega arith, subst (λ k. NumbersAscend (k + 1) ns) (sym e) h)

-- ---- all lines

module _ (s : Columns) (readers : ℕ) where
  -- what lines are that were accepted, from this number on
  record FromLines (number count : ℕ) (lines : List Line) : Type 0 where
    are : ArePuts s (puts_in lines)
    ask : AreGets s (gets_in lines)
    few : length (puts_in lines) ≤ count
    few_gets : length (gets_in lines) ≤ count
    puts_ascend : PutsAscend number (puts_in lines)
    gets_ascend : GetsAscend number (gets_in lines)

  behind : (number reader count : ℕ) (line : Line) (lines : List Line) → IsLineOf s number reader line → FromLines (number + 1) count lines → FromLines number (suc count) (line ∷ lines)
  behind number reader count no_line lines h f = record {
    are = f.are;
    ask = f.ask;
    few = (let e = f.few in omega arith);
    few_gets = (let e = f.few_gets in omega arith);
    puts_ascend = ascend_from number (number + 1) (map (λ put. put.line) (puts_in lines)) (omega arith) f.puts_ascend;
    gets_ascend = ascend_from number (number + 1) (map (λ get. get.line) (gets_in lines)) (omega arith) f.gets_ascend;
  }
  behind number reader count (put_line p) lines h f = record {
    are = (h.0, f.are);
    ask = f.ask;
    few = (let e = f.few in omega arith);
    few_gets = (let e = f.few_gets in omega arith);
    puts_ascend = next_ascends number p.line (map (λ put. put.line) (puts_in lines)) h.1 f.puts_ascend;
    gets_ascend = ascend_from number (number + 1) (map (λ get. get.line) (gets_in lines)) (omega arith) f.gets_ascend;
  }
  behind number reader count (get_line g) lines h f = record {
    are = f.are;
    ask = (h.0, f.ask);
    few = (let e = f.few in omega arith);
    few_gets = (let e = f.few_gets in omega arith);
    puts_ascend = ascend_from number (number + 1) (map (λ put. put.line) (puts_in lines)) (omega arith) f.puts_ascend;
    gets_ascend = next_ascends number g.line (map (λ get. get.line) (gets_in lines)) h.1 f.gets_ascend;
  }
  behind number reader count sync_line lines h f = record {
    are = f.are;
    ask = f.ask;
    few = (let e = f.few in omega arith);
    few_gets = (let e = f.few_gets in omega arith);
    puts_ascend = ascend_from number (number + 1) (map (λ put. put.line) (puts_in lines)) (omega arith) f.puts_ascend;
    gets_ascend = ascend_from number (number + 1) (map (λ get. get.line) (gets_in lines)) (omega arith) f.gets_ascend;
  }

  from_lines : (number gets : ℕ) (texts : List (List ℕ)) (lines : List Line) → AreAcceptedLines s readers number gets texts lines → FromLines number (length texts) lines
  from_lines number gets [] lines h = subst (FromLines number 0) (sym h) (record { are = tt; ask = tt; few = omega arith; few_gets = omega arith; puts_ascend = tt; gets_ascend = tt })
  from_lines number gets (text ∷ texts) lines (line, rest, one, others, same) =
      subst (FromLines number (suc (length texts))) (sym same)
      (behind number (gets % readers) (length texts) line rest (line_is s number (gets % readers) text line one) (from_lines (number + 1) (gets_after line gets) texts rest others))

  -- gets go to the readers in turn
  dealt_by : (number gets : ℕ) (line : Line) (lines : List Line) → 1 ≤ readers → IsLineOf s number (gets % readers) line → AreDealt readers (gets_after line gets) (gets_in lines) → AreDealt readers gets (gets_in (line ∷ lines))
  dealt_by number gets no_line lines some h f = f
  dealt_by number gets (put_line p) lines some h f = f
  dealt_by number gets (get_line g) lines some h f = (h.2, subst (λ n. n < readers) (sym h.2) (mod_below gets readers some), f)
  dealt_by number gets sync_line lines some h f = f

  dealt_from : (number gets : ℕ) (texts : List (List ℕ)) (lines : List Line) → 1 ≤ readers → AreAcceptedLines s readers number gets texts lines → AreDealt readers gets (gets_in lines)
  dealt_from number gets [] lines some h = subst (λ (l : List Line). AreDealt readers gets (gets_in l)) (sym h) tt
  dealt_from number gets (text ∷ texts) lines some (line, rest, one, others, same) =
      subst (λ (l : List Line). AreDealt readers gets (gets_in l)) (sym same)
      (dealt_by number gets line rest some (line_is s number (gets % readers) text line one) (dealt_from (number + 1) (gets_after line gets) texts rest some others))

-- ---- in each batch

puts_part : (n : ℕ) (front back : List Put) → PutsAscend n (front ++ back) → PutsAscend n front × PutsAscend n back
puts_part n [] back h = (tt, h)
puts_part n (put ∷ front) back h =
    let p = puts_part (put.line + 1) front back h.1 in
    ((h.0, p.0), ascend_from n (put.line + 1) (map (λ put. put.line) back) (let e = h.0 in omega arith) p.1)

gets_part : (n : ℕ) (front back : List Get) → GetsAscend n (front ++ back) → GetsAscend n front × GetsAscend n back
gets_part n [] back h = (tt, h)
gets_part n (get ∷ front) back h =
    let p = gets_part (get.line + 1) front back h.1 in
    ((h.0, p.0), ascend_from n (get.line + 1) (map (λ get. get.line) back) (let e = h.0 in omega arith) p.1)

each_batch : (batches : List Batch) → PutsAscend 1 (puts_of batches) → GetsAscend 1 (gets_of batches) → EachAscends batches
each_batch [] h k = tt
each_batch (batch ∷ batches) h k =
    let p = puts_part 1 batch.puts (puts_of batches) h in
    let g = gets_part 1 batch.gets (gets_of batches) k in
    (p.0, g.0, each_batch batches p.1 g.1)

-- ---- a script

of_lines : (s : Columns) (readers : ℕ) (bytes : List ℕ) (lines : List Line) → 1 ≤ readers → (IsTooLarge bytes → ⊥) → AreAcceptedLines s readers 1 0 (lines_of bytes) lines → IsAccepted s readers (script_with lines)
of_lines s readers bytes lines some few_enough h =
    let from = from_lines s readers 1 0 (lines_of bytes) lines h in
    let puts : puts_in lines ≡ puts_of (batches_of lines) = sym (puts_kept lines) in
    let gets : gets_in lines ≡ gets_of (batches_of lines) = sym (gets_kept lines) in
    let most = few_lines s readers bytes few_enough in
    let ascend = subst (PutsAscend 1) puts from.puts_ascend in
    let asked = subst (GetsAscend 1) gets from.gets_ascend in
    record {
      are = subst (ArePuts s) puts from.are;
      ask = subst (AreGets s) gets from.ask;
      count = refl;
      few = subst (λ (l : List Put). length l ≤ most_lines) puts (let e = from.few in omega arith);
      puts_ascend = ascend;
      gets_ascend = asked;
      each = each_batch (batches_of lines) ascend asked;
      few_gets = subst (λ (l : List Get). length l ≤ most_lines) gets (let e = from.few_gets in omega arith);
      dealt = subst (AreDealt readers 0) gets (dealt_from s readers 1 0 (lines_of bytes) lines some h);
    }

-- an accepted script holds puts and gets of the schema
pub accepted_script : (s : Columns) (readers : ℕ) (bytes : List ℕ) (script : Script) → 1 ≤ readers → script_of s readers bytes ≡ Ok script → IsAccepted s readers script
accepted_script s readers bytes script some h =
    let is : IsScript s readers bytes (Ok script) = subst (IsScript s readers bytes) h (computed s readers bytes) in
    subst (IsAccepted s readers) (sym is.1.2) (of_lines s readers bytes is.1.0 some is.0 is.1.1)

-- its puts are of the schema, for any number of readers
pub accepted_puts : (s : Columns) (readers : ℕ) (bytes : List ℕ) (script : Script) → script_of s readers bytes ≡ Ok script → ArePuts s (puts_of script.batches)
accepted_puts s readers bytes script h =
    let is : IsScript s readers bytes (Ok script) = subst (IsScript s readers bytes) h (computed s readers bytes) in
    let from = from_lines s readers 1 0 (lines_of bytes) is.1.0 is.1.1 in
    subst (λ (x : Script). ArePuts s (puts_of x.batches)) (sym is.1.2) (subst (ArePuts s) (sym (puts_kept is.1.0)) from.are)
