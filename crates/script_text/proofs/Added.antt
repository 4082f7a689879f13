-- A line that is added to a batch is the line that its text spells.
use Rattle.std.proofs.Common.{◌≡◌, ◌≤◌, ◌+◌, ◌-◌, ℕ, true, List, [], ◌∷◌, ◌++◌, length, Result, Ok, Err, refl, sym, ◌∙◌, ap, arith, subst}
use Rattle.std.specs.Prelude.{⊤, map, if◌then◌else◌}
use Rattle.std.specs.Str.{is_utf8}
use Rattle.std.proofs.lemmas.List.{map-append}
use Rattle.key_types.specs.Kinds.{bytes}
use Rattle.key_types.specs.Columns.{Columns}
use Rattle.byte_comparable.specs.Encoding.{key_string}
use Rattle.byte_comparable.specs.Order.{Key, within_string}
use Rattle.script_text.specs.declared.batch.OpenBatch.{OpenBatch}
use Rattle.script_text.specs.declared.batch.LineKind.{LineKind}
use Rattle.script_text.specs.declared.commands.KeyEnds.{KeyEnds}
use Rattle.script_text.specs.declared.spans.KeySpan.{KeySpan}
use Rattle.script_text.specs.declared.spans.PutSpan.{PutSpan}
use Rattle.script_text.specs.declared.spans.GetSpan.{GetSpan}
use Rattle.script_text.specs.declared.script.LineCause.{LineCause}
use Rattle.script_text.specs.declared.script.LineCause.TheVariants.{NotUtf8}
use Rattle.script_text.specs.declared.script.ScriptError.{ScriptError}
use Rattle.script_text.specs.declared.script.ScriptError.TheVariants.{BadLine, TooLarge, NoMemory}
use Rattle.script_text.specs.Grammar.{PutText, LineText, no_text, put_text, get_text, sync_text}
use Rattle.script_text.specs.Reading.{line_of}
use Rattle.script_text.specs.Pieces.{put_in, get_in}
use Rattle.script_text.specs.Script.{◌>>=◌, short_keys, short_value, short_line, line_on, at_line}
use Rattle.script_text.specs.declared.commands.Command.TheVariants as command
use Rattle.script_text.specs.declared.batch.LineKind.TheVariants as kind
use Rattle.script_text.specs.Parts.{PutsKey, PutsSaid, SeesLine}
use Rattle.script_text.specs.Steps.{IsWhole, batch_so_far, batch_with, short_ends, IsSpanOf, AddsPut, AddsGet, AddsLine}
use Rattle.script_text.proofs.Buffer.{puts_stay, gets_stay, puts_lie_still, gets_lie_still, puts_lie_with, gets_lie_with, total, put_cut, get_cut}
use Rattle.script_text.specs.Spelled.{Line, put_line, sync_line, value_bytes, spelled_put, spelled_line}

-- ---- what a line spells

module _ (s : Columns) (number reader : ℕ) (text : List ℕ) (utf8 : is_utf8 text ≡ true) where
  is_said : line_on s number reader text ≡ (line_of s text >>= λ said. short_line (spelled_line s number reader said))
  is_said = ap (λ t. if t then (line_of s text >>= λ said. short_line (spelled_line s number reader said)) else Err NotUtf8) utf8

  ok_by : (got : Result LineText LineCause) (said : LineText) → at_line number got ≡ Ok said → (got >>= λ x. short_line (spelled_line s number reader x)) ≡ short_line (spelled_line s number reader said)
  ok_by (Ok other) said h = let same : other ≡ said = cc in ap (λ x. short_line (spelled_line s number reader x)) same
  ok_by (Err cause) said h = cc

  -- of a line that says something it is that
  pub of_said : (said : LineText) → at_line number (line_of s text) ≡ Ok said → at_line number (line_on s number reader text) ≡ at_line number (short_line (spelled_line s number reader said))
  of_said said h = ap (at_line number) (is_said ∙ ok_by (line_of s text) said h)

  err_by : (got : Result LineText LineCause) (e : ScriptError) → at_line number got ≡ Err e → at_line number (got >>= λ x. short_line (spelled_line s number reader x)) ≡ Err e
  err_by (Ok said) e h = cc
  err_by (Err cause) e h = let same : BadLine number cause ≡ e = cc in ap Err same

  pub refused : (e : ScriptError) → at_line number (line_of s text) ≡ Err e → at_line number (line_on s number reader text) ≡ Err e
  refused e h = ap (at_line number) is_said ∙ err_by (line_of s text) e h

-- ---- lengths

both_short : (a b : Result ⊤ LineCause) (line : Line) → a ≡ Ok tt → b ≡ Ok tt → (a >>= λ _. b >>= λ _. Ok line) ≡ Ok line
both_short a b line e f = rw (e, f) refl

one_short : (a : Result ⊤ LineCause) (line : Line) → a ≡ Ok tt → (a >>= λ _. Ok line) ≡ Ok line
one_short a line e = rw e refl

either_long : (n : ℕ) (a b : Result ⊤ LineCause) (line : Line) (e : ScriptError) → at_line n (a >>= λ _. b) ≡ Err e → at_line n (a >>= λ _. b >>= λ _. Ok line) ≡ Err e
either_long n (Ok x) (Ok y) line e h = cc
either_long n (Ok x) (Err cause) line e h = let same : BadLine n cause ≡ e = cc in ap Err same
either_long n (Err cause) b line e h = let same : BadLine n cause ≡ e = cc in ap Err same

one_long : (n : ℕ) (a : Result ⊤ LineCause) (line : Line) (e : ScriptError) → at_line n a ≡ Err e → at_line n (a >>= λ _. Ok line) ≡ Err e
one_long n (Ok x) line e h = cc
one_long n (Err cause) line e h = let same : BadLine n cause ≡ e = cc in ap Err same

-- ---- what is added

module _ (s : Columns) (number reader start : ℕ) (key : Key) (ends : KeyEnds) (before after value : List ℕ) (at : start ≡ length before) (puts : PutsKey s before after key value ends) where
  abbrev string : List ℕ
  string = key_string s.partition key.partition

  abbrev within : List ℕ
  within = within_string s.clustering key.clustering

  all : length after ≡ ((length before + length string) + length within) + length value
  all = total before string within value after puts.0

  first_length : ends.partition - start ≡ length string
  first_length = (let e = puts.1 in omega arith)

  second_length : ends.clustering - ends.partition ≡ length within
  second_length = (let e = puts.1 in let f = puts.2 in omega arith)

  third_length : length after - ends.clustering ≡ length value
  third_length = (let e = puts.2 in let f = all in omega arith)

  -- the places of a key that was read
  pub first_place : start ≤ ends.partition
  first_place = (let e = puts.1 in omega arith)

  pub second_place : ends.partition ≤ ends.clustering
  second_place = (let e = puts.1 in let f = puts.2 in omega arith)

  pub third_place : ends.clustering ≤ length after
  third_place = (let e = puts.2 in let f = all in omega arith)

  keys_same : short_ends start ends ≡ short_keys (length string) (length within)
  keys_same = ap (λ n. short_keys n (ends.clustering - ends.partition)) first_length ∙ ap (short_keys (length string)) second_length

  longer : length before ≤ length after
  longer = (let e = all in omega arith)

  module _ (old : OpenBatch) (was : old.buffer ≡ before) (whole : IsWhole old) where
    puts_so_far : map (put_in after) old.puts ≡ map (put_in old.buffer) old.puts
    puts_so_far =
        let lie = whole.0 in
        ap (λ l. map (put_in l) old.puts) (puts.0 ∙ ap (λ l. l ++ (string ++ (within ++ value))) (sym was)) ∙ puts_stay old.buffer (string ++ (within ++ value)) old.puts whole.0

    gets_so_far : map (get_in after) old.gets ≡ map (get_in old.buffer) old.gets
    gets_so_far = ap (λ l. map (get_in l) old.gets) (puts.0 ∙ ap (λ l. l ++ (string ++ (within ++ value))) (sym was)) ∙ gets_stay old.buffer (string ++ (within ++ value)) old.gets whole.1

    grows : length old.buffer ≤ length after
    grows = subst (λ (l : List ℕ). length l ≤ length after) (sym was) longer

    module _ (span : KeySpan) (is : IsSpanOf start ends span) where
      span_first : span.partition ≡ length string
      span_first = is.1 ∙ first_length

      span_second : span.clustering ≡ length within
      span_second = is.2 ∙ second_length

      end_is : ((span.start + span.partition) + span.clustering) + length value ≡ length after
      end_is = (let e = is.0 in let f = span_first in let g = span_second in let h = all in omega arith)

      -- a put
      pub put_whole : (put : PutSpan) → put.key ≡ span → put.value ≡ length after - ends.clustering → IsWhole (record { buffer = after; puts = old.puts ++ put ∷ []; gets = old.gets })
      put_whole put same last = (
        puts_lie_with (length after) old.puts put (puts_lie_still (length old.buffer) (length after) old.puts grows whole.0) (rw same (let e = end_is in let f = last ∙ third_length in omega arith)),
        gets_lie_still (length old.buffer) (length after) old.gets grows whole.1,
      )

      pub put_added : (put : PutSpan) → put.key ≡ span → put.line ≡ number → put.value ≡ length after - ends.clustering → (p : PutText) → p.key ≡ key → p.value ≡ bytes value
          → batch_so_far (record { buffer = after; puts = old.puts ++ put ∷ []; gets = old.gets }) ≡ batch_with (batch_so_far old) (put_line (spelled_put s number p))
      put_added put same line last p names sets =
          let cut = put_cut before string within value after puts.0 span (is.0 ∙ at) span_first span_second put same (last ∙ third_length) in
          let one : put_in after put ≡ spelled_put s number p =
          cut ∙ ap (λ n. record { line = n; partition = string; clustering = within; value = value }) line
          ∙ ap (λ k. record { line = number; partition = key_string s.partition k.partition; clustering = within_string s.clustering k.clustering; value = value }) (sym names)
          ∙ ap (λ v. record { line = number; partition = key_string s.partition p.key.partition; clustering = within_string s.clustering p.key.clustering; value = value_bytes v }) (sym sets) in
          ap (λ l. record { puts = l; gets = map (get_in after) old.gets }) (map-append (put_in after) old.puts (put ∷ []))
          ∙ ap (λ x. record { puts = map (put_in after) old.puts ++ x ∷ []; gets = map (get_in after) old.gets }) one
          ∙ ap (λ l. record { puts = l ++ spelled_put s number p ∷ []; gets = map (get_in after) old.gets }) puts_so_far
          ∙ ap (λ l. record { puts = map (put_in old.buffer) old.puts ++ spelled_put s number p ∷ []; gets = l }) gets_so_far

      -- a get
      pub get_whole : (get : GetSpan) → get.key ≡ span → IsWhole (record { buffer = after; puts = old.puts; gets = old.gets ++ get ∷ [] })
      get_whole get same = (
        puts_lie_still (length old.buffer) (length after) old.puts grows whole.0,
        gets_lie_with (length after) old.gets get (gets_lie_still (length old.buffer) (length after) old.gets grows whole.1) (rw same (let e = end_is in omega arith)),
      )

      pub get_added : (get : GetSpan) → get.key ≡ span → get.line ≡ number → get.reader ≡ reader
          → batch_so_far (record { buffer = after; puts = old.puts; gets = old.gets ++ get ∷ [] }) ≡ batch_with (batch_so_far old) (spelled_line s number reader (get_text key))
      get_added get same line to =
          let cut = get_cut before string within value after puts.0 span (is.0 ∙ at) span_first span_second get same in
          let one : get_in after get ≡ record { line = number; reader = reader; partition = string; clustering = within } =
          cut ∙ ap (λ n. record { line = n; reader = get.reader; partition = string; clustering = within }) line ∙ ap (λ n. record { line = number; reader = n; partition = string; clustering = within }) to in
          ap (λ l. record { puts = map (put_in after) old.puts; gets = l }) (map-append (get_in after) old.gets (get ∷ []))
          ∙ ap (λ x. record { puts = map (put_in after) old.puts; gets = map (get_in after) old.gets ++ x ∷ [] }) one
          ∙ ap (λ l. record { puts = l; gets = map (get_in after) old.gets ++ record { line = number; reader = reader; partition = string; clustering = within } ∷ [] }) puts_so_far
          ∙ ap (λ l. record { puts = map (put_in old.buffer) old.puts; gets = l ++ record { line = number; reader = reader; partition = string; clustering = within } ∷ [] }) gets_so_far

-- ---- the answers

module _ (s : Columns) (number reader start : ℕ) (text : List ℕ) (utf8 : is_utf8 text ≡ true) (ends : KeyEnds) (old new : OpenBatch) (after : List ℕ) (at : start ≡ length old.buffer) (whole : IsWhole old) where
  abbrev expected : Result Line ScriptError
  expected = at_line number (line_on s number reader text)

  abbrev read : OpenBatch
  read = record { buffer = after; puts = old.puts; gets = old.gets }

  -- a put
  module _ (p : PutText) (said : at_line number (line_of s text) ≡ Ok (put_text p)) (value : List ℕ) (sets : p.value ≡ bytes value) (puts : PutsKey s old.buffer after p.key value ends) where
    value_same : short_value (length after - ends.clustering) ≡ short_value (length (value_bytes p.value))
    value_same = ap short_value (third_length s number reader start p.key ends old.buffer after value at puts ∙ ap (λ v. length (value_bytes v)) (sym sets))

    put_judged : expected ≡ at_line number (short_ends start ends >>= λ _. short_value (length after - ends.clustering) >>= λ _. Ok (put_line (spelled_put s number p)))
    put_judged =
        of_said s number reader text utf8 (put_text p) said
        ∙ sym (ap (λ a. at_line number (a >>= λ _. short_value (length after - ends.clustering) >>= λ _. Ok (put_line (spelled_put s number p)))) (keys_same s number reader start p.key ends old.buffer after value at puts)
        ∙ ap (λ b. at_line number (short_keys (length (key_string s.partition p.key.partition)) (length (within_string s.clustering p.key.clustering)) >>= λ _. b >>= λ _. Ok (put_line (spelled_put s number p)))) value_same)

    pub put_answers : (result : Result LineKind ScriptError) → AddsPut number start ends read new result → AddsLine expected old new result
    put_answers (Ok k) (span, line, is, last, short, fits, same, now) = (
      put_line (spelled_put s number p),
      put_judged ∙ ap (at_line number) (both_short (short_ends start ends) (short_value (length after - ends.clustering)) (put_line (spelled_put s number p)) short fits),
      same,
      subst IsWhole (sym now) (put_whole s number reader start p.key ends old.buffer after value at puts old refl whole span.key is span refl last),
      ap batch_so_far now ∙ put_added s number reader start p.key ends old.buffer after value at puts old refl whole span.key is span refl line last p refl sets,
    )
    put_answers (Err NoMemory) h = tt
    put_answers (Err TooLarge) h = put_judged ∙ either_long number (short_ends start ends) (short_value (length after - ends.clustering)) (put_line (spelled_put s number p)) TooLarge h
    put_answers (Err (BadLine n cause)) h = put_judged ∙ either_long number (short_ends start ends) (short_value (length after - ends.clustering)) (put_line (spelled_put s number p)) (BadLine n cause) h

  -- a get
  module _ (key : Key) (said : at_line number (line_of s text) ≡ Ok (get_text key)) (puts : PutsKey s old.buffer after key [] ends) where
    get_judged : expected ≡ at_line number (short_ends start ends >>= λ _. Ok (spelled_line s number reader (get_text key)))
    get_judged =
        of_said s number reader text utf8 (get_text key) said
        ∙ sym (ap (λ a. at_line number (a >>= λ _. Ok (spelled_line s number reader (get_text key)))) (keys_same s number reader start key ends old.buffer after [] at puts))

    pub get_answers : (result : Result LineKind ScriptError) → AddsGet number reader start ends read new result → AddsLine expected old new result
    get_answers (Ok k) (span, line, to, is, short, same, now) = (
      spelled_line s number reader (get_text key),
      get_judged ∙ ap (at_line number) (one_short (short_ends start ends) (spelled_line s number reader (get_text key)) short),
      same,
      subst IsWhole (sym now) (get_whole s number reader start key ends old.buffer after [] at puts old refl whole span.key is span refl),
      ap batch_so_far now ∙ get_added s number reader start key ends old.buffer after [] at puts old refl whole span.key is span refl line to,
    )
    get_answers (Err NoMemory) h = tt
    get_answers (Err TooLarge) h = get_judged ∙ one_long number (short_ends start ends) (spelled_line s number reader (get_text key)) TooLarge h
    get_answers (Err (BadLine n cause)) h = get_judged ∙ one_long number (short_ends start ends) (spelled_line s number reader (get_text key)) (BadLine n cause) h

  -- whatever was read of it
  pub put_read : (said : LineText) → at_line number (line_of s text) ≡ Ok said → PutsSaid s old.buffer after said (command.Put ends) → (result : Result LineKind ScriptError) → AddsPut number start ends read new result
      → AddsLine expected old new result
  put_read no_text told h = absurd h
  put_read (put_text p) told h = put_answers p told h.0 h.1 h.2
  put_read (get_text key) told h = absurd h
  put_read sync_text told h = absurd h

  pub get_read : (said : LineText) → at_line number (line_of s text) ≡ Ok said → PutsSaid s old.buffer after said (command.Get ends) → (result : Result LineKind ScriptError) → AddsGet number reader start ends read new result
      → AddsLine expected old new result
  get_read no_text told h = absurd h
  get_read (put_text p) told h = absurd h
  get_read (get_text key) told h = get_answers key told h
  get_read sync_text told h = absurd h

module _ (s : Columns) (number reader : ℕ) (text : List ℕ) (utf8 : is_utf8 text ≡ true) (old new : OpenBatch) (after : List ℕ) where
  pub sync_read : (said : LineText) → at_line number (line_of s text) ≡ Ok said → PutsSaid s old.buffer after said command.Sync → IsWhole old
      → AddsLine (at_line number (line_on s number reader text)) old (record { buffer = after; puts = old.puts; gets = old.gets }) (Ok kind.Sync)
  sync_read no_text told h whole = absurd h
  sync_read (put_text p) told h whole = absurd h
  sync_read (get_text key) told h whole = absurd h
  sync_read sync_text told h whole = (
    sync_line,
    of_said s number reader text utf8 sync_text told,
    refl,
    subst (λ (l : List ℕ). IsWhole (record { buffer = l; puts = old.puts; gets = old.gets })) (sym h) whole,
    ap (λ l. batch_so_far (record { buffer = l; puts = old.puts; gets = old.gets })) h,
  )

  pub none_read : (e : ScriptError) → SeesLine s old.buffer after (Err e) (at_line number (line_of s text)) → AddsLine (at_line number (line_on s number reader text)) old new (Err e)
  none_read NoMemory h = tt
  none_read TooLarge h = refused s number reader text utf8 TooLarge h
  none_read (BadLine n cause) h = refused s number reader text utf8 (BadLine n cause) h
