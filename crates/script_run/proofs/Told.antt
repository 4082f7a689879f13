-- What a sink tells over several calls.
use Rattle.std.proofs.Common.{◌≡◌, ℕ, ◌+◌, ◌-◌, ◌<◌, ◌≤◌, ◌^◌, List, [], ◌∷◌, ◌++◌, length, take, min, slice_get, Option, Some, None, Result, Ok, Err, refl, sym, ◌∙◌, ap, subst, arith, append_assoc, length-append}
use Rattle.std.proofs.lemmas.List.{take_all}
use Rattle.std.proofs.Math.Seq.{take-append-add}
use Rattle.outside.specs.Causes.{Rose}
use Rattle.outside.specs.Streams.{Pushes}
use Rattle.outside.specs.Told.{WhereTold}
use Rattle.key_types.specs.Columns.{Columns}
use Rattle.load_work.specs.declared.work.LoadError.{LoadError}
use Rattle.load_work.specs.declared.work.LoadError.TheVariants as load_error
use Rattle.script_text.specs.Puts.{Batch, Get, Put}
use Rattle.script_text.specs.Script.{gets_of, puts_of}
use Rattle.script_run.specs.declared.run.RunError.{RunError}
use Rattle.script_run.specs.declared.run.RunError.TheVariants as run_error
use Rattle.script_run.specs.Legal.{AreBatchLines, IsLegalText, NumbersRise}
use Rattle.script_run.specs.Runs.{IsLegalTo, WritesAnswers}
use Rattle.script_run.specs.Steps.{IsBatchText, run_error_of}
use Rattle.script_run.proofs.Printed.{NumbersBelow, below_snoc, gets_snoc, lines_long, puts_snoc, rise_snoc, snoc_lines, take_next}

pub told_same : {A : Type 0} (P : A → A → Type 0) (a : Option A) → ((x : A) → P x x) → WhereTold a a P
told_same P None h = tt
told_same P (Some x) h = h x

pub told_as : {A : Type 0} (P Q : A → A → Type 0) (a b : Option A) → ((x y : A) → P x y → Q x y) → WhereTold a b P → WhereTold a b Q
told_as P Q None None f h = tt
told_as P Q None (Some y) f h = absurd h
told_as P Q (Some x) None f h = absurd h
told_as P Q (Some x) (Some y) f h = f x y h

told_then : {A : Type 0} (P Q R : A → A → Type 0) (a b c : Option A) → ((x y z : A) → P x y → Q y z → R x z) → WhereTold a b P → WhereTold b c Q → WhereTold a c R
told_then P Q R None None None f h k = tt
told_then P Q R None None (Some z) f h k = absurd k
told_then P Q R None (Some y) c f h k = absurd h
told_then P Q R (Some x) None c f h k = absurd h
told_then P Q R (Some x) (Some y) None f h k = absurd k
told_then P Q R (Some x) (Some y) (Some z) f h k = f x y z h k

module _ (columns : Columns) (bounds : List (List ℕ)) where
  -- a legal text of some batches, whose numbers are within the puts so far
  pub record IsTextOf (batches : List Batch) (text : List ℕ) : Type 0 where
    pub numbers : List ℕ
    pub lines : AreBatchLines columns bounds [] batches numbers text
    pub rise : NumbersRise columns bounds (gets_of batches) numbers
    pub long : length numbers ≡ length (gets_of batches)
    pub below : NumbersBelow bounds (gets_of batches) numbers (puts_of batches)

  abbrev pub Adds : List Batch → List ℕ → List ℕ → Type 0
  Adds batches before after = (text : List ℕ) × IsTextOf batches text × (after ≡ before ++ text)

  pub no_text : IsTextOf [] []
  no_text = record { numbers = []; lines = (refl, refl); rise = λ i j g h m n less a b. cc; long = refl; below = λ i g n a b. cc }

  text_next : (batches : List Batch) (text : List ℕ) (batch : Batch) (lines : List ℕ) → IsTextOf batches text → IsBatchText columns bounds (puts_of batches) batch lines
      → IsTextOf (batches ++ batch ∷ []) (text ++ lines)
  text_next batches text batch lines is (own, are, rise) =
      let gets = gets_of batches in
      let done = puts_of batches in record {
        numbers = is.numbers ++ own;
        lines = snoc_lines columns bounds [] batches is.numbers text batch own lines is.lines are;
        rise = subst (λ (l : List Get). NumbersRise columns bounds l (is.numbers ++ own)) (sym (gets_snoc batches batch))
            (rise_snoc columns bounds gets is.numbers done batch.puts batch.gets own lines is.long is.below is.rise are rise);
        long =
            length-append is.numbers own ∙ ap (λ (n : ℕ). n + length own) is.long ∙ ap (λ (n : ℕ). length gets + n) (lines_long columns bounds done (done ++ batch.puts) batch.gets own lines are)
            ∙ sym (length-append gets batch.gets) ∙ ap length (sym (gets_snoc batches batch));
        below =
            subst (λ (l : List Put). NumbersBelow bounds (gets_of (batches ++ batch ∷ [])) (is.numbers ++ own) l) (sym (puts_snoc batches batch))
            (subst (λ (l : List Get). NumbersBelow bounds l (is.numbers ++ own) (done ++ batch.puts)) (sym (gets_snoc batches batch))
            (below_snoc columns bounds gets is.numbers done batch.puts batch.gets own lines is.long is.below is.rise are));
      }

  module _ (batches : List Batch) (first mid : Option (List ℕ)) where
    module _ (n : ℕ) (so_far : WhereTold first mid (Adds (take n batches))) where
      module _ (inside : n ≤ length batches) where
        legal : (a b : List ℕ) → Adds (take n batches) a b → (m : ℕ) × (text : List ℕ) × IsLegalTo columns bounds batches m text × (b ≡ a ++ text)
        legal a b (text, is, e) = (n, text, (inside, record { numbers = is.numbers; lines = is.lines; rise = is.rise }), e)

        pub ends_at : (T : Type 0) (e : LoadError) → WhereTold first mid (WritesAnswers columns bounds batches {T = T} (Err (run_error_of e)))
        ends_at T (load_error.Full line) = told_as (Adds (take n batches)) (WritesAnswers columns bounds batches {T = T} (Err (run_error.Full line))) first mid legal so_far
        ends_at T load_error.NoMemory = told_as (Adds (take n batches)) (WritesAnswers columns bounds batches {T = T} (Err run_error.NoMemory)) first mid legal so_far

      -- all batches are done
      pub ends_all : (T : Type 0) (x : T) → length batches ≤ n → WhereTold first mid (WritesAnswers columns bounds batches {T = T} (Ok x))
      ends_all T x all = told_as (Adds (take n batches)) (WritesAnswers columns bounds batches {T = T} (Ok x)) first mid whole so_far
        where
          whole : (a b : List ℕ) → Adds (take n batches) a b → (text : List ℕ) × IsLegalText columns bounds batches text × (b ≡ a ++ text)
          whole a b (text, is, e) =
              (text, subst (λ (l : List Batch). IsLegalText columns bounds l text) (take_all n batches all) (record { numbers = is.numbers; lines = is.lines; rise = is.rise }), e)

      module _ (batch : Batch) (at : slice_get batches n ≡ Some batch) (inside : n < length batches) (lines : List ℕ)
          (is_text : IsBatchText columns bounds (puts_of (take n batches)) batch lines) (now : Option (List ℕ)) where
        next_text : (text : List ℕ) → IsTextOf (take n batches) text → IsTextOf (take (n + 1) batches) (text ++ lines)
        next_text text is = subst (λ (l : List Batch). IsTextOf l (text ++ lines)) (sym (take_next batches n batch at)) (text_next (take n batches) text batch lines is is_text)

        pub pushed : (T E : Type 0) (x : T) → Pushes {T = T} {E = E} mid now (Ok x) lines → WhereTold first now (Adds (take (n + 1) batches))
        pushed T E x pushes = told_then (Adds (take n batches)) (λ ys zs. zs ≡ ys ++ lines) (Adds (take (n + 1) batches)) first mid now more so_far pushes
          where
            more : (a b c : List ℕ) → Adds (take n batches) a b → c ≡ b ++ lines → Adds (take (n + 1) batches) a c
            more a b c (text, is, e) f = (text ++ lines, next_text text is, f ∙ ap (λ (l : List ℕ). l ++ lines) e ∙ append_assoc a text lines)

        pub stopped : (T U E : Type 0) (x : E) → Pushes {T = U} {E = E} mid now (Err x) lines → WhereTold first now (WritesAnswers columns bounds batches {T = T} (Err run_error.SinkFault))
        stopped T U E x pushes =
            told_then (Adds (take n batches)) (λ ys zs. (k : ℕ) × (k ≤ length lines) × (zs ≡ ys ++ take k lines)) (WritesAnswers columns bounds batches {T = T} (Err run_error.SinkFault))
            first mid now part so_far pushes
          where
            part : (a b c : List ℕ) → Adds (take n batches) a b → (k : ℕ) × (k ≤ length lines) × (c ≡ b ++ take k lines)
                → (m : ℕ) × (text : List ℕ) × (count : ℕ) × IsLegalTo columns bounds batches m text × (count ≤ length text) × (c ≡ a ++ take count text)
            part a b c (text, is, e) (k, few, f) =
                let next = next_text text is in (
                  n + 1,
                  text ++ lines,
                  length text + k,
                  (omega (arith, inside), record { numbers = next.numbers; lines = next.lines; rise = next.rise }),
                  omega (arith, few, length-append text lines),
                  f ∙ ap (λ (l : List ℕ). l ++ take k lines) e ∙ append_assoc a text (take k lines) ∙ ap (λ (l : List ℕ). a ++ l) (sym (take-append-add text lines k)),
                )

  -- ---- the same text, however the result is told

  pub same_end : (T U : Type 0) (batches : List Batch) (first now : Option (List ℕ)) (e : RunError) → WhereTold first now (WritesAnswers columns bounds batches {T = T} (Err e))
      → WhereTold first now (WritesAnswers columns bounds batches {T = U} (Err e))
  same_end T U batches first now (run_error.Full line) h = h
  same_end T U batches first now run_error.SinkFault h = h
  same_end T U batches first now run_error.NoMemory h = h

  pub closed_late : (T U : Type 0) (batches : List Batch) (first now : Option (List ℕ)) (x : T) → WhereTold first now (WritesAnswers columns bounds batches {T = T} (Ok x))
      → WhereTold first now (WritesAnswers columns bounds batches {T = U} (Err run_error.NoMemory))
  closed_late T U batches first now x h = told_as (WritesAnswers columns bounds batches {T = T} (Ok x)) (WritesAnswers columns bounds batches {T = U} (Err run_error.NoMemory)) first now all h
    where
      all : (a b : List ℕ) → (text : List ℕ) × IsLegalText columns bounds batches text × (b ≡ a ++ text) → (m : ℕ) × (text : List ℕ) × IsLegalTo columns bounds batches m text × (b ≡ a ++ text)
      all a b (text, is, e) =
          let n = length batches in
          (n, text, (omega arith, subst (λ (l : List Batch). IsLegalText columns bounds l text) (sym (take_all n batches (omega arith))) is), e)

-- ---- how a run ends

-- the error that a call hands on is its own
pub handed_on : {T E : Type 0} (r : Result T E) (y x z : E) → r ≡ Err y → y ≡ x → r ≡ Err z → x ≡ z
handed_on r y x z is same e = cc

pub same_line : (n line : ℕ) → run_error.Full n ≡ run_error.Full line → n ≡ line
same_line n line e = cc

pub full_is : (e : LoadError) (line : ℕ) → run_error_of e ≡ run_error.Full line → e ≡ load_error.Full line
full_is (load_error.Full n) line h = let is : n ≡ line = cc in ap (λ (k : ℕ). load_error.Full k) is
full_is load_error.NoMemory line h = absurd (cc)

pub no_fault : (e : LoadError) → run_error_of e ≡ run_error.SinkFault → ⊥
no_fault (load_error.Full n) h = cc
no_fault load_error.NoMemory h = cc

pub rose_since : (a b c : ℕ) → a ≤ b → Rose b c → Rose a c
rose_since a b c least rose = by a b c (2 ^ 64 - 1) least rose
  where
    by : (a b c m : ℕ) → a ≤ b → min (b + 1) m ≤ c → min (a + 1) m ≤ c
    by a b c m least rose = omega (arith, least, rose)
