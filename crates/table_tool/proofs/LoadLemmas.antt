-- How `load` ends, by what its parts answer.
use Rattle.std.proofs.Common.{◌≡◌, ◌⊎◌, ℕ, ◌≤◌, false, List, [], ◌∷◌, ◌++◌, length, take, Option, None, Some, Result, Ok, Err, IfErr, inl, inr, refl, sym, ◌∙◌, ap, subst, arith, append_assoc}
use Rattle.std.specs.Prelude.{IfSome, IsTrue, MatchResult}
use Rattle.std.proofs.lemmas.List.{append-nil}
use Rattle.outside.specs.Causes.{Rose}
use Rattle.outside.specs.Files.{Files}
use Rattle.outside.specs.Told.{WhereTold}
use Rattle.script_text.specs.Puts.{Batch}
use Rattle.script_text.specs.Script.{puts_of, script_of}
use Rattle.script_text.specs.declared.script.Script.{Script}
use Rattle.script_run.specs.Legal.{IsLegalText}
use Rattle.script_run.specs.Runs.{HasRoom, IsFirstFull, WritesAnswers}
use Rattle.script_run.specs.declared.run.RunError.{RunError}
use Rattle.script_run.specs.declared.run.RunError.TheVariants as run_error
use Rattle.table_files.specs.There.{any_there}
use Rattle.table_tool.specs.declared.status.Status.{Status}
use Rattle.table_tool.specs.declared.status.Status.TheVariants as status
use Rattle.table_tool.specs.FaultLine.{fault_line}
use Rattle.table_tool.specs.First.{first_generation}
use Rattle.table_tool.specs.Input.{EndsEarly, TakesScript}
use Rattle.table_tool.specs.Loading.{Answers, ChangesFiles, FillsShards, FitsShards, IsAnswered, IsEarly, IsExists, IsNoneOrAll, IsOfLoad, IsWhole, KeepsFiles, LoadAsked, LoadEnds, LoadsOrRefuses, Refused, StopsLoad, WritesLoad, loading, loading_of}
use Rattle.table_tool.specs.Outcome.{IsOrNoMemory, PrintsText, Says, SaysRefusal, ended}
use Rattle.table_tool.specs.Outside.{FaultRose, Outside, outside_of}
use Rattle.table_tool.proofs.EndLemmas.{cut_prefix, earlier, either, says_earlier}
use Rattle.table_tool.proofs.Told.{told_none, told_so, told_then}

pub if_so : {A : Type 0} (o : Option A) (P Q : A → Type 0) → ((x : A) → P x → Q x) → IfSome o P → IfSome o Q
if_so None P Q step p = tt
if_so (Some x) P Q step p = step x p

both_so : {A : Type 0} (o : Option A) (P Q R : A → Type 0) → ((x : A) → P x → Q x → R x) → IfSome o P → IfSome o Q → IfSome o R
both_so None P Q R step p q = tt
both_so (Some x) P Q R step p q = step x p q

pub every : {A : Type 0} (o : Option A) (P : A → Type 0) → ((x : A) → P x) → IfSome o P
every None P p = tt
every (Some x) P p = p x

-- ---- the script that is taken

-- what holds of the script that was taken holds of what is expected
pub of_script : (asked : LoadAsked) (left : Option (List ℕ)) (script : Script) (P : Result Script Status → Type 0)
    → IfSome left (λ bytes. TakesScript (Ok script) (script_of asked.columns asked.readers bytes)) → P (Ok script) → IfSome left (λ bytes. P (loading asked bytes))
of_script asked left script P takes p =
    if_so left _ (λ bytes. P (loading asked bytes)) (λ bytes is. subst P (sym (ap loading_of is)) p) takes

-- a refusal is the one that is expected
refused_one : (asked : LoadAsked) (bytes : List ℕ) (s : Status) → EndsEarly s → TakesScript (Err s) (script_of asked.columns asked.readers bytes) → Refused (loading asked bytes) s
refused_one asked bytes status.Ok early is = absurd early
refused_one asked bytes status.Usage early is = absurd early
refused_one asked bytes status.Key early is = absurd early
refused_one asked bytes (status.BadLine line cause) early is = ap loading_of is
refused_one asked bytes (status.Full line) early is = absurd early
refused_one asked bytes status.SourceFault early is = tt
refused_one asked bytes status.SinkFault early is = absurd early
refused_one asked bytes status.StoreFault early is = absurd early
refused_one asked bytes (status.Damaged damage) early is = absurd early
refused_one asked bytes status.Unfinished early is = absurd early
refused_one asked bytes status.Exists early is = absurd early
refused_one asked bytes status.TooLarge early is = ap loading_of is
refused_one asked bytes (status.Unsound mismatch) early is = absurd early
refused_one asked bytes status.NoMemory early is = tt

pub of_refusal : (asked : LoadAsked) (left : Option (List ℕ)) (s : Status) → EndsEarly s
    → IfSome left (λ bytes. TakesScript (Err s) (script_of asked.columns asked.readers bytes)) → IfSome left (λ bytes. Refused (loading asked bytes) s)
of_refusal asked left s early takes = if_so left _ _ (λ bytes is. refused_one asked bytes s early is) takes

-- nothing was written before it
quiet_one : (asked : LoadAsked) (expected : Result Script Status) (s : Status) → EndsEarly s → (x : List ℕ) → Answers asked (Err s) expected x x
quiet_one asked expected status.Ok early x = absurd early
quiet_one asked expected status.Usage early x = absurd early
quiet_one asked expected status.Key early x = absurd early
quiet_one asked expected (status.BadLine line cause) early x = refl
quiet_one asked expected (status.Full line) early x = absurd early
quiet_one asked expected status.SourceFault early x = refl
quiet_one asked expected status.SinkFault early x = absurd early
quiet_one asked expected status.StoreFault early x = absurd early
quiet_one asked expected (status.Damaged damage) early x = absurd early
quiet_one asked expected status.Unfinished early x = absurd early
quiet_one asked expected status.Exists early x = absurd early
quiet_one asked expected status.TooLarge early x = refl
quiet_one asked expected (status.Unsound mismatch) early x = absurd early
quiet_one asked expected status.NoMemory early x = ([], inl refl, sym (append-nil x))

pub quiet : (asked : LoadAsked) (left w : Option (List ℕ)) (s : Status) → EndsEarly s → IfSome left (λ bytes. WhereTold w w (Answers asked (Err s) (loading asked bytes)))
quiet asked left w s early = every left _ (λ bytes. told_none w _ (quiet_one asked (loading asked bytes) s early))

pub early_stops : (s : Status) → EndsEarly s → StopsLoad s
early_stops status.Ok early = absurd early
early_stops status.Usage early = absurd early
early_stops status.Key early = absurd early
early_stops (status.BadLine line cause) early = tt
early_stops (status.Full line) early = absurd early
early_stops status.SourceFault early = tt
early_stops status.SinkFault early = absurd early
early_stops status.StoreFault early = absurd early
early_stops (status.Damaged damage) early = absurd early
early_stops status.Unfinished early = absurd early
early_stops status.Exists early = absurd early
early_stops status.TooLarge early = tt
early_stops (status.Unsound mismatch) early = absurd early
early_stops status.NoMemory early = tt

-- it is not that a shard is full
pub never_full : {T : Type 0} (s : Status) → EndsEarly s → (line : ℕ) → ◌≡◌ {A = Result T Status} (Err s) (Err (status.Full line)) → ⊥
never_full {T} s early line e = let same : s ≡ status.Full line = cc in subst EndsEarly same early

pub early_keeps : (s : Status) (files : Option Files) → EndsEarly s → KeepsFiles s files files
early_keeps status.Ok files early = absurd early
early_keeps status.Usage files early = absurd early
early_keeps status.Key files early = absurd early
early_keeps (status.BadLine line cause) files early = refl
early_keeps (status.Full line) files early = absurd early
early_keeps status.SourceFault files early = refl
early_keeps status.SinkFault files early = absurd early
early_keeps status.StoreFault files early = absurd early
early_keeps (status.Damaged damage) files early = absurd early
early_keeps status.Unfinished files early = absurd early
early_keeps status.Exists files early = absurd early
early_keeps status.TooLarge files early = refl
early_keeps (status.Unsound mismatch) files early = absurd early
early_keeps status.NoMemory files early = tt

-- a store that failed before the batches has nothing written before its line
pub quiet_store : (asked : LoadAsked) (left w : Option (List ℕ)) → IfSome left (λ bytes. WhereTold w w (Answers asked (Err status.StoreFault) (loading asked bytes)))
quiet_store asked left w = every left _ (λ bytes. told_none w _ (λ x. ([], inl refl, sym (append-nil x))))

-- ---- all of it

-- one script is expected
one_script : {expected : Result Script Status} (a b : Script) → expected ≡ Ok a → expected ≡ Ok b → a ≡ b
one_script {expected} a b e f = let both : ◌≡◌ {A = Result Script Status} (Ok a) (Ok b) = sym e ∙ f in cc

take_all : {X : Type 0} (xs : List X) → take (length xs) xs ≡ xs
take_all [] = refl
take_all (x ∷ xs) = ap (λ (ys : List _). x ∷ ys) (take_all xs)

whole_answered : (asked : LoadAsked) (expected : Result Script Status) (script : Script) (text : List ℕ) → expected ≡ Ok script → IsLegalText asked.columns asked.bounds script.batches text
    → IsAnswered asked expected text
whole_answered asked expected script text is legal =
    (script, length script.batches, is, (omega arith, subst (λ (bs : List Batch). IsLegalText asked.columns asked.bounds bs text) (sym (take_all script.batches)) legal))

-- ---- the batches of a script

module _ (asked : LoadAsked) (script : Script) (w w' : Option (List ℕ)) (batches : List Batch) (same : batches ≡ script.batches) where
  pub full_answers : (T : Type 0) (line : ℕ) (e : RunError) → e ≡ run_error.Full line → WhereTold w w' (WritesAnswers asked.columns asked.bounds batches {T = T} (Err e))
      → WhereTold w w' (Answers asked (Err (status.Full line)) (Ok script))
  full_answers T line e is told =
      let of_script : WhereTold w w' (WritesAnswers asked.columns asked.bounds script.batches {T = T} (Err e)) =
      subst (λ (bs : List Batch). WhereTold w w' (WritesAnswers asked.columns asked.bounds bs {T = T} (Err e))) same told in
      let full : WhereTold w w' (WritesAnswers asked.columns asked.bounds script.batches {T = T} (Err (run_error.Full line))) =
      subst (λ (f : RunError). WhereTold w w' (WritesAnswers asked.columns asked.bounds script.batches {T = T} (Err f))) is of_script in
      told_so w w' _ _ (λ x y wrote. (wrote.1, (script, wrote.0, refl, wrote.2), wrote.3)) full

  -- all batches were answered, and then memory ran out
  pub memory_answers : (T : Type 0) (frozen : T) → WhereTold w w' (WritesAnswers asked.columns asked.bounds batches {T = T} (Ok frozen))
      → WhereTold w w' (Answers asked (Err status.NoMemory) (Ok script))
  memory_answers T frozen told =
      let of_script : WhereTold w w' (WritesAnswers asked.columns asked.bounds script.batches {T = T} (Ok frozen)) =
      subst (λ (bs : List Batch). WhereTold w w' (WritesAnswers asked.columns asked.bounds bs {T = T} (Ok frozen))) same told in
      told_so w w' _ _ (λ x y wrote. (wrote.0, inr (whole_answered asked (Ok script) script wrote.0 refl wrote.1), wrote.2)) of_script

  pub full_line : (line : ℕ) → IsFirstFull asked.cells asked.bounds batches line → (other : ℕ) → ◌≡◌ {A = Result (List ℕ) Status} (Err (status.Full line)) (Err (status.Full other))
      → FillsShards asked (Ok script) other
  full_line line full other e =
      let one : line ≡ other = cc in
      (script, refl, subst (IsFirstFull asked.cells asked.bounds script.batches) one (subst (λ (bs : List Batch). IsFirstFull asked.cells asked.bounds bs line) same full))

  pub full_never : (line : ℕ) → (HasRoom asked.cells asked.bounds (puts_of batches) → ⊥) → FitsShards asked (Ok script) → (other : ℕ)
      → ◌≡◌ {A = Result (List ℕ) Status} (Err (status.Full line)) (Err (status.Full other)) → ⊥
  full_never line never fits other e = never (subst (λ (bs : List Batch). HasRoom asked.cells asked.bounds (puts_of bs)) (sym same) (fits script refl))

module _ (asked : LoadAsked) (left left' : Option (List ℕ)) (source source' : ℕ) (w w1 w2 : Option (List ℕ)) (sink sink1 sink2 : ℕ) (files files' : Option Files)
    (store store' reads reads' : ℕ) where
  abbrev before : Outside
  before = outside_of left source w sink files store reads

  abbrev after : Outside
  after = outside_of left' source' w2 sink2 files' store' reads'

  -- what `load_once` answers
  pub record Once (r : Result (List ℕ) Status) : Type 0 where
    pub exists_only : IfSome files (λ old. r ≡ Err status.Exists → IsTrue (any_there first_generation old))
    pub exists : IfSome files (λ old. IsTrue (any_there first_generation old) → MatchResult r (λ _. ⊥) IsExists × (files' ≡ files) × (left' ≡ left) × (source' ≡ source))
    pub unread : r ≡ Err status.Exists → (left' ≡ left) × (source' ≡ source)
    pub loads : IfSome left (λ bytes. LoadsOrRefuses asked r (loading asked bytes) files files')
    pub answers : IfSome left (λ bytes. WhereTold w w1 (Answers asked r (loading asked bytes)))
    pub early : IfErr r (λ s. IsEarly s → w1 ≡ w)
    pub full : IfSome left (λ bytes. (line : ℕ) → r ≡ Err (status.Full line) → FillsShards asked (loading asked bytes) line)
    pub room : IfSome left (λ bytes. FitsShards asked (loading asked bytes) → (line : ℕ) → r ≡ Err (status.Full line) → ⊥)
    pub stops : IfErr r StopsLoad
    pub kept : IfErr r (λ s. KeepsFiles s files files')
    pub changes : IfSome left (λ bytes. WhereTold files files' (ChangesFiles asked.columns (loading asked bytes)))
    pub later : source ≤ source'
    pub store_later : store ≤ store'
    pub sink_later : sink ≤ sink1
    pub fault : r ≡ Err status.SourceFault → Rose source source'
    pub store_fault : r ≡ Err status.StoreFault → Rose store store'
    pub sink_fault : r ≡ Err status.SinkFault → Rose sink sink1

  -- ---- where the line is printed

  module _ (line : List ℕ) (once : Once (Ok line)) (result : Status) (cases : (result ≡ status.Ok) ⊎ (result ≡ status.SinkFault))
      (told : WhereTold w1 w2 (PrintsText line result)) (later : sink1 ≤ sink2) (fault : result ≡ status.SinkFault → Rose sink1 sink2) where
    by_cases : (P : Status → Type 0) → P status.Ok → (result ≡ status.SinkFault → P status.SinkFault) → P result
    by_cases P ok failed = by cases
      where
        by : (result ≡ status.Ok) ⊎ (result ≡ status.SinkFault) → P result
        by (inl e) = subst P (sym e) ok
        by (inr e) = subst P (sym e) (failed e)

    never : (s : Status) → (s ≡ status.Ok → ⊥) → (s ≡ status.SinkFault → ⊥) → result ≡ s → ⊥
    never s ok sunk e = by cases
      where
        by : (result ≡ status.Ok) ⊎ (result ≡ status.SinkFault) → ⊥
        by (inl f) = ok (sym e ∙ f)
        by (inr f) = sunk (sym e ∙ f)

    rose : result ≡ status.SinkFault → Rose sink sink2
    rose e = earlier sink sink1 sink2 once.sink_later (fault e)

    written_one : (expected : Result Script Status) (x y z : List ℕ) → LoadsOrRefuses asked (Ok line) expected files files' → Answers asked (Ok line) expected x y → PrintsText line result y z
        → WritesLoad asked expected files files' result sink sink2 x z
    written_one expected x y z (script, is, loaded) (script', text, is', legal, e) prints =
        let same = one_script script' script is' is in
        let legal' = subst (λ (s : Script). IsLegalText asked.columns asked.bounds s.batches text) same legal in
        let whole : IsWhole asked expected files files' (text ++ line) = (script, text, line, is, legal', loaded, refl) in
        by whole cases
      where
        by : IsWhole asked expected files files' (text ++ line) → (result ≡ status.Ok) ⊎ (result ≡ status.SinkFault) → WritesLoad asked expected files files' result sink sink2 x z
        by whole (inl f) =
            subst (λ (s : Status). WritesLoad asked expected files files' s sink sink2 x z) (sym f)
            (text ++ line, whole, subst (λ (s : Status). PrintsText line s y z) f prints ∙ ap (λ (l : List ℕ). l ++ line) e ∙ append_assoc x text line)
        by whole (inr f) =
            subst (λ (s : Status). WritesLoad asked expected files files' s sink sink2 x z) (sym f)
            (text ++ line, inr whole, cut_prefix (Some x) (Some y) (Some z) text line (text ++ line) refl e (subst (λ (s : Status). PrintsText line s y z) f prints))

    pub line_printed : LoadEnds asked before after result
    line_printed = record {
      possible = by_cases IsOfLoad tt (λ e. tt);
      faults = by_cases (FaultRose before after) tt rose;
      exists_only = every files _ (λ old also. absurd (never status.Exists (λ e. cc) (λ e. cc) also));
      exists = if_so files _ _ (λ old there is. absurd (there is).0) once.exists;
      unread = λ also. absurd (never status.Exists (λ e. cc) (λ e. cc) also);
      refused = every left _ (λ bytes. by_cases (Refused (loading asked bytes)) tt (λ e. tt));
      full = every left _ (λ bytes line also. absurd (never (status.Full line) (λ e. cc) (λ e. cc) also));
      written = both_so left _ _ _ (λ bytes loads answers. told_then w w1 w2 _ _ _ (λ x y z a p. written_one (loading asked bytes) x y z loads a p) answers told) once.loads once.answers;
      refusal = by_cases (λ s. IsEarly s → WhereTold w w2 (SaysRefusal s sink sink2)) (λ h. absurd h) (λ e h. absurd h);
      done = if_so left _ _ (λ bytes loads ok. (loads.0, line, loads.1, loads.2)) once.loads;
      complete = every files _ (λ old. if_so left _ _
          (λ bytes loads none quiet_source quiet_sink quiet_store fits.
          subst (λ (r : Result Script Status). IsOrNoMemory (ended r) result) (sym loads.1) (by_cases (IsOrNoMemory status.Ok) refl (λ e. absurd (quiet_sink (rose e))))) once.loads);
      kept = by_cases (λ s. KeepsFiles s files files') tt (λ e. tt);
      changes = once.changes;
    }

  -- ---- where memory ran out, or the sink failed, before it

  module _ (s : Status) (once : Once (Err s)) where
    -- what is written where memory runs out
    without_line : (expected : Result Script Status) (x y : List ℕ) → StopsLoad s → Answers asked (Err s) expected x y → (s ≡ status.SinkFault → ⊥)
        → (text : List ℕ) × ((text ≡ []) ⊎ IsAnswered asked expected text) × (y ≡ x ++ text)
    without_line expected x y = by s
      where
        none_or : (text : List ℕ) → IsNoneOrAll asked expected text → (text ≡ []) ⊎ IsAnswered asked expected text
        none_or text (inl e) = inl e
        none_or text (inr (script, is, legal)) = inr (whole_answered asked expected script text is legal)

        by : (t : Status) → StopsLoad t → Answers asked (Err t) expected x y → (t ≡ status.SinkFault → ⊥) → (text : List ℕ) × ((text ≡ []) ⊎ IsAnswered asked expected text) × (y ≡ x ++ text)
        by status.Ok stops a sunk = absurd stops
        by status.Usage stops a sunk = absurd stops
        by status.Key stops a sunk = absurd stops
        by (status.BadLine line cause) stops a sunk = ([], inl refl, a ∙ sym (append-nil x))
        by (status.Full line) stops a sunk = (a.0, inr a.1, a.2)
        by status.SourceFault stops a sunk = ([], inl refl, a ∙ sym (append-nil x))
        by status.SinkFault stops a sunk = absurd (sunk refl)
        by status.StoreFault stops a sunk = (a.0, none_or a.0 a.1, a.2)
        by (status.Damaged damage) stops a sunk = absurd stops
        by status.Unfinished stops a sunk = absurd stops
        by status.Exists stops a sunk = ([], inl refl, a ∙ sym (append-nil x))
        by status.TooLarge stops a sunk = ([], inl refl, a ∙ sym (append-nil x))
        by (status.Unsound mismatch) stops a sunk = absurd stops
        by status.NoMemory stops a sunk = a

    -- what is written with the fault line
    with_line : (expected : Result Script Status) (x y z : List ℕ) → StopsLoad s → Answers asked (Err s) expected x y → sink1 ≤ sink2 → SaysRefusal s sink1 sink2 y z
        → (s ≡ status.SinkFault → ⊥) → WritesLoad asked expected files files' s sink sink2 x z
    with_line expected x y z = by s
      where
        later_says : (text : List ℕ) → Says text sink1 sink2 y z → Says text sink sink2 y z
        later_says text (inl e) = inl e
        later_says text (inr (r, p)) = inr (earlier sink sink1 sink2 once.sink_later r, p)

        at_once : (text : List ℕ) → y ≡ x → Says text sink1 sink2 y z → Says text sink sink2 x z
        at_once text e says = subst (λ (l : List ℕ). Says text sink sink2 l z) e (later_says text says)

        by : (t : Status) → StopsLoad t → Answers asked (Err t) expected x y → sink1 ≤ sink2 → SaysRefusal t sink1 sink2 y z
            → (t ≡ status.SinkFault → ⊥) → WritesLoad asked expected files files' t sink sink2 x z
        by status.Ok stops a l says sunk = absurd stops
        by status.Usage stops a l says sunk = absurd stops
        by status.Key stops a l says sunk = absurd stops
        by (status.BadLine line cause) stops a l says sunk = at_once (fault_line (status.BadLine line cause)) a says
        by (status.Full line) stops a l says sunk = (a.0, a.1, subst (λ (t : List ℕ). Says (fault_line (status.Full line)) sink sink2 t z) a.2 (later_says (fault_line (status.Full line)) says))
        by status.SourceFault stops a l says sunk = at_once (fault_line status.SourceFault) a says
        by status.SinkFault stops a l says sunk = absurd (sunk refl)
        by status.StoreFault stops a l says sunk = (a.0, a.1, subst (λ (t : List ℕ). Says (fault_line status.StoreFault) sink sink2 t z) a.2 (later_says (fault_line status.StoreFault) says))
        by (status.Damaged damage) stops a l says sunk = absurd stops
        by status.Unfinished stops a l says sunk = absurd stops
        by status.Exists stops a l says sunk = at_once (fault_line status.Exists) a says
        by status.TooLarge stops a l says sunk = at_once (fault_line status.TooLarge) a says
        by (status.Unsound mismatch) stops a l says sunk = absurd stops
        by status.NoMemory stops a l says sunk = (a.0, a.1, says ∙ a.2)

    -- what is expected is that status, or a shard is full, or an object failed
    complete_one : (bytes : List ℕ) (old : Files) → (◌≡◌ {A = Result (List ℕ) Status} (Err s) (Err status.Exists) → IsTrue (any_there first_generation old)) → StopsLoad s
        → Refused (loading asked bytes) s → (FitsShards asked (loading asked bytes) → (line : ℕ) → ◌≡◌ {A = Result (List ℕ) Status} (Err s) (Err (status.Full line)) → ⊥)
        → any_there first_generation old ≡ false → (Rose source source' → ⊥) → (Rose sink sink2 → ⊥) → (Rose store store' → ⊥) → sink1 ≤ sink2 → FitsShards asked (loading asked bytes)
        → IsOrNoMemory (ended (loading asked bytes)) s
    complete_one bytes old there = by s there once.fault once.store_fault once.sink_fault
      where
        by : (t : Status) → (◌≡◌ {A = Result (List ℕ) Status} (Err t) (Err status.Exists) → IsTrue (any_there first_generation old))
            → (◌≡◌ {A = Result (List ℕ) Status} (Err t) (Err status.SourceFault) → Rose source source') → (◌≡◌ {A = Result (List ℕ) Status} (Err t) (Err status.StoreFault) → Rose store store')
            → (◌≡◌ {A = Result (List ℕ) Status} (Err t) (Err status.SinkFault) → Rose sink sink1) → StopsLoad t → Refused (loading asked bytes) t
            → (FitsShards asked (loading asked bytes) → (line : ℕ) → ◌≡◌ {A = Result (List ℕ) Status} (Err t) (Err (status.Full line)) → ⊥)
            → any_there first_generation old ≡ false → (Rose source source' → ⊥) → (Rose sink sink2 → ⊥) → (Rose store store' → ⊥) → sink1 ≤ sink2 → FitsShards asked (loading asked bytes)
            → IsOrNoMemory (ended (loading asked bytes)) t
        by status.Ok there a b c stops refused room none q1 q2 q3 l fits = absurd stops
        by status.Usage there a b c stops refused room none q1 q2 q3 l fits = absurd stops
        by status.Key there a b c stops refused room none q1 q2 q3 l fits = absurd stops
        by (status.BadLine line cause) there a b c stops refused room none q1 q2 q3 l fits = sym (ap ended refused)
        by (status.Full line) there a b c stops refused room none q1 q2 q3 l fits = absurd (room fits line refl)
        by status.SourceFault there a b c stops refused room none q1 q2 q3 l fits = absurd (q1 (a refl))
        by status.SinkFault there a b c stops refused room none q1 q2 q3 l fits = absurd (q2 (let r = c refl in omega arith))
        by status.StoreFault there a b c stops refused room none q1 q2 q3 l fits = absurd (q3 (b refl))
        by (status.Damaged damage) there a b c stops refused room none q1 q2 q3 l fits = absurd stops
        by status.Unfinished there a b c stops refused room none q1 q2 q3 l fits = absurd stops
        by status.Exists there a b c stops refused room none q1 q2 q3 l fits = let is : IsTrue (any_there first_generation old) = there refl in let both = sym is ∙ none in cc
        by status.TooLarge there a b c stops refused room none q1 q2 q3 l fits = sym (ap ended refused)
        by (status.Unsound mismatch) there a b c stops refused room none q1 q2 q3 l fits = absurd stops
        by status.NoMemory there a b c stops refused room none q1 q2 q3 l fits = tt

    possible_one : (t : Status) → StopsLoad t → IsOfLoad t
    possible_one status.Ok stops = absurd stops
    possible_one status.Usage stops = stops
    possible_one status.Key stops = stops
    possible_one (status.BadLine line cause) stops = tt
    possible_one (status.Full line) stops = tt
    possible_one status.SourceFault stops = tt
    possible_one status.SinkFault stops = tt
    possible_one status.StoreFault stops = tt
    possible_one (status.Damaged damage) stops = stops
    possible_one status.Unfinished stops = stops
    possible_one status.Exists stops = tt
    possible_one status.TooLarge stops = tt
    possible_one (status.Unsound mismatch) stops = stops
    possible_one status.NoMemory stops = tt

    faults_one : sink1 ≤ sink2 → (t : Status) → s ≡ t → StopsLoad t → FaultRose before after t
    faults_one l status.Ok e stops = tt
    faults_one l status.Usage e stops = tt
    faults_one l status.Key e stops = tt
    faults_one l (status.BadLine line cause) e stops = tt
    faults_one l (status.Full line) e stops = tt
    faults_one l status.SourceFault e stops = once.fault (ap Err e)
    faults_one l status.SinkFault e stops = let r = once.sink_fault (ap Err e) in omega arith
    faults_one l status.StoreFault e stops = once.store_fault (ap Err e)
    faults_one l (status.Damaged damage) e stops = tt
    faults_one l status.Unfinished e stops = tt
    faults_one l status.Exists e stops = tt
    faults_one l status.TooLarge e stops = tt
    faults_one l (status.Unsound mismatch) e stops = tt
    faults_one l status.NoMemory e stops = tt

    not_ok : s ≡ status.Ok → ⊥
    not_ok e = subst StopsLoad e once.stops

    err_is : (t : Status) → ◌≡◌ {A = Result (List ℕ) Status} (Err s) (Err t) → s ≡ t
    err_is t e = cc

    -- it ends with this status
    module _ (later : sink1 ≤ sink2) (writes : IfSome left (λ bytes. WhereTold w w2 (WritesLoad asked (loading asked bytes) files files' s sink sink2)))
        (line : IsEarly s → WhereTold w w2 (SaysRefusal s sink sink2)) where
      pub ended_so : LoadEnds asked before after s
      ended_so = record {
        possible = possible_one s once.stops;
        faults = faults_one later s refl once.stops;
        exists_only = if_so files _ _ (λ old there also. there (ap Err also)) once.exists_only;
        exists = if_so files _ _ (λ old there is. let all = there is in (all.0, all.1, (all.2, all.3))) once.exists;
        unread = λ also. once.unread (ap Err also);
        refused = once.loads;
        full = if_so left _ _ (λ bytes full line also. full line (ap Err also)) once.full;
        written = writes;
        refusal = line;
        done = every left _ (λ bytes ok. absurd (not_ok ok));
        complete = if_so files _ _ (λ old there. both_so left _ _ _
            (λ bytes refused room none q1 q2 q3 fits. complete_one bytes old there once.stops refused room none q1 q2 q3 later fits) once.loads once.room) once.exists_only;
        kept = once.kept;
        changes = once.changes;
      }

    -- it ends without memory, whatever was to come
    module _ (writes : IfSome left (λ bytes. WhereTold w w2 (WritesLoad asked (loading asked bytes) files files' status.NoMemory sink sink2))) where
      pub ended_without : LoadEnds asked before after status.NoMemory
      ended_without = record {
        possible = tt;
        faults = tt;
        exists_only = every files _ (λ old also. cc);
        exists = if_so files _ _ (λ old there is. let all = there is in (tt, all.1, (all.2, all.3))) once.exists;
        unread = λ also. cc;
        refused = every left _ (λ bytes. tt);
        full = every left _ (λ bytes line also. cc);
        written = writes;
        refusal = λ h. absurd h;
        done = every left _ (λ bytes ok. cc);
        complete = every files _ (λ old. every left _ (λ bytes none q1 q2 q3 fits. tt));
        kept = tt;
        changes = once.changes;
      }

    early_line : WhereTold w1 w2 (SaysRefusal s sink1 sink2) → IsEarly s → WhereTold w w2 (SaysRefusal s sink sink2)
    early_line says h =
        subst (λ (o : Option (List ℕ)). WhereTold o w2 (SaysRefusal s sink sink2)) (once.early h) (told_so w1 w2 _ _ (says_earlier sink sink1 sink2 once.sink_later s) says)

    memory_says : (x y : List ℕ) → SaysRefusal status.NoMemory sink1 sink2 x y → y ≡ x
    memory_says x y e = e

    -- the line of the status was said
    module _ (later : sink1 ≤ sink2) (sunk : s ≡ status.SinkFault → ⊥) where
      said_so : WhereTold w1 w2 (SaysRefusal s sink1 sink2) → LoadEnds asked before after s
      said_so told =
          ended_so later
          (if_so left _ _ (λ bytes answers. told_then w w1 w2 _ _ _ (λ x y z a says. with_line (loading asked bytes) x y z once.stops a later says sunk) answers told) once.answers)
          (early_line told)

      memory_out : WhereTold w1 w2 (SaysRefusal status.NoMemory sink1 sink2) → LoadEnds asked before after status.NoMemory
      memory_out told =
          ended_without
          (if_so left _ _ (λ bytes answers. told_then w w1 w2 _ _ _
          (λ x y z a says. let p = without_line (loading asked bytes) x y once.stops a sunk in (p.0, p.1, memory_says y z says ∙ p.2)) answers told) once.answers)

      pub refusal_said : (result : Status) → IsOrNoMemory s result → WhereTold w1 w2 (SaysRefusal result sink1 sink2) → LoadEnds asked before after result
      refusal_said result is told = by (either s result is)
        where
          by : (result ≡ s) ⊎ (result ≡ status.NoMemory) → LoadEnds asked before after result
          by (inl e) = subst (λ (t : Status). LoadEnds asked before after t) (sym e) (said_so (subst (λ (t : Status). WhereTold w1 w2 (SaysRefusal t sink1 sink2)) e told))
          by (inr e) = subst (λ (t : Status). LoadEnds asked before after t) (sym e) (memory_out (subst (λ (t : Status). WhereTold w1 w2 (SaysRefusal t sink1 sink2)) e told))
