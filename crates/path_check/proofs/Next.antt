-- What a walk through a trie finds next, as the checks tell it.
use Rattle.std.proofs.Common.{◌≡◌, ◌∙◌, ℕ, List, [], Option, None, Some, IfSome, Result, Ok, Err, refl, ap, sym, subst}
use Rattle.outside.specs.Files.{Files, bytes_of}
use Rattle.outside.specs.declared.store.Part.{Part}
use Rattle.bti_nodes.specs.Trie.{Path, Wrong}
use Rattle.data_file.specs.declared.reading.DataError.{DataError}
use Rattle.data_file.specs.declared.reading.DataError.TheVariants as data_error
use Rattle.bti_reader.specs.declared.way.PathHit.{PathHit}
use Rattle.bti_reader.specs.Searches.{Answer}
use Rattle.bti_reader.specs.Steps.{SearchAnswers, damage_of, payload_number}
use Rattle.bti_reader.specs.Walks.{FindsPath, last_given, next_in, next_of, path_answer}
use Rattle.bti_reader.specs.Ways.{Progress}
use Rattle.data_walk.specs.declared.refusal.Refusal.{Refusal}
use Rattle.data_walk.specs.declared.refusal.Refusal.TheVariants.{Unread}
use Rattle.data_walk.specs.declared.clash.Clash.TheVariants as clash
use Rattle.data_walk.specs.Refusals.{clash_at}
use Rattle.path_check.specs.Paths.{EndsPaths, GivesPath, LacksPath}

-- ---- from what a call gives back to what the search finds

abbrev hit_of : Part → Path → PathHit
hit_of part p = record { path = p.path; node = p.node; number = payload_number part p.payload }

path_of_answer : (part : Part) (a : Answer) (hit : PathHit) → path_answer part [] a ≡ Ok (Some hit) → (found : Path) × (a ≡ Ok (Some found)) × (hit ≡ hit_of part found)
path_of_answer part (Err w) hit e = cc
path_of_answer part (Ok None) hit e = cc
path_of_answer part (Ok (Some p)) hit e = let same : hit_of part p ≡ hit = cc in (p, refl, sym same)

no_path_of_answer : (part : Part) (a : Answer) → path_answer part [] a ≡ Ok None → a ≡ Ok None
no_path_of_answer part (Err w) e = cc
no_path_of_answer part (Ok None) e = refl
no_path_of_answer part (Ok (Some p)) e = cc

wrong_of_answer : (part : Part) (a : Answer) (e : DataError) → path_answer part [] a ≡ Err e → (w : Wrong) × (a ≡ Err w) × (e ≡ damage_of part w)
wrong_of_answer part (Err w) e is = let same : damage_of part w ≡ e = cc in (w, refl, sym same)
wrong_of_answer part (Ok None) e is = cc
wrong_of_answer part (Ok (Some p)) e is = cc

-- ---- the same over the files

module _ (part : Part) (root : ℕ) (walk : Progress) (same_part : walk.file.part ≡ part) (same_root : walk.root ≡ root) where
  there : (P : ℕ → Part → Type 0) → P walk.root walk.file.part → P root part
  there P p = subst (λ (q : Part). P root q) same_part (subst (λ (n : ℕ). P n walk.file.part) same_root p)

  pub gives_path : (files : Option Files) (given : Option (List ℕ)) (hit : PathHit) → FindsPath files walk.file [] (next_of walk) (Ok (Some hit))
      → given ≡ Some hit.path → IfSome files (λ m. GivesPath part (bytes_of m walk.file) root (last_given walk.way) given (Ok hit))
  gives_path None given hit finds is = tt
  gives_path (Some m) given hit finds is =
      let bytes : List ℕ = bytes_of m walk.file in
      let (found, answer, same) = path_of_answer walk.file.part (next_of walk bytes) hit finds in
      there (λ n q. GivesPath q bytes n (last_given walk.way) given (Ok hit)) (found, answer, is ∙ ap (λ (h : PathHit). Some h.path) same, same)

  pub misses_path : (files : Option Files) (e : Refusal) → FindsPath files walk.file [] (next_of walk) (Ok None) → e ≡ clash_at part root clash.Path
      → IfSome files (λ m. LacksPath part (bytes_of m walk.file) root (last_given walk.way) e)
  misses_path None e finds is = tt
  misses_path (Some m) e finds is =
      let bytes : List ℕ = bytes_of m walk.file in
      subst (λ (x : Refusal). LacksPath part bytes root (last_given walk.way) x) (sym is)
      (there (λ n q. LacksPath q bytes n (last_given walk.way) (clash_at q n clash.Path)) (LacksPath.missing (no_path_of_answer walk.file.part (next_of walk bytes) finds)))

  lacks : (bytes : List ℕ) (e : DataError) → SearchAnswers {A = Option PathHit} (Err e) (path_answer walk.file.part [] (next_of walk bytes))
      → LacksPath walk.file.part bytes walk.root (last_given walk.way) (Unread e)
  lacks bytes data_error.StoreFault answers = LacksPath.fault (Unread data_error.StoreFault) tt
  lacks bytes data_error.NoMemory answers = LacksPath.fault (Unread data_error.NoMemory) tt
  lacks bytes (data_error.Damaged damage) answers =
      let (w, answer, same) = wrong_of_answer walk.file.part (next_of walk bytes) (data_error.Damaged damage) answers in
      subst (λ (x : DataError). LacksPath walk.file.part bytes walk.root (last_given walk.way) (Unread x)) (sym same) (LacksPath.damaged w answer)

  pub refuses_path : (files : Option Files) (e : DataError) → FindsPath files walk.file [] (next_of walk) (Err e)
      → IfSome files (λ m. LacksPath part (bytes_of m walk.file) root (last_given walk.way) (Unread e))
  refuses_path None e finds = tt
  refuses_path (Some m) e finds =
      let bytes : List ℕ = bytes_of m walk.file in
      there (λ n q. LacksPath q bytes n (last_given walk.way) (Unread e)) (lacks bytes e finds)

  -- ---- the end of the paths

  pub ends_paths : (files : Option Files) → FindsPath files walk.file [] (next_of walk) (Ok None)
      → IfSome files (λ m. EndsPaths part (bytes_of m walk.file) root (last_given walk.way) (Ok tt))
  ends_paths None finds = tt
  ends_paths (Some m) finds =
      let bytes : List ℕ = bytes_of m walk.file in
      there (λ n q. EndsPaths q bytes n (last_given walk.way) (Ok tt)) (EndsPaths.ends (no_path_of_answer walk.file.part (next_of walk bytes) finds))

  pub exceeds_paths : (files : Option Files) (hit : PathHit) (e : Refusal) → FindsPath files walk.file [] (next_of walk) (Ok (Some hit)) → e ≡ clash_at part hit.node clash.Path
      → IfSome files (λ m. EndsPaths part (bytes_of m walk.file) root (last_given walk.way) (Err e))
  exceeds_paths None hit e finds is = tt
  exceeds_paths (Some m) hit e finds is =
      let bytes : List ℕ = bytes_of m walk.file in
      let (found, answer, same) = path_of_answer walk.file.part (next_of walk bytes) hit finds in
      subst (λ (x : Refusal). EndsPaths part bytes root (last_given walk.way) (Err x)) (sym (is ∙ ap (λ (h : PathHit). clash_at part h.node clash.Path) same))
      (there (λ n q. EndsPaths q bytes n (last_given walk.way) (Err (clash_at q found.node clash.Path))) (EndsPaths.more found answer))

  ends_lacking : (bytes : List ℕ) (e : DataError) → SearchAnswers {A = Option PathHit} (Err e) (path_answer walk.file.part [] (next_of walk bytes))
      → EndsPaths walk.file.part bytes walk.root (last_given walk.way) (Err (Unread e))
  ends_lacking bytes data_error.StoreFault answers = EndsPaths.fault (Unread data_error.StoreFault) tt
  ends_lacking bytes data_error.NoMemory answers = EndsPaths.fault (Unread data_error.NoMemory) tt
  ends_lacking bytes (data_error.Damaged damage) answers =
      let (w, answer, same) = wrong_of_answer walk.file.part (next_of walk bytes) (data_error.Damaged damage) answers in
      subst (λ (x : DataError). EndsPaths walk.file.part bytes walk.root (last_given walk.way) (Err (Unread x))) (sym same) (EndsPaths.damaged w answer)

  pub refuses_end : (files : Option Files) (e : DataError) → FindsPath files walk.file [] (next_of walk) (Err e)
      → IfSome files (λ m. EndsPaths part (bytes_of m walk.file) root (last_given walk.way) (Err (Unread e)))
  refuses_end None e finds = tt
  refuses_end (Some m) e finds =
      let bytes : List ℕ = bytes_of m walk.file in
      there (λ n q. EndsPaths q bytes n (last_given walk.way) (Err (Unread e))) (ends_lacking bytes e finds)
