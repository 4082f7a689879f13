-- The paths that follow in a trie, and what is refused beside them.
use Rattle.std.proofs.Common.{◌≡◌, ◌∙◌, ℕ, List, [], ◌∷◌, Option, None, Some, Result, Ok, Err, refl, sym, subst}
use Rattle.outside.specs.declared.store.Part.{Part}
use Rattle.bti_nodes.specs.Trie.{Path, Paths, Wrong, paths}
use Rattle.bti_reader.specs.Searches.{Answer}
use Rattle.bti_reader.specs.Walks.{Given, next_in}
use Rattle.bti_reader.proofs.Whole.{walk_is_whole}
use Rattle.data_walk.specs.declared.refusal.Refusal.{Refusal}
use Rattle.data_walk.specs.Refusals.{IsFault}
use Rattle.path_check.specs.Paths.{EndsPaths, LacksPath}

-- an answer isn't two things
same : (a x y : Answer) → a ≡ x → a ≡ y → x ≡ y
same a x y e f = sym e ∙ f

one_path : (a : Answer) (p q : Path) → a ≡ Ok (Some p) → a ≡ Ok (Some q) → p ≡ q
one_path a p q e f = let both = same a (Ok (Some p)) (Ok (Some q)) e f in cc

no_path : (a : Answer) (p : Path) → a ≡ Ok None → a ≡ Ok (Some p) → ⊥
no_path a p e f = let both = same a (Ok None) (Ok (Some p)) e f in cc

not_wrong : (a : Answer) (found : Option Path) (wrong : Wrong) → a ≡ Ok found → a ≡ Err wrong → ⊥
not_wrong a found wrong e f = let both = same a (Ok found) (Err wrong) e f in cc

module _ (file : List ℕ) (root : ℕ) where
  -- these are all paths behind the last one, and this is so of them
  pub record Follow (last : Option (List ℕ)) (Are : List Path → Type 0) : Type 0 where
    pub all : List Path
    pub given : Given file root last all
    pub are : Are all

  -- the path that is had is the first of them
  pub first_follows : (last : Option (List ℕ)) (Are : List Path → Type 0) (found : Path) → next_in file root last ≡ Ok (Some found) → (Are [] → ⊥)
      → Follow last Are → Follow (Some found.path) (λ more. Are (found ∷ more))
  first_follows last Are found next some f = by f.all f.given f.are
    where
      by : (all : List Path) → Given file root last all → Are all → Follow (Some found.path) (λ more. Are (found ∷ more))
      by [] given are = absurd (some are)
      by (p ∷ more) given are =
          subst (λ (q : Path). Follow (Some q.path) (λ more. Are (q ∷ more))) (one_path (next_in file root last) p found given.0 next) (record { all = more; given = given.1; are = are })

  -- where some follow, none is lacked but by a fault
  pub some_follow : (part : Part) (last : Option (List ℕ)) (Are : List Path → Type 0) (e : Refusal) → (Are [] → ⊥) → LacksPath part file root last e
      → Follow last Are → IsFault e
  some_follow part last Are e some lacks f = by e f.all f.given f.are lacks
    where
      by : (x : Refusal) (all : List Path) → Given file root last all → Are all → LacksPath part file root last x → IsFault x
      by x [] given are lacks = absurd (some are)
      by _ (p ∷ more) given are (LacksPath.missing none) = absurd (no_path (next_in file root last) p none given.0)
      by _ (p ∷ more) given are (LacksPath.damaged wrong is) = absurd (not_wrong (next_in file root last) (Some p) wrong given.0 is)
      by _ (p ∷ more) given are (LacksPath.fault x fault) = fault

  -- where none follow, nothing is refused at the end but a fault
  pub none_follow : (part : Part) (last : Option (List ℕ)) (Are : List Path → Type 0) (e : Refusal) → ((p : Path) (more : List Path) → Are (p ∷ more) → ⊥)
      → EndsPaths part file root last (Err e) → Follow last Are → IsFault e
  none_follow part last Are e none refused f = by e f.all f.given f.are refused
    where
      by : (x : Refusal) (all : List Path) → Given file root last all → Are all → EndsPaths part file root last (Err x) → IsFault x
      by x (p ∷ more) given are refused = absurd (none p more are)
      by _ [] given are (EndsPaths.more found next) = absurd (no_path (next_in file root last) found given next)
      by _ [] given are (EndsPaths.damaged wrong is) = absurd (not_wrong (next_in file root last) None wrong given is)
      by _ [] given are (EndsPaths.fault x fault) = fault

  -- all paths of the trie follow at its start
  pub whole_is : (Means : Paths → Type 0) → Follow None (λ all. Means (Ok all)) → Means (paths file root)
  whole_is Means f = subst Means (sym ((walk_is_whole file root f.all).ended f.given)) f.are

  pub whole_follows : (Means : Paths → Type 0) → ((wrong : Wrong) → Means (Err wrong) → ⊥) → Means (paths file root) → Follow None (λ all. Means (Ok all))
  whole_follows Means right means = by (paths file root) refl means
    where
      by : (p : Paths) → paths file root ≡ p → Means p → Follow None (λ all. Means (Ok all))
      by (Err wrong) is means = absurd (right wrong means)
      by (Ok all) is means = record { all = all; given = (walk_is_whole file root all).given is; are = means }
