-- What the searches find where the trie has a meaning.
use Rattle.std.specs.Prelude.{◌≡◌, ℕ, Bool, true, false, List, [], ◌∷◌, ◌++◌, Option, Some, None, Ok, if◌then◌else◌, find, nat_eq}
use Rattle.std.specs.List.{starts_with, AllByRecursion}
use Rattle.std.specs.declared.cmp.Ordering.{Ordering}
use Rattle.std.specs.declared.cmp.Ordering.TheVariants.{Less, Equal, Greater}
use Rattle.std.specs.Ordering.{nat_cmp}
use Rattle.std.specs.Cmp.Lexicographic.{slice_cmp}
use Rattle.bti_nodes.specs.Trie.{Path, paths}
use Rattle.bti_reader.specs.Searches.{first_path, exact_in, floor_in, before_in, ceiling_in, after_in}

-- the first of two paths that is there
abbrev pub or_path : Option Path → Option Path → Option Path
or_path None q = q
or_path (Some p) q = Some p

-- the last path that passes a test
abbrev pub find_last : (Path → Bool) → List Path → Option Path
find_last test [] = None
find_last test (p ∷ ps) = or_path (find_last test ps) (if test p then Some p else None)

-- less, or equal where the key itself counts
abbrev pub is_below : Bool → Ordering → Bool
is_below itself Less = true
is_below itself Equal = itself
is_below itself Greater = false

-- greater, or equal where the key itself counts
abbrev pub is_above : Bool → Ordering → Bool
is_above itself Less = false
is_above itself Equal = itself
is_above itself Greater = true

-- whether a path is a prefix of a key
abbrev pub path_begins : List ℕ → Path → Bool
path_begins key p = starts_with nat_eq key p.path

-- whether it lies below the key, and whether above
abbrev pub path_below : Bool → List ℕ → Path → Bool
path_below itself key p = is_below itself (slice_cmp nat_cmp p.path key)

abbrev pub path_above : Bool → List ℕ → Path → Bool
path_above itself key p = is_above itself (slice_cmp nat_cmp p.path key)

-- where the trie has a meaning: the first path that is a prefix of the key, the greatest that isn't above it, the
-- greatest below it, the least that isn't below it, and the least above it
pub record SearchesFind (file : List ℕ) (root : ℕ) (key : List ℕ) (ps : List Path) : Type 0 where
  pub exact : exact_in file root key ≡ Ok (find (path_begins key) ps)
  pub floor : floor_in file root key ≡ Ok (find_last (path_below true key) ps)
  pub before : before_in file root key ≡ Ok (find_last (path_below false key) ps)
  pub ceiling : ceiling_in file root key ≡ Ok (find (path_above true key) ps)
  pub after : after_in file root key ≡ Ok (find (path_above false key) ps)

-- that is so for every key in every trie that has a meaning
abbrev pub SearchesAreMeaning : Type 0
SearchesAreMeaning =
    (file key : List ℕ) (root : ℕ) (ps : List Path) → paths file root ≡ Ok ps → SearchesFind file root key ps

-- the first path comes before the second in the order of byte strings
abbrev pub IsPathBefore : Path → Path → Type 0
IsPathBefore p q = slice_cmp nat_cmp p.path q.path ≡ Less

-- each path comes before all that follow it
abbrev pub PathsAscend : List Path → Type 0
PathsAscend [] = Unit {0}
PathsAscend (p ∷ ps) = AllByRecursion (IsPathBefore p) ps × PathsAscend ps

-- the first path, where there is one
abbrev pub first_path_of : List Path → Option Path
first_path_of [] = None
first_path_of (p ∷ ps) = Some p

-- where the trie has a meaning, its paths ascend, and one after the other the search for the least path above the last
-- one gives them all
pub record IsOrder (file : List ℕ) (root : ℕ) (ps : List Path) : Type 0 where
  pub ascend : PathsAscend ps
  pub begins : first_path file root ≡ Ok (first_path_of ps)
  pub goes_on : (xs ys : List Path) (p : Path) → ps ≡ xs ++ p ∷ ys → after_in file root p.path ≡ Ok (first_path_of ys)

-- that is so for every trie that has a meaning
abbrev pub PathsAreInOrder : Type 0
PathsAreInOrder = (file : List ℕ) (root : ℕ) (ps : List Path) → paths file root ≡ Ok ps → IsOrder file root ps
