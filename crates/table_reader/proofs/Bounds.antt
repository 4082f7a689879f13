-- How often a get reads the store, whatever it answers.
use Rattle.std.proofs.Common.{◌≡◌, ℕ, ◌+◌, ◌≤◌, List, length, Option, None, Some, IfSome, Ok, arith, subst, sym}
use Rattle.std.specs.Prelude.{ℤ}
use Rattle.outside.specs.Files.{Files}
use Rattle.index_files.specs.declared.footer.FooterNumbers.{FooterNumbers}
use Rattle.key_types.specs.Columns.{Columns}
use Rattle.table_reader.specs.Gets.{bytes_in, number_in}
use Rattle.table_reader.specs.Reads.{IsAlwaysBounded, IsSeparatorWithin, IsSoundThere, IsWantedWithin, clustering_length}

-- ---- the partition that is found

pub get_within : (fs gs : Option Files) (columns : Columns) (generation : ℕ) (footer : FooterNumbers) (key : List ℕ) (wanted : Option (List ℕ)) (number : ℤ) (first before after : ℕ) → gs ≡ fs
    → IfSome fs (λ m. Ok (Some number) ≡ number_in (bytes_in columns m generation).partitions footer key) → before ≤ first + (length key + 1)
    → IfSome gs (λ m. (most : ℕ) → IsSoundThere (bytes_in columns m generation) number wanted most → after ≤ before + (45 + clustering_length wanted + most))
    → IfSome fs (λ m. IsAlwaysBounded (bytes_in columns m generation) footer key wanted first after)
get_within None gs columns generation footer key wanted number first before after same found l told = tt
get_within (Some m) gs columns generation footer key wanted number first before after same found l told = λ most is.
    let there = subst (λ (o : Option Files). IfSome o (λ m. (most : ℕ) → IsSoundThere (bytes_in columns m generation) number wanted most → after ≤ before + (45 + clustering_length wanted + most))) same told in
    let last = there most (is number (sym found)) in
    omega (arith, last, l)

-- the block isn't found
pub block_lost : (fs : Option Files) (rows : Files → List ℕ) (root : Option ℕ) (wanted : Option (List ℕ)) (key : List ℕ) (first after : ℕ) → wanted ≡ Some key
    → IfSome fs (λ m. (most : ℕ) → IsSeparatorWithin (rows m) root key most → after ≤ first + (length key + 19 + most))
    → IfSome fs (λ m. (most : ℕ) → IsWantedWithin (rows m) root wanted most → after ≤ first + (41 + clustering_length wanted + most))
block_lost None rows root wanted key first after is told = tt
block_lost (Some m) rows root wanted key first after is told =
    subst (λ (w : Option (List ℕ)). (most : ℕ) → IsWantedWithin (rows m) root w most → after ≤ first + (41 + clustering_length w + most)) (sym is)
    (λ most within. let one = told most within in omega (arith, one))

-- what is said of the footer that is loaded
pub loaded_within : (fs : Option Files) (loaded : Option FooterNumbers) (footer : FooterNumbers) (Q : Files → FooterNumbers → Type 0) → loaded ≡ Some footer → IfSome fs (λ m. Q m footer)
    → IfSome fs (λ m. IfSome loaded (λ f. Q m f))
loaded_within None loaded footer Q is told = tt
loaded_within (Some m) loaded footer Q is told = subst (λ (f : Option FooterNumbers). IfSome f (λ x. Q m x)) (sym is) told
