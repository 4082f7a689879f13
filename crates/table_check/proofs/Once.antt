-- A file has one footer at most.
use Rattle.std.proofs.Common.{◌≡◌, ◌∙◌, ℕ, List, [], ◌++◌, length, ap, arith, sym, length-append}
use Rattle.key_types.specs.Columns.{Columns}
use Rattle.length_prefix.specs.Counted.{counted}
use Rattle.length_prefix.proofs.Counts.{counted-same}
use Rattle.index_files.specs.declared.footer.FooterNumbers.{FooterNumbers}
use Rattle.index_files.specs.Footers.{IsFooter, footer_numbers}
use Rattle.index_files.proofs.Footers.{grouped, same_ends, same_fronts}
use Rattle.partition_index.specs.File.{footer, in_eight}
use Rattle.table_reader.proofs.Indexed.{eight_long}

-- the numbers of a footer have twenty-four bytes
pub footer_long : (end_ count root : ℕ) → length (footer end_ count root) ≡ 24
footer_long end_ count root =
    let behind = length-append (in_eight count) (in_eight root) in
    let all = length-append (in_eight end_) (in_eight count ++ in_eight root) in
    omega (arith, all, behind, eight_long end_, eight_long count, eight_long root)

-- what two footers of one file have
pub record IsSame (first first' last last' : List ℕ) (numbers numbers' : FooterNumbers) : Type 0 where
  pub first_is : first ≡ first'
  pub last_is : last ≡ last'
  pub numbers_are : numbers ≡ numbers'

pub footer_once : (columns : Columns) (file first first' last last' : List ℕ) (numbers numbers' : FooterNumbers)
    → IsFooter columns file first last numbers → IsFooter columns file first' last' numbers'
    → IsSame first first' last last' numbers numbers'
footer_once columns file first first' last last' numbers numbers' f g =
    let whole : (f.trie ++ (counted first ++ counted last)) ++ f.end ≡
    (g.trie ++ (counted first' ++ counted last')) ++ g.end =
    sym (f.stands ∙ grouped f.trie (counted first) (counted last) f.end) ∙ g.stands
    ∙ grouped g.trie (counted first') (counted last') g.end in
    let parts = same_ends (f.trie ++ (counted first ++ counted last))
    (g.trie ++ (counted first' ++ counted last')) f.end g.end (f.count ∙ sym g.count) whole in
    let equal : numbers ≡ numbers' = f.read ∙ ap footer_numbers parts.1 ∙ sym g.read in
    let long : length f.trie ≡ length g.trie = f.place ∙ ap (λ (n : FooterNumbers). n.strings) equal ∙ sym g.place in
    let strings = (same_fronts f.trie g.trie (counted first ++ counted last) (counted first' ++ counted last') long
    parts.0).1 in
    let firsts = counted-same first first' (counted last) (counted last') strings in
    let lasts = counted-same last last' [] [] (ap (λ l. l ++ []) firsts.1) in
    record { first_is = firsts.0; last_is = lasts.0; numbers_are = equal }
