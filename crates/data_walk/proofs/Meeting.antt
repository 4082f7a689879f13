-- What a walk meets inside a partition of which is known what lies ahead.
use Rattle.std.proofs.Common.{◌≡◌, ◌∙◌, ℕ, ◌+◌, ◌-◌, ◌≤◌, Bool, true, false, List, [], ◌∷◌, ◌++◌, length, drop, map, Option, None, Some, Result, Ok, Err, refl, sym, ap, subst, arith, append_assoc, length-append}
use Rattle.std.proofs.lemmas.Bool.Decides.{nat_tests}
use Rattle.std.specs.Prelude.{if◌then◌else◌, nat_le}
use Rattle.std.specs.declared.cmp.Ordering.TheVariants.{Less}
use Rattle.key_types.specs.Columns.{Columns}
use Rattle.key_types.specs.Table.{string_cmp}
use Rattle.data_file.specs.Listing.{Row, end_bytes, row_bytes, rows_bytes}
use Rattle.data_file.specs.Reading.{BeginsRow}
use Rattle.data_file.proofs.Unique.{row_front}
use Rattle.row_index.specs.Entries.{Block}
use Rattle.row_index.specs.Writing.{block_of}
use Rattle.table_files.specs.Blocks.{blocks_behind, ends_block}
use Rattle.table_files.specs.Standing.{StringsAscend}
use Rattle.data_walk.specs.declared.refusal.Refusal.{Refusal}
use Rattle.data_walk.specs.Refusals.{IsFault}
use Rattle.data_walk.specs.Ahead.{BlocksAhead, BlocksAreMet, MeetsBlock, RowsAhead, blocks_from}
use Rattle.data_walk.specs.DataWalk.{FindsBlock, IsPlace, Place, StopsAtRow, begins_block, behind_first, behind_row}
use Rattle.data_walk.proofs.Passing.{behind_it}

-- ---- whether a row begins a block

same_test : (head block at : ℕ) → head ≤ block → block ≤ at → ends_block (block - head) (at - head) ≡ ends_block block at
same_test head block at low high = by (nat_le (block - head + 16384) (at - head)) (nat_le (block + 16384) at) refl refl
  where
    by : (p q : Bool) → nat_le (block - head + 16384) (at - head) ≡ p → nat_le (block + 16384) at ≡ q → p ≡ q
    by true true e f = refl
    by false false e f = refl
    by true false e f = absurd (grind (arith, nat_tests))
    by false true e f = absurd (grind (arith, nat_tests))

-- the blocks behind a row, where none begins there, and where one does
none_begun : (start end_ n : ℕ) (before : List ℕ) (row : Row) (rows : List Row) → ends_block start end_ ≡ false → n ≡ end_ + length (row_bytes row.clustering row.value)
    → blocks_behind start before end_ (row ∷ rows) ≡ blocks_behind start row.clustering n rows
none_begun start end_ n before row rows e size =
    let back = sym size in
    λ i. (if e i then block_of before row.clustering end_ ∷ [] else []) ++ blocks_behind (if e i then end_ else start) row.clustering (back i) rows

one_begun : (start end_ n : ℕ) (before : List ℕ) (row : Row) (rows : List Row) → ends_block start end_ ≡ true → n ≡ end_ + length (row_bytes row.clustering row.value)
    → blocks_behind start before end_ (row ∷ rows) ≡ block_of before row.clustering end_ ∷ blocks_behind end_ row.clustering n rows
one_begun start end_ n before row rows e size =
    let back = sym size in
    λ i. (if e i then block_of before row.clustering end_ ∷ [] else []) ++ blocks_behind (if e i then end_ else start) row.clustering (back i) rows

-- what is so of blocks behind a row with a string is so of those from a place behind it
some_behind : (place : Place) (row : List ℕ) (rows : List Row) → string_cmp [] row ≡ Less
    → blocks_from place row rows ≡ blocks_behind (place.block - place.head) row (place.at - place.head) rows
some_behind place [] rows low = cc
some_behind place (b ∷ row) rows low = refl

-- nothing is below the empty string
pub low_some : (a b : List ℕ) → string_cmp a b ≡ Less → string_cmp [] b ≡ Less
low_some [] b low = low
low_some (x ∷ a) [] low = cc
low_some (x ∷ a) (y ∷ b) low = refl

-- a row of the same block
from_row : (place : Place) (key : List ℕ) (row : Row) (rows : List Row) → IsPlace place → (key ≡ [] → place.block ≡ place.head) → string_cmp key row.clustering ≡ Less
    → begins_block key place.block place.at ≡ false → blocks_from place key (row ∷ rows) ≡ blocks_from (behind_row place row) row.clustering rows
from_row place [] row rows is start above same =
    let size : ℕ = length (row_bytes row.clustering row.value) in
    let first : 0 ≡ place.block - place.head = omega (arith, start refl) in
    let on : (place.at - place.head) + size ≡ (place.at + size) - place.head = omega (arith, is.head, is.block) in
    ap (λ (n : ℕ). blocks_behind 0 row.clustering n rows) on ∙ ap (λ (n : ℕ). blocks_behind n row.clustering ((place.at + size) - place.head) rows) first
    ∙ sym (some_behind (behind_row place row) row.clustering rows above)
from_row place (b ∷ key) row rows is start above same =
    let size : ℕ = length (row_bytes row.clustering row.value) in
    let on : (place.at + size) - place.head ≡ (place.at - place.head) + size = omega (arith, is.head, is.block) in
    none_begun (place.block - place.head) (place.at - place.head) ((place.at + size) - place.head) (b ∷ key) row rows (same_test place.head place.block place.at is.head is.block ∙ same) on
    ∙ sym (some_behind (behind_row place row) row.clustering rows (low_some (b ∷ key) row.clustering above))

-- the first row of another block
from_first : (place : Place) (key : List ℕ) (row : Row) (rows : List Row) → IsPlace place → string_cmp key row.clustering ≡ Less → begins_block key place.block place.at ≡ true
    → blocks_from place key (row ∷ rows) ≡ block_of key row.clustering (place.at - place.head) ∷ blocks_from (behind_first place row) row.clustering rows
from_first place [] row rows is above another = cc
from_first place (b ∷ key) row rows is above another =
    let size : ℕ = length (row_bytes row.clustering row.value) in
    let on : (place.at + size) - place.head ≡ (place.at - place.head) + size = omega (arith, is.head, is.block) in
    one_begun (place.block - place.head) (place.at - place.head) ((place.at + size) - place.head) (b ∷ key) row rows (same_test place.head place.block place.at is.head is.block ∙ another) on
    ∙ ap (λ (bs : List Block). block_of (b ∷ key) row.clustering (place.at - place.head) ∷ bs) (sym (some_behind (behind_first place row) row.clustering rows (low_some (b ∷ key) row.clustering above)))

module _ (columns : Columns) (file : List ℕ) where
  -- ---- one row

  -- rows ahead, grouped
  row_ahead : (place : Place) (row : Row) (rows : List Row) (rest : List ℕ) → RowsAhead columns file place (row ∷ rows) rest
      → drop place.at file ≡ row_bytes row.clustering row.value ++ (rows_bytes rows ++ 0 ∷ rest)
  row_ahead place row rows rest h = h.stands ∙ append_assoc (row_bytes row.clustering row.value) (rows_bytes rows) (0 ∷ rest)

  -- the row that stands there is the first one ahead
  same_row : (place : Place) (row other : Row) (rows : List Row) (rest : List ℕ) → RowsAhead columns file place (row ∷ rows) rest
      → BeginsRow columns (drop place.at file) other.clustering other.value → row ≡ other
  same_row place row other rows rest h (is, (more, e)) =
      let fronts = row_front row.clustering row.value (rows_bytes rows ++ 0 ∷ rest) other.clustering other.value more (sym (row_ahead place row rows rest h) ∙ e) in
      λ i. record { clustering = fronts.0 i; value = fronts.1 i }

  -- behind it the others are ahead
  others_ahead : (place next : Place) (row : Row) (rows : List Row) (rest : List ℕ) → RowsAhead columns file place (row ∷ rows) rest
      → next.at ≡ place.at + length (row_bytes row.clustering row.value) → next.row ≡ row.clustering → IsPlace next → RowsAhead columns file next rows rest
  others_ahead place next row rows rest h at last is =
      record {
        is = is;
        start = λ none. let low : string_cmp place.row [] ≡ Less = subst (λ (k : List ℕ). string_cmp place.row k ≡ Less) (sym last ∙ none) h.above.0 in absurd (never place.row low);
        are = h.are.1;
        above = subst (λ (k : List ℕ). StringsAscend (k ∷ map (λ (r : Row). r.clustering) rows)) (sym last) h.above.1;
        stands = ap (λ (n : ℕ). drop n file) at ∙ behind_it columns file place.at (row_bytes row.clustering row.value) (rows_bytes rows ++ 0 ∷ rest) (row_ahead place row rows rest h);
      }
    where
      never : (k : List ℕ) → string_cmp k [] ≡ Less → ⊥
      never [] low = cc
      never (x ∷ k) low = cc

  place_behind : (place : Place) (row : Row) → IsPlace place → IsPlace (behind_row place row)
  place_behind place row is = record { head = is.head; block = omega (arith, is.block); rows = omega (arith, is.rows) }

  place_first : (place : Place) (row : Row) → IsPlace place → IsPlace (behind_first place row)
  place_first place row is = record { head = omega (arith, is.head, is.block); block = omega arith; rows = omega (arith, is.rows) }

  -- the walk stops by a fault alone
  pub stops_by_fault : (place : Place) (rows : List Row) (rest : List ℕ) (e : Refusal) → RowsAhead columns file place rows rest → StopsAtRow columns file place e → IsFault e
  stops_by_fault place [] rest _ h (StopsAtRow.bad none) = absurd (none.1 (rest, h.stands))
  stops_by_fault place (row ∷ rows) rest _ h (StopsAtRow.bad none) = absurd (none.0 row.clustering row.value (h.are.0, (rows_bytes rows ++ 0 ∷ rest, row_ahead place row rows rest h)))
  stops_by_fault place [] rest _ h (StopsAtRow.order other ((is, (more, e)), low)) = let apart : 0 ∷ rest ≡ row_bytes other.clustering other.value ++ more = sym h.stands ∙ e in cc
  stops_by_fault place (row ∷ rows) rest _ h (StopsAtRow.order other (begins, low)) =
      absurd (low (subst (λ (r : Row). string_cmp place.row r.clustering ≡ Less) (same_row place row other rows rest h begins) h.above.0))
  stops_by_fault place rows rest _ h (StopsAtRow.fault e fault) = fault

  -- ---- up to a block

  -- what is known behind the first row of another block, or behind the end
  pub record MeetsFirst (place place' : Place) (rows : List Row) (rest : List ℕ) (offset : ℕ) : Type 0 where
    pub left : List Row
    pub ahead : RowsAhead columns file place' left rest
    pub begin_ : blocks_from place place.row rows ≡ block_of place'.before place'.row offset ∷ blocks_from place' place'.row left
    pub key : place'.key ≡ place.key
    pub head : place'.head ≡ place.head
    pub count : place'.rows + length left ≡ place.rows + length rows
    pub ends : place'.at + length (rows_bytes left) ≡ place.at + length (rows_bytes rows)

  pub record MeetsEnd (place place' : Place) (rows : List Row) : Type 0 where
    pub none : blocks_from place place.row rows ≡ []
    pub key : place'.key ≡ place.key
    pub head : place'.head ≡ place.head
    pub count : place'.rows ≡ place.rows + length rows
    pub ends : place'.at ≡ place.at + length (rows_bytes rows) + 1

  abbrev pub Meets : Place → Place → List Row → List ℕ → Result (Option ℕ) Refusal → Type 0
  Meets place place' rows rest (Ok None) = MeetsEnd place place' rows
  Meets place place' rows rest (Ok (Some offset)) = MeetsFirst place place' rows rest offset
  Meets place place' rows rest (Err e) = IsFault e

  -- a row before what is met
  meets_row : (place place' : Place) (row : Row) (rows : List Row) (rest : List ℕ) (result : Result (Option ℕ) Refusal)
      → blocks_from place place.row (row ∷ rows) ≡ blocks_from (behind_row place row) row.clustering rows
      → Meets (behind_row place row) place' rows rest result → Meets place place' (row ∷ rows) rest result
  meets_row place place' row rows rest (Ok None) same m =
      record {
        none = same ∙ m.none;
        key = m.key;
        head = m.head;
        count = omega (arith, m.count);
        ends = omega (arith, m.ends, length-append (row_bytes row.clustering row.value) (rows_bytes rows));
      }
  meets_row place place' row rows rest (Ok (Some offset)) same m =
      record {
        left = m.left;
        ahead = m.ahead;
        begin_ = same ∙ m.begin_;
        key = m.key;
        head = m.head;
        count = omega (arith, m.count);
        ends = omega (arith, m.ends, length-append (row_bytes row.clustering row.value) (rows_bytes rows));
      }
  meets_row place place' row rows rest (Err e) same m = m

  pub meets : (place place' : Place) (rows : List Row) (rest : List ℕ) (result : Result (Option ℕ) Refusal) → RowsAhead columns file place rows rest
      → FindsBlock columns file place place' result → Meets place place' rows rest result
  meets _ _ [] rest _ h (FindsBlock.row place place' other result ((is, (more, e)), above) same finds) = let apart : 0 ∷ rest ≡ row_bytes other.clustering other.value ++ more = sym h.stands ∙ e in cc
  meets _ _ (row ∷ rows) rest _ h (FindsBlock.row place place' other result (begins, above) same finds) =
      let is : row ≡ other = same_row place row other rows rest h begins in
      let on : FindsBlock columns file (behind_row place row) place' result = subst (λ (r : Row). FindsBlock columns file (behind_row place r) place' result) (sym is) finds in
      let ahead = others_ahead place (behind_row place row) row rows rest h refl refl (place_behind place row h.is) in
      meets_row place place' row rows rest result (from_row place place.row row rows h.is h.start h.above.0 same) (meets (behind_row place row) place' rows rest result ahead on)
  meets _ _ [] rest _ h (FindsBlock.block place other ((is, (more, e)), above) another) = let apart : 0 ∷ rest ≡ row_bytes other.clustering other.value ++ more = sym h.stands ∙ e in cc
  meets _ _ (row ∷ rows) rest _ h (FindsBlock.block place other (begins, above) another) =
      let is : row ≡ other = same_row place row other rows rest h begins in
      subst (λ (r : Row). MeetsFirst place (behind_first place r) (row ∷ rows) rest (place.at - place.head)) is (record {
        left = rows;
        ahead = others_ahead place (behind_first place row) row rows rest h refl refl (place_first place row h.is);
        begin_ = from_first place place.row row rows h.is h.above.0 another;
        key = refl;
        head = refl;
        count = omega arith;
        ends = omega (arith, length-append (row_bytes row.clustering row.value) (rows_bytes rows));
      })
  meets _ _ [] rest _ h (FindsBlock.ends place (more, e)) = record { none = nothing place place.row; key = refl; head = refl; count = omega arith; ends = omega arith }
    where
      nothing : (p : Place) (key : List ℕ) → blocks_from p key [] ≡ []
      nothing p [] = refl
      nothing p (b ∷ key) = refl
  meets _ _ (row ∷ rows) rest _ h (FindsBlock.ends place (more, e)) = let apart : 0 ∷ more ≡ row_bytes row.clustering row.value ++ (rows_bytes rows ++ 0 ∷ rest) = sym e ∙ row_ahead place row rows rest h in cc
  meets _ _ rows rest _ h (FindsBlock.stops place place' e stops) = stops_by_fault place rows rest e h stops

  -- ---- as the law says it

  met_first : (behind : ℕ) (place place' : Place) (blocks : List Block) (offset : ℕ) (h : BlocksAhead columns file behind place blocks) → MeetsFirst place place' h.rows h.rest offset
      → MeetsBlock columns file behind place' (Ok (Some offset)) blocks
  met_first behind place place' [] offset h m = let apart : block_of place'.before place'.row offset ∷ blocks_from place' place'.row m.left ≡ [] = sym m.begin_ ∙ h.begins in cc
  met_first behind place place' (block ∷ blocks) offset h m =
      let both : block_of place'.before place'.row offset ∷ blocks_from place' place'.row m.left ≡ block ∷ blocks = sym m.begin_ ∙ h.begins in
      let one : block_of place'.before place'.row offset ≡ block = cc in
      let rest : blocks_from place' place'.row m.left ≡ blocks = cc in (
        ap (λ (b : Block). b.offset) one,
        ap (λ (b : Block). b.before) one,
        ap (λ (b : Block). b.first) one,
        record { rows = m.left; rest = h.rest; ahead = m.ahead; begins = rest; ends = omega (arith, h.ends, m.ends, length-append (rows_bytes m.left) end_bytes, length-append (rows_bytes h.rows) end_bytes) },
      )

  met_end : (behind : ℕ) (place place' : Place) (blocks : List Block) (h : BlocksAhead columns file behind place blocks) → MeetsEnd place place' h.rows
      → MeetsBlock columns file behind place' (Ok None) blocks
  met_end behind place place' [] h m = omega (arith, h.ends, m.ends, length-append (rows_bytes h.rows) end_bytes)
  met_end behind place place' (block ∷ blocks) h m = let apart : [] ≡ block ∷ blocks = sym m.none ∙ h.begins in cc

  met : (behind : ℕ) (place place' : Place) (blocks : List Block) (result : Result (Option ℕ) Refusal) (h : BlocksAhead columns file behind place blocks) → Meets place place' h.rows h.rest result
      → MeetsBlock columns file behind place' result blocks
  met behind place place' blocks (Ok None) h m = met_end behind place place' blocks h m
  met behind place place' blocks (Ok (Some offset)) h m = met_first behind place place' blocks offset h m
  met behind place place' blocks (Err e) h m = m

pub blocks_are_met : BlocksAreMet
blocks_are_met columns file behind place place' blocks result h finds =
    met columns file behind place place' blocks result h (meets columns file place place' h.rows h.rest result h.ahead finds)
