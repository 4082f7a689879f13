-- What a walk has passed, block by block.
use Rattle.std.proofs.Common.{◌≡◌, ◌≢◌, ◌∙◌, ℕ, ◌+◌, Bool, List, [], ◌∷◌, ◌++◌, length, drop, map, Option, None, Some, Ok, refl, sym, ap, subst, arith, append_assoc, inl, inr}
use Rattle.std.proofs.Math.Seq.{drop-append_seam}
use Rattle.std.proofs.lemmas.List.{drop-drop}
use Rattle.std.specs.Prelude.{is_some}
use Rattle.std.specs.declared.cmp.Ordering.TheVariants.{Less}
use Rattle.key_types.specs.Columns.{Columns}
use Rattle.key_types.specs.Table.{string_cmp}
use Rattle.data_file.specs.Listing.{AreRows, Row, end_bytes, head_bytes, row_bytes, rows_bytes, static_part_bytes}
use Rattle.table_files.specs.Standing.{StringsAscend}
use Rattle.data_walk.specs.declared.data_walk.PartitionSum.{PartitionSum}
use Rattle.data_walk.specs.DataWalk.{CountsBlocks, FindsBlock, FindsPartition, HasEntry, Place, StandsRow, behind_first, behind_row}
use Rattle.data_walk.specs.Passed.{PassesPartition}

-- each row is above the one before it, the first above this string
abbrev Above : List ℕ → List Row → Type 0
Above before [] = Unit {0}
Above before (row ∷ rows) = (string_cmp before row.clustering ≡ Less) × Above row.clustering rows

ascending : (before : List ℕ) (rows : List Row) → Above before rows → StringsAscend (map (λ (row : Row). row.clustering) rows)
ascending before [] above = tt
ascending before (row ∷ []) above = tt
ascending before (row ∷ next ∷ rows) above = (above.1.0, ascending row.clustering (next ∷ rows) above.1)

module _ (columns : Columns) (file : List ℕ) where
  -- rows that stand between two places
  record PassesRows (place place' : Place) (between : List ℕ) : Type 0 where
    pub rows : List Row
    pub are : AreRows columns rows
    pub above : Above place.row rows
    pub stands : drop place.at file ≡ rows_bytes rows ++ (between ++ drop place'.at file)
    pub key : place'.key ≡ place.key
    pub head : place'.head ≡ place.head
    pub count : place'.rows ≡ place.rows + length rows

  pub behind_it : (at : ℕ) (front rest : List ℕ) → drop at file ≡ front ++ rest → drop (at + length front) file ≡ rest
  behind_it at front rest e = sym (drop-drop (length front) at file) ∙ ap (drop (length front)) e ∙ drop-append_seam front rest

  -- a row before others
  one_more : (place next place' : Place) (row : Row) (between : List ℕ) → StandsRow columns file place row → next.at ≡ place.at + length (row_bytes row.clustering row.value) → next.row ≡ row.clustering
      → next.key ≡ place.key → next.head ≡ place.head → next.rows ≡ place.rows + 1 → PassesRows next place' between → PassesRows place place' between
  one_more place next place' row between ((is, (rest, e)), above) at last key head rows p =
      let there : drop next.at file ≡ rest = ap (λ (n : ℕ). drop n file) at ∙ behind_it place.at (row_bytes row.clustering row.value) rest e in
      record {
        rows = row ∷ p.rows;
        are = (is, p.are);
        above = (above, subst (λ (b : List ℕ). Above b p.rows) last p.above);
        stands = e ∙ ap (λ (r : List ℕ). row_bytes row.clustering row.value ++ r) (sym there ∙ p.stands)
            ∙ sym (append_assoc (row_bytes row.clustering row.value) (rows_bytes p.rows) (between ++ drop place'.at file));
        key = p.key ∙ key;
        head = p.head ∙ head;
        count = omega (arith, p.count, rows);
      }

  -- rows up to a block, before others
  to_block : (place next place' : Place) (offset : ℕ) (between : List ℕ) → FindsBlock columns file place next (Ok (Some offset)) → PassesRows next place' between → PassesRows place place' between
  to_block _ _ place' offset between (FindsBlock.row place next row result stands same finds) p =
      one_more place (behind_row place row) place' row between stands refl refl refl refl refl (to_block (behind_row place row) next place' offset between finds p)
  to_block _ _ place' offset between (FindsBlock.block place row stands begins) p =
      one_more place (behind_first place row) place' row between stands refl refl refl refl refl p

  to_end : (place place' : Place) → FindsBlock columns file place place' (Ok None) → PassesRows place place' (0 ∷ [])
  to_end _ _ (FindsBlock.row place place' row result stands same finds) =
      one_more place (behind_row place row) place' row (0 ∷ []) stands refl refl refl refl refl (to_end (behind_row place row) place' finds)
  to_end _ _ (FindsBlock.ends place (rest, e)) =
      record {
        rows = [];
        are = tt;
        above = tt;
        key = refl;
        head = refl;
        count = omega arith;
        stands = e ∙ ap (λ (r : List ℕ). 0 ∷ r) (sym (behind_it place.at (0 ∷ []) rest e));
      }

  counted : (n blocks : ℕ) (place place' : Place) → CountsBlocks columns file n place place' (Ok blocks) → PassesRows place place' (0 ∷ [])
  counted _ blocks _ _ (CountsBlocks.block n offset place next place' result found counts) =
      to_block place next place' offset (0 ∷ []) found (counted (n + 1) blocks next place' counts)
  counted _ _ _ _ (CountsBlocks.ends n place place' found) = to_end place place' found

  regroup : (h s r e t : List ℕ) → (h ++ s) ++ (r ++ (e ++ t)) ≡ (h ++ (s ++ (r ++ e))) ++ t
  regroup h s r e t =
      append_assoc h s (r ++ (e ++ t)) ∙ ap (λ (x : List ℕ). h ++ x) (ap (λ (x : List ℕ). s ++ x) (sym (append_assoc r e t)) ∙ sym (append_assoc s (r ++ e) t))
      ∙ sym (append_assoc h (s ++ (r ++ e)) t)

  some_row : (static_part : Option (List ℕ)) (has : Bool) (n : ℕ) (rows : List Row) → has ≡ is_some static_part → n ≡ length rows → HasEntry has n → static_part ≡ None → rows ≢ []
  some_row static_part has n rows is size (inl so) none = λ e. let apart = sym so ∙ is ∙ ap is_some none in cc
  some_row static_part has n rows is size (inr few) none = λ e. absurd (omega (arith, ap length e))

  pub passes_partition : (place place' : Place) (sum : PartitionSum) → FindsPartition columns file place place' (Ok (Some sum)) → PassesPartition columns file place place' sum
  passes_partition _ _ _ (FindsPartition.passes place inside place' has_static blocks (key, static_part, (string, fits, (rest, e), above), has, is) counts some) =
      let static = columns.static_value in
      let front : List ℕ = head_bytes key ++ static_part_bytes static static_part in
      let p = counted 1 blocks inside place' counts in
      let there : drop inside.at file ≡ rest = ap (λ (q : Place). drop q.at file) is ∙ behind_it place.at front rest e in
      let size : place'.rows ≡ length p.rows = omega (arith, p.count, ap (λ (q : Place). q.rows) is) in
      record {
        partition = record { key = key; static_part = static_part; rows = p.rows };
        is = (string, fits, p.are, tt);
        stands = e ∙ ap (λ (r : List ℕ). front ++ r) (sym there ∙ p.stands) ∙ regroup (head_bytes key) (static_part_bytes static static_part) (rows_bytes p.rows) end_bytes (drop place'.at file);
        above = above;
        ascend = (some_row static_part has_static place'.rows p.rows has size some, ascending inside.row p.rows p.above, tt);
        key = p.key ∙ ap (λ (q : Place). q.key) is;
        position = p.head ∙ ap (λ (q : Place). q.head) is;
        rows = size;
      }
