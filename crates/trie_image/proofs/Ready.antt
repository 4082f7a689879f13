-- The words after the stores into a put's new cells, and after the publishing store of one field.
use Rattle.std.proofs.Common.{◌≡◌, ℕ, ◌+◌, ◌*◌, ◌/◌, ◌%◌, ◌^◌, ◌<◌, ◌≤◌, ◌==◌, List, [], ◌∷◌, ◌++◌, length, map, slice_get, slice_index, Some, ap, ◌∙◌, arith, zero, suc}
use Rattle.std.specs.List.{range_with_len}
use Rattle.cell_layout.specs.Words.{with_half_of}
use Rattle.cell_layout.specs.Cells.{record_cells, chain_cells}
use Rattle.trie_image.specs.declared.Owner.{Owner}
use Rattle.trie_image.specs.declared.Owner.TheVariants.{HeadCell, RecordCell}
use Rattle.trie_image.specs.declared.Put.{Put}
use Rattle.trie_image.specs.declared.Ledger.{Ledger}
use Rattle.trie_image.specs.declared.exit.Exit.{Exit}
use Rattle.trie_image.specs.Image.{word_of}
use Rattle.trie_image.specs.Paths.{owner}
use Rattle.trie_image.specs.Cell.{IsImage}
use Rattle.trie_image.specs.Same.{IsSame}
use Rattle.trie_image.specs.Stores.{prepares, first_further, body_words, cost}
use Rattle.trie_image.specs.After.{after}
use Rattle.trie_image.proofs.Owners.{get_front, grown}
use Rattle.trie_image.proofs.Kept.{own_inside}
use Rattle.trie_image.proofs.BodyLengths.{length_body}
use Rattle.trie_image.proofs.CellWords.{Stands}
use Rattle.trie_image.proofs.NewChains.{chain_owners, get_back}
use Rattle.trie_image.proofs.NewOwners.{first_owners}
use Rattle.trie_image.proofs.NewCells.{record_owners}
use Rattle.trie_image.proofs.HomeStores.{stored_field}
use Rattle.trie_image.proofs.Turned.{Turned}
use Rattle.trie_image.proofs.Stored.{length-prepared, before_prepared, cells_stand}
use Rattle.trie_image.proofs.Prepared.{same_prepared}
use Rattle.trie_image.proofs.Left.{SameBelow, turned_by, still_stand}

module _ (w : List ℕ) (g : Ledger) (cells : ℕ) (key value : List ℕ) (ok : IsImage w g cells) (capacity : length g.owners + cost (length key) (length value) ≤ cells) (e : Exit) (rest : List ℕ) (b : ℕ) (short : length rest ≤ length key) where
  abbrev pub body : List ℕ
  body = body_words w (length g.owners) (slice_index w 0 + 1) value rest e b

  -- the words after the stores into the new cells
  abbrev pub ready : List ℕ
  ready = after w (prepares (4 * length g.owners) body)

  pub first_cell : 1 ≤ length g.owners
  first_cell = own_inside g.owners 0 HeadCell ok.head

  pub few : length g.owners < 2 ^ 31
  few = omega (arith, ok.small)

  pub further_near : first_further (length g.owners) value rest + 16 ≤ 2 ^ 22
  further_near = omega (arith, ok.small)

  fits_in : 4 * length g.owners + length body ≤ length w
  fits_in = omega (arith, length_body w (length g.owners) (slice_index w 0 + 1) value rest e b, ok.size)

  pub below : SameBelow w ready (length g.owners)
  below i l = before_prepared w (4 * length g.owners) i body l

  pub same : IsSame w ready g
  same = same_prepared w g (4 * length g.owners) body ok.head (omega arith)

  pub stands : Stands ready (length g.owners) body
  stands = cells_stand w (length g.owners) body fits_in

  pub long : 4 * length g.owners ≤ length ready
  long = let h = length-prepared w (4 * length g.owners) body in omega (arith, h, fits_in)

  -- and after the store of a pointer in a field
  module _ (cell place p' : ℕ) (inside : cell < length g.owners) (small : place < 8) (fits : p' < 2 ^ 32) where
    pub turned : Turned w (stored_field ready cell place p') (length g.owners) cell place p'
    turned = turned_by w ready (length g.owners) cell place p' below inside small fits long

    pub stands_after : Stands (stored_field ready cell place p') (length g.owners) body
    stands_after = still_stand ready (length g.owners) (4 * cell + place / 2) (with_half_of (word_of ready cell (place / 2)) (place % 2 == 1) p') body (omega arith) stands

-- the cells of the record have their owners
pub owned_record : (g : Ledger) (value start rest : List ℕ) (more : List Owner) (put : Put) (j : ℕ) → j < record_cells (length value) → owner (grown g (first_owners (length g.puts) value start rest ++ more) (put ∷ [])) (length g.owners + j) ≡ Some (RecordCell (length g.puts) j)
owned_record g value start rest more put j l = get_back g.owners (first_owners (length g.puts) value start rest ++ more) j (RecordCell (length g.puts) j)
    (get_front (record_owners (length g.puts) (record_cells (length value)) ++ chain_owners (chain_cells (length rest)) start rest) more j (RecordCell (length g.puts) j)
    (get_front (record_owners (length g.puts) (record_cells (length value))) (chain_owners (chain_cells (length rest)) start rest) j (RecordCell (length g.puts) j) (nth 0 (record_cells (length value)) j l ∙ (let z : 0 + j ≡ j = omega arith in ap (λ (x : ℕ). Some (RecordCell (length g.puts) x)) z))))
  where
    nth : (a k j : ℕ) → j < k → slice_get (map (λ i. RecordCell (length g.puts) i) (range_with_len a k)) j ≡ Some (RecordCell (length g.puts) (a + j))
    nth a zero j l = absurd (omega arith)
    nth a (suc k) zero l = let z : a ≡ a + 0 = omega arith in ap (λ (x : ℕ). Some (RecordCell (length g.puts) x)) z
    nth a (suc k) (suc j) l = let z : a + 1 + j ≡ a + suc j = omega arith in nth (a + 1) k j (omega arith) ∙ ap (λ (x : ℕ). Some (RecordCell (length g.puts) x)) z
