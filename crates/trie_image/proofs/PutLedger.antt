-- The ledger after a put, and the image with the new cells, which no pointer reaches yet.
use Rattle.std.proofs.Common.{◌≡◌, ◌≢◌, ℕ, suc, ◌+◌, ◌-◌, ◌/◌, ◌%◌, ◌^◌, ◌<◌, ◌≤◌, ◌==◌, List, [], ◌∷◌, ◌++◌, length, map, filter, slice_index, slice_get, Some, refl, sym, ap, subst, arith, length-append}
use Rattle.std.proofs.lemmas.Bool.{cond_both}
use Rattle.std.specs.List.{range_with_len}
use Rattle.cell_layout.specs.declared.Kind.TheVariants as kind
use Rattle.cell_layout.specs.Pointers.{kind_at}
use Rattle.cell_layout.specs.Cells.{record_cells, record_words, chain_cells, chain_from}
use Rattle.cell_layout.specs.Words.{ItemsAreBytes}
use Rattle.trie_image.specs.declared.Owner.{Owner}
use Rattle.trie_image.specs.declared.Owner.TheVariants.{HeadCell, ChainCell, TopCell, MidCell, LeafCell}
use Rattle.trie_image.specs.declared.Ledger.{Ledger}
use Rattle.trie_image.specs.declared.exit.Stand.{Stand}
use Rattle.trie_image.specs.declared.exit.Meets.{Meets}
use Rattle.trie_image.specs.declared.exit.Meets.TheVariants.{Content, Nothing, OtherByte, End, Sparse, Full, NoLeaf, NoMid, PastContent}
use Rattle.trie_image.specs.declared.exit.Exit.{Exit}
use Rattle.trie_image.specs.Image.{word_of}
use Rattle.trie_image.specs.Paths.{owner, HasPath}
use Rattle.trie_image.specs.Cell.{IsCell, IsImage}
use Rattle.trie_image.specs.Same.{IsSame}
use Rattle.trie_image.specs.Body.{further, seven, has_mid, has_leaf}
use Rattle.trie_image.specs.Stores.{content_of, entry_of, first_further, body_words, cost}
use Rattle.trie_image.proofs.Owners.{grown, path_grown}
use Rattle.trie_image.proofs.Grown.{owner_grown, image_grown}
use Rattle.trie_image.proofs.Kept.{keeps as keeps_image, own_inside}
use Rattle.trie_image.proofs.Costs.{few_hits}
use Rattle.trie_image.proofs.BodyLengths.{length_seven}
use Rattle.trie_image.proofs.CellWords.{Stands, stands_front}
use Rattle.trie_image.proofs.NewChains.{Owns, AreCells, get_back, cells_joined}
use Rattle.trie_image.proofs.NewSplitNode.{mid_owners, leaf_owners, split_node_owners}
use Rattle.trie_image.proofs.NewOwners.{passed_owners, further_owners, first_owners, length_first_owners, own_further, content_path, entry_path, entry_chain, first_cells_are}

-- the ledger after a put: the owners of its record, of the chain of the rest and of the further cells are added, and the put
abbrev pub ledger_after : Ledger → ℕ → List ℕ → List ℕ → List ℕ → List ℕ → List Owner → Ledger
ledger_after g used key value start rest more = grown g (first_owners (length g.puts) value start rest ++ more) (record { key = key; value = value; cell = used } ∷ [])

pub length_sent : (f : ℕ → Owner) (xs : List ℕ) → length (map f xs) ≡ length xs
length_sent f [] = refl
length_sent f (x ∷ xs) = ap (λ (n : ℕ). suc n) (length_sent f xs)

few_passed : (s : Stand) (path : List ℕ) → length (passed_owners s path) ≤ 1
few_passed s path = cond_both (s.at == s.entered) [] (ChainCell (28 - (s.at - s.entered)) path ∷ []) (λ (l : List Owner). length l ≤ 1) (λ e. omega arith) (λ e. omega arith)

pub few_further : (w : List ℕ) (m : Meets) (s : Stand) (path : List ℕ) (b t x : ℕ) → length (further_owners w m s path b t x) ≤ 15
few_further w OtherByte s path b t x = omega (arith, few_passed s path)
few_further w End s path b t x = omega (arith, few_passed s path)
few_further w Full s path b t x = let bytes : List ℕ = seven (word_of w (s.at / 32) 3) b in
    omega (arith, length_append_split_node bytes, few_hits (λ b. b / 64) (seven (word_of w (s.at / 32) 3) b) 0 4, few_hits (λ b. b / 8) (seven (word_of w (s.at / 32) 3) b) 0 32, length_seven (word_of w (s.at / 32) 3) b)
  where
    length_append_split_node : (bytes : List ℕ) → length (split_node_owners bytes x path) ≡ 1 + length (filter (has_mid bytes) (range_with_len 0 4)) + length (filter (has_leaf bytes) (range_with_len 0 32))
    length_append_split_node bytes = omega (
      arith,
      length-append (TopCell path ∷ mid_owners bytes x) (leaf_owners bytes x),
      length_sent (λ i. MidCell x i) (filter (has_mid bytes) (range_with_len 0 4)),
      length_sent (λ k. LeafCell x (k / 8) (k % 8)) (filter (has_leaf bytes) (range_with_len 0 32)),
    )
few_further w NoLeaf s path b t x = omega arith
few_further w NoMid s path b t x = omega arith
few_further w PastContent s path b t x = omega arith
few_further w Content s path b t x = omega arith
few_further w Nothing s path b t x = omega arith
few_further w Sparse s path b t x = omega arith

-- the first words of a put's cells
first_stands : (w w' : List ℕ) (used number : ℕ) (value rest : List ℕ) (e : Exit) (b : ℕ) → Stands w' used (body_words w used number value rest e b) → Stands w' used (record_words number value ++ chain_from (used + record_cells (length value)) (chain_cells (length rest)) rest (content_of used))
unfolding body_words
first_stands w w' used number value rest e b h = stands_front w' used (record_words number value ++ chain_from (used + record_cells (length value)) (chain_cells (length rest)) rest (content_of used)) (further w e.meets e.stand b (first_further used value rest) (content_of used) (entry_of used value rest)) h

-- what the body's stores give: the ledger after the put keeps owners and paths, the new pointers have their paths, and the
-- image has the new cells once the further ones are cells
pub record IsPrepared (w1 : List ℕ) (g : Ledger) (cells used : ℕ) (key value start rest : List ℕ) (more : List Owner) : Type 0 where
  pub keeps : (c : ℕ) (o : Owner) → owner g c ≡ Some o → owner (ledger_after g used key value start rest more) c ≡ Some o
  pub grows : (p : ℕ) (q : List ℕ) → HasPath g p q → HasPath (ledger_after g used key value start rest more) p q
  pub owned : Owns (ledger_after g used key value start rest more) (first_further used value rest) more
  pub at_content : HasPath (ledger_after g used key value start rest more) (content_of used) key
  pub at_entry : HasPath (ledger_after g used key value start rest more) (entry_of used value rest) start
  pub is_chain : rest ≢ [] → kind_at (entry_of used value rest) ≡ Some kind.Chain
  pub few : used ≤ 2 ^ 22
  pub low : 1 ≤ first_further used value rest
  pub near : first_further used value rest + 64 < 2 ^ 26
  pub image : AreCells w1 (ledger_after g used key value start rest more) (first_further used value rest) more → IsImage w1 (ledger_after g used key value start rest more) cells

module _ (w w1 : List ℕ) (g : Ledger) (cells used : ℕ) (key value : List ℕ) (ok : IsImage w g cells) (same : IsSame w w1 g) (taken : length g.owners ≡ used) (counted : length g.puts ≡ slice_index w 0) (start rest : List ℕ) (more : List Owner)
    (few : length more ≤ 15) (capacity : used + cost (length key) (length value) ≤ cells) (short : length rest ≤ length key) (whole : start ++ rest ≡ key) (bytes : ItemsAreBytes rest) where
  low : 1 ≤ used
  low = let l = own_inside g.owners 0 HeadCell ok.head in omega arith

  near : first_further used value rest + 16 ≤ 2 ^ 22
  near = omega (arith, ok.small)

  owned : Owns (ledger_after g used key value start rest more) used (first_owners (length g.puts) value start rest ++ more)
  owned j o e = subst (λ (x : ℕ). owner (ledger_after g used key value start rest more) (x + j) ≡ Some o) taken (get_back g.owners (first_owners (length g.puts) value start rest ++ more) j o e)

  put_there : slice_get (ledger_after g used key value start rest more).puts (length g.puts) ≡ Some record { key = key; value = value; cell = used }
  put_there = let z : length g.puts + 0 ≡ length g.puts = omega arith in subst (λ (k : ℕ). slice_get (g.puts ++ record { key = key; value = value; cell = used } ∷ []) k ≡ Some record { key = key; value = value; cell = used }) z (get_back g.puts (record { key = key; value = value; cell = used } ∷ []) 0 record { key = key; value = value; cell = used } refl)

  own_more : Owns (ledger_after g used key value start rest more) (first_further used value rest) more
  own_more = own_further (ledger_after g used key value start rest more) (length g.puts) used record { key = key; value = value; cell = used } start rest more owned put_there low (omega (arith, near)) whole

  at_content_of : HasPath (ledger_after g used key value start rest more) (content_of used) key
  at_content_of = content_path (ledger_after g used key value start rest more) (length g.puts) used record { key = key; value = value; cell = used } start rest more owned put_there low (omega (arith, near)) whole

  at_entry : HasPath (ledger_after g used key value start rest more) (entry_of used value rest) start
  at_entry = entry_path (ledger_after g used key value start rest more) (length g.puts) used record { key = key; value = value; cell = used } start rest more owned put_there low (omega (arith, near)) whole

  -- the image with the new cells
  new_image : (e : Exit) (b : ℕ) → Stands w1 used (body_words w used (slice_index w 0 + 1) value rest e b) → AreCells w1 (ledger_after g used key value start rest more) (first_further used value rest) more
      → IsImage w1 (ledger_after g used key value start rest more) cells
  new_image e b h are =
      let lengths : length (first_owners (length g.puts) value start rest ++ more) ≡ record_cells (length value) + chain_cells (length rest) + length more = omega (arith, length-append (first_owners (length g.puts) value start rest) more, length_first_owners (length g.puts) value start rest) in
      let stands : Stands w1 used (body_words w used (length g.puts + 1) value rest e b) = subst (λ (n : ℕ). Stands w1 used (body_words w used (n + 1) value rest e b)) (sym counted) h in
      let first = first_cells_are (ledger_after g used key value start rest more) (length g.puts) used record { key = key; value = value; cell = used } start rest more owned put_there low (omega (arith, near)) whole w1 refl bytes
      (first_stands w w1 used (length g.puts + 1) value rest e b stands) in
      let all : AreCells w1 (ledger_after g used key value start rest more) used (first_owners (length g.puts) value start rest ++ more) =
      cells_joined w1 (ledger_after g used key value start rest more) used (first_further used value rest) (first_owners (length g.puts) value start rest) more (omega (arith, length_first_owners (length g.puts) value start rest)) first are in
      image_grown w1 g (first_owners (length g.puts) value start rest ++ more) (record { key = key; value = value; cell = used } ∷ []) cells ((keeps_image w w1 g cells ok same).0)
      (omega (arith, lengths, length-append g.owners (first_owners (length g.puts) value start rest ++ more)))
      (omega (arith, lengths, length-append g.owners (first_owners (length g.puts) value start rest ++ more), length-append g.puts (record { key = key; value = value; cell = used } ∷ []), ok.fewer))
      (λ j o f. subst (λ (x : ℕ). IsCell w1 (ledger_after g used key value start rest more) (x + j) o) (sym taken) (all j o f))

  pub prepared : (e : Exit) (b : ℕ) → Stands w1 used (body_words w used (slice_index w 0 + 1) value rest e b) → IsPrepared w1 g cells used key value start rest more
  prepared e b h = record {
    keeps = λ c o f. owner_grown w1 g (first_owners (length g.puts) value start rest ++ more) (record { key = key; value = value; cell = used } ∷ []) c o f;
    grows = λ p q f. path_grown g (first_owners (length g.puts) value start rest ++ more) (record { key = key; value = value; cell = used } ∷ []) p q f;
    owned = own_more;
    at_content = at_content_of;
    at_entry = at_entry;
    is_chain = λ ne. (entry_chain (ledger_after g used key value start rest more) (length g.puts) used record { key = key; value = value; cell = used } start rest more owned put_there low (omega (arith, near)) whole ne).1;
    few = omega (arith, near);
    low = omega (arith, low);
    near = omega (arith, near);
    image = new_image e b h;
  }
