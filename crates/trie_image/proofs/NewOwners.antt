-- The owners of a put's new cells, and that each of these cells is what its owner says.
use Rattle.std.proofs.Common.{◌≡◌, ◌≢◌, ℕ, zero, suc, ◌+◌, ◌-◌, ◌*◌, ◌/◌, ◌%◌, ◌^◌, ◌≤◌, ◌==◌, cond, List, [], ◌∷◌, ◌++◌, length, map, slice_get, Some, refl, sym, ap, ◌∙◌, subst, arith, append-nil, length-append, eq-eqb, ne_eqb}
use Rattle.std.proofs.lemmas.Bool.{cond-true, cond-false}
use Rattle.std.specs.List.{range_with_len}
use Rattle.cell_layout.specs.declared.Kind.TheVariants as kind
use Rattle.cell_layout.specs.Pointers.{kind_at, record_cell}
use Rattle.cell_layout.proofs.PointerKinds.{is_chain}
use Rattle.cell_layout.specs.Cells.{record_cells, record_words, chain_cells, chain_from}
use Rattle.cell_layout.specs.Words.{ItemsAreBytes}
use Rattle.cell_layout.proofs.WordsAt.{length_record_words}
use Rattle.trie_image.specs.declared.Put.{Put}
use Rattle.trie_image.specs.declared.Owner.{Owner}
use Rattle.trie_image.specs.declared.Owner.TheVariants.{RecordCell, ChainCell, SparseCell, MidCell, LeafCell, PrefixCell}
use Rattle.trie_image.specs.declared.Ledger.{Ledger}
use Rattle.trie_image.specs.declared.exit.Stand.{Stand}
use Rattle.trie_image.specs.declared.exit.Meets.{Meets}
use Rattle.trie_image.specs.declared.exit.Meets.TheVariants.{OtherByte, End, Full, NoLeaf, NoMid, PastContent}
use Rattle.trie_image.specs.Image.{word_of}
use Rattle.trie_image.specs.Paths.{owner, HasPath, at_content}
use Rattle.trie_image.specs.Body.{seven}
use Rattle.trie_image.specs.Stores.{content_of, entry_of, first_further}
use Rattle.trie_image.proofs.NewPointers.{content_kind}
use Rattle.trie_image.proofs.CellWords.{Stands, stands_front, stands_back}
use Rattle.trie_image.proofs.NewChains.{Owns, AreCells, owns_front, owns_back, cells_joined, owner_first, chain_owners, length_chain_owners, chain_enters, chain_cells_are}
use Rattle.trie_image.proofs.NewCells.{record_owners, record_cells_are}
use Rattle.trie_image.proofs.NewSplitNode.{split_node_owners}

-- the cell for the passed bytes, whose tail has the path
abbrev pub passed_owners : Stand → List ℕ → List Owner
passed_owners s path = cond (s.at == s.entered) [] (ChainCell (28 - (s.at - s.entered)) path ∷ [])

-- the further cells, from cell x on, where the walk passed the path and b comes next; t is the top cell of a missing leaf cell
abbrev pub further_owners : List ℕ → Meets → Stand → List ℕ → ℕ → ℕ → ℕ → List Owner
further_owners w OtherByte s path b t x = SparseCell path ∷ passed_owners s path
further_owners w End s path b t x = PrefixCell path ∷ passed_owners s path
further_owners w Full s path b t x = split_node_owners (seven (word_of w (s.at / 32) 3) b) x path
further_owners w NoLeaf s path b t x = LeafCell t (b / 64) (b / 8 % 8) ∷ []
further_owners w NoMid s path b t x = MidCell s.cell (b / 64) ∷ LeafCell s.cell (b / 64) (b / 8 % 8) ∷ []
further_owners w PastContent s path b t x = PrefixCell path ∷ []
further_owners w _ s path b t x = []

-- the record's cells and the chain's
abbrev pub first_owners : ℕ → List ℕ → List ℕ → List ℕ → List Owner
first_owners n value start rest = record_owners n (record_cells (length value)) ++ chain_owners (chain_cells (length rest)) start rest

length_range_owners : (n a k : ℕ) → length (map (λ j. RecordCell n j) (range_with_len a k)) ≡ k
length_range_owners n a zero = refl
length_range_owners n a (suc k) = ap (λ (x : ℕ). suc x) (length_range_owners n (a + 1) k)

pub length_first_owners : (n : ℕ) (value start rest : List ℕ) → length (first_owners n value start rest) ≡ record_cells (length value) + chain_cells (length rest)
length_first_owners n value start rest = omega (arith, length-append (record_owners n (record_cells (length value))) (chain_owners (chain_cells (length rest)) start rest), length_range_owners n 0 (record_cells (length value)), length_chain_owners (chain_cells (length rest)) start rest)

-- the new record and the chain of the rest
module _ (g' : Ledger) (n used : ℕ) (put : Put) (start rest : List ℕ) (more : List Owner) (own : Owns g' used (first_owners n put.value start rest ++ more)) (there : slice_get g'.puts n ≡ Some put) (some_ : 1 ≤ used) (capacity : first_further used put.value rest ≤ 2 ^ 22) (whole : start ++ rest ≡ put.key) where
  own_first : Owns g' used (first_owners n put.value start rest)
  own_first = owns_front g' used (first_owners n put.value start rest) more own

  own_record : Owns g' used (record_owners n (record_cells (length put.value)))
  own_record = owns_front g' used (record_owners n (record_cells (length put.value))) (chain_owners (chain_cells (length rest)) start rest) own_first

  own_chain : Owns g' (used + record_cells (length put.value)) (chain_owners (chain_cells (length rest)) start rest)
  own_chain = owns_back g' used (used + record_cells (length put.value)) (record_owners n (record_cells (length put.value))) (chain_owners (chain_cells (length rest)) start rest) (omega (arith, length_range_owners n 0 (record_cells (length put.value)))) own_first

  pub own_further : Owns g' (first_further used put.value rest) more
  own_further = owns_back g' used (first_further used put.value rest) (first_owners n put.value start rest) more (omega (arith, length_first_owners n put.value start rest)) own

  first_record : (k : ℕ) → 1 ≤ k → Owns g' used (record_owners n k) → owner g' used ≡ Some (RecordCell n 0)
  first_record zero l h = absurd (omega arith)
  first_record (suc k) l h = owner_first g' used (RecordCell n 0) _ h

  pub content_path : HasPath g' (content_of used) put.key
  content_path = let c : record_cell (content_of used) ≡ used = omega arith in
      at_content n put (content_kind [] used (omega arith)) (subst (λ (x : ℕ). owner g' x ≡ Some (RecordCell n 0)) (sym c) (first_record (record_cells (length put.value)) (omega arith) own_record)) there refl

  -- the entry of the chain, which is the content where no byte is left
  pub entry_chain : rest ≢ [] → (HasPath g' (entry_of used put.value rest) start) × (kind_at (entry_of used put.value rest) ≡ Some kind.Chain)
  entry_chain ne = by rest ne refl
    where
      by : (r : List ℕ) → r ≢ [] → rest ≡ r → (HasPath g' (entry_of used put.value rest) start) × (kind_at (entry_of used put.value rest) ≡ Some kind.Chain)
      by [] ne e = absurd (ne refl)
      by (b ∷ r) ne e = let long : 1 ≤ length rest = let l = ap (λ (x : List ℕ). length x) e in omega (arith, l) in
          let more_ : suc (chain_cells (length rest) - 1) ≡ chain_cells (length rest) = omega arith in
          let is : entry_of used put.value rest ≡ 32 * (used + record_cells (length put.value)) + (28 * chain_cells (length rest) - length rest) =
          cond-false (length rest == 0) (content_of used) (32 * (used + record_cells (length put.value)) + (28 * chain_cells (length rest) - length rest)) (ne_eqb (length rest) 0 (λ z. omega arith)) in
          let owned : Owns g' (used + record_cells (length put.value)) (chain_owners (suc (chain_cells (length rest) - 1)) start rest) = subst (λ (x : ℕ). Owns g' (used + record_cells (length put.value)) (chain_owners x start rest)) (sym more_) own_chain in
          let off : entry_of used put.value rest % 32 ≤ 27 = omega (arith, is) in (
            chain_enters [] g' 0 (chain_cells (length rest) - 1) (used + record_cells (length put.value)) (entry_of used put.value rest) start rest owned (omega arith) (omega arith) (omega arith) (omega arith) (omega (arith, is)),
            is_chain (entry_of used put.value rest) (λ z. omega (arith, is)) (omega (arith, is)) off,
          )

  pub entry_path : HasPath g' (entry_of used put.value rest) start
  entry_path = by rest refl
    where
      by : (r : List ℕ) → rest ≡ r → HasPath g' (entry_of used put.value rest) start
      by [] e = let z : length rest ≡ 0 = ap (λ (x : List ℕ). length x) e in
          let is : entry_of used put.value rest ≡ content_of used = cond-true (length rest == 0) (content_of used) _ (eq-eqb (length rest) 0 z) in
          let same : put.key ≡ start = sym whole ∙ (ap (λ (x : List ℕ). start ++ x) e ∙ append-nil start) in
          subst (λ (x : ℕ). HasPath g' x start) (sym is) (subst (λ (x : List ℕ). HasPath g' (content_of used) x) same content_path)
      by (b ∷ r) e = (entry_chain (λ z. let two : b ∷ r ≡ [] = sym e ∙ z in absurd (cc))).0

  -- the cells of both
  pub first_cells_are : (w' : List ℕ) → put.cell ≡ used → ItemsAreBytes rest → Stands w' used (record_words (n + 1) put.value ++ chain_from (used + record_cells (length put.value)) (chain_cells (length rest)) rest (content_of used)) → AreCells w' g' used (first_owners n put.value start rest)
  first_cells_are w' at bytes h = let record_ : List ℕ = record_words (n + 1) put.value in let chain : List ℕ = chain_from (used + record_cells (length put.value)) (chain_cells (length rest)) rest (content_of used) in
      cells_joined w' g' used (used + record_cells (length put.value)) (record_owners n (record_cells (length put.value))) (chain_owners (chain_cells (length rest)) start rest) (omega (arith, length_range_owners n 0 (record_cells (length put.value))))
      (record_cells_are w' g' used n put (stands_front w' used record_ chain h) at there)
      (chain_cells_are w' g' (content_of used) (chain_cells (length rest)) (used + record_cells (length put.value)) start rest (stands_back w' used (record_cells (length put.value)) record_ chain (length_record_words (n + 1) put.value) h) own_chain (omega arith) (omega arith) (omega arith) bytes
      (subst (HasPath g' (content_of used)) (sym whole) content_path))
