-- The stores of a put do what they are for, in every well-formed image that has room for it.
use Rattle.std.proofs.Common.{◌≡◌, ◌≢◌, ◌⊎◌, ℕ, zero, suc, ◌+◌, ◌*◌, ◌/◌, ◌%◌, ◌<◌, ◌≤◌, ◌==◌, List, [], ◌∷◌, ◌++◌, length, take, drop, set, slice_index, Some, refl, sym, ap, ◌∙◌, subst, inl, inr, ⊎_elim, arith, append_assoc, append-nil, length-append, get_or-set_same}
use Rattle.std.proofs.Math.Seq.{get_or-append_seam}
use Rattle.cell_layout.specs.Words.{with_half_of, ItemsAreBytes}
use Rattle.cell_layout.specs.Slots.{child_count, word_with}
use Rattle.trie_image.specs.declared.Owner.{Owner}
use Rattle.trie_image.specs.declared.Owner.TheVariants.{HeadCell, SparseCell, TopCell, MidCell}
use Rattle.trie_image.specs.declared.Ledger.{Ledger}
use Rattle.trie_image.specs.declared.StoreKind.TheVariants.{Prepare, Publish, Finish}
use Rattle.trie_image.specs.declared.WordStore.{WordStore}
use Rattle.trie_image.specs.declared.exit.Stand.{Stand}
use Rattle.trie_image.specs.declared.exit.Meets.{Meets}
use Rattle.trie_image.specs.declared.exit.Meets.TheVariants.{Content, Nothing, OtherByte, End, Sparse, Full, NoLeaf, NoMid, PastContent}
use Rattle.trie_image.specs.declared.exit.Exit.{Exit}
use Rattle.trie_image.specs.Image.{word_of}
use Rattle.trie_image.specs.Paths.{owner}
use Rattle.trie_image.specs.WellFormed.{IsWellFormed}
use Rattle.trie_image.specs.Same.{IsSame}
use Rattle.trie_image.specs.Exit.{exit_with, exit_of}
use Rattle.trie_image.specs.Body.{over_passed}
use Rattle.trie_image.specs.Stores.{store_at, prepares, field_store, rest_of, content_of, entry_of, first_further, body_words, stores_from, stores_of, cost, CanPut}
use Rattle.trie_image.specs.Laws.{ArePrepares}
use Rattle.trie_image.specs.After.{after}
use Rattle.trie_image.specs.Publish.{put_at, with_put, IsPublished}
use Rattle.trie_image.proofs.PutBy.{AreInside, IsPutBy}
use Rattle.trie_image.specs.Puts.{IsValue}
use Rattle.trie_image.proofs.Kept.{fresh, own_inside, not_first}
use Rattle.trie_image.proofs.WellFormedLemmas.{keeps_well_formed}
use Rattle.trie_image.proofs.StoreShape.{prepares_are, joined}
use Rattle.trie_image.proofs.HomeStores.{stored_field}
use Rattle.trie_image.proofs.Stored.{after_append, before_prepared}
use Rattle.trie_image.proofs.Prepared.{same_prepared, prepares_taken}
use Rattle.trie_image.proofs.Leaves.{MetSparse, LeavesBy}
use Rattle.trie_image.proofs.Exits.{leaves}
use Rattle.trie_image.proofs.NewOwners.{first_owners, further_owners}
use Rattle.trie_image.proofs.OwnerLengths.{as_many, length_prepares}
use Rattle.trie_image.proofs.Ready.{below}
use Rattle.trie_image.proofs.Finals.{home_inside, content_published, nothing_published, other_published, end_published, full_published, past_published, leaf_published, mid_published}
use Rattle.trie_image.proofs.FinalSparse.{own as own_here, same_before, sparse_published}

-- what is left of a key after a path, and after the next byte
drop_path : (path rest : List ℕ) → drop (length path) (path ++ rest) ≡ rest
drop_path [] rest = refl
drop_path (x ∷ path) rest = drop_path path rest

left_of : (path rest key : List ℕ) (taken : ℕ) → path ++ rest ≡ key → taken ≡ length path → drop taken key ≡ rest
left_of path rest key taken whole so_far = ap (λ (n : ℕ). drop n key) so_far ∙ (ap (λ (l : List ℕ). drop (length path) l) (sym whole) ∙ drop_path path rest)

drop_more : (n : ℕ) (l : List ℕ) → drop (n + 1) l ≡ drop 1 (drop n l)
drop_more zero l = refl
drop_more (suc n) [] = let z : suc n + 1 ≡ suc (n + 1) = omega arith in ap (λ (k : ℕ). drop {A = ℕ} k []) z
drop_more (suc n) (x ∷ l) = let z : suc n + 1 ≡ suc (n + 1) = omega arith in ap (λ (k : ℕ). drop k (x ∷ l)) z ∙ drop_more n l

after_byte : (path : List ℕ) (b : ℕ) (rest key : List ℕ) (taken : ℕ) → path ++ b ∷ rest ≡ key → taken ≡ length path → drop (taken + 1) key ≡ rest
after_byte path b rest key taken whole so_far = drop_more taken key ∙ ap (λ (l : List ℕ). drop 1 l) (left_of path (b ∷ rest) key taken whole so_far)

byte_there : (path : List ℕ) (b : ℕ) (rest key : List ℕ) (taken : ℕ) → path ++ b ∷ rest ≡ key → taken ≡ length path → slice_index key taken ≡ b
byte_there path b rest key taken whole so_far = ap (λ (n : ℕ). slice_index key n) so_far ∙ (ap (λ (l : List ℕ). slice_index l (length path)) (sym whole) ∙ get_or-append_seam path b rest 0)

-- the first stores of a list with one more at its end
take_front : (n : ℕ) (a : List WordStore) (s : WordStore) → (take n (a ++ s ∷ []) ≡ take n a) ⊎ (take n (a ++ s ∷ []) ≡ a ++ s ∷ [])
take_front zero a s = inl refl
take_front (suc n) [] s = inr (ap (λ (l : List WordStore). s ∷ l) (nothing n))
  where
    nothing : (k : ℕ) → take {A = WordStore} k [] ≡ []
    nothing zero = refl
    nothing (suc k) = refl
take_front (suc n) (x ∷ a) s = ⊎_elim (λ e. inl (ap (λ (l : List WordStore). x ∷ l) e)) (λ e. inr (ap (λ (l : List WordStore). x ∷ l) e)) (take_front n a s)

-- stores into new cells are inside, and so are the stores of two lists
prepares_inside : (n at : ℕ) (words : List ℕ) → 1 ≤ at → at + length words ≤ n → AreInside n (prepares at words)
prepares_inside n at [] first capacity = tt
prepares_inside n at (x ∷ words) first capacity = (first, omega arith, prepares_inside n (at + 1) words (omega arith) (omega arith))

both_inside : (n : ℕ) (a b : List WordStore) → AreInside n a → AreInside n b → AreInside n (a ++ b)
both_inside n [] b h k = k
both_inside n (s ∷ a) b h k = (h.0, h.1, both_inside n a b h.2 k)

module _ (w : List ℕ) (g : Ledger) (cells : ℕ) (key value : List ℕ) (wf : IsWellFormed w g cells) (counted : length g.puts ≡ slice_index w 0) (least : 1 ≤ length key) (most : length key ≤ 2048) (short_value : IsValue value) (capacity : length g.owners + cost (length key) (length value) ≤ cells) (bytes : ItemsAreBytes key) where
  -- the count, after a publishing store
  module _ (w' : List ℕ) (own : List Owner) (done : IsPublished w w' g cells own (put_at key value (length g.owners))) where
    alike : IsSame w' (set w' 0 (slice_index w 0 + 1)) (with_put g own (put_at key value (length g.owners)))
    alike = let ok = done.well_formed in fresh w' (with_put g own (put_at key value (length g.owners))) cells 0 (slice_index w 0 + 1) ok.image (inr refl)

    count_is : slice_index (set w' 0 (slice_index w 0 + 1)) 0 ≡ slice_index w 0 + 1
    count_is = let ok = done.well_formed in let some_ = own_inside g.owners 0 HeadCell wf.image.head in get_or-set_same w' 0 (slice_index w 0 + 1) 0 (omega (arith, ok.image.size))

  -- a word of a cell that isn't cell 0
  after_head : (cell place : ℕ) (o : Owner) → owner g cell ≡ Some o → (o ≡ HeadCell → ⊥) → 1 ≤ 4 * cell + place / 2
  after_head cell place o own ne = let z : cell ≢ 0 = not_first g cell o wf.image.head own ne in omega arith

  put_done : (words : List ℕ) (slot : List WordStore) (publish : WordStore) (own : List Owner) (stores : List WordStore) → length words ≡ 4 * length own → length slot ≤ 1 → ArePrepares slot → publish.kind ≡ Publish
      → stores ≡ (prepares (4 * length g.owners) words ++ slot) ++ publish ∷ store_at 0 (slice_index w 0 + 1) Finish ∷ [] → AreInside (length w) slot → AreInside (length w) (publish ∷ [])
      → ((n : ℕ) → IsSame w (after w (take n (prepares (4 * length g.owners) words ++ slot))) g) → IsPublished w (after w ((prepares (4 * length g.owners) words ++ slot) ++ publish ∷ [])) g cells own (put_at key value (length g.owners))
      → IsPutBy w g cells (put_at key value (length g.owners)) stores
  put_done words slot publish own stores exact few slots is all slot_inside publish_inside before done =
      let front : List WordStore = prepares (4 * length g.owners) words ++ slot in let fin : WordStore = store_at 0 (slice_index w 0 + 1) Finish in let w' : List ℕ = after w (front ++ publish ∷ []) in
      let last : after w stores ≡ set w' 0 (slice_index w 0 + 1) = ap (λ (l : List WordStore). after w l) (all ∙ sym (append_assoc front (publish ∷ []) (fin ∷ []))) ∙ after_append w (front ++ publish ∷ []) (fin ∷ []) in record {
        words = words;
        slot = slot;
        front = front;
        publish = publish;
        own = own;
        new_cells = refl;
        exact = exact;
        at_most_one = few;
        all = all;
        prepared = joined (prepares (4 * length g.owners) words) slot (prepares_are (4 * length g.owners) words) slots;
        is_publish = is;
        inside = both_inside (length w) front (publish ∷ []) (both_inside (length w) (prepares (4 * length g.owners) words) slot (prepares_inside (length w) (4 * length g.owners) words (let some_ = own_inside g.owners 0 HeadCell wf.image.head in omega arith)
            (let after_it = done.well_formed in omega (arith, exact, after_it.image.capacity, length-append g.owners own, wf.image.size))) slot_inside) publish_inside;
        before = before;
        published = done;
        counting = subst (λ (x : List ℕ). IsSame w' x (with_put g own (put_at key value (length g.owners)))) (sym last) (alike w' own done);
        counted = ap (λ (x : List ℕ). slice_index x 0) last ∙ count_is w' own done;
      }

  -- where a pointer is stored in a field
  by_field : (words : List ℕ) (cell place p' : ℕ) (own : List Owner) → cell < length g.owners → place < 8 → 1 ≤ 4 * cell + place / 2 → length words ≡ 4 * length own → ((i : ℕ) → i < 4 * length g.owners → slice_index (after w (prepares (4 * length g.owners) words)) i ≡ slice_index w i)
      → IsPublished w (stored_field (after w (prepares (4 * length g.owners) words)) cell place p') g cells own (put_at key value (length g.owners))
      → IsPutBy w g cells (put_at key value (length g.owners)) (prepares (4 * length g.owners) words ++ field_store w cell place p' Publish ∷ [] ++ store_at 0 (slice_index w 0 + 1) Finish ∷ [])
  by_field words cell place p' own inside small later exact below done = let front : List WordStore = prepares (4 * length g.owners) words in let publish : WordStore = field_store w cell place p' Publish in let fin : WordStore = store_at 0 (slice_index w 0 + 1) Finish in
      let same_word : word_of (after w front) cell (place / 2) ≡ word_of w cell (place / 2) = below (4 * cell + place / 2) (omega arith) in
      let is : after w ((front ++ []) ++ publish ∷ []) ≡ stored_field (after w front) cell place p' = ap (λ (l : List WordStore). after w (l ++ publish ∷ [])) (append-nil front)
      ∙ (after_append w front (publish ∷ []) ∙ ap (λ (x : ℕ). set (after w front) (4 * cell + place / 2) (with_half_of x (place % 2 == 1) p')) (sym same_word)) in
      put_done words [] publish own (front ++ publish ∷ [] ++ fin ∷ []) exact (omega arith) tt refl (append_assoc front (publish ∷ []) (fin ∷ []) ∙ ap (λ (l : List WordStore). l ++ publish ∷ fin ∷ []) (sym (append-nil front))) tt (later, omega (arith, wf.image.size, wf.image.capacity), tt)
      (λ n. subst (λ (l : List WordStore). IsSame w (after w l) g) (sym (ap (λ (l : List WordStore). take n l) (append-nil front) ∙ prepares_taken n (4 * length g.owners) words)) (same_prepared w g (4 * length g.owners) (take n words) wf.image.head (omega arith)))
      (subst (λ (x : List ℕ). IsPublished w x g cells own (put_at key value (length g.owners))) (sym is) done)

  -- the stores of a put whose walk ended so
  abbrev Stored : Meets → Stand → ℕ → List ℕ → ℕ → Type 0
  Stored meets s taken rest b = IsPutBy w g cells (put_at key value (length g.owners)) (stores_from w (length g.owners) value rest (exit_with meets s taken) b)

  abbrev words_of : Meets → Stand → ℕ → List ℕ → ℕ → List ℕ
  words_of meets s taken rest b = body_words w (length g.owners) (slice_index w 0 + 1) value rest (exit_with meets s taken) b

  four : (meets : Meets) (s : Stand) (taken : ℕ) (start rest : List ℕ) (b t : ℕ) (path : List ℕ) → length (words_of meets s taken rest b) ≡ 4 * length (first_owners (length g.puts) value start rest ++ further_owners w meets s path b t (first_further (length g.owners) value rest))
  four meets s taken start rest b t path = as_many w (length g.owners) (slice_index w 0 + 1) (length g.puts) value start rest (exit_with meets s taken) b t path

  stays_below : (meets : Meets) (s : Stand) (taken : ℕ) (rest : List ℕ) (b i : ℕ) → i < 4 * length g.owners → slice_index (after w (prepares (4 * length g.owners) (words_of meets s taken rest b))) i ≡ slice_index w i
  stays_below meets s taken rest b i l = before_prepared w (4 * length g.owners) i (words_of meets s taken rest b) l

  -- the rest after the key's byte, and this byte
  at_byte : (meets : Meets) (s : Stand) (taken : ℕ) (path : List ℕ) (b : ℕ) (rest : List ℕ) → rest_of key meets taken ≡ drop (taken + 1) key → path ++ b ∷ rest ≡ key → taken ≡ length path → Stored meets s taken rest b → Stored meets s taken (rest_of key meets taken) (slice_index key taken)
  at_byte meets s taken path b rest is whole so_far h = subst (λ (r : List ℕ). Stored meets s taken r (slice_index key taken)) (sym (is ∙ after_byte path b rest key taken whole so_far)) (subst (λ (x : ℕ). Stored meets s taken rest x) (sym (byte_there path b rest key taken whole so_far)) h)

  -- a sparse node with room: the free slot, and then the order word
  by_slot : (s : Stand) (taken : ℕ) (m : MetSparse w g key s taken) → Stored Sparse s taken m.rest m.byte
  by_slot s taken m = let words : List ℕ = words_of Sparse s taken m.rest m.byte in let entry : ℕ = entry_of (length g.owners) value m.rest in let front : List WordStore = prepares (4 * length g.owners) words in
      let free : WordStore = field_store w s.cell (child_count (word_of w s.cell 3)) entry Prepare in let publish : WordStore = store_at (4 * s.cell + 3) (word_with (word_of w s.cell 3) m.byte) Publish in let fin : WordStore = store_at 0 (slice_index w 0 + 1) Finish in
      let short : length m.rest ≤ length key = let len = ap (λ (x : List ℕ). length x) m.whole in omega (arith, len, length-append m.path (m.byte ∷ m.rest)) in
      let own : List Owner = first_owners (length g.puts) value (m.path ++ m.byte ∷ []) m.rest ++ [] in
      let here = own_here w g cells key value wf capacity bytes s taken m short in let inside : s.cell < length g.owners = own_inside g.owners s.cell (SparseCell m.path) here in
      let made : after w (front ++ free ∷ []) ≡ after (after w front) (free ∷ []) = after_append w front (free ∷ []) in
      put_done words (free ∷ []) publish own (front ++ (free ∷ publish ∷ []) ++ fin ∷ []) (four Sparse s taken (m.path ++ m.byte ∷ []) m.rest m.byte 0 m.path) (omega arith) (refl, tt) refl
      (append_assoc front (free ∷ publish ∷ []) (fin ∷ []) ∙ sym (append_assoc front (free ∷ []) (publish ∷ fin ∷ [])))
      (after_head s.cell (child_count (word_of w s.cell 3)) (SparseCell m.path) here (λ z. cc), omega (arith, inside, m.capacity, wf.image.size, wf.image.capacity), tt) (after_head s.cell 6 (SparseCell m.path) here (λ z. cc), omega (arith, inside, wf.image.size, wf.image.capacity), tt)
      (λ n. ⊎_elim
      (λ (e : take n (front ++ free ∷ []) ≡ take n front). subst (λ (l : List WordStore). IsSame w (after w l) g) (sym (e ∙ prepares_taken n (4 * length g.owners) words)) (same_prepared w g (4 * length g.owners) (take n words) wf.image.head (omega arith)))
      (λ (e : take n (front ++ free ∷ []) ≡ front ++ free ∷ []). subst (λ (l : List WordStore). IsSame w (after w l) g) (sym e) (subst (λ (x : List ℕ). IsSame w x g) (sym made) (same_before w g cells key value wf capacity bytes s taken m short))) (take_front n front free))
      (subst (λ (x : List ℕ). IsPublished w x g cells own (put_at key value (length g.owners))) (sym (after_append w (front ++ free ∷ []) (publish ∷ []) ∙ ap (λ (x : List ℕ). after x (publish ∷ [])) made))
      (sparse_published w g cells key value wf capacity bytes s taken m short counted least most short_value))

  by_case : (meets : Meets) (s : Stand) (taken : ℕ) → LeavesBy w g key meets s taken → Stored meets s taken (rest_of key meets taken) (slice_index key taken)
  by_case Content s taken m = let b : ℕ = slice_index key taken in let l = home_inside w g cells key value wf counted least most short_value capacity bytes key s.cell s.field m.stands.home in
      by_field (words_of Content s taken [] b) s.cell s.field (content_of (length g.owners)) _ l.0 l.1 l.2 (four Content s taken key [] b 0 key) (stays_below Content s taken [] b) (content_published w g cells key value wf counted least most short_value capacity bytes s taken b m)
  by_case Nothing s taken m = let b : ℕ = slice_index key taken in let l = home_inside w g cells key value wf counted least most short_value capacity bytes m.path s.cell s.field m.stands.home in
      subst (λ (r : List ℕ). Stored Nothing s taken r b) (sym (left_of m.path m.rest key taken m.whole m.so_far))
      (by_field (words_of Nothing s taken m.rest b) s.cell s.field (entry_of (length g.owners) value m.rest) _ l.0 l.1 l.2 (four Nothing s taken m.path m.rest b 0 m.path) (stays_below Nothing s taken m.rest b) (nothing_published w g cells key value wf counted least most short_value capacity bytes s taken b m))
  by_case End s taken m = let b : ℕ = slice_index key taken in let l = home_inside w g cells key value wf counted least most short_value capacity bytes m.home_path s.cell s.field m.stands.home in
      by_field (words_of End s taken [] b) s.cell s.field (over_passed s (first_further (length g.owners) value []) 31) _ l.0 l.1 l.2 (four End s taken key [] b 0 key) (stays_below End s taken [] b) (end_published w g cells key value wf counted least most short_value capacity bytes s taken b m)
  by_case PastContent s taken m = let b : ℕ = slice_index key taken in let rest : List ℕ = m.byte ∷ m.rest in let l = home_inside w g cells key value wf counted least most short_value capacity bytes m.path s.cell s.field m.stands.home in
      subst (λ (r : List ℕ). Stored PastContent s taken r b) (sym (left_of m.path rest key taken m.whole m.so_far))
      (by_field (words_of PastContent s taken rest b) s.cell s.field (32 * first_further (length g.owners) value (m.byte ∷ m.rest) + 31) _ l.0 l.1 l.2 (four PastContent s taken m.path rest b 0 m.path) (stays_below PastContent s taken rest b) (past_published w g cells key value wf counted least most short_value capacity bytes s taken b m))
  by_case OtherByte s taken m = let l = home_inside w g cells key value wf counted least most short_value capacity bytes m.home_path s.cell s.field m.stands.home in
      at_byte OtherByte s taken m.path m.byte m.rest refl m.whole m.so_far
      (by_field (words_of OtherByte s taken m.rest m.byte) s.cell s.field (over_passed s (first_further (length g.owners) value m.rest) 30) _ l.0 l.1 l.2 (four OtherByte s taken (m.path ++ m.byte ∷ []) m.rest m.byte 0 m.path) (stays_below OtherByte s taken m.rest m.byte) (other_published w g cells key value wf counted least most short_value capacity bytes s taken m))
  by_case Full s taken m = let l = home_inside w g cells key value wf counted least most short_value capacity bytes m.path s.cell s.field m.stands.home in
      at_byte Full s taken m.path m.byte m.rest refl m.whole m.so_far
      (by_field (words_of Full s taken m.rest m.byte) s.cell s.field (32 * first_further (length g.owners) value m.rest + 28) _ l.0 l.1 l.2 (four Full s taken (m.path ++ m.byte ∷ []) m.rest m.byte 0 m.path) (stays_below Full s taken m.rest m.byte) (full_published w g cells key value wf counted least most short_value capacity bytes s taken m))
  by_case NoLeaf s taken m = let inside = own_inside g.owners s.cell (MidCell m.top (m.byte / 64)) m.mid.own in let later = after_head s.cell s.field (MidCell m.top (m.byte / 64)) m.mid.own (λ z. cc) in let small : s.field < 8 = let e = m.place in omega arith in
      at_byte NoLeaf s taken m.path m.byte m.rest refl m.whole m.so_far
      (by_field (words_of NoLeaf s taken m.rest m.byte) s.cell s.field (32 * first_further (length g.owners) value m.rest + 28) _ inside small later (four NoLeaf s taken (m.path ++ m.byte ∷ []) m.rest m.byte m.top m.path) (stays_below NoLeaf s taken m.rest m.byte) (leaf_published w g cells key value wf counted least most short_value capacity bytes s taken m))
  by_case NoMid s taken m = let inside = own_inside g.owners s.cell (TopCell m.path) m.split.own in let later = after_head s.cell s.field (TopCell m.path) m.split.own (λ z. cc) in let small : s.field < 8 = let e = m.place in let b = m.split.small in omega arith in
      at_byte NoMid s taken m.path m.byte m.rest refl m.whole m.so_far
      (by_field (words_of NoMid s taken m.rest m.byte) s.cell s.field (32 * first_further (length g.owners) value m.rest + 28) _ inside small later (four NoMid s taken (m.path ++ m.byte ∷ []) m.rest m.byte 0 m.path) (stays_below NoMid s taken m.rest m.byte) (mid_published w g cells key value wf counted least most short_value capacity bytes s taken m))
  by_case Sparse s taken m = at_byte Sparse s taken m.path m.byte m.rest refl m.whole m.so_far (by_slot s taken m)

pub put_law : (w : List ℕ) (used : ℕ) (key value : List ℕ) (can : CanPut w used key value) → IsPutBy w can.ledger can.cells (put_at key value used) (stores_of w used key value)
put_law w used key value can = let e : Exit = exit_of w key in let taken = can.taken in let k = can.is_key in
    subst (λ (n : ℕ). IsPutBy w can.ledger can.cells (put_at key value n) (stores_from w n value (rest_of key e.meets e.taken) e (slice_index key e.taken))) (sym taken)
    (by_case w can.ledger can.cells key value can.image (sym can.number) k.0 k.1 can.is_value (subst (λ (n : ℕ). n + cost (length key) (length value) ≤ can.cells) taken can.capacity) k.2 e.meets e.stand e.taken (leaves w can.ledger can.cells can.image.image key k.2))
