-- The order of a put's stores: Prepare stores, one Publish, one Finish.
use Rattle.std.proofs.Common.{◌≡◌, ℕ, ◌+◌, ◌*◌, List, [], ◌∷◌, ◌++◌, slice_index, slice_set, slice_get, zero, suc, length, ◌≤◌, Some, arith, inl, ap, refl, sym, ◌∙◌, append_assoc}
use Rattle.trie_image.specs.declared.StoreKind.TheVariants.{Prepare, Publish, Finish}
use Rattle.trie_image.specs.declared.WordStore.{WordStore}
use Rattle.trie_image.specs.declared.exit.Stand.{Stand}
use Rattle.trie_image.specs.declared.exit.Meets.{Meets}
use Rattle.trie_image.specs.declared.exit.Meets.TheVariants.{Content, Nothing, OtherByte, End, Sparse, Full, NoLeaf, NoMid, PastContent}
use Rattle.trie_image.specs.declared.Ledger.{Ledger}
use Rattle.trie_image.specs.Cell.{IsImage}
use Rattle.trie_image.specs.Same.{IsSame}
use Rattle.trie_image.specs.Exit.{exit_of}
use Rattle.trie_image.specs.Stores.{store_at, prepares, rest_of, body_words, publish_stores, stores_of}
use Rattle.trie_image.specs.Laws.{ArePrepares, HasShape}
use Rattle.trie_image.proofs.Kept.{fresh}

pub prepares_are : (at : ℕ) (ws : List ℕ) → ArePrepares (prepares at ws)
prepares_are at [] = tt
prepares_are at (x ∷ xs) = (refl, prepares_are (at + 1) xs)

pub joined : (a b : List WordStore) → ArePrepares a → ArePrepares b → ArePrepares (a ++ b)
joined [] b h k = k
joined (x ∷ xs) b h k = (h.0, joined xs b h.1 k)

-- the shape with one publishing store, and with a slot prepared before it
one : (front : List WordStore) (p f : WordStore) → ArePrepares front → p.kind ≡ Publish → HasShape (front ++ (p ∷ []) ++ f ∷ []) f
one front p f h k = record { front = front; publish = p; all = append_assoc front (p ∷ []) (f ∷ []); prepared = h; published = k }

two : (front : List WordStore) (s p f : WordStore) → ArePrepares front → s.kind ≡ Prepare → p.kind ≡ Publish → HasShape (front ++ (s ∷ p ∷ []) ++ f ∷ []) f
two front s p f h i k = record { front = front ++ s ∷ []; publish = p; all = append_assoc front (s ∷ p ∷ []) (f ∷ []) ∙ sym (append_assoc front (s ∷ []) (p ∷ f ∷ [])); prepared = joined front (s ∷ []) h (i, tt); published = k }

by_case : (w : List ℕ) (front : List WordStore) (m : Meets) (s : Stand) (b entry p : ℕ) (f : WordStore) → ArePrepares front → HasShape (front ++ publish_stores w m s b entry p ++ f ∷ []) f
by_case w front Sparse s b entry p f h = two front _ _ f h refl refl
by_case w front Content s b entry p f h = one front _ f h refl
by_case w front Nothing s b entry p f h = one front _ f h refl
by_case w front OtherByte s b entry p f h = one front _ f h refl
by_case w front End s b entry p f h = one front _ f h refl
by_case w front Full s b entry p f h = one front _ f h refl
by_case w front NoLeaf s b entry p f h = one front _ f h refl
by_case w front NoMid s b entry p f h = one front _ f h refl
by_case w front PastContent s b entry p f h = one front _ f h refl

pub shape : (w : List ℕ) (used : ℕ) (key value : List ℕ) → HasShape (stores_of w used key value) (store_at 0 (slice_index w 0 + 1) Finish)
shape w used key value = by_case w (prepares (4 * used) (body_words w used (slice_index w 0 + 1) value (rest_of key (exit_of w key).meets (exit_of w key).taken) (exit_of w key) (slice_index key (exit_of w key).taken))) (exit_of w key).meets (exit_of w key).stand (slice_index key (exit_of w key).taken) _ _ (store_at 0 (slice_index w 0 + 1) Finish) (prepares_are (4 * used) _)
