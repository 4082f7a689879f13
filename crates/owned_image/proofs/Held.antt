-- What an image that owns its words holds, at the start and after a put, by the laws of `trie_image`.
use Rattle.std.proofs.Common.{◌≡◌, ℕ, ◌+◌, ◌-◌, ◌*◌, ◌/◌, ◌^◌, ◌≤◌, List, [], ◌∷◌, ◌++◌, length, slice_index, replicate, set, refl, sym, ap, ◌∙◌, subst, arith, append_assoc, length-append, length-set, get_or-set_same, Vec, Global}
use Rattle.std.specs.Vec.{with_items}
use Rattle.std.proofs.lemmas.List.{get_or-replicate, with_items_is}
use Rattle.cell_layout.specs.Words.{ItemsAreBytes}
use Rattle.trie_image.specs.declared.Put.{Put}
use Rattle.trie_image.specs.declared.Owner.{Owner}
use Rattle.trie_image.specs.declared.StoreKind.TheVariants.{Finish}
use Rattle.trie_image.specs.declared.WordStore.{WordStore}
use Rattle.trie_image.specs.WellFormed.{IsWellFormed, opening_ledger}
use Rattle.trie_image.specs.Stores.{store_at, stores_of, CanPut}
use Rattle.trie_image.specs.After.{after}
use Rattle.trie_image.specs.Laws.{HasShape}
use Rattle.trie_image.specs.Publish.{put_at, with_put}
use Rattle.trie_image.specs.NextStore.{Does, IsPublishStore, IsFinishStore, IsNextStore}
use Rattle.trie_image.proofs.Stored.{length-after}
use Rattle.trie_image.proofs.PublicLaws.{law_opening, law_same, law_shape, law_next_store}
use Rattle.owned_image.specs.Held.{Held, HoldsPuts, TakesPut, PutsOne}

-- word 0 of the zeros
first_zero : (cells : ℕ) → 1 ≤ cells → slice_index (replicate (4 * cells) 0) 0 ≡ 0
first_zero cells least = get_or-replicate (4 * cells) 0 0 0 (omega arith)

-- an image of zeros holds no put
pub opens : (words : List ℕ) (cells : ℕ) → 1 ≤ cells → cells ≤ 2 ^ 22 → words ≡ replicate (4 * cells) 0 → HoldsPuts record { words = words; used = 1 } []
opens words cells least most zeros = subst (λ (w : List ℕ). HoldsPuts record { words = w; used = 1 } []) (sym zeros) record {
  ledger = opening_ledger;
  cells = cells;
  image = law_opening cells least most;
  puts_are = refl;
  taken = refl;
  number = first_zero cells least;
}

module _ (i : Held) (puts : List Put) (key value : List ℕ) (takes : TakesPut i key value) (bytes : ItemsAreBytes key) (value_bytes : ItemsAreBytes value) (holds : HoldsPuts i puts) where
  -- a put that it takes is one for its words
  pub can_put : CanPut i.words i.used key value
  can_put = record {
    ledger = holds.ledger;
    cells = holds.cells;
    image = holds.image;
    taken = holds.taken;
    number = holds.number;
    is_key = (takes.least, takes.most, bytes);
    is_value = (takes.short, value_bytes);
    capacity = omega (arith, takes.capacity, holds.image.image.size);
  }

  -- its stores, up to the publishing one, that one and the Finish
  shape : HasShape (stores_of i.words i.used key value) (store_at 0 (slice_index i.words 0 + 1) Finish)
  shape = law_shape i.words i.used key value

  finish : WordStore
  finish = store_at 0 (slice_index i.words 0 + 1) Finish

  next : (own : List Owner) × ((done left : List WordStore) (s : WordStore) → stores_of i.words i.used key value ≡ done ++ s ∷ left → IsNextStore i.words holds.ledger holds.cells own (put_at key value i.used) done s left)
  unfolding can_put
  next = law_next_store i.words i.used key value can_put

  published : List ℕ
  published = after i.words (shape.front ++ shape.publish ∷ [])

  publishing : IsPublishStore (after i.words shape.front) published holds.ledger holds.cells next.0 (put_at key value i.used) shape.front shape.publish (finish ∷ [])
  unfolding finish published
  publishing = subst (Does (after i.words shape.front) published holds.ledger holds.cells next.0 (put_at key value i.used) shape.front shape.publish (finish ∷ [])) shape.published (next.1 shape.front (finish ∷ []) shape.publish shape.all).does

  whole : (shape.front ++ shape.publish ∷ []) ++ finish ∷ [] ≡ stores_of i.words i.used key value
  unfolding finish
  whole = append_assoc shape.front (shape.publish ∷ []) (finish ∷ []) ∙ sym shape.all

  last : IsNextStore i.words holds.ledger holds.cells next.0 (put_at key value i.used) (shape.front ++ shape.publish ∷ []) finish []
  last = next.1 (shape.front ++ shape.publish ∷ []) [] finish (sym whole)

  finishing : IsFinishStore published (after i.words ((shape.front ++ shape.publish ∷ []) ++ finish ∷ [])) holds.ledger next.0 (put_at key value i.used) finish []
  unfolding finish published
  finishing = last.does

  -- so all of them leave a well-formed image with the put
  finished : IsWellFormed (after i.words (stores_of i.words i.used key value)) (with_put holds.ledger next.0 (put_at key value i.used)) holds.cells
  finished = subst (λ (l : List WordStore). IsWellFormed (after i.words l) (with_put holds.ledger next.0 (put_at key value i.used)) holds.cells) whole
      (law_same published (after i.words ((shape.front ++ shape.publish ∷ []) ++ finish ∷ [])) (with_put holds.ledger next.0 (put_at key value i.used)) holds.cells publishing.published.well_formed finishing.same).0

  -- as long as before, with the put counted
  words_are : after i.words (stores_of i.words i.used key value) ≡ set published 0 (slice_index i.words 0 + 1)
  unfolding finish published
  words_are = ap (λ (l : List WordStore). after i.words l) (sym whole) ∙ last.words

  published_size : length published ≡ length i.words
  unfolding published
  published_size = last.size

  pub same_size : length (after i.words (stores_of i.words i.used key value)) ≡ length i.words
  same_size = ap (λ (l : List ℕ). length l) words_are ∙ (length-set published 0 (slice_index i.words 0 + 1) ∙ published_size)

  counted : slice_index (after i.words (stores_of i.words i.used key value)) 0 ≡ slice_index i.words 0 + 1
  counted = ap (λ (l : List ℕ). slice_index l 0) words_are ∙ get_or-set_same published 0 (slice_index i.words 0 + 1) 0 (omega (arith, published_size, takes.capacity))

  -- after them it holds the put too
  pub put_held : HoldsPuts record { words = after i.words (stores_of i.words i.used key value); used = i.used + (length (stores_of i.words i.used key value) - 2) / 4 } (puts ++ put_at key value i.used ∷ [])
  unfolding finish
  put_held = record {
    ledger = with_put holds.ledger next.0 (put_at key value i.used);
    cells = holds.cells;
    image = finished;
    puts_are = ap (λ (l : List Put). l ++ put_at key value i.used ∷ []) holds.puts_are;
    taken = omega (arith, publishing.taken, holds.taken, length-append holds.ledger.owners next.0, ap (λ (l : List WordStore). length l) shape.all, length-append shape.front (shape.publish ∷ finish ∷ []));
    number = omega (arith, counted, holds.number, length-append holds.ledger.puts (put_at key value i.used ∷ []));
  }

-- the image behind a put whose stores made its words ws and took n cells
abbrev pub behind : Vec ℕ Global → ℕ → List ℕ → ℕ → Held
behind v used ws n = record { words = (with_items v ws).items; used = used + n }

-- a put that is planned on the words of a vector and made in them
module _ (v : Vec ℕ Global) {used : ℕ} {key value : List ℕ} {i : Held} {read old ws : List ℕ} {stores : List WordStore} {n : ℕ}
    (view : record { words = v.items; used = used } ≡ i) (takes : TakesPut i key value) (bytes : ItemsAreBytes key) (value_bytes : ItemsAreBytes value)
    (is_read : read ≡ v.items) (long : length read ≡ v.len) (planned : stores ≡ stores_of read used key value)
    (is_old : old ≡ v.items) (made : ws ≡ after old stores) (counted : n ≡ (length stores - 2) / 4) where
  takes_before : TakesPut record { words = v.items; used = used } key value
  takes_before = subst (λ (h : Held). TakesPut h key value) (sym view) takes

  planned_there : stores ≡ stores_of v.items used key value
  planned_there = planned ∙ ap (λ (w : List ℕ). stores_of w used key value) is_read

  made_there : ws ≡ after v.items (stores_of v.items used key value)
  made_there = made ∙ (ap (λ (w : List ℕ). after w stores) is_old ∙ ap (λ (l : List WordStore). after v.items l) planned_there)

  items_are : (with_items v ws).items ≡ after v.items (stores_of v.items used key value)
  items_are = with_items_is v ws (ap (λ (l : List ℕ). length l) made_there ∙ (length-after v.items (stores_of v.items used key value) ∙ (ap (λ (l : List ℕ). length l) (sym is_read) ∙ long))) ∙ made_there

  behind_is : record { words = after v.items (stores_of v.items used key value); used = used + (length (stores_of v.items used key value) - 2) / 4 } ≡ behind v used ws n
  behind_is = ap (λ (w : List ℕ). record { words = w; used = used + (length (stores_of v.items used key value) - 2) / 4 }) (sym items_are) ∙ ap (λ (m : ℕ). record { words = (with_items v ws).items; used = used + m }) (sym (counted ∙ ap (λ (l : List WordStore). (length l - 2) / 4) planned_there))

  -- it holds the put too
  pub holds_more : (puts : List Put) → HoldsPuts record { words = v.items; used = used } puts → HoldsPuts (behind v used ws n) (puts ++ put_at key value used ∷ [])
  holds_more puts holds = subst (λ (h : Held). HoldsPuts h (puts ++ put_at key value used ∷ [])) behind_is (put_held record { words = v.items; used = used } puts key value takes_before bytes value_bytes holds)

  -- and its number of cells is in range
  pub used_fits : (puts : List Put) → HoldsPuts record { words = v.items; used = used } puts → used + n ≤ 2 ^ 22
  used_fits puts holds = let h = holds_more puts holds in omega (arith, h.taken, h.image.image.capacity, h.image.image.small)

  -- so the put is made
  pub puts_it : PutsOne i (behind v used ws n) key value
  puts_it = subst (λ (h : Held). PutsOne h (behind v used ws n) key value) view (record { stores = items_are; added = holds_more })
