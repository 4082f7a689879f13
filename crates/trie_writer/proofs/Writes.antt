-- Each store of a put, and all of them.
use Rattle.std.proofs.Common.{◌≡◌, ◌≢◌, ℕ, zero, suc, ◌+◌, ◌-◌, ◌/◌, ◌<◌, List, [], ◌∷◌, ◌++◌, length, drop, slice_get, slice_index, ◌≤◌, Option, Some, None, refl, sym, ap, ◌∙◌, subst, arith, length-append}
use Rattle.trie_image.specs.declared.StoreKind.{StoreKind}
use Rattle.trie_image.specs.declared.StoreKind.TheVariants.{Prepare, Publish, Finish}
use Rattle.trie_image.specs.declared.WordStore.{WordStore}
use Rattle.trie_image.specs.Stores.{store_at, stores_of}
use Rattle.trie_image.specs.Laws.{ArePrepares}
use Rattle.trie_image.specs.Publish.{put_at}
use Rattle.trie_image.specs.After.{after}
use Rattle.trie_image.proofs.PublicLaws.{law_shape}
use Rattle.trie_machine.specs.declared.Begun.{Begun}
use Rattle.trie_machine.specs.Events.{with_done}
use Rattle.trie_rule.specs.declared.views.WriteView.{WriteView}
use Rattle.trie_rule.specs.Kinds.{begun_by, begun_or, MayPut, after_store, wrote_by, wrote}
use Rattle.trie_rule.specs.Seats.{IsNext}
use Rattle.trie_writer.specs.Written.{after_all, put_view, IsPutting}

-- only the last store is the Finish
inner_kind : (front : List WordStore) (publish finish : WordStore) → ArePrepares front → publish.kind ≡ Publish → (at : ℕ) (s : WordStore) → slice_get (front ++ publish ∷ finish ∷ []) at ≡ Some s → at + 1 < length (front ++ publish ∷ finish ∷ []) → s.kind ≢ Finish
inner_kind [] publish finish all is zero s e less = λ k. let same : publish ≡ s = cc in let z : Publish ≡ Finish = sym is ∙ ap (λ (x : WordStore). x.kind) same ∙ k in cc
inner_kind [] publish finish all is (suc at) s e less = absurd (omega arith)
inner_kind (x ∷ front) publish finish all is zero s e less = λ k. let same : x ≡ s = cc in let z : Prepare ≡ Finish = sym all.0 ∙ ap (λ (y : WordStore). y.kind) same ∙ k in cc
inner_kind (x ∷ front) publish finish all is (suc at) s e less = inner_kind front publish finish all.1 is at s e (omega arith)

drops_suc : (l : List WordStore) (at : ℕ) (s : WordStore) → slice_get l at ≡ Some s → drop at l ≡ s ∷ drop (suc at) l
drops_suc [] at s e = absurd (cc)
drops_suc (x ∷ xs) zero s e = let same : x ≡ s = cc in ap (λ (y : WordStore). y ∷ xs) same
drops_suc (x ∷ xs) (suc at) s e = drops_suc xs at s e

drops : (l : List WordStore) (at : ℕ) (s : WordStore) → slice_get l at ≡ Some s → drop at l ≡ s ∷ drop (at + 1) l
drops l at s e = let one : suc at ≡ at + 1 = omega arith in drops_suc l at s e ∙ ap (λ (n : ℕ). s ∷ drop n l) one

-- one store more
begun_after : (w : WriteView) (key value : List ℕ) (b : Begun) (s : WordStore) (left : List WordStore) (k : StoreKind) → k ≢ Finish → b.key ≡ key → b.value ≡ value
    → let w' : WriteView = after_store w b s left k in MayPut w' key value w'.begun × (begun_or w' key value ≡ with_done b s left)
begun_after w key value b s left Prepare ne ks vs = ((ks, vs), refl)
begun_after w key value b s left Publish ne ks vs = ((ks, vs), refl)
begun_after w key value b s left Finish ne ks vs = absurd (ne refl)

keys_by : (w : WriteView) (key value : List ℕ) (o : Option Begun) → MayPut w key value o → ((begun_by w key value o).key ≡ key) × ((begun_by w key value o).value ≡ value)
keys_by w key value None h = (refl, refl)
keys_by w key value (Some b) h = h

pub goes : (w w' : WriteView) (key value : List ℕ) (stores : List WordStore) (at : ℕ) (s : WordStore) → stores ≡ stores_of w.image w.used key value → IsPutting w w' key value stores at → slice_get stores at ≡ Some s → at < length stores → IsPutting w (wrote w' key value) key value stores (at + 1)
goes w w' key value stores at s is g there less =
    let shape = law_shape w.image w.used key value in
    let m = g.more less in
    let b : Begun = g.put in
    let left : List WordStore = drop (at + 1) stores in
    let rest : drop at stores ≡ s ∷ left = drops stores at s there in
    let now : wrote w' key value ≡ after_store w' g.put s (drop (at + 1) stores) s.kind = ap (λ (x : Begun). wrote_by w' x x.left) m.1 ∙ ap (λ (l : List WordStore). wrote_by w' g.put l) (m.2 ∙ rest) in
    let keys = keys_by w' key value w'.begun m.0 in
    let finish : WordStore = store_at 0 (slice_index w.image 0 + 1) Finish in
    let inner : at + 1 < length stores → s.kind ≢ Finish = λ more. inner_kind shape.front shape.publish finish shape.prepared shape.published at s (subst (λ (l : List WordStore). slice_get l at ≡ Some s) (is ∙ shape.all) there) (subst (λ (l : List WordStore). at + 1 < length l) (is ∙ shape.all) more) in
    subst (λ (x : WriteView). IsPutting w x key value stores (at + 1)) (sym now) record {
      put = with_done g.put s (drop (at + 1) stores);
      more = λ more. let h = begun_after w' key value g.put s (drop (at + 1) stores) s.kind (inner more) (ap (λ (x : Begun). x.key) (sym m.1) ∙ keys.0) (ap (λ (x : Begun). x.value) (sym m.1) ∙ keys.1) in (h.0, h.1, refl);
      same = subst (λ (l : List WordStore). after_all w' g.put l ≡ after_all w (begun_or w key value) stores) rest g.same;
    }

pub next : (w w' : WriteView) (key value : List ℕ) (stores : List WordStore) (at : ℕ) (s : WordStore) → IsPutting w w' key value stores at → slice_get stores at ≡ Some s → at < length stores → IsNext w' key value s
next w w' key value stores at s g there less = let m = g.more less in record { may = m.0; left = drop (at + 1) stores; is = ap (λ (x : Begun). x.left) m.1 ∙ m.2 ∙ drops stores at s there }

-- all stores
finish_all : (front : List WordStore) (w : WriteView) (b : Begun) (publish : WordStore) (number : ℕ) (n : ℕ) → ArePrepares front → publish.kind ≡ Publish → n ≡ length b.done + length front
    → after_all w b (front ++ publish ∷ store_at 0 number Finish ∷ [])
    ≡ record { cells = w.cells; image = after w.image (front ++ publish ∷ store_at 0 number Finish ∷ []); used = w.used + n / 4; made = w.made ++ put_at b.key b.value w.used ∷ []; begun = None }
finish_all [] w b publish number n all is count =
    let same : length b.done ≡ n = omega (arith, count) in
    let finish : WordStore = store_at 0 number Finish in
    ap (λ (k : StoreKind). after_store (after_store w b publish (finish ∷ []) k) (with_done b publish (finish ∷ [])) finish [] Finish) is
    ∙ ap (λ (m : ℕ). record { cells = w.cells; image = after w.image (publish ∷ finish ∷ []); used = w.used + m / 4; made = w.made ++ put_at b.key b.value w.used ∷ []; begun = None }) same
finish_all (x ∷ front) w b publish number n all is count =
    let rest : List WordStore = front ++ publish ∷ store_at 0 number Finish ∷ [] in
    ap (λ (k : StoreKind). after_all (after_store w b x rest k) (with_done b x rest) rest) all.0
    ∙ finish_all front (after_store w b x rest Prepare) (with_done b x rest) publish number n all.1 is (omega (arith, count, length-append b.done (x ∷ [])))

pub ends : (w w' : WriteView) (key value : List ℕ) (stores : List WordStore) (at : ℕ) → w.begun ≡ None → stores ≡ stores_of w.image w.used key value → IsPutting w w' key value stores at → length stores ≤ at → w' ≡ put_view w key value stores
ends w w' key value stores at idle is g past =
    let shape = law_shape w.image w.used key value in
    let all : stores ≡ shape.front ++ shape.publish ∷ store_at 0 (slice_index w.image 0 + 1) Finish ∷ [] = is ∙ shape.all in
    let none_left : drop at stores ≡ [] = dropped stores at past in
    let one : w' ≡ after_all w (begun_or w key value) stores = subst (λ (l : List WordStore). after_all w' g.put l ≡ after_all w (begun_or w key value) stores) none_left g.same in
    let first : Begun = begun_by w key value None in
    let started : begun_or w key value ≡ begun_by w key value None = ap (λ (o : Option Begun). begun_by w key value o) idle in
    let two = finish_all shape.front w first shape.publish (slice_index w.image 0 + 1) (length shape.front) shape.prepared shape.published (omega arith) in
    let count : length shape.front ≡ length stores - 2 = omega (arith, ap (λ (l : List WordStore). length l) all, length-append shape.front (shape.publish ∷ store_at 0 (slice_index w.image 0 + 1) Finish ∷ [])) in
    one ∙ (λ k. after_all w (started k) (all k)) ∙ two
    ∙ (λ k. record { cells = w.cells; image = after w.image (sym all k); used = w.used + count k / 4; made = w.made ++ put_at key value w.used ∷ []; begun = None })
  where
    dropped : (l : List WordStore) (n : ℕ) → length l ≤ n → drop n l ≡ []
    dropped [] zero h = refl
    dropped [] (suc n) h = refl
    dropped (y ∷ ys) zero h = absurd (omega arith)
    dropped (y ∷ ys) (suc n) h = dropped ys n (omega arith)

pub first : (w : WriteView) (key value : List ℕ) (stores : List WordStore) → w.begun ≡ None → MayPut w key value None → stores ≡ stores_of w.image w.used key value → IsPutting w w key value stores 0
first w key value stores idle may is = record {
  put = begun_or w key value;
  more = λ h. (subst (MayPut w key value) (sym idle) may, refl, ap (λ (o : Option Begun). (begun_by w key value o).left) idle ∙ sym is);
  same = refl;
}

pub there : (l : List WordStore) (at : ℕ) → at < length l → (s : WordStore) × (slice_get l at ≡ Some s)
there [] at h = absurd (omega arith)
there (x ∷ xs) zero h = (x, refl)
there (x ∷ xs) (suc at) h = there xs at (omega arith)
