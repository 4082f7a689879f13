-- The writer's events: each store of the put under way.
use Rattle.std.proofs.Common.{◌≡◌, ◌≢◌, ℕ, ◌/◌, ◌≤◌, List, [], ◌∷◌, ◌++◌, length, set, slice_index, Option, Some, None, refl, sym, ap, ◌∙◌, subst, inr, ⊎_elim, arith, append_assoc, length-append, get_or-set_other}
use Rattle.trie_image.specs.declared.Owner.{Owner}
use Rattle.trie_image.specs.declared.Put.{Put}
use Rattle.trie_image.specs.declared.Ledger.{Ledger}
use Rattle.trie_image.specs.declared.StoreKind.{StoreKind}
use Rattle.trie_image.specs.declared.StoreKind.TheVariants.{Prepare, Publish, Finish}
use Rattle.trie_image.specs.declared.WordStore.{WordStore}
use Rattle.trie_image.specs.WellFormed.{IsWellFormed}
use Rattle.trie_image.specs.Same.{IsSame}
use Rattle.trie_image.specs.Place.{place_sees}
use Rattle.trie_image.specs.Stores.{stores_of, CanPut}
use Rattle.trie_image.specs.Laws.{ArePrepares}
use Rattle.trie_image.specs.After.{after}
use Rattle.trie_image.specs.Publish.{put_at, with_put, IsPublished}
use Rattle.trie_image.specs.NextStore.{GoesOn, Does, IsNextStore}
use Rattle.trie_image.proofs.PublicLaws.{law_same, law_fresh, law_shape, law_next_store}
use Rattle.trie_machine.specs.declared.Begun.{Begun}
use Rattle.trie_machine.specs.declared.Find.{Find}
use Rattle.trie_machine.specs.declared.Reader.{Reader}
use Rattle.trie_machine.specs.Fresh.{IsFresh}
use Rattle.trie_machine.specs.State.{MachineState, IsBefore, IsBeforeNext, IsBegun, IsWriting, IsFinding, IsReader, IsMachine}
use Rattle.trie_machine.specs.Events.{with_done}
use Rattle.trie_machine.specs.Laws.{LawBegin, LawPrepare, LawPublish, LawFinish, LawStoreInside}
use Rattle.trie_machine.proofs.FreshLemmas.{fresh_longer, fresh_new}

-- the readers over words that no pointer tells apart
module _ (w w' : List ℕ) (g : Ledger) (cells : ℕ) (ok : IsWellFormed w g cells) (same : IsSame w w' g) where
  find_same : (front : ℕ) (o : Option Find) → IsFinding w g front o → IsFinding w' g front o
  find_same front None h = tt
  find_same front (Some f) h = let p = (law_same w w' g cells ok same).2 f.key f.place h.place in record { is_key = h.is_key; base = h.base; place = p.0; fresh = subst (IsFresh g.puts f.key f.base) (sym p.1) h.fresh }

  reader_same : (r : Reader) → IsReader w g r → IsReader w' g r
  reader_same r h = record { front = h.front; find = find_same r.front r.find h.find }

-- the readers over words in which a put was published
module _ (w w' : List ℕ) (g : Ledger) (cells : ℕ) (own : List Owner) (put : Put) (done : IsPublished w w' g cells own put) where
  find_published : (front : ℕ) (o : Option Find) → front ≤ length g.puts → IsFinding w g front o → IsFinding w' (with_put g own put) front o
  find_published front None most h = tt
  find_published front (Some f) most h = let p = done.places f.key f.place h.place in let low : f.base ≤ length g.puts = omega (arith, h.base) in record {
    is_key = h.is_key;
    base = h.base;
    place = p.0;
    fresh = ⊎_elim (λ (e : place_sees w' f.key f.place ≡ place_sees w f.key f.place). subst (IsFresh (g.puts ++ put ∷ []) f.key f.base) (sym e) (fresh_longer g.puts put f.key f.base low (place_sees w f.key f.place) h.fresh))
        (λ (t : (f.key ≡ put.key) × (place_sees w' f.key f.place ≡ Some put.cell)). fresh_new g.puts put f.key f.base low (place_sees w' f.key f.place) t.0 t.1) p.1;
  }

  reader_published : (r : Reader) → IsReader w g r → IsReader w' (with_put g own put) r
  reader_published r h = record { front = omega (arith, h.front, length-append g.puts (put ∷ [])); find = find_published r.front r.find h.front h.find }

-- before a store that isn't the Finish
module _ (words : List ℕ) (cells : ℕ) (g from : Ledger) (put : Put) (same : from ≡ g) (counted : slice_index words 0 ≡ length g.puts) where
  before_kind : (k : StoreKind) → k ≢ Finish → IsBefore words cells g from put k
  before_kind Prepare ne = (same, counted)
  before_kind Publish ne = (same, counted)
  before_kind Finish ne = absurd (ne refl)

  before_next : (left : List WordStore) → GoesOn left → IsBeforeNext words cells g from put left
  before_next [] h = absurd h
  before_next (s ∷ left) ne = before_kind s.kind ne

-- the first store of a put
first_store : (front : List WordStore) (publish finish : WordStore) → ArePrepares front → publish.kind ≡ Publish → GoesOn (front ++ publish ∷ finish ∷ [])
first_store [] publish finish h is = λ e. let z : Publish ≡ Finish = sym is ∙ e in absurd (cc)
first_store (s ∷ front) publish finish h is = λ e. let z : Prepare ≡ Finish = sym h.0 ∙ e in absurd (cc)

pub begins : LawBegin
begins m m' key value ok b =
    let counted : slice_index m.words 0 ≡ length ok.image.ledger.puts = subst (IsWriting m.words m.cells ok.image.ledger) b.free ok.writing in
    let shape = law_shape m.words m.used key value in
    let can : CanPut m.words m.used key value = record { ledger = ok.image.ledger; cells = m.cells; image = ok.image.image; taken = sym ok.image.taken; number = counted; is_key = b.is_key; is_value = b.is_value; capacity = b.capacity } in
    subst IsMachine (sym b.next) record {
      image = ok.image;
      writing = record {
        from = m.words;
        used = m.used;
        can = can;
        cells_are = refl;
        stores = refl;
        made = refl;
        before = before_next m.words m.cells ok.image.ledger ok.image.ledger (put_at key value m.used) refl counted (stores_of m.words m.used key value) (subst GoesOn (sym shape.all) (first_store shape.front shape.publish _ shape.prepared shape.published));
      };
      readers = ok.readers;
    }

-- the next store of a put under way
module _ (words : List ℕ) (cells : ℕ) (g : Ledger) (b : Begun) (s : WordStore) (left : List WordStore) (next : b.left ≡ s ∷ left) (u : IsBegun words cells g b) where
  abbrev put : Put
  put = put_at b.key b.value u.used

  all : stores_of u.from u.used b.key b.value ≡ b.done ++ s ∷ left
  all = u.stores ∙ ap (λ (l : List WordStore). b.done ++ l) next

  own : List Owner
  own = let law = law_next_store u.from u.used b.key b.value u.can in law.0

  at : IsNextStore u.from u.can.ledger u.can.cells own (put_at b.key b.value u.used) b.done s left
  unfolding own
  at = let law = law_next_store u.from u.used b.key b.value u.can in law.1 b.done left s all

  words_are : after u.from (b.done ++ s ∷ []) ≡ set words s.word s.value
  words_are = let a = at in a.words ∙ ap (λ (l : List ℕ). set l s.word s.value) (sym u.made)

  does : (k : StoreKind) → s.kind ≡ k → Does words (set words s.word s.value) u.can.ledger u.can.cells own (put_at b.key b.value u.used) b.done s left k
  does k e = let a = at in subst (λ (x : StoreKind). Does words (set words s.word s.value) u.can.ledger u.can.cells own (put_at b.key b.value u.used) b.done s left x) e
      (subst (λ (x : List ℕ). Does x (set words s.word s.value) u.can.ledger u.can.cells own (put_at b.key b.value u.used) b.done s left s.kind) (sym u.made)
      (subst (λ (x : List ℕ). Does (after u.from b.done) x u.can.ledger u.can.cells own (put_at b.key b.value u.used) b.done s left s.kind) words_are a.does))

  before : (k : StoreKind) → s.kind ≡ k → IsBefore words cells g u.can.ledger (put_at b.key b.value u.used) k
  before k e = subst (λ (x : StoreKind). IsBefore words cells g u.can.ledger (put_at b.key b.value u.used) x) e (subst (λ (l : List WordStore). IsBeforeNext words cells g u.can.ledger (put_at b.key b.value u.used) l) next u.before)

  rest : stores_of u.from u.used b.key b.value ≡ (b.done ++ s ∷ []) ++ left
  rest = all ∙ sym (append_assoc b.done (s ∷ []) left)

  -- word 0 stands under a store of another word
  stands : s.word ≢ 0 → slice_index (set words s.word s.value) 0 ≡ slice_index words 0
  stands beside = get_or-set_other words s.word 0 s.value 0 (λ z. beside (sym z))

  -- a Prepare store
  prepared_same : s.kind ≡ Prepare → IsSame words (set words s.word s.value) g
  prepared_same e = let d = does Prepare e in subst (λ (l : Ledger). IsSame words (set words s.word s.value) l) (before Prepare e).0 d.same

  prepared_begun : s.kind ≡ Prepare → IsBegun (set words s.word s.value) cells g (with_done b s left)
  prepared_begun e = let d = does Prepare e in record {
    from = u.from;
    used = u.used;
    can = u.can;
    cells_are = u.cells_are;
    stores = rest;
    made = sym words_are;
    before = before_next (set words s.word s.value) cells g u.can.ledger (put_at b.key b.value u.used) (before Prepare e).0 (stands d.beside ∙ (before Prepare e).1) left d.goes_on;
  }

  -- the publishing store
  published : s.kind ≡ Publish → IsPublished words (set words s.word s.value) g cells own (put_at b.key b.value u.used)
  published e = let d = does Publish e in subst (λ (n : ℕ). IsPublished words (set words s.word s.value) g n own (put_at b.key b.value u.used)) u.cells_are
      (subst (λ (l : Ledger). IsPublished words (set words s.word s.value) l u.can.cells own (put_at b.key b.value u.used)) (before Publish e).0 d.published)

  published_begun : s.kind ≡ Publish → IsBegun (set words s.word s.value) cells (with_put g own (put_at b.key b.value u.used)) (with_done b s left)
  published_begun e = let d = does Publish e in let h = before Publish e in record {
    from = u.from;
    used = u.used;
    can = u.can;
    cells_are = u.cells_are;
    stores = rest;
    made = sym words_are;
    before = subst (λ (l : List WordStore). IsBeforeNext (set words s.word s.value) cells (with_put g own (put_at b.key b.value u.used)) u.can.ledger (put_at b.key b.value u.used) l) (sym d.finish)
        (ap (λ (l : Ledger). l.puts ++ put_at b.key b.value u.used ∷ []) (sym h.0), omega (arith, stands d.beside, h.1, length-append g.puts (put_at b.key b.value u.used ∷ [])));
  }

  published_taken : s.kind ≡ Publish → length b.done / 4 ≡ length own
  published_taken e = let d = does Publish e in d.taken

  cell_is : s.kind ≡ Publish → u.used ≡ length g.owners
  cell_is e = let can = u.can in can.taken ∙ ap (λ (l : Ledger). length l.owners) (before Publish e).0

  -- the Finish
  finish_word : s.kind ≡ Finish → s.word ≡ 0
  finish_word e = let d = does Finish e in ap (λ (x : WordStore). x.word) d.is_finish

  finish_counts : s.kind ≡ Finish → slice_index (set words s.word s.value) 0 ≡ length g.puts
  finish_counts e = let d = does Finish e in d.counted ∙ (before Finish e).1

-- the put under way of a state
under_way : (m : MachineState) (ok : IsMachine m) (b : Begun) → m.begun ≡ Some b → IsBegun m.words m.cells ok.image.ledger b
under_way m ok b e = subst (IsWriting m.words m.cells ok.image.ledger) e ok.writing

pub prepares : LawPrepare
prepares m m' ok p = let n = p.is_next in let u = under_way m ok p.put n.begun in let g : Ledger = ok.image.ledger in let image = ok.image in
    let same : IsSame m.words (set m.words p.store.word p.store.value) ok.image.ledger = prepared_same m.words m.cells ok.image.ledger p.put p.store p.left n.next u n.kind_is in
    subst IsMachine (sym p.next) record {
      image = record { ledger = ok.image.ledger; taken = image.taken; puts_are = image.puts_are; image = (law_same m.words (set m.words p.store.word p.store.value) ok.image.ledger m.cells image.image same).0 };
      writing = prepared_begun m.words m.cells ok.image.ledger p.put p.store p.left n.next u n.kind_is;
      readers = λ i r at. reader_same m.words (set m.words p.store.word p.store.value) ok.image.ledger m.cells image.image same r (ok.readers i r at);
    }

pub publishes : LawPublish
publishes m m' ok p = let n = p.is_next in let u = under_way m ok p.put n.begun in let image = ok.image in
    let new : List Owner = own m.words m.cells ok.image.ledger p.put p.store p.left n.next u in
    let done = published m.words m.cells ok.image.ledger p.put p.store p.left n.next u n.kind_is in
    let cell : u.used ≡ m.used = cell_is m.words m.cells ok.image.ledger p.put p.store p.left n.next u n.kind_is ∙ image.taken in
    let cells_taken = published_taken m.words m.cells ok.image.ledger p.put p.store p.left n.next u n.kind_is in
    subst IsMachine (sym p.next) record {
      image = record {
        ledger = with_put ok.image.ledger (own m.words m.cells ok.image.ledger p.put p.store p.left n.next u) (put_at p.put.key p.put.value u.used);
        taken = omega (arith, length-append ok.image.ledger.owners (own m.words m.cells ok.image.ledger p.put p.store p.left n.next u), image.taken, cells_taken);
        puts_are = ap (λ (l : List Put). l ++ put_at p.put.key p.put.value u.used ∷ []) image.puts_are ∙ ap (λ (c : ℕ). m.puts ++ put_at p.put.key p.put.value c ∷ []) cell;
        image = done.well_formed;
      };
      writing = published_begun m.words m.cells ok.image.ledger p.put p.store p.left n.next u n.kind_is;
      readers = λ i r at. reader_published m.words (set m.words p.store.word p.store.value) ok.image.ledger m.cells (own m.words m.cells ok.image.ledger p.put p.store p.left n.next u) (put_at p.put.key p.put.value u.used) done r (ok.readers i r at);
    }

pub finishes : LawFinish
finishes m m' ok p = let n = p.is_next in let u = under_way m ok p.put n.begun in let image = ok.image in
    let same : IsSame m.words (set m.words p.store.word p.store.value) ok.image.ledger = law_fresh m.words ok.image.ledger m.cells p.store.word p.store.value image.image.image (inr (finish_word m.words m.cells ok.image.ledger p.put p.store p.left n.next u n.kind_is)) in
    subst IsMachine (sym p.next) record {
      image = record { ledger = ok.image.ledger; taken = image.taken; puts_are = image.puts_are; image = (law_same m.words (set m.words p.store.word p.store.value) ok.image.ledger m.cells image.image same).0 };
      writing = finish_counts m.words m.cells ok.image.ledger p.put p.store p.left n.next u n.kind_is;
      readers = λ i r at. reader_same m.words (set m.words p.store.word p.store.value) ok.image.ledger m.cells image.image same r (ok.readers i r at);
    }

pub store_inside : LawStoreInside
store_inside m b s left kind ok n = let u = under_way m ok b n.begun in let a = at m.words m.cells ok.image.ledger b s left n.next u in omega (arith, a.inside, a.size, ap (λ (l : List ℕ). length l) u.made)
