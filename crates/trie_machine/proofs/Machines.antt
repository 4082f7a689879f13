-- The machine at run time: what its fields are after an event, from the laws.
use Rattle.std.proofs.Common.{◌≡◌, ◌≢◌, max, get_or, slice_index, ℕ, zero, suc, ◌+◌, ◌/◌, ◌^◌, ◌<◌, ◌≤◌, List, [], ◌∷◌, ◌++◌, length, set, Option, Some, None, refl, sym, ap, ◌∙◌, subst, arith}
use mathlib.Core.Option.{some}
use lib.ListN.{get_elem?}
use Rattle.trie_image.specs.declared.Put.{Put}
use Rattle.trie_image.specs.declared.Place.{Place}
use Rattle.trie_image.specs.declared.Rec.{Rec}
use Rattle.trie_image.specs.declared.Advance.{Advance}
use Rattle.trie_image.specs.declared.Advance.TheVariants.{On, Found, Absent}
use Rattle.trie_image.specs.declared.StoreKind.{StoreKind}
use Rattle.trie_image.specs.declared.StoreKind.TheVariants.{Prepare, Publish, Finish}
use Rattle.trie_image.specs.declared.WordStore.{WordStore}
use Rattle.trie_image.specs.Puts.{IsKey, IsValue}
use Rattle.trie_image.specs.Place.{start_place, next_word_of, outcome_of}
use Rattle.trie_image.specs.Stores.{stores_of, cost}
use Rattle.trie_image.specs.Publish.{put_at}
use Rattle.trie_machine.specs.declared.Begun.{Begun}
use Rattle.trie_machine.specs.declared.Find.{Find}
use Rattle.trie_machine.specs.declared.Reader.{Reader}
use Rattle.trie_machine.specs.declared.Outcome.{Outcome}
use Rattle.trie_machine.specs.State.{MachineState, IsMachine}
use Rattle.trie_machine.specs.Events.{new_put, HasNext, with_done, Prepares, Publishes, Finishes, with_reader, resting, starting, IsResting, Fronts, HasFind, loaded, reader_after, Loads, LoadTells, HasWord, Copies, value_word_at, Splits, Joins}
use Rattle.trie_machine.specs.Counted.{Counted, load_answer, IsLegalLoad}
use Rattle.trie_machine.proofs.Lists.{is_there, get_inside}
use Rattle.trie_machine.proofs.Readers.{fronts, loads, copies, splits, joins, load_inside}
use Rattle.trie_machine.proofs.Writers.{begins, prepares, publishes, finishes, store_inside}

-- a machine whose fields are those of the state m, seen as `now`, and the next store of its put under way
module _ (m : MachineState) (events : ℕ) (now : Counted) (view : record { state = m; events = events } ≡ now) (ok : IsMachine m) (s : WordStore) (k : StoreKind) (told : (b : Begun) × (left : List WordStore) × HasNext now.state b s left k) where
  has : (b : Begun) × (left : List WordStore) × HasNext m b s left k
  has = subst (λ (x : Counted). (b : Begun) × (left : List WordStore) × HasNext x.state b s left k) (sym view) told

  pub next_inside : s.word < length m.words
  next_inside = let h = has in store_inside m h.0 s h.1 k ok h.2

  pub has_store : (b : Begun) × (left : List WordStore) × (m.begun ≡ Some b) × (b.left ≡ s ∷ left)
  has_store = let h = has in (h.0, h.1, h.2.begun, h.2.next)

  pub is_some : (b : Begun) × (m.begun ≡ Some b)
  is_some = let h = has in (h.0, h.2.begun)

  next_as : (kind : StoreKind) → k ≡ kind → (b : Begun) × (left : List WordStore) × HasNext m b s left kind
  next_as kind e = subst (λ (x : StoreKind). (b : Begun) × (left : List WordStore) × HasNext m b s left x) e has

  -- the cells that the put takes are in range
  pub filled_fit : k ≡ Publish → (b : Begun) → m.begun ≡ Some b → m.used + length b.done / 4 ≤ 2 ^ 22
  filled_fit e b at = let h = next_as Publish e in let image = ok.image in
      let done = publishes m _ ok record { put = h.0; store = s; left = h.1; is_next = h.2; next = refl } in let after_it = done.image in
      let both : Some b ≡ Some h.0 = sym at ∙ h.2.begun in let same : b ≡ h.0 = cc in
      subst (λ (x : Begun). m.used + length x.done / 4 ≤ 2 ^ 22) (sym same) (omega (arith, after_it.taken, after_it.image.image.capacity, after_it.image.image.small))

  module _ (words : List ℕ) (is_words : words ≡ set m.words s.word s.value) where
    -- after the Finish
    pub finished : (begun : Option Begun) → begun ≡ None → k ≡ Finish → Finishes m (record m { words = words; begun = begun })
    finished begun none_ e = let h = next_as Finish e in record { put = h.0; store = s; left = h.1; is_next = h.2; next = ap (λ (w : List ℕ). record m { words = w; begun = begun }) is_words ∙ ap (λ (o : Option Begun). record m { words = set m.words s.word s.value; begun = o }) none_ }

    pub finished_machine : (begun : Option Begun) → begun ≡ None → k ≡ Finish → IsMachine (record m { words = words; begun = begun })
    finished_machine begun none_ e = finishes m (record m { words = words; begun = begun }) ok (finished begun none_ e)

    module _ (begun : Option Begun) (is_begun : (b : Begun) (left : List WordStore) → m.begun ≡ Some b → b.left ≡ s ∷ left → begun ≡ Some (with_done b s left)) where
      -- after a Prepare store
      pub prepared : k ≡ Prepare → Prepares m (record m { words = words; begun = begun })
      prepared e = let h = next_as Prepare e in record {
        put = h.0;
        store = s;
        left = h.1;
        is_next = h.2;
        next = ap (λ (w : List ℕ). record m { words = w; begun = begun }) is_words ∙ ap (λ (o : Option Begun). record m { words = set m.words s.word s.value; begun = o }) (is_begun h.0 h.1 h.2.begun h.2.next);
      }

      pub prepared_machine : k ≡ Prepare → IsMachine (record m { words = words; begun = begun })
      prepared_machine e = prepares m (record m { words = words; begun = begun }) ok (prepared e)

      -- after the publishing store
      module _ (puts : List Put) (filled : ℕ) (is_puts : (b : Begun) → m.begun ≡ Some b → puts ≡ m.puts ++ put_at b.key b.value m.used ∷ []) (is_filled : (b : Begun) → m.begun ≡ Some b → filled ≡ length b.done / 4) where
        pub published : k ≡ Publish → Publishes m (record m { words = words; used = m.used + filled; puts = puts; begun = begun })
        published e = let h = next_as Publish e in record {
          put = h.0;
          store = s;
          left = h.1;
          is_next = h.2;
          next = ap (λ (w : List ℕ). record m { words = w; used = m.used + filled; puts = puts; begun = begun }) is_words
              ∙ (ap (λ (n : ℕ). record m { words = set m.words s.word s.value; used = m.used + n; puts = puts; begun = begun }) (is_filled h.0 h.2.begun)
              ∙ (ap (λ (l : List Put). record m { words = set m.words s.word s.value; used = m.used + length (h.0).done / 4; puts = l; begun = begun }) (is_puts h.0 h.2.begun)
              ∙ ap (λ (o : Option Begun). record m { words = set m.words s.word s.value; used = m.used + length (h.0).done / 4; puts = m.puts ++ put_at (h.0).key (h.0).value m.used ∷ []; begun = o }) (is_begun h.0 h.1 h.2.begun h.2.next)));
        }

        pub published_machine : k ≡ Publish → IsMachine (record m { words = words; used = m.used + filled; puts = puts; begun = begun })
        published_machine e = publishes m (record m { words = words; used = m.used + filled; puts = puts; begun = begun }) ok (published e)

-- a machine whose fields are those of the state m, seen as `now`, and a reader without a find
module _ (m : MachineState) (events : ℕ) (now : Counted) (view : record { state = m; events = events } ≡ now) (i n : ℕ) (told : (r : Reader) × IsResting now.state i r × (r.front ≡ n)) where
  pub rests_there : (r : Reader) × IsResting m i r × (r.front ≡ n)
  rests_there = subst (λ (x : Counted). (r : Reader) × IsResting x.state i r × (r.front ≡ n)) (sym view) told

  pub seat_inside : i < length m.readers
  seat_inside = let r = rests_there in get_inside m.readers i (Some r.0) (is_there m.readers i (Some r.0) r.1.there)

  module _ (key : List ℕ) (is_key : IsKey key) (front : ℕ) (is_front : front ≡ max n (slice_index m.words 0)) (place : Place) (is_start : place ≡ start_place) where
    begun : Some record { front = front; find = Some record { key = key; base = front; place = place } } ≡ Some (starting (max n (slice_index m.words 0)) key)
    begun = ap (λ (k : ℕ). Some record { front = k; find = Some record { key = key; base = k; place = place } }) is_front ∙ ap (λ (p : Place). Some record { front = max n (slice_index m.words 0); find = Some record { key = key; base = max n (slice_index m.words 0); place = p } }) is_start

    pub fronted : Fronts m (with_reader m i (Some record { front = front; find = Some record { key = key; base = front; place = place } })) i key
    fronted = let r = rests_there in record {
      reader = r.0;
      rests = r.1;
      is_key = is_key;
      next = ap (λ (o : Option Reader). with_reader m i o) begun ∙ ap (λ (k : ℕ). with_reader m i (Some (starting (max k (slice_index m.words 0)) key))) (sym r.2);
    }

    pub fronted_machine : IsMachine m → IsMachine (with_reader m i (Some record { front = front; find = Some record { key = key; base = front; place = place } }))
    fronted_machine ok = fronts m (with_reader m i (Some record { front = front; find = Some record { key = key; base = front; place = place } })) i key ok fronted

    -- seen from outside, with the reader's new front
    pub fronted_now : (k : ℕ) → front ≡ k → (f : Fronts now.state (with_reader m i (Some record { front = front; find = Some record { key = key; base = front; place = place } })) i key) × (k ≡ max f.reader.front (slice_index now.state.words 0))
    unfolding fronted rests_there
    fronted_now k e = subst (λ (x : Counted). (f : Fronts x.state (with_reader m i (Some record { front = front; find = Some record { key = key; base = front; place = place } })) i key) × (k ≡ max f.reader.front (slice_index x.state.words 0))) view
        (let r = rests_there in (fronted, sym e ∙ (is_front ∙ ap (λ (x : ℕ). max x (slice_index m.words 0)) (sym r.2))))

-- two readers without a find, one of which ends
module _ (m : MachineState) (events : ℕ) (now : Counted) (view : record { state = m; events = events } ≡ now) (j i a b : ℕ) (apart : j ≢ i) (ending : (r : Reader) × IsResting now.state j r × (r.front ≡ a)) (own : (r : Reader) × IsResting now.state i r × (r.front ≡ b)) (front : ℕ) (is_front : front ≡ max b a) where
  pub joined : Joins m (with_reader (with_reader m i (Some record { front = front; find = None })) j None) j i
  joined = let r = rests_there m events now view i b own in let q = rests_there m events now view j a ending in record {
    from = q.0;
    into = r.0;
    apart = apart;
    from_rests = q.1;
    into_rests = r.1;
    next = ap (λ (k : ℕ). with_reader (with_reader m i (Some (resting k))) j None) (is_front ∙ (ap (λ (x : ℕ). max x a) (sym r.2) ∙ ap (λ (x : ℕ). max (r.0).front x) (sym q.2)));
  }

  pub joined_machine : IsMachine m → IsMachine (with_reader (with_reader m i (Some record { front = front; find = None })) j None)
  joined_machine ok = joins m (with_reader (with_reader m i (Some record { front = front; find = None })) j None) j i ok joined

-- a reader more
module _ (m : MachineState) (i : ℕ) (r : Reader) (there : get_elem? m.readers i ≡ some (Some r)) (fewer : length m.readers < 2 ^ 32) (readers : List (Option Reader)) (is_readers : readers ≡ m.readers ++ Some (resting r.front) ∷ []) where
  pub split_of : Splits m (record m { readers = readers }) i
  split_of = record { reader = r; there = there; fewer = fewer; next = ap (λ (l : List (Option Reader)). record m { readers = l }) is_readers }

  pub split_machine : IsMachine m → IsMachine (record m { readers = readers })
  split_machine ok = splits m (record m { readers = readers }) i ok split_of

-- the word that a find loads
pub find_inside : (m : MachineState) (ok : IsMachine m) (i : ℕ) (r : Reader) (f : Find) → get_elem? m.readers i ≡ some (Some r) → r.find ≡ Some f → (next_word_of f.place < length m.words) × (length m.words ≤ 2 ^ 24)
find_inside m ok i r f at is = let image = ok.image in (load_inside m i r f ok record { there = at; under_way = is }, omega (arith, image.image.image.size, image.image.image.small))

pub outcome_is : (words : List ℕ) (f : Find) (a : Advance) (word n : ℕ) (key : List ℕ) → a ≡ outcome_of f.place word key → key ≡ f.key → word ≡ slice_index words n → n ≡ next_word_of f.place → a ≡ loaded words f
outcome_is words f a word n key out is_key is_word is_next = out ∙ (ap (λ (k : List ℕ). outcome_of f.place word k) is_key ∙ (ap (λ (w : ℕ). outcome_of f.place w f.key) is_word ∙ ap (λ (k : ℕ). outcome_of f.place (slice_index words k) f.key) is_next))

-- the same, seen from outside
pub advanced_now : (m : MachineState) (events : ℕ) (now : Counted) → record { state = m; events = events } ≡ now → (i : ℕ) (r : Reader) (f : Find) (a : Advance) → get_elem? m.readers i ≡ some (Some r) → r.find ≡ Some f → a ≡ loaded m.words f → (x : Reader) × (y : Find) × HasFind now.state i x y × (a ≡ loaded now.state.words y)
advanced_now m events now view i r f a at is out = subst (λ (s : Counted). (x : Reader) × (y : Find) × HasFind s.state i x y × (a ≡ loaded s.state.words y)) view (r, f, record { there = at; under_way = is }, out)

-- an element that was read at a place of a list
pub read_is : (l : List ℕ) (i x : ℕ) → x ≡ get_or l i x → i < length l → x ≡ slice_index l i
read_is [] i x e h = absurd (omega arith)
read_is (y ∷ l) zero x e h = e
read_is (y ∷ l) (suc i) x e h = read_is l i x e (omega arith)

pub has_words : (m : MachineState) (ok : IsMachine m) → 0 < length m.words
has_words m ok = let image = ok.image in omega (arith, image.image.image.size, image.image.image.capacity, image.image.image.fewer)

pub split_now : (m : MachineState) (events : ℕ) (now : Counted) → record { state = m; events = events } ≡ now → (readers : List (Option Reader)) (i count n : ℕ) → Splits m (record m { readers = readers }) i → count ≡ length m.readers → count ≡ n → Splits now.state (record m { readers = readers }) i × (n ≡ length now.state.readers)
split_now m events now view readers i count n s is e = subst (λ (x : Counted). Splits x.state (record m { readers = readers }) i × (n ≡ length x.state.readers)) view (s, sym e ∙ is)

-- a reader whose find moves on or ends
module _ (m : MachineState) (events : ℕ) (now : Counted) (view : record { state = m; events = events } ≡ now) (i : ℕ) (a : Advance) (told : (r : Reader) × (f : Find) × HasFind now.state i r f × (a ≡ loaded now.state.words f)) where
  finds : (r : Reader) × (f : Find) × HasFind m i r f × (a ≡ loaded m.words f)
  finds = subst (λ (x : Counted). (r : Reader) × (f : Find) × HasFind x.state i r f × (a ≡ loaded x.state.words f)) (sym view) told

  module _ (readers : List (Option Reader)) (is_readers : (r : Reader) (f : Find) → get_elem? m.readers i ≡ some (Some r) → r.find ≡ Some f → readers ≡ set m.readers i (Some (reader_after r f a))) where
    pub moved : Loads m (record m { readers = readers }) i
    moved = let h = finds in record {
      reader = h.0;
      find = h.1;
      has_find = h.2;
      next = ap (λ (l : List (Option Reader)). record m { readers = l }) (is_readers h.0 h.1 h.2.there h.2.under_way) ∙ ap (λ (x : Advance). with_reader m i (Some (reader_after h.0 h.1 x))) h.3;
    }

    pub moved_machine : IsMachine m → IsMachine (record m { readers = readers })
    moved_machine ok = (loads m (record m { readers = readers }) i ok moved).0

    pub moved_now : (answer o : Outcome) → ((r : Reader) (f : Find) → get_elem? m.readers i ≡ some (Some r) → r.find ≡ Some f → answer ≡ load_answer f a) → answer ≡ o → (l : Loads now.state (record m { readers = readers }) i) × (o ≡ load_answer l.find (loaded now.state.words l.find))
    unfolding moved
    moved_now answer o is e = subst (λ (x : Counted). (l : Loads x.state (record m { readers = readers }) i) × (o ≡ load_answer l.find (loaded x.state.words l.find))) view
        (let h = finds in (moved, sym e ∙ (is h.0 h.1 h.2.there h.2.under_way ∙ ap (λ (x : Advance). load_answer h.1 x) h.3)))

-- its answer is legal
legal_load : (m : MachineState) (i n : ℕ) (r : Reader) (f : Find) → HasFind m i r f → (a : Advance) → LoadTells m.puts n f a → IsLegalLoad m i (load_answer f a)
legal_load m i n r f finding (On place) h = tt
legal_load m i n r f finding (Found rec) h = (r, f, finding, h)
legal_load m i n r f finding Absent h = (r, f, finding, h)

pub moved_legal : (m : MachineState) (events : ℕ) (now : Counted) → record { state = m; events = events } ≡ now → (i : ℕ) (a : Advance) → (r : Reader) × (f : Find) × HasFind now.state i r f × (a ≡ loaded now.state.words f) → IsMachine m → (answer o : Outcome)
    → ((r : Reader) (f : Find) → get_elem? m.readers i ≡ some (Some r) → r.find ≡ Some f → answer ≡ load_answer f a) → answer ≡ o → IsLegalLoad now.state i o
unfolding moved
moved_legal m events now view i a told ok answer o is e =
    let h = finds m events now view i a told in
    let tells = (loads m (with_reader m i (Some (reader_after h.0 h.1 (loaded m.words h.1)))) i ok record { reader = h.0; find = h.1; has_find = h.2; next = refl }).1 in
    let legal = legal_load m i (length m.words) h.0 h.1 h.2 (loaded m.words h.1) tells in
    let out : o ≡ load_answer h.1 (loaded m.words h.1) = sym e ∙ (is h.0 h.1 h.2.there h.2.under_way ∙ ap (λ (x : Advance). load_answer h.1 x) h.3) in
    subst (λ (x : Counted). IsLegalLoad x.state i o) view (subst (IsLegalLoad m i) (sym out) legal)

-- a word of a value
pub copy_inside : (m : MachineState) (ok : IsMachine m) (rec : Rec) (i : ℕ) → HasWord m.puts rec i → value_word_at rec i < length m.words
copy_inside m ok rec i has = (copies m m rec i ok record { has_word = has; next = refl }).1

pub copied_now : (m : MachineState) (events : ℕ) (now : Counted) → record { state = m; events = events } ≡ now → (rec : Rec) (i reader w : ℕ) (r : Reader) → HasWord m.puts rec i → get_elem? m.readers reader ≡ some (Some r) → w ≡ slice_index m.words (value_word_at rec i)
    → Copies now.state now.state rec i × (w ≡ slice_index now.state.words (value_word_at rec i)) × (x : Reader) × (get_elem? now.state.readers reader ≡ some (Some x))
copied_now m events now view rec i reader w r has at is = subst (λ (s : Counted). Copies s.state s.state rec i × (w ≡ slice_index s.state.words (value_word_at rec i)) × (x : Reader) × (get_elem? s.state.readers reader ≡ some (Some x))) view (record { has_word = has; next = refl }, is, r, at)

-- a put that begins
pub begun_machine : (m : MachineState) (ok : IsMachine m) (key value read : List ℕ) (b : Begun) → m.begun ≡ None → IsKey key → IsValue value → m.used + cost (length key) (length value) ≤ m.cells → read ≡ m.words → b ≡ record { key = key; value = value; done = []; left = stores_of read m.used key value } → IsMachine (record m { begun = Some b })
begun_machine m ok key value read b free is_key is_value capacity is_read is =
    let now : b ≡ new_put m key value = is ∙ ap (λ (w : List ℕ). record { key = key; value = value; done = []; left = stores_of w m.used key value }) is_read in
    begins m (record m { begun = Some b }) key value ok record { free = free; is_key = is_key; is_value = is_value; capacity = capacity; next = ap (λ (x : Begun). record m { begun = Some x }) now }
