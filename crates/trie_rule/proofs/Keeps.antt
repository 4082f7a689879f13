-- Each step of the writer keeps the rule, and so does a split.
use Rattle.std.proofs.Common.{◌≡◌, ◌≢◌, ◌⊎◌, ℕ, zero, suc, ◌+◌, ◌*◌, ◌/◌, ◌^◌, ◌<◌, ◌≤◌, List, [], ◌∷◌, ◌++◌, map, length, set, get_or, Option, Some, None, refl, sym, ap, ◌∙◌, subst, ⊎_elim, inl, inr, arith, append-nil, append_assoc, length-append}
use Rattle.std.proofs.lemmas.List.{set-get_or}
use mathlib.Core.Option.{none, some, some-injective}
use mathlib.Core.List.{map-append}
use lib.ListN.{get_elem?}
use Rattle.atomic_table.specs.Table.{State, Me, step, keeps, Allows, Splits}
use Rattle.atomic_table.proofs.Lists.{at_set, set_again, at_snoc}
use Rattle.trie_image.specs.declared.Put.{Put}
use Rattle.trie_image.specs.declared.StoreKind.{StoreKind}
use Rattle.trie_image.specs.declared.StoreKind.TheVariants.{Prepare, Publish, Finish}
use Rattle.trie_image.specs.declared.WordStore.{WordStore}
use Rattle.trie_image.specs.Publish.{put_at}
use Rattle.trie_machine.specs.declared.Begun.{Begun}
use Rattle.trie_machine.specs.declared.Reader.{Reader}
use Rattle.trie_machine.specs.State.{MachineState, IsMachine}
use Rattle.trie_machine.specs.Events.{value_word_at}
use Rattle.trie_machine.proofs.Writers.{begins, prepares, publishes, finishes, store_inside}
use Rattle.trie_machine.proofs.Readers.{counted, splits_writer, looks, copies}
use Rattle.trie_machine.proofs.Standing.{few_stores}
use Rattle.trie_rule.specs.declared.views.WriteView.{WriteView}
use Rattle.trie_rule.specs.declared.views.ReadView.{ReadView}
use Rattle.trie_rule.specs.declared.views.View.{View}
use Rattle.trie_rule.specs.declared.views.View.TheVariants.{Writes, Reads}
use Rattle.trie_rule.specs.Fields.{Counts, IsStoreAt, done_of}
use Rattle.trie_rule.specs.Kinds.{HasValuesBelow, IsStanding, LookShows, MayPut, StoreShows, after_store, begun_by, begun_or, told_read_view, told_view, wrote, wrote_by}
use Rattle.trie_rule.specs.Rule.{IsStartOf, Knows, Running, RunsAt, assembled, reader_of, state_of, write_view_of}
use Rattle.trie_rule.specs.Seats.{IsNext}

same_readers : (vs : List View) (id : ℕ) (u v : View) → get_elem? vs id ≡ some u → reader_of v ≡ reader_of u → map reader_of (set vs id v) ≡ map reader_of vs
same_readers [] id u v at e = refl
same_readers (x ∷ xs) zero u v at e = λ k. (e ∙ ap reader_of (sym (some-injective x u at))) k ∷ map reader_of xs
same_readers (x ∷ xs) (suc id) u v at e = λ k. reader_of x ∷ same_readers xs id u v at e k

pub starts_self : (xs : List Put) → IsStartOf xs xs
starts_self xs = ([], sym (append-nil xs))

pub starts_none : (ys : List Put) → IsStartOf [] ys
starts_none ys = (ys, refl)

pub starts_more : (xs ys zs : List Put) → IsStartOf xs ys → IsStartOf xs (ys ++ zs)
starts_more xs ys zs h = (h.0 ++ zs, ap (λ (l : List Put). l ++ zs) h.1 ∙ append_assoc xs h.0 zs)

-- a store of the put under way, by its kind
module _ (w : WriteView) (b : Begun) (s : WordStore) (left : List WordStore) where
  store_keeps : (rs : List (Option Reader)) → IsMachine (state_of w rs) → w.begun ≡ Some b → b.left ≡ s ∷ left → (k : StoreKind) → s.kind ≡ k → IsMachine (state_of (after_store w b s left k) rs)
  store_keeps rs ok is next Prepare e = prepares (state_of w rs) (state_of (after_store w b s left Prepare) rs) ok record { put = b; store = s; left = left; is_next = record { begun = is; next = next; kind_is = e }; next = refl }
  store_keeps rs ok is next Publish e = publishes (state_of w rs) (state_of (after_store w b s left Publish) rs) ok record { put = b; store = s; left = left; is_next = record { begun = is; next = next; kind_is = e }; next = refl }
  store_keeps rs ok is next Finish e = finishes (state_of w rs) (state_of (after_store w b s left Finish) rs) ok record { put = b; store = s; left = left; is_next = record { begun = is; next = next; kind_is = e }; next = refl }

  image_after : (k : StoreKind) → (after_store w b s left k).image ≡ set w.image s.word s.value
  image_after Prepare = refl
  image_after Publish = refl
  image_after Finish = refl

  cells_after : (k : StoreKind) → (after_store w b s left k).cells ≡ w.cells
  cells_after Prepare = refl
  cells_after Publish = refl
  cells_after Finish = refl

  made_after : (k : StoreKind) (q : List Put) → IsStartOf q w.made → IsStartOf q (after_store w b s left k).made
  made_after Prepare q h = h
  made_after Publish q h = starts_more q w.made (put_at b.key b.value w.used ∷ []) h
  made_after Finish q h = h

  counts_after : (k : StoreKind) (used done used' done' : ℕ) → used ≡ w.used → done ≡ length b.done → Counts k used done used' done' → (used' ≡ (after_store w b s left k).used) × (done' ≡ done_of (after_store w b s left k).begun)
  counts_after Prepare used done used' done' u d c = (c.0 ∙ u, omega (arith, c.1, d, length-append b.done (s ∷ [])))
  counts_after Publish used done used' done' u d c = (c.0 ∙ (λ i. u i + d i / 4), omega (arith, c.1, d, length-append b.done (s ∷ [])))
  counts_after Finish used done used' done' u d c = (c.0 ∙ u, c.1)

-- the writer with a put under way
abbrev under : WriteView → Begun → WriteView
under w b = record { cells = w.cells; image = w.image; used = w.used; made = w.made; begun = Some b }

same_after : (w : WriteView) (b : Begun) (s : WordStore) (left : List WordStore) (k : StoreKind) → after_store (under w b) b s left k ≡ after_store w b s left k
same_after w b s left Prepare = refl
same_after w b s left Publish = refl
same_after w b s left Finish = refl

-- the put begins where none is under way
module _ (w : WriteView) (rs : List (Option Reader)) (key value : List ℕ) (s : WordStore) (left : List WordStore) where
  began : w.begun ≡ None → IsMachine (state_of w rs) → MayPut w key value None → IsMachine (state_of (under w (begun_by w key value None)) rs)
  began is ok may = begins (state_of w rs) (state_of (under w (begun_by w key value None)) rs) key value ok record { free = is; is_key = may.0; is_value = may.1; capacity = may.2; next = refl }

  keeps_by : (o : Option Begun) → w.begun ≡ o → IsMachine (state_of w rs) → MayPut w key value o → (begun_by w key value o).left ≡ s ∷ left → IsMachine (state_of (after_store w (begun_by w key value o) s left s.kind) rs)
  keeps_by None is ok may next = subst (λ (x : WriteView). IsMachine (state_of x rs)) (same_after w (begun_by w key value None) s left s.kind) (store_keeps (under w (begun_by w key value None)) (begun_by w key value None) s left rs (began is ok may) refl next s.kind refl)
  keeps_by (Some b) is ok may next = store_keeps w b s left rs ok is next s.kind refl

  inside_by : (o : Option Begun) → w.begun ≡ o → IsMachine (state_of w rs) → MayPut w key value o → (begun_by w key value o).left ≡ s ∷ left → s.word < length w.image
  inside_by None is ok may next = store_inside (state_of (under w (begun_by w key value None)) rs) (begun_by w key value None) s left s.kind (began is ok may) record { begun = refl; next = next; kind_is = refl }
  inside_by (Some b) is ok may next = store_inside (state_of w rs) b s left s.kind ok record { begun = is; next = next; kind_is = refl }

module _ (w : WriteView) (key value : List ℕ) (s : WordStore) (n : IsNext w key value s) where
  wrote_is : wrote w key value ≡ after_store w (begun_or w key value) s n.left s.kind
  wrote_is = ap (λ (l : List WordStore). wrote_by w (begun_or w key value) l) n.is

  pub writes_keep : (rs : List (Option Reader)) → IsMachine (state_of w rs) → IsMachine (state_of (wrote w key value) rs)
  writes_keep rs ok = subst (λ (x : WriteView). IsMachine (state_of x rs)) (sym wrote_is) (keeps_by w rs key value s n.left w.begun refl ok n.may n.is)

  writes_image : (wrote w key value).image ≡ set w.image s.word s.value
  writes_image = ap (λ (x : WriteView). x.image) wrote_is ∙ image_after w (begun_or w key value) s n.left s.kind

  pub writes_cells : (wrote w key value).cells ≡ w.cells
  writes_cells = ap (λ (x : WriteView). x.cells) wrote_is ∙ cells_after w (begun_or w key value) s n.left s.kind

  writes_made : (q : List Put) → IsStartOf q w.made → IsStartOf q (wrote w key value).made
  writes_made q h = subst (λ (x : WriteView). IsStartOf q x.made) (sym wrote_is) (made_after w (begun_or w key value) s n.left s.kind q h)

  pub writes_inside : IsMachine (state_of w []) → s.word < 4 * w.cells
  writes_inside ok = let image = ok.image in let h = inside_by w [] key value s n.left w.begun refl ok n.may n.is in omega (arith, h, image.image.image.size)

  pub writes_count : (used done used' done' : ℕ) → used ≡ w.used → done ≡ done_of w.begun → Counts s.kind used done used' done' → (used' ≡ (wrote w key value).used) × (done' ≡ done_of (wrote w key value).begun)
  writes_count used done used' done' u d c = subst (λ (x : WriteView). (used' ≡ x.used) × (done' ≡ done_of x.begun)) (sym wrote_is) (counts_after w (begun_or w key value) s n.left s.kind used done used' done' u (d ∙ by w.begun) c)
    where
      by : (o : Option Begun) → done_of o ≡ length (begun_by w key value o).done
      by None = refl
      by (Some b) = refl

-- the values of the puts lie in the image
pub values_below : (m : MachineState) → IsMachine m → HasValuesBelow (4 * m.cells) m.puts
values_below m ok = λ rec i has. let image = ok.image in let law = copies m m rec i ok record { has_word = has; next = refl } in subst (λ (n : ℕ). value_word_at rec i < n) image.image.image.size law.1

-- what the writer's view stands for
pub standing : (w : WriteView) (rs : List (Option Reader)) → IsMachine (state_of w rs) → IsStanding w
standing w rs ok = let m : MachineState = state_of w rs in let image = ok.image in let whole = image.image.image in
    let law = looks m m 0 ok record { inside = omega (arith, whole.size, whole.capacity, whole.fewer); next = refl } in (law.1, law.2)

-- a put has few stores
pub done_small : (w : WriteView) (rs : List (Option Reader)) → IsMachine (state_of w rs) → done_of w.begun < 2 ^ 25
done_small w rs ok = by w.begun refl
  where
    by : (o : Option Begun) → w.begun ≡ o → done_of o < 2 ^ 25
    by None is = omega arith
    by (Some b) is = let image = ok.image in omega (arith, few_stores (state_of w rs) b ok is, image.image.image.small)

pub used_small : (w : WriteView) (rs : List (Option Reader)) → IsMachine (state_of w rs) → w.used ≤ 2 ^ 22
used_small w rs ok = let image = ok.image in omega (arith, image.taken, image.image.image.capacity, image.image.image.small)

-- the writer's steps
module _ (S : Type 0) (cells slots id : ℕ) where
  abbrev St : Type 0
  St = State S View

  abbrev M : Type 0
  M = Me S View

  abbrev Rule : St → Type 0
  Rule = Running {S = S} cells

  -- the rule at the writer's own view
  pub opens : (s : St) (w : WriteView) → Rule s → get_elem? s.views id ≡ some (Writes w) → RunsAt {S = S} cells s id w
  opens s w h at = let t = h.2.alone id w at in subst (λ (x : ℕ × WriteView). RunsAt {S = S} cells s x.0 x.1) (λ k. (sym t.0 k, sym t.1 k)) h.2

  -- a load changes nothing, where the view stays
  pub still : (s : St) (i : ℕ) (v : View) → Rule s → get_elem? s.views id ≡ some v → Rule (record { words = set s.words i (get_or s.words i 0); homes = s.homes; views = set s.views id v })
  still s i v h at =
      let Q : List ℕ × List View → Type 0 = λ x. Rule (record { words = x.0; homes = s.homes; views = x.1 }) in
      subst Q (λ k. (sym (set-get_or s.words i 0) k, sym (set_again s.views id v at) k)) h

  looks_at : (w : WriteView) (i : ℕ) → i < 4 * w.cells → Allows Rule slots id (Writes w, []) i (λ n. n) (LookShows {S = S} (step slots i 0 0 none) (Writes w, []))
  looks_at w i inside s h len at small =
      let r = opens s w h at in let m : MachineState = assembled w s.views in let image = r.is_machine.image in
      let law = looks m m i r.is_machine record { inside = omega (arith, inside, image.image.image.size); next = refl } in
      (Writes w, keeps, tt, still s i (Writes w) h at, (refl, ap (λ (l : List ℕ). get_or l i 0) r.words_are, (law.1, law.2)))

  pub owns_look : (me : M) (i : ℕ) → me ≡ (Writes (write_view_of me.0), []) → i < 4 * (write_view_of me.0).cells → Allows Rule slots id me i (λ n. n) (LookShows {S = S} (step slots i 0 0 none) me)
  owns_look me i is inside = subst (λ (m : M). Allows Rule slots id m i (λ n. n) (LookShows {S = S} (step slots i 0 0 none) m)) (sym is) (looks_at (write_view_of me.0) i inside)

  stores_state : (s : St) (w : WriteView) (key value : List ℕ) (v i : ℕ) → Rule s → get_elem? s.views id ≡ some (Writes w) → IsStoreAt w key value i v
      → Rule (record { words = set s.words i v; homes = s.homes; views = set s.views id (Writes (wrote w key value)) })
  stores_state s w key value v i h at st =
      let w' : WriteView = wrote w key value in
      let r = opens s w h at in
      let x : WordStore = st.store in
      let same : map reader_of (set s.views id (Writes w')) ≡ map reader_of s.views = same_readers s.views id (Writes w) (Writes w') at refl in
      let made = writes_made w key value st.store st.next in
      let cells_are : w'.cells ≡ w.cells = writes_cells w key value st.store st.next in
      let now : IsMachine (state_of w' (map reader_of s.views)) = writes_keep w key value st.store st.next (map reader_of s.views) r.is_machine in (
        id,
        w',
        record {
          is_machine = subst (λ (rs : List (Option Reader)). IsMachine (state_of w' rs)) (sym same) now;
          sized = cells_are ∙ r.sized;
          words_are = (λ k. set (r.words_are k) (st.word_is k) (st.value_is k)) ∙ sym (writes_image w key value st.store st.next);
          alone = λ j u there. ⊎_elim (λ (t : (j ≡ id) × (Writes w' ≡ Writes u)). (t.0, (cc))) (λ (t : (j ≢ id) × (get_elem? s.views j ≡ some (Writes u))). absurd (t.0 (r.alone j u t.1).0)) (at_set s.views id j (Writes w') (Writes u) there);
          reads = λ j q there. ⊎_elim (λ (t : (j ≡ id) × (Writes w' ≡ Reads q)). absurd (cc)) (λ (t : (j ≢ id) × (get_elem? s.views j ≡ some (Reads q))). let k = r.reads j q t.1 in record { cells = k.cells ∙ sym cells_are; seen = made q.seen k.seen; front = k.front; left = (made q.left k.left.0, k.left.1); right = (made q.right k.right.0, k.right.1) }) (at_set s.views id j (Writes w') (Reads q) there);
        },
      )

  stores_at : (w : WriteView) (key value : List ℕ) (v i : ℕ) → IsStoreAt w key value i v → Allows Rule slots id (Writes w, []) i (λ _. v) (λ _. StoreShows {S = S} key value (step slots i v 0 none) (Writes w, []) v)
  stores_at w key value v i st s h len at small = (Writes (wrote w key value), keeps, tt, stores_state s w key value v i h at st, refl)

  pub owns_store : (me : M) (key value : List ℕ) (v i : ℕ) → me ≡ (Writes (write_view_of me.0), []) → IsStoreAt (write_view_of me.0) key value i v → Allows Rule slots id me i (λ _. v) (λ _. StoreShows {S = S} key value (step slots i v 0 none) me v)
  owns_store me key value v i is st = subst (λ (m : M). Allows Rule slots id m i (λ _. v) (λ _. StoreShows {S = S} key value (step slots i v 0 none) m v)) (sym is) (stores_at (write_view_of me.0) key value v i st)

  splits_at : (w : WriteView) → Splits Rule id (Writes w) (Writes w) (Reads (told_read_view w))
  splits_at w s h at =
      let r = opens s w h at in
      let u : ReadView = told_read_view w in
      let vs : List View = set s.views id (Writes w) in
      let same : vs ≡ s.views = set_again s.views id (Writes w) at in
      let there : (j : ℕ) (v : View) → get_elem? (vs ++ Reads u ∷ []) j ≡ some v → (get_elem? s.views j ≡ some v) ⊎ (Reads u ≡ v) = λ j v e. ⊎_elim (λ t. inl (subst (λ (l : List View). get_elem? l j ≡ some v) same t)) inr (at_snoc vs (Reads u) v j e) in
      let readers : map reader_of (vs ++ Reads u ∷ []) ≡ map reader_of s.views ++ Some u.reader ∷ [] = map-append reader_of vs (Reads u ∷ []) ∙ ap (λ (l : List View). map reader_of l ++ Some u.reader ∷ []) same in
      let now : IsMachine (state_of w (map reader_of s.views ++ Some u.reader ∷ [])) = splits_writer (assembled w s.views) (state_of w (map reader_of s.views ++ Some u.reader ∷ [])) r.is_machine refl in
      let image = r.is_machine.image in
      let front : u.reader.front ≤ length w.made = omega (arith, counted (assembled w s.views) r.is_machine, ap (λ (l : List Put). length l) image.puts_are) in (
        id,
        w,
        record {
          is_machine = subst (λ (rs : List (Option Reader)). IsMachine (state_of w rs)) (sym readers) now;
          sized = r.sized;
          words_are = r.words_are;
          alone = λ j v e. ⊎_elim (λ t. r.alone j v t) (λ (t : Reads u ≡ Writes v). absurd (cc)) (there j (Writes v) e);
          reads = λ j q e. ⊎_elim (λ t. r.reads j q t) (λ (t : Reads u ≡ Reads q). let x : u ≡ q = cc in subst (Knows w) x record { cells = refl; seen = starts_self w.made; front = front; left = (starts_none w.made, omega arith); right = (starts_none w.made, omega arith) }) (there j (Reads q) e);
        },
      )

  pub owns_split : (me : M) → me ≡ (Writes (write_view_of me.0), []) → Splits Rule id me.0 me.0 (told_view me.0)
  owns_split me is = subst (λ (v : View). Splits Rule id v v (told_view v)) (sym (ap (λ (m : M). m.0) is)) (splits_at (write_view_of me.0))
