-- What a step told, in the words of the seats, and the fields of seats after it.
use Rattle.std.proofs.Common.{◌≡◌, ℕ, ◌*◌, ◌<◌, ◌≤◌, List, [], length, slice_index, Option, Some, None, refl, sym, ap, ◌∙◌, subst, arith, max}
use mathlib.Core.Option.{none}
use Rattle.atomic_table.specs.Table.{Me, step}
use Rattle.atomic_table.specs.declared.shared.Seat.{Seat}
use Rattle.trie_image.specs.declared.Put.{Put}
use Rattle.trie_image.specs.declared.WordStore.{WordStore}
use Rattle.trie_machine.specs.declared.Reader.{Reader}
use Rattle.trie_machine.specs.State.{IsMachine}
use Rattle.trie_machine.specs.Events.{reader_after, LoadTells}
use Rattle.trie_rule.specs.declared.views.WriteView.{WriteView}
use Rattle.trie_rule.specs.declared.views.ReadView.{ReadView}
use Rattle.trie_rule.specs.declared.views.View.{View}
use Rattle.trie_rule.specs.declared.views.View.TheVariants.{Writes, Reads}
use Rattle.atomic_table.specs.Seated.{TableId}
use Rattle.trie_image.specs.declared.Advance.{Advance}
use Rattle.trie_image.specs.declared.Advance.TheVariants.{On, Found, Absent}
use Rattle.trie_image.specs.Puts.{IsKey}
use Rattle.trie_image.specs.declared.Place.{Place}
use Rattle.trie_image.specs.Place.{next_word_of, outcome_of}
use Rattle.trie_machine.specs.declared.Find.{Find}
use Rattle.trie_rule.specs.Fields.{Counts, HasBase, HoldsReader, HoldsWriter, IsWithin, done_of, front_by}
use Rattle.trie_rule.specs.Kinds.{FrontShows, HasValuesBelow, IsValueWord, LoadShows, LoadShowsBy, MayFind, joined_read_view, joined_view, read_view_with, reader_with, told_read_view, told_view, wrote}
use Rattle.trie_rule.specs.Rule.{read_view_of, state_of, write_view_of}
use Rattle.trie_rule.specs.Seats.{IsFindAt, IsNext, MovesFind, RaisesFront}
use Rattle.trie_rule.proofs.Keeps.{values_below, standing, writes_keep, writes_cells, writes_count}
use Rattle.trie_rule.proofs.Watches.{front_is, longer_length, longer_values}

-- what a step told, in the words of the seats
module _ (S : Type 0) where
  pub front_tells : (slots i n : ℕ) (me me' : Me S View) (key : Option (List ℕ)) → me ≡ (Reads (read_view_of me.0), []) → FrontShows {S = S} key (step slots i 0 0 none) me n me'
      → let r : ReadView = read_view_of me.0 in let q : ReadView = read_view_of me'.0 in (me' ≡ (Reads q, [])) × HasValuesBelow (4 * r.cells) q.seen × RaisesFront r q key (max r.reader.front n)
  front_tells slots i n me me' key is t =
      let r : ReadView = read_view_of me.0 in
      let goes = t.1 in
      let x : ReadView = read_view_with r t.0 (reader_with (max r.reader.front n) key) in
      let e : me' ≡ (Reads x, []) = goes.next ∙ ap (λ (l : List (ℕ × S)). (Reads x, l)) (ap (λ (m : Me S View). m.1) is) in
      let same : read_view_of me'.0 ≡ x = ap (λ (m : Me S View). read_view_of m.0) e in
      subst (λ (q : ReadView). (me' ≡ (Reads q, [])) × HasValuesBelow (4 * r.cells) q.seen × RaisesFront r q key (max r.reader.front n)) (sym same)
      (e, goes.values, record { least = omega arith; most = omega (arith, goes.front, front_is (max r.reader.front n) key); seen = goes.more; next = refl })

  -- the view after a load while no find is under way, and after one of a find
  pub load_idle : (slots i n : ℕ) (me me' : Me S View) → (read_view_of me.0).reader.find ≡ None → LoadShows {S = S} (step slots i 0 0 none) me n me' → (me' ≡ me) × IsValueWord (read_view_of me.0).seen i n
  load_idle slots i n me me' rests shows = let t = subst (λ (o : Option Find). LoadShowsBy {S = S} o (step slots i 0 0 none) me n me') rests shows in (t.0, t.3)

  pub load_moves : (slots i n : ℕ) (me me' : Me S View) (f : Find) → me ≡ (Reads (read_view_of me.0), []) → (read_view_of me.0).reader.find ≡ Some f → LoadShows {S = S} (step slots i 0 0 none) me n me'
      → let r : ReadView = read_view_of me.0 in let q : ReadView = read_view_of me'.0 in (me' ≡ (Reads q, [])) × MovesFind f r n q × HasValuesBelow (4 * r.cells) q.seen
  load_moves slots i n me me' f is finds shows =
      let r : ReadView = read_view_of me.0 in
      let t = subst (λ (o : Option Find). LoadShowsBy {S = S} o (step slots i 0 0 none) me n me') finds shows in
      let goes = t.1 in
      let x : ReadView = read_view_with r t.0 (reader_after r.reader f (outcome_of f.place n f.key)) in
      let e : me' ≡ (Reads x, []) = goes.next ∙ ap (λ (l : List (ℕ × S)). (Reads x, l)) (ap (λ (m : Me S View). m.1) is) in
      let same : read_view_of me'.0 ≡ x = ap (λ (m : Me S View). read_view_of m.0) e in
      subst (λ (q : ReadView). (me' ≡ (Reads q, [])) × MovesFind f r n q × HasValuesBelow (4 * r.cells) q.seen) (sym same)
      (e, record { seen = goes.more; next = refl; most = goes.front; tells = t.2 }, goes.values)

-- the writer's seat after a store
pub wrote_seat : {S : Type 0} (t t' : Seat S View) (used done used' done' : ℕ) (key value : List ℕ) (s : WordStore) → HoldsWriter t used done → IsNext (write_view_of t.me.0) key value s → t'.table_id ≡ t.table_id
    → t'.me ≡ (Writes (wrote (write_view_of t.me.0) key value), []) → Counts s.kind used done used' done' → HoldsWriter t' used' done'
wrote_seat {S} t t' used done used' done' key value s ok n same me c =
    let w : WriteView = write_view_of t.me.0 in
    let is : write_view_of t'.me.0 ≡ wrote w key value = ap (λ (m : Me S View). write_view_of m.0) me in
    let counts = writes_count w key value s n used done used' done' ok.2 ok.3 c in
    subst (λ (x : WriteView). (t'.me ≡ (Writes x, [])) × (t'.table_id.words ≡ 4 * x.cells) × (used' ≡ x.used) × (done' ≡ done_of x.begun) × IsMachine (state_of x [])) (sym is)
    (me, ap (λ z. z.words) same ∙ ok.1 ∙ ap (λ (c : ℕ). 4 * c) (sym (writes_cells w key value s n)), counts.0, counts.1, writes_keep w key value s n [] ok.4)

pub same_writer : {S : Type 0} (me me' : Me S View) → me' ≡ me → me ≡ (Writes (write_view_of me.0), []) → me' ≡ (Writes (write_view_of me'.0), [])
same_writer {S} me me' e is = subst (λ (m : Me S View). m ≡ (Writes (write_view_of m.0), [])) (sym e) is

pub reads_again : {S : Type 0} (me : Me S View) (x : ReadView) (l : List (ℕ × S)) → me ≡ (Reads x, l) → l ≡ [] → me ≡ (Reads (read_view_of me.0), [])
reads_again {S} me x l e bare =
    let back : x ≡ read_view_of me.0 = sym (ap (λ (m : Me S View). read_view_of m.0) e) in
    e ∙ (λ k. (Reads (back k), bare k))

pub is_idle : {S : Type 0} (me : Me S View) (x : ReadView) (l : List (ℕ × S)) → me ≡ (Reads x, l) → x.reader.find ≡ None → (f : Find) → (read_view_of me.0).reader.find ≡ Some f → ⊥
is_idle {S} me x l e bare f h = let a : (read_view_of me.0).reader.find ≡ x.reader.find = ap (λ (m : Me S View). (read_view_of m.0).reader.find) e in cc

-- the seat's own fields after a load of a find's word
within_by : (puts : List Put) (words : ℕ) (r : Reader) (f : Find) (a : Advance) → IsKey f.key → LoadTells puts words f a → IsWithin words (reader_after r f a).find
within_by puts words r f (On place) key t = (key, t.0)
within_by puts words r f (Found rec) key t = tt
within_by puts words r f Absent key t = tt

front_after : (r : Reader) (f : Find) (a : Advance) (front : ℕ) → f.base ≡ front → front ≡ r.front → (front_by front a ≡ (reader_after r f a).front) × HasBase (front_by front a) (reader_after r f a).find
front_after r f (On place) front base same = (same, base)
front_after r f (Found rec) front base same = (ap (λ (b : ℕ). max b rec.number) (sym base), tt)
front_after r f Absent front base same = (sym base, tt)

-- the word that a find under way needs at its place lies in the table
pub find_at : {S : Type 0} (t : Seat S View) (front : ℕ) (key : List ℕ) (place : Place) → HoldsReader t front → IsFindAt (read_view_of t.me.0).reader.find key place → next_word_of place < 4 * (read_view_of t.me.0).cells
find_at t front key place ok h =
    let within = subst (IsWithin (4 * (read_view_of t.me.0).cells)) h.1 ok.4 in
    subst (λ (p : Place). next_word_of p < 4 * (read_view_of t.me.0).cells) h.3 within.1

pub settled : {S : Type 0} (slots i n : ℕ) (t t' : Seat S View) (front front' : ℕ) (f : Find) → HoldsReader t front → (read_view_of t.me.0).reader.find ≡ Some f → t'.table_id ≡ t.table_id
    → LoadShows {S = S} (step slots i 0 0 none) t.me n t'.me → front' ≡ front_by front (outcome_of f.place n f.key) → HoldsReader t' front'
settled {S} slots i n t t' front front' f ok finds same shows by =
    let r : ReadView = read_view_of t.me.0 in let q : ReadView = read_view_of t'.me.0 in
    let a : Advance = outcome_of f.place n f.key in
    let g = load_moves S slots i n t.me t'.me f ok.0 finds shows in
    let moved = g.1 in
    let is : q ≡ read_view_with r q.seen (reader_after r.reader f a) = moved.next in
    let base : f.base ≡ front = subst (HasBase front) finds ok.3 in
    let two = front_after r.reader f a front base ok.2 in
    let front_same : front' ≡ q.reader.front = by ∙ two.0 ∙ sym (ap (λ (x : ReadView). x.reader.front) is) in
    let le : q.reader.front ≤ length q.seen = moved.most in (
      g.0,
      ap (λ (z : TableId). z.words) same ∙ ok.1 ∙ ap (λ (x : ReadView). 4 * x.cells) (sym is),
      front_same,
      subst (λ (x : ℕ × Option Find). HasBase x.0 x.1) (λ k. (sym by k, (ap (λ (x : ReadView). x.reader.find) (sym is)) k)) two.1,
      subst (λ (x : ReadView). IsWithin (4 * x.cells) x.reader.find) (sym is) (within_by q.seen (4 * r.cells) r.reader f a (subst (IsWithin (4 * r.cells)) finds ok.4).0 moved.tells),
      omega arith,
      subst (λ (c : ℕ). HasValuesBelow (4 * c) q.seen) (sym (ap (λ (x : ReadView). x.cells) is)) g.2,
    )

-- the seat's own fields after a load of word 0
based : (base : ℕ) (key : Option (List ℕ)) → HasBase base (reader_with base key).find
based base None = tt
based base (Some key) = refl

start_within : (words base : ℕ) (key : Option (List ℕ)) → MayFind key → 1 < words → IsWithin words (reader_with base key).find
start_within words base None may h = tt
start_within words base (Some key) may h = (may, h)

pub fronted : {S : Type 0} (t t' : Seat S View) (front front' n : ℕ) (key : Option (List ℕ)) → HoldsReader t front → MayFind key → 1 ≤ (read_view_of t.me.0).cells → t'.table_id ≡ t.table_id
    → t'.me ≡ (Reads (read_view_of t'.me.0), []) → HasValuesBelow (4 * (read_view_of t.me.0).cells) (read_view_of t'.me.0).seen → RaisesFront (read_view_of t.me.0) (read_view_of t'.me.0) key (max (read_view_of t.me.0).reader.front n) → front' ≡ max front n → HoldsReader t' front'
fronted {S} t t' front front' n key ok may some_cells same reads values raised front_is_max =
    let r : ReadView = read_view_of t.me.0 in let q : ReadView = read_view_of t'.me.0 in
    let base : front' ≡ max r.reader.front n = front_is_max ∙ ap (λ (f : ℕ). max f n) ok.2 in
    let is : q ≡ read_view_with r q.seen (reader_with (max r.reader.front n) key) = raised.next in
    let is' : q ≡ read_view_with r q.seen (reader_with front' key) = is ∙ ap (λ (b : ℕ). read_view_with r q.seen (reader_with b key)) (sym base) in
    let le : max r.reader.front n ≤ length q.seen = raised.most in (
      reads,
      ap (λ (z : TableId). z.words) same ∙ ok.1 ∙ ap (λ (x : ReadView). 4 * x.cells) (sym is),
      sym (ap (λ (x : ReadView). x.reader.front) is' ∙ front_is front' key),
      subst (λ (x : ReadView). HasBase front' x.reader.find) (sym is') (based front' key),
      subst (λ (x : ReadView). IsWithin (4 * x.cells) x.reader.find) (sym is') (start_within (4 * r.cells) front' key may (omega (arith, some_cells))),
      omega (arith, base, le),
      subst (λ (c : ℕ). HasValuesBelow (4 * c) q.seen) (sym (ap (λ (x : ReadView). x.cells) is)) values,
    )

-- the seat's own fields after a load without a find
pub stays : {S : Type 0} (slots i n : ℕ) (t t' : Seat S View) (front : ℕ) → HoldsReader t front → (read_view_of t.me.0).reader.find ≡ None → t'.table_id ≡ t.table_id → LoadShows {S = S} (step slots i 0 0 none) t.me n t'.me → HoldsReader t' front
stays {S} slots i n t t' front ok rests same shows =
    let tells = load_idle S slots i n t.me t'.me rests shows in
    let Holds : TableId × Me S View → Type 0 = λ x. let r : ReadView = read_view_of x.1.0 in
    (x.1 ≡ (Reads r, [])) × (x.0.words ≡ 4 * r.cells) × (front ≡ r.reader.front) × HasBase front r.reader.find × IsWithin (4 * r.cells) r.reader.find × (front ≤ length r.seen) × HasValuesBelow (4 * r.cells) r.seen in
    subst Holds (λ k. (sym same k, sym tells.0 k)) ok

-- the seat's own fields after a join and the load behind it
pub joined : {S : Type 0} (slots n : ℕ) (t u j k : Seat S View) (front front' : ℕ) → HoldsReader t front → HoldsReader u front' → (read_view_of t.me.0).reader.find ≡ None → (read_view_of u.me.0).cells ≡ (read_view_of t.me.0).cells
    → j.table_id ≡ t.table_id → j.me ≡ (joined_view t.me.0 u.me.0, t.me.1) → k.table_id ≡ j.table_id → LoadShows {S = S} (step slots 0 0 0 none) j.me n k.me → HoldsReader k (max front front')
joined {S} slots n t u j k front front' ok ok' rests cells same is same' shows =
    let r : ReadView = read_view_of t.me.0 in let q : ReadView = read_view_of u.me.0 in let x : ReadView = joined_read_view r q in
    let bare : t.me.1 ≡ [] = ap (λ (m : Me S View). m.1) ok.0 in
    let e : j.me ≡ (Reads x, []) = is ∙ (λ i. (Reads x, bare i)) in
    let idle : (read_view_of j.me.0).reader.find ≡ None = ap (λ (m : Me S View). (read_view_of m.0).reader.find) e in
    let tells = subst (λ (y : Option Find). LoadShowsBy {S = S} y (step slots 0 0 0 none) j.me n k.me) idle shows in
    let me : k.me ≡ (Reads x, []) = tells.0 ∙ e in
    let view : read_view_of k.me.0 ≡ x = ap (λ (m : Me S View). read_view_of m.0) me in
    subst (λ (y : ReadView). (k.me ≡ (Reads y, [])) × (k.table_id.words ≡ 4 * y.cells) × (max front front' ≡ y.reader.front) × HasBase (max front front') y.reader.find × IsWithin (4 * y.cells) y.reader.find × (max front front' ≤ length y.seen) × HasValuesBelow (4 * y.cells) y.seen) (sym view) (
      me,
      ap (λ (z : TableId). z.words) (same' ∙ same) ∙ ok.1,
      λ i. max (ok.2 i) (ok'.2 i),
      tt,
      tt,
      longer_length r.seen q.seen front front' ok.5 ok'.5,
      longer_values (4 * r.cells) r.seen q.seen ok.6 (subst (λ (c : ℕ). HasValuesBelow (4 * c) q.seen) cells ok'.6),
    )

-- the fields of a seat that was split off the writer's
pub told_holds : {S : Type 0} (t l u : Seat S View) (used done front : ℕ) → HoldsWriter t used done → (write_view_of t.me.0).begun ≡ None → l.me ≡ t.me → u.table_id ≡ t.table_id → u.me ≡ (told_view l.me.0, []) → front ≡ slice_index (write_view_of t.me.0).image 0 → HoldsReader u front
told_holds {S} t l u used done front ok idle look same is front_is_first =
    let w : WriteView = write_view_of t.me.0 in let x : ReadView = told_read_view w in
    let me : u.me ≡ (Reads x, []) = is ∙ ap (λ (m : Me S View). (told_view m.0, [])) look in
    let view : read_view_of u.me.0 ≡ x = ap (λ (m : Me S View). read_view_of m.0) me in
    let stands = standing w [] ok.4 in
    subst (λ (y : ReadView). (u.me ≡ (Reads y, [])) × (u.table_id.words ≡ 4 * y.cells) × (front ≡ y.reader.front) × HasBase front y.reader.find × IsWithin (4 * y.cells) y.reader.find × (front ≤ length y.seen) × HasValuesBelow (4 * y.cells) y.seen) (sym view) (
      me,
      ap (λ (z : TableId). z.words) same ∙ ok.1,
      front_is_first,
      tt,
      tt,
      omega (arith, front_is_first, stands.1 idle),
      values_below (state_of w []) ok.4,
    )
