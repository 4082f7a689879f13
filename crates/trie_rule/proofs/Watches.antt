-- Each step of a reader keeps the rule, and so does a join.
use Rattle.std.proofs.Common.{◌≡◌, ◌≢◌, ℕ, zero, suc, ◌*◌, ◌<◌, ◌≤◌, max, Bool, true, false, List, [], ◌∷◌, map, length, set, get_or, slice_index, Option, Some, None, refl, sym, ap, ◌∙◌, subst, ⊎_elim, arith}
use Rattle.std.specs.Prelude.{slice_get, nat_le}
use Rattle.std.proofs.lemmas.List.{set-get_or}
use Rattle.std.proofs.lemmas.Bool.{leb-true, leb-false}
use mathlib.Core.Option.{none, some, some-ne-none}
use lib.Seq.{map-set}
use lib.ListN.{get_elem?}
use Rattle.atomic_table.specs.Table.{State, Me, step, keeps, Allows, Joins}
use Rattle.atomic_table.proofs.Lists.{at_set, at_map}
use Rattle.trie_image.specs.declared.Put.{Put}
use Rattle.trie_image.specs.Place.{next_word_of, outcome_of}
use Rattle.trie_machine.specs.declared.Find.{Find}
use Rattle.trie_machine.specs.declared.Reader.{Reader}
use Rattle.trie_machine.specs.State.{MachineState, IsMachine}
use Rattle.trie_machine.specs.Events.{resting, starting, with_reader, reader_after, loaded, LoadTells, HasWord, IsWordOf}
use Rattle.trie_machine.proofs.Lists.{get_longer}
use Rattle.trie_machine.proofs.Readers.{fronts, fronts_without_key, loads, joins, copies}
use Rattle.trie_rule.specs.declared.views.WriteView.{WriteView}
use Rattle.trie_rule.specs.declared.views.ReadView.{ReadView}
use Rattle.trie_rule.specs.declared.views.View.{View}
use Rattle.trie_rule.specs.declared.views.View.TheVariants.{Spent, Writes, Reads}
use Rattle.trie_rule.specs.Kinds.{FrontShows, HasValuesBelow, LoadShows, LoadShowsBy, MayFind, joined_read_view, joined_view, longer_puts, pick_puts, read_view_with, reader_with}
use Rattle.trie_rule.specs.Rule.{IsStartOf, Knows, Running, RunsAt, assembled, read_view_of, reader_of, state_of}
use Rattle.trie_rule.proofs.Keeps.{starts_self, starts_none, values_below, still}

-- of two starts of one list, the shorter starts the longer
shorter_starts : (xs ys zs : List Put) → IsStartOf xs zs → IsStartOf ys zs → length xs ≤ length ys → IsStartOf xs ys
shorter_starts [] ys zs a b le = starts_none ys
shorter_starts (x ∷ xs) [] zs a b le = absurd (omega arith)
shorter_starts (x ∷ xs) (y ∷ ys) [] a b le = absurd (let e = a.1 in cc)
shorter_starts (x ∷ xs) (y ∷ ys) (z ∷ zs) a b le =
    let p = a.1 in let q = b.1 in
    let same : y ≡ x = cc in
    let rest = shorter_starts xs ys zs (a.0, (cc)) (b.0, (cc)) (omega arith) in
    (rest.0, λ k. same k ∷ rest.1 k)

pub front_is : (front : ℕ) (key : Option (List ℕ)) → (reader_with front key).front ≡ front
front_is front None = refl
front_is front (Some key) = refl

-- reader i loads word 0
machine_fronts : (m : MachineState) (i : ℕ) (r : Reader) (key : Option (List ℕ)) → IsMachine m → get_elem? m.readers i ≡ some (Some r) → r.find ≡ None → MayFind key
    → IsMachine (with_reader m i (Some (reader_with (max r.front (slice_index m.words 0)) key)))
machine_fronts m i r None ok at rests may = fronts_without_key m (with_reader m i (Some (resting (max r.front (slice_index m.words 0))))) i ok record { reader = r; rests = record { there = at; rests = rests }; next = refl }
machine_fronts m i r (Some key) ok at rests may = fronts m (with_reader m i (Some (starting (max r.front (slice_index m.words 0)) key))) i key ok record { reader = r; rests = record { there = at; rests = rests }; is_key = may; next = refl }

module _ (S : Type 0) (cells slots id : ℕ) where
  abbrev St : Type 0
  St = State S View

  abbrev M : Type 0
  M = Me S View

  abbrev Rule : St → Type 0
  Rule = Running {S = S} cells

  -- a reader goes on, and has seen these puts
  goes_on : (s : St) (w : WriteView) (writer : ℕ) (r : ReadView) (q : Reader) (ws : List ℕ) → RunsAt {S = S} cells s writer w → get_elem? s.views id ≡ some (Reads r) → ws ≡ s.words → (seen : List Put) → IsStartOf seen w.made → q.front ≤ length seen
      → IsMachine (with_reader (assembled w s.views) id (Some q)) → RunsAt {S = S} cells (record { words = ws; homes = s.homes; views = set s.views id (Reads (read_view_with r seen q)) }) writer w
  goes_on s w writer r q ws run at ws_is seen pre front now =
      let u : ReadView = read_view_with r seen q in record {
        is_machine = subst (λ (rs : List (Option Reader)). IsMachine (state_of w rs)) (sym (map-set reader_of s.views id (Reads u))) now;
        sized = run.sized;
        words_are = ws_is ∙ run.words_are;
        alone = λ j v there. ⊎_elim (λ (t : (j ≡ id) × (Reads u ≡ Writes v)). absurd (cc)) (λ (t : (j ≢ id) × (get_elem? s.views j ≡ some (Writes v))). run.alone j v t.1) (at_set s.views id j (Reads u) (Writes v) there);
        reads = λ j v there. ⊎_elim (λ (t : (j ≡ id) × (Reads u ≡ Reads v)). let e : u ≡ v = cc in subst (Knows w) e record { cells = (run.reads id r at).cells; seen = pre; front = front; left = (starts_none w.made, omega arith); right = (starts_none w.made, omega arith) }) (λ (t : (j ≢ id) × (get_elem? s.views j ≡ some (Reads v))). run.reads j v t.1) (at_set s.views id j (Reads u) (Reads v) there);
      }

  -- the values of the puts lie in the table
  values_at : (w : WriteView) (s : St) (r : ReadView) → IsMachine (assembled w s.views) → r.cells ≡ w.cells → HasValuesBelow (4 * r.cells) w.made
  values_at w s r ok same = subst (λ (c : ℕ). HasValuesBelow (4 * c) w.made) (sym same) (values_below (assembled w s.views) ok)

  -- the reader's front in a state
  front_ok : (w : WriteView) (s : St) (q : Reader) (r : ReadView) → get_elem? s.views id ≡ some (Reads r) → IsMachine (with_reader (assembled w s.views) id (Some q)) → q.front ≤ length w.made
  front_ok w s q r at ok = let image = ok.image in let mine = ok.readers id q (here (map reader_of s.views) id (reader_of (Reads r)) (Some q) (at_map reader_of s.views id (Reads r) at)) in omega (arith, mine.front, ap (λ (l : List Put). length l) image.puts_are)
    where
      here : {A : Type 0} (l : List A) (i : ℕ) (a b : A) → get_elem? l i ≡ some a → get_elem? (set l i b) i ≡ some b
      here [] i a b e = absurd (some-ne-none a (sym e))
      here (x ∷ xs) zero a b e = refl
      here (x ∷ xs) (suc i) a b e = here xs i a b e

  fronts_at : (r : ReadView) (key : Option (List ℕ)) → r.reader.find ≡ None → MayFind key → Allows Rule slots id (Reads r, []) 0 (λ n. n) (FrontShows {S = S} key (step slots 0 0 0 none) (Reads r, []))
  fronts_at r key rests may s h len at small =
      let w : WriteView = h.1 in let run = h.2 in let n : ℕ = get_or s.words 0 0 in let q : Reader = reader_with (max r.reader.front n) key in
      let now : IsMachine (with_reader (assembled w s.views) id (Some q)) = subst (λ (k : ℕ). IsMachine (with_reader (assembled w s.views) id (Some (reader_with (max r.reader.front k) key)))) (ap (λ (l : List ℕ). get_or l 0 0) (sym run.words_are)) (machine_fronts (assembled w s.views) id r.reader key run.is_machine (at_map reader_of s.views id (Reads r) at) rests may) in
      let ok = front_ok w s q r at now in
      (Reads (read_view_with r w.made q), keeps, tt, (h.0, w, goes_on s w h.0 r q (set s.words 0 n) run at (set-get_or s.words 0 0) w.made (starts_self w.made) ok now), (w.made, record { more = (run.reads id r at).seen; front = ok; next = refl; values = values_at w s r run.is_machine (run.reads id r at).cells }))

  pub owns_front : (me : M) (key : Option (List ℕ)) → me ≡ (Reads (read_view_of me.0), []) → (read_view_of me.0).reader.find ≡ None → MayFind key → Allows Rule slots id me 0 (λ n. n) (FrontShows {S = S} key (step slots 0 0 0 none) me)
  owns_front me key is rests may = subst (λ (m : M). Allows Rule slots id m 0 (λ n. n) (FrontShows {S = S} key (step slots 0 0 0 none) m)) (sym is) (fronts_at (read_view_of me.0) key rests may)

  loads_at : (r : ReadView) (i : ℕ) (o : Option Find) → r.reader.find ≡ o → ((f : Find) → o ≡ Some f → i ≡ next_word_of f.place) → Allows Rule slots id (Reads r, []) i (λ n. n) (LoadShowsBy {S = S} o (step slots i 0 0 none) (Reads r, []))
  loads_at r i None is at_word s h len at small =
      let w : WriteView = h.1 in let run = h.2 in let k = run.reads id r at in let m : MachineState = assembled w s.views in (
        Reads r,
        keeps,
        tt,
        still S cells slots id s i (Reads r) h at,
        (
          refl,
          shorter_starts r.left r.seen w.made k.left.0 k.seen k.left.1,
          shorter_starts r.right r.seen w.made k.right.0 k.seen k.right.1,
          λ rec j has word.
              let longer_has : HasWord w.made rec j = let is_rec = has.is_record in record {
                number = has.number;
                put = has.put;
                is_record = record { is_there = subst (λ (l : List Put). slice_get l has.number ≡ Some has.put) (sym k.seen.1) (get_longer r.seen k.seen.0 has.number has.put is_rec.is_there); cell = is_rec.cell; number = is_rec.number; len = is_rec.len };
                more = has.more;
              } in
              let law = copies m m rec j run.is_machine record { has_word = longer_has; next = refl } in
              subst (λ (x : List ℕ × ℕ). IsWordOf (has.put).value j (get_or x.0 x.1 0)) (λ a. (sym run.words_are a, sym word a)) law.2,
        ),
      )
  loads_at r i (Some f) is at_word s h len at small =
      let w : WriteView = h.1 in let run = h.2 in let m : MachineState = assembled w s.views in let n : ℕ = get_or s.words i 0 in
      let same : get_or w.image (next_word_of f.place) 0 ≡ n = sym (λ j. get_or (run.words_are j) (at_word f refl j) 0) in
      let image = run.is_machine.image in
      let wide : length w.image ≡ 4 * r.cells = image.image.image.size ∙ ap (λ (c : ℕ). 4 * c) (sym (run.reads id r at).cells) in
      let Q : ℕ × ℕ → Type 0 = λ k. IsMachine (with_reader m id (Some (reader_after r.reader f (outcome_of f.place k.0 f.key)))) × LoadTells w.made k.1 f (outcome_of f.place k.0 f.key) in
      let law : Q (n, 4 * r.cells) = subst Q (λ j. (same j, wide j)) (loads m (with_reader m id (Some (reader_after r.reader f (loaded w.image f)))) id run.is_machine record { reader = r.reader; find = f; has_find = record { there = at_map reader_of s.views id (Reads r) at; under_way = is }; next = refl }) in
      let q : Reader = reader_after r.reader f (outcome_of f.place n f.key) in
      let ok = front_ok w s q r at law.0 in
      (Reads (read_view_with r w.made q), keeps, tt, (h.0, w, goes_on s w h.0 r q (set s.words i n) run at (set-get_or s.words i 0) w.made (starts_self w.made) ok law.0), (w.made, record { more = (run.reads id r at).seen; front = ok; next = refl; values = values_at w s r run.is_machine (run.reads id r at).cells }, law.1))

  pub owns_load : (me : M) (i : ℕ) → me ≡ (Reads (read_view_of me.0), []) → ((f : Find) → (read_view_of me.0).reader.find ≡ Some f → i ≡ next_word_of f.place) → Allows Rule slots id me i (λ n. n) (LoadShows {S = S} (step slots i 0 0 none) me)
  owns_load me i is at_word = subst (λ (m : M). Allows Rule slots id m i (λ n. n) (LoadShows {S = S} (step slots i 0 0 none) m)) (sym is) (loads_at (read_view_of me.0) i (read_view_of me.0).reader.find refl at_word)

longer_starts : (xs ys zs : List Put) → IsStartOf xs zs → IsStartOf ys zs → IsStartOf (longer_puts xs ys) zs
longer_starts xs ys zs a b = by (nat_le (length xs) (length ys))
  where
    by : (t : Bool) → IsStartOf (pick_puts t xs ys) zs
    by true = b
    by false = a

pub longer_length : (xs ys : List Put) (m n : ℕ) → m ≤ length xs → n ≤ length ys → max m n ≤ length (longer_puts xs ys)
longer_length xs ys m n a b = by (nat_le (length xs) (length ys)) refl
  where
    by : (t : Bool) → nat_le (length xs) (length ys) ≡ t → max m n ≤ length (pick_puts t xs ys)
    by true e = let h : length xs ≤ length ys = leb-true (length xs) (length ys) e in omega arith
    by false e = let h : length ys < length xs = leb-false (length xs) (length ys) e in omega arith

longer_left : (xs ys : List Put) → length xs ≤ length (longer_puts xs ys)
longer_left xs ys = let h = longer_length xs ys (length xs) (length ys) (omega arith) (omega arith) in omega arith

pub longer_values : (words : ℕ) (xs ys : List Put) → HasValuesBelow words xs → HasValuesBelow words ys → HasValuesBelow words (longer_puts xs ys)
longer_values words xs ys a b = by (nat_le (length xs) (length ys))
  where
    by : (t : Bool) → HasValuesBelow words (pick_puts t xs ys)
    by true = b
    by false = a

longer_right : (xs ys : List Put) → length ys ≤ length (longer_puts xs ys)
longer_right xs ys = let h = longer_length xs ys (length xs) (length ys) (omega arith) (omega arith) in omega arith

module _ (S : Type 0) (cells slots id other : ℕ) where
  joins_at : (r q : ReadView) → r.reader.find ≡ None → q.reader.find ≡ None → Joins (Running {S = S} cells) id (Reads r) other (Reads q) (Reads (joined_read_view r q)) Spent
  joins_at r q rests others s h at apart there =
      let w : WriteView = h.1 in let run = h.2 in
      let x : ReadView = joined_read_view r q in
      let vs : List View = set s.views id (Reads x) in
      let vs' : List View = set vs other Spent in
      let beside : get_elem? s.views other ≡ some (Reads q) = ⊎_elim (λ (t : (other ≡ id) × (Reads x ≡ Reads q)). absurd (apart t.0)) (λ (t : (other ≢ id) × (get_elem? s.views other ≡ some (Reads q))). t.1) (at_set s.views id other (Reads x) (Reads q) there) in
      let a = run.reads id r at in let b = run.reads other q beside in
      let m : MachineState = assembled w s.views in
      let now : IsMachine (with_reader (with_reader m id (Some x.reader)) other None) = joins m (with_reader (with_reader m id (Some x.reader)) other None) other id run.is_machine record {
        from = q.reader;
        into = r.reader;
        apart = apart;
        from_rests = record { there = at_map reader_of s.views other (Reads q) beside; rests = others };
        into_rests = record { there = at_map reader_of s.views id (Reads r) at; rests = rests };
        next = refl;
      } in
      let readers : map reader_of vs' ≡ set (set (map reader_of s.views) id (Some x.reader)) other None = map-set reader_of vs other Spent ∙ ap (λ (l : List (Option Reader)). set l other None) (map-set reader_of s.views id (Reads x)) in
      let seen : IsStartOf x.seen w.made = longer_starts r.seen q.seen w.made a.seen b.seen in
      let front : x.reader.front ≤ length x.seen = longer_length r.seen q.seen r.reader.front q.reader.front a.front b.front in (
        h.0,
        w,
        record {
          is_machine = subst (λ (rs : List (Option Reader)). IsMachine (state_of w rs)) (sym readers) now;
          sized = run.sized;
          words_are = run.words_are;
          alone = λ j v e. ⊎_elim (λ (t : (j ≡ other) × (Spent ≡ Writes v)). absurd (cc))
              (λ (t : (j ≢ other) × (get_elem? vs j ≡ some (Writes v))). ⊎_elim (λ (k : (j ≡ id) × (Reads x ≡ Writes v)). absurd (cc)) (λ (k : (j ≢ id) × (get_elem? s.views j ≡ some (Writes v))). run.alone j v k.1) (at_set s.views id j (Reads x) (Writes v) t.1))
              (at_set vs other j Spent (Writes v) e);
          reads = λ j v e. ⊎_elim (λ (t : (j ≡ other) × (Spent ≡ Reads v)). absurd (cc))
              (λ (t : (j ≢ other) × (get_elem? vs j ≡ some (Reads v))). ⊎_elim (λ (k : (j ≡ id) × (Reads x ≡ Reads v)). let y : x ≡ v = cc in subst (Knows w) y record { cells = a.cells; seen = seen; front = front; left = (a.seen, longer_left r.seen q.seen); right = (b.seen, longer_right r.seen q.seen) }) (λ (k : (j ≢ id) × (get_elem? s.views j ≡ some (Reads v))). run.reads j v k.1) (at_set s.views id j (Reads x) (Reads v) t.1))
              (at_set vs other j Spent (Reads v) e);
        },
      )

  pub owns_join : (v u : View) → v ≡ Reads (read_view_of v) → u ≡ Reads (read_view_of u) → (read_view_of v).reader.find ≡ None → (read_view_of u).reader.find ≡ None → Joins (Running {S = S} cells) id v other u (joined_view v u) Spent
  owns_join v u is is' rests others = subst (λ (x : View × View). Joins (Running {S = S} cells) id x.0 other x.1 (joined_view v u) Spent) (λ k. (sym is k, sym is' k)) (joins_at (read_view_of v) (read_view_of u) rests others)
