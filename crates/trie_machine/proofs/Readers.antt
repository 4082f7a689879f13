-- The readers' events.
use Rattle.std.proofs.Common.{◌≡◌, ◌≢◌, ℕ, zero, suc, ◌+◌, ◌*◌, ◌^◌, ◌<◌, ◌≤◌, max, List, [], ◌∷◌, ◌++◌, length, set, slice_get, slice_index, replicate, Option, Some, None, refl, sym, ap, ◌∙◌, subst, ⊎_elim, arith}
use Rattle.std.proofs.lemmas.List.{get_or-replicate}
use mathlib.Core.Option.{some, some-injective, some-ne-none}
use lib.ListN.{get_elem?}
use Rattle.cell_layout.specs.Words.{byte_of}
use Rattle.trie_image.specs.declared.Put.{Put}
use Rattle.trie_image.specs.declared.Owner.TheVariants.{RecordCell}
use Rattle.trie_image.specs.declared.Ledger.{Ledger}
use Rattle.trie_image.specs.declared.Advance.{Advance}
use Rattle.trie_image.specs.declared.Advance.TheVariants.{On, Found, Absent}
use Rattle.trie_image.specs.declared.StoreKind.{StoreKind}
use Rattle.trie_image.specs.declared.StoreKind.TheVariants.{Prepare, Publish, Finish}
use Rattle.trie_image.specs.declared.WordStore.{WordStore}
use Rattle.trie_image.specs.Paths.{owner}
use Rattle.trie_image.specs.Puts.{IsKey}
use Rattle.trie_image.specs.WellFormed.{IsWellFormed, opening_ledger}
use Rattle.trie_image.specs.Place.{start_place, place_sees, next_word_of, outcome_of}
use Rattle.trie_image.specs.Laws.{Answers}
use Rattle.trie_image.proofs.PublicLaws.{law_falls, law_advance, law_opening, law_start, law_inside, law_record_word}
use Rattle.trie_machine.specs.declared.Begun.{Begun}
use Rattle.trie_machine.specs.declared.Find.{Find}
use Rattle.trie_machine.specs.declared.Reader.{Reader}
use Rattle.trie_machine.specs.Fresh.{NoPutBetween, IsFresh, answer_at, IsAnswer}
use Rattle.trie_machine.specs.State.{MachineState, IsBefore, IsBeforeNext, IsWriting, IsFind, IsFinding, IsReader, IsMachine}
use Rattle.trie_machine.specs.Events.{with_reader, resting, starting, loaded, reader_after, LoadTells}
use Rattle.trie_machine.specs.Laws.{LawNew, LawFront, LawFrontWithoutKey, LawLoad, LawLoadInside, LawCopy, LawSplit, LawSplitWriter, LawJoin, LawLook}
use Rattle.trie_machine.proofs.Lists.{at_set, at_more}
use Rattle.trie_machine.proofs.FreshLemmas.{fresh_map, absent_answer, found_answer}

-- word 0 counts at most the puts
counted_before : (words : List ℕ) (cells : ℕ) (g from : Ledger) (put : Put) (k : StoreKind) → IsBefore words cells g from put k → slice_index words 0 ≤ length g.puts
counted_before words cells g from put Prepare h = omega (arith, h.1)
counted_before words cells g from put Publish h = omega (arith, h.1)
counted_before words cells g from put Finish h = omega (arith, h.1)

counted_next : (words : List ℕ) (cells : ℕ) (g from : Ledger) (put : Put) (left : List WordStore) → IsBeforeNext words cells g from put left → slice_index words 0 ≤ length g.puts
counted_next words cells g from put [] h = absurd h
counted_next words cells g from put (s ∷ left) h = counted_before words cells g from put s.kind h

counted_by : (words : List ℕ) (cells : ℕ) (g : Ledger) (o : Option Begun) → IsWriting words cells g o → slice_index words 0 ≤ length g.puts
counted_by words cells g None h = omega (arith, h)
counted_by words cells g (Some b) h = let can = h.can in counted_next words cells g can.ledger _ b.left h.before

pub counted : (m : MachineState) (ok : IsMachine m) → slice_index m.words 0 ≤ length ok.image.ledger.puts
counted m ok = counted_by m.words m.cells ok.image.ledger m.begun ok.writing

-- the readers with another one, or none, in a place, and with one more
module _ (words : List ℕ) (g : Ledger) (readers : List (Option Reader)) (all : (i : ℕ) (r : Reader) → get_elem? readers i ≡ some (Some r) → IsReader words g r) where
  readers_set : (i : ℕ) (o : Option Reader) → ((r : Reader) → o ≡ Some r → IsReader words g r) → (j : ℕ) (r : Reader) → get_elem? (set readers i o) j ≡ some (Some r) → IsReader words g r
  readers_set i o mine j r at = ⊎_elim (λ (t : (j ≡ i) × (o ≡ Some r)). mine r t.1) (λ (t : (j ≢ i) × (get_elem? readers j ≡ some (Some r))). all j r t.1) (at_set readers i j o (Some r) at)

  readers_more : (o : Option Reader) → ((r : Reader) → o ≡ Some r → IsReader words g r) → (j : ℕ) (r : Reader) → get_elem? (readers ++ o ∷ []) j ≡ some (Some r) → IsReader words g r
  readers_more o mine j r at = ⊎_elim (λ (t : get_elem? readers j ≡ some (Some r)). all j r t) (λ (t : o ≡ Some r). mine r t) (at_more readers o (Some r) j at)

is_some : (words : List ℕ) (g : Ledger) (r : Reader) → IsReader words g r → (q : Reader) → Some r ≡ Some q → IsReader words g q
is_some words g r ok q e = let same : r ≡ q = cc in subst (IsReader words g) same ok

sets_reader : (m : MachineState) (ok : IsMachine m) (i : ℕ) (r : Reader) → IsReader m.words ok.image.ledger r → IsMachine (with_reader m i (Some r))
sets_reader m ok i r mine = record { image = ok.image; writing = ok.writing; readers = readers_set m.words ok.image.ledger m.readers ok.readers i (Some r) (is_some m.words ok.image.ledger r mine) }

adds_reader : (m : MachineState) (ok : IsMachine m) (r : Reader) → IsReader m.words ok.image.ledger r → IsMachine (record m { readers = m.readers ++ Some r ∷ [] })
adds_reader m ok r mine = record { image = ok.image; writing = ok.writing; readers = readers_more m.words ok.image.ledger m.readers ok.readers (Some r) (is_some m.words ok.image.ledger r mine) }

rests : (words : List ℕ) (g : Ledger) (front : ℕ) → front ≤ length g.puts → IsReader words g (resting front)
rests words g front most = record { front = most; find = tt }

-- a find that begins
starts : (words : List ℕ) (g : Ledger) (cells front : ℕ) (key : List ℕ) → IsWellFormed words g cells → IsKey key → front ≤ length g.puts → IsReader words g (starting front key)
starts words g cells front key ok is_key most = let s = law_start.0 words g key is_key.2 in record {
  front = most;
  find = record { is_key = is_key; base = refl; place = s.0; fresh = fresh_map g.puts key front (place_sees words key start_place) (ok.map key) };
}

pub fronts : LawFront
fronts m m' i key ok f = let r = ok.readers i f.reader f.rests.there in let low = counted m ok in let image = ok.image in
    subst IsMachine (sym f.next) (sets_reader m ok i (starting (max f.reader.front (slice_index m.words 0)) key) (starts m.words ok.image.ledger m.cells (max f.reader.front (slice_index m.words 0)) key image.image f.is_key (omega (arith, r.front, low))))

pub fronts_without_key : LawFrontWithoutKey
fronts_without_key m m' i ok f = let r = ok.readers i f.reader f.rests.there in let low = counted m ok in
    subst IsMachine (sym f.next) (sets_reader m ok i (resting (max f.reader.front (slice_index m.words 0))) (rests m.words ok.image.ledger (max f.reader.front (slice_index m.words 0)) (omega (arith, r.front, low))))

pub splits : LawSplit
splits m m' i ok s = let r = ok.readers i s.reader s.there in subst IsMachine (sym s.next) (adds_reader m ok (resting s.reader.front) (rests m.words ok.image.ledger s.reader.front r.front))

pub splits_writer : LawSplitWriter
splits_writer m m' ok s = subst IsMachine (sym s) (adds_reader m ok (resting (slice_index m.words 0)) (rests m.words ok.image.ledger (slice_index m.words 0) (counted m ok)))

pub joins : LawJoin
joins m m' j i ok t = let r = ok.readers i t.into t.into_rests.there in let q = ok.readers j t.from t.from_rests.there in
    let front : ℕ = max t.into.front t.from.front in
    let one : IsMachine (with_reader m i (Some (resting (max t.into.front t.from.front)))) = sets_reader m ok i (resting (max t.into.front t.from.front)) (rests m.words ok.image.ledger (max t.into.front t.from.front) (omega (arith, r.front, q.front))) in
    subst IsMachine (sym t.next) record {
      image = ok.image;
      writing = ok.writing;
      readers = readers_set m.words ok.image.ledger (set m.readers i (Some (resting (max t.into.front t.from.front)))) (readers_set m.words ok.image.ledger m.readers ok.readers i (Some (resting (max t.into.front t.from.front))) (is_some m.words ok.image.ledger (resting (max t.into.front t.from.front)) (rests m.words ok.image.ledger (max t.into.front t.from.front) (omega (arith, r.front, q.front))))) j None (λ x e. absurd (cc));
    }

pub looks : LawLook
looks m m' word ok l = let image = ok.image in (subst IsMachine (sym l.next) ok, ok.image, λ e. subst (IsWriting m.words m.cells ok.image.ledger) e ok.writing ∙ ap (λ (x : List Put). length x) image.puts_are)

pub copies : LawCopy
copies m m' rec i ok c = let image = ok.image in let has = c.has_word in let is = has.is_record in
    let word = law_record_word m.words ok.image.ledger m.cells has.number i has.put image.image (ap (λ (x : List Put). slice_get x has.number) image.puts_are ∙ is.is_there) has.more in
    let same : 4 * (has.put).cell + 1 + i ≡ 4 * rec.cell + 1 + i = omega (arith, is.cell) in (
      subst IsMachine (sym c.next) ok,
      subst (λ (k : ℕ). k < length m.words) same word.0,
      λ j l. ap (λ (k : ℕ). byte_of (slice_index m.words k) j) (sym same) ∙ word.1 j l,
    )

-- a place's own load
module _ (words : List ℕ) (g : Ledger) (cells : ℕ) (ok : IsWellFormed words g cells) (r : Reader) (mine : r.front ≤ length g.puts) (f : Find) (finds : IsFind words g r.front f) where
  low : f.base ≤ length g.puts
  low = omega (arith, mine, finds.base)

  -- puts with the same first cell are the same
  first_cell : (n : ℕ) (put : Put) → slice_get g.puts n ≡ Some put → owner g put.cell ≡ Some (RecordCell n 0)
  first_cell n put e = let z : put.cell + 0 ≡ put.cell = omega arith in subst (λ (c : ℕ). owner g c ≡ Some (RecordCell n 0)) z (ok.puts.records n 0 put e (omega arith))

  one_put : (n k : ℕ) (put other : Put) → slice_get g.puts n ≡ Some put → slice_get g.puts k ≡ Some other → put.cell ≡ other.cell → n ≡ k
  one_put n k put other at there same = let both : Some (RecordCell n 0) ≡ Some (RecordCell k 0) = sym (first_cell n put at) ∙ (ap (λ (c : ℕ). owner g c) same ∙ first_cell k other there) in cc

  Led : Advance → Type 0
  Led a = IsReader words g (reader_after r f a) × LoadTells g.puts (length words) f a

  leads : (a : Advance) → a ≡ outcome_of f.place (slice_index words (next_word_of f.place)) f.key → Answers words g f.key (place_sees words f.key f.place) a → Led a
  unfolding Led
  leads (On place) e h = (
    record { front = mine; find = record { is_key = finds.is_key; base = finds.base; place = h.0; fresh = subst (IsFresh g.puts f.key f.base) (sym h.1) finds.fresh } },
    (law_inside words g cells f.key place ok.image h.0, law_falls f.place place (slice_index words (next_word_of f.place)) f.key (sym e)),
  )
  leads (Found rec) e (sees, n, put, same, is) = let fresh = subst (IsFresh g.puts f.key f.base) sees finds.fresh in
      let n_is : fresh.0 ≡ n = one_put fresh.0 n fresh.1 put fresh.2 is.is_there (fresh.4 ∙ is.cell) in
      let answer : IsAnswer g.puts f.base f.key (Some rec) (answer_at f.base (Some rec)) = found_answer g.puts f.key f.base rec n put low same is (subst (λ (k : ℕ). NoPutBetween g.puts f.key (k + 1) f.base) n_is fresh.5) in (rests words g (answer_at f.base (Some rec)) answer.most, answer)
  leads Absent e h = let answer : IsAnswer g.puts f.base f.key None (answer_at f.base None) = absent_answer g.puts f.key f.base low (subst (IsFresh g.puts f.key f.base) h finds.fresh) in (rests words g (answer_at f.base None) answer.most, answer)

pub loads : LawLoad
unfolding Led
loads m m' i ok l = let image = ok.image in let has = l.has_find in let r = ok.readers i l.reader has.there in let finds : IsFind m.words ok.image.ledger l.reader.front l.find = subst (IsFinding m.words ok.image.ledger l.reader.front) has.under_way r.find in
    let led = leads m.words ok.image.ledger m.cells image.image l.reader r.front l.find finds (loaded m.words l.find) refl (law_advance m.words ok.image.ledger m.cells l.find.key l.find.place image.image.image finds.place) in (
      subst IsMachine (sym l.next) (sets_reader m ok i (reader_after l.reader l.find (loaded m.words l.find)) led.0),
      subst (λ (puts : List Put). LoadTells puts (length m.words) l.find (loaded m.words l.find)) image.puts_are led.1,
    )

pub load_inside : LawLoadInside
load_inside m i reader find ok has = let image = ok.image in let r = ok.readers i reader has.there in let f : IsFind m.words ok.image.ledger reader.front find = subst (IsFinding m.words ok.image.ledger reader.front) has.under_way r.find in
    law_inside m.words ok.image.ledger m.cells find.key find.place image.image.image f.place

-- the opening
no_find : (n i : ℕ) (r : Reader) → get_elem? (replicate n (Some (resting 0))) i ≡ some (Some r) → Some (resting 0) ≡ Some r
no_find zero i r e = absurd (some-ne-none _ (sym e))
no_find (suc n) zero r e = some-injective _ _ e
no_find (suc n) (suc i) r e = no_find n i r e

pub opens : LawNew
opens cells readers least most = record {
  image = record { ledger = opening_ledger; taken = refl; puts_are = refl; image = law_opening cells least most };
  writing = first_zero;
  readers = λ i r e. is_some (replicate (4 * cells) 0) opening_ledger (resting 0) (rests (replicate (4 * cells) 0) opening_ledger 0 (omega arith)) r (no_find readers i r e);
}
  where
    first_zero : slice_index (replicate (4 * cells) 0) 0 ≡ 0
    first_zero = get_or-replicate (4 * cells) 0 0 0 (omega arith)

-- so is a state of these parts
pub is_opening : (cells readers : ℕ) (words : List ℕ) (puts : List Put) (seats : List (Option Reader)) → 1 ≤ cells → cells ≤ 2 ^ 22 → words ≡ replicate (4 * cells) 0 → puts ≡ [] → seats ≡ replicate readers (Some (resting 0))
    → IsMachine record { cells = cells; words = words; used = 1; puts = puts; begun = None; readers = seats }
is_opening cells readers words puts seats least most zeros none_ rest = subst (λ (w : List ℕ). IsMachine record { cells = cells; words = w; used = 1; puts = puts; begun = None; readers = seats }) (sym zeros)
    (subst (λ (p : List Put). IsMachine record { cells = cells; words = replicate (4 * cells) 0; used = 1; puts = p; begun = None; readers = seats }) (sym none_)
    (subst (λ (r : List (Option Reader)). IsMachine record { cells = cells; words = replicate (4 * cells) 0; used = 1; puts = []; begun = None; readers = r }) (sym rest) (opens cells readers least most)))
