-- The workers that are dealt out, one after the other.
use Rattle.std.proofs.Common.{rules, ◌≡◌, ◌+◌, false, ℕ, suc, ◌<◌, List, [], ◌∷◌, ◌++◌, length, take, slice_get, slice_index_or, Option, Some, None, Ok, All, refl, sym, ap, ◌∙◌, subst, length-append, arith}
use Rattle.std.specs.Global.{Vec}
use Rattle.trie_rule.specs.Seats.{CellsAt, WriterAt, ReaderAt}
use Rattle.shard_table.specs.Seats.{TableAt, AreEach, IsFreeWriter, IsFreeReader}
use Rattle.script_text.specs.declared.spans.PutLine.{PutLine}
use Rattle.script_text.specs.declared.spans.GetLine.{GetLine}
use Rattle.load_work.specs.declared.batch.Answer.{Answer}
use Rattle.load_work.specs.declared.jobs.Job.{Job}
use Rattle.load_work.specs.declared.jobs.Job.TheVariants.{Write, Read}
use Rattle.load_work.specs.declared.jobs.Done.{Done}
use Rattle.load_work.specs.declared.jobs.Done.TheVariants as done
use Rattle.load_work.specs.Puts.{Makes, goes_to, puts_of}
use Rattle.load_work.specs.Reads.{HasGrown, HasRead, is_of, gets_of}
use Rattle.load_work.specs.Jobs.{CanRun, HasRun}
use Rattle.load_work.specs.Deal.{IsDealt, writes_from, reads_from}
use Rattle.shard_table.specs.Shards.{shard_index}
use Rattle.load_work.proofs.Lists.{any_default, filter_passed_over, get_part, or_part}
use Rattle.load_work.proofs.Answered.{each_with_itself, each_partner, grown_same, rises_alone}

module _ (table : TableAt) (puts : List PutLine) (gets : List GetLine) where
  -- what workers leave that have nothing to do
  pub idle_reader : (q : ℕ) (seats : Vec ReaderAt) (none : Vec Answer) → AreEach IsFreeReader table.shards seats.items → gets_of q gets ≡ [] → none.items ≡ [] → HasRun table puts gets (Read q seats) (done.HasRead seats (Ok none))
  idle_reader q seats none free without e = (
    free,
    each_with_itself HasGrown seats.items grown_same,
    (
      subst (λ (l : List Answer). AreEach (HasRead table.bounds seats.items seats.items) (gets_of q gets) l) (sym e) (subst (λ (l : List GetLine). AreEach (HasRead table.bounds seats.items seats.items) l []) (sym without) tt),
      rises_alone none.items e,
    ),
  )

  pub idle_writer : (i : ℕ) (seat : WriterAt) → CanRun table (Write i seat) → puts_of table.bounds i puts ≡ [] → HasRun table puts gets (Write i seat) (done.Wrote seat None)
  idle_writer i seat can without = (can, subst (λ (l : List PutLine). Makes seat.knows l seat.knows) (sym without) refl)

  module _ (workers : List Job) (at m n : ℕ) (same : at ≡ m) (next : n ≡ suc m) (jobs : List Job) (places : List (Option Done)) where
    -- the worker stands before those that were dealt
    pub next_reader : (seats : Vec ReaderAt) (rest : List (Vec ReaderAt)) → IsDealt table puts gets (Read at seats ∷ (reads_from n rest ++ workers)) jobs places → IsDealt table puts gets (reads_from m (seats ∷ rest) ++ workers) jobs places
    next_reader seats rest h =
        subst (λ (i : ℕ). IsDealt table puts gets (Read i seats ∷ (reads_from (suc m) rest ++ workers)) jobs places) same
        (subst (λ (i : ℕ). IsDealt table puts gets (Read at seats ∷ (reads_from i rest ++ workers)) jobs places) next h)

    pub next_writer : (seat : WriterAt) (rest : List WriterAt) → IsDealt table puts gets (Write at seat ∷ (writes_from n rest ++ workers)) jobs places → IsDealt table puts gets (writes_from m (seat ∷ rest) ++ workers) jobs places
    next_writer seat rest h =
        subst (λ (i : ℕ). IsDealt table puts gets (Write i seat ∷ (writes_from (suc m) rest ++ workers)) jobs places) same
        (subst (λ (i : ℕ). IsDealt table puts gets (Write at seat ∷ (writes_from i rest ++ workers)) jobs places) next h)

part_inside : {X : Type 0} (xs ys : List X) (x : X) → length xs < length (xs ++ x ∷ ys)
part_inside xs ys x = omega (arith, length-append xs (x ∷ ys))

-- the seats of a reader among all
pub reader_free : (shards : List CellsAt) (all now rest : List (Vec ReaderAt)) (seats : Vec ReaderAt) → all ≡ now ++ seats ∷ rest → All (λ (s : Vec ReaderAt). AreEach IsFreeReader shards s.items) all → AreEach IsFreeReader shards seats.items
reader_free shards all now rest seats e free =
    let free' : All (λ (s : Vec ReaderAt). AreEach IsFreeReader shards s.items) (now ++ seats ∷ rest) = subst (λ (l : List (Vec ReaderAt)). All (λ (s : Vec ReaderAt). AreEach IsFreeReader shards s.items) l) e free in
    subst (λ (s : Vec ReaderAt). AreEach IsFreeReader shards s.items) (or_part now rest seats seats) (free' (length now) seats (part_inside now rest seats))

-- the seat of a writer among all
pub writer_can : (table : TableAt) (at : ℕ) (all now rest : List WriterAt) (seat : WriterAt) → all ≡ now ++ seat ∷ rest → at ≡ length now → AreEach IsFreeWriter table.shards all → CanRun table (Write at seat)
writer_can table at all now rest seat e same free =
    let there : slice_get all at ≡ Some seat = ap (λ (i : ℕ). slice_get all i) same ∙ ap (λ (l : List WriterAt). slice_get l (length now)) e ∙ get_part now rest seat in
    let p = each_partner IsFreeWriter table.shards all at seat free there in (p.0, p.1, (p.2.own, p.2.idle))

-- a get of another reader, and a put that goes to another shard
pub other_reader : (gets : List GetLine) (k q : ℕ) (d : GetLine) → k < length gets → ((slice_index_or gets k d).reader ≡ q → ⊥) → gets_of q (take (k + 1) gets) ≡ gets_of q (take k gets)
other_reader gets k q d less other =
    let get : GetLine = slice_index_or gets k d in let fails : is_of q get ≡ false = search rules in
    filter_passed_over (is_of q) gets k get less (any_default gets k d get less) fails

pub other_shard : (bounds : List (List ℕ)) (puts : List PutLine) (k i n : ℕ) (d : PutLine) → k < length puts → n ≡ shard_index bounds (slice_index_or puts k d).partition.now → (n ≡ i → ⊥) → puts_of bounds i (take (k + 1) puts) ≡ puts_of bounds i (take k puts)
other_shard bounds puts k i n d less is other =
    let put : PutLine = slice_index_or puts k d in let fails : goes_to bounds i put ≡ false = search rules in
    filter_passed_over (goes_to bounds i) puts k put less (any_default puts k d put less) fails
