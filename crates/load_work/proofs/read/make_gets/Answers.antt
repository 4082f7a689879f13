use Rattle.std.proofs.Common.{rules, ◌≡◌, ◌+◌, true, List, [], ◌∷◌, ◌++◌, take, slice_index_or, sym, subst, arith}
use Rattle.shard_table.specs.Seats.{AreEach}
use Rattle.script_text.specs.declared.spans.GetLine.{GetLine}
use Rattle.load_work.specs.declared.batch.Answer.{Answer}
use Rattle.load_work.specs.Reads.{HasGrown, HasRead, AnswersRise, is_of, gets_of}
use Rattle.load_work.proofs.Lists.{any_default, filter_taken, item_at}
use Rattle.load_work.proofs.Answered.{each_with_itself, each_chain, grown_same, grown_on, reads_more, rises_now, rises_alone}
use Rattle.load_work.proofs.read.make_gets.Goals as goal

pub gets-init : goal.gets-init
gets-init g c = record {
  free = c.requires.seats;
  grown = each_with_itself HasGrown c.args.seats.now grown_same;
  read = subst (λ (l : List Answer). AreEach (HasRead c.args.table.now.bounds c.args.seats.now c.args.seats.now) [] l) (sym c.new-answers.ensures.items) tt;
  rise = rises_alone c.new-answers.result.items c.new-answers.ensures.items;
}

pub returns-in_err-push-clause-grown : goal.returns-in_err-push-clause-grown
returns-in_err-push-clause-grown g c = each_chain HasGrown c.args.seats.now c.gets.seats c.read_get.new.seats grown_on c.gets.invariant.grown c.read_get.ensures.grown

pub gets-preserved : goal.gets-preserved
gets-preserved g c =
    let b = c.args.table.now.bounds in let first = c.args.seats.now in let before = c.gets.seats in let after = c.read_get.new.seats in
    let gets = c.args.gets.now in let k = c.gets.get-index in let q = c.args.reader in let a = c.read_get.result in
    let get : GetLine = slice_index_or gets k _ in
    let mine : is_of q get ≡ true = search rules in
    let next : gets_of q (take (k + 1) gets) ≡ gets_of q (take k gets) ++ get ∷ [] = filter_taken (is_of q) gets k get (omega arith) (any_default gets k _ get (omega arith)) mine in
    let pushed = c.in_ok-push.ensures.items in let was = c.gets.invariant.grown in let more = c.read_get.ensures.grown in
    let seat = item_at before a.shard c.read_get.ensures.read.inside in
    record {
      free = c.read_get.ensures.seats;
      grown = each_chain HasGrown first before after grown_on was more;
      read = subst (λ (l : List GetLine). AreEach (HasRead b first after) l c.push.new.self.items) (sym next)
          (subst (λ (l : List Answer). AreEach (HasRead b first after) (gets_of q (take k gets) ++ get ∷ []) l) (sym pushed)
          (reads_more b first before after was more (gets_of q (take k gets)) c.gets.answers.items get a c.gets.invariant.read c.read_get.ensures.read));
      rise = subst AnswersRise (sym pushed)
          (rises_now b first before after was more (gets_of q (take k gets)) c.gets.answers.items get a seat.0 c.gets.invariant.read c.read_get.ensures.read seat.1 c.gets.invariant.rise);
    }
