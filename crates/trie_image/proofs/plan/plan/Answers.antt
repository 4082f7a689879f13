use Rattle.std.proofs.Common.{slice_index, ap, arith}
use Rattle.trie_image.proofs.plan.plan.Goals as goal

pub plan_from-requires-clause-used : goal.plan_from-requires-clause-used
plan_from-requires-clause-used g c = let r = c.requires.put in omega (arith, r.capacity, r.image.image.small)

pub plan_from-requires-clause-number : goal.plan_from-requires-clause-number
plan_from-requires-clause-number g c = let r = c.requires.put in let i = r.image.image in
    omega (arith, ap (λ s. slice_index (g.W.WordSource.image c.args.from.now s) 0) c.exit_of-exit.ensures.same, r.number, i.fewer, i.capacity, i.small)
