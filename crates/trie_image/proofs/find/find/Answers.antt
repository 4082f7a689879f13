use Rattle.std.proofs.Common.{sym, subst, ◌∙◌}
use Rattle.trie_image.specs.declared.Advance.TheVariants.{Found, Absent}
use Rattle.trie_image.specs.Way.{OnTheWay, LeadsTo}
use Rattle.trie_image.proofs.find.find.Goals as goal

pub load_from-requires-clause-way : goal.load_from-requires-clause-way
load_from-requires-clause-way g c = subst (λ s. OnTheWay (g.W.WordSource.image c.args.from.now s) c.args.key.now c.loads.place) (sym c.loads.invariant.same) c.loads.invariant.way

pub loads-preserved : goal.loads-preserved
loads-preserved g c = record {
  way = subst (λ s. OnTheWay (g.W.WordSource.image c.args.from.now s) c.args.key.now c.in-On.next) c.loads.invariant.same c.in-On.ensures.leads.0;
  same = c.load_from.ensures.same ∙ c.loads.invariant.same;
}

pub returns-in-Found-clause-found : goal.returns-in-Found-clause-found
returns-in-Found-clause-found g c = subst (λ s. LeadsTo (g.W.WordSource.image c.args.from.now s) c.args.key.now c.loads.place (Found c.in-Found.rec)) c.loads.invariant.same c.in-Found.ensures.leads

pub returns-in-Absent-clause-found : goal.returns-in-Absent-clause-found
returns-in-Absent-clause-found g c = subst (λ s. LeadsTo (g.W.WordSource.image c.args.from.now s) c.args.key.now c.loads.place Absent) c.loads.invariant.same c.in-Absent.ensures.leads
