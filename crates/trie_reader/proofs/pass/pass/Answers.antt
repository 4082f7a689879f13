use Rattle.trie_reader.proofs.pass.pass.Goals as goal

pub returns-in-Order-clause-passes : goal.returns-in-Order-clause-passes
returns-in-Order-clause-passes g c = c.load_more.ensures.passes c.args.seat.now.knows c.args.place c.load-slot.ensures.passes

pub returns-in-Order-clause-steps : goal.returns-in-Order-clause-steps
returns-in-Order-clause-steps g c = c.load_more.ensures.steps c.args.steps.now c.args.place c.load-slot.ensures.steps

pub returns-in-Top-clause-passes : goal.returns-in-Top-clause-passes
returns-in-Top-clause-passes g c = c.load_more-in-Top.ensures.passes c.args.seat.now.knows c.args.place (c.load_more-leaf.ensures.passes c.args.seat.now.knows c.args.place c.load-mid.ensures.passes)

pub returns-in-Top-clause-steps : goal.returns-in-Top-clause-steps
returns-in-Top-clause-steps g c = c.load_more-in-Top.ensures.steps c.args.steps.now c.args.place (c.load_more-leaf.ensures.steps c.args.steps.now c.args.place c.load-mid.ensures.steps)
