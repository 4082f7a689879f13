use Rattle.std.proofs.Common.{ℕ, Some, sym, subst}
use Rattle.trie_reader.specs.Read.{KeepsWhatWasTold}
use Rattle.trie_reader.proofs.Copies.{told_kept}
use Rattle.trie_reader.proofs.Passing.{starts_trans}
use Rattle.trie_reader.proofs.find.Goals as goal

pub returns-in-Absent-clause-told : goal.returns-in-Absent-clause-told
returns-in-Absent-clause-told g c =
    let p = c.in-Absent.ensures.passes in
    told_kept c.args.seat.now.knows c.pass.new.seat.knows c.args.key.now _ _ record { base = c.load_front-base.result; least = c.nodes.invariant.high; is = p.tells } (starts_trans c.args.seat.now.knows.seen c.nodes.seat.knows.seen c.pass.new.seat.knows.seen c.nodes.invariant.seen p.seen)

pub returns-in-Found-clause-told : goal.returns-in-Found-clause-told
returns-in-Found-clause-told g c =
    let p = c.in-Found.ensures.passes in
    subst (λ (at : ℕ). KeepsWhatWasTold c.args.seat.now.knows c.args.key.now (Some c.in-Found.rec) at) (sym c.max.ensures)
    (told_kept c.args.seat.now.knows c.pass.new.seat.knows c.args.key.now _ _ record { base = c.load_front-base.result; least = c.nodes.invariant.high; is = p.tells } (starts_trans c.args.seat.now.knows.seen c.nodes.seat.knows.seen c.pass.new.seat.knows.seen c.nodes.invariant.seen p.seen))
