use Rattle.std.proofs.Common.{◌+◌, ◌<◌, length, sym, subst, arith}
use Rattle.trie_rule.specs.declared.views.WriteView.{WriteView}
use Rattle.trie_writer.specs.Written.{IsPutting}
use Rattle.trie_writer.proofs.Writes.{first, next, goes, ends}
use Rattle.trie_writer.proofs.make.Goals as goal

pub stores-init : goal.stores-init
stores-init c = let r = c.requires in record { table = r.own.0; cells = r.own.1; putting = first c.args.seat.now.knows c.args.key.now c.args.value.now c.args.plan.now r.idle r.may r.stores }

pub store-requires-in-stores-clause-next : goal.store-requires-in-stores-clause-next
store-requires-in-stores-clause-next c =
    next c.args.seat.now.knows c.stores.seat.knows c.args.key.now c.args.value.now c.args.plan.now c.stores.at c.store.result c.stores.invariant.putting c.store.ensures (omega (arith, c.stores-test.true, c.len.ensures.count))

pub stores-preserved : goal.stores-preserved
stores-preserved c =
    let own = c.store-in-stores.ensures.own in
    let inside : c.stores.at < length c.args.plan.now = omega (arith, c.stores-test.true, c.len.ensures.count) in
    record {
      table = own.0;
      cells = own.1;
      putting = subst (λ (x : WriteView). IsPutting c.args.seat.now.knows x c.args.key.now c.args.value.now c.args.plan.now (c.stores.at + 1)) (sym c.store-in-stores.ensures.wrote)
          (goes c.args.seat.now.knows c.stores.seat.knows c.args.key.now c.args.value.now c.args.plan.now c.stores.at c.store.result c.requires.stores c.stores.invariant.putting c.store.ensures inside);
    }

pub returns-clause-put : goal.returns-clause-put
returns-clause-put c =
    ends c.args.seat.now.knows c.stores.seat.knows c.args.key.now c.args.value.now c.args.plan.now c.stores.at c.requires.idle c.requires.stores c.stores.invariant.putting (omega (arith, c.stores-test.false, c.len.ensures.count))
