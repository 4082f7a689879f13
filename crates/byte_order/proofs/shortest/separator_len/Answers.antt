use Rattle.std.proofs.Common.{◌≡◌, ◌+◌, suc, arith, subst}
use Rattle.byte_order.specs.Strings.{IsSeparatorLength}
use Rattle.byte_order.proofs.Shared.{Shared, separates}
use Rattle.byte_order.proofs.Sizes.{separator_once, separator_size_is}
use Rattle.byte_order.proofs.shortest.separator_len.Goals as goal

pub returns-clause-shortest : goal.returns-clause-shortest
returns-clause-shortest c =
    let shared : Shared c.args.prev.now c.args.next.now c.shared_len.result = record {
      same = c.shared_len.ensures.shared;
      most = c.shared_len.ensures.most;
      differ = c.shared_len.ensures.differ;
    } in
    let more : suc c.shared_len.result ≡ c.shared_len.result + 1 = omega arith in
    subst (IsSeparatorLength c.args.prev.now c.args.next.now) more (separates _ _ _ shared c.requires)

pub returns-clause-size : goal.returns-clause-size
returns-clause-size c = separator_once c.args.prev.now c.args.next.now _ _ (returns-clause-shortest c) (separator_size_is c.args.prev.now c.args.next.now c.requires)
