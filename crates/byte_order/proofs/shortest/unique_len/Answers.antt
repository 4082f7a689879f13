use Rattle.std.proofs.Common.{◌≡◌, ◌+◌, suc, arith, subst, sym}
use Rattle.std.specs.Prelude.{option_copied, IfSome, Some}
use Rattle.byte_order.specs.Strings.{Differ, IsUniqueLength, neighbours}
use Rattle.byte_order.proofs.Shared.{Shared, BesideSome, beside, flipped, greater_is, unique}
use Rattle.byte_order.specs.Laws.{DiffersFrom}
use Rattle.byte_order.proofs.Sizes.{unique_once, unique_size_is}
use Rattle.byte_order.proofs.shortest.unique_len.Goals.{in-Some, in-None, in-Some-next, in-None-next}
use Rattle.byte_order.proofs.shortest.unique_len.Goals as goal

pub returns-clause-shortest : goal.returns-clause-shortest
returns-clause-shortest c =
    let key = c.args.key.now in
    let before : BesideSome key (option_copied c.args.prev) c.match-prev.before = elim c.match-prev.branch [
      | in-Some w ↦
          let shared : Shared w.in-Some.prev.now key w.shared_len-before.result = record {
            same = w.shared_len-before.ensures.shared;
            most = w.shared_len-before.ensures.most;
            differ = w.shared_len-before.ensures.differ;
          } in
          let differ = subst (λ o. IfSome o (λ prev. Differ prev.now key)) w.in-Some.is c.requires.before in
          subst (λ o. BesideSome key (option_copied o) c.match-prev.before) (sym w.in-Some.is)
          (subst (λ n. BesideSome key (Some w.in-Some.prev.now) n) (sym w.before-is) (beside _ _ _ (flipped _ _ _ shared) (differ.1, differ.0)))
      | in-None w ↦ subst (λ o. BesideSome key (option_copied o) c.match-prev.before) (sym w.in-None.is) w.before-is
    ] in
    let behind : BesideSome key (option_copied c.args.next) c.match-next.behind = elim c.match-next.branch [
      | in-Some-next w ↦
          let shared : Shared key w.in-Some-next.next.now w.shared_len-behind.result = record {
            same = w.shared_len-behind.ensures.shared;
            most = w.shared_len-behind.ensures.most;
            differ = w.shared_len-behind.ensures.differ;
          } in
          let differ = subst (λ o. IfSome o (λ next. Differ key next.now)) w.in-Some-next.is c.requires.behind in
          subst (λ o. BesideSome key (option_copied o) c.match-next.behind) (sym w.in-Some-next.is)
          (subst (λ n. BesideSome key (Some w.in-Some-next.next.now) n) (sym w.behind-is) (beside _ _ _ shared differ))
      | in-None-next w ↦ subst (λ o. BesideSome key (option_copied o) c.match-next.behind) (sym w.in-None-next.is) w.behind-is
    ] in
    let greater = greater_is c.match-prev.before c.match-next.behind c.max.result c.max.ensures in
    let more : suc c.max.result ≡ c.max.result + 1 = omega arith in
    subst (IsUniqueLength key (neighbours (option_copied c.args.prev) (option_copied c.args.next))) more
    (unique key _ _ _ _ _ c.requires.some before behind greater.0 greater.1 greater.2)

pub returns-clause-size : goal.returns-clause-size
returns-clause-size c =
    let key = c.args.key.now in
    let before : DiffersFrom key (option_copied c.args.prev) = elim c.match-prev.branch [
      | in-Some w ↦
          let differ = subst (λ o. IfSome o (λ prev. Differ prev.now key)) w.in-Some.is c.requires.before in
          subst (λ o. DiffersFrom key (option_copied o)) (sym w.in-Some.is) (differ.1, differ.0)
      | in-None w ↦ subst (λ o. DiffersFrom key (option_copied o)) (sym w.in-None.is) tt
    ] in
    let behind : DiffersFrom key (option_copied c.args.next) = elim c.match-next.branch [
      | in-Some-next w ↦
          let differ = subst (λ o. IfSome o (λ next. Differ key next.now)) w.in-Some-next.is c.requires.behind in
          subst (λ o. DiffersFrom key (option_copied o)) (sym w.in-Some-next.is) differ
      | in-None-next w ↦ subst (λ o. DiffersFrom key (option_copied o)) (sym w.in-None-next.is) tt
    ] in
    unique_once key (neighbours (option_copied c.args.prev) (option_copied c.args.next)) _ _ (returns-clause-shortest c)
    (unique_size_is (option_copied c.args.prev) key (option_copied c.args.next) c.requires.some before behind)
