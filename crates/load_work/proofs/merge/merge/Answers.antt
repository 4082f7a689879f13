use Rattle.std.proofs.Common.{◌≡◌, ◌-◌, ◌∷◌, [], suc, List, length, ap, ◌∙◌, subst, sym, length-append, length-drop, arith}
use Rattle.std.specs.Prelude.{reverse}
use Rattle.load_work.specs.declared.batch.Answer.{Answer}
use Rattle.load_work.specs.Merge.{IsMerge}
use Rattle.load_work.proofs.Lists.{empty_vec, whole_again}
use Rattle.load_work.proofs.Merging.{never_empty, next_long, next_merged, all_merged}
use Rattle.load_work.proofs.merge.merge.Goals as goal

pub unreachable-requires : goal.unreachable-requires
unreachable-requires c =
    let k = c.gets.left in let e : k ≡ suc (k - 1) = omega arith in
    never_empty c.args.gets.now (k - 1) k e _ (omega arith) c.args.lists c.gets.lists c.requires.readers c.gets.invariant.count c.index_mut.result.now c.index_mut.ensures.value c.gets.invariant.long
    (empty_vec c.index_mut.result.now c.in-None.ensures.cases.0)

pub gets-preserved : goal.gets-preserved
gets-preserved c =
    let gets = c.args.gets.now in let k = c.gets.left in let e : k ≡ suc (k - 1) = omega arith in
    let answers = c.gets.answers.items in let a = c.in-Some.answer in let pushed = c.in_ok-push-in-Some.ensures.items in
    record {
      inside = omega arith;
      count = c.gets.invariant.count;
      len = omega (arith, ap length pushed, length-append answers (a ∷ []), length-drop k gets, length-drop (k - 1) gets, c.gets.invariant.len, c.gets.invariant.inside);
      long = next_long gets (k - 1) k e _ (omega arith) c.args.lists c.gets.lists c.requires.readers c.gets.invariant.count c.index_mut.result.now c.index_mut.ensures.value c.gets.invariant.long answers a c.pop.new.self c.in-Some.ensures.items;
      each = next_merged gets (k - 1) k e _ (omega arith) c.args.lists c.gets.lists c.requires.readers c.gets.invariant.count c.index_mut.result.now c.index_mut.ensures.value c.gets.invariant.long answers a c.pop.new.self c.in-Some.ensures.items
          c.push.new.self.items pushed c.gets.invariant.each;
    }

pub returns : goal.returns
returns c =
    let answers = c.gets.answers.items in let turned = c.reverse.new.self in
    let same : c.as_mut_slice.result.now ≡ answers = c.as_mut_slice.ensures.value in
    let long : length turned ≡ length answers = omega (arith, c.reverse.ensures.len, ap length same) in
    subst (IsMerge c.args.gets.now c.args.lists.items) (sym (whole_again turned answers c.gets.answers.len c.gets.answers.ok.0 long))
    (all_merged c.args.gets.now c.args.lists c.gets.lists answers turned c.gets.left (omega (arith, c.gets-test.false)) (c.reverse.ensures.after ∙ ap (λ (l : List Answer). reverse l) same) c.gets.invariant.count c.gets.invariant.len c.gets.invariant.long c.gets.invariant.each)
