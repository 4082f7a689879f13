use Rattle.std.proofs.Common.{◌≡◌, ◌+◌, ◌∙◌, ◌++◌, List, Some, sym, ap, arith}
use Rattle.key_types.specs.Table.{Entry}
use Rattle.trie_rule.specs.Seats.{KeptWords}
use Rattle.shard_table.specs.Together.{shard_entries}
use Rattle.shard_table.proofs.Between.{get_less}
use Rattle.shard_table.proofs.Listed.{begins_shard, none_given}
use Rattle.shard_table.proofs.frozen.FrozenTable.next_into.Goals as goal
use Rattle.std.proofs.Common.{drop}

pub overflow_add-next : goal.overflow_add-next
overflow_add-next c =
    omega (arith, get_less c.args.self.now c.steps.cursor-inside.shard c.steps.cursor-inside.cursor.frozen c.steps.invariant.own, c.shards-count.ensures, c.shards-count.type_inv)

pub steps-preserved : goal.steps-preserved
steps-preserved c =
    let next = c.steps.cursor-inside.shard + 1 in
    let rest = shard_entries (drop next c.args.self.now) in
    let none =
    none_given c.steps.cursor-inside.cursor.left c.next_into.new.cursor.left c.in_ok-next_into.field-0 c.next_into.new.key c.next_into.new.value c.if-branch.false
    c.in_ok-next_into.ensures.gives in
    record {
      own = c.shard-in-steps.ensures ∙ ap (λ (k : KeptWords). Some k) (sym c.in_ok-cursor-inside.ensures.own);
      left =
          begins_shard c.args.self.now next c.shard-in-steps.result.now c.in_ok-cursor-inside.field-0 c.shard-in-steps.ensures c.in_ok-cursor-inside.ensures.left
          ∙ sym (ap (λ (es : List Entry). es ++ rest) none) ∙ c.steps.invariant.left;
    }
