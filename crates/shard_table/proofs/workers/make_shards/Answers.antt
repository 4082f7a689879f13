use Rattle.std.proofs.Common.{◌≡◌, ◌∷◌, ◌++◌, [], sym, ap, ◌∙◌, subst, arith}
use Rattle.trie_rule.specs.Seats.{CellsAt}
use Rattle.trie_rule.specs.Rule.{opening_write_view}
use Rattle.shard_table.specs.Seats.{HaveCells, IsNewWriter}
use Rattle.shard_table.proofs.Each.{each_more, each_equal, all_more}
use Rattle.shard_table.proofs.workers.make_shards.Goals as goal

pub loop-preserved : goal.loop-preserved
loop-preserved c = let shard = c.in_ok-shard.shard in let seat = c.in_ok-shard.seat in let made = c.in_ok-shard.ensures in
    let new : IsNewWriter shard seat = record { own = made.own; knows = made.opening ∙ ap opening_write_view (sym made.cells) } in
    record {
      each = each_equal IsNewWriter (c.loop.shards.items ++ shard ∷ []) c.push.new.self.items (c.loop.writers.items ++ seat ∷ []) c.push-in-loop.new.self.items c.in_ok-push.ensures.items c.in_ok-push-2.ensures.items
          (each_more IsNewWriter c.loop.shards.items c.loop.writers.items shard seat c.loop.invariant.each new);
      cells = subst (HaveCells c.args.cells) (sym c.in_ok-push.ensures.items) (all_more (λ (s : CellsAt). s.cells ≡ c.args.cells) c.loop.shards.items shard c.loop.invariant.cells made.cells);
      count = omega (arith, c.in_ok-push.ensures.len, c.loop.invariant.count);
    }
