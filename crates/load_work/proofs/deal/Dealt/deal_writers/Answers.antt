use Rattle.std.proofs.Common.{◌≡◌, [], ◌∷◌, ◌++◌, suc, vec_len, ◌∙◌, arith}
use Rattle.load_work.specs.Deal.{writes_from}
use Rattle.load_work.specs.Puts.{puts_of}
use Rattle.load_work.proofs.Lists.{one_less}
use Rattle.load_work.proofs.Dealing.{next_writer, idle_writer, writer_can}
use Rattle.load_work.proofs.deal.Dealt.deal_writers.Goals as goal

pub writers-preserved-in-Continue-1 : goal.writers-preserved-in-Continue-1
writers-preserved-in-Continue-1 c =
    let seat = c.in-Some.seat in let rest = c.writers.invariant.0 in let before = c.writers.writers in let now = c.pop.new.self in
    let e : vec_len before ≡ suc (vec_len now) = omega (arith, c.in-Some.ensures.cases) in
    let all : c.args.writers.items ≡ now.items ++ seat ∷ rest = one_less c.args.writers.items before.items now.items rest seat c.writers.invariant.1 c.in-Some.ensures.items in (
      seat ∷ rest,
      all,
      λ gets workers was.
          next_writer c.args.table.now c.args.puts.now gets workers c.len-shard.result (vec_len now) (vec_len before) c.len-shard.ensures e c.deal.new.self.jobs.items c.deal.new.self.places.items seat rest
          (c.in_ok-deal.ensures c.args.table.now c.args.puts.now gets (writer_can c.args.table.now c.len-shard.result c.args.writers.items now.items rest seat all (c.len-shard.ensures ∙ now.ok.0) c.requires.free) (writes_from (vec_len before) rest ++ workers) (c.writers.invariant.2 gets workers was)),
    )

pub writers-preserved : goal.writers-preserved
writers-preserved c =
    let seat = c.in-Some.seat in let rest = c.writers.invariant.0 in let before = c.writers.writers in let now = c.pop.new.self in
    let e : vec_len before ≡ suc (vec_len now) = omega (arith, c.in-Some.ensures.cases) in
    let all : c.args.writers.items ≡ now.items ++ seat ∷ rest = one_less c.args.writers.items before.items now.items rest seat c.writers.invariant.1 c.in-Some.ensures.items in
    let none : puts_of c.args.table.now.bounds c.len-shard.result c.args.puts.now ≡ [] = c.has_puts.ensures c.if-has_puts.false in (
      seat ∷ rest,
      all,
      λ gets workers was.
          next_writer c.args.table.now c.args.puts.now gets workers c.len-shard.result (vec_len now) (vec_len before) c.len-shard.ensures e c.pass.new.self.jobs.items c.pass.new.self.places.items seat rest
          (c.in_ok-pass.ensures c.args.table.now c.args.puts.now gets _
          (idle_writer c.args.table.now c.args.puts.now gets c.len-shard.result seat (writer_can c.args.table.now c.len-shard.result c.args.writers.items now.items rest seat all (c.len-shard.ensures ∙ now.ok.0) c.requires.free) none)
          (writes_from (vec_len before) rest ++ workers)
          (c.writers.invariant.2 gets workers was)),
    )
