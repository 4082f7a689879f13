use Rattle.std.proofs.Common.{refl, sym, ◌∙◌}
use Rattle.script_run.proofs.Filled.{next_idle, next_made, stops_here}
use Rattle.script_run.proofs.fill.fill_batch.Goals as goal

pub returns-then-is_err-clause-full : goal.returns-then-is_err-clause-full
returns-then-is_err-clause-full c = (
  c.put-line.result.line,
  refl,
  stops_here c.args.seat.now.knows c.puts.seat.knows c.args.batch.now.puts c.puts.i c.put-line.result c.put.result c.put-line.ensures (sym c.is_err.ensures.value ∙ c.if-is_err.true) c.put.ensures.only_full
      c.puts.invariant.made,
)

pub puts-preserved : goal.puts-preserved
puts-preserved c =
    let made = sym c.is_err.ensures.value ∙ c.if-is_err.false in
    let line = c.put-line.result in record {
      may = (c.put.ensures.own, next_idle c.puts.seat.knows c.put.new.seat.knows line.key.now line.value.now c.put.result made c.put.ensures.made);
      made = next_made c.args.seat.now.knows c.puts.seat.knows c.put.new.seat.knows c.args.batch.now.puts c.puts.i line c.put.result c.put-line.ensures made c.put.ensures.made c.put.ensures.full c.puts.invariant.made;
    }
