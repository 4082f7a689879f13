use Rattle.std.proofs.Common.{◌<◌, length, sym, ◌∙◌, ap, subst}
use Rattle.std.specs.Prelude.{slice_get}
use Rattle.script_text.specs.declared.spans.PutSpan.{PutSpan}
use Rattle.script_text.specs.Puts.{Batch}
use Rattle.script_text.specs.Pieces.{put_in}
use Rattle.script_text.proofs.Buffer.{put_at}
use Rattle.script_text.proofs.batch.Batch.put.Goals as goal

-- where no span stands
abbrev nowhere : PutSpan
nowhere = record { line = 0; key = record { start = 0; partition = 0; clustering = 0 }; value = 0 }

pub lend_put-requires : goal.lend_put-requires
lend_put-requires c =
    rw (c.as_slice.ensures, c.as_slice-2.ensures) (put_at c.self.inside.buffer (length c.self.inside.buffer) c.self.inside.puts c.args.i nowhere (subst (λ (b : Batch). c.args.i < length b.puts) (sym c.self.view_is) c.requires)
    c.self.invariant.0).0

pub returns : goal.returns
returns c =
    let at = put_at c.self.inside.buffer (length c.self.inside.buffer) c.self.inside.puts c.args.i nowhere (subst (λ (b : Batch). c.args.i < length b.puts) (sym c.self.view_is) c.requires) c.self.invariant.0 in
    let lent = rw (c.as_slice.ensures, c.as_slice-2.ensures) at c.lend_put.ensures in
    (put_in c.self.inside.buffer _, ap (λ (b : Batch). slice_get b.puts c.args.i) (sym c.self.view_is) ∙ at.1, lent)
