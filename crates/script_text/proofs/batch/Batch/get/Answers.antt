use Rattle.std.proofs.Common.{◌<◌, length, sym, ◌∙◌, ap, subst}
use Rattle.std.specs.Prelude.{slice_get}
use Rattle.script_text.specs.declared.spans.GetSpan.{GetSpan}
use Rattle.script_text.specs.Puts.{Batch}
use Rattle.script_text.specs.Pieces.{get_in}
use Rattle.script_text.proofs.Buffer.{get_at}
use Rattle.script_text.proofs.batch.Batch.get.Goals as goal

-- where no span stands
abbrev nowhere : GetSpan
nowhere = record { line = 0; reader = 0; key = record { start = 0; partition = 0; clustering = 0 } }

pub lend_get-requires : goal.lend_get-requires
lend_get-requires c =
    rw (c.as_slice.ensures, c.as_slice-2.ensures) (get_at c.self.inside.buffer (length c.self.inside.buffer) c.self.inside.gets c.args.i nowhere (subst (λ (b : Batch). c.args.i < length b.gets) (sym c.self.view_is) c.requires)
    c.self.invariant.1).0

pub returns : goal.returns
returns c =
    let at = get_at c.self.inside.buffer (length c.self.inside.buffer) c.self.inside.gets c.args.i nowhere (subst (λ (b : Batch). c.args.i < length b.gets) (sym c.self.view_is) c.requires) c.self.invariant.1 in
    let lent = rw (c.as_slice.ensures, c.as_slice-2.ensures) at c.lend_get.ensures in
    (get_in c.self.inside.buffer _, ap (λ (b : Batch). slice_get b.gets c.args.i) (sym c.self.view_is) ∙ at.1, lent)
