use Rattle.std.proofs.Common.{arith, ◌≡◌, ◌<◌, ◌∙◌, ap, length, drop, take}
use Rattle.std.proofs.lemmas.List.{nil_from_length}
use Rattle.outside.proofs.Pieces.{pulled}
use Rattle.outside.proofs.mem_source.MemSourceSource.pull.Goals as goal

pub returns-clause-bytes : goal.returns-clause-bytes
returns-clause-bytes c =
    let at = c.self.inside.at in
    let bytes = c.self.inside.bytes.items in
    let rest : c.split_at.result.1.now ≡ drop at bytes = c.split_at.ensures.back ∙ ap (drop at) c.as_slice.ensures.value in
    let long : length c.split_at.result.1.now ≡ length (drop at bytes) = ap length rest in
    let some : 0 < length c.args.into.now = c.requires in
    rw (← c.self.view_is) (
      pulled bytes _ c.args.into.now at _ (c.copy_from_slice.ensures.after ∙ c.split_at-2.ensures.front ∙ ap (take c.min-count.result) rest) (omega arith),
      λ none. nil_from_length (drop at bytes) (omega arith),
    )
