use Rattle.std.proofs.Common.{◌∙◌, ℕ, take, ap}
use Rattle.byte_order.specs.Strings.{unique_size}
use Rattle.partition_check.proofs.neighbours.unique_path.Goals as goal

pub split_at-requires : goal.split_at-requires
split_at-requires c = c.unique_len.ensures.shortest.most

pub returns : goal.returns
returns c =
    let key = c.args.key.now in
    c.split_at.ensures.front ∙ ap (λ (n : ℕ). take n key) (c.unique_len.ensures.size ∙ (λ i. unique_size (c.there.ensures.same i) key (c.there-2.ensures.same i)))
