use Rattle.std.proofs.Common.{refl}
use Rattle.bti_nodes.specs.Spelling.{node_bytes, chosen, least_from}
use Rattle.bti_nodes.proofs.laws.law_vectors.Goals as goal

pub returns : goal.returns
unfolding node_bytes chosen least_from
returns c = record { leaf = refl; near = refl; single = refl; short = refl; paid = refl; far = refl; two = refl; wide = refl; four = refl; dense = refl }
