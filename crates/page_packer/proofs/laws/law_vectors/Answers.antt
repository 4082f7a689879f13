use Rattle.std.proofs.Common.{refl}
use Rattle.bti_nodes.specs.Spelling.{node_bytes, chosen, least_from, outline_size}
use Rattle.page_packer.proofs.laws.law_vectors.Goals as goal

pub returns : goal.returns
unfolding node_bytes chosen least_from outline_size
returns c = record { one_put = refl; forty_rows = refl; three_blocks = refl }
