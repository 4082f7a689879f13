use Rattle.std.proofs.Common.{refl}
use Rattle.bti_nodes.specs.Grammar.{node_at, node_by, child_by, letter_at, distance_at, bits_at, in_order, all_point_back}
use Rattle.bti_nodes.specs.Trie.{paths}
use Rattle.bti_reader.specs.Searches.{first_path, last_path, exact_in, floor_in, before_in, ceiling_in, after_in}
use Rattle.bti_reader.proofs.laws.law_vectors.Goals as goal

pub returns : goal.returns
unfolding node_at node_by child_by letter_at distance_at bits_at in_order all_point_back paths first_path last_path exact_in floor_in before_in ceiling_in after_in
returns c = record {
  exact_17 = refl;
  exact_16 = refl;
  floor_16 = refl;
  floor_33 = refl;
  floor_39 = refl;
  floor_low = refl;
  before_low = refl;
  before_39 = refl;
  ceiling_0 = refl;
  ceiling_18 = refl;
  ceiling_39 = refl;
  ceiling_low = refl;
  after_low = refl;
  all = refl;
  bad_order = refl;
  past_end = refl;
}
