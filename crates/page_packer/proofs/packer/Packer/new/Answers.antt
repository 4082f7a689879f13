use Rattle.std.proofs.Common.{◌≡◌, [], refl, ap, List}
use Rattle.page_packer.specs.declared.edge.Level.{Level}
use Rattle.page_packer.specs.Tree.{tree, end}
use Rattle.page_packer.specs.Edge.{whole}
use Rattle.page_packer.specs.Levels.{edge_over, last_over}
use Rattle.page_packer.proofs.Streamed.{new_packs}
use Rattle.page_packer.proofs.packer.Packer.new.Goals as goal

pub returns : goal.returns
returns c =
    let none : c.new.result.items ≡ [] = c.new.ensures.items in
    record {
      file = refl;
      start = refl;
      reached = new_packs _ (tree [] end) (ap (λ (ls : List Level). edge_over ls (whole (tree [] end))) none) refl refl (ap (λ (ls : List Level). last_over ls (tree [] end)) none);
      weighed = tt;
      place = c.requires;
      out = c.new-2.ensures.out;
      stood = c.new-2.ensures.stood;
    }
