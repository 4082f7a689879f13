use Rattle.std.proofs.Common.{Ok, Err, arith, length, get_or}
use Rattle.std.proofs.lemmas.List.Sorted.{searched}
use Rattle.bti_nodes.proofs.Climbing.{goes_up}
use Rattle.bti_nodes.proofs.Found.{no_lower, rises}
use Rattle.bti_nodes.proofs.view.count_among.Goals as goal

pub returns-in-Ok : goal.returns-in-Ok
returns-in-Ok c =
    let xs = c.args.letters.now in
    let n = c.in-Ok.i in
    let found = searched xs c.args.byte (Ok n) c.in-Ok.ensures.position (no_lower xs c.requires) in
    record {
      within = omega (arith, found.0);
      less = λ i l. let up = rises (λ k. get_or xs k 0) (length xs) i n (λ k s. goes_up xs k c.requires s) l found.0 in omega (arith, up, found.1);
      others = λ i l m. let up = no_lower xs c.requires n i l m in omega (arith, up, found.1);
    }

pub returns-in-Err : goal.returns-in-Err
returns-in-Err c =
    let xs = c.args.letters.now in
    let found = searched xs c.args.byte (Err c.in-Err.i) c.in-Err.ensures.position (no_lower xs c.requires) in
    record {
      within = found.0;
      less = found.1;
      others = λ i l m. let up = found.2 i l m in omega (arith, up);
    }
