use Rattle.std.proofs.Common.{refl, sym, subst, List, ℕ}
use Rattle.data_file.specs.Reading.{IsCutStatic}
use Rattle.data_file.proofs.Cuts.{cut_static_empty, no_bytes}
use Rattle.data_file.proofs.static_part.frame.Goals as goal

pub returns-in-empty-clause-short : goal.returns-in-empty-clause-short
returns-in-empty-clause-short c =
    (λ short. subst (λ (bytes : List ℕ). IsCutStatic bytes) (sym (no_bytes c.args.bytes.now c.in-empty.len_below)) cut_static_empty, λ cut. refl)
