use Rattle.std.proofs.Common.{arith, refl}
use Rattle.std.specs.declared.cmp.Ordering.TheVariants.{Less, Greater}
use Rattle.byte_comparable.specs.Encoding.{before_rows, after_rows}
use Rattle.byte_comparable.proofs.Kept.{ranged}
use Rattle.byte_comparable.proofs.Ranges.{from_kept, to_kept}
use Rattle.byte_comparable.proofs.laws.law_range.Goals as goal

pub returns-clause-rows : goal.returns-clause-rows
returns-clause-rows c ps cs p1 c1 p2 c2 f1 g1 f2 g2 = (
  ranged before_rows Greater ((omega arith, omega arith), tt) (λ rest. refl) refl ps cs p1 c1 p2 c2 f1 g1 f2 g2,
  ranged after_rows Less ((omega arith, omega arith), tt) (λ rest. refl) refl ps cs p1 c1 p2 c2 f1 g1 f2 g2,
)

pub returns-clause-keys : goal.returns-clause-keys
returns-clause-keys c ps cs key p b f g h =
    (from_kept ps cs key.partition p f.0 g key.clustering b f.1 h, to_kept ps cs key.partition p f.0 g key.clustering b f.1 h)
