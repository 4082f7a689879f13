use Rattle.std.proofs.Common.{◌≡◌, ◌-◌, suc, ℕ, arith, subst, Bool, Bor, List}
use Rattle.grammar.specs.Code.{Gives}
use Rattle.key_types.specs.Kinds.{kind_of}
use Rattle.key_types.specs.declared.kinds.ColType.{ColType}
use Rattle.schema_text.proofs.Fuel.{base_from}
use Rattle.schema_text.proofs.types.+read.Goals as goal

pub read_base-returns : goal.read_base-returns
read_base-returns t c =
    let some : c.args.fuel ≡ suc (c.args.fuel - 1) = omega arith in
    subst (Gives (λ (x : ColType × Bool × Bor (List ℕ)). ((kind_of x.0, x.1), x.2.now)) c.either.result) (base_from c.args.fuel (c.args.fuel - 1) some c.args.bytes.now)
    (c.either.ensures _ _ c.read_simple-2.ensures c.read_tuple.ensures)
