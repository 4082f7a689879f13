use Rattle.std.proofs.Common.{rules, ◌≡◌, sym, subst, Bor, List, ℕ}
use Rattle.grammar.specs.Code.{Gives}
use Rattle.key_types.specs.Kinds.{kind_of, Kind, reversed, value_of}
use Rattle.key_types.specs.declared.kinds.Value.{Value}
use Rattle.key_decode.specs.Reading.{seen, value_at}
use Rattle.key_decode.proofs.Flipped.{turned_gives}
use Rattle.key_decode.proofs.values.+read.Goals as goal

pub read_value-returns-in-Reversed : goal.read_value-returns-in-Reversed
read_value-returns-in-Reversed t c =
    let inner = kind_of c.deref.result.now in
    let kind : kind_of c.args.kind.now ≡ reversed inner = search rules in
    subst (λ (k : Kind). Gives (λ (x : Value × Bor (List ℕ)). (value_of x.0, seen c.args.complemented x.1.now)) c.read_value.result (value_at k (seen c.args.complemented c.args.bytes.now))) (sym kind)
    (turned_gives (λ (x : Value × Bor (List ℕ)). value_of x.0) (λ (x : Value × Bor (List ℕ)). x.1.now) (value_at inner) c.args.complemented c.flipped.result c.flipped.ensures c.args.bytes.now c.read_value.result c.read_value.ensures)
