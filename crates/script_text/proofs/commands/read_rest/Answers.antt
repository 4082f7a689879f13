use Rattle.std.proofs.Common.{rules, ◌≡◌, sym, subst, Bor, List, ℕ, Result}
use Rattle.key_types.specs.Kinds.{Val}
use Rattle.key_types.specs.Columns.{columns_of}
use Rattle.key_text.specs.Marking.{Marked}
use Rattle.script_text.specs.Reading.{RestText, set_at, rest_by, static_at}
use Rattle.grammar.specs.Code.{GivesSome}
use Rattle.script_text.specs.Parts.{PutsRest}
use Rattle.script_text.proofs.commands.read_rest.Goals as goal

pub returns-in-Some-len1-up : goal.returns-in-Some-len1-up
returns-in-Some-len1-up c =
    let s = columns_of c.args.schema.now in
    let mark = c.args.out_of_range.now in
    let same : rest_by s set_at c.args.schema.now.static_value mark c.args.bytes.now ≡ static_at s set_at c.in-Some-len1-up.kind mark c.args.bytes.now = search rules in
    subst (λ (read : Result (Marked (RestText Val) × List ℕ) ℕ). GivesSome {X = ℕ × Bor (List ℕ)} (λ a x. ((a, mark), x.1.now)) (λ rest x. PutsRest s c.args.out.now c.read_static.new.out rest x.0) c.read_static.result read) (sym same)
    (c.read_static.ensures s mark)
