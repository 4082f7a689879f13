use Rattle.std.proofs.Common.{rules, ◌≡◌, sym, subst, Bor, List, ℕ, Result}
use Rattle.std.specs.Prelude.{⊤}
use Rattle.key_types.specs.Columns.{columns_of}
use Rattle.key_text.specs.Marking.{Marked}
use Rattle.script_text.specs.Reading.{RestText, asked_at, rest_by, static_at}
use Rattle.grammar.specs.Code.{GivesSome}
use Rattle.script_text.specs.Parts.{PutsAsked}
use Rattle.script_text.proofs.commands.read_asked.Goals as goal

pub returns-in-Some-len1-up : goal.returns-in-Some-len1-up
returns-in-Some-len1-up c =
    let s = columns_of c.args.schema.now in
    let mark = c.args.out_of_range.now in
    let kind = c.in-Some-len1-up.field-0-0 in
    let out = c.args.out.now in
    let same : rest_by s asked_at c.args.schema.now.static_value mark c.args.bytes.now ≡ static_at s asked_at kind mark c.args.bytes.now = search rules in
    subst (λ (read : Result (Marked (RestText ⊤) × List ℕ) ℕ). GivesSome {X = Bor (List ℕ)} (λ a rest. ((a, mark), rest.now)) (λ a _. PutsAsked s out out a) c.read_asked_static.result read) (sym same)
    (c.read_asked_static.ensures s kind mark out)
