use Rattle.std.proofs.Common.{rules, ◌≡◌, sym, subst, Bor, List, ℕ, Option, Result}
use Rattle.key_types.specs.Columns.{columns_of}
use Rattle.key_types.specs.Kinds.{Vals}
use Rattle.key_text.specs.Marking.{Marked}
use Rattle.grammar.specs.Code.{GivesSome}
use Rattle.get_tool.specs.Asked.{IsWithinOf, static_within, within_by}
use Rattle.get_tool.proofs.asked.read_within.Goals as goal

pub returns-in-Some-len1-up : goal.returns-in-Some-len1-up
returns-in-Some-len1-up c =
    let s = columns_of c.args.schema.now in
    let mark = c.args.out_of_range.now in
    let same : within_by s c.args.schema.now.static_value mark c.args.bytes.now ≡ static_within mark c.args.bytes.now = search rules in
    subst (λ (read : Result (Marked (Option Vals) × List ℕ) ℕ). GivesSome {X = Option (List ℕ) × Bor (List ℕ)} (λ a x. ((a, mark), x.1.now)) (λ within x. IsWithinOf s within x.0) c.read_static.result read) (sym same)
    (c.read_static.ensures s mark)
