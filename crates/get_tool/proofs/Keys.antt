-- The parts of a key, one behind the other.
use Rattle.std.proofs.Common.{◌≡◌, ◌∙◌, ℕ, List, Option, Result, Ok, ap}
use Rattle.grammar.specs.Reading.{bind, map_read, mapped}
use Rattle.key_types.specs.Columns.{Columns}
use Rattle.key_types.specs.Kinds.{Vals}
use Rattle.key_text.specs.Marking.{marked_list}
use Rattle.get_tool.specs.Asked.{asked_at, within_by}

pub key_read : (columns : Columns) (mark middle last : Option ℕ) (bytes behind rest : List ℕ) (partition : Vals) (within : Option Vals)
    → marked_list columns.partition mark bytes ≡ Ok ((partition, middle), behind) → within_by columns columns.static_value middle behind ≡ Ok ((within, last), rest)
    → asked_at columns mark bytes ≡ Ok (((partition, within), last), rest)
key_read columns mark middle last bytes behind rest partition within first second =
    ap (λ r. bind r (λ x. map_read (λ y. ((x.0, y.0), y.1)) (within_by columns columns.static_value x.1))) first
    ∙ ap (mapped (λ y. ((partition, y.0), y.1))) second
