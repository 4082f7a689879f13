use Rattle.std.proofs.Common.{rules, ◌≡◌, Ok}
use Rattle.key_types.specs.Kinds.{kind_of, value_of}
use Rattle.key_text.specs.Marking.{marked_at}
use Rattle.key_spelling.proofs.Plain.{plain_fits}
use Rattle.key_spelling.proofs.spelling.spell_plain.Goals as goal

pub encode_into-requires : goal.encode_into-requires
encode_into-requires c =
    let read : marked_at (kind_of c.args.kind.now) c.args.out_of_range.now c.args.bytes.now ≡ Ok ((value_of c.in_ok-value.value, c.read_marked.new.out_of_range), c.in_ok-value.rest.now) = search rules in
    plain_fits (kind_of c.args.kind.now) c.args.out_of_range.now c.read_marked.new.out_of_range c.args.bytes.now c.in_ok-value.rest.now (value_of c.in_ok-value.value) c.requires read
