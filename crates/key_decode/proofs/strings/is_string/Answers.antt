use Rattle.std.proofs.Common.{◌∙◌, arith, rules, sym}
use Rattle.key_types.specs.Kinds.{kinds_of}
use Rattle.key_decode.proofs.Flipped.{seen_bytes}
use Rattle.key_decode.proofs.Known.{some_string, no_string}
use Rattle.key_decode.proofs.strings.is_string.Goals as goal
use Rattle.std.specs.Prelude.{false}

pub returns-in-Some : goal.returns-in-Some
returns-in-Some c =
    let found = c.in-Some.ensures in
    let bytes = seen_bytes false c.args.bytes.now (λ i. omega (arith, c.type_inv.bytes i)) in
    let test = some_string (kinds_of c.args.kinds.now) c.args.bytes.now c.in-Some.rest.now found.0 bytes (search rules) found.1 found.2 in
    (λ e. test.0 (sym c.is_empty.ensures ∙ e), λ s. c.is_empty.ensures ∙ test.1 s)

pub returns-in-None : goal.returns-in-None
returns-in-None c = (λ e. cc, λ s. absurd (no_string (kinds_of c.args.kinds.now) c.args.bytes.now (λ vs rest good read. c.in-None.ensures vs rest good read) s))
