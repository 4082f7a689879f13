use Rattle.std.proofs.Common.{sym, subst, arith, Err}
use Rattle.key_types.specs.Kinds.{kind_of, value_of, Fits}
use Rattle.byte_comparable.specs.Encoding.{encoding}
use Rattle.key_types.specs.declared.kinds.Value.{Value}
use Rattle.key_decode.specs.declared.decoding.DecodeError.{DecodeError}
use Rattle.key_decode.specs.Shapes.{Decodes, RefusesBytes}
use Rattle.key_decode.proofs.Flipped.{seen_bytes}
use Rattle.key_decode.proofs.Whole.{value_found, value_only, value_left, value_refused, value_refuses, never}
use Rattle.key_decode.proofs.decoding.decode.Goals as goal
use Rattle.std.specs.Prelude.{false}

pub refusal-requires : goal.refusal-requires
refusal-requires c = value_left (kind_of c.args.kind.now) c.args.bytes.now c.in-Err-At.left (rw c.in-Err-At.field-0-is at c.in-Err-At.ensures)

pub returns-then-fits-clause-exact : goal.returns-then-fits-clause-exact
returns-then-fits-clause-exact c =
    let bytes = seen_bytes false c.args.bytes.now (λ i. omega (arith, c.type_inv.bytes i)) in
    (c.fits.ensures.fits.0 c.if-fits.true, (value_found (kind_of c.args.kind.now) c.args.bytes.now (value_of c.in-Ok.value) bytes c.in-Ok.ensures).1)

pub returns-else-fits-clause-exact : goal.returns-else-fits-clause-exact
returns-else-fits-clause-exact c =
    let kind = kind_of c.args.kind.now in
    let value = value_of c.in-Ok.value in
    let bytes = seen_bytes false c.args.bytes.now (λ i. omega (arith, c.type_inv.bytes i)) in
    let shape = value_found kind c.args.bytes.now value bytes c.in-Ok.ensures in
    ((value, shape.0, shape.1), value_only kind c.args.bytes.now value bytes c.in-Ok.ensures (never (Fits kind value) c.fits.result c.fits.ensures.fits.1 c.if-fits.false))

pub returns-else-fits-clause-refused : goal.returns-else-fits-clause-refused
returns-else-fits-clause-refused c =
    let kind = kind_of c.args.kind.now in
    let value = value_of c.in-Ok.value in
    let bytes = seen_bytes false c.args.bytes.now (λ i. omega (arith, c.type_inv.bytes i)) in
    value_only kind c.args.bytes.now value bytes c.in-Ok.ensures (never (Fits kind value) c.fits.result c.fits.ensures.fits.1 c.if-fits.false)

pub returns-in-Err-At-clause-exact : goal.returns-in-Err-At-clause-exact
returns-in-Err-At-clause-exact c =
    let kind = kind_of c.args.kind.now in
    let bytes = seen_bytes false c.args.bytes.now (λ i. omega (arith, c.type_inv.bytes i)) in
    subst (λ (d : DecodeError). Decodes kind c.args.bytes.now (Err d)) (sym c.refusal.ensures) (value_refused kind c.args.bytes.now c.in-Err-At.left bytes (rw c.in-Err-At.field-0-is at c.in-Err-At.ensures))

pub returns-in-Err-At-clause-refused : goal.returns-in-Err-At-clause-refused
returns-in-Err-At-clause-refused c =
    let kind = kind_of c.args.kind.now in
    subst (λ (d : DecodeError). RefusesBytes {X = Value} (encoding kind) (Fits kind) c.args.bytes.now (Err d)) (sym c.refusal.ensures) (value_refuses kind c.args.bytes.now c.in-Err-At.left (rw c.in-Err-At.field-0-is at c.in-Err-At.ensures))
