use Rattle.std.proofs.Common.{sym, subst, arith, Err}
use Rattle.key_types.specs.Kinds.{kinds_of, values_of, EachFits}
use Rattle.byte_comparable.specs.Encoding.{key_string}
use Rattle.key_types.specs.declared.kinds.ValueList.{ValueList}
use Rattle.key_decode.specs.declared.decoding.DecodeError.{DecodeError}
use Rattle.key_decode.specs.Shapes.{DecodesAll, RefusesBytes}
use Rattle.key_decode.proofs.Flipped.{seen_bytes}
use Rattle.key_decode.proofs.Whole.{values_found, values_only, values_left, values_refused, values_refuses, never}
use Rattle.key_decode.proofs.decoding.decode_all.Goals as goal
use Rattle.std.specs.Prelude.{false}

pub refusal-requires : goal.refusal-requires
refusal-requires c = values_left (kinds_of c.args.kinds.now) c.args.bytes.now c.in-Err-At.left (rw c.in-Err-At.field-0-is at c.in-Err-At.ensures)

pub returns-then-all_fit-clause-exact : goal.returns-then-all_fit-clause-exact
returns-then-all_fit-clause-exact c =
    let bytes = seen_bytes false c.args.bytes.now (λ i. omega (arith, c.type_inv.bytes i)) in
    (c.all_fit.ensures.fits.0 c.if-all_fit.true, (values_found (kinds_of c.args.kinds.now) c.args.bytes.now (values_of c.in-Ok.values) bytes c.in-Ok.ensures).1)

pub returns-else-all_fit-clause-exact : goal.returns-else-all_fit-clause-exact
returns-else-all_fit-clause-exact c =
    let kind = kinds_of c.args.kinds.now in
    let value = values_of c.in-Ok.values in
    let bytes = seen_bytes false c.args.bytes.now (λ i. omega (arith, c.type_inv.bytes i)) in
    let shape = values_found kind c.args.bytes.now value bytes c.in-Ok.ensures in
    ((value, shape.0, shape.1), values_only kind c.args.bytes.now value bytes c.in-Ok.ensures (never (EachFits kind value) c.all_fit.result c.all_fit.ensures.fits.1 c.if-all_fit.false))

pub returns-else-all_fit-clause-refused : goal.returns-else-all_fit-clause-refused
returns-else-all_fit-clause-refused c =
    let kind = kinds_of c.args.kinds.now in
    let value = values_of c.in-Ok.values in
    let bytes = seen_bytes false c.args.bytes.now (λ i. omega (arith, c.type_inv.bytes i)) in
    values_only kind c.args.bytes.now value bytes c.in-Ok.ensures (never (EachFits kind value) c.all_fit.result c.all_fit.ensures.fits.1 c.if-all_fit.false)

pub returns-in-Err-At-clause-exact : goal.returns-in-Err-At-clause-exact
returns-in-Err-At-clause-exact c =
    let kind = kinds_of c.args.kinds.now in
    let bytes = seen_bytes false c.args.bytes.now (λ i. omega (arith, c.type_inv.bytes i)) in
    subst (λ (d : DecodeError). DecodesAll kind c.args.bytes.now (Err d)) (sym c.refusal.ensures) (values_refused kind c.args.bytes.now c.in-Err-At.left bytes (rw c.in-Err-At.field-0-is at c.in-Err-At.ensures))

pub returns-in-Err-At-clause-refused : goal.returns-in-Err-At-clause-refused
returns-in-Err-At-clause-refused c =
    let kind = kinds_of c.args.kinds.now in
    subst (λ (d : DecodeError). RefusesBytes {X = ValueList} (key_string kind) (EachFits kind) c.args.bytes.now (Err d)) (sym c.refusal.ensures) (values_refuses kind c.args.bytes.now c.in-Err-At.left (rw c.in-Err-At.field-0-is at c.in-Err-At.ensures))
