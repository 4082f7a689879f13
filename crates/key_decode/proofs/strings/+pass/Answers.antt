use Rattle.std.proofs.Common.{rules, refl, ◌≡◌, ◌^◌, List, ℕ, Ok, sym, subst, Bor, ◌∷◌, []}
use Rattle.grammar.specs.Reading.{given_at}
use Rattle.key_types.specs.Kinds.{kind_of, kinds_of, Kinds, more, tiny, small, int, big, boolean}
use Rattle.key_decode.specs.Reading.{seen, values_at}
use Rattle.key_decode.specs.Passing.{AreUtf8Of, Skips}
use Rattle.key_decode.proofs.Passing.{more_pass, none_passes, passes_shorter, number_passes, read_passes, text_passes, reversed_passes}
use Rattle.key_decode.proofs.strings.+pass.Goals as goal

pub pass_values-returns-in_err-rest-in-More-2 : goal.pass_values-returns-in_err-rest-in-More-2
pass_values-returns-in_err-rest-in-More-2 t c =
    let first = kind_of c.deref.result.now in
    let others = kinds_of c.in-More.kinds.value in
    let kinds : kinds_of c.args.kinds.now ≡ more first others = search rules in
    let sign : given_at (0x40 ∷ []) (seen c.args.complemented c.args.bytes.now) ≡ Ok (tt, seen c.args.complemented c.in_ok-rest-in-More.rest.now) = search rules in
    subst (λ (k : Kinds). Skips {X = Bor (List ℕ)} (AreUtf8Of k) (λ x. seen c.args.complemented x.now) c.from_residual-in_err-rest-in-More-2.result (values_at k (seen c.args.complemented c.args.bytes.now))) (sym kinds)
    (none_passes first others (λ x. seen c.args.complemented x.now) (λ x. seen c.args.complemented x.now) (seen c.args.complemented c.args.bytes.now) (seen c.args.complemented c.in_ok-rest-in-More.rest.now) c.pass_value.result c.from_residual-in_err-rest-in-More-2.result sign c.pass_value.ensures.passes (search rules) (search rules))

pub pass_values-returns-in_ok-rest-in-More-2 : goal.pass_values-returns-in_ok-rest-in-More-2
pass_values-returns-in_ok-rest-in-More-2 t c =
    let first = kind_of c.deref.result.now in
    let others = kinds_of c.deref-in-More.result.now in
    let kinds : kinds_of c.args.kinds.now ≡ more first others = search rules in
    let sign : given_at (0x40 ∷ []) (seen c.args.complemented c.args.bytes.now) ≡ Ok (tt, seen c.args.complemented c.in_ok-rest-in-More.rest.now) = search rules in
    subst (λ (k : Kinds). Skips {X = Bor (List ℕ)} (AreUtf8Of k) (λ x. seen c.args.complemented x.now) c.pass_values.result (values_at k (seen c.args.complemented c.args.bytes.now))) (sym kinds)
    (more_pass first others (λ x. seen c.args.complemented x.now) (λ x. seen c.args.complemented x.now) (seen c.args.complemented c.args.bytes.now) (seen c.args.complemented c.in_ok-rest-in-More.rest.now) c.pass_value.result c.in_ok-rest-in-More-2.rest c.pass_values.result sign c.pass_value.ensures.passes (search rules) c.pass_values.ensures)

pub pass_value-returns-in-TinyInt-clause-passes : goal.pass_value-returns-in-TinyInt-clause-passes
pass_value-returns-in-TinyInt-clause-passes t c =
    number_passes (kind_of c.args.kind.now) tiny (search rules) c.args.complemented c.args.bytes.now 1 (2 ^ 7) c.pass_number.result (λ v. tt) refl c.pass_number.ensures

pub pass_value-returns-in-SmallInt-clause-passes : goal.pass_value-returns-in-SmallInt-clause-passes
pass_value-returns-in-SmallInt-clause-passes t c =
    number_passes (kind_of c.args.kind.now) small (search rules) c.args.complemented c.args.bytes.now 2 (2 ^ 15) c.pass_number-in-SmallInt.result (λ v. tt) refl c.pass_number-in-SmallInt.ensures

pub pass_value-returns-in-Int-clause-passes : goal.pass_value-returns-in-Int-clause-passes
pass_value-returns-in-Int-clause-passes t c =
    number_passes (kind_of c.args.kind.now) int (search rules) c.args.complemented c.args.bytes.now 4 (2 ^ 31) c.pass_number-in-Int.result (λ v. tt) refl c.pass_number-in-Int.ensures

pub pass_value-returns-in-BigInt-clause-passes : goal.pass_value-returns-in-BigInt-clause-passes
pass_value-returns-in-BigInt-clause-passes t c =
    read_passes (kind_of c.args.kind.now) big (search rules) c.args.complemented c.args.bytes.now c.read_big.result c.behind.result (λ v. tt) c.read_big.ensures.gives c.read_big.ensures.memory c.behind.ensures

pub pass_value-returns-in-Boolean-clause-passes : goal.pass_value-returns-in-Boolean-clause-passes
pass_value-returns-in-Boolean-clause-passes t c =
    read_passes (kind_of c.args.kind.now) boolean (search rules) c.args.complemented c.args.bytes.now c.read_truth.result c.behind-in-Boolean.result (λ v. tt) c.read_truth.ensures.gives c.read_truth.ensures.memory c.behind-in-Boolean.ensures

pub pass_value-returns-in-Text-clause-passes : goal.pass_value-returns-in-Text-clause-passes
pass_value-returns-in-Text-clause-passes t c = text_passes (kind_of c.args.kind.now) (search rules) c.args.complemented c.args.bytes.now c.pass_text.result c.pass_text.ensures

pub pass_value-returns-in-Reversed-clause-passes : goal.pass_value-returns-in-Reversed-clause-passes
pass_value-returns-in-Reversed-clause-passes t c =
    reversed_passes (kind_of c.args.kind.now) (kind_of c.deref.result.now) (search rules) c.args.complemented c.flipped.result c.flipped.ensures c.args.bytes.now c.pass_value.result c.pass_value.ensures.passes

pub pass_value-returns-in-TinyInt-clause-shorter : goal.pass_value-returns-in-TinyInt-clause-shorter
pass_value-returns-in-TinyInt-clause-shorter t c = passes_shorter (kind_of c.args.kind.now) c.args.complemented c.args.bytes.now c.pass_number.result (pass_value-returns-in-TinyInt-clause-passes t c)

pub pass_value-returns-in-SmallInt-clause-shorter : goal.pass_value-returns-in-SmallInt-clause-shorter
pass_value-returns-in-SmallInt-clause-shorter t c = passes_shorter (kind_of c.args.kind.now) c.args.complemented c.args.bytes.now c.pass_number-in-SmallInt.result (pass_value-returns-in-SmallInt-clause-passes t c)

pub pass_value-returns-in-Int-clause-shorter : goal.pass_value-returns-in-Int-clause-shorter
pass_value-returns-in-Int-clause-shorter t c = passes_shorter (kind_of c.args.kind.now) c.args.complemented c.args.bytes.now c.pass_number-in-Int.result (pass_value-returns-in-Int-clause-passes t c)

pub pass_value-returns-in-BigInt-clause-shorter : goal.pass_value-returns-in-BigInt-clause-shorter
pass_value-returns-in-BigInt-clause-shorter t c = passes_shorter (kind_of c.args.kind.now) c.args.complemented c.args.bytes.now c.behind.result (pass_value-returns-in-BigInt-clause-passes t c)

pub pass_value-returns-in-Boolean-clause-shorter : goal.pass_value-returns-in-Boolean-clause-shorter
pass_value-returns-in-Boolean-clause-shorter t c = passes_shorter (kind_of c.args.kind.now) c.args.complemented c.args.bytes.now c.behind-in-Boolean.result (pass_value-returns-in-Boolean-clause-passes t c)

pub pass_value-returns-in-Text-clause-shorter : goal.pass_value-returns-in-Text-clause-shorter
pass_value-returns-in-Text-clause-shorter t c = passes_shorter (kind_of c.args.kind.now) c.args.complemented c.args.bytes.now c.pass_text.result (pass_value-returns-in-Text-clause-passes t c)

pub pass_value-returns-in-Reversed-clause-shorter : goal.pass_value-returns-in-Reversed-clause-shorter
pass_value-returns-in-Reversed-clause-shorter t c = passes_shorter (kind_of c.args.kind.now) c.args.complemented c.args.bytes.now c.pass_value.result (pass_value-returns-in-Reversed-clause-passes t c)

pub pass_value-returns-in-Blob-clause-shorter : goal.pass_value-returns-in-Blob-clause-shorter
pass_value-returns-in-Blob-clause-shorter t c = passes_shorter (kind_of c.args.kind.now) c.args.complemented c.args.bytes.now c.pass_blob.result (search rules)

pub pass_value-returns-in-Tuple-clause-shorter : goal.pass_value-returns-in-Tuple-clause-shorter
pass_value-returns-in-Tuple-clause-shorter t c = passes_shorter (kind_of c.args.kind.now) c.args.complemented c.args.bytes.now c.pass_values.result (search rules)
