use Rattle.std.proofs.Common.{rules, refl, ◌≡◌, ◌∷◌, [], List, ℕ, Ok, sym, subst, Bor}
use Rattle.std.specs.Prelude.{not}
use Rattle.grammar.specs.Reading.{given_at as sign}
use Rattle.key_types.specs.Kinds.{kind_of, kinds_of, Kind, Kinds, reversed, more}
use Rattle.key_types.specs.Literals.{literal, literals}
use Rattle.key_decode.specs.Reading.{seen, value_at, values_at}
use Rattle.key_printing.proofs.Printed.{PrintsSo, more_prints, turned_prints}
use Rattle.key_printing.proofs.printing.+put.Goals as goal

pub put_value-returns-in-Reversed-clause-prints : goal.put_value-returns-in-Reversed-clause-prints
put_value-returns-in-Reversed-clause-prints t c =
    let inner = kind_of c.deref.result.now in
    let kind : kind_of c.args.kind.now ≡ reversed inner = search rules in
    subst (λ (k : Kind). PrintsSo {X = Bor (List ℕ)} (literal k) (λ x. seen c.args.complemented x.now) c.args.out.now c.put_value.new.out c.put_value.result (value_at k (seen c.args.complemented c.args.bytes.now))) (sym kind)
    (turned_prints inner c.args.complemented (not c.args.complemented) c.args.bytes.now c.args.out.now c.put_value.new.out c.put_value.result refl c.put_value.ensures.prints)

pub put_values-returns-in_ok-rest-in-More-2-clause-prints : goal.put_values-returns-in_ok-rest-in-More-2-clause-prints
put_values-returns-in_ok-rest-in-More-2-clause-prints t c =
    let first = kind_of c.deref.result.now in
    let others = kinds_of c.deref-in-More.result.now in
    let kinds : kinds_of c.args.kinds.now ≡ more first others = search rules in
    let separator : sign (0x40 ∷ []) (seen c.args.complemented c.args.bytes.now) ≡ Ok (tt, seen c.args.complemented c.in_ok-rest-in-More.rest.now) = search rules in
    let value = c.in_ok-rest-in-More-2.ensures.prints in
    subst (λ (k : Kinds). PrintsSo {X = Bor (List ℕ)} (literals k) (λ x. seen c.args.complemented x.now) c.args.out.now c.put_further.new.out c.put_further.result (values_at k (seen c.args.complemented c.args.bytes.now))) (sym kinds)
    (more_prints first others (seen c.args.complemented c.args.bytes.now) (seen c.args.complemented c.in_ok-rest-in-More.rest.now) separator (λ x. seen c.args.complemented x.now) value.0 (seen c.args.complemented c.in_ok-rest-in-More-2.rest.now)
    c.args.out.now c.put_value.new.out c.put_further.new.out c.put_further.result value.1 value.2 c.put_further.ensures.prints)
