use Rattle.std.proofs.Common.{rules, ◌≡◌, ◌∙◌}
use Rattle.key_types.specs.Kinds.{kind_of, kinds_of, value_of, values_of, more, and}
use Rattle.key_text.proofs.Listed.{listed, on_ok_as}
use Rattle.key_text.proofs.writing.+put.Goals as goal

pub put_values-returns-in_ok-put_value-in-More-More-clause-ok : goal.put_values-returns-in_ok-put_value-in-More-More-clause-ok
put_values-returns-in_ok-put_value-in-More-More-clause-ok t c =
    let kind = kind_of c.deref.result.now in
    let value = value_of c.deref-in-More-More.result.now in
    let kinds = kinds_of c.deref-in-More-More-2.result.now in
    let values = values_of c.deref-in-More-More-3.result.now in
    let ks : kinds_of c.args.kinds.now ≡ more kind kinds = search rules in
    let vs : values_of c.args.values.now ≡ and value values = search rules in
    on_ok_as c.put_further.result (λ e. e ∙ listed c.args.out.now c.put_value.new.out kind kinds (kinds_of c.args.kinds.now) value values (values_of c.args.values.now) c.in_ok-put_value-in-More-More.ensures.ok ks vs)
    c.put_further.ensures.ok
