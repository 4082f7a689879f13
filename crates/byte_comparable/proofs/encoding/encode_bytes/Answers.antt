use Rattle.std.proofs.Common.{◌≡◌, ◌++◌, [], ◌∷◌, ◌∙◌, List, ℕ, ap, sym, subst, append_assoc}
use Rattle.std.specs.Prelude.{OnOk}
use Rattle.byte_comparable.specs.Encoding.{escaped}
use Rattle.byte_comparable.proofs.Zeros.{escaped_whole}
use Rattle.byte_comparable.proofs.encoding.encode_bytes.Goals as goal

pub returns-clause-ok : goal.returns-clause-ok
returns-clause-ok c =
    let before = c.args.out.now in
    let bytes = c.args.bytes.now in
    let whole = escaped_whole bytes (sym c.contains.ensures.value ∙ c.if-contains.false) in
    let joined : c.extend.new.self ++ 0 ∷ [] ≡ before ++ escaped bytes =
    ap (λ l. l ++ 0 ∷ []) c.in_ok-extend.ensures.ok ∙ append_assoc before bytes (0 ∷ []) ∙ ap (λ l. before ++ l) (sym whole) in
    subst (λ (l : List ℕ). OnOk c.push.result (c.push.new.self ≡ l)) joined c.push.ensures.ok
