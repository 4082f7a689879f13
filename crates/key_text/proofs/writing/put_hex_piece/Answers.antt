use Rattle.std.proofs.Common.{◌≡◌, ◌++◌, ℕ, List, OnOk, subst, ◌∙◌, arith}
use Rattle.key_types.proofs.Octets.{are_bytes}
use Rattle.key_text.proofs.Hexadecimal.{encoded}
use Rattle.key_text.proofs.writing.put_hex_piece.Goals as goal

pub returns-in-Ok-clause-ok : goal.returns-in-Ok-clause-ok
returns-in-Ok-clause-ok c =
    let spelled = c.in-Ok.ensures.written ∙ encoded c.args.piece.now (are_bytes c.args.piece.now (λ i. omega (arith, c.type_inv.piece i))) in
    subst (λ (digits : List ℕ). OnOk c.extend.result (c.extend.new.self ≡ c.args.out.now ++ digits)) spelled c.extend.ensures.ok
