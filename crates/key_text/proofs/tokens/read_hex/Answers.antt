use Rattle.std.proofs.Common.{ℕ, List, Ok, sym, ap, ◌∙◌}
use Rattle.key_text.specs.Reading.{hex_at}
use Rattle.key_text.proofs.Hexadecimal.{is_read}
use Rattle.key_text.proofs.HexRuns.{even_read, odd_read, odd_text}
use Rattle.key_text.proofs.tokens.read_hex.Goals as goal

pub returns-in-Ok : goal.returns-in-Ok
returns-in-Ok c =
    let parts = c.split_digits in
    let spelled = is_read parts.result.0.now c.in-Ok.decoded.items c.in-Ok.ensures.ok in
    ap hex_at parts.ensures.whole
    ∙ even_read c.in-Ok.decoded.items parts.result.0.now parts.result.1.now spelled parts.ensures.behind
    ∙ ap (λ (bytes : List ℕ). Ok (bytes, parts.result.1.now)) (sym c.from_vec.ensures)

pub returns-in-Err-OddLength : goal.returns-in-Err-OddLength
returns-in-Err-OddLength c =
    let parts = c.split_digits in
    let odd = odd_text parts.result.0.now c.in-Err-OddLength.field-0 c.in-Err-OddLength.field-0-is c.in-Err-OddLength.ensures.err in
    ap hex_at parts.ensures.whole ∙ odd_read parts.result.0.now parts.result.1.now parts.ensures.digits odd parts.ensures.behind
