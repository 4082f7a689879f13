use Rattle.std.proofs.Common.{List, ℕ, Bor, sym, ◌∙◌, ap}
use Rattle.key_decode.specs.Reading.{seen, text_at}
use Rattle.key_decode.proofs.Plain.{left_of, some_left}
use Rattle.key_decode.proofs.strings.pass_bytes.Goals as goal

pub returns-in-End : goal.returns-in-End
returns-in-End c =
    some_left (λ (x : Bor (List ℕ)). seen c.args.complemented x.now) c.in-Ok.after (text_at (seen c.args.complemented c.args.bytes.now))
    (sym c.bytes.invariant ∙ ap left_of (rw c.in-End.is at c.in-Ok.ensures.ok))
