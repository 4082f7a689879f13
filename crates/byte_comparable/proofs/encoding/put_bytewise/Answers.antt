use Rattle.std.proofs.Common.{rules, arith, refl, length, ◌<◌, ◌≡◌, ◌++◌, [], ◌∷◌, ◌∙◌, ap, List, ℕ, Bool, false, sym}
use Rattle.byte_comparable.specs.Encoding.{escaped}
use Rattle.byte_comparable.specs.Bytewise.{bytewise, last_byte}
use Rattle.byte_comparable.proofs.Zeros.{escaped_bytewise}
use Rattle.byte_comparable.proofs.encoding.put_bytewise.Goals as goal

finished : (old out bs rest : List ℕ) (b : Bool) → out ++ bytewise b rest ≡ old ++ bytewise false bs → rest ≡ [] → out ++ last_byte b ∷ [] ≡ old ++ escaped bs
finished old out bs rest b h e = ap (λ l. out ++ bytewise b l) (sym e) ∙ h ∙ ap (λ l. old ++ l) (escaped_bytewise bs)

none_left : (xs : List ℕ) → length xs < 1 → xs ≡ []
none_left [] h = refl
none_left (x ∷ xs) h = absurd (omega arith)

pub returns-in-empty-clause-ok : goal.returns-in-empty-clause-ok
returns-in-empty-clause-ok c =
    let e : c.bytes.out ++ last_byte c.bytes.behind ∷ [] ≡ c.args.out.now ++ escaped c.args.bytes.now =
    finished c.args.out.now c.bytes.out c.args.bytes.now c.bytes.rest.now c.bytes.behind c.bytes.invariant.0 (none_left c.bytes.rest.now c.in-empty.len_below) in
    search rules
