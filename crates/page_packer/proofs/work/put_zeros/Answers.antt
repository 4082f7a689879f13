use Rattle.std.proofs.Common.{◌≡◌, ◌++◌, ℕ, zero, suc, ◌∷◌, replicate, take, refl, ◌∙◌, ap}
use Rattle.std.proofs.lemmas.List.{take-replicate}
use Rattle.bti_nodes.specs.Spelling.{zeros}
use Rattle.page_packer.proofs.Boxed.{on_ok}
use Rattle.page_packer.proofs.work.put_zeros.Goals as goal

zeros_are : (n : ℕ) → replicate n 0 ≡ zeros n
zeros_are zero = refl
zeros_are (suc n) = ap (λ l. 0 ∷ l) (zeros_are n)

pub returns : goal.returns
returns c =
    let count = c.args.count in
    let front : c.split_at.result.0.now ≡ zeros count = c.split_at.ensures.front ∙ ap (take count) c.as_slice.ensures ∙ take-replicate count 4096 0 c.requires ∙ zeros_are count in
    on_ok c.extend.result _ _ (λ e. e ∙ ap (λ l. c.args.out.now ++ l) front) c.extend.ensures.ok
