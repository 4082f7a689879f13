use Rattle.std.proofs.Common.{◌≡◌, ◌≤◌, suc, ◌-◌, List, [], ◌∷◌, length, get_or, refl, ◌∙◌, ap, arith}
use Rattle.bti_nodes.specs.declared.node.Child.{Child}
use Rattle.bti_nodes.specs.Spelling.{last_letter}
use Rattle.bti_nodes.proofs.outline.last_letter.Goals as goal

at_end : (c d : Child) (cs : List Child) → (get_or (c ∷ cs) (length cs) d).byte ≡ last_letter (c ∷ cs)
at_end c d [] = refl
at_end c d (e ∷ cs) = at_end e d cs

ends : (d : Child) (cs : List Child) → 1 ≤ length cs → (get_or cs (length cs - 1) d).byte ≡ last_letter cs
ends d [] h = absurd (omega arith)
ends d (c ∷ cs) h = let e : suc (length cs) - 1 ≡ length cs = omega arith in ap (λ k. (get_or (c ∷ cs) k d).byte) e ∙ at_end c d cs

pub returns-in-len1-up : goal.returns-in-len1-up
returns-in-len1-up c = ends _ c.args.children.now c.in-len1-up.len_at_least
