use Rattle.std.proofs.Common.{◌≡◌, ℕ, ◌∙◌, sym, ap, subst}
use Rattle.trie_machine.specs.declared.Event.{Event}
use Rattle.trie_machine.specs.declared.Outcome.TheVariants as outcome
use Rattle.trie_machine.specs.Counted.{Leads}
use Rattle.trie_machine.proofs.machine.Machine.make.Goals as goal

pub returns-in-Some-clause-made : goal.returns-in-Some-clause-made
returns-in-Some-clause-made c = λ o e. let h = c.front.ensures.made c.in-Some.front c.in-Some.is in let z : outcome.Front c.in-Some.front ≡ o = cc in
    subst (λ (x : Event). Leads x c.args.self.now.state c.front.new.self.state o) (sym c.in-Front.is) (h.0, sym z ∙ ap (λ (n : ℕ). outcome.Front n) h.1)

pub returns-in-None-clause-refused : goal.returns-in-None-clause-refused
returns-in-None-clause-refused c = λ e m' o l. let h = subst (λ (x : Event). Leads x c.args.self.now.state m' o) c.in-Front.is l in c.front.ensures.refused c.in-None.is m' h.0

pub returns-in-Load-clause-refused : goal.returns-in-Load-clause-refused
returns-in-Load-clause-refused c = λ e m' o l. let h = subst (λ (x : Event). Leads x c.args.self.now.state m' o) c.in-Load.is l in c.load.ensures.refused e m' h.0

pub returns-in-None-2-clause-refused : goal.returns-in-None-2-clause-refused
returns-in-None-2-clause-refused c = λ e m' o l. let h = subst (λ (x : Event). Leads x c.args.self.now.state m' o) c.in-Split.is l in c.in_ok-number-in-Split.ensures.refused c.in-None-2.is m' h.0
