use Rattle.std.proofs.Common.{◌≡◌, ◌≤◌, ◌∷◌, ◌++◌, [], refl, sym, ◌∙◌, arith, append-nil}
use Rattle.shard_freeze.specs.Walk.{IsAt}
use Rattle.shard_freeze.proofs.Moves.{pops_at, pops_left, pops_size}
use Rattle.shard_freeze.proofs.Same.{at_as, left_as, size_as}
use Rattle.shard_freeze.proofs.walk.Walk.step.Goals as goal

pub returns-in-None-clause-stands : goal.returns-in-None-clause-stands
returns-in-None-clause-stands c g cells ok = let s = c.args.self.now in
    at_as s.key.items s.key.items s.below.items c.pop.new.self.items s.top s.top s.here s.here refl (sym (c.in-None.ensures.items ∙ append-nil c.pop.new.self.items)) refl refl g (c.requires.stands g cells ok)

pub returns-in-Some-clause-stands : goal.returns-in-Some-clause-stands
returns-in-Some-clause-stands c g cells ok = let s = c.args.self.now in let none : s.here ≡ 0 = omega arith in
    at_as s.key.items s.key.items c.pop.new.self.items c.pop.new.self.items c.in-Some.level c.in-Some.level 0 s.here refl refl refl none g
    (pops_at g s.key.items c.pop.new.self.items c.in-Some.level s.top
    (at_as s.key.items s.key.items s.below.items (c.pop.new.self.items ++ c.in-Some.level ∷ []) s.top s.top s.here 0 refl (sym c.in-Some.ensures.items) refl (sym none) g (c.requires.stands g cells ok)))

pub returns-in-Some-clause-left : goal.returns-in-Some-clause-left
returns-in-Some-clause-left c value = let s = c.args.self.now in let none : s.here ≡ 0 = omega arith in let w = c.args.words.now.words in
    let past : 256 ≤ s.top.next = omega arith in
    left_as s.key.items s.key.items c.pop.new.self.items c.pop.new.self.items c.in-Some.level c.in-Some.level 0 s.here refl refl refl none w value
    ∙ pops_left w s.key.items c.pop.new.self.items c.in-Some.level s.top past value
    ∙ left_as s.key.items s.key.items s.below.items (c.pop.new.self.items ++ c.in-Some.level ∷ []) s.top s.top s.here 0 refl (sym c.in-Some.ensures.items) refl (sym none) w value

pub returns-in-Some-clause-falls : goal.returns-in-Some-clause-falls
returns-in-Some-clause-falls c _ = let s = c.args.self.now in let none : s.here ≡ 0 = omega arith in let i = c.requires.image in
    let at : IsAt i.0 s.key.items s.below.items s.top s.here = c.requires.stands i.0 i.1 i.2 in
    let less = pops_size c.pop.new.self.items c.in-Some.level s.top at.top_is.next in
    let new = size_as s.key.items s.key.items c.pop.new.self.items c.pop.new.self.items c.in-Some.level c.in-Some.level 0 s.here refl refl refl none in
    let old = size_as s.key.items s.key.items s.below.items (c.pop.new.self.items ++ c.in-Some.level ∷ []) s.top s.top s.here 0 refl (sym c.in-Some.ensures.items) refl (sym none) in
    omega (arith, less, new, old)
