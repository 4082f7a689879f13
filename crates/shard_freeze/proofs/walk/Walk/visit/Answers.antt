use Rattle.std.proofs.Common.{◌≡◌, ◌≢◌, ℕ, ◌/◌, length, Some, refl, ap, ◌∙◌, arith, rules}
use Rattle.cell_layout.specs.declared.Kind.TheVariants.{Prefix}
use Rattle.cell_layout.specs.Pointers.{kind_at}
use Rattle.trie_image.specs.Image.{field}
use Rattle.shard_freeze.specs.Walk.{kept_levels}
use Rattle.shard_freeze.proofs.Moves.{level_at, visits_at, visits_left, visits_size, prefix_at, prefix_left, prefix_size}
use Rattle.shard_freeze.proofs.Nodes.{prefix_inside}
use Rattle.shard_freeze.proofs.Same.{at_as, left_as, size_as}
use Rattle.shard_freeze.proofs.walk.Walk.visit.Goals as goal

pub pointer_in-requires-clause-inside : goal.pointer_in-requires-clause-inside
pointer_in-requires-clause-inside c = let i = c.requires.image in let s = c.args.self.now in
    let k : kind_at s.here ≡ Some Prefix = search rules in
    omega (arith, prefix_inside c.args.words.now.words i.0 i.1 i.2 s.here s.key.items ((c.requires.stands i.0 i.1 i.2).here_is c.requires.there) k)

pub pointer_in-self-requires-clause-inside : goal.pointer_in-self-requires-clause-inside
pointer_in-self-requires-clause-inside c = let i = c.requires.image in let s = c.args.self.now in
    let k : kind_at s.here ≡ Some Prefix = search rules in
    omega (arith, prefix_inside c.args.words.now.words i.0 i.1 i.2 s.here s.key.items ((c.requires.stands i.0 i.1 i.2).here_is c.requires.there) k)

pub returns-in_err-open-clause-stands : goal.returns-in_err-open-clause-stands
returns-in_err-open-clause-stands c g cells ok = let s = c.args.self.now in let n = c.open.new.self in
    at_as s.key.items n.key.items s.below.items n.below.items s.top n.top s.here n.here c.open.ensures.key c.in_err-open.ensures.none c.in_err-open.ensures.same c.open.ensures.here g (c.requires.stands g cells ok)

pub returns-in_err-open-2-clause-stands : goal.returns-in_err-open-2-clause-stands
returns-in_err-open-2-clause-stands c g cells ok = let s = c.args.self.now in let n = c.open-else-eq.new.self in
    at_as s.key.items n.key.items s.below.items n.below.items s.top n.top s.here n.here c.open-else-eq.ensures.key c.in_err-open-2.ensures.none c.in_err-open-2.ensures.same c.open-else-eq.ensures.here g (c.requires.stands g cells ok)

pub returns-in_ok-open-clause-stands : goal.returns-in_ok-open-clause-stands
returns-in_ok-open-clause-stands c g cells ok = let s = c.args.self.now in let n = c.open.new.self in let w = c.args.words.now.words in
    let k : kind_at s.here ≡ Some Prefix = search rules in
    at_as s.key.items n.key.items (kept_levels s.below.items s.top) n.below.items (level_at (field w (s.here / 32) 1) 0 (length s.key.items)) n.top (field w (s.here / 32) 0) c.pointer_in-self.result
    c.open.ensures.key c.in_ok-open.ensures.below (c.in_ok-open.ensures.top ∙ ap (λ (x : ℕ). level_at x 0 (length s.key.items)) c.pointer_in.ensures) (c.pointer_in-self.ensures) g
    (prefix_at w g cells ok s.key.items s.below.items s.top s.here (c.requires.stands g cells ok) c.requires.there k)

pub returns-in_ok-open-clause-left : goal.returns-in_ok-open-clause-left
returns-in_ok-open-clause-left c value = let s = c.args.self.now in let n = c.open.new.self in let w = c.args.words.now.words in let i = c.requires.image in
    let k : kind_at s.here ≡ Some Prefix = search rules in
    left_as s.key.items n.key.items (kept_levels s.below.items s.top) n.below.items (level_at (field w (s.here / 32) 1) 0 (length s.key.items)) n.top (field w (s.here / 32) 0) c.pointer_in-self.result
    c.open.ensures.key c.in_ok-open.ensures.below (c.in_ok-open.ensures.top ∙ ap (λ (x : ℕ). level_at x 0 (length s.key.items)) c.pointer_in.ensures) (c.pointer_in-self.ensures) w value
    ∙ prefix_left w i.0 i.1 i.2 s.key.items s.below.items s.top s.here (c.requires.stands i.0 i.1 i.2) c.requires.there k value

pub returns-in_ok-open-clause-falls : goal.returns-in_ok-open-clause-falls
returns-in_ok-open-clause-falls c = let s = c.args.self.now in let n = c.open.new.self in let w = c.args.words.now.words in let i = c.requires.image in
    let k : kind_at s.here ≡ Some Prefix = search rules in
    let new = size_as s.key.items n.key.items (kept_levels s.below.items s.top) n.below.items (level_at (field w (s.here / 32) 1) 0 (length s.key.items)) n.top (field w (s.here / 32) 0) c.pointer_in-self.result
    c.open.ensures.key c.in_ok-open.ensures.below (c.in_ok-open.ensures.top ∙ ap (λ (x : ℕ). level_at x 0 (length s.key.items)) c.pointer_in.ensures) (c.pointer_in-self.ensures) in
    let less = prefix_size w i.0 i.1 i.2 s.key.items s.below.items s.top s.here (c.requires.stands i.0 i.1 i.2) c.requires.there k in
    omega (arith, less, new)

pub returns-in_ok-open-2-clause-stands : goal.returns-in_ok-open-2-clause-stands
returns-in_ok-open-2-clause-stands c g cells ok = let s = c.args.self.now in let n = c.open-else-eq.new.self in let w = c.args.words.now.words in
    let third : kind_at s.here ≢ Some Prefix = search rules in
    at_as s.key.items n.key.items (kept_levels s.below.items s.top) n.below.items (level_at s.here 0 (length s.key.items)) n.top 0 0
    c.open-else-eq.ensures.key c.in_ok-open-2.ensures.below c.in_ok-open-2.ensures.top refl g
    (visits_at w g cells ok s.key.items s.below.items s.top s.here (c.requires.stands g cells ok) c.requires.there third)

pub returns-in_ok-open-2-clause-left : goal.returns-in_ok-open-2-clause-left
returns-in_ok-open-2-clause-left c value = let s = c.args.self.now in let n = c.open-else-eq.new.self in let w = c.args.words.now.words in let i = c.requires.image in
    let third : kind_at s.here ≢ Some Prefix = search rules in
    left_as s.key.items n.key.items (kept_levels s.below.items s.top) n.below.items (level_at s.here 0 (length s.key.items)) n.top 0 0
    c.open-else-eq.ensures.key c.in_ok-open-2.ensures.below c.in_ok-open-2.ensures.top refl w value
    ∙ visits_left w i.0 i.1 i.2 s.key.items s.below.items s.top s.here (c.requires.stands i.0 i.1 i.2) c.requires.there c.requires.node third value

pub returns-in_ok-open-2-clause-falls : goal.returns-in_ok-open-2-clause-falls
returns-in_ok-open-2-clause-falls c = let s = c.args.self.now in let n = c.open-else-eq.new.self in let w = c.args.words.now.words in let i = c.requires.image in
    let new = size_as s.key.items n.key.items (kept_levels s.below.items s.top) n.below.items (level_at s.here 0 (length s.key.items)) n.top 0 0
    c.open-else-eq.ensures.key c.in_ok-open-2.ensures.below c.in_ok-open-2.ensures.top refl in
    let less = visits_size w i.0 i.1 i.2 s.key.items s.below.items s.top s.here (c.requires.stands i.0 i.1 i.2) c.requires.there c.requires.node in
    omega (arith, less, new)
