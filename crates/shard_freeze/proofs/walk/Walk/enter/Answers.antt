use Rattle.std.proofs.Common.{ℕ, ◌+◌, List, ◌∷◌, ◌++◌, [], take, refl, sym, ap, ◌∙◌, arith}
use Rattle.shard_freeze.proofs.Moves.{level_at, cut_at, enters_at, enters_left, enters_size, passes_at, passes_left}
use Rattle.shard_freeze.proofs.Same.{at_as, left_as, size_as}
use Rattle.shard_freeze.proofs.walk.Walk.enter.Goals as goal

pub least_child-requires-clause-path : goal.least_child-requires-clause-path
least_child-requires-clause-path c g cells ok = let s = c.args.self.now in (take s.top.depth s.key.items, (c.requires.stands g cells ok).top_is.path c.requires.more)

pub least_child-requires-clause-kind : goal.least_child-requires-clause-kind
least_child-requires-clause-kind c = let i = c.requires.image in (c.requires.stands i.0 i.1 i.2).top_is.kind c.requires.more

pub returns-in_err-push-in-Some-clause-stands : goal.returns-in_err-push-in-Some-clause-stands
returns-in_err-push-in-Some-clause-stands c g cells ok = let s = c.args.self.now in
    at_as (take s.top.depth s.key.items) c.push.new.self.items s.below.items s.below.items s.top s.top 0 s.here
    (c.in_err-push-in-Some.ensures.items ∙ c.truncate.ensures.items) refl refl c.requires.none g
    (cut_at c.args.words.now.words g cells ok s.key.items s.below.items s.top s.here (c.requires.stands g cells ok))

pub returns-in_ok-push-in-Some-clause-stands : goal.returns-in_ok-push-in-Some-clause-stands
returns-in_ok-push-in-Some-clause-stands c g cells ok = let s = c.args.self.now in let e = c.in-Some.edge in
    at_as (take s.top.depth s.key.items ++ e.byte ∷ []) c.push.new.self.items s.below.items s.below.items (level_at s.top.node (e.byte + 1) s.top.depth) (level_at s.top.node (e.byte + 1) s.top.depth) e.to e.to
    (c.in_ok-push-in-Some.ensures.items ∙ ap (λ (x : List ℕ). x ++ e.byte ∷ []) c.truncate.ensures.items) refl refl refl g
    (enters_at c.args.words.now.words g cells ok s.key.items s.below.items s.top s.here (c.requires.stands g cells ok) c.requires.more e c.in-Some.ensures)

pub returns-in_ok-push-in-Some-clause-left : goal.returns-in_ok-push-in-Some-clause-left
returns-in_ok-push-in-Some-clause-left c value = let s = c.args.self.now in let e = c.in-Some.edge in let i = c.requires.image in let w = c.args.words.now.words in
    left_as (take s.top.depth s.key.items ++ e.byte ∷ []) c.push.new.self.items s.below.items s.below.items (level_at s.top.node (e.byte + 1) s.top.depth) (level_at s.top.node (e.byte + 1) s.top.depth) e.to e.to
    (c.in_ok-push-in-Some.ensures.items ∙ ap (λ (x : List ℕ). x ++ e.byte ∷ []) c.truncate.ensures.items) refl refl refl w value
    ∙ enters_left w i.0 i.1 i.2 s.key.items s.below.items s.top s.here (c.requires.stands i.0 i.1 i.2) c.requires.more e c.in-Some.ensures value
    ∙ sym (left_as s.key.items s.key.items s.below.items s.below.items s.top s.top 0 s.here refl refl refl c.requires.none w value)

pub returns-in_ok-push-in-Some-clause-falls : goal.returns-in_ok-push-in-Some-clause-falls
returns-in_ok-push-in-Some-clause-falls c = let s = c.args.self.now in let e = c.in-Some.edge in let i = c.requires.image in let w = c.args.words.now.words in
    let less = enters_size w i.0 i.1 i.2 s.key.items s.below.items s.top s.here (c.requires.stands i.0 i.1 i.2) c.requires.more e c.in-Some.ensures in
    let new = size_as (take s.top.depth s.key.items ++ e.byte ∷ []) c.push.new.self.items s.below.items s.below.items (level_at s.top.node (e.byte + 1) s.top.depth) (level_at s.top.node (e.byte + 1) s.top.depth) e.to e.to
    (c.in_ok-push-in-Some.ensures.items ∙ ap (λ (x : List ℕ). x ++ e.byte ∷ []) c.truncate.ensures.items) refl refl refl in
    omega (arith, less, new)

pub returns-in-None-clause-stands : goal.returns-in-None-clause-stands
returns-in-None-clause-stands c g cells ok = let s = c.args.self.now in
    at_as s.key.items s.key.items s.below.items s.below.items (level_at s.top.node 256 s.top.depth) (level_at s.top.node 256 s.top.depth) 0 s.here refl refl refl c.requires.none g
    (passes_at c.args.words.now.words g cells ok s.key.items s.below.items s.top s.here (c.requires.stands g cells ok))

pub returns-in-None-clause-left : goal.returns-in-None-clause-left
returns-in-None-clause-left c value = let s = c.args.self.now in let i = c.requires.image in let w = c.args.words.now.words in
    left_as s.key.items s.key.items s.below.items s.below.items (level_at s.top.node 256 s.top.depth) (level_at s.top.node 256 s.top.depth) 0 s.here refl refl refl c.requires.none w value
    ∙ passes_left w i.0 i.1 i.2 s.key.items s.below.items s.top s.here (c.requires.stands i.0 i.1 i.2) c.in-None.ensures value
    ∙ sym (left_as s.key.items s.key.items s.below.items s.below.items s.top s.top 0 s.here refl refl refl c.requires.none w value)
