use Rattle.std.proofs.Common.{◌≡◌, ◌≢◌, ℕ, ◌+◌, List, ◌∷◌, ◌++◌, [], length, refl, sym, ap, ◌∙◌, arith, rules}
use Rattle.shard_freeze.specs.declared.walk.Level.{Level}
use Rattle.shard_freeze.specs.Walk.{kept_levels}
use Rattle.shard_freeze.proofs.Moves.{level_at, record_at}
use Rattle.shard_freeze.proofs.Same.{at_as, left_as}
use Rattle.shard_freeze.proofs.Seeks.{sought_as, seeks_at, seeks_same, seeks_later, seeks_none}
use Rattle.shard_freeze.proofs.walk.Walk.seek_byte.Goals as goal

pub least_child-requires-clause-path : goal.least_child-requires-clause-path
least_child-requires-clause-path c g cells ok = (c.args.self.now.key.items, (c.node_here-node.ensures g cells ok).path)

pub least_child-requires-clause-kind : goal.least_child-requires-clause-kind
least_child-requires-clause-kind c = let i = c.requires.image in (c.node_here-node.ensures i.0 i.1 i.2).kind

pub returns-in_ok-push-in-Some-clause-stands : goal.returns-in_ok-push-in-Some-clause-stands
returns-in_ok-push-in-Some-clause-stands c g cells ok = let s = c.args.self.now in let e = c.in-Some.edge in let n = c.open.new.self in let node = c.node_here-node.result in
    let ne : s.here ≢ 0 = λ z. absurd (omega (arith, z)) in
    at_as (s.key.items ++ e.byte ∷ []) c.push.new.self.items (kept_levels s.below.items s.top) n.below.items (level_at node (e.byte + 1) (length s.key.items)) (level_at n.top.node (e.byte + 1) n.top.depth) e.to e.to
    (c.in_ok-push-in-Some.ensures.items ∙ ap (λ (x : List ℕ). x ++ e.byte ∷ []) c.open.ensures.key) c.in_ok-open-in-Some.ensures.below (ap (λ (l : Level). level_at l.node (e.byte + 1) l.depth) c.in_ok-open-in-Some.ensures.top) refl g
    (seeks_at c.args.words.now.words g cells ok s.key.items s.below.items s.top s.here (c.requires.stands g cells ok) ne node c.args.byte (c.node_here-node.ensures g cells ok) (omega arith) e c.in-Some.ensures)

pub returns-in_ok-push-in-Some-clause-on : goal.returns-in_ok-push-in-Some-clause-on
returns-in_ok-push-in-Some-clause-on c more value rest = let s = c.args.self.now in let e = c.in-Some.edge in let n = c.open.new.self in let node = c.node_here-node.result in let i = c.requires.image in let w = c.args.words.now.words in
    let ne : s.here ≢ 0 = λ z. absurd (omega (arith, z)) in
    let same : e.byte ≡ c.args.byte = search rules in
    seeks_same w i.0 i.1 i.2 s.key.items s.below.items s.top s.here (c.requires.stands i.0 i.1 i.2) ne node c.args.byte (c.node_here-node.ensures i.0 i.1 i.2) (omega arith) e c.in-Some.ensures value rest same
    ∙ sym (sought_as (s.key.items ++ e.byte ∷ []) c.push.new.self.items (kept_levels s.below.items s.top) n.below.items (level_at node (e.byte + 1) (length s.key.items)) (level_at n.top.node (e.byte + 1) n.top.depth) e.to e.to
    (c.in_ok-push-in-Some.ensures.items ∙ ap (λ (x : List ℕ). x ++ e.byte ∷ []) c.open.ensures.key) c.in_ok-open-in-Some.ensures.below (ap (λ (l : Level). level_at l.node (e.byte + 1) l.depth) c.in_ok-open-in-Some.ensures.top) refl w value rest)

pub returns-in_ok-push-in-Some-clause-off : goal.returns-in_ok-push-in-Some-clause-off
returns-in_ok-push-in-Some-clause-off c other value rest = let s = c.args.self.now in let e = c.in-Some.edge in let n = c.open.new.self in let node = c.node_here-node.result in let i = c.requires.image in let w = c.args.words.now.words in
    let ne : s.here ≢ 0 = λ z. absurd (omega (arith, z)) in
    let apart : e.byte ≢ c.args.byte = search rules in
    seeks_later w i.0 i.1 i.2 s.key.items s.below.items s.top s.here (c.requires.stands i.0 i.1 i.2) ne node c.args.byte (c.node_here-node.ensures i.0 i.1 i.2) (omega arith) e c.in-Some.ensures value rest apart
    ∙ sym (left_as (s.key.items ++ e.byte ∷ []) c.push.new.self.items (kept_levels s.below.items s.top) n.below.items (level_at node (e.byte + 1) (length s.key.items)) (level_at n.top.node (e.byte + 1) n.top.depth) e.to e.to
    (c.in_ok-push-in-Some.ensures.items ∙ ap (λ (x : List ℕ). x ++ e.byte ∷ []) c.open.ensures.key) c.in_ok-open-in-Some.ensures.below (ap (λ (l : Level). level_at l.node (e.byte + 1) l.depth) c.in_ok-open-in-Some.ensures.top) refl w value)

pub returns-in-None-clause-stands : goal.returns-in-None-clause-stands
returns-in-None-clause-stands c g cells ok = let s = c.args.self.now in record_at c.args.words.now.words g cells ok s.key.items s.below.items s.top s.here (c.requires.stands g cells ok)

pub returns-in-None-clause-off : goal.returns-in-None-clause-off
returns-in-None-clause-off c _ value rest = let s = c.args.self.now in let i = c.requires.image in
    let ne : s.here ≢ 0 = λ z. absurd (omega (arith, z)) in
    seeks_none c.args.words.now.words i.0 i.1 i.2 s.key.items s.below.items s.top s.here (c.requires.stands i.0 i.1 i.2) ne c.node_here-node.result c.args.byte (c.node_here-node.ensures i.0 i.1 i.2) (omega arith) c.in-None.ensures value rest
