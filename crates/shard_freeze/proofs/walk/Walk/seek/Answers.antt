use Rattle.std.proofs.Common.{ℕ, List, sym, ap, ◌∙◌, arith}
use Rattle.std.proofs.lemmas.List.{drop_all}
use Rattle.shard_freeze.proofs.Seeks.{sought_at, sought_all, sought_root}
use Rattle.shard_freeze.proofs.walk.Walk.seek.Goals as goal

pub loop-byte-init : goal.loop-byte-init
loop-byte-init c = let s = c.args.self.now in record {
  stands = c.requires.stands;
  sought = λ value. sought_root c.args.words.now.words value c.args.from.now s.key.items s.below.items s.top s.here c.requires.key c.requires.below c.requires.top;
}

pub returns-clause-left : goal.returns-clause-left
returns-clause-left c value = let s = c.loop-byte.self in let w = c.args.words.now.words in
    sym (c.loop-byte.invariant.sought value ∙ ap (λ (rest : List ℕ). sought_at w value rest s.key.items s.below.items s.top s.here) (drop_all c.loop-byte.byte-index c.args.from.now (omega arith))
    ∙ sought_all w value s.key.items s.below.items s.top s.here)
