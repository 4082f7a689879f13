use Rattle.std.proofs.Common.{◌≡◌, ◌≢◌, ℕ, List, ◌∷◌, ◌++◌, [], sym, ap, ◌∙◌, arith}
use Rattle.trie_image.specs.Image.{reading}
use Rattle.shard_freeze.specs.Listing.{record_value}
use Rattle.shard_freeze.specs.Walk.{left_by_parts}
use Rattle.shard_freeze.proofs.Gives.{end_left, at_record, record_of_content, record_given}
use Rattle.shard_freeze.proofs.Moves.{record_at}
use Rattle.shard_freeze.proofs.cursor.list_next.Goals as goal

pub returns-then-walk-eq0-clause-gives : goal.returns-then-walk-eq0-clause-gives
returns-then-walk-eq0-clause-gives c = let s = c.settle.new.self in let w = c.args.words.now in let none : s.here ≡ 0 = omega arith in
    let ended : left_by_parts (reading w.words) (record_value w.made) s.key.items s.below.items s.top s.here ≡ [] = end_left w.words (record_value w.made) s.key.items s.below.items s.top s.here c.in_ok-settle.ensures.settled none in
    (sym (c.settle.ensures.left (record_value w.made)) ∙ ended, ended)

pub copy_value-requires-clause-record : goal.copy_value-requires-clause-record
copy_value-requires-clause-record c g cells ok = let s = c.settle.new.self in let ne : s.here ≢ 0 = λ z. absurd (omega (arith, z)) in
    record_of_content c.args.words.now.words g cells ok s.here s.key.items ((c.settle.ensures.stands g cells ok).here_is ne) (at_record s.below.items s.top s.here c.in_ok-settle.ensures.settled ne)

pub returns-clause-stands : goal.returns-clause-stands
returns-clause-stands c g cells ok = let s = c.settle.new.self in record_at c.args.words.now.words g cells ok s.key.items s.below.items s.top s.here (c.settle.ensures.stands g cells ok)

pub returns-clause-gives : goal.returns-clause-gives
returns-clause-gives c = let s = c.settle.new.self in let w = c.args.words.now in let i = c.is_standing.ensures in let ne : s.here ≢ 0 = λ z. absurd (omega (arith, z)) in
    let key : c.extend.new.self ≡ s.key.items = c.in_ok-extend.ensures.ok ∙ ap (λ (x : List ℕ). x ++ c.as_slice.result.now) c.truncate.ensures ∙ c.as_slice.ensures.value in
    sym (c.settle.ensures.left (record_value w.made))
    ∙ record_given w.words w.made i.0 i.1 i.2 s.key.items s.below.items s.top s.here (c.settle.ensures.stands i.2.ledger i.0 i.2.image) ne (at_record s.below.items s.top s.here c.in_ok-settle.ensures.settled ne) c.copy_value.new.out c.in_ok-copy_value.ensures
    ∙ ap (λ (k : List ℕ). (k, c.copy_value.new.out) ∷ left_by_parts (reading w.words) (record_value w.made) s.key.items s.below.items s.top 0) (sym key)
