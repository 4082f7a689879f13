use Rattle.std.proofs.Common.{rules, ap, ◌∙◌, subst}
use Rattle.trie_rule.specs.Kinds.{IsValueWord}
use Rattle.trie_rule.specs.Seats.{ReaderAt}
use Rattle.trie_rule.proofs.Watches.{owns_load}
use Rattle.trie_rule.proofs.SeatFields.{load_idle, stays}
use Rattle.trie_rule.proofs.cells.ShardCells.load.Goals as goal

pub load-requires : goal.load-requires
load-requires g c = (search rules, search rules, owns_load _ _ _ _ _ _ c.seat.invariant.0 (λ f e. let rests = ap (λ x. x.knows.reader.find) c.seat.view_is ∙ c.requires.idle in absurd (cc)))

pub invariant_of-seat : goal.invariant_of-seat
invariant_of-seat g c =
    stays c.self.inside.table.shared.table_id.slots c.args.word c.load.result c.seat.inside.seat c.load.new.seat c.seat.inside.front c.seat.invariant (ap (λ x. x.knows.reader.find) c.seat.view_is ∙ c.requires.idle) c.load.ensures.0 c.load.ensures.2

pub returns-clause-value : goal.returns-clause-value
returns-clause-value g c =
    let told = load_idle _ c.self.inside.table.shared.table_id.slots c.args.word c.load.result c.seat.inside.seat.me c.load.new.seat.me (ap (λ x. x.knows.reader.find) c.seat.view_is ∙ c.requires.idle) c.load.ensures.2 in
    subst (λ (x : ReaderAt). IsValueWord x.knows.seen c.args.word c.load.result) c.seat.view_is told.1
