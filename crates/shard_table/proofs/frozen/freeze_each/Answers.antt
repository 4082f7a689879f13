use Rattle.std.proofs.Common.{◌≡◌, ◌∷◌, ◌++◌, [], List, sym, ap, ◌∙◌, subst, append_assoc}
use Rattle.std.specs.Prelude.{reverse}
use Rattle.std.proofs.lemmas.List.{reverse-append}
use Rattle.trie_rule.specs.Seats.{CellsAt, WriterAt, KeptWords}
use Rattle.shard_table.specs.Seats.{AreEach, IsFreeWriter, IsClosed}
use Rattle.shard_table.proofs.Each.{each_last, each_equal}
use Rattle.shard_table.proofs.frozen.freeze_each.Goals as goal

parted : (shards shards' : List CellsAt) (writers writers' : List WriterAt) (cells : CellsAt) (seat : WriterAt) → shards ≡ shards' ++ cells ∷ [] → writers ≡ writers' ++ seat ∷ [] → AreEach IsFreeWriter shards writers
    → AreEach IsFreeWriter shards' writers' × IsFreeWriter cells seat
parted shards shards' writers writers' cells seat p q h = each_last IsFreeWriter shards' writers' cells seat (each_equal IsFreeWriter shards (shards' ++ cells ∷ []) writers (writers' ++ seat ∷ []) (sym p) (sym q) h)

pub close-requires-clause-own : goal.close-requires-clause-own
close-requires-clause-own c = (parted c.shards.shards.items c.pop.new.self.items c.shards.writers.items c.pop-in-shards.new.self.items c.in-Some-Some.cells c.in-Some-Some.seat c.in-Some-Some.ensures.items c.in-Some-Some.ensures'.items c.shards.invariant.left).1.own

pub close-requires-clause-idle : goal.close-requires-clause-idle
close-requires-clause-idle c = (parted c.shards.shards.items c.pop.new.self.items c.shards.writers.items c.pop-in-shards.new.self.items c.in-Some-Some.cells c.in-Some-Some.seat c.in-Some-Some.ensures.items c.in-Some-Some.ensures'.items c.shards.invariant.left).1.idle

pub shards-preserved : goal.shards-preserved
shards-preserved c =
    let closed = c.shards.invariant.closed in let seat = c.in-Some-Some.seat in let rest : List WriterAt = closed.0 in
    let last : IsClosed seat c.of.result = record {
      made = ap (λ (k : KeptWords). k.made) c.of.ensures ∙ c.close.ensures.made;
      words = ap (λ (k : KeptWords). k.words) c.of.ensures ∙ c.close.ensures.words;
    } in
    let turned : reverse c.push.new.self.items ≡ c.of.result ∷ reverse c.shards.frozen.items = ap (λ (l : List KeptWords). reverse l) c.in_ok-push.ensures.items ∙ reverse-append c.shards.frozen.items (c.of.result ∷ []) in
    record {
      left = (parted c.shards.shards.items c.pop.new.self.items c.shards.writers.items c.pop-in-shards.new.self.items c.in-Some-Some.cells seat c.in-Some-Some.ensures.items c.in-Some-Some.ensures'.items c.shards.invariant.left).0;
      closed = (
        seat ∷ rest,
        closed.1 ∙ ap (λ (l : List WriterAt). l ++ rest) c.in-Some-Some.ensures'.items ∙ append_assoc c.pop-in-shards.new.self.items (seat ∷ []) rest,
        subst (AreEach IsClosed (seat ∷ rest)) (sym turned) (last, closed.2),
      );
    }
