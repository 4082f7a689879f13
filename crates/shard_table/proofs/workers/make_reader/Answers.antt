use Rattle.std.proofs.Common.{◌≡◌, ℕ, ◌+◌, ◌<◌, ◌∷◌, ◌++◌, [], List, length, take, set, slice_index_or, sym, ap, ◌∙◌, subst, arith}
use Rattle.std.proofs.lemmas.List.{set-get_or, take_more}
use Rattle.trie_machine.specs.Events.{resting}
use Rattle.trie_image.specs.declared.Put.{Put}
use Rattle.trie_rule.specs.declared.views.WriteView.{WriteView}
use Rattle.trie_rule.specs.Seats.{CellsAt, WriterAt}
use Rattle.shard_table.specs.Seats.{AreEach, IsNewWriter, IsNewReader}
use Rattle.shard_table.proofs.Each.{each_length, each_index, each_more, each_equal}
use Rattle.shard_table.proofs.workers.make_reader.Goals as goal

pub bounds-writers-i : goal.bounds-writers-i
bounds-writers-i c = omega (arith, each_length IsNewWriter c.args.shards.now c.args.writers.now c.requires.new, ap length c.loop-i.invariant.same)

new_at : (shards : List CellsAt) (writers writers' : List WriterAt) (i : ℕ) (shard : CellsAt) (d : WriterAt) → AreEach IsNewWriter shards writers → writers' ≡ writers → i < length shards → shard ≡ slice_index_or shards i shard → IsNewWriter shard (slice_index_or writers' i d)
new_at shards writers writers' i shard d new same less is =
    subst (λ (s : CellsAt). IsNewWriter s (slice_index_or writers' i d)) (sym is) (subst (λ (ws : List WriterAt). IsNewWriter (slice_index_or shards i shard) (slice_index_or ws i d)) (sym same) (each_index IsNewWriter shards writers i shard d new less))

pub split-seat-requires-clause-own : goal.split-seat-requires-clause-own
split-seat-requires-clause-own c = (new_at c.args.shards.now c.args.writers.now c.loop-i.writers c.loop-i.i c.index-shards-i.result c.index-writers-i.result c.requires.new c.loop-i.invariant.same (omega arith) (c.index-shards-i.is)).own

pub split-seat-requires-clause-idle : goal.split-seat-requires-clause-idle
split-seat-requires-clause-idle c = ap (λ (w : WriteView). w.begun) (new_at c.args.shards.now c.args.writers.now c.loop-i.writers c.loop-i.i c.index-shards-i.result c.index-writers-i.result c.requires.new c.loop-i.invariant.same (omega arith) (c.index-shards-i.is)).knows

pub loop-i-preserved : goal.loop-i-preserved
loop-i-preserved c =
    let i = c.loop-i.i in let shards = c.args.shards.now in let shard = c.index-shards-i.result in
    let knows = (new_at shards c.args.writers.now c.loop-i.writers i shard c.index-writers-i.result c.requires.new c.loop-i.invariant.same (omega arith) (c.index-shards-i.is)).knows in
    let empty : (slice_index_or c.loop-i.writers i c.index-writers-i.result).knows.made ≡ [] = ap (λ (w : WriteView). w.made) knows in
    let new : IsNewReader shard c.split-seat.result = record {
      own = c.split-seat.ensures.own;
      seen = c.split-seat.ensures.seen ∙ empty;
      reader = c.split-seat.ensures.reader ∙ ap (λ (ps : List Put). resting (length ps)) empty;
    } in
    record {
      same = ap (λ (s : WriterAt). set c.loop-i.writers i s) c.split-seat.ensures.same ∙ set-get_or c.loop-i.writers i c.index-writers-i.result ∙ c.loop-i.invariant.same;
      each = each_equal IsNewReader (take i shards ++ shard ∷ []) (take (i + 1) shards) (c.loop-i.seats.items ++ c.split-seat.result ∷ []) c.push.new.self.items
          (take_more shards i shard (omega arith) ∙ ap (λ (s : CellsAt). take i shards ++ s ∷ []) (sym c.index-shards-i.is)) c.in_ok-push.ensures.items
          (each_more IsNewReader (take i shards) c.loop-i.seats.items shard c.split-seat.result c.loop-i.invariant.each new);
    }
