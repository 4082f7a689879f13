-- A table and its workers before any put.
use Rattle.std.proofs.Common.{◌≡◌, ℕ, ◌+◌, ◌<◌, List, [], ◌∷◌, length, slice_get, Some, All, refl, sym, ◌∙◌, ap, subst, arith}
use Rattle.std.proofs.lemmas.Option.{slice_get_within, get_or_from_slice_get}
use Rattle.trie_image.specs.declared.Put.{Put as CellPut}
use Rattle.trie_rule.specs.declared.views.WriteView.{WriteView}
use Rattle.trie_rule.specs.Rule.{IsStartOf, opening_write_view}
use Rattle.trie_rule.specs.Seats.{CellsAt, ReaderAt, WriterAt}
use Rattle.shard_table.specs.declared.workers.Workers.{Workers}
use Rattle.shard_table.specs.Seats.{AreEach, AreWorkers, HaveCells, IsNewReader, IsNewWriter, TableAt}
use Rattle.shard_table.proofs.Each.{each_at, each_length}
use Rattle.load_work.specs.Work.{HasLearnt}
use Rattle.load_work.proofs.Lists.{item_at}
use Rattle.script_run.specs.Steps.{StandAfter}

pub item_of : {X : Type 0} (P : X → Type 0) (xs : List X) (i : ℕ) (x : X) → All P xs → slice_get xs i ≡ Some x → P x
item_of P xs i x all at = subst P (get_or_from_slice_get xs i x x at) (all i x (slice_get_within xs i x at))

-- a new reader knows all of no puts
new_learnt : (c : CellsAt) (s : WriterAt) (r : ReaderAt) → IsNewWriter c s → IsNewReader c r → HasLearnt s r
new_learnt c s r writer reader =
    let none : s.knows.made ≡ [] = ap (λ (w : WriteView). w.made) writer.knows in record {
      seen = subst (λ (made : List CellPut). IsStartOf made r.knows.seen) (sym none) (r.knows.seen, refl);
      front = omega (arith, ap length none);
    }

pub all_learnt : (shards : List CellsAt) (writers : List WriterAt) (readers : List ReaderAt) → AreEach IsNewWriter shards writers → AreEach IsNewReader shards readers
    → AreEach HasLearnt writers readers
all_learnt [] [] [] h k = tt
all_learnt [] [] (r ∷ rs) h k = absurd k
all_learnt [] (s ∷ ss) rs h k = absurd h
all_learnt (c ∷ cs) [] rs h k = absurd h
all_learnt (c ∷ cs) (s ∷ ss) [] h k = absurd k
all_learnt (c ∷ cs) (s ∷ ss) (r ∷ rs) (h, hs) (k, ks) = (new_learnt c s r h k, all_learnt cs ss rs hs ks)

-- a new writer's view
opening_is : (cells : ℕ) (shards : List CellsAt) (writers : List WriterAt) → HaveCells cells shards → AreEach IsNewWriter shards writers
    → (i : ℕ) (s : WriterAt) → slice_get writers i ≡ Some s → s.knows ≡ opening_write_view cells
opening_is cells shards writers are new i s at =
    let inside : i < length shards = omega (arith, slice_get_within writers i s at, each_length IsNewWriter shards writers new) in
    let c = item_at shards i inside in
    (each_at IsNewWriter shards writers i c.0 s new c.1 at).knows ∙ ap opening_write_view (item_of (λ (x : CellsAt). x.cells ≡ cells) shards i c.0 are c.1)

pub new_stands : (cells : ℕ) (table : TableAt) (w : Workers) → length table.shards ≡ length table.bounds + 1 → HaveCells cells table.shards → AreWorkers table.shards w
    → AreEach IsNewWriter table.shards w.writers.items → All (λ seats. AreEach IsNewReader table.shards seats.items) w.readers.items → StandAfter cells table [] w
new_stands cells table w count are workers writers readers = record {
  shards = record { count = count; sized = are };
  workers = workers;
  learnt = λ k d less. all_learnt table.shards w.writers.items _ writers (readers k d less);
  made = opening_is cells table.shards w.writers.items are writers;
}
