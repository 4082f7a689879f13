use Rattle.std.proofs.Common.{rules, false, ◌≡◌, ◌<◌, ◌≤◌, ◌++◌, ◌∷◌, [], List, ℕ, length, refl, arith, ap, subst, sym, ◌∙◌, w64}
use Rattle.std.specs.Prelude.{ℤ, pos, negsuc, ◌-◌, ◌^◌, ◌≤ℤ◌, ◌<ℤ◌}
use Rattle.std.proofs.lemmas.Int.{to_z-of_z}
use mir.Val.{SFits, of_z, to_z}
use Rattle.data_file.specs.Writing.{Writing}
use Rattle.partition_index.specs.Entries.{AreNumbered, Numbered}
use Rattle.partition_index.specs.Writing.{HasRoom, TakesPartition, numbered, with_partition}
use Rattle.flush_walk.specs.declared.writer.TableWriter.{TableWriter}
use Rattle.flush_walk.specs.Current.{number_turned, rows_turned}
use Rattle.flush_walk.specs.Given.{Flushing, turned}
use Rattle.flush_walk.specs.Growing.{Grows, Moves}
use Rattle.flush_walk.specs.Writing.{Goes, WritesTable}
use Rattle.flush_walk.proofs.Moves.{torn_of}
use Rattle.flush_walk.proofs.Steps.{goes_err, place_few}
use Rattle.flush_walk.proofs.Ends.{closed_torn, closed_writes, index_torn_on, key_few, key_some, number_is, number_ready, rows_torn_on, takes, with_current}
use Rattle.flush_walk.proofs.writer.TableWriter.close.Goals as goal

pub end_rows-requires : goal.end_rows-requires
end_rows-requires g c =
    let s = c.args.self.now in
    let w = c.requires.0 in
    let f = g.K.Store.files c.args.store.now in
    let q = with_current s w f c.requires.1 (search rules) in
    (w, q.0, subst (λ (u : Flushing). WritesTable s u f) q.1 c.requires.1)

pub returns-in_err-number-clause-gone : goal.returns-in_err-number-clause-gone
returns-in_err-number-clause-gone g c =
    λ w h.
    let s = c.args.self.now in
    let f = g.K.Store.files c.args.store.now in
    let q = with_current s w f h (search rules) in
    let k = subst (λ (u : Flushing). WritesTable s u f) q.1 h in
    let torn = rows_torn_on s w q.0 f k _ (torn_of c.end_rows.result c.end_rows.new.self.files (rows_turned w q.0) (g.K.Store.files c.end_rows.new.store) (search rules) (c.end_rows.ensures.moved w q.0 k)) in
    subst (λ (u : Flushing). Goes c.from_residual.result c.end_rows.new.self (turned u) (g.K.Store.files c.end_rows.new.store)) (sym q.1)
    (goes_err c.from_residual.result _ _ _ c.from_residual.ensures.0 torn)

pub add_partition-requires-clause-key : goal.add_partition-requires-clause-key
add_partition-requires-clause-key g c =
    let s = c.args.self.now in
    let f = g.K.Store.files c.args.store.now in
    let w = c.requires.0 in
    let q = with_current s w f c.requires.1 (search rules) in
    let k = subst (λ (u : Flushing). WritesTable s u f) q.1 c.requires.1 in
    let key = c.as_slice.ensures ∙ ap (λ (x : TableWriter). x.current.key) c.in_ok-number.ensures.kept in
    subst (λ (x : List ℕ). TakesPartition c.end_rows.new.self.files.partitions x) (sym key) (takes s w q.0 f k _ c.in_ok-number.ensures.partitions)

pub add_partition-requires-clause-some : goal.add_partition-requires-clause-some
add_partition-requires-clause-some g c =
    let s = c.args.self.now in
    let f = g.K.Store.files c.args.store.now in
    let w = c.requires.0 in
    let q = with_current s w f c.requires.1 (search rules) in
    let k = subst (λ (u : Flushing). WritesTable s u f) q.1 c.requires.1 in
    let key = c.as_slice.ensures ∙ ap (λ (x : TableWriter). x.current.key) c.in_ok-number.ensures.kept in
    subst (λ (x : List ℕ). 0 < length x) (sym key) (key_some s w q.0 f k)

pub add_partition-requires-clause-most : goal.add_partition-requires-clause-most
add_partition-requires-clause-most g c =
    let s = c.args.self.now in
    let f = g.K.Store.files c.args.store.now in
    let w = c.requires.0 in
    let q = with_current s w f c.requires.1 (search rules) in
    let k = subst (λ (u : Flushing). WritesTable s u f) q.1 c.requires.1 in
    let key = c.as_slice.ensures ∙ ap (λ (x : TableWriter). x.current.key) c.in_ok-number.ensures.kept in
    subst (λ (x : List ℕ). length x ≤ 1024) (sym key) (key_few s w q.0 f k)

pub add_partition-requires-clause-low : goal.add_partition-requires-clause-low
add_partition-requires-clause-low g c =
    let s = c.args.self.now in
    let f = g.K.Store.files c.args.store.now in
    let w = c.requires.0 in
    let q = with_current s w f c.requires.1 (search rules) in
    let k = subst (λ (u : Flushing). WritesTable s u f) q.1 c.requires.1 in
    let fit : SFits w64 c.in_ok-number.number = search rules in
    subst (λ (z : ℤ). negsuc (2 ^ 55 - 1) ≤ℤ z) (sym (to_z-of_z w64 c.in_ok-number.number fit ∙ c.in_ok-number.ensures.number w q.0 k)) (number_is s w q.0 f k).low

pub add_partition-requires-clause-high : goal.add_partition-requires-clause-high
add_partition-requires-clause-high g c =
    let s = c.args.self.now in
    let f = g.K.Store.files c.args.store.now in
    let w = c.requires.0 in
    let q = with_current s w f c.requires.1 (search rules) in
    let k = subst (λ (u : Flushing). WritesTable s u f) q.1 c.requires.1 in
    let fit : SFits w64 c.in_ok-number.number = search rules in
    subst (λ (z : ℤ). z <ℤ pos (2 ^ 55)) (sym (to_z-of_z w64 c.in_ok-number.number fit ∙ c.in_ok-number.ensures.number w q.0 k)) (number_is s w q.0 f k).high

pub returns-in_err-add_partition-clause-gone : goal.returns-in_err-add_partition-clause-gone
returns-in_err-add_partition-clause-gone g c =
    λ w h.
    let s = c.args.self.now in
    let f = g.K.Store.files c.args.store.now in
    let q = with_current s w f h (search rules) in
    let k = subst (λ (u : Flushing). WritesTable s u f) q.1 h in
    let key = c.as_slice.ensures ∙ ap (λ (x : TableWriter). x.current.key) c.in_ok-number.ensures.kept in
    let fit : SFits w64 c.in_ok-number.number = search rules in
    let n = to_z-of_z w64 c.in_ok-number.number fit ∙ c.in_ok-number.ensures.number w q.0 k in
    let t = rows_turned w q.0 in
    let same : ◌≡◌ {A = Numbered} (numbered c.as_slice.result.now (to_z w64 (of_z w64 c.in_ok-number.number))) (numbered s.current.key (number_turned w q.0)) = λ i. numbered (key i) (n i) in
    let ready = number_ready s w q.0 f k t refl in
    let moved = subst (λ (x : Numbered). HasRoom t.index x → AreNumbered (t.index.partitions ++ x ∷ [])
    → Moves c.add_partition.result c.add_partition.new.self (record t { index = with_partition t.index x }) (g.K.Store.files c.add_partition.new.store)) same (c.add_partition.ensures.moved t (c.in_ok-number.ensures.moved w q.0 k)) ready.0 ready.1 in
    let torn = index_torn_on s w q.0 f k _ (torn_of c.add_partition.result c.add_partition.new.self _ (g.K.Store.files c.add_partition.new.store) (search rules) moved) in
    subst (λ (u : Flushing). Goes c.from_residual-in_err-add_partition.result (record c.end_rows.new.self { files = c.add_partition.new.self }) (turned u) (g.K.Store.files c.add_partition.new.store)) (sym q.1)
    (goes_err c.from_residual-in_err-add_partition.result _ _ _ c.from_residual-in_err-add_partition.ensures.0 torn)

pub close_partition-requires : goal.close_partition-requires
close_partition-requires g c =
    let s = c.args.self.now in
    let few = place_few s c.requires.0 _ c.requires.1 in
    omega (arith, few, ap (λ (l : Writing). l.position) c.in_ok-number.ensures.listing, ap (λ (l : Writing). l.position) c.in_ok-add_partition.ensures.kept)

pub returns-in_err-close_partition-clause-gone : goal.returns-in_err-close_partition-clause-gone
returns-in_err-close_partition-clause-gone g c =
    λ w h.
    let s = c.args.self.now in
    let f = g.K.Store.files c.args.store.now in
    let q = with_current s w f h (search rules) in
    let k = subst (λ (u : Flushing). WritesTable s u f) q.1 h in
    let key = c.as_slice.ensures ∙ ap (λ (x : TableWriter). x.current.key) c.in_ok-number.ensures.kept in
    let fit : SFits w64 c.in_ok-number.number = search rules in
    let n = to_z-of_z w64 c.in_ok-number.number fit ∙ c.in_ok-number.ensures.number w q.0 k in
    let t = rows_turned w q.0 in
    let same : ◌≡◌ {A = Numbered} (numbered c.as_slice.result.now (to_z w64 (of_z w64 c.in_ok-number.number))) (numbered s.current.key (number_turned w q.0)) = λ i. numbered (key i) (n i) in
    let ready = number_ready s w q.0 f k t refl in
    let moved = subst (λ (x : Numbered). HasRoom t.index x → AreNumbered (t.index.partitions ++ x ∷ [])
    → Grows c.add_partition.new.self (record t { index = with_partition t.index x }) (g.K.Store.files c.add_partition.new.store)) same (c.in_ok-add_partition.ensures.moved t (c.in_ok-number.ensures.moved w q.0 k)) ready.0 ready.1 in
    let torn = closed_torn s w q.0 f k _ (torn_of c.close_partition.result c.close_partition.new.self _ (g.K.Store.files c.close_partition.new.store) (search rules) (c.close_partition.ensures.moved _ moved)) in
    subst (λ (u : Flushing). Goes c.from_residual-in_err-close_partition.result (record c.end_rows.new.self { files = c.close_partition.new.self }) (turned u) (g.K.Store.files c.close_partition.new.store)) (sym q.1)
    (goes_err c.from_residual-in_err-close_partition.result _ _ _ c.from_residual-in_err-close_partition.ensures.0 torn)

pub returns-clause-gone : goal.returns-clause-gone
returns-clause-gone g c =
    λ w h.
    let s = c.args.self.now in
    let f = g.K.Store.files c.args.store.now in
    let q = with_current s w f h (search rules) in
    let k = subst (λ (u : Flushing). WritesTable s u f) q.1 h in
    let key = c.as_slice.ensures ∙ ap (λ (x : TableWriter). x.current.key) c.in_ok-number.ensures.kept in
    let fit : SFits w64 c.in_ok-number.number = search rules in
    let n = to_z-of_z w64 c.in_ok-number.number fit ∙ c.in_ok-number.ensures.number w q.0 k in
    let t = rows_turned w q.0 in
    let same : ◌≡◌ {A = Numbered} (numbered c.as_slice.result.now (to_z w64 (of_z w64 c.in_ok-number.number))) (numbered s.current.key (number_turned w q.0)) = λ i. numbered (key i) (n i) in
    let ready = number_ready s w q.0 f k t refl in
    let moved = subst (λ (x : Numbered). HasRoom t.index x → AreNumbered (t.index.partitions ++ x ∷ [])
    → Grows c.add_partition.new.self (record t { index = with_partition t.index x }) (g.K.Store.files c.add_partition.new.store)) same (c.in_ok-add_partition.ensures.moved t (c.in_ok-number.ensures.moved w q.0 k)) ready.0 ready.1 in
    let kept = c.in_ok-number.ensures.kept in
    let s' : TableWriter = record c.end_rows.new.self { files = c.close_partition.new.self; current = record c.end_rows.new.self.current { is_open = false } } in
    let done = closed_writes s w q.0 f k s' (g.K.Store.files c.close_partition.new.store)
    (c.in_ok-close_partition.ensures.moved _ moved)
    (ap (λ (x : TableWriter). x.generation) kept) (ap (λ (x : TableWriter). x.static_value) kept) (ap (λ (x : TableWriter). x.text) kept) refl (ap (λ (x : TableWriter). x.counts) kept) in
    subst (λ (u : Flushing). WritesTable s' (turned u) (g.K.Store.files c.close_partition.new.store)) (sym q.1) done
