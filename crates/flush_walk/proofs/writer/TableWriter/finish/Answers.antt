use Rattle.std.proofs.Common.{rules, ◌≡◌, List, ℕ, Ok, refl, ap, subst, ◌∙◌}
use Rattle.outside.specs.Files.{Appends}
use Rattle.outside.specs.declared.store.FileId.{FileId}
use Rattle.outside.specs.declared.stream.Failed.{Failed}
use Rattle.table_files.specs.Names.{schema_id}
use Rattle.table_files.specs.SchemaFile.{schema_file_text}
use Rattle.flush_walk.specs.Given.{Flushing, growing_of, turned}
use Rattle.flush_walk.specs.Writing.{WritesTable}
use Rattle.flush_walk.proofs.Adds.{torn_goes}
use Rattle.flush_walk.proofs.Final.{adds, closed_torn_begun, counts_turned, cut_off_begun, ends_cut, finishes_err, four_there, indexed, schema_begun, stand}
use Rattle.flush_walk.proofs.writer.TableWriter.finish.Goals as goal

pub returns-in_err-close-clause-finished : goal.returns-in_err-close-clause-finished
returns-in_err-close-clause-finished g c =
    finishes_err c.from_residual.result _ _ _ c.from_residual.ensures.0
    (λ w h. closed_torn_begun w h.table _ (torn_goes c.close.result c.close.new.self (turned w) (g.K.Store.files c.close.new.store) (search rules) (c.close.ensures.gone w h)))

pub returns-in_err-finish-clause-finished : goal.returns-in_err-finish-clause-finished
returns-in_err-finish-clause-finished g c =
    finishes_err c.from_residual-in_err-finish.result _ _ _ c.from_residual-in_err-finish.ensures.0
    (λ w h.
    let k = c.in_ok-close.ensures.gone w h in
    cut_off_begun w h.table _ (ends_cut c.finish.result (growing_of (turned w)) (g.K.Store.files c.finish.new.store) (search rules) (c.finish.ensures.ended (growing_of (turned w)) k.grows refl)))

pub returns-in_err-append-clause-finished : goal.returns-in_err-append-clause-finished
returns-in_err-append-clause-finished g c =
    finishes_err c.from_residual-in_err-append.result _ _ _ c.from_residual-in_err-append.ensures.0
    (λ w h.
    let k = c.in_ok-close.ensures.gone w h in
    let text : c.as_slice.result.now ≡ schema_file_text w.columns = c.as_slice.ensures ∙ k.text in
    let id : c.schema_id.result ≡ schema_id w.generation = c.schema_id.ensures ∙ ap schema_id k.generation in
    let put = subst (λ (f : FileId). Appends (g.K.Store.files c.finish.new.store) (g.K.Store.files c.append.new.self) f c.append.result (schema_file_text w.columns)) id
    (subst (λ (bs : List ℕ). Appends (g.K.Store.files c.finish.new.store) (g.K.Store.files c.append.new.self) c.schema_id.result c.append.result bs) text c.append.ensures.bytes) in
    schema_begun w h.table c.append.result _ _ (search rules) (c.in_ok-finish.ensures.ended (growing_of (turned w)) k.grows refl) put)

pub returns-clause-finished : goal.returns-clause-finished
returns-clause-finished g c =
    let four = λ (w : Flushing) (h : WritesTable c.args.self w (g.K.Store.files c.args.store.now)).
    let k = c.in_ok-close.ensures.gone w h in
    let text : c.as_slice.result.now ≡ schema_file_text w.columns = c.as_slice.ensures ∙ k.text in
    let id : c.schema_id.result ≡ schema_id w.generation = c.schema_id.ensures ∙ ap schema_id k.generation in
    let put = subst (λ (f : FileId). Appends {E = Failed} (g.K.Store.files c.finish.new.store) (g.K.Store.files c.append.new.self) f (Ok c.in_ok-append.field-0) (schema_file_text w.columns)) id
    (subst (λ (bs : List ℕ). Appends {E = Failed} (g.K.Store.files c.finish.new.store) (g.K.Store.files c.append.new.self) c.schema_id.result (Ok c.in_ok-append.field-0) bs) text c.in_ok-append.ensures.bytes) in
    four_there w h.table _ _ (c.in_ok-finish.ensures.ended (growing_of (turned w)) k.grows refl) Failed c.in_ok-append.field-0 put in
    record {
      adds = λ w h. adds w h.table _ (four w h);
      stand = λ w h. stand w h.table _ (four w h);
      indexed = λ w h. indexed w h.table _ (four w h);
      counts = λ w h. counts_turned _ w (c.in_ok-close.ensures.gone w h).counts;
      begun = tt;
    }
