use Rattle.std.proofs.Common.{◌≡◌, Err, IfSome, Result, rules, subst, sym}
use Rattle.key_types.specs.Columns.{columns_of}
use Rattle.data_file.specs.declared.reading.DataError.TheVariants as data_error
use Rattle.data_file.specs.declared.writer.Counts.{Counts}
use Rattle.data_walk.specs.declared.refusal.Refusal.{Refusal}
use Rattle.data_walk.specs.declared.refusal.Refusal.TheVariants.{Unread}
use Rattle.table_check.proofs.Joined.{FilesOf, all_compared, faulted, no_store_fault, stops_at_data, stops_at_footer, stops_at_indexes}
use Rattle.table_check.proofs.checking.check_files.Goals as goal

pub returns-in_err-cache-clause-told : goal.returns-in_err-cache-clause-told
returns-in_err-cache-clause-told g c =
    let columns = columns_of c.args.schema.now in
    let files = g.K.Store.files c.args.store.now in
    let is : c.from_residual.result ≡ Err (Unread data_error.NoMemory) = search rules in
    subst (λ (r : Result Counts Refusal). IfSome files (FilesOf columns c.args.generation r)) (sym is)
    (faulted columns c.args.generation files (Unread data_error.NoMemory) tt)

pub returns-in_err-found-clause-told : goal.returns-in_err-found-clause-told
returns-in_err-found-clause-told g c =
    let columns = columns_of c.args.schema.now in
    let files = g.K.Store.files c.args.store.now in
    let is : c.from_residual-in_err-found.result ≡ Err c.in_err-found.field-0.0 = search rules in
    subst (λ (r : Result Counts Refusal). IfSome files (FilesOf columns c.args.generation r)) (sym is)
    (stops_at_data columns c.args.generation files c.in_err-found.field-0.0 c.in_err-found.ensures.told)

pub returns-in_err-footer-clause-told : goal.returns-in_err-footer-clause-told
returns-in_err-footer-clause-told g c =
    let columns = columns_of c.args.schema.now in
    let files = g.K.Store.files c.args.store.now in
    let is : c.from_residual-in_err-footer.result ≡ Err c.in_err-footer.field-0.0 = search rules in
    subst (λ (r : Result Counts Refusal). IfSome files (FilesOf columns c.args.generation r)) (sym is)
    (stops_at_footer columns c.args.generation files (g.K.Store.files c.check_data.new.store) c.in_ok-found.found
    c.in_ok-found.ensures.files
    c.in_ok-found.ensures.told c.in_err-footer.field-0.0 c.in_err-footer.ensures.footer)

pub returns-in_err-check_indexes-clause-told : goal.returns-in_err-check_indexes-clause-told
returns-in_err-check_indexes-clause-told g c =
    let columns = columns_of c.args.schema.now in
    let files = g.K.Store.files c.args.store.now in
    let is : c.from_residual-in_err-check_indexes.result ≡ Err c.in_err-check_indexes.field-0.0 = search rules in
    subst (λ (r : Result Counts Refusal). IfSome files (FilesOf columns c.args.generation r)) (sym is)
    (stops_at_indexes columns c.args.generation files (g.K.Store.files c.check_data.new.store) c.in_ok-found.found
    c.in_ok-found.ensures.files
    c.in_ok-found.ensures.told (g.K.Store.files c.check_footer.new.store) c.in_ok-footer.footer
    c.in_ok-footer.ensures.files
    c.in_ok-footer.ensures.footer c.in_err-check_indexes.field-0.0 c.in_err-check_indexes.ensures.told)

pub returns-clause-told : goal.returns-clause-told
returns-clause-told g c =
    all_compared (columns_of c.args.schema.now) c.args.generation (g.K.Store.files c.args.store.now)
    (g.K.Store.files c.check_data.new.store)
    c.in_ok-found.found c.in_ok-found.ensures.files c.in_ok-found.ensures.told
    (g.K.Store.files c.check_footer.new.store) c.in_ok-footer.footer
    c.in_ok-footer.ensures.files c.in_ok-footer.ensures.footer c.compare_counts.result
    c.in_ok-check_indexes.ensures.told c.compare_counts.ensures

pub returns-clause-fault : goal.returns-clause-fault
returns-clause-fault g c = λ is. absurd (no_store_fault c.in_ok-found.found c.in_ok-footer.footer
    c.compare_counts.result c.compare_counts.ensures is)
