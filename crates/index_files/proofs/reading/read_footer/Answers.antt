use Rattle.std.proofs.Common.{◌≡◌, take, drop, Option, IfSome, refl, subst}
use Rattle.key_types.specs.Columns.{columns_of}
use Rattle.outside.specs.Files.{Files, bytes_of}
use Rattle.index_files.proofs.Told.{footer_told, no_footer_told, size_told}
use Rattle.index_files.proofs.reading.read_footer.Goals as goal

pub returns-in-Some-clause-footer : goal.returns-in-Some-clause-footer
returns-in-Some-clause-footer g c =
    footer_told (g.K.Store.files c.args.store.now) c.args.file (columns_of c.args.schema.now) c.args.file.part c.unwrap_or-size.result
    c.saturating_sub-start.result c.in_ok-tail.tail c.as_slice.result.now c.in-Some.numbers
    (size_told (g.K.Store.files c.args.store.now) c.args.file c.in_ok-size.field-0 c.unwrap_or-size.result c.in_ok-size.ensures.bytes.0 c.unwrap_or-size.ensures)
    c.saturating_sub-start.ensures
    (subst (λ (f : Option Files). IfSome f (λ m. c.in_ok-tail.tail ≡ take 2076 (drop c.saturating_sub-start.result (bytes_of m c.args.file)))) c.in_ok-size.ensures.files c.in_ok-tail.ensures.bytes)
    c.as_slice.ensures c.in-Some.ensures.some

pub returns-clause-footer : goal.returns-clause-footer
returns-clause-footer g c =
    no_footer_told (g.K.Store.files c.args.store.now) c.args.file (columns_of c.args.schema.now) c.args.file.part c.unwrap_or-size.result
    c.saturating_sub-start.result c.footer_place.result c.in_ok-tail.tail c.as_slice.result.now c.damaged.result
    (size_told (g.K.Store.files c.args.store.now) c.args.file c.in_ok-size.field-0 c.unwrap_or-size.result c.in_ok-size.ensures.bytes.0 c.unwrap_or-size.ensures)
    c.saturating_sub-start.ensures
    (subst (λ (f : Option Files). IfSome f (λ m. c.in_ok-tail.tail ≡ take 2076 (drop c.saturating_sub-start.result (bytes_of m c.args.file)))) c.in_ok-size.ensures.files c.in_ok-tail.ensures.bytes)
    c.as_slice.ensures c.footer_place.ensures c.damaged.ensures (c.in-None.ensures.none refl)
