use Rattle.std.proofs.Common.{Ok, arith, subst}
use Rattle.outside.specs.Files.{ReadsBytes}
use Rattle.outside.specs.declared.store.FileId.{FileId}
use Rattle.outside.specs.declared.stream.Failed.{Failed}
use Rattle.table_files.proofs.SchemaLemmas.{read_there}
use Rattle.table_files.proofs.schema_file.read_schema.Goals as goal

pub returns-clause-told : goal.returns-clause-told
returns-clause-told g c =
    read_there _ c.args.generation c.read.new.into c.in_ok-count.count c.in_ok-read_schema_text.field-0 (omega arith)
    (subst (λ (f : FileId). ReadsBytes {E = Failed} (g.K.Store.files c.args.store.now) f 0 (Ok c.in_ok-count.count) c.read.new.into) c.schema_id.ensures c.in_ok-count.ensures.bytes)
    c.in_ok-read_schema_text.ensures
