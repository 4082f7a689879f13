use Rattle.std.proofs.Common.{◌≡◌, IfSome, Ok, rules, subst, sym, true}
use Rattle.outside.specs.Files.{bytes_of}
use Rattle.key_types.specs.Columns.{columns_of}
use Rattle.table_files.specs.Names.{data_id}
use Rattle.table_reader.specs.Ranges.{Scanning}
use Rattle.scan_tool.specs.PrintReads.{TurnsWithin}
use Rattle.scan_tool.specs.Steps.{TurnIs}
use Rattle.scan_tool.proofs.scanning.turn.Goals as goal

pub returns-in-Ok-clause-turn : goal.returns-in-Ok-clause-turn
returns-in-Ok-clause-turn g c =
    let columns = columns_of c.args.table.now.schema in
    let turned : TurnIs columns (g.K.Store.files c.args.store.now) c.args.table.now.generation c.args.scan.now c.next_entry.new.scan c.args.lines.now c.put.new.self (Ok true) = search rules in
    subst (λ (s : Scanning). TurnIs columns (g.K.Store.files c.args.store.now) c.args.table.now.generation c.args.scan.now s c.args.lines.now c.put.new.self (Ok true)) (sym c.reuse.ensures) turned

pub returns-in-Ok-clause-reads : goal.returns-in-Ok-clause-reads
returns-in-Ok-clause-reads g c =
    subst (λ (s : Scanning). IfSome (g.K.Store.files c.args.store.now) (λ m. TurnsWithin (columns_of c.args.table.now.schema) (bytes_of m (data_id c.args.table.now.generation)) c.args.scan.now s
    (g.K.Store.reads c.args.store.now) (g.K.Store.reads c.next_entry.new.store)))
    (sym c.reuse.ensures) c.next_entry.ensures.near
