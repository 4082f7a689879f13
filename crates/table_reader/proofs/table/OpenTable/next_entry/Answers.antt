use Rattle.std.proofs.Common.{◌≤◌, ◌+◌, IfSome, subst, sym}
use Rattle.outside.specs.Files.{bytes_of}
use Rattle.outside.specs.declared.store.FileId.{FileId}
use Rattle.key_types.specs.Columns.{columns_of}
use Rattle.table_files.specs.Names.{data_id}
use Rattle.table_reader.specs.Going.{IsNear}
use Rattle.table_reader.specs.Opened.{Opened}
use Rattle.table_reader.specs.Ranges.{Scanning, scanning_of}
use Rattle.table_reader.specs.Scans.{ScanStands}
use Rattle.table_reader.specs.Window.{Continues}
use Rattle.table_reader.proofs.Nearing.{near_reads}
use Rattle.table_reader.proofs.table.OpenTable.next_entry.Goals as goal

pub returns-clause-near : goal.returns-clause-near
returns-clause-near g c =
    let files = g.K.Store.files c.args.store.now in
    let before = g.K.Store.reads c.args.store.now in
    let after = g.K.Store.reads c.next_of.new.store in
    let new = scanning_of c.next_of.new.walk in
    let table : Opened = record { generation = c.self.inside.generation; schema = c.self.inside.schema; footer = c.self.inside.footer; pages = c.self.inside.pages } in
    let stands = subst (λ (f : FileId). IfSome files (λ m. Continues (bytes_of m f) (scanning_of c.scan.inside.walk).window)) (sym c.data_id-file.ensures)
    (subst (λ (t : Opened). ScanStands files t.generation (scanning_of c.scan.inside.walk)) (sym c.self.view_is)
    (subst (λ (s : Scanning). ScanStands files c.args.self.now.generation s) (sym c.scan.view_is) c.requires)) in
    let near = near_reads (columns_of c.self.inside.schema) files c.data_id-file.result (scanning_of c.scan.inside.walk) new c.next_of.result before after c.next_of.ensures.near stands c.next_of.ensures.forward
    c.next_of.ensures.reads c.next_of.ensures.ahead in
    subst (λ (t : Opened). IfSome files (λ m. IsNear (columns_of t.schema) (bytes_of m (data_id t.generation)) c.args.scan.now
    → IsNear (columns_of t.schema) (bytes_of m (data_id t.generation)) new × (after ≤ before + 64))) c.self.view_is
    (subst (λ (s : Scanning). IfSome files (λ m. IsNear (columns_of table.schema) (bytes_of m (data_id table.generation)) s
    → IsNear (columns_of table.schema) (bytes_of m (data_id table.generation)) new × (after ≤ before + 64))) c.scan.view_is
    (subst (λ (f : FileId). IfSome files (λ m. IsNear (columns_of table.schema) (bytes_of m f) (scanning_of c.scan.inside.walk)
    → IsNear (columns_of table.schema) (bytes_of m f) new × (after ≤ before + 64))) c.data_id-file.ensures near))
