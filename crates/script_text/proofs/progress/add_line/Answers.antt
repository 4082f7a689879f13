use Rattle.std.proofs.Common.{◌≡◌, true}
use Rattle.std.specs.Str.{is_utf8}
use Rattle.key_types.specs.Columns.{columns_of}
use Rattle.script_text.proofs.Added.{put_read, get_read, sync_read, none_read}
use Rattle.script_text.proofs.progress.add_line.Goals as goal

pub returns-in-Err : goal.returns-in-Err
returns-in-Err c =
    let u : is_utf8 c.args.text.now ≡ true = cc in
    none_read (columns_of c.args.schema.now) c.args.line c.args.reader c.args.text.now u c.args.batch.now c.args.batch.now c.read_line.new.out c.in-Err.error c.in-Err.ensures

pub returns-in-Ok-Some-Put : goal.returns-in-Ok-Some-Put
returns-in-Ok-Some-Put c =
    let u : is_utf8 c.args.text.now ≡ true = cc in
    let read = rw (c.in-Ok-Some-Put.field-0-is, c.in-Ok-Some-Put.field-0-0-is) at c.in-Ok-Some-Put.ensures in
    put_read (columns_of c.args.schema.now) c.args.line c.args.reader c.len-start.result c.args.text.now u c.in-Ok-Some-Put.ends c.args.batch.now c.add_put.new.batch c.read_line.new.out c.len-start.ensures c.requires
    read.0 read.1 read.2 c.add_put.result c.add_put.ensures

pub returns-in-Ok-Some-Get : goal.returns-in-Ok-Some-Get
returns-in-Ok-Some-Get c =
    let u : is_utf8 c.args.text.now ≡ true = cc in
    let read = rw (c.in-Ok-Some-Get.field-0-is, c.in-Ok-Some-Get.field-0-0-is) at c.in-Ok-Some-Get.ensures in
    get_read (columns_of c.args.schema.now) c.args.line c.args.reader c.len-start.result c.args.text.now u c.in-Ok-Some-Get.ends c.args.batch.now c.add_get.new.batch c.read_line.new.out c.len-start.ensures c.requires
    read.0 read.1 read.2 c.add_get.result c.add_get.ensures

pub returns-in-Ok-Some-Sync : goal.returns-in-Ok-Some-Sync
returns-in-Ok-Some-Sync c =
    let u : is_utf8 c.args.text.now ≡ true = cc in
    let read = rw (c.in-Ok-Some-Sync.field-0-is, c.in-Ok-Some-Sync.field-0-0-is) at c.in-Ok-Some-Sync.ensures in
    sync_read (columns_of c.args.schema.now) c.args.line c.args.reader c.args.text.now u c.args.batch.now c.args.batch.now c.read_line.new.out read.0 read.1 read.2 c.requires
