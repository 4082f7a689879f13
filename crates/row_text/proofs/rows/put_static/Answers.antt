use Rattle.key_types.specs.Columns.{columns_of}
use Rattle.row_text.proofs.PrintedLemmas.{no_static, ok_so, static_ended}
use Rattle.row_text.proofs.rows.put_static.Goals as goal

pub returns-in_ok-extend-in-Some : goal.returns-in_ok-extend-in-Some
returns-in_ok-extend-in-Some c =
    ok_so c.end_static.result _ _
    (λ put key is. static_ended (columns_of c.args.schema.now) c.in-Some.kind c.args.value.now c.args.out.now key c.args.partition.now c.extend.new.self c.end_static.new.out c.in-Some.is is c.in_ok-extend-in-Some.ensures.ok put)
    c.end_static.ensures

pub returns-in-None : goal.returns-in-None
returns-in-None c = λ key is. no_static (columns_of c.args.schema.now) c.args.value.now key c.args.partition.now c.args.out.now c.in-None.is is
