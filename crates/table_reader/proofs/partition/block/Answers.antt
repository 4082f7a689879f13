use Rattle.std.proofs.Common.{◌+◌, ◌∙◌, Option, Ok, ap, rules, subst, w64}
use Rattle.std.proofs.lemmas.Int.{to_z-of_z}
use mir.Val.{SFits}
use Rattle.std.specs.Prelude.{unsigned_abs}
use Rattle.key_types.specs.Columns.{columns_of}
use Rattle.bti_reader.specs.declared.ask.Hit.{Hit}
use Rattle.bti_reader.specs.Searches.{floor_in}
use Rattle.bti_reader.specs.Steps.{FindsHit}
use Rattle.table_reader.proofs.Seeks.{block_begins}
use Rattle.table_reader.proofs.partition.block.Goals as goal

pub returns-in-Some-2-clause-block : goal.returns-in-Some-2-clause-block
returns-in-Some-2-clause-block g c =
    let fit : SFits w64 c.in-Some-2.hit.number = search rules in
    block_begins (g.K.Store.files c.args.store.now) (columns_of c.args.schema.now) c.args.table.generation c.args.place c.args.clustering.now c.args.behind c.in-Some.root
    (c.args.place.head + c.unsigned_abs.result) c.rows_id-file.result c.in-Some-2.hit c.in-Some.is c.rows_id-file.ensures
    (subst (λ (found : Option Hit). FindsHit (g.K.Store.files c.args.store.now) c.rows_id-file.result 0 (λ bytes. floor_in bytes c.in-Some.root c.args.clustering.now) (Ok found)) c.in-Some-2.is c.in_ok-hit.ensures.found)
    (ap (λ n. c.args.place.head + n) (c.unsigned_abs.ensures.value ∙ ap unsigned_abs (to_z-of_z w64 c.in-Some-2.hit.number fit)))
