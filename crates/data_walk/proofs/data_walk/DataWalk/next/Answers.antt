use Rattle.std.proofs.Common.{◌≡◌, ◌∙◌, Bool, true, false, Option, Ok, Err, sym, subst, Result, rules}
use Rattle.outside.specs.Files.{Files}
use Rattle.key_types.specs.Columns.{columns_of}
use Rattle.data_walk.specs.declared.data_walk.PartitionSum.{PartitionSum}
use Rattle.data_walk.specs.declared.refusal.Refusal.{Refusal}
use Rattle.data_walk.specs.DataWalk.{CountsBlocks, Enters, FindsPartition, OverFile}
use Rattle.data_walk.proofs.Steps.{finds_empty, finds_no_head, finds_none, finds_partition, finds_refusal}
use Rattle.data_walk.proofs.data_walk.DataWalk.next.Goals as goal

pub returns-in_err-has_static-clause-told : goal.returns-in_err-has_static-clause-told
returns-in_err-has_static-clause-told g c =
    let columns = columns_of c.args.schema.now in
    let files = g.K.Store.files c.args.store.now in
    let is : c.from_residual.result ≡ Err c.in_err-has_static.field-0.0 = search rules in
    subst (λ (r : Result (Option PartitionSum) Refusal). OverFile files c.args.file (FindsPartition columns) c.args.self.now c.enter.new.self r) (sym is)
    (finds_no_head columns c.args.file files c.args.self.now c.enter.new.self c.in_err-has_static.field-0.0 c.in_err-has_static.ensures.told)

pub returns-in_default-clause-told : goal.returns-in_default-clause-told
returns-in_default-clause-told g c =
    let columns = columns_of c.args.schema.now in
    let files = g.K.Store.files c.args.store.now in
    finds_none columns c.args.file files c.args.self.now c.enter.new.self
    (subst (λ (found : Option Bool). OverFile files c.args.file (Enters columns) c.args.self.now c.enter.new.self (Ok found)) c.in_default.is c.in_ok-has_static.ensures.told)

pub returns-in_err-blocks-clause-told : goal.returns-in_err-blocks-clause-told
returns-in_err-blocks-clause-told g c =
    let columns = columns_of c.args.schema.now in
    let files = g.K.Store.files c.args.store.now in
    let enters = subst (λ (found : Option Bool). OverFile files c.args.file (Enters columns) c.args.self.now c.enter.new.self (Ok found)) c.in-Some.is c.in_ok-has_static.ensures.told in
    let counts = subst (λ (f : Option Files). OverFile f c.args.file (λ bytes. CountsBlocks columns bytes 1) c.enter.new.self c.count_blocks.new.self (Err c.in_err-blocks.field-0.0))
    c.in_ok-has_static.ensures.files c.in_err-blocks.ensures.told in
    let is : c.from_residual-in_err-blocks.result ≡ Err c.in_err-blocks.field-0.0 = search rules in
    subst (λ (r : Result (Option PartitionSum) Refusal). OverFile files c.args.file (FindsPartition columns) c.args.self.now c.count_blocks.new.self r) (sym is)
    (finds_refusal columns c.args.file files c.args.self.now c.enter.new.self c.count_blocks.new.self c.in-Some.has_static c.in_err-blocks.field-0.0 enters counts)

pub returns-then-not-has_entry-clause-told : goal.returns-then-not-has_entry-clause-told
returns-then-not-has_entry-clause-told g c =
    let columns = columns_of c.args.schema.now in
    let files = g.K.Store.files c.args.store.now in
    let enters = subst (λ (found : Option Bool). OverFile files c.args.file (Enters columns) c.args.self.now c.enter.new.self (Ok found)) c.in-Some.is c.in_ok-has_static.ensures.told in
    let counts = subst (λ (f : Option Files). OverFile f c.args.file (λ bytes. CountsBlocks columns bytes 1) c.enter.new.self c.count_blocks.new.self (Ok c.in_ok-blocks.blocks))
    c.in_ok-has_static.ensures.files c.in_ok-blocks.ensures.told in
    let off : c.has_entry.result ≡ false = search rules in
    finds_empty columns c.args.file files c.args.self.now c.enter.new.self c.count_blocks.new.self c.in-Some.has_static c.in_ok-blocks.blocks c.clash_at.result enters counts
    (λ some. let apart : true ≡ false = sym (c.has_entry.ensures.1 some) ∙ off in cc) c.clash_at.ensures

pub returns-clause-told : goal.returns-clause-told
returns-clause-told g c =
    let columns = columns_of c.args.schema.now in
    let files = g.K.Store.files c.args.store.now in
    let enters = subst (λ (found : Option Bool). OverFile files c.args.file (Enters columns) c.args.self.now c.enter.new.self (Ok found)) c.in-Some.is c.in_ok-has_static.ensures.told in
    let counts = subst (λ (f : Option Files). OverFile f c.args.file (λ bytes. CountsBlocks columns bytes 1) c.enter.new.self c.count_blocks.new.self (Ok c.in_ok-blocks.blocks))
    c.in_ok-has_static.ensures.files c.in_ok-blocks.ensures.told in
    let on : c.has_entry.result ≡ true = search rules in
    finds_partition columns c.args.file files c.args.self.now c.enter.new.self c.count_blocks.new.self c.in-Some.has_static c.in_ok-blocks.blocks enters counts (c.has_entry.ensures.0 on)
