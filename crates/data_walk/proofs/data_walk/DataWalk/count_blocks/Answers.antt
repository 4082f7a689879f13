use Rattle.std.proofs.Common.{◌≡◌, ◌∙◌, ℕ, Option, None, Some, Ok, Err, sym, subst, Result, arith, rules}
use Rattle.outside.specs.Files.{Files}
use Rattle.key_types.specs.Columns.{columns_of}
use Rattle.data_walk.specs.declared.refusal.Refusal.{Refusal}
use Rattle.data_walk.specs.DataWalk.{CountsBlocks, FindsBlock, OverFile}
use Rattle.data_walk.proofs.Steps.{counted_block, counted_end, counted_stop}
use Rattle.data_walk.proofs.data_walk.DataWalk.count_blocks.Goals as goal

pub returns-in_err-next_block-clause-told : goal.returns-in_err-next_block-clause-told
returns-in_err-next_block-clause-told g c =
    let columns = columns_of c.args.schema.now in
    let files = g.K.Store.files c.args.store.now in
    let is : c.from_residual.result ≡ Err c.in_err-next_block.field-0.0 = search rules in
    let found = subst (λ (f : Option Files). OverFile f c.args.file (FindsBlock columns) c.counted.self c.next_block.new.self (Err c.in_err-next_block.field-0.0)) c.counted.invariant.same c.in_err-next_block.ensures.told in
    subst (λ (r : Result ℕ Refusal). OverFile files c.args.file (λ bytes. CountsBlocks columns bytes 1) c.args.self.now c.next_block.new.self r) (sym is)
    (counted_stop columns c.args.file files c.counted.blocks c.args.self.now c.counted.self c.next_block.new.self c.in_err-next_block.field-0.0 found c.counted.invariant.came)

pub counted-preserved : goal.counted-preserved
counted-preserved g c =
    let columns = columns_of c.args.schema.now in
    let files = g.K.Store.files c.args.store.now in
    let told = subst (λ (found : Option ℕ). OverFile (g.K.Store.files c.counted.store) c.args.file (FindsBlock columns) c.counted.self c.next_block.new.self (Ok found)) c.in-Some.is c.in_ok-next_block.ensures.told in
    let found = subst (λ (f : Option Files). OverFile f c.args.file (FindsBlock columns) c.counted.self c.next_block.new.self (Ok (Some c.in-Some.field-0))) c.counted.invariant.same told in
    record {
      came = counted_block columns c.args.file files c.counted.blocks c.in-Some.field-0 c.args.self.now c.counted.self c.next_block.new.self found c.counted.invariant.came;
      place = c.in_ok-next_block.ensures.place;
      few = omega (arith, c.counted.invariant.few, c.in_ok-next_block.ensures.on);
      key = c.in_ok-next_block.ensures.key ∙ c.counted.invariant.key;
      head = c.in_ok-next_block.ensures.head ∙ c.counted.invariant.head;
      on = omega (arith, c.counted.invariant.on, c.in_ok-next_block.ensures.on);
      limit = c.in_ok-next_block.ensures.limit ∙ c.counted.invariant.limit;
      same = c.in_ok-next_block.ensures.files ∙ c.counted.invariant.same;
      later = omega (arith, c.in_ok-next_block.ensures.later, c.counted.invariant.later);
    }

pub returns-in-None-clause-told : goal.returns-in-None-clause-told
returns-in-None-clause-told g c =
    let columns = columns_of c.args.schema.now in
    let files = g.K.Store.files c.args.store.now in
    let told = subst (λ (found : Option ℕ). OverFile (g.K.Store.files c.counted.store) c.args.file (FindsBlock columns) c.counted.self c.next_block.new.self (Ok found)) c.in-None.is c.in_ok-next_block.ensures.told in
    let found = subst (λ (f : Option Files). OverFile f c.args.file (FindsBlock columns) c.counted.self c.next_block.new.self (Ok None)) c.counted.invariant.same told in
    counted_end columns c.args.file files c.counted.blocks c.args.self.now c.counted.self c.next_block.new.self found c.counted.invariant.came
