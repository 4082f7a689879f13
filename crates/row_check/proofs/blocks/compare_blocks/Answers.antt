use Rattle.std.proofs.Common.{◌≡◌, ◌∙◌, ℕ, List, Option, IfSome, Result, Ok, Err, ap, sym, subst, arith, rules}
use Rattle.std.specs.Prelude.{⊤}
use Rattle.outside.specs.Files.{Files, bytes_of}
use Rattle.outside.specs.declared.store.FileId.{FileId}
use Rattle.outside.specs.declared.store.Part.TheVariants.{Rows}
use Rattle.key_types.specs.Columns.{columns_of}
use Rattle.bti_reader.specs.Walks.{last_given}
use Rattle.bti_reader.specs.Ways.{Progress}
use Rattle.data_walk.specs.declared.data_walk.DataWalk.{DataWalk}
use Rattle.data_walk.specs.declared.refusal.Refusal.{Refusal}
use Rattle.data_walk.specs.DataWalk.{FindsBlock, OverFile}
use Rattle.path_check.specs.Paths.{EndsPaths}
use Rattle.row_check.specs.Blocks.{ChecksBlock}
use Rattle.row_check.proofs.Compared.{BlocksFound, blocks_clash, blocks_end, blocks_stop, comes_on}
use Rattle.row_check.proofs.blocks.compare_blocks.Goals as goal

pub returns-in_err-offset-clause-told : goal.returns-in_err-offset-clause-told
returns-in_err-offset-clause-told g c =
    let columns = columns_of c.args.schema.now in
    let files = g.K.Store.files c.args.store.now in
    let start = c.args.walk.now in
    let first = c.args.paths.now in
    let at = c.offsets in
    let e : Refusal = c.in_err-offset.field-0.0 in
    let step = subst (λ (f : Option Files). OverFile f c.args.file (FindsBlock columns) at.walk c.next_block.new.self (Err e)) at.invariant.same c.in_err-offset.ensures.told in
    let is : c.from_residual.result ≡ Err e = search rules in
    subst (λ (r : Result ⊤ Refusal). BlocksFound columns c.args.file first.file c.args.root files start first r) (sym is)
    (blocks_stop columns c.args.file first.file c.args.root files start at.walk c.next_block.new.self first at.paths e step at.invariant.came)

pub offsets-preserved : goal.offsets-preserved
offsets-preserved g c =
    let columns = columns_of c.args.schema.now in
    let files = g.K.Store.files c.args.store.now in
    let start = c.args.walk.now in
    let first = c.args.paths.now in
    let at = c.offsets in
    let walk : DataWalk = c.next_block.new.self in
    let offset = c.in-Some.offset in
    let last = last_given at.paths.way in
    let given = last_given c.check_block.new.paths.way in
    let was = c.in_ok-offset.ensures in
    let unchanged = was.files ∙ at.invariant.same in
    let told = subst (λ (f : Option Files). OverFile f c.args.file (FindsBlock columns) at.walk walk (Ok c.in_ok-offset.field-0)) at.invariant.same was.told in
    let step = subst (λ (o : Option ℕ). OverFile files c.args.file (FindsBlock columns) at.walk walk (Ok o)) c.in-Some.is told in
    let there = subst (λ (f : Option Files). IfSome f (λ m. ChecksBlock (bytes_of m at.paths.file) c.args.root last c.as_slice-before.result.now c.as_slice-first.result.now offset given (Ok tt))) unchanged c.in_ok-check_block.ensures.told in
    let behind = subst (λ (b : List ℕ). IfSome files (λ m. ChecksBlock (bytes_of m at.paths.file) c.args.root last b c.as_slice-first.result.now offset given (Ok tt))) c.as_slice-before.ensures there in
    let own = subst (λ (b : List ℕ). IfSome files (λ m. ChecksBlock (bytes_of m at.paths.file) c.args.root last walk.before b offset given (Ok tt))) c.as_slice-first.ensures behind in
    let checks = subst (λ (f : FileId). IfSome files (λ m. ChecksBlock (bytes_of m f) c.args.root last walk.before walk.row offset given (Ok tt))) at.invariant.file own in
    record {
      came = comes_on columns c.args.file first.file c.args.root files start at.walk walk first at.paths c.check_block.new.paths offset step checks at.invariant.came;
      place = was.place;
      file = ap (λ (p : Progress). p.file) c.in_ok-check_block.ensures.same ∙ at.invariant.file;
      root = ap (λ (p : Progress). p.root) c.in_ok-check_block.ensures.same ∙ at.invariant.root;
      honest = c.in_ok-check_block.ensures.honest;
      stands = c.in_ok-check_block.ensures.stands;
      same = c.in_ok-check_block.ensures.files ∙ unchanged;
      later = omega (arith, c.in_ok-check_block.ensures.later, was.later, at.invariant.later);
    }

pub returns-in_err-check_block-clause-told : goal.returns-in_err-check_block-clause-told
returns-in_err-check_block-clause-told g c =
    let columns = columns_of c.args.schema.now in
    let files = g.K.Store.files c.args.store.now in
    let start = c.args.walk.now in
    let first = c.args.paths.now in
    let at = c.offsets in
    let walk : DataWalk = c.next_block.new.self in
    let offset = c.in-Some.offset in
    let last = last_given at.paths.way in
    let given = last_given c.check_block.new.paths.way in
    let e : Refusal = c.in_err-check_block.field-0.0 in
    let was = c.in_ok-offset.ensures in
    let unchanged = was.files ∙ at.invariant.same in
    let told = subst (λ (f : Option Files). OverFile f c.args.file (FindsBlock columns) at.walk walk (Ok c.in_ok-offset.field-0)) at.invariant.same was.told in
    let step = subst (λ (o : Option ℕ). OverFile files c.args.file (FindsBlock columns) at.walk walk (Ok o)) c.in-Some.is told in
    let there = subst (λ (f : Option Files). IfSome f (λ m. ChecksBlock (bytes_of m at.paths.file) c.args.root last c.as_slice-before.result.now c.as_slice-first.result.now offset given (Err e))) unchanged c.in_err-check_block.ensures.told in
    let behind = subst (λ (b : List ℕ). IfSome files (λ m. ChecksBlock (bytes_of m at.paths.file) c.args.root last b c.as_slice-first.result.now offset given (Err e))) c.as_slice-before.ensures there in
    let own = subst (λ (b : List ℕ). IfSome files (λ m. ChecksBlock (bytes_of m at.paths.file) c.args.root last walk.before b offset given (Err e))) c.as_slice-first.ensures behind in
    let checks = subst (λ (f : FileId). IfSome files (λ m. ChecksBlock (bytes_of m f) c.args.root last walk.before walk.row offset given (Err e))) at.invariant.file own in
    let is : c.from_residual-in_err-check_block.result ≡ Err e = search rules in
    subst (λ (r : Result ⊤ Refusal). BlocksFound columns c.args.file first.file c.args.root files start first r) (sym is)
    (blocks_clash columns c.args.file first.file c.args.root files start at.walk walk first at.paths c.check_block.new.paths offset e step checks at.invariant.came)

pub returns-clause-told : goal.returns-clause-told
returns-clause-told g c =
    let columns = columns_of c.args.schema.now in
    let files = g.K.Store.files c.args.store.now in
    let start = c.args.walk.now in
    let first = c.args.paths.now in
    let at = c.offsets in
    let walk : DataWalk = c.next_block.new.self in
    let last = last_given at.paths.way in
    let result : Result ⊤ Refusal = c.check_end.result in
    let unchanged = c.in_ok-offset.ensures.files ∙ at.invariant.same in
    let root : at.paths.root ≡ c.args.root = at.invariant.root ∙ c.requires.root in
    let told = subst (λ (f : Option Files). OverFile f c.args.file (FindsBlock columns) at.walk walk (Ok c.in_ok-offset.field-0)) at.invariant.same c.in_ok-offset.ensures.told in
    let step = subst (λ (o : Option ℕ). OverFile files c.args.file (FindsBlock columns) at.walk walk (Ok o)) c.in_default.is told in
    let there = subst (λ (f : Option Files). IfSome f (λ m. EndsPaths Rows (bytes_of m at.paths.file) at.paths.root last result)) unchanged c.check_end.ensures.told in
    let named = subst (λ (f : FileId). IfSome files (λ m. EndsPaths Rows (bytes_of m f) at.paths.root last result)) at.invariant.file there in
    let ends = subst (λ (n : ℕ). IfSome files (λ m. EndsPaths Rows (bytes_of m first.file) n last result)) root named in
    blocks_end columns c.args.file first.file c.args.root files start at.walk walk first at.paths result step ends at.invariant.came
