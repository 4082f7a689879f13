use Rattle.std.proofs.Common.{ℕ, List, Ok, Err, take, arith, refl, sym, subst}
use Rattle.std.proofs.lemmas.Result.{err_from_is_err_and}
use Rattle.bti_nodes.specs.declared.damage.PackError.{PackError}
use Rattle.page_packer.specs.Packing.{AppendsSome, Packing}
use Rattle.page_packer.specs.Packs.{Packs, Takes}
use Rattle.row_index.specs.Writing.{block_of}
use Rattle.row_index.proofs.Written.{block_appended, block_is, block_packed, count_few, next_rows, takes_block}
use Rattle.row_index.proofs.writer.RowWriter.add.Goals as goal

pub add-requires-clause-key : goal.add-requires-clause-key
add-requires-clause-key g c =
    let block = block_is c.args.last_before.now c.args.first.now c.args.offset c.type_inv.first c.requires.above c.requires.some c.requires.few in
    let takes = takes_block c.args.self.now c.requires.block.0 (block_of c.args.last_before.now c.args.first.now c.args.offset) c.requires.block.1 block in
    subst (λ (n : ℕ). Takes c.args.self.now.packer (take n c.args.first.now)) (sym c.separator_len-separator.ensures.size) takes

pub returns-in_err-add-clause-added : goal.returns-in_err-add-clause-added
returns-in_err-add-clause-added g c =
    let old = g.K.Store.files c.args.store.now in
    let new = g.K.Store.files c.add.new.store in
    let p = err_from_is_err_and c.from_residual.result c.from_residual.ensures.1 in
    rw (p.1, p.2) (record {
      writes = tt;
      appends = λ w h.
          subst (λ (bytes : List ℕ). AppendsSome {T = Unit {0}} {E = PackError} old new w.file (Err c.in_err-add.field-0.0) bytes)
          (block_appended w c.args.last_before.now c.args.first.now c.args.offset _ _ c.separator_len-separator.ensures.size c.unsigned_payload.ensures.bytes)
          (c.in_err-add.ensures.added.appends _ h.packs);
    })

pub overflow_add-self : goal.overflow_add-self
overflow_add-self g c = omega (arith, count_few c.args.self.now c.requires.block.0 c.requires.block.1.writes)

pub returns-clause-added : goal.returns-clause-added
returns-clause-added g c =
    let old = g.K.Store.files c.args.store.now in
    let new = g.K.Store.files c.add.new.store in
    let block = block_is c.args.last_before.now c.args.first.now c.args.offset c.type_inv.first c.requires.above c.requires.some c.requires.few in
    record {
      writes = λ w h.
          next_rows c.args.self.now _ w (block_of c.args.last_before.now c.args.first.now c.args.offset) h block refl refl
          (subst (λ (p : Packing). Packs c.add.new.self p)
          (block_packed w c.args.last_before.now c.args.first.now c.args.offset _ _ c.separator_len-separator.ensures.size c.unsigned_payload.ensures.bytes)
          (c.in_ok-add.ensures.added.packs _ h.writes.packs));
      appends = λ w h.
          subst (λ (bytes : List ℕ). AppendsSome {T = Unit {0}} {E = PackError} old new w.file (Ok tt) bytes)
          (block_appended w c.args.last_before.now c.args.first.now c.args.offset _ _ c.separator_len-separator.ensures.size c.unsigned_payload.ensures.bytes)
          (c.in_ok-add.ensures.added.appends _ h.packs);
    }
