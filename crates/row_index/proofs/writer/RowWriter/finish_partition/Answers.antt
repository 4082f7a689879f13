use Rattle.std.proofs.Common.{rules, ◌≡◌, ◌+◌, ℕ, List, Result, Ok, arith, refl, subst, ◌∙◌}
use Rattle.outside.specs.Files.{Appends}
use Rattle.outside.specs.declared.store.FileId.{FileId}
use Rattle.outside.proofs.Sets.{appended_as, nothing_appended}
use Rattle.bti_nodes.specs.declared.damage.PackError.{PackError}
use Rattle.page_packer.specs.Packing.{laid}
use Rattle.row_index.specs.File.{row_entry}
use Rattle.row_index.specs.Writing.{begun_packing, block_list}
use Rattle.row_index.proofs.Written.{any_some, count_few, entry_ended, entry_is, packs_as, next_partition, partition_appended, partition_failed}
use Rattle.row_index.proofs.writer.RowWriter.finish_partition.Goals as goal

pub overflow_add-self : goal.overflow_add-self
overflow_add-self g c = omega (arith, count_few c.args.self.now c.requires.some.0 c.requires.some.1)

pub overflow_add-trie : goal.overflow_add-trie
overflow_add-trie g c =
    let ended =
    entry_ended c.args.self.now c.replace.result c.requires.some.0 c.args.partition.now c.args.data_at c.in_ok-trie.trie.root c.in_ok-trie.trie.end c.in_ok-entry.entry
    c.requires.some.1 c.requires.some.2 c.requires.string (search rules) c.replace.ensures.value c.in_ok-trie.ensures.end c.in_ok-entry.ensures in
    omega (arith, ended.short, c.len.ensures)

pub new-requires : goal.new-requires
new-requires g c =
    let ended =
    entry_ended c.args.self.now c.replace.result c.requires.some.0 c.args.partition.now c.args.data_at c.in_ok-trie.trie.root c.in_ok-trie.trie.end c.in_ok-entry.entry
    c.requires.some.1 c.requires.some.2 c.requires.string (search rules) c.replace.ensures.value c.in_ok-trie.ensures.end c.in_ok-entry.ensures in
    omega (arith, ended.short, c.len.ensures)

pub returns-clause-at : goal.returns-clause-at
returns-clause-at g c = λ w h. c.in_ok-trie.ensures.end (begun_packing w) (packs_as c.replace.result c.args.self.now.packer w c.replace.ensures.value h.packs)

pub returns-clause-short : goal.returns-clause-short
returns-clause-short g c =
    let ended =
    entry_ended c.args.self.now c.replace.result c.requires.some.0 c.args.partition.now c.args.data_at c.in_ok-trie.trie.root c.in_ok-trie.trie.end c.in_ok-entry.entry
    c.requires.some.1 c.requires.some.2 c.requires.string (search rules) c.replace.ensures.value c.in_ok-trie.ensures.end c.in_ok-entry.ensures in
    omega (arith, ended.short)

pub returns-clause-done : goal.returns-clause-done
returns-clause-done g c =
    λ w h.
    let some = any_some c.args.self.now c.requires.some.0 w c.requires.some.1 c.requires.some.2 h in
    let ended =
    entry_ended c.args.self.now c.replace.result w c.args.partition.now c.args.data_at c.in_ok-trie.trie.root c.in_ok-trie.trie.end c.in_ok-entry.entry h some c.requires.string
    (search rules) c.replace.ensures.value c.in_ok-trie.ensures.end c.in_ok-entry.ensures in
    next_partition c.args.self.now _ w c.args.partition.now c.args.data_at (c.in_ok-trie.trie.end + c.len.result) h some c.requires.string (search rules) refl refl c.new.ensures
    (omega (arith, ended.behind, c.len.ensures))

pub returns-in_err-trie-clause-written : goal.returns-in_err-trie-clause-written
returns-in_err-trie-clause-written g c =
    λ w h.
    let packs = packs_as c.replace.result c.args.self.now.packer w c.replace.ensures.value h.packs in
    partition_failed (g.K.Store.files c.args.store.now) (g.K.Store.files c.finish.new.store) w c.args.partition.now c.args.data_at c.finish.result c.from_residual.result h.fine
    (search rules) (search rules) (c.finish.ensures.written (begun_packing w) packs)

pub returns-in_err-entry-clause-written : goal.returns-in_err-entry-clause-written
returns-in_err-entry-clause-written g c =
    λ w h.
    let old = g.K.Store.files c.args.store.now in
    let mid = g.K.Store.files c.finish.new.store in
    let packs = packs_as c.replace.result c.args.self.now.packer w c.replace.ensures.value h.packs in
    partition_appended PackError old mid mid w c.args.partition.now c.args.data_at c.in_ok-trie.trie c.from_residual-in_err-entry.result h.fine
    (c.in_ok-trie.ensures.written (begun_packing w) packs)
    (nothing_appended mid w.file c.from_residual-in_err-entry.result _ (search rules))

pub returns-in_err-append-clause-written : goal.returns-in_err-append-clause-written
returns-in_err-append-clause-written g c =
    λ w h.
    let old = g.K.Store.files c.args.store.now in
    let mid = g.K.Store.files c.finish.new.store in
    let new = g.K.Store.files c.append.new.self in
    let packs = packs_as c.replace.result c.args.self.now.packer w c.replace.ensures.value h.packs in
    let entry = row_entry (block_list w c.args.partition.now c.args.data_at) (laid (begun_packing w)).root in
    let is : c.as_slice.result.now ≡ entry =
    c.as_slice.ensures ∙ c.in_ok-entry.ensures ∙ entry_is c.args.self.now w c.args.partition.now c.args.data_at c.in_ok-trie.trie.root h (c.in_ok-trie.ensures.root (begun_packing w) packs) in
    let last = subst (λ (bytes : List ℕ). Appends mid new c.args.self.now.file c.append.result bytes) is c.append.ensures.bytes in
    let here = subst (λ (f : FileId). Appends mid new f c.append.result entry) h.file last in
    partition_appended PackError old mid new w c.args.partition.now c.args.data_at c.in_ok-trie.trie _ h.fine (c.in_ok-trie.ensures.written (begun_packing w) packs)
    (appended_as mid new w.file c.append.result c.from_residual-in_err-append.result entry (search rules) here)

pub returns-clause-written : goal.returns-clause-written
returns-clause-written g c =
    λ w h.
    let old = g.K.Store.files c.args.store.now in
    let mid = g.K.Store.files c.finish.new.store in
    let new = g.K.Store.files c.append.new.self in
    let packs = packs_as c.replace.result c.args.self.now.packer w c.replace.ensures.value h.packs in
    let entry = row_entry (block_list w c.args.partition.now c.args.data_at) (laid (begun_packing w)).root in
    let is : c.as_slice.result.now ≡ entry =
    c.as_slice.ensures ∙ c.in_ok-entry.ensures ∙ entry_is c.args.self.now w c.args.partition.now c.args.data_at c.in_ok-trie.trie.root h (c.in_ok-trie.ensures.root (begun_packing w) packs) in
    let last = subst (λ (bytes : List ℕ). Appends mid new c.args.self.now.file c.append.result bytes) is c.append.ensures.bytes in
    let here = subst (λ (f : FileId). Appends mid new f c.append.result entry) h.file last in
    let answer : Result ℕ PackError = Ok c.in_ok-trie.trie.end in
    partition_appended PackError old mid new w c.args.partition.now c.args.data_at c.in_ok-trie.trie answer h.fine (c.in_ok-trie.ensures.written (begun_packing w) packs)
    (appended_as mid new w.file c.append.result answer entry (search rules) here)
