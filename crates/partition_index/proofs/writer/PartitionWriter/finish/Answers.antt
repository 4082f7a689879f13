use Rattle.std.proofs.Common.{rules, Ok, ◌≡◌, ℕ, List, Result, length, arith, ap, subst, ◌∙◌}
use Rattle.outside.proofs.Sets.{appended_as, nothing_appended}
use Rattle.outside.specs.Files.{Appends}
use Rattle.outside.specs.declared.store.FileId.{FileId}
use Rattle.bti_nodes.specs.declared.damage.PackError.{PackError}
use Rattle.partition_index.proofs.Ended.{ending_is, ending_of, file_appended, file_failed, last_fits}
use Rattle.partition_index.proofs.writer.PartitionWriter.finish.Goals as goal

pub ending-requires-clause-last : goal.ending-requires-clause-last
ending-requires-clause-last g c = omega (arith, ap (λ (xs : List ℕ). length xs) c.as_slice-2.ensures, last_fits c.args.self c.requires.0 c.requires.1)

pub returns-in_err-trie-clause-written : goal.returns-in_err-trie-clause-written
returns-in_err-trie-clause-written g c =
    λ w h.
    file_failed (g.K.Store.files c.args.store.now) (g.K.Store.files c.pack_all.new.store) w.file w.partitions c.pack_all.result c.from_residual.result h.trie.fine
    (search rules) (search rules) (c.pack_all.ensures.written w h.trie)

pub returns-in_err-end-clause-written : goal.returns-in_err-end-clause-written
returns-in_err-end-clause-written g c =
    λ w h.
    let old = g.K.Store.files c.args.store.now in
    let mid = g.K.Store.files c.pack_all.new.store in
    file_appended PackError old mid mid w.file w.partitions c.in_ok-trie.trie c.from_residual-in_err-end.result h.trie.fine (c.in_ok-trie.ensures.written w h.trie)
    (nothing_appended mid w.file c.from_residual-in_err-end.result (ending_of w.partitions) (search rules))

pub returns-in_err-append-clause-written : goal.returns-in_err-append-clause-written
returns-in_err-append-clause-written g c =
    λ w h.
    let old = g.K.Store.files c.args.store.now in
    let mid = g.K.Store.files c.pack_all.new.store in
    let new = g.K.Store.files c.append.new.self in
    let stands = c.in_ok-trie.ensures.trie w h.trie in
    let is : c.as_slice-3.result.now ≡ ending_of w.partitions = c.as_slice-3.ensures ∙ c.in_ok-end.ensures ∙ ending_is c.args.self w c.as_slice.result.now c.as_slice-2.result.now c.in_ok-trie.trie.end c.in_ok-trie.trie.root h c.as_slice.ensures c.as_slice-2.ensures stands.0 stands.1 in
    let last = subst (λ (bytes : List ℕ). Appends mid new c.args.self.file c.append.result bytes) is c.append.ensures.bytes in
    let here = subst (λ (f : FileId). Appends mid new f c.append.result (ending_of w.partitions)) h.file last in
    file_appended PackError old mid new w.file w.partitions c.in_ok-trie.trie _ h.trie.fine (c.in_ok-trie.ensures.written w h.trie)
    (appended_as mid new w.file c.append.result _ (ending_of w.partitions) (search rules) here)

pub returns-clause-written : goal.returns-clause-written
returns-clause-written g c =
    λ w h.
    let old = g.K.Store.files c.args.store.now in
    let mid = g.K.Store.files c.pack_all.new.store in
    let new = g.K.Store.files c.append.new.self in
    let stands = c.in_ok-trie.ensures.trie w h.trie in
    let is : c.as_slice-3.result.now ≡ ending_of w.partitions = c.as_slice-3.ensures ∙ c.in_ok-end.ensures ∙ ending_is c.args.self w c.as_slice.result.now c.as_slice-2.result.now c.in_ok-trie.trie.end c.in_ok-trie.trie.root h c.as_slice.ensures c.as_slice-2.ensures stands.0 stands.1 in
    let last = subst (λ (bytes : List ℕ). Appends mid new c.args.self.file c.append.result bytes) is c.append.ensures.bytes in
    let here = subst (λ (f : FileId). Appends mid new f c.append.result (ending_of w.partitions)) h.file last in
    let answer : Result (Unit {0}) PackError = Ok tt in
    file_appended PackError old mid new w.file w.partitions c.in_ok-trie.trie answer h.trie.fine (c.in_ok-trie.ensures.written w h.trie)
    (appended_as mid new w.file c.append.result answer (ending_of w.partitions) (search rules) here)
