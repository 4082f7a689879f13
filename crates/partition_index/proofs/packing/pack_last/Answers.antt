use Rattle.std.proofs.Common.{rules, ◌≡◌, ℕ, List, take, sym, subst}
use Rattle.std.specs.Prelude.{option_copied}
use Rattle.bti_nodes.specs.Payloads.{signed_bytes}
use Rattle.bti_nodes.specs.Spelling.{bytes_in}
use Rattle.page_packer.specs.Packs.{AddsEntry, Takes}
use Rattle.partition_index.proofs.Written.{packed_key}
use Rattle.partition_index.proofs.packing.pack_last.Goals as goal

pub add-requires-clause-key : goal.add-requires-clause-key
add-requires-clause-key g c =
    let last = c.as_slice-last.result.now in
    let key = packed_key c.args.newest.now last _ (option_copied c.args.next) c.unique_len-unique.result c.as_slice-last.ensures c.before-2.ensures c.unique_len-unique.ensures.size in
    subst (λ (k : List ℕ). Takes c.args.packer.now k) (sym key) c.requires.key

pub returns-clause-added : goal.returns-clause-added
returns-clause-added g c =
    let old = g.K.Store.files c.args.store.now in
    let new = g.K.Store.files c.add.new.store in
    let last = c.as_slice-last.result.now in
    let key = packed_key c.args.newest.now last _ (option_copied c.args.next) c.unique_len-unique.result c.as_slice-last.ensures c.before-2.ensures c.unique_len-unique.ensures.size in
    let spelled : bytes_in c.signed_payload.result ≡ signed_bytes c.args.newest.now.number = search rules in
    subst (λ (k : List ℕ). AddsEntry c.args.packer.now c.add.new.self old new c.add.result k (signed_bytes c.args.newest.now.number)) key
    (subst (λ (v : List ℕ). AddsEntry c.args.packer.now c.add.new.self old new c.add.result (take c.unique_len-unique.result last) v) spelled c.add.ensures.added)
