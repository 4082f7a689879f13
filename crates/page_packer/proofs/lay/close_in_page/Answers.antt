use Rattle.std.proofs.Common.{◌≡◌, ◌+◌, take, drop, map, ◌∙◌, ap, arith}
use Rattle.page_packer.specs.Layout.{gap, seen_from}
use Rattle.page_packer.proofs.Laid.{later, node_size_is, alone_bytes, alone_root}
use Rattle.page_packer.proofs.lay.close_in_page.Goals as goal

pub gap-room-requires : goal.gap-room-requires
gap-room-requires c =
    let kids = drop c.args.base c.args.work.now.stood.items in
    let given : c.split_at.result.1.now ≡ kids = c.split_at.ensures.back ∙ ap (drop c.args.base) c.as_slice.ensures.value in
    let size = node_size_is c.args.payload.now kids c.args.at c.outline_size-size.result c.as_slice-2.result.now c.outline_of.result
    (c.as_slice-2.ensures.value ∙ c.in_ok-see.ensures ∙ ap (map (seen_from c.args.at)) given) c.outline_of.ensures c.outline_size-size.ensures.value in
    omega (arith, size, c.requires.fits)

pub close-requires-clause-before : goal.close-requires-clause-before
close-requires-clause-before c =
    later c.args.at (c.args.at + c.gap-room.result) (drop c.args.base c.args.work.now.stood.items) (omega arith) c.requires.before

pub returns-clause-bytes : goal.returns-clause-bytes
returns-clause-bytes c =
    let kids = drop c.args.base c.args.work.now.stood.items in
    let given : c.split_at.result.1.now ≡ kids = c.split_at.ensures.back ∙ ap (drop c.args.base) c.as_slice.ensures.value in
    let size = node_size_is c.args.payload.now kids c.args.at c.outline_size-size.result c.as_slice-2.result.now c.outline_of.result
    (c.as_slice-2.ensures.value ∙ c.in_ok-see.ensures ∙ ap (map (seen_from c.args.at)) given) c.outline_of.ensures c.outline_size-size.ensures.value in
    alone_bytes c.args.work.now.out c.put_zeros.new.out c.close.new.work.out c.args.payload.now kids c.args.at c.gap-room.result (c.gap-room.ensures.value ∙ ap (gap c.args.at) size) c.in_ok-put_zeros.ensures c.in_ok-close.ensures.bytes

pub returns-clause-stood : goal.returns-clause-stood
returns-clause-stood c =
    let kids = drop c.args.base c.args.work.now.stood.items in
    let given : c.split_at.result.1.now ≡ kids = c.split_at.ensures.back ∙ ap (drop c.args.base) c.as_slice.ensures.value in
    let size = node_size_is c.args.payload.now kids c.args.at c.outline_size-size.result c.as_slice-2.result.now c.outline_of.result
    (c.as_slice-2.ensures.value ∙ c.in_ok-see.ensures ∙ ap (map (seen_from c.args.at)) given) c.outline_of.ensures c.outline_size-size.ensures.value in
    alone_root (take c.args.base c.args.work.now.stood.items) c.push.new.self.items c.args.payload.now kids c.args.at c.gap-room.result c.args.byte (c.gap-room.ensures.value ∙ ap (gap c.args.at) size)
    (rw (← c.in_ok-close.ensures.stood) c.in_ok-push.ensures.items)
