use Rattle.std.proofs.Common.{◌≡◌, ◌+◌, length, ap, arith}
use Rattle.bti_nodes.specs.Spelling.{bytes_in}
use Rattle.page_packer.specs.Edge.{and_stood}
use Rattle.page_packer.proofs.Closed.{level_before, level_fits, level_node}
use Rattle.page_packer.proofs.edge.close_level.Goals as goal

pub close_in_page-requires-clause-before : goal.close_in_page-requires-clause-before
close_in_page-requires-clause-before c =
    let l = c.args.level in
    let at = c.args.start + c.len.result in
    let kids : c.push.new.self.items ≡ and_stood l.done.items l.byte c.args.last = c.in_ok-push.ensures.items in
    let at_is : at ≡ c.args.start + length c.args.work.now.out = ap (λ n. c.args.start + n) c.len.ensures in
    let paid : c.payload_bytes.result.now ≡ bytes_in l.payload = c.payload_bytes.ensures.bytes in
    level_before l c.args.start at c.args.last c.push.new.self.items c.requires.levels kids c.requires.low (omega (arith, at_is, c.requires.high))

pub close_in_page-requires-clause-fits : goal.close_in_page-requires-clause-fits
close_in_page-requires-clause-fits c =
    let l = c.args.level in
    let at = c.args.start + c.len.result in
    let kids : c.push.new.self.items ≡ and_stood l.done.items l.byte c.args.last = c.in_ok-push.ensures.items in
    let at_is : at ≡ c.args.start + length c.args.work.now.out = ap (λ n. c.args.start + n) c.len.ensures in
    let paid : c.payload_bytes.result.now ≡ bytes_in l.payload = c.payload_bytes.ensures.bytes in
    level_fits l c.args.start at c.args.last c.payload_bytes.result.now c.push.new.self.items c.requires.levels paid kids

pub close_in_page-requires-clause-node : goal.close_in_page-requires-clause-node
close_in_page-requires-clause-node c =
    let l = c.args.level in
    let at = c.args.start + c.len.result in
    let kids : c.push.new.self.items ≡ and_stood l.done.items l.byte c.args.last = c.in_ok-push.ensures.items in
    let at_is : at ≡ c.args.start + length c.args.work.now.out = ap (λ n. c.args.start + n) c.len.ensures in
    let paid : c.payload_bytes.result.now ≡ bytes_in l.payload = c.payload_bytes.ensures.bytes in
    λ room few. level_node l c.args.start at c.args.last room c.payload_bytes.result.now c.push.new.self.items c.requires.levels paid kids c.requires.low (omega (arith, at_is, c.requires.high)) (omega (arith, at_is, few, c.requires.room))
