use Rattle.std.proofs.Common.{rules, ℕ, ◌+◌, List, Result, Ok, length, refl, sym, ◌∙◌, ap, subst, arith}
use Rattle.outside.specs.declared.store.FileId.{FileId}
use Rattle.outside.specs.Files.{Appends}
use Rattle.bti_nodes.specs.declared.damage.PackError.{PackError}
use Rattle.page_packer.specs.declared.packer.Packed.{Packed}
use Rattle.page_packer.specs.Edge.{closes}
use Rattle.page_packer.specs.Packing.{last_bytes}
use Rattle.page_packer.specs.Levels.{tree_in}
use Rattle.page_packer.specs.Packs.{frontier_of}
use Rattle.page_packer.proofs.Streamed.{ready, ready_full, ends}
use Rattle.page_packer.proofs.packer.Packer.finish.Goals as goal

pub close_all-requires-clause-levels : goal.close_all-requires-clause-levels
close_all-requires-clause-levels g c =
    let s = c.args.self in
    let es = c.requires.packing.entries in
    let h = c.requires.packs in
    let t = tree_in s.held in
    let ls = s.levels.items in
    let r = ready (frontier_of s) es ls t h.reached refl in
    r.levels

pub close_all-requires-clause-sound : goal.close_all-requires-clause-sound
close_all-requires-clause-sound g c =
    let s = c.args.self in
    let es = c.requires.packing.entries in
    let h = c.requires.packs in
    let t = tree_in s.held in
    let ls = s.levels.items in
    let r = ready (frontier_of s) es ls t h.reached refl in
    r.sound

pub close_all-requires-clause-weighed : goal.close_all-requires-clause-weighed
close_all-requires-clause-weighed g c = c.requires.packs.weighed

pub close_all-requires-clause-full : goal.close_all-requires-clause-full
close_all-requires-clause-full g c =
    let s = c.args.self in
    let es = c.requires.packing.entries in
    let h = c.requires.packs in
    let t = tree_in s.held in
    let ls = s.levels.items in
    let r = ready (frontier_of s) es ls t h.reached refl in
    ready_full (frontier_of s) es ls t h.reached c.requires.some refl

pub close_all-requires-clause-few : goal.close_all-requires-clause-few
close_all-requires-clause-few g c =
    let s = c.args.self in
    let es = c.requires.packing.entries in
    let h = c.requires.packs in
    let t = tree_in s.held in
    let ls = s.levels.items in
    let r = ready (frontier_of s) es ls t h.reached refl in
    omega (arith, r.count_, h.reached.few, h.reached.bytes)

pub close_all-requires-clause-start : goal.close_all-requires-clause-start
close_all-requires-clause-start g c =
    let s = c.args.self in
    let es = c.requires.packing.entries in
    let h = c.requires.packs in
    let t = tree_in s.held in
    let ls = s.levels.items in
    let r = ready (frontier_of s) es ls t h.reached refl in
    omega (arith, r.near, h.place)

pub close_all-requires-clause-room : goal.close_all-requires-clause-room
close_all-requires-clause-room g c =
    let s = c.args.self in
    let es = c.requires.packing.entries in
    let h = c.requires.packs in
    let t = tree_in s.held in
    let ls = s.levels.items in
    let r = ready (frontier_of s) es ls t h.reached refl in
    omega (arith, r.room)

pub overflow_add-result : goal.overflow_add-result
overflow_add-result g c =
    let s = c.args.self in
    let es = c.requires.packing.entries in
    let h = c.requires.packs in
    let t = tree_in s.held in
    let ls = s.levels.items in
    let r = ready (frontier_of s) es ls t h.reached refl in
    omega (arith, r.near, h.place, r.room, c.len.ensures, ap (λ (x : List ℕ). length x) c.in_ok-root.ensures.bytes)

pub returns-clause-root : goal.returns-clause-root
returns-clause-root g c = λ p k. c.in_ok-root.ensures.root ∙ sym (ends (frontier_of c.args.self) p.entries p.start k.reached k.start).root

pub returns-clause-end : goal.returns-clause-end
returns-clause-end g c =
    λ p k.
    let e = ends (frontier_of c.args.self) p.entries p.start k.reached k.start in
    omega (arith, e.long, c.len.ensures, ap (λ (x : List ℕ). length x) c.in_ok-root.ensures.bytes)

pub returns-clause-written : goal.returns-clause-written
returns-clause-written g c =
    λ p k.
    let s = c.args.self in
    let e = ends (frontier_of s) p.entries p.start k.reached k.start in
    let files = g.K.Store.files c.args.store.now in
    let now = g.K.Store.files c.append.new.self in
    let answer : Result Packed PackError = Ok (record { root = c.in_ok-root.root; end = s.end_ + c.len.result }) in
    let w : Appends {T = Packed} {E = PackError} files now s.file answer (closes (frontier_of s).edge s.end_).bytes = search rules in
    subst (λ (f : FileId). Appends {T = Packed} {E = PackError} files now f answer (last_bytes p)) k.file
    (subst (λ (b : List ℕ). Appends {T = Packed} {E = PackError} files now s.file answer b) e.bytes w)

pub returns-in_err-append-clause-written : goal.returns-in_err-append-clause-written
returns-in_err-append-clause-written g c =
    λ p k.
    let s = c.args.self in
    let e = ends (frontier_of s) p.entries p.start k.reached k.start in
    let files = g.K.Store.files c.args.store.now in
    let now = g.K.Store.files c.append.new.self in
    let w : Appends {T = Packed} {E = PackError} files now s.file c.from_residual-in_err-append.result (closes (frontier_of s).edge s.end_).bytes = search rules in
    subst (λ (f : FileId). Appends {T = Packed} {E = PackError} files now f c.from_residual-in_err-append.result (last_bytes p)) k.file
    (subst (λ (b : List ℕ). Appends {T = Packed} {E = PackError} files now s.file c.from_residual-in_err-append.result b) e.bytes w)
