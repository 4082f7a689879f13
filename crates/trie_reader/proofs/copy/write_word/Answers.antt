use Rattle.std.proofs.Common.{ℕ, ◌≡◌, ◌<◌, List, length, take, slice_index, ap, ◌∙◌, arith}
use Rattle.std.specs.Int.{w64, to_le_bytes}
use Rattle.std.proofs.lemmas.List.{get_or-take, length-take-le}
use Rattle.trie_reader.proofs.Copies.{byte_written, part_written}
use Rattle.trie_reader.proofs.copy.write_word.Goals as goal

pub returns-clause-bytes : goal.returns-clause-bytes
returns-clause-bytes c = λ i small inside.
    let count = c.min-count.result in
    let bytes : List ℕ = to_le_bytes w64 c.args.word in
    let part : c.copy_from_slice.new.self ≡ take count bytes = c.copy_from_slice.ensures.after ∙ ap (take count) c.to_le_bytes-bytes.ensures in
    let less : i < count = omega (arith, small, inside, c.min-count.ensures) in
    let size : length c.copy_from_slice.new.self ≡ count = ap (λ (l : List ℕ). length l) part ∙ length-take-le count bytes (omega (arith, c.min-count.ensures)) in
    part_written c.args.at i c.args.out.now c.copy_from_slice.new.self _ (omega (arith, c.requires)) (omega (arith, less, size))
    ∙ ap (λ (l : List ℕ). slice_index l i) part ∙ get_or-take count bytes i 0 less ∙ byte_written c.args.word i small
