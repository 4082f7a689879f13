-- The words of a record, read back as the value's bytes.
use Rattle.std.proofs.Common.{◌≡◌, ℕ, suc, ◌+◌, ◌*◌, ◌/◌, ◌%◌, ◌<◌, length, take, drop, slice_index, Some, sym, ap, ◌∙◌, arith}
use Rattle.std.proofs.lemmas.List.{get_or-drop, get_or-take}
use Rattle.cell_layout.specs.Words.{byte_of}
use Rattle.cell_layout.specs.Cells.{number_of_bytes, record_word}
use Rattle.cell_layout.proofs.CellBytes.{byte_of_number, bytes_taken, bytes_dropped}
use Rattle.trie_image.specs.declared.Owner.TheVariants.{RecordCell}
use Rattle.trie_image.specs.declared.Put.{Put}
use Rattle.trie_image.specs.Paths.{owner}
use Rattle.trie_image.specs.Laws.{LawRecordWord}
use Rattle.trie_image.proofs.Kept.{own_inside}

pub record_words : LawRecordWord
record_words w g cells n i put ok at more =
    let own : owner g (put.cell + (1 + i) / 4) ≡ Some (RecordCell n ((1 + i) / 4)) = ok.puts.records n ((1 + i) / 4) put at (omega arith) in
    let inside : put.cell + (1 + i) / 4 < length g.owners = own_inside g.owners (put.cell + (1 + i) / 4) (RecordCell n ((1 + i) / 4)) own in
    let cell = ok.image.each (put.cell + (1 + i) / 4) (RecordCell n ((1 + i) / 4)) own in
    let both : Some cell.0 ≡ Some put = sym cell.1 ∙ at in let is_put : cell.0 ≡ put = cc in
    let here : 4 * (put.cell + (1 + i) / 4) + (1 + i) % 4 ≡ 4 * put.cell + 1 + i = omega arith in
    let index : 4 * ((1 + i) / 4) + (1 + i) % 4 ≡ suc i = omega arith in
    let word : slice_index w (4 * put.cell + 1 + i) ≡ number_of_bytes (take 8 (drop (8 * i) put.value)) =
    ap (λ (k : ℕ). slice_index w k) (sym here) ∙ (cell.2.words ((1 + i) % 4) (omega arith) ∙ (ap (λ (k : ℕ). record_word (n + 1) (cell.0).value k) index ∙ ap (λ (p : Put). number_of_bytes (take 8 (drop (8 * i) p.value))) is_put)) in
    let value = ok.puts.values n put at in (
      omega (arith, ok.image.size, ok.image.capacity),
      λ j l. ap (λ (x : ℕ). byte_of x j) word ∙ (byte_of_number (take 8 (drop (8 * i) put.value)) j l (bytes_taken 8 (drop (8 * i) put.value) (bytes_dropped (8 * i) put.value value.1)) ∙ (get_or-take 8 (drop (8 * i) put.value) j 0 l ∙ get_or-drop (8 * i) put.value j 0)),
    )
