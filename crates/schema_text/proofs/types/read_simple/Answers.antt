use Rattle.schema_text.proofs.types.read_simple.Goals as goal

pub returns : goal.returns
returns c =
    let last = c.either-read.ensures _ _ c.word_type.ensures c.word_type-read.ensures in
    let texts = c.either-read-2.ensures _ _ c.word_type-2.ensures last in
    let bigs = c.either-read-3.ensures _ _ c.word_type-3.ensures texts in
    let ints = c.either-read-4.ensures _ _ c.word_type-4.ensures bigs in
    let smalls = c.either-read-5.ensures _ _ c.word_type-5.ensures ints in
    c.either.ensures _ _ c.word_type-6.ensures smalls
