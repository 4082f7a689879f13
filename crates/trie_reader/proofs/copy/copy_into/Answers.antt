use Rattle.std.proofs.Common.{◌*◌, subst, ◌∙◌, arith}
use Rattle.trie_rule.specs.Seats.{ReaderAt}
use Rattle.trie_reader.specs.Read.{IsPieceOf}
use Rattle.trie_reader.proofs.Copies.{copies_on, copied_all}
use Rattle.trie_reader.proofs.copy.copy_into.Goals as goal

pub returns-clause-value : goal.returns-clause-value
returns-clause-value g c = λ n put is.
    copied_all c.args.seat.now.knows.seen c.args.rec c.words.out (8 * c.words.place) n put c.words.invariant.copying is c.words.invariant.size (omega (arith, c.words-test.false))

pub words-preserved : goal.words-preserved
words-preserved g c =
    let i = c.words.invariant in let p = c.load_piece-word.ensures in let w = c.write_word.ensures in
    let piece = subst (λ (s : ReaderAt). IsPieceOf s.knows.seen c.args.rec c.words.place c.load_piece-word.result) i.same p.piece in
    record {
      same = p.same ∙ i.same;
      size = w.size ∙ i.size;
      copying = copies_on c.args.seat.now.knows.seen c.args.rec c.words.out c.write_word.new.out c.words.place c.load_piece-word.result i.copying piece i.size w.before w.bytes;
      steps = omega (arith, p.step, i.steps);
    }
