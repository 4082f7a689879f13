use Rattle.std.proofs.Common.{◌≡◌, ◌^◌, ap, arith}
use Rattle.bti_nodes.specs.declared.outline.Outline.{Outline}
use Rattle.bti_nodes.specs.Spelling.{greatest, first_letter, last_letter}
use Rattle.bti_nodes.proofs.Rows.{all_within, row_within, last_from}
use Rattle.bti_nodes.proofs.encode.put_body.Goals as goal

pub put_sparse-requires-clause-fits : goal.put_sparse-requires-clause-fits
put_sparse-requires-clause-fits c =
    let same : c.args.o.now.greatest ≡ greatest c.args.children.now = ap (λ (o : Outline). o.greatest) c.requires.outline in
    all_within c.args.children.now (2 ^ c.args.kind.width) (omega (arith, same, c.requires.fits))

pub put_dense-requires-clause-last : goal.put_dense-requires-clause-last
put_dense-requires-clause-last c =
    let first : c.args.o.now.first ≡ first_letter c.args.children.now = ap (λ (o : Outline). o.first) c.requires.outline in
    let last : c.args.o.now.last ≡ last_letter c.args.children.now = ap (λ (o : Outline). o.last) c.requires.outline in
    omega (arith, first, last, last_from 0 c.args.children.now c.requires.order)

pub put_dense-requires-clause-fits : goal.put_dense-requires-clause-fits
put_dense-requires-clause-fits c =
    let same : c.args.o.now.greatest ≡ greatest c.args.children.now = ap (λ (o : Outline). o.greatest) c.requires.outline in
    row_within c.args.children.now c.args.o.now.first _ (2 ^ c.args.kind.width) (omega (arith, same, c.requires.fits))
