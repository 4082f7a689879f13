use Rattle.std.proofs.Common.{◌≡◌, false, refl, rules}
use Rattle.length_prefix.specs.Counted.{stated_length, IsCutOff}
use Rattle.data_file.specs.Parsing.{counts_too_many}
use Rattle.data_file.proofs.Cuts.{cut_clustering, cut_not_framed, cut_value, not_ok}
use Rattle.data_file.proofs.Frames.{framed}
use Rattle.data_file.proofs.parse.row_frame.Goals as goal

pub returns-in_default-clause-short : goal.returns-in_default-clause-short
returns-in_default-clause-short c =
    let few : counts_too_many (stated_length c.args.bytes.now) ≡ false = search rules in
    let cut : IsCutOff c.args.bytes.now = search rules in
    (λ short. cut_clustering c.args.bytes.now few cut, λ known. refl)

pub returns-in-Some-counted-clause-row : goal.returns-in-Some-counted-clause-row
returns-in-Some-counted-clause-row c =
    framed c.args.bytes.now c.in-Some.clustering.now c.in-Some.rest.now c.in-Some-counted.value.now c.in-Some-counted.field-0-1.now
    c.in-Some.ensures.some.0 c.in-Some.ensures.some.1 c.in-Some-counted.ensures.some.0 c.in-Some-counted.ensures.some.1

pub returns-in-Some-counted-clause-short : goal.returns-in-Some-counted-clause-short
returns-in-Some-counted-clause-short c =
    let frame = framed c.args.bytes.now c.in-Some.clustering.now c.in-Some.rest.now c.in-Some-counted.value.now c.in-Some-counted.field-0-1.now
    c.in-Some.ensures.some.0 c.in-Some.ensures.some.1 c.in-Some-counted.ensures.some.0 c.in-Some-counted.ensures.some.1 in
    (λ short. absurd (not_ok _ _ short), λ cut. absurd (cut_not_framed _ c.in-Some.clustering.now c.in-Some-counted.value.now frame cut))

pub returns-in-None-clause-short : goal.returns-in-None-clause-short
returns-in-None-clause-short c =
    let few : counts_too_many (stated_length c.args.bytes.now) ≡ false = search rules in (
      λ short. cut_value c.args.bytes.now c.in-Some.clustering.now c.in-Some.rest.now few c.in-Some.ensures.some.0 c.in-Some.ensures.some.1 (c.in-None.ensures.none refl),
      λ cut. refl,
    )
