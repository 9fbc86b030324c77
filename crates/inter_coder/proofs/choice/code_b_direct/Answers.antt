use Rattle.std.proofs.Common.{◌∙◌, sym, subst, List}
use Rattle.enc_tables.specs.declared.records.Motion.{Motion}
use Rattle.spec_partitions.specs.InRange.{AllFit}
use Rattle.spec_partitions.specs.Small.{AllSmall}
use Rattle.residual_coder.specs.Stripes.{planes_in}
use Rattle.inter_coder.specs.Given.{wide_of, sources_in, count0, count1}
use Rattle.inter_coder.specs.Made.{planes_at}
use Rattle.inter_coder.proofs.CodedLaws.{blank_motion, skipped_predicted, skipped_coded, built_is}
use Rattle.inter_coder.proofs.choice.code_b_direct.Goals as goal

pub coded_by-coded-requires-clause-fits : goal.coded_by-coded-requires-clause-fits
coded_by-coded-requires-clause-fits c =
    subst (λ (m : List Motion). AllFit (count0 c.args.pictures.now) (count1 c.args.pictures.now) m) (sym (blank_motion _ _ _ _ c.moving-mb.ensures)) (c.direct_motion-motion.ensures.fits _ _ c.requires.some.0 c.requires.some.1 c.requires.fits)

pub coded_by-coded-requires-clause-short : goal.coded_by-coded-requires-clause-short
coded_by-coded-requires-clause-short c = subst (λ (m : List Motion). AllSmall 131 m) (sym (blank_motion _ _ _ _ c.moving-mb.ensures)) c.direct_motion-motion.ensures.short

pub build_over-requires-clause-quantised : goal.build_over-requires-clause-quantised
build_over-requires-clause-quantised c = skipped_coded _ _ _ c.as_b_skip-skipped.ensures c.coded_by-coded.ensures.quantised

pub returns-then-is_blank-clause-planes : goal.returns-then-is_blank-clause-planes
returns-then-is_blank-clause-planes c =
    let p = c.args.pictures.now in
    let site = c.args.site.now in
    let mb = c.coded_by-coded.result.mb in
    let skipped = c.as_b_skip-skipped.result in
    built_is p site skipped c.args.stripe.now.picture.now.y.width (planes_at c.coded_by-coded.result.prediction) _ (planes_in c.args.stripe.now) c.requires.stands.alike c.build_over.ensures.planes
    (c.coded_by-coded.ensures.prediction ∙ skipped_predicted (wide_of p) (sources_in p) site skipped mb c.as_b_skip-skipped.ensures)
