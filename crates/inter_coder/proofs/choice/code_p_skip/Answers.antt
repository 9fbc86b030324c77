use Rattle.std.proofs.Common.{◌∙◌, ap, sym, subst, List}
use Rattle.enc_tables.specs.declared.records.MbKind.{MbKind}
use Rattle.enc_tables.specs.declared.records.Motion.{Motion}
use Rattle.spec_coded.specs.Planned.{moving}
use Rattle.spec_partitions.specs.InRange.{AllFit}
use Rattle.spec_partitions.specs.Small.{AllSmall}
use Rattle.residual_coder.specs.Stripes.{planes_in}
use Rattle.inter_coder.specs.Given.{count0, count1}
use Rattle.inter_coder.specs.Made.{planes_at}
use Rattle.inter_coder.proofs.CodedLaws.{blank_motion, made_same, if_blank_some, if_blank_none, built_is}
use Rattle.inter_coder.proofs.choice.code_p_skip.Goals as goal

pub coded_by-coded-requires-clause-fits : goal.coded_by-coded-requires-clause-fits
coded_by-coded-requires-clause-fits c =
    subst (λ (m : List Motion). AllFit (count0 c.args.pictures.now) (count1 c.args.pictures.now) m) (sym (blank_motion _ _ _ _ c.moving-mb.ensures)) (c.skip_motion-motion.ensures.fits _ _ c.requires.some)

pub coded_by-coded-requires-clause-short : goal.coded_by-coded-requires-clause-short
coded_by-coded-requires-clause-short c = subst (λ (m : List Motion). AllSmall 131 m) (sym (blank_motion _ _ _ _ c.moving-mb.ensures)) c.skip_motion-motion.ensures.short

pub returns-then-not-is_blank-clause-record : goal.returns-then-not-is_blank-clause-record
returns-then-not-is_blank-clause-record c view h =
    if_blank_none _ _ (made_same c.args.pictures.now c.args.t8x8 c.args.site.now _ _ _ c.coded_by-coded.ensures.record (c.moving-mb.ensures ∙ ap (λ (m : List Motion). moving MbKind.PSkip c.args.site.now.qp m) (c.skip_motion-motion.ensures.motion view h)))
    (sym c.is_blank.ensures ∙ c.if-not-is_blank.true)

pub returns-clause-record : goal.returns-clause-record
returns-clause-record c view h =
    if_blank_some _ _ (made_same c.args.pictures.now c.args.t8x8 c.args.site.now _ _ _ c.coded_by-coded.ensures.record (c.moving-mb.ensures ∙ ap (λ (m : List Motion). moving MbKind.PSkip c.args.site.now.qp m) (c.skip_motion-motion.ensures.motion view h)))
    (sym c.is_blank.ensures ∙ c.if-not-is_blank.false)

pub returns-clause-planes : goal.returns-clause-planes
returns-clause-planes c =
    built_is c.args.pictures.now c.args.site.now c.coded_by-coded.result.mb c.args.stripe.now.picture.now.y.width (planes_at c.coded_by-coded.result.prediction) _ (planes_in c.args.stripe.now) c.requires.stands.alike c.build_over.ensures.planes c.coded_by-coded.ensures.prediction
