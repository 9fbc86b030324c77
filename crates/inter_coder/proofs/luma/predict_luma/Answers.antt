use Rattle.std.proofs.Common.{arith, sym, subst, Some}
use Rattle.enc_tables.specs.declared.records.Motion.{Motion}
use Rattle.spec_partitions.specs.InRange.{MotionFits}
use Rattle.spec_partitions.specs.Small.{BlockSmall}
use Rattle.inter_coder.specs.Given.{count0, count1, wide_of, sources_in}
use Rattle.inter_coder.proofs.Predicting.{luma_is, luma_whole}
use Rattle.inter_coder.proofs.luma.predict_luma.Goals as goal

pub luma_part-requires-clause-fits : goal.luma_part-requires-clause-fits
luma_part-requires-clause-fits c =
    subst (λ (m : Motion). MotionFits (count0 c.args.pictures.now) (count1 c.args.pictures.now) m) (sym c.motion_at-whole.ensures) (c.requires.fits.at 0 (omega arith))

pub luma_part-requires-clause-short : goal.luma_part-requires-clause-short
luma_part-requires-clause-short c = subst (λ (m : Motion). BlockSmall 131 (Some m)) (sym c.motion_at-whole.ensures) (c.requires.short.at 0 (omega arith))

pub returns-then-is_one : goal.returns-then-is_one
returns-then-is_one c mb e =
    luma_whole (wide_of c.args.pictures.now) (sources_in c.args.pictures.now) c.args.site.now mb c.args.motion.now c.luma_part.new.out c.motion_at-whole.result e (c.is_one.ensures c.if-is_one.true) c.motion_at-whole.ensures (omega arith) c.luma_part.ensures

pub returns : goal.returns
returns c mb e = luma_is (wide_of c.args.pictures.now) (sources_in c.args.pictures.now) c.args.site.now mb c.args.motion.now c.luma_quarters.result e (omega arith) c.luma_quarters.ensures
