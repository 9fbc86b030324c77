use Rattle.std.proofs.Common.{arith, sym, subst, Some}
use Rattle.enc_tables.specs.declared.records.Motion.{Motion}
use Rattle.spec_partitions.specs.InRange.{MotionFits}
use Rattle.spec_partitions.specs.Small.{BlockSmall}
use Rattle.inter_coder.specs.Given.{count0, count1, wide_of, sources_in, component}
use Rattle.inter_coder.proofs.Predicting.{chroma_is, chroma_whole}
use Rattle.inter_coder.proofs.chroma.predict_chroma.Goals as goal

pub chroma_part-requires-clause-fits : goal.chroma_part-requires-clause-fits
chroma_part-requires-clause-fits c =
    subst (λ (m : Motion). MotionFits (count0 c.args.pictures.now) (count1 c.args.pictures.now) m) (sym c.motion_at-whole.ensures) (c.requires.fits.at 0 (omega arith))

pub chroma_part-requires-clause-short : goal.chroma_part-requires-clause-short
chroma_part-requires-clause-short c = subst (λ (m : Motion). BlockSmall 131 (Some m)) (sym c.motion_at-whole.ensures) (c.requires.short.at 0 (omega arith))

pub returns-then-is_one : goal.returns-then-is_one
returns-then-is_one c mb e =
    chroma_whole (wide_of c.args.pictures.now) (sources_in c.args.pictures.now) c.args.site.now mb c.args.motion.now c.chroma_part.new.out (component c.args.number) c.motion_at-whole.result e (c.is_one.ensures c.if-is_one.true) c.motion_at-whole.ensures (omega arith) c.chroma_part.ensures

pub returns : goal.returns
returns c mb e = chroma_is (wide_of c.args.pictures.now) (sources_in c.args.pictures.now) c.args.site.now mb c.args.motion.now c.chroma_quarters.result (component c.args.number) e (omega arith) c.chroma_quarters.ensures
