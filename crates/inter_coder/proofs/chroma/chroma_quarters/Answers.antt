use Rattle.std.proofs.Common.{◌+◌, ◌*◌, ◌/◌, ◌%◌, ℕ, refl, arith, sym, subst, Some}
use Rattle.enc_tables.specs.declared.records.Motion.{Motion}
use Rattle.std.specs.Prelude.{slice_index_or}
use Rattle.enc_tables.specs.Records.{no_motion}
use Rattle.spec_reconstruction.specs.Inter.{predicted_by}
use Rattle.spec_partitions.specs.InRange.{MotionFits}
use Rattle.spec_partitions.specs.Small.{BlockSmall}
use Rattle.inter_coder.specs.Given.{count0, count1, wide_of, sources_in, chroma_sample, component}
use Rattle.inter_coder.proofs.Predicting.{quarter8}
use Rattle.inter_coder.proofs.Puts.{none_parted8, next_parted8, all_parted8}
use Rattle.inter_coder.proofs.chroma.chroma_quarters.Goals as goal

pub chroma_part-requires-clause-fits : goal.chroma_part-requires-clause-fits
chroma_part-requires-clause-fits c =
    subst (λ (m : Motion). MotionFits (count0 c.args.pictures.now) (count1 c.args.pictures.now) m) (sym c.motion_at-here.ensures) (c.requires.fits.at c.loop-k.k c.loop-k-test.true)

pub chroma_part-requires-clause-short : goal.chroma_part-requires-clause-short
chroma_part-requires-clause-short c = subst (λ (m : Motion). BlockSmall 131 (Some m)) (sym c.motion_at-here.ensures) (c.requires.short.at c.loop-k.k c.loop-k-test.true)

pub loop-k-init : goal.loop-k-init
loop-k-init c = none_parted8 (λ i j. predicted_by (chroma_sample (component c.args.number) (wide_of c.args.pictures.now / 2) (c.args.site.now.x / 2 + i) (c.args.site.now.y / 2 + j)) (sources_in c.args.pictures.now) (slice_index_or c.args.motion.now (2 * (j / 4) + i / 4) no_motion)) _ refl

pub loop-k-preserved : goal.loop-k-preserved
loop-k-preserved c =
    let k : ℕ = c.loop-k.k in
    let x : ℕ = 4 * (k % 2) in
    let y : ℕ = 4 * (k / 2) in
    let here = c.motion_at-here.result in
    next_parted8 (λ i j. predicted_by (chroma_sample (component c.args.number) (wide_of c.args.pictures.now / 2) (c.args.site.now.x / 2 + i) (c.args.site.now.y / 2 + j)) (sources_in c.args.pictures.now) (slice_index_or c.args.motion.now (2 * (j / 4) + i / 4) no_motion))
    (λ i j. predicted_by (chroma_sample (component c.args.number) (wide_of c.args.pictures.now / 2) (c.args.site.now.x / 2 + x + i) (c.args.site.now.y / 2 + y + j)) (sources_in c.args.pictures.now) here)
    k x y c.chroma_part.new.out c.loop-k.out c.put.new.out c.loop-k-test.true refl refl c.loop-k.invariant
    (record { long = c.put.ensures.long; inside = c.put.ensures.inside; others = c.put.ensures.others }) c.chroma_part.ensures
    (λ i j a b. quarter8 (λ c' r'. chroma_sample (component c.args.number) (wide_of c.args.pictures.now / 2) c' r') (sources_in c.args.pictures.now) c.args.motion.now here k (c.args.site.now.x / 2) (c.args.site.now.y / 2) x y i j c.motion_at-here.ensures c.loop-k-test.true refl refl a b)

pub returns : goal.returns
returns c = all_parted8 (λ i j. predicted_by (chroma_sample (component c.args.number) (wide_of c.args.pictures.now / 2) (c.args.site.now.x / 2 + i) (c.args.site.now.y / 2 + j)) (sources_in c.args.pictures.now) (slice_index_or c.args.motion.now (2 * (j / 4) + i / 4) no_motion)) c.loop-k.k c.loop-k.out (omega arith) c.loop-k.invariant
