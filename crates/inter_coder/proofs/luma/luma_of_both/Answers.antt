use Rattle.std.proofs.Common.{◌+◌, ◌*◌, refl, arith}
use Rattle.inter_coder.specs.Given.{wide_of, sources_in, luma_sample, predicted_in}
use Rattle.inter_coder.proofs.Predicting.{means_rows, area16}
use Rattle.inter_coder.proofs.luma.luma_of_both.Goals as goal

pub returns : goal.returns
returns c =
    let room = area16 c.args.side c.requires.side in
    means_rows (λ i j. predicted_in (luma_sample (wide_of c.args.pictures.now) (c.args.x + i) (c.args.y + j)) (sources_in c.args.pictures.now) 0 c.args.motion.now) (λ i j. predicted_in (luma_sample (wide_of c.args.pictures.now) (c.args.x + i) (c.args.y + j)) (sources_in c.args.pictures.now) 1 c.args.motion.now)
    c.args.side (c.args.side * c.args.side) c.luma_of.new.out c.luma_of-2.new.out c.average.new.out _ c.luma_of.ensures c.luma_of-2.ensures refl (omega (arith, room)) (omega (arith, room)) c.average.ensures
