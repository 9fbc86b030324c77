use Rattle.std.proofs.Common.{◌+◌, ◌*◌, ◌/◌, refl, arith}
use Rattle.inter_coder.specs.Given.{wide_of, sources_in, chroma_sample, component, predicted_in}
use Rattle.inter_coder.proofs.Predicting.{means_rows, area8}
use Rattle.inter_coder.proofs.chroma.chroma_of_both.Goals as goal

pub returns : goal.returns
returns c =
    let room = area8 c.args.side c.requires.side in
    means_rows (λ i j. predicted_in (chroma_sample (component c.args.number) (wide_of c.args.pictures.now / 2) (c.args.x + i) (c.args.y + j)) (sources_in c.args.pictures.now) 0 c.args.motion.now) (λ i j. predicted_in (chroma_sample (component c.args.number) (wide_of c.args.pictures.now / 2) (c.args.x + i) (c.args.y + j)) (sources_in c.args.pictures.now) 1 c.args.motion.now)
    c.args.side (c.args.side * c.args.side) c.chroma_of.new.out c.chroma_of-2.new.out c.average.new.out _ c.chroma_of.ensures c.chroma_of-2.ensures refl (omega (arith, room)) (omega (arith, room)) c.average.ensures
