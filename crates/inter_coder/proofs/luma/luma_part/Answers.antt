use Rattle.std.proofs.Common.{◌+◌, ◌*◌, sym, ◌∙◌}
use Rattle.spec_inter.specs.Taps.{mean}
use Rattle.spec_reconstruction.specs.Inter.{predicted_by}
use Rattle.inter_coder.specs.Given.{wide_of, sources_in, luma_sample, predicted_in}
use Rattle.inter_coder.proofs.Naming.{by_first, by_second, by_neither, by_both}
use Rattle.inter_coder.proofs.Predicting.{rows_same}
use Rattle.inter_coder.proofs.luma.luma_part.Goals as goal

pub returns-then-uses-2 : goal.returns-then-uses-2
returns-then-uses-2 c =
    let p = c.args.pictures.now in
    let m = c.args.motion.now in
    rows_same (λ i j. mean (predicted_in (luma_sample (wide_of c.args.pictures.now) (c.args.x + i) (c.args.y + j)) (sources_in p) 0 m) (predicted_in (luma_sample (wide_of c.args.pictures.now) (c.args.x + i) (c.args.y + j)) (sources_in p) 1 m))
    (λ i j. predicted_by (luma_sample (wide_of c.args.pictures.now) (c.args.x + i) (c.args.y + j)) (sources_in p) m) c.args.side c.args.side _
    (λ i j. by_both (luma_sample (wide_of c.args.pictures.now) (c.args.x + i) (c.args.y + j)) p m c.requires.lent c.requires.fits (sym c.uses.ensures ∙ c.if-uses.true) (sym c.uses-then-uses.ensures ∙ c.if-uses-2.true))
    c.luma_of_both.ensures

pub returns-else-uses-2 : goal.returns-else-uses-2
returns-else-uses-2 c =
    let p = c.args.pictures.now in
    let m = c.args.motion.now in
    rows_same (λ i j. predicted_in (luma_sample (wide_of c.args.pictures.now) (c.args.x + i) (c.args.y + j)) (sources_in p) 0 m)
    (λ i j. predicted_by (luma_sample (wide_of c.args.pictures.now) (c.args.x + i) (c.args.y + j)) (sources_in p) m) c.args.side c.args.side _
    (λ i j. by_first (luma_sample (wide_of c.args.pictures.now) (c.args.x + i) (c.args.y + j)) p m (sym c.uses-then-uses.ensures ∙ c.if-uses-2.false)) c.luma_of.ensures

pub returns-then-uses-3 : goal.returns-then-uses-3
returns-then-uses-3 c =
    let p = c.args.pictures.now in
    let m = c.args.motion.now in
    rows_same (λ i j. predicted_in (luma_sample (wide_of c.args.pictures.now) (c.args.x + i) (c.args.y + j)) (sources_in p) 1 m)
    (λ i j. predicted_by (luma_sample (wide_of c.args.pictures.now) (c.args.x + i) (c.args.y + j)) (sources_in p) m) c.args.side c.args.side _
    (λ i j. by_second (luma_sample (wide_of c.args.pictures.now) (c.args.x + i) (c.args.y + j)) p m (sym c.uses.ensures ∙ c.if-uses.false)) c.luma_of-then-uses-3.ensures

pub returns-else-uses-3 : goal.returns-else-uses-3
returns-else-uses-3 c = record {
  at = λ i j a b. c.clear.ensures (j * c.args.side + i)
      ∙ by_neither (luma_sample (wide_of c.args.pictures.now) (c.args.x + i) (c.args.y + j)) c.args.pictures.now c.args.motion.now (sym c.uses.ensures ∙ c.if-uses.false) (sym c.uses-else-uses.ensures ∙ c.if-uses-3.false);
}
