use Rattle.std.proofs.Common.{true, ℤ, pos, replicate, get_or, subst, sym}
use Rattle.enc_tables.specs.declared.transform.TheConstants.{ZIGZAG4}
use Rattle.spec_residual.specs.Levels.{IsMade}
use Rattle.spec_residual.specs.declared.BlockKind.TheVariants.{LumaDc}
use Rattle.residual_coder.proofs.BlockLaws.{item_of_zeros}
use Rattle.residual_coder.proofs.ZeroLaws.{zero_made}
use Rattle.residual_coder.proofs.NoLevels.{zeros_quantised}
use Rattle.residual_coder.specs.Stripes.{samples_from}
use Rattle.intra_coder.proofs.Luma16Laws.{prediction16_is, luma16_is_built}
use Rattle.intra_coder.proofs.flat.build_luma.Goals as goal

pub unscanned-rows-requires-clause-made : goal.unscanned-rows-requires-clause-made
unscanned-rows-requires-clause-made c =
    λ s h. subst (λ (z : ℤ). IsMade LumaDc true c.args.site.now.qp (get_or ZIGZAG4 s 0) z) (sym (item_of_zeros 16 s)) (zero_made LumaDc true c.args.site.now.qp (get_or ZIGZAG4 s 0))

pub build_luma16-requires-clause-dcs : goal.build_luma16-requires-clause-dcs
build_luma16-requires-clause-dcs c = c.rescale_luma_dc-dcs.ensures.small true (λ p h. c.unscanned-rows.ensures.made p)

pub build_luma16-requires-clause-quantised : goal.build_luma16-requires-clause-quantised
build_luma16-requires-clause-quantised c = zeros_quantised c.args.site.now.qp (replicate 256 (pos 0)) (λ k. item_of_zeros 256 k)

pub returns-clause-samples : goal.returns-clause-samples
returns-clause-samples c =
    luma16_is_built c.args.plane.now.width c.args.site.now 2 (samples_from c.args.top c.args.plane.now) _ c.pred16-prediction.result (replicate 16 (pos 0)) c.unscanned-rows.result c.rescale_luma_dc-dcs.result (replicate 256 (pos 0))
    (prediction16_is c.args.plane.now.width c.args.site.now 2 (samples_from c.args.top c.args.plane.now) c.near16-near.result _ c.near16-near.ensures c.pred16-prediction.ensures)
    c.unscanned-rows.ensures.value c.rescale_luma_dc-dcs.ensures.value c.build_luma16.ensures.samples
