use Rattle.std.proofs.Common.{ℤ, ◌∙◌, ap, w32}
use Rattle.std.proofs.lemmas.Int.{to_z-of_z}
use mir.Val.{SFits}
use Rattle.spec_residual.specs.declared.BlockKind.TheVariants.{Luma4}
use Rattle.spec_reconstruction.specs.Residuals.{built_with_dc}
use Rattle.intra_coder.proofs.Luma16Laws.{build16_is}
use Rattle.residual_coder.specs.Stripes.{samples_from}
use Rattle.intra_coder.proofs.luma16.build_block16.Goals as goal

pub returns-clause-samples : goal.returns-clause-samples
returns-clause-samples c =
    let r : SFits w32 c.coefficient_at-dc.result = record { sfits = c.coefficient_at-dc.type_inv } in
    build16_is c.args.plane.now.width c.args.site.now c.args.prediction.now c.args.dcs.now c.args.b c.args.levels.now (samples_from c.args.top c.args.plane.now) _
    c.block_column.result c.block_row.result c.place16.result c.part16-part.result c.block_levels-block.result c.coefficient_at-dc.result c.built_with_dc-samples.result
    c.block_column.ensures.value c.block_row.ensures.value c.place16.ensures.value c.part16-part.ensures c.block_levels-block.ensures c.coefficient_at-dc.ensures
    (c.built_with_dc-samples.ensures ∙ ap (λ (z : ℤ). built_with_dc Luma4 c.args.site.now.qp z c.block_levels-block.result c.part16-part.result) (to_z-of_z w32 c.coefficient_at-dc.result r))
    c.write_block.ensures.samples
