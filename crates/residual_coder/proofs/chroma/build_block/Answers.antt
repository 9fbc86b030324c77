use Rattle.std.proofs.Common.{ℤ, ◌∙◌, ap, w32}
use Rattle.std.proofs.lemmas.Int.{to_z-of_z}
use mir.Val.{SFits}
use Rattle.spec_residual.specs.declared.BlockKind.TheVariants.{Chroma4}
use Rattle.spec_reconstruction.specs.InOrder.{levels_of_block}
use Rattle.spec_reconstruction.specs.Residuals.{built_with_dc}
use Rattle.residual_coder.proofs.ChromaLaws.{build_chroma_is}
use Rattle.residual_coder.specs.Stripes.{samples_from}
use Rattle.residual_coder.proofs.chroma.build_block.Goals as goal

pub returns-clause-samples : goal.returns-clause-samples
returns-clause-samples c =
    let r : SFits w32 c.dc_at-dc.result = record { sfits = c.dc_at-dc.type_inv } in
    build_chroma_is c.args.plane.now.width c.args.site.now c.args.qp c.args.prediction.now c.args.dcs.now c.args.b (levels_of_block 15 c.args.b c.args.ac.now) (samples_from c.args.top c.args.plane.now) _
    c.part_chroma-part.result c.block_levels-block.result c.dc_at-dc.result c.built_with_dc-samples.result
    c.requires.of_luma c.part_chroma-part.ensures c.block_levels-block.ensures c.dc_at-dc.ensures
    (c.built_with_dc-samples.ensures ∙ ap (λ (z : ℤ). built_with_dc Chroma4 c.args.qp z c.block_levels-block.result c.part_chroma-part.result) (to_z-of_z w32 c.dc_at-dc.result r))
    c.write_block.ensures.samples
