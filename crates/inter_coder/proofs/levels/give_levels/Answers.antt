use Rattle.std.proofs.Common.{arith}
use Rattle.inter_coder.specs.Given.{wide_of, source_in}
use Rattle.inter_coder.specs.Made.{planes_at}
use Rattle.inter_coder.proofs.LevelLaws.{first_quantised, second_quantised, two_dc, two_ac, levelled_is}
use Rattle.inter_coder.proofs.levels.give_levels.Goals as goal

pub returns-clause-levels : goal.returns-clause-levels
returns-clause-levels c =
    let picture = c.args.pictures.now.source.now in
    levelled_is (wide_of c.args.pictures.now) c.args.site.now c.args.t8x8 (source_in c.args.pictures.now) (planes_at c.args.prediction.now) c.args.mb.now
    c.luma_over-luma.result.transform8 c.luma_over-luma.result.levels c.both_dc-dc.result c.both_ac-ac.result c.luma_pattern-mb.result c.chroma_pattern-mb.result
    c.luma_over-luma.ensures.transform8 c.luma_over-luma.ensures.levels
    (two_dc c.args.site.now picture.y.width picture.cb.width picture.cr.width _ _ _ _ c.both_dc-dc.result c.chroma_levels-cb.result.dc c.chroma_levels-cr.result.dc picture.widths.0 picture.widths.1 c.both_dc-dc.ensures c.chroma_levels-cb.ensures.dc c.chroma_levels-cr.ensures.dc)
    (two_ac c.args.site.now picture.y.width picture.cb.width picture.cr.width _ _ _ _ c.both_ac-ac.result c.chroma_levels-cb.result.ac c.chroma_levels-cr.result.ac picture.widths.0 picture.widths.1 c.both_ac-ac.ensures c.chroma_levels-cb.ensures.ac c.chroma_levels-cr.ensures.ac)
    c.luma_pattern-mb.ensures c.chroma_pattern-mb.ensures

pub returns-clause-quantised : goal.returns-clause-quantised
returns-clause-quantised c = record {
  luma = c.luma_over-luma.ensures.quantised;
  cb = first_quantised _ c.both_dc-dc.result c.both_ac-ac.result c.chroma_levels-cb.result.dc c.chroma_levels-cr.result.dc c.chroma_levels-cb.result.ac c.chroma_levels-cr.result.ac c.both_dc-dc.ensures c.both_ac-ac.ensures (omega arith) (omega arith) c.chroma_levels-cb.ensures.quantised;
  cr = second_quantised _ c.both_dc-dc.result c.both_ac-ac.result c.chroma_levels-cb.result.dc c.chroma_levels-cr.result.dc c.chroma_levels-cb.result.ac c.chroma_levels-cr.result.ac c.both_dc-dc.ensures c.both_ac-ac.ensures (omega arith) (omega arith) c.chroma_levels-cr.ensures.quantised;
}
