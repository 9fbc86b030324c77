use Rattle.std.proofs.Common.{rules, refl}
use Rattle.tool_records.proofs.Spread.{qp_stays}
use Rattle.tool_records.proofs.checks.is_record.Goals as goal

pub returns : goal.returns
returns c = λ t. record {
  in_slice = c.if-not-is_in.ensures refl;
  transform_fits = c.if-not-transform_fits.ensures refl;
  left_modes = c.if-not-near_modes.ensures refl;
  above_modes = c.if-not-near_modes-2.ensures refl;
  modes_length = search rules;
  modes_known = c.if-not-are_modes.ensures refl;
  modes_blank = search rules;
  whole_fits = c.if-not-whole_fits.ensures refl;
  chroma_mode_fits = search rules;
  chroma_mode_blank = c.if-not-chroma_mode_fits.ensures refl;
  parts_fit = c.if-not-parts_fit.ensures refl;
  mvds_fit = c.if-not-differences_fit.ensures refl;
  mvd_is = c.if-not-differences_spread.ensures refl;
  luma_cbp_fits = search rules;
  chroma_cbp_fits = search rules;
  cbp_blank = c.if-not-pattern_fits.ensures refl;
  qp_fits = qp_stays _ c.args.mb.now.qp c.if-mb-gt51.false;
  dc_length = search rules;
  dc_levels = c.if-not-are_levels.ensures refl;
  dc_blank = search rules;
  luma_length = search rules;
  luma_levels = c.if-not-are_levels-2.ensures refl;
  luma_blank = c.if-not-luma_blank.ensures refl;
  luma_some = c.if-not-luma_some.ensures refl;
  luma_places = c.luma_places.ensures t;
  chroma_dc_length = search rules;
  chroma_dc_levels = c.if-not-are_levels-3.ensures refl;
  chroma_dc_blank = search rules;
  chroma_ac_length = search rules;
  chroma_ac_levels = c.if-not-are_levels-4.ensures refl;
  chroma_ac_blank = search rules;
}
