-- Worked macroblocks: the bins, computed.
use Rattle.std.proofs.Common.{◌≡◌, true, false, [], ◌∷◌, ◌++◌, None, refl, replicate, pos}
use Rattle.enc_tables.specs.declared.records.MbKind.{MbKind}
use Rattle.enc_tables.specs.declared.records.MbRecord.{MbRecord}
use Rattle.enc_tables.specs.declared.records.SliceKind.{SliceKind}
use Rattle.enc_tables.specs.Records.{blank_record}
use Rattle.spec_contexts.specs.Increments.{inc_type_i, inc_transform, inc_chroma_mode, inc_luma_cbp, inc_chroma_cbp, inc_coded}
use Rattle.spec_syntax.specs.Syntax.{at}
use Rattle.spec_syntax.specs.Elements.{intra_type_string, chroma_mode_string, qp_delta_string}
use Rattle.spec_syntax.specs.Levels.{coded_at, significant_at, last_at, first_at, others_at, minus1_string}
use Rattle.spec_syntax.specs.Numbers.{ones_string, number_string, golomb_string}
use Rattle.spec_syntax.specs.Blocks.{block_string, significance_string, levels_string, level_string, none, above_one, equal_one}
use Rattle.spec_partitions.specs.Near.{Near}
use Rattle.spec_partitions.specs.Parts.{parts_string}
use Rattle.spec_macroblock.specs.Strings.{macroblock_string, head_string, inter_transform_string, mb_type_string, transform_string, modes_string, intra_chroma_string, luma_cbp_string, chroma_cbp_string, qp_string, luma_dc_string, luma_string, chroma_dc_string, chroma_ac_string}

-- the first macroblock of a slice of QP 26
abbrev alone : Near
alone = record { kind = SliceKind.I; left = None; above = None; last_delta = false; qp = 26; t8x8 = false; refs0 = 0; refs1 = 0 }

-- Intra 16x16 by the mean, without levels: a grey picture
abbrev grey : MbRecord
grey = record (blank_record MbKind.Intra16 26) { modes = 2 ∷ replicate 15 0 }

row_grey : macroblock_string alone grey ≡
    at 3 true ∷ at 276 false ∷ at 6 false ∷ at 7 false ∷ at 9 true ∷ at 10 false ∷ at 64 false ∷ at 60 false ∷ at 88 false ∷ []
unfolding macroblock_string head_string inter_transform_string mb_type_string transform_string modes_string intra_chroma_string luma_cbp_string chroma_cbp_string qp_string luma_dc_string luma_string chroma_dc_string chroma_ac_string parts_string
    blank_record inc_type_i inc_transform inc_chroma_mode inc_luma_cbp inc_chroma_cbp inc_coded intra_type_string chroma_mode_string qp_delta_string block_string coded_at none
row_grey = refl

-- the same with a DC level of 1632: coeff_abs_level_minus1 1631 is 14 ones, then ten ones, a zero and 1001010010
abbrev bright : MbRecord
bright = record grey { luma_dc = pos 1632 ∷ replicate 15 (pos 0) }

row_bright : macroblock_string alone bright ≡
    (at 3 true ∷ at 276 false ∷ at 6 false ∷ at 7 false ∷ at 9 true ∷ at 10 false ∷ at 64 false ∷ at 60 false ∷ at 88 true ∷ at 105 true ∷ at 166 true ∷ [])
    ++ (at 228 true ∷ replicate 13 (at 232 true)) ++ replicate 10 (at 1000 true)
    ++ (at 1000 false ∷ at 1000 true ∷ at 1000 false ∷ at 1000 false ∷ at 1000 true ∷ at 1000 false ∷ at 1000 true ∷ at 1000 false ∷ at 1000 false ∷ at 1000 true ∷ at 1000 false ∷ at 1000 false ∷ [])
unfolding macroblock_string head_string inter_transform_string mb_type_string transform_string modes_string intra_chroma_string luma_cbp_string chroma_cbp_string qp_string luma_dc_string luma_string chroma_dc_string chroma_ac_string parts_string
    blank_record inc_type_i inc_transform inc_chroma_mode inc_luma_cbp inc_chroma_cbp inc_coded intra_type_string chroma_mode_string qp_delta_string block_string coded_at none
    significance_string significant_at last_at levels_string level_string above_one equal_one minus1_string first_at others_at ones_string golomb_string number_string
row_bright = refl
