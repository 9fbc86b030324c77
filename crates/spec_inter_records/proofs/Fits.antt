-- The record of an inter macroblock is one of the syntax, where its levels fit and what is written of its partitions stands.
use Rattle.std.proofs.Common.{◌≡◌, ℤ, Bool, true, false, List, refl, lit≤}
use Rattle.std.specs.Prelude.{◌==◌, not}
use Rattle.enc_tables.specs.declared.records.MbKind.{MbKind}
use Rattle.enc_tables.specs.declared.records.MbRecord.{MbRecord}
use Rattle.enc_tables.specs.declared.records.Motion.{Motion}
use Rattle.enc_tables.specs.declared.records.Vector.{Vector}
use Rattle.enc_tables.specs.Kinds.{is_16x16, is_intra, is_skipped}
use Rattle.spec_contexts.specs.Increments.{some_level}
use Rattle.spec_partitions.specs.Near.{Near}
use Rattle.spec_partitions.specs.Records.{is_in}
use Rattle.spec_macroblock.specs.Records.{TransformFits, WholeFits, IsRecord}
use Rattle.spec_reconstruction.specs.declared.Site.{Site}
use Rattle.spec_reconstruction.specs.Records.{luma_pattern, chroma_pattern}
use Rattle.spec_record_laws.specs.Coded.{Stands}
use Rattle.spec_record_laws.proofs.Pattern.{bits_small, some_in, blank_by_pattern, some_by_pattern, chroma_small, dc_blank, ac_blank}
use Rattle.spec_record_laws.proofs.Whole.{qp_fits, zeros_at, none_small, no_levels, no_levels_at}
use Rattle.spec_inter_records.proofs.Made.{inter_record, LevelsFit, FlagFits, NoLevels, PartsStand}

not_16 : (k : MbKind) → is_intra k ≡ false → is_16x16 k ≡ false
not_16 MbKind.Pcm h = absurd cc
not_16 MbKind.Intra4 h = absurd cc
not_16 MbKind.Intra8 h = absurd cc
not_16 MbKind.Intra16 h = absurd cc
not_16 _ h = refl

flag_fits : (k : MbKind) (t8x8 luma transform8 : Bool) → is_intra k ≡ false → (transform8 ≡ true → (t8x8 ≡ true) × (luma ≡ true)) → TransformFits t8x8 k luma transform8
flag_fits MbKind.Pcm t8x8 luma transform8 h f = absurd cc
flag_fits MbKind.Intra4 t8x8 luma transform8 h f = absurd cc
flag_fits MbKind.Intra8 t8x8 luma transform8 h f = absurd cc
flag_fits MbKind.Intra16 t8x8 luma transform8 h f = absurd cc
flag_fits _ t8x8 luma transform8 h f = f

not_whole : (b : Bool) (mb : MbRecord) → b ≡ false → WholeFits b mb
not_whole true mb h = absurd cc
not_whole false mb h = tt

pub inter_fits : (near : Near) (site : Site) (kind : MbKind) (transform8 : Bool) (motion : List Motion) (mvd : List Vector) (luma dc ac : List ℤ)
    → Stands near site → is_intra kind ≡ false → is_in near.kind kind ≡ true → LevelsFit luma dc ac → FlagFits near.t8x8 transform8 luma
    → (is_skipped kind ≡ true → NoLevels luma dc ac) → PartsStand near (inter_record kind transform8 motion mvd site.qp luma dc ac)
    → IsRecord near (inter_record kind transform8 motion mvd site.qp luma dc ac)
unfolding inter_record luma_pattern chroma_pattern
inter_fits near site kind transform8 motion mvd luma dc ac s inter here l t none p = record {
  in_slice = here;
  transform_fits = flag_fits kind near.t8x8 (not (luma_pattern luma == 0)) transform8 inter (λ e. (t.allowed e, t.some e));
  left_modes = s.left_modes;
  above_modes = s.above_modes;
  modes_length = refl;
  modes_known = none_small 16;
  modes_blank = λ i past. zeros_at 16 i;
  whole_fits = not_whole (is_16x16 kind) _ (not_16 kind inter);
  chroma_mode_fits = lit≤ tt;
  chroma_mode_blank = λ e. refl;
  parts_fit = p.parts_fit;
  mvds_fit = p.mvds_fit;
  mvd_is = p.mvd_is;
  cbp_blank = λ e. ((none e).luma_none, (none e).chroma_none);
  luma_cbp_fits = bits_small (some_in luma 0) (some_in luma 1) (some_in luma 2) (some_in luma 3);
  chroma_cbp_fits = chroma_small (some_level ac) (some_level dc);
  qp_fits = qp_fits _ near.qp site.qp s.same_qp s.qp_fits;
  dc_length = refl;
  dc_levels = no_levels 16;
  dc_blank = λ e i. no_levels_at 16 i;
  luma_length = l.luma_length;
  luma_levels = l.luma_levels;
  luma_blank = blank_by_pattern luma l.luma_length;
  luma_some = λ e k inside on. some_by_pattern luma k inside on;
  luma_places = λ e. let not : is_16x16 kind ≡ false = not_16 kind inter in absurd cc;
  chroma_dc_length = l.dc_length;
  chroma_dc_levels = l.dc_levels;
  chroma_dc_blank = dc_blank (some_level ac) (some_level dc) dc refl;
  chroma_ac_length = l.ac_length;
  chroma_ac_levels = l.ac_levels;
  chroma_ac_blank = ac_blank (some_level ac) (some_level dc) ac refl;
}
