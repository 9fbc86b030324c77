-- Kinds of macroblocks (ITU-T H.264, tables 7-11, 7-13 and 7-14).
use Rattle.std.specs.Prelude.{Bool, true, false, not, ◌&&◌}
use Rattle.enc_tables.specs.declared.records.MbKind.{MbKind}
use Rattle.enc_tables.specs.declared.records.MbKind.TheVariants as kinds

abbrev pub is_pcm : MbKind → Bool
is_pcm kinds.Pcm = true
is_pcm kinds.Intra4 = false
is_pcm kinds.Intra8 = false
is_pcm kinds.Intra16 = false
is_pcm kinds.P16 = false
is_pcm kinds.P16x8 = false
is_pcm kinds.P8x16 = false
is_pcm kinds.P8x8 = false
is_pcm kinds.PSkip = false
is_pcm kinds.B16 = false
is_pcm kinds.B16x8 = false
is_pcm kinds.B8x16 = false
is_pcm kinds.B8x8 = false
is_pcm kinds.BDirect = false
is_pcm kinds.BSkip = false

-- I_NxN
abbrev pub is_nxn : MbKind → Bool
is_nxn kinds.Intra4 = true
is_nxn kinds.Intra8 = true
is_nxn kinds.Pcm = false
is_nxn kinds.Intra16 = false
is_nxn kinds.P16 = false
is_nxn kinds.P16x8 = false
is_nxn kinds.P8x16 = false
is_nxn kinds.P8x8 = false
is_nxn kinds.PSkip = false
is_nxn kinds.B16 = false
is_nxn kinds.B16x8 = false
is_nxn kinds.B8x16 = false
is_nxn kinds.B8x8 = false
is_nxn kinds.BDirect = false
is_nxn kinds.BSkip = false

-- Intra_16x16
abbrev pub is_16x16 : MbKind → Bool
is_16x16 kinds.Intra16 = true
is_16x16 kinds.Pcm = false
is_16x16 kinds.Intra4 = false
is_16x16 kinds.Intra8 = false
is_16x16 kinds.P16 = false
is_16x16 kinds.P16x8 = false
is_16x16 kinds.P8x16 = false
is_16x16 kinds.P8x8 = false
is_16x16 kinds.PSkip = false
is_16x16 kinds.B16 = false
is_16x16 kinds.B16x8 = false
is_16x16 kinds.B8x16 = false
is_16x16 kinds.B8x8 = false
is_16x16 kinds.BDirect = false
is_16x16 kinds.BSkip = false

-- an Intra macroblock prediction mode, I_PCM among them
abbrev pub is_intra : MbKind → Bool
is_intra kinds.Pcm = true
is_intra kinds.Intra4 = true
is_intra kinds.Intra8 = true
is_intra kinds.Intra16 = true
is_intra kinds.P16 = false
is_intra kinds.P16x8 = false
is_intra kinds.P8x16 = false
is_intra kinds.P8x8 = false
is_intra kinds.PSkip = false
is_intra kinds.B16 = false
is_intra kinds.B16x8 = false
is_intra kinds.B8x16 = false
is_intra kinds.B8x8 = false
is_intra kinds.BDirect = false
is_intra kinds.BSkip = false

-- P_Skip or B_Skip
abbrev pub is_skipped : MbKind → Bool
is_skipped kinds.PSkip = true
is_skipped kinds.BSkip = true
is_skipped kinds.Pcm = false
is_skipped kinds.Intra4 = false
is_skipped kinds.Intra8 = false
is_skipped kinds.Intra16 = false
is_skipped kinds.P16 = false
is_skipped kinds.P16x8 = false
is_skipped kinds.P8x16 = false
is_skipped kinds.P8x8 = false
is_skipped kinds.B16 = false
is_skipped kinds.B16x8 = false
is_skipped kinds.B8x16 = false
is_skipped kinds.B8x8 = false
is_skipped kinds.BDirect = false

-- B_Skip or B_Direct_16x16
abbrev pub is_direct : MbKind → Bool
is_direct kinds.BDirect = true
is_direct kinds.BSkip = true
is_direct kinds.Pcm = false
is_direct kinds.Intra4 = false
is_direct kinds.Intra8 = false
is_direct kinds.Intra16 = false
is_direct kinds.P16 = false
is_direct kinds.P16x8 = false
is_direct kinds.P8x16 = false
is_direct kinds.P8x8 = false
is_direct kinds.PSkip = false
is_direct kinds.B16 = false
is_direct kinds.B16x8 = false
is_direct kinds.B8x16 = false
is_direct kinds.B8x8 = false

-- 8x8 block k has motion that is written
abbrev pub has_motion : MbKind → Bool
has_motion kind = not (is_intra kind) && not (is_skipped kind) && not (is_direct kind)
