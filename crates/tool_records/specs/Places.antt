-- Types of slices and macroblocks by the place in their list.
use Rattle.std.specs.Prelude.{ℕ}
use Rattle.enc_tables.specs.declared.records.SliceKind.{SliceKind}
use Rattle.enc_tables.specs.declared.records.SliceKind.TheVariants.{I, P, B}
use Rattle.enc_tables.specs.declared.records.MbKind.{MbKind}
use Rattle.enc_tables.specs.declared.records.MbKind.TheVariants.{Pcm, Intra4, Intra8, Intra16, P16, P16x8, P8x16, P8x8, PSkip, B16, B16x8, B8x16, B8x8, BDirect, BSkip}

abbrev pub slice_place : SliceKind → ℕ
slice_place I = 0
slice_place P = 1
slice_place B = 2

abbrev pub kind_place : MbKind → ℕ
kind_place Pcm = 0
kind_place Intra4 = 1
kind_place Intra8 = 2
kind_place Intra16 = 3
kind_place P16 = 4
kind_place P16x8 = 5
kind_place P8x16 = 6
kind_place P8x8 = 7
kind_place PSkip = 8
kind_place B16 = 9
kind_place B16x8 = 10
kind_place B8x16 = 11
kind_place B8x8 = 12
kind_place BDirect = 13
kind_place BSkip = 14
