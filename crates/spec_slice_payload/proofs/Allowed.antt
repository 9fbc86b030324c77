-- Inter macroblocks have no intra modes.
use Rattle.std.proofs.Common.{◌≡◌, true, false, refl}
use Rattle.enc_tables.specs.declared.records.MbKind.{MbKind}
use Rattle.enc_tables.specs.declared.records.MbRecord.{MbRecord}
use Rattle.enc_tables.specs.Kinds.{is_intra}
use Rattle.spec_intra.specs.declared.Avail.{Avail}
use Rattle.spec_partitions.specs.Near.{Near}
use Rattle.spec_macroblock.specs.Records.{IsRecord}
use Rattle.spec_slice_payload.specs.Allowed.{luma_allowed, modes_allowed}

luma_free : (kind : MbKind) (avail : Avail) (mb : MbRecord) → is_intra kind ≡ false → luma_allowed kind avail mb.modes ≡ true
luma_free MbKind.Intra4 avail mb e = absurd cc
luma_free MbKind.Intra8 avail mb e = absurd cc
luma_free MbKind.Intra16 avail mb e = absurd cc
luma_free _ avail mb e = refl

pub inter_allowed : (near : Near) (avail : Avail) (mb : MbRecord) → IsRecord near mb → is_intra mb.kind ≡ false → modes_allowed avail mb ≡ true
unfolding modes_allowed
inter_allowed near avail mb is inter = rw (luma_free mb.kind avail mb inter, is.chroma_mode_blank inter) refl
