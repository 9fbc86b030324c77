-- Whole macroblocks and slices: what a decoder builds of their records, and the records that the encoder makes of intra
-- macroblocks. `width` is how many macroblocks a row of the picture has.
use Rattle.std.specs.Prelude.{ℕ, ℤ, pos, Bool, true, false, not, if◌then◌else◌, ◌&&◌, List, ◌∷◌, ◌++◌, take, drop, length, replicate, slice_index, slice_index_or, slice_range, ◌+◌, ◌*◌, ◌/◌, ◌%◌}
use Rattle.enc_tables.specs.declared.records.MbKind.{MbKind}
use Rattle.enc_tables.specs.declared.records.MbKind.TheVariants as kinds
use Rattle.enc_tables.specs.declared.records.MbRecord.{MbRecord}
use Rattle.enc_tables.specs.Kinds.{is_16x16, is_intra, is_pcm}
use Rattle.enc_tables.specs.Records.{blank_record, no_motion, zero_vector}
use Rattle.enc_tables.specs.Steps.{steps}
use Rattle.spec_contexts.specs.Increments.{some_level}
use Rattle.spec_film.specs.Films.{Planes}
use Rattle.spec_intra.specs.Near.{macroblock_avail}
use Rattle.spec_reconstruction.specs.declared.Site.{Site}
use Rattle.spec_reconstruction.specs.Luma.{luma4_built, luma4_levels, luma8_built, luma8_levels, luma16_built, luma16_dc, luma16_levels}
use Rattle.spec_reconstruction.specs.Inter.{Sources, inter_built}
use Rattle.spec_reconstruction.specs.Chroma.{chroma_built, chroma_dc, chroma_ac}

-- ---- what a decoder builds

-- the luma samples of an intra macroblock; the transform's size tells Intra_4x4 from Intra_8x8
unfoldable pub luma_built : ℕ → Site → MbRecord → List ℕ → List ℕ
luma_built wide site mb plane =
    if is_16x16 mb.kind then luma16_built wide site (slice_index mb.modes 0) mb.luma_dc mb.luma plane
    else (if mb.transform8 then luma8_built wide site mb.modes mb.luma plane else luma4_built wide site mb.modes mb.luma plane)

-- the planes with an intra macroblock. `wide` is the width of the luma plane
unfoldable pub intra_built : ℕ → Site → MbRecord → Planes → Planes
intra_built wide site mb planes = record {
  luma = luma_built wide site mb planes.luma;
  cb = chroma_built (wide / 2) site mb.chroma_mode (take 4 mb.chroma_dc) (take 60 mb.chroma_ac) planes.cb;
  cr = chroma_built (wide / 2) site mb.chroma_mode (drop 4 mb.chroma_dc) (drop 60 mb.chroma_ac) planes.cr;
}

-- where macroblock `address` of a slice stands, whose first macroblock is `first` (clauses 6.4.1 and 6.4.9)
abbrev pub site_of : ℕ → ℕ → ℕ → ℕ → Site
site_of width first address qp = record {
  x = 16 * (address % width);
  y = 16 * (address / width);
  near = macroblock_avail width first address;
  qp = qp;
}

-- the planes with a macroblock. The samples of I_PCM are no part of a record
unfoldable pub macroblock_built : ℕ → Sources → ℕ → ℕ → MbRecord → Planes → Planes
macroblock_built width s first address mb planes =
    if is_intra mb.kind && not (is_pcm mb.kind) then intra_built (16 * width) (site_of width first address mb.qp) mb planes
    else if is_pcm mb.kind then planes
    else inter_built (16 * width) s (site_of width first address mb.qp) mb planes

-- the planes with a slice: its macroblocks one after another, each from what those before it left
unfoldable pub slice_built : ℕ → Sources → ℕ → List MbRecord → Planes → Planes
slice_built width s first mbs planes =
    steps (λ k now. macroblock_built width s first (first + k) (slice_index_or mbs k (blank_record kinds.Pcm 0)) now) (length mbs) planes

-- ---- the records that the encoder makes

abbrev pub bit_if : Bool → ℕ → ℕ
bit_if is bit = if is then bit else 0

-- a bit for each 8x8 block that has a level
unfoldable pub luma_pattern : List ℤ → ℕ
luma_pattern luma =
    bit_if (some_level (slice_range luma 0 64)) 1 + bit_if (some_level (slice_range luma 64 128)) 2
    + bit_if (some_level (slice_range luma 128 192)) 4 + bit_if (some_level (slice_range luma 192 256)) 8

-- 0: no chroma level; 1: DC levels alone; 2: AC levels too
unfoldable pub chroma_pattern : List ℤ → List ℤ → ℕ
chroma_pattern dc ac = if some_level ac then 2 else bit_if (some_level dc) 1

-- an intra macroblock's record
unfoldable pub intra_record : MbKind → Bool → List ℕ → ℕ → ℕ → ℕ → List ℤ → List ℤ → List ℤ → List ℤ → MbRecord
intra_record kind transform8 modes chroma_mode qp luma_cbp luma_dc luma dc ac = record {
  kind = kind;
  transform8 = transform8;
  modes = modes;
  chroma_mode = chroma_mode;
  motion = replicate 4 no_motion;
  mvd = replicate 8 zero_vector;
  luma_cbp = luma_cbp;
  chroma_cbp = chroma_pattern dc ac;
  qp = qp;
  luma_dc = luma_dc;
  luma = luma;
  chroma_dc = dc;
  chroma_ac = ac;
}

-- the DC levels of both chroma components, and their AC levels
unfoldable pub both_dc : ℕ → Site → ℕ → Planes → Planes → List ℤ
both_dc wide site mode source planes =
    chroma_dc (wide / 2) site mode source.cb planes.cb ++ chroma_dc (wide / 2) site mode source.cr planes.cr

unfoldable pub both_ac : ℕ → Site → ℕ → Planes → Planes → List ℤ
both_ac wide site mode source planes =
    chroma_ac (wide / 2) site mode source.cb planes.cb ++ chroma_ac (wide / 2) site mode source.cr planes.cr

-- the record of an Intra_4x4 macroblock with these modes
unfoldable pub intra4_record : ℕ → Site → List ℕ → ℕ → Planes → Planes → MbRecord
intra4_record wide site modes chroma_mode source planes =
    let luma = luma4_levels wide site modes source.luma planes.luma in
    intra_record kinds.Intra4 false modes chroma_mode site.qp (luma_pattern luma) (replicate 16 (pos 0)) luma
    (both_dc wide site chroma_mode source planes) (both_ac wide site chroma_mode source planes)

-- of an Intra_8x8 macroblock; of the sixteen modes the first four count
unfoldable pub intra8_record : ℕ → Site → List ℕ → ℕ → Planes → Planes → MbRecord
intra8_record wide site modes chroma_mode source planes =
    let luma = luma8_levels wide site modes source.luma planes.luma in
    intra_record kinds.Intra8 true modes chroma_mode site.qp (luma_pattern luma) (replicate 16 (pos 0)) luma
    (both_dc wide site chroma_mode source planes) (both_ac wide site chroma_mode source planes)

-- of an Intra_16x16 macroblock, whose luma pattern is 15 where some AC level isn't 0
unfoldable pub intra16_record : ℕ → Site → ℕ → ℕ → Planes → Planes → MbRecord
intra16_record wide site mode chroma_mode source planes =
    let luma = luma16_levels wide site mode source.luma planes.luma in
    intra_record kinds.Intra16 false (mode ∷ replicate 15 0) chroma_mode site.qp (bit_if (some_level luma) 15)
    (luma16_dc wide site mode source.luma planes.luma) luma
    (both_dc wide site chroma_mode source planes) (both_ac wide site chroma_mode source planes)
