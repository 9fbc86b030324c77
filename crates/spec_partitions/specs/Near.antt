-- What is known before a macroblock is read: the macroblocks around it and what the slice says (ITU-T H.264, clauses 6.4.8, 6.4.9 and 7.4.5).
use Rattle.std.specs.Prelude.{ℕ, ◌+◌, ◌-◌, ◌%◌, ◌==◌, Bool, false, not, ◌&&◌, ◌||◌, nat_lt, if◌then◌else◌, List, [], ◌∷◌, length, get_or, Option, Some, None}
use Rattle.enc_tables.specs.declared.records.MbKind.{MbKind}
use Rattle.enc_tables.specs.declared.records.MbRecord.{MbRecord}
use Rattle.enc_tables.specs.declared.records.Motion.{Motion}
use Rattle.enc_tables.specs.declared.records.SliceKind.{SliceKind}
use Rattle.enc_tables.specs.Kinds.{is_16x16, is_intra, is_skipped}
use Rattle.enc_tables.specs.Records.{no_record}

pub record Near : Type 0 where
  -- the slice's type
  pub kind : SliceKind
  -- macroblocks A, at the left, and B, above; none where not available
  pub left : Option MbRecord
  pub above : Option MbRecord
  -- whether the macroblock before in the slice has an mb_qp_delta that isn't 0
  pub last_delta : Bool
  -- QP_Y,PRED: the QP of the macroblock before in the slice, or the slice's QP
  pub qp : ℕ
  -- transform_8x8_mode_flag
  pub t8x8 : Bool
  -- how many entries lists 0 and 1 have
  pub refs0 : ℕ
  pub refs1 : ℕ

-- what motion is derived from besides, of which no bin depends
pub record View : Type 0 where
  pub near : Near
  -- macroblocks C, above at the right, and D, above at the left
  pub above_right : Option MbRecord
  pub above_left : Option MbRecord
  -- the motion of the 8x8 blocks of the macroblock in the same place of list 1's first picture; none in an intra macroblock
  pub colocated : List (Option Motion)

-- coded_block_pattern is present: of all but Intra 16x16, whose type has it, and skipped macroblocks
abbrev pub has_pattern : MbKind → Bool
has_pattern kind = not (is_16x16 kind) && not (is_skipped kind)

-- an inter macroblock with luma levels says whether they are of 8x8 transforms
abbrev pub can_have_8x8 : MbRecord → Bool
can_have_8x8 mb = not (is_intra mb.kind) && not (mb.luma_cbp == 0)

-- mb_qp_delta and a residual are present (clause 7.3.5): of Intra 16x16 always, else where some bit of the pattern is set
abbrev pub has_residual : MbRecord → Bool
has_residual mb = is_16x16 mb.kind || not (mb.luma_cbp == 0) || not (mb.chroma_cbp == 0)

-- mb_qp_delta is present and isn't 0, after a macroblock of this QP
abbrev pub has_delta : ℕ → MbRecord → Bool
has_delta qp mb = has_residual mb && not (mb.qp == qp)

-- the QP of the last of these records, or the slice's
unfoldable pub last_qp : ℕ → List MbRecord → ℕ
last_qp qp [] = qp
last_qp qp (mb ∷ mbs) = last_qp mb.qp mbs

-- whether the last of these records has an mb_qp_delta that isn't 0; where there is none, it is as given
unfoldable pub last_has_delta : Bool → ℕ → List MbRecord → Bool
last_has_delta given qp [] = given
last_has_delta given qp (mb ∷ mbs) = last_has_delta (has_delta qp mb) mb.qp mbs

-- what a slice says to all its macroblocks: its type, the picture's width in macroblocks, the slice's first macroblock and its QP,
-- transform_8x8_mode_flag and the lengths of its lists
pub record SliceFacts : Type 0 where
  pub kind : SliceKind
  pub width : ℕ
  pub first : ℕ
  pub qp : ℕ
  pub t8x8 : Bool
  pub refs0 : ℕ
  pub refs1 : ℕ

-- the record so many macroblocks before the next one, where it is in the slice and no edge of the picture is between
abbrev pub back : List MbRecord → ℕ → Bool → Option MbRecord
back before n edge = if edge || nat_lt (length before) n then None else Some (get_or before (length before - n) no_record)

-- after these records of a slice: a macroblock is available to a later one of the same slice
unfoldable pub near_in : SliceFacts → List MbRecord → Near
near_in s before = record {
  kind = s.kind;
  left = if length before == 0 || (s.first + length before) % s.width == 0 then None else Some (get_or before (length before - 1) no_record);
  above = if nat_lt (length before) s.width then None else Some (get_or before (length before - s.width) no_record);
  last_delta = last_has_delta false s.qp before;
  qp = last_qp s.qp before;
  t8x8 = s.t8x8;
  refs0 = s.refs0;
  refs1 = s.refs1;
}

-- with the motion of list 1's first picture by a macroblock's number
abbrev pub view_in : SliceFacts → (ℕ → List (Option Motion)) → List MbRecord → View
view_in s colocated before = record {
  near = near_in s before;
  above_right = back before (s.width - 1) ((s.first + length before + 1) % s.width == 0);
  above_left = back before (s.width + 1) ((s.first + length before) % s.width == 0);
  colocated = colocated (s.first + length before);
}
