-- A slice of records, and what its macroblocks see of the slice (ITU-T H.264, clauses 7.3.4 and 9.3.1).
use Rattle.std.specs.Prelude.{ℕ, Bool, List, Option}
use Rattle.enc_tables.specs.declared.records.CtxState.{CtxState}
use Rattle.enc_tables.specs.declared.records.MbRecord.{MbRecord}
use Rattle.enc_tables.specs.declared.records.Motion.{Motion}
use Rattle.spec_headers.specs.declared.heads.SliceHead.{SliceHead}
use Rattle.spec_contexts.specs.States.{pairs_of, start_states}
use Rattle.spec_partitions.specs.Near.{Near, View, SliceFacts, near_in, view_in}

pub record Slice : Type 0 where
  pub head : SliceHead
  -- its macroblocks in order
  pub records : List MbRecord

-- what the parameter sets tell a slice: PicWidthInMbs, PicSizeInMbs and transform_8x8_mode_flag
pub record Format : Type 0 where
  pub across : ℕ
  pub total : ℕ
  pub t8x8 : Bool

-- the motion of the four 8x8 blocks of a macroblock of the co-located picture, by its number
abbrev pub Colocated : Type 0
Colocated = ℕ → List (Option Motion)

abbrev pub facts_of : Format → SliceHead → SliceFacts
facts_of f h = record {
  kind = h.kind;
  width = f.across;
  first = h.first_mb;
  qp = h.qp;
  t8x8 = f.t8x8;
  refs0 = h.refs0;
  refs1 = h.refs1;
}

-- what is known behind these macroblocks of the slice
abbrev pub near_of : Format → SliceHead → List MbRecord → Near
near_of f h before = near_in (facts_of f h) before

abbrev pub view_of : Format → Colocated → SliceHead → List MbRecord → View
view_of f c h before = view_in (facts_of f h) c before

-- the states of the contexts where the slice starts
abbrev pub states_of : SliceHead → List CtxState
states_of h = start_states (pairs_of h.kind) h.qp
