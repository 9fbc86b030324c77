-- How strongly an edge is filtered, and its thresholds (ITU-T H.264, clauses 8.7.2.1 and 8.7.2.2).
use Rattle.std.specs.Prelude.{ℕ, Bool, true, false, cond, ◌+◌, ◌-◌, ◌*◌, ◌/◌, ◌&&◌, ◌||◌, nat_lt, List, [], slice_range, slice_index, slice_index_or, Option, Some, None, ℤ, pos, negsuc}
use Rattle.std.specs.List.{slice_get}
use Rattle.std.specs.Ordering.{int_eq}
use Rattle.std.specs.Int.{int_gap}
use Rattle.enc_tables.specs.declared.records.MbRecord.{MbRecord}
use Rattle.enc_tables.specs.declared.records.Motion.{Motion}
use Rattle.enc_tables.specs.declared.records.Vector.{Vector}
use Rattle.enc_tables.specs.declared.filter.TheConstants.{FILTER_ALPHA, FILTER_BETA, FILTER_TC0}
use Rattle.enc_tables.specs.declared.transform.TheConstants.{CHROMA_QP}
use Rattle.enc_tables.specs.Kinds.{is_pcm, is_intra}
use Rattle.enc_tables.specs.Records.{zero_vector}
use Rattle.spec_basics.specs.Blocks.{block_number}
use Rattle.spec_contexts.specs.Increments.{some_level}
use Rattle.spec_filter.specs.declared.EdgeRule.{EdgeRule}

-- whether the transform block with the 4x4 block of this row and column has a level that isn't 0
unfoldable pub is_coded : MbRecord → ℕ → ℕ → Bool
is_coded mb row column =
    let b = block_number column row in
    some_level (cond mb.transform8 (slice_range mb.luma (64 * (b / 4)) (64 * (b / 4) + 64)) (slice_range mb.luma (16 * b) (16 * b + 16)))

abbrev pub still : Motion
still = record { refs = []; vectors = [] }

-- the motion of the 8x8 block with the 4x4 block of this row and column
abbrev pub motion_at : MbRecord → ℕ → ℕ → Motion
motion_at mb row column = slice_index_or mb.motion (block_number column row / 4) still

-- the picture that a reference index of a list means; none where the list isn't used
abbrev pub picture_at : List ℤ → ℤ → Option ℤ
picture_at pictures (pos k) = slice_get pictures k
picture_at pictures (negsuc k) = None

-- less than four quarter samples apart
abbrev pub is_near : ℤ → ℤ → Bool
is_near a b = nat_lt (int_gap a b + int_gap b a) 4

-- both lists unused, or both vectors to the same picture and near each other in both components
abbrev pub is_like : Option ℤ → Vector → Option ℤ → Vector → Bool
is_like None v None w = true
is_like None v (Some b) w = false
is_like (Some a) v None w = false
is_like (Some a) v (Some b) w = int_eq a b && is_near v.x w.x && is_near v.y w.y

-- as many vectors, each in one and the same of the two orders to the same picture and near its fellow: neither other reference
-- pictures, nor another number of vectors, nor vectors that differ by four or more
unfoldable pub is_alike : List ℤ → List ℤ → Motion → Motion → Bool
is_alike pictures0 pictures1 p q =
    let p0 = picture_at pictures0 (slice_index_or p.refs 0 (pos 0)) in
    let p1 = picture_at pictures1 (slice_index_or p.refs 1 (pos 0)) in
    let q0 = picture_at pictures0 (slice_index_or q.refs 0 (pos 0)) in
    let q1 = picture_at pictures1 (slice_index_or q.refs 1 (pos 0)) in
    let vp0 = slice_index_or p.vectors 0 zero_vector in
    let vp1 = slice_index_or p.vectors 1 zero_vector in
    let vq0 = slice_index_or q.vectors 0 zero_vector in
    let vq1 = slice_index_or q.vectors 1 zero_vector in
    is_like p0 vp0 q0 vq0 && is_like p1 vp1 q1 vq1 || is_like p0 vp0 q1 vq1 && is_like p1 vp1 q0 vq0

-- bS between two 4x4 blocks, by the first rule that holds; `outer` where a macroblock's edge lies between them
unfoldable pub strength : List ℤ → List ℤ → Bool → MbRecord → ℕ → ℕ → MbRecord → ℕ → ℕ → ℕ
strength pictures0 pictures1 outer p p_row p_column q q_row q_column =
    cond (is_intra p.kind || is_intra q.kind) (cond outer 4 3)
    (cond (is_coded p p_row p_column || is_coded q q_row q_column) 2
    (cond (is_alike pictures0 pictures1 (motion_at p p_row p_column) (motion_at q q_row q_column)) 0 1))

-- the quantisation parameter that counts: that of I_PCM is 0; for chroma the chroma parameter
unfoldable pub filter_qp : Bool → MbRecord → ℕ
filter_qp chroma mb =
    let qp = cond (is_pcm mb.kind) 0 mb.qp in
    cond chroma (slice_index CHROMA_QP qp) qp

-- the rounded average of both sides
abbrev pub filter_index : Bool → MbRecord → MbRecord → ℕ
filter_index chroma p q = (filter_qp chroma p + filter_qp chroma q + 1) / 2

-- tC0 of an index and a strength: strengths 1 to 3 have one
abbrev pub tc0_of : ℕ → ℕ → ℕ
tc0_of index bs = cond (nat_lt 0 bs && nat_lt bs 4) (slice_index FILTER_TC0 (3 * index + bs - 1)) 0

unfoldable pub rule_at : Bool → ℕ → ℕ → EdgeRule
rule_at chroma index bs = record {
  chroma = chroma;
  strength = bs;
  alpha = slice_index FILTER_ALPHA index;
  beta = slice_index FILTER_BETA index;
  tc0 = tc0_of index bs;
}
