-- The elements of the macroblock layer in I slices: the bits of each value (ITU-T H.264, clause 9.3.2), and the context of each bin by the
-- bins before it: ctxIdxOffset and ctxIdxInc (clause 9.3.3.1, tables 9-34, 9-39 and 9-41). An increment inc is what the macroblocks around
-- say (clause 9.3.3.1.1).
use Rattle.std.specs.Prelude.{ℕ, zero, suc, ◌+◌, ◌*◌, ◌/◌, ◌%◌, ◌<◌, ◌==◌, Bool, true, false, not, cond, List, [], ◌∷◌, ◌++◌, Option, Some, None, get_or, length, nat_abs, ◌≤◌, ℤ, pos, negsuc}
use Rattle.enc_tables.specs.Kinds.{is_16x16, is_pcm}
use Rattle.enc_tables.specs.declared.records.MbRecord.{MbRecord}
use Rattle.spec_syntax.specs.declared.Bin.{Bin}
use Rattle.spec_syntax.specs.Syntax.{Syntax, done, nothing, ask, at}
use Rattle.spec_syntax.specs.Numbers.{unary, truncated, low_first}

-- ---- elements of few values

-- the bins of these bits, after those
abbrev pub string : (List Bool → ℕ) → List Bool → List Bool → List Bin
string ctx before [] = []
string ctx before (b ∷ bits) = at (ctx before) b ∷ string ctx (before ++ b ∷ []) bits

-- the value whose bits are all read
abbrev pub whole : {V : Type 0} → List (V × List Bool) → Option V
whole [] = None
whole ((v, []) ∷ es) = Some v
whole ((v, b ∷ bits) ∷ es) = whole es

-- the values that go on with this bit, with the bits behind it
abbrev pub with_bit : {V : Type 0} → Bool → List (V × List Bool) → List (V × List Bool)
with_bit b [] = []
with_bit b ((v, []) ∷ es) = with_bit b es
with_bit true ((v, true ∷ bits) ∷ es) = (v, bits) ∷ with_bit true es
with_bit true ((v, false ∷ bits) ∷ es) = with_bit true es
with_bit false ((v, true ∷ bits) ∷ es) = with_bit false es
with_bit false ((v, false ∷ bits) ∷ es) = (v, bits) ∷ with_bit false es

-- bins, at most as many as the number, are asked for until they are the string of one of the values
abbrev pub one_of : {V : Type 0} → ℕ → (List Bool → ℕ) → List Bool → List (V × List Bool) → Syntax V
one_of n ctx before [] = nothing
one_of zero ctx before (e ∷ es) = elim (whole (e ∷ es)) [ Some v ↦ done v | None ↦ nothing ]
one_of (suc n) ctx before (e ∷ es) = elim (whole (e ∷ es)) [ Some v ↦ done v | None ↦ ask (ctx before) (λ b. one_of n ctx (before ++ b ∷ []) (with_bit b (e ∷ es))) ]

-- values with their bits
abbrev pub with_bits : {V : Type 0} → (V → List Bool) → List V → List (V × List Bool)
with_bits bits [] = []
with_bits bits (v ∷ vs) = (v, bits v) ∷ with_bits bits vs

-- so many numbers from this one on
abbrev pub numbers : ℕ → ℕ → List ℕ
numbers zero first = []
numbers (suc n) first = first ∷ numbers n (suc first)

-- ---- mb_type in I slices (clause 9.3.2.5, tables 7-11 and 9-36)

-- by 4x4 or 8x8 blocks; samples as they are; or of the whole macroblock, with its mode, its chroma pattern, and whether luma has AC levels
pub data IntraType : Type 0 where
  NxN : IntraType
  Pcm : IntraType
  Whole : ℕ → ℕ → Bool → IntraType

abbrev pub IsIntraType : IntraType → Type 0
IsIntraType NxN = Unit {0}
IsIntraType Pcm = Unit {0}
IsIntraType (Whole mode chroma ac) = (mode < 4) × (chroma < 3)

abbrev pub type_bits : IntraType → List Bool
type_bits NxN = false ∷ []
type_bits Pcm = true ∷ true ∷ []
type_bits (Whole mode chroma ac) = (true ∷ false ∷ ac ∷ truncated 2 chroma) ++ ((mode / 2 == 1) ∷ (mode % 2 == 1) ∷ [])

abbrev pub type_at : ℕ → List Bool → ℕ
type_at inc [] = 3 + inc
type_at inc (a ∷ []) = 276
type_at inc (a ∷ b ∷ []) = 6
type_at inc (a ∷ b ∷ c ∷ []) = 7
type_at inc (a ∷ b ∷ c ∷ true ∷ []) = 8
type_at inc (a ∷ b ∷ c ∷ true ∷ d ∷ []) = 9
type_at inc (a ∷ b ∷ c ∷ false ∷ []) = 9
type_at inc (a ∷ b ∷ c ∷ d ∷ es) = 10

abbrev pub modes_of : ℕ → Bool → List IntraType
modes_of chroma ac = Whole 0 chroma ac ∷ Whole 1 chroma ac ∷ Whole 2 chroma ac ∷ Whole 3 chroma ac ∷ []

abbrev pub intra_types : List IntraType
intra_types = (NxN ∷ Pcm ∷ []) ++ modes_of 0 false ++ modes_of 1 false ++ modes_of 2 false ++ modes_of 0 true ++ modes_of 1 true ++ modes_of 2 true

unfoldable pub intra_type : ℕ → Syntax IntraType
intra_type inc = one_of 7 (type_at inc) [] (with_bits type_bits intra_types)

unfoldable pub intra_type_string : ℕ → IntraType → List Bin
intra_type_string inc t = string (type_at inc) [] (type_bits t)

-- a record's type. Of a whole macroblock the luma pattern is 15 where luma has AC levels, and else 0
abbrev pub intra_type_of : MbRecord → IntraType
intra_type_of mb = cond (is_16x16 mb.kind) (Whole (get_or mb.modes 0 0) mb.chroma_cbp (not (mb.luma_cbp == 0))) (cond (is_pcm mb.kind) Pcm NxN)

-- ---- the intra modes

-- prev_intra4x4_pred_mode_flag, prev_intra8x8_pred_mode_flag
abbrev pub mode_flag : ℕ
mode_flag = 68

-- rem_intra4x4_pred_mode, rem_intra8x8_pred_mode: three bits, the low one first
unfoldable pub mode_rem : Syntax ℕ
mode_rem = one_of 3 (λ before. 69) [] (with_bits (low_first 3) (numbers 8 0))

unfoldable pub mode_rem_string : ℕ → List Bin
mode_rem_string rem = string (λ before. 69) [] (low_first 3 rem)

-- intra_chroma_pred_mode: truncated unary, at most 3
abbrev pub chroma_mode_at : ℕ → List Bool → ℕ
chroma_mode_at inc [] = 64 + inc
chroma_mode_at inc (b ∷ before) = 67

unfoldable pub chroma_mode : ℕ → Syntax ℕ
chroma_mode inc = one_of 3 (chroma_mode_at inc) [] (with_bits (truncated 3) (numbers 4 0))

unfoldable pub chroma_mode_string : ℕ → ℕ → List Bin
chroma_mode_string inc mode = string (chroma_mode_at inc) [] (truncated 3 mode)

-- ---- coded_block_pattern (clause 9.3.2.6)

-- the four 8x8 luma blocks: the increment of each is by the bins of those before it
unfoldable pub luma_pattern : (List Bool → ℕ) → Syntax ℕ
luma_pattern inc = one_of 4 (λ before. 73 + inc before) [] (with_bits (low_first 4) (numbers 16 0))

unfoldable pub luma_pattern_string : (List Bool → ℕ) → ℕ → List Bin
luma_pattern_string inc pattern = string (λ before. 73 + inc before) [] (low_first 4 pattern)

-- four increments, by how many bins came before
abbrev pub inc_of : List ℕ → List Bool → ℕ
inc_of incs before = get_or incs (length before) 0

-- chroma: truncated unary, at most 2
abbrev pub chroma_pattern_at : ℕ → ℕ → List Bool → ℕ
chroma_pattern_at first second [] = 77 + first
chroma_pattern_at first second (b ∷ before) = 81 + second

unfoldable pub chroma_pattern : ℕ → ℕ → Syntax ℕ
chroma_pattern first second = one_of 2 (chroma_pattern_at first second) [] (with_bits (truncated 2) (numbers 3 0))

unfoldable pub chroma_pattern_string : ℕ → ℕ → ℕ → List Bin
chroma_pattern_string first second pattern = string (chroma_pattern_at first second) [] (truncated 2 pattern)

-- ---- transform_size_8x8_flag

abbrev pub transform_flag : ℕ → ℕ
transform_flag inc = 399 + inc

-- ---- mb_qp_delta: unary of the mapped value (clauses 9.3.2.7 and 9.1.1); here it is -4 to 4

abbrev pub mapped : ℤ → ℕ
mapped (pos zero) = 0
mapped (pos (suc n)) = 2 * n + 1
mapped (negsuc n) = 2 * n + 2

abbrev pub IsDelta : ℤ → Type 0
IsDelta d = nat_abs d ≤ 4

abbrev pub deltas : List ℤ
deltas = pos 0 ∷ pos 1 ∷ negsuc 0 ∷ pos 2 ∷ negsuc 1 ∷ pos 3 ∷ negsuc 2 ∷ pos 4 ∷ negsuc 3 ∷ []

abbrev pub delta_at : ℕ → List Bool → ℕ
delta_at inc [] = 60 + inc
delta_at inc (b ∷ []) = 62
delta_at inc (b ∷ c ∷ before) = 63

unfoldable pub qp_delta : ℕ → Syntax ℤ
qp_delta inc = one_of 9 (delta_at inc) [] (with_bits (λ d. unary (mapped d)) deltas)

unfoldable pub qp_delta_string : ℕ → ℤ → List Bin
qp_delta_string inc d = string (delta_at inc) [] (unary (mapped d))

-- ---- end_of_slice_flag, coded before termination

abbrev pub end_of_slice : ℕ
end_of_slice = 276
