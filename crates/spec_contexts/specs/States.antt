-- The states of the contexts where a slice starts (ITU-T H.264, clause 9.3.1.1).
use Rattle.std.specs.Prelude.{ℕ, ◌+◌, ◌-◌, ◌*◌, ◌≤◌, min, true, false, if◌then◌else◌, nat_le, ◌⊎◌, ℤ, pos, negsuc, ◌+ℤ◌, ◌*ℤ◌, List, map, slice_index_or}
use Rattle.std.specs.Int.{int_shr}
use Rattle.std.specs.List.{range_with_len}
use Rattle.enc_tables.specs.declared.contexts.TheConstants.{CONTEXT_PAIRS_I, CONTEXT_PAIRS_PB}
use Rattle.enc_tables.specs.declared.records.CtxState.{CtxState}
use Rattle.enc_tables.specs.declared.records.SliceKind.{SliceKind}
use Rattle.enc_tables.specs.declared.records.SliceKind.TheVariants as kinds

-- the pairs m, n of the contexts of a slice, one after another
abbrev pub pairs_of : SliceKind → List ℤ
pairs_of kinds.I = CONTEXT_PAIRS_I
pairs_of kinds.P = CONTEXT_PAIRS_PB
pairs_of kinds.B = CONTEXT_PAIRS_PB

-- Clip3(1, 126, x)
abbrev pub clipped : ℤ → ℕ
clipped (pos x) = if nat_le x 126 then (if nat_le 1 x then x else 1) else 126
clipped (negsuc x) = 1

-- preCtxState: Clip3(1, 126, ((m * Clip3(0, 51, SliceQPY)) >> 4) + n)
unfoldable pub pre_state : ℤ → ℤ → ℕ → ℕ
pre_state m n qp = clipped (int_shr (m *ℤ pos (min 51 qp)) 4 +ℤ n)

-- pStateIdx and valMPS
abbrev pub state_at : ℕ → CtxState
state_at pre = if nat_le pre 63 then record { state = 63 - pre; mps = false } else record { state = pre - 64; mps = true }

-- the state of context c where a slice starts
unfoldable pub start_state : List ℤ → ℕ → ℕ → CtxState
start_state pairs qp c = state_at (pre_state (slice_index_or pairs (2 * c) (pos 0)) (slice_index_or pairs (2 * c + 1) (pos 0)) qp)

-- the states of the contexts 0 to 435
unfoldable pub start_states : List ℤ → ℕ → List CtxState
start_states pairs qp = map (start_state pairs qp) (range_with_len 0 436)

-- where a list of states ends
abbrev pub no_state : CtxState
no_state = record { state = 0; mps = false }

-- each state is one of the arithmetic coder's
abbrev pub AllKnown : List CtxState → Type 0
AllKnown states = (c : ℕ) → (slice_index_or states c no_state).state ≤ 63

-- the contexts that frames use: those of slices of each kind, and those of P and B slices alone. By table 9-34, 70 to 72 are of
-- mb_field_decoding_flag, 276 is without a state, and 277 to 398 are of the significance maps of fields
abbrev pub InEachSlice : ℕ → Type 0
InEachSlice c = (c ≤ 10) ⊎ ((60 ≤ c) × (c ≤ 69)) ⊎ ((73 ≤ c) × (c ≤ 275)) ⊎ ((399 ≤ c) × (c ≤ 435))

abbrev pub IsListed : SliceKind → ℕ → Type 0
IsListed kinds.I c = InEachSlice c
IsListed kinds.P c = InEachSlice c ⊎ ((11 ≤ c) × (c ≤ 59))
IsListed kinds.B c = InEachSlice c ⊎ ((11 ≤ c) × (c ≤ 59))
