-- How ranges and states go by the tables of the arithmetic coder (ITU-T H.264, clause 9.3.3.2.1).
use Rattle.std.specs.Prelude.{ℕ, ◌+◌, ◌*◌, ◌/◌, ◌%◌, ◌==◌, Bool, not, cond, nat_lt, get_or}
use Rattle.std.specs.Bool.{beq}
use Rattle.enc_tables.specs.declared.arithmetic.TheConstants.{RANGE_LPS, NEXT_LPS}
use Rattle.enc_tables.specs.declared.records.CtxState.{CtxState}

-- codIRangeLPS (table 9-44), for a state of at most 63. Past the table it is 2, as in its last entries
unfoldable pub lps_range : ℕ → ℕ → ℕ
lps_range state range = get_or RANGE_LPS (4 * state + range / 64 % 4) 2

-- the state after a more and after a less probable value (table 9-45)
abbrev pub after_mps : ℕ → ℕ
after_mps state = cond (nat_lt state 62) (state + 1) state

unfoldable pub after_lps : ℕ → ℕ
after_lps state = get_or NEXT_LPS state 0

-- the state of a context after a bin (clause 9.3.3.2.1.1)
abbrev pub state_after : CtxState → Bool → CtxState
state_after c bit = cond (beq bit c.mps)
    (record { state = after_mps c.state; mps = c.mps })
    (record { state = after_lps c.state; mps = cond (c.state == 0) (not c.mps) c.mps })
