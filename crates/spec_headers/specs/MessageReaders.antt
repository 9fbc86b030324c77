-- Units beside the pictures: supplemental enhancement information and filler data (ITU-T H.264, clauses 7.3.2.3, 7.3.2.7, D.1.2 and D.1.3).
use Rattle.std.specs.Prelude.{ℕ, ◌^◌, ◌<◌, ◌≤◌, ◌==◌, ◌&&◌, nat_lt, Bool, false, List, [], ◌∷◌, Option, Some, None, IfSome, if◌then◌else◌}
use Rattle.spec_reading.specs.Reader.{Reader, done, ◌>>=◌, u, ue, fixed, only}

-- what the messages of a picture say: initial_cpb_removal_delay of the buffering period that begins with it, cpb_removal_delay and
-- dpb_output_delay
pub record Delays : Type 0 where
  pub initial : Option ℕ
  pub removal : ℕ
  pub output : ℕ

-- pic_timing, behind payloadType 1 (clause D.1.3)
abbrev pub timing : Option ℕ → Reader Delays
timing initial =
    fixed (u 8) 6 >>= λ _.  -- payloadSize
    u 24 >>= λ removal.  -- cpb_removal_delay
    u 24 >>= λ output.  -- dpb_output_delay
    done (record { initial = initial; removal = removal; output = output })

-- buffering_period, behind payloadType 0 (clause D.1.2); the delay isn't 0 (clause D.2.2)
abbrev pub buffering : Reader ℕ
buffering =
    fixed (u 8) 9 >>= λ _.  -- payloadSize
    fixed ue 0 >>= λ _.  -- seq_parameter_set_id
    u 32 >>= λ delay.  -- initial_cpb_removal_delay
    only (nat_lt 0 delay) >>= λ _.
    fixed (u 32) 0 >>= λ _.  -- initial_cpb_removal_delay_offset
    fixed (u 7) 64 >>= λ _.  -- bit_equal_to_one, and bit_equal_to_zero to the byte
    done delay

abbrev pub by_type : ℕ → Reader Delays
by_type kind = if kind == 1 then timing None else (only (kind == 0) >>= λ _. buffering >>= λ delay. fixed (u 8) 1 >>= λ _. timing (Some delay))

-- the messages in one unit: of timing alone, or behind one of a buffering period
unfoldable pub delays : Reader Delays
delays = u 8 >>= by_type

-- delays that the messages have room for
pub record AreDelays (d : Delays) : Type 0 where
  pub initial : IfSome d.initial (λ delay. (1 ≤ delay) × (delay < 2 ^ 32))
  pub removal : d.removal < 2 ^ 24
  pub output : d.output < 2 ^ 24

-- bytes FF, and the trailing bits
abbrev pub is_filler : List ℕ → Bool
is_filler [] = false
is_filler (b ∷ []) = b == 128
is_filler (b ∷ c ∷ bytes) = (b == 255) && is_filler (c ∷ bytes)
