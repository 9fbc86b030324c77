-- The arithmetic code of bins: the encoder of ITU-T H.264, clause 9.3.4, on one whole number, with no carry to be kept.
use Rattle.std.specs.Prelude.{ℕ, zero, suc, ◌+◌, ◌-◌, ◌*◌, ◌/◌, Bool, true, false, cond, nat_lt, List, [], ◌∷◌}
use Rattle.std.specs.Bool.{beq}
use Rattle.enc_tables.specs.Arithmetic.{lps_range}
use Rattle.spec_bits.specs.Bits.{digits}
use Rattle.spec_cabac.specs.Bins.{Bin}
use Rattle.spec_cabac.specs.Bins.Request.{Context, Bypass, Terminate}
use Rattle.spec_cabac.specs.Bins.Bin.{Answered}

-- the whole number so far, how often it was doubled, and the range
pub record Coded : Type 0 where
  pub low : ℕ
  pub shifts : ℕ
  pub range : ℕ

abbrev pub coded_start : Coded
coded_start = record { low = 0; shifts = 0; range = 510 }

abbrev pub doubled : Coded → Coded
doubled e = record { low = 2 * e.low; shifts = suc e.shifts; range = 2 * e.range }

-- doublings while the range is below 256, at most as many as the number
unfoldable pub renormalised : ℕ → Coded → Coded
renormalised zero e = e
renormalised (suc n) e = cond (nat_lt e.range 256) (renormalised n (doubled e)) e

-- the more probable value keeps the lower part of the range, and the less probable one takes the upper part
abbrev pub kept : ℕ → Coded → Coded
kept cut e = record { low = e.low; shifts = e.shifts; range = cut }

abbrev pub taken : ℕ → ℕ → Coded → Coded
taken cut size e = record { low = e.low + cut; shifts = e.shifts; range = size }

-- a range of at least 2 is at least 256 after seven doublings. After the end the range is 2 and isn't doubled
unfoldable pub step : Bin → Coded → Coded
step (Answered (Context c) bit) e =
    let size = lps_range c.state e.range in
    let cut = e.range - size in
    renormalised 7 (cond (beq bit c.mps) (kept cut e) (taken cut size e))
step (Answered Bypass bit) e = record { low = 2 * e.low + cond bit e.range 0; shifts = suc e.shifts; range = e.range }
step (Answered Terminate true) e = taken (e.range - 2) 2 e
step (Answered Terminate false) e = renormalised 7 (kept (e.range - 2) e)

abbrev pub run : List Bin → Coded → Coded
run [] e = e
run (b ∷ bs) e = run bs (step b e)

-- a number with its last binary digit set to 1
abbrev pub with_last_set : ℕ → ℕ
with_last_set v = 2 * (v / 2) + 1

-- the bits where the code ends
abbrev pub flushed : Coded → List Bool
flushed e = digits (e.shifts + 9) (with_last_set e.low)

abbrev pub arith_code : List Bin → List Bool
arith_code bs = flushed (run bs coded_start)
