-- The whole number of the code, from the bytes and the register.
use Rattle.std.specs.Prelude.{ℕ, zero, suc, nat_lt, ◌≡◌, ◌+◌, ◌*◌, ◌^◌, Bool, cond}
use Rattle.spec_cabac.specs.Code.{Coded}
use Rattle.cabac_coder.specs.Emitted.{Emitted}

-- the register has nine digits of the number, a place for a carry, and as many digits more as are queued
abbrev pub whole : Emitted → ℕ → ℕ → ℕ → Coded
whole e low range queued = record { low = 512 * (2 ^ queued * e.number) + low; shifts = e.count + queued; range = range }

-- nothing but the number and its digits changes
pub record Grows (old new : Emitted) : Type 0 where
  pub start : new.start ≡ old.start
  pub room : new.room ≡ old.room
  pub made : new.made ≡ old.made

-- the range is narrowed to its part of that size which begins there
abbrev pub moved : ℕ → ℕ → Coded → Coded
moved add range e = record { low = e.low + add; shifts = e.shifts; range = range }

abbrev pub bypassing : Bool → Coded → Coded
bypassing bit e = record { low = 2 * e.low + cond bit e.range 0; shifts = e.shifts + 1; range = e.range }

-- how many doublings a range takes, at most as many as the first number
unfoldable pub doublings_of : ℕ → ℕ → ℕ
doublings_of zero r = 0
doublings_of (suc n) r = cond (nat_lt r 256) (suc (doublings_of n (2 * r))) 0
