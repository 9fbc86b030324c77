-- The coded picture buffer of a receiver, where bits come at a constant rate (ITU-T H.264, clauses C.1.1, C.1.2 and C.3). All is in whole
-- numbers: each bit is counted 90000·num-fold, where num pictures come in den seconds.
use Rattle.std.specs.Prelude.{ℕ, ◌+◌, ◌*◌, ◌<◌, ◌≤◌, List, length, take}
use Rattle.std.specs.Simd.Lanes.{sum_l}

-- How pictures and bits come.
pub record Rate : Type 0 where
  -- so many pictures (time_scale / 2) in so many seconds (num_units_in_tick)
  pub num : ℕ
  pub den : ℕ
  -- bits a second (BitRate)
  pub rate : ℕ
  -- bits that the buffer holds (CpbSize)
  pub cpb : ℕ
  -- when the first unit is removed, in 90000ths of a second (initial_cpb_removal_delay)
  pub delay : ℕ

-- how often a bit is counted
abbrev pub scale : Rate → ℕ
scale t = 90000 * t.num

-- the bits that have come when unit n is removed: at delay/90000 + n·den/num seconds (clauses C.1.1 and C.1.2)
abbrev pub arrived : Rate → ℕ → ℕ
arrived t n = t.rate * (t.delay * t.num + 90000 * t.den * n)

-- a picture's share: the bits that come between two removals
abbrev pub share_of : Rate → ℕ
share_of t = t.rate * (90000 * t.den)

-- Unit n is whole when it is removed: no underflow. What has come then and wasn't removed before fits: no overflow (clause C.3).
pub record BufferHolds (t : Rate) (sizes : List ℕ) : Type 0 where
  pub no_underflow : (n : ℕ) → n < length sizes → scale t * sum_l (take (n + 1) sizes) ≤ arrived t n
  pub no_overflow : (n : ℕ) → n ≤ length sizes → arrived t n ≤ scale t * (t.cpb + sum_l (take n sizes))

-- What is asked of settings: the buffer has room for a picture's share and 48 bits, and the first delay fills at most the buffer
-- (clause D.2.2).
pub record IsRate (t : Rate) : Type 0 where
  pub some : 1 ≤ t.num
  pub share : t.rate * t.den + 48 * t.num ≤ t.cpb * t.num
  pub first : t.rate * t.delay ≤ 90000 * t.cpb
