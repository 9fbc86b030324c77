-- The order in which the vectors of a window are tried: by the greater of their two sizes, then by dy, then by dx.
use Rattle.std.specs.Prelude.{ℕ, ℤ, zero, suc, pos, if◌then◌else◌, nat_eq, nat_lt, nat_abs, max, ◌+◌, ◌*◌, ◌<◌, ◌≤◌, ◌≡◌, ◌-ℤ◌, ◌<ℤ◌, ◌⊎◌}
use Rattle.spec_search.specs.declared.blocks.Spot.{Spot}

-- VECTORS

-- no part of the vector is larger than the range
pub record InRange (range : ℕ) (dx dy : ℤ) : Type 0 where
  pub across : nat_abs dx ≤ range
  pub down : nat_abs dy ≤ range

-- the greater of the two sizes
abbrev pub ring_of : ℤ → ℤ → ℕ
ring_of dx dy = max (nat_abs dx) (nat_abs dy)

-- (u, v) is tried before (dx, dy)
abbrev pub Before : ℤ → ℤ → ℤ → ℤ → Type 0
Before u v dx dy =
    (ring_of u v < ring_of dx dy)
    ⊎ ((ring_of u v ≡ ring_of dx dy) × (v <ℤ dy))
    ⊎ ((ring_of u v ≡ ring_of dx dy) × (v ≡ dy) × (u <ℤ dx))

-- PLACES: vectors by rings about zero

abbrev pub dx_of : Spot → ℤ
dx_of s = pos s.column -ℤ pos s.ring

abbrev pub dy_of : Spot → ℤ
dy_of s = pos s.row -ℤ pos s.ring

-- the one after: along the first and the last row of a ring by columns, in the rows between from the first column to
-- the last, then on to the next row, and behind the last row to the next ring
abbrev pub next_at : ℕ → ℕ → ℕ → Spot
next_at ring column row = record {
  ring = (if nat_lt column (2 * ring) then ring else (if nat_lt row (2 * ring) then ring else ring + 1));
  column = (if nat_lt column (2 * ring) then (if nat_eq row 0 then column + 1 else (if nat_lt row (2 * ring) then 2 * ring else column + 1)) else 0);
  row = (if nat_lt column (2 * ring) then row else (if nat_lt row (2 * ring) then row + 1 else 0));
}

abbrev pub next : Spot → Spot
next s = next_at s.ring s.column s.row

-- what stands at each place of the scan
unfoldable pub spot_at : ℕ → Spot
spot_at zero = record { ring = 0; column = 0; row = 0 }
spot_at (suc n) = next (spot_at n)

-- how many vectors a window has
abbrev pub window_size : ℕ → ℕ
window_size range = (2 * range + 1) * (2 * range + 1)

-- the places before the window's size are the vectors of the window, each at one place, in the order of trying
pub record ScanOrder : Type 0 where
  pub inside : (range n : ℕ) → n < window_size range → InRange range (dx_of (spot_at n)) (dy_of (spot_at n))
  pub reached : (range : ℕ) (u v : ℤ) → InRange range u v → (n : ℕ) × (n < window_size range) × (dx_of (spot_at n) ≡ u) × (dy_of (spot_at n) ≡ v)
  pub order : (m n : ℕ) → m < n → Before (dx_of (spot_at m)) (dy_of (spot_at m)) (dx_of (spot_at n)) (dy_of (spot_at n))
