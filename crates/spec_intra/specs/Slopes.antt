-- The modes that lay a plane through the neighbours (clauses 8.3.3.4 and 8.3.4.4).
use Rattle.std.specs.Prelude.{ℕ, List, ◌+◌, ◌-◌, ◌*◌, slice_index, ℤ, pos, ◌+ℤ◌, ◌-ℤ◌, ◌*ℤ◌}
use Rattle.std.specs.Int.{int_shr}
use Rattle.spec_basics.specs.Clip.{clip1}
use Rattle.spec_basics.specs.Sums.{sum_below}

-- H and V: how a line of 2 * h + 1 samples, the corner first, rises about its place h
unfoldable pub tilt : ℕ → List ℕ → ℤ
tilt h e =
    pos (sum_below (λ i. i * slice_index e (h + i)) (h + 1)) -ℤ pos (sum_below (λ i. i * slice_index e (h - i)) (h + 1))

-- b and c
unfoldable pub slope : ℕ → ℕ → List ℕ → ℤ
slope weight h e = int_shr (pos weight *ℤ tilt h e +ℤ pos 32) 6

-- the sample at column x of row y, by the sum of the two far ends and by the slopes to the right and downwards
unfoldable pub plane_at : ℕ → ℕ → ℤ → ℤ → ℕ → ℕ → ℕ
plane_at h ends b c x y =
    clip1 (int_shr (pos (16 * ends) +ℤ b *ℤ (pos (x + 1) -ℤ pos h) +ℤ c *ℤ (pos (y + 1) -ℤ pos h) +ℤ pos 16) 5)

-- the plane through the samples above and those at the left, each line with the corner first; weight 5 and h 8 for a luma
-- macroblock, weight 34 and h 4 for chroma
abbrev pub plane : ℕ → ℕ → List ℕ → List ℕ → ℕ → ℕ → ℕ
plane weight h above left =
    plane_at h (slice_index above (2 * h) + slice_index left (2 * h)) (slope weight h above) (slope weight h left)
