-- Clips and shifts over natural numbers.
use Rattle.std.proofs.Common.{◌≡◌, ℕ, ◌+◌, ◌-◌, ◌*◌, ◌/◌, ◌<◌, min, refl, ap, arith, ℤ, pos, negsuc, ◌+ℤ◌, ◌-ℤ◌}
use Rattle.std.proofs.lemmas.Int.{ints}
use Rattle.std.specs.Int.{int_shr}
use Rattle.spec_basics.specs.Clip.{clip1}
use Rattle.spec_inter.specs.Taps.{tap, half, half_twice}
use Rattle.subpel_filter.specs.Rows.{middle}

-- a shift and a clip of a difference
pub clipped_5 : (u d : ℕ) (z : ℤ) → z ≡ pos u -ℤ pos d → clip1 (int_shr z 5) ≡ min ((u - d) / 32) 255
clipped_5 u d (pos n) e = let m : n ≡ u - d = omega (arith, ints) in ap (λ (v : ℕ). min (v / 32) 255) m
clipped_5 u d (negsuc n) e = let m : u - d ≡ 0 = omega (arith, ints) in rw m refl

pub clipped_10 : (u d : ℕ) (z : ℤ) → z ≡ pos u -ℤ pos d → clip1 (int_shr z 10) ≡ min ((u - d) / 1024) 255
clipped_10 u d (pos n) e = let m : n ≡ u - d = omega (arith, ints) in ap (λ (v : ℕ). min (v / 1024) 255) m
clipped_10 u d (negsuc n) e = let m : u - d ≡ 0 = omega (arith, ints) in rw m refl

pub half_up_down : (a b c d e f : ℕ) → half (tap (pos a) (pos b) (pos c) (pos d) (pos e) (pos f)) ≡ min ((a + 20 * (c + d) + f + 16 - 5 * (b + e)) / 32) 255
half_up_down a b c d e f = clipped_5 (a + 20 * (c + d) + f + 16) (5 * (b + e)) _ (omega (arith, ints))

pub raw_up_down : (a b c d e f : ℕ) → a < 256 → b < 256 → c < 256 → d < 256 → e < 256 → f < 256
    → pos (a + 20 * (c + d) + f + 2550 - 5 * (b + e)) ≡ tap (pos a) (pos b) (pos c) (pos d) (pos e) (pos f) +ℤ pos 2550
raw_up_down a b c d e f pa pb pc pd pe pf = omega (arith, ints)

pub half_twice_up : (s0 s1 s2 s3 s4 s5 : ℤ) (v0 v1 v2 v3 v4 v5 : ℕ) → pos v0 ≡ s0 +ℤ pos 2550 → pos v1 ≡ s1 +ℤ pos 2550 → pos v2 ≡ s2 +ℤ pos 2550
    → pos v3 ≡ s3 +ℤ pos 2550 → pos v4 ≡ s4 +ℤ pos 2550 → pos v5 ≡ s5 +ℤ pos 2550 → half_twice (tap s0 s1 s2 s3 s4 s5) ≡ middle v0 v1 v2 v3 v4 v5
half_twice_up s0 s1 s2 s3 s4 s5 v0 v1 v2 v3 v4 v5 a b c d e f = clipped_10 (v0 + 20 * (v2 + v3) + v5 + 512) (5 * (v1 + v4) + 81600) _ (omega (arith, ints))
