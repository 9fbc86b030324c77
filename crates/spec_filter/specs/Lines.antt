-- What becomes of a line of samples across an edge (ITU-T H.264, clause 8.7.2).
use Rattle.std.specs.Prelude.{ℕ, Bool, ◌+◌, ◌*◌, ◌/◌, ◌&&◌, not, nat_lt, cond, ℤ, pos, ◌+ℤ◌, ◌-ℤ◌, ◌*ℤ◌}
use Rattle.std.specs.Int.{int_shr, abs_diff}
use Rattle.spec_basics.specs.Clip.{clip3, clip1}
use Rattle.spec_filter.specs.declared.SampleLine.{SampleLine}
use Rattle.spec_filter.specs.declared.EdgeRule.{EdgeRule}

-- the nearest number from -t to t
abbrev pub limited : ℕ → ℤ → ℤ
limited t v = clip3 (pos 0 -ℤ pos t) (pos t) v

abbrev pub one_where : Bool → ℕ
one_where b = cond b 1 0

-- filterSamplesFlag, where bS isn't 0 (8-468)
unfoldable pub is_filtered : EdgeRule → SampleLine → Bool
is_filtered r l =
    nat_lt (abs_diff l.p0 l.q0) r.alpha && nat_lt (abs_diff l.p1 l.p0) r.beta && nat_lt (abs_diff l.q1 l.q0) r.beta

-- bS BELOW 4 (clause 8.7.2.3)

-- Δ: how far the two samples at the edge move towards each other
unfoldable pub step_at : ℕ → ℕ → ℕ → ℕ → ℕ → ℤ
step_at tc p1 p0 q0 q1 =
    limited tc (int_shr (pos 4 *ℤ (pos q0 -ℤ pos p0) +ℤ (pos p1 -ℤ pos q1) +ℤ pos 4) 3)

-- the second sample of a side, where it moves
unfoldable pub second : ℕ → ℕ → ℕ → ℕ → ℕ → ℕ
second t p2 p1 p0 q0 = clip1 (pos p1 +ℤ limited t (int_shr (pos (p2 + (p0 + q0 + 1) / 2) -ℤ pos (2 * p1)) 1))

unfoldable pub weak : EdgeRule → SampleLine → SampleLine
weak r l =
    let near_p = nat_lt (abs_diff l.p2 l.p0) r.beta in
    let near_q = nat_lt (abs_diff l.q2 l.q0) r.beta in
    let tc = cond r.chroma (r.tc0 + 1) (r.tc0 + one_where near_p + one_where near_q) in
    let step = step_at tc l.p1 l.p0 l.q0 l.q1 in
    record l {
      p0 = clip1 (pos l.p0 +ℤ step);
      q0 = clip1 (pos l.q0 -ℤ step);
      p1 = cond (not r.chroma && near_p) (second r.tc0 l.p2 l.p1 l.p0 l.q0) l.p1;
      q1 = cond (not r.chroma && near_q) (second r.tc0 l.q2 l.q1 l.q0 l.p0) l.q1;
    }

-- bS 4 (clause 8.7.2.4)

-- whether a side whose third and first sample these are has three samples changed
abbrev pub is_smooth : EdgeRule → SampleLine → ℕ → ℕ → Bool
is_smooth r l a2 a0 = not r.chroma && nat_lt (abs_diff a2 a0) r.beta && nat_lt (abs_diff l.p0 l.q0) (r.alpha / 4 + 2)

unfoldable pub strong : EdgeRule → SampleLine → SampleLine
strong r l =
    let p = is_smooth r l l.p2 l.p0 in
    let q = is_smooth r l l.q2 l.q0 in
    record l {
      p0 = cond p ((l.p2 + 2 * l.p1 + 2 * l.p0 + 2 * l.q0 + l.q1 + 4) / 8) ((2 * l.p1 + l.p0 + l.q1 + 2) / 4);
      p1 = cond p ((l.p2 + l.p1 + l.p0 + l.q0 + 2) / 4) l.p1;
      p2 = cond p ((2 * l.p3 + 3 * l.p2 + l.p1 + l.p0 + l.q0 + 4) / 8) l.p2;
      q0 = cond q ((l.q2 + 2 * l.q1 + 2 * l.q0 + 2 * l.p0 + l.p1 + 4) / 8) ((2 * l.q1 + l.q0 + l.p1 + 2) / 4);
      q1 = cond q ((l.q2 + l.q1 + l.q0 + l.p0 + 2) / 4) l.q1;
      q2 = cond q ((2 * l.q3 + 3 * l.q2 + l.q1 + l.q0 + l.p0 + 4) / 8) l.q2;
    }

-- the line after the filter
unfoldable pub filtered : EdgeRule → SampleLine → SampleLine
filtered r l =
    cond (nat_lt 0 r.strength && is_filtered r l) (cond (nat_lt r.strength 4) (weak r l) (strong r l)) l
