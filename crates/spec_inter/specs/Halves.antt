-- Luma samples from half samples that are kept in planes of their own (ITU-T H.264, clause 8.4.2.2.1).
use Rattle.std.specs.Prelude.{ℕ, ℤ, pos, ◌+ℤ◌}
use Rattle.enc_tables.specs.declared.records.Vector.{Vector}
use Rattle.spec_inter.specs.declared.Position.{Position}
use Rattle.spec_inter.specs.declared.Position.TheVariants.{Here, Right, Below, Across, AcrossBelow, Down, DownRight, Middle}
use Rattle.spec_inter.specs.Taps.{mean}
use Rattle.spec_inter.specs.Places.{whole, fraction}
use Rattle.spec_inter.specs.Luma.{about, position_of, first_of, second_of}

-- What stands at each column and row of four planes: the sample G, and its half samples b (half a sample to the right), h
-- (half a sample down) and j (half a sample to the right and half a sample down).
pub record LumaPlanes : Type 0 where
  pub g : ℤ → ℤ → ℕ
  pub b : ℤ → ℤ → ℕ
  pub h : ℤ → ℤ → ℕ
  pub j : ℤ → ℤ → ℕ

-- the sample at a whole or half sample position about column x and row y: H and m are G and h of the sample at the right, M
-- and s are G and b of the sample below
abbrev pub kept_at : LumaPlanes → ℤ → ℤ → Position → ℕ
kept_at p x y Here = p.g x y
kept_at p x y Right = p.g (x +ℤ pos 1) y
kept_at p x y Below = p.g x (y +ℤ pos 1)
kept_at p x y Across = p.b x y
kept_at p x y AcrossBelow = p.b x (y +ℤ pos 1)
kept_at p x y Down = p.h x y
kept_at p x y DownRight = p.h (x +ℤ pos 1) y
kept_at p x y Middle = p.j x y

-- the sample at u quarters of a sample to the right of column x and v quarters below row y
abbrev pub kept_quarter : LumaPlanes → ℤ → ℤ → ℕ → ℕ → ℕ
kept_quarter p x y u v = mean (kept_at p x y (first_of u v)) (kept_at p x y (second_of u v))

-- the sample to which a vector in quarter samples leads from column x and row y
abbrev pub kept_luma : LumaPlanes → ℤ → ℤ → Vector → ℕ
kept_luma p x y v = kept_quarter p (x +ℤ whole 4 v.x) (y +ℤ whole 4 v.y) (fraction 4 v.x) (fraction 4 v.y)

-- the four planes of samples f at any coordinates
abbrev pub halves_of : (ℤ → ℤ → ℕ) → LumaPlanes
halves_of f = record {
  g = f;
  b = λ x y. position_of (about f x y) Across;
  h = λ x y. position_of (about f x y) Down;
  j = λ x y. position_of (about f x y) Middle;
}
