-- A stripe that begins with the first row is the whole picture.
use Rattle.std.proofs.Common.{◌≡◌, ◌≤◌, ◌*◌, ◌%◌, ◌++◌, ℕ, replicate, ap, ◌∙◌, arith}
use Rattle.picture_planes.specs.declared.plane.Plane.{Plane}
use Rattle.picture_planes.specs.declared.picture.Picture.{Picture}
use Rattle.picture_planes.specs.declared.stripe.Stripe.{Stripe}
use Rattle.picture_planes.specs.Samples.{samples_of}
use Rattle.picture_planes.specs.Pictures.{planes_of}
use Rattle.residual_coder.specs.Stripes.{samples_from, planes_in}
use Rattle.slice_coder.specs.Plans.{HoldsRows, IsWhole}
use Rattle.picture_coder.specs.declared.coding.Coding.{Coding}
use Rattle.picture_coder.specs.declared.job.Job.{Job}
use Rattle.picture_coder.specs.Pictures.{IsCoding}
use Rattle.picture_coder.proofs.Sizes.{three}

-- no rows stand above row 0
samples_whole : (n : ℕ) (p : Plane) → n ≡ 0 → samples_from n p ≡ samples_of p
unfolding samples_from
samples_whole n p e = ap (λ (k : ℕ). replicate {A = ℕ} (k * p.width) 0 ++ samples_of p) e ∙ ap (λ (k : ℕ). replicate {A = ℕ} k 0 ++ samples_of p) (none p.width)
  where
    none : (w : ℕ) → 0 * w ≡ 0
    none w = omega arith

pub planes_whole : (s : Stripe) → s.first ≡ 0 → planes_in s ≡ planes_of s.picture.now
planes_whole s e =
    three (samples_from (16 * s.first) s.picture.now.y) (samples_from (8 * s.first) s.picture.now.cb) (samples_from (8 * s.first) s.picture.now.cr)
    (samples_of s.picture.now.y) (samples_of s.picture.now.cb) (samples_of s.picture.now.cr)
    (samples_whole (16 * s.first) s.picture.now.y (omega (arith, e)))
    (samples_whole (8 * s.first) s.picture.now.cb (omega (arith, e)))
    (samples_whole (8 * s.first) s.picture.now.cr (omega (arith, e)))

-- the stripe of all rows has the picture's planes
pub planes_are : (s : Stripe) (p : Picture) → s.first ≡ 0 → s.picture.now ≡ p → planes_in s ≡ planes_of p
planes_are s p e is = planes_whole s e ∙ ap (λ (q : Picture). planes_of q) is

-- and all its rows of macroblocks
pub has_rows : (s : Stripe) (p : Picture) (c : Coding) (from to : ℕ) → s.first ≡ 0 → s.picture.now ≡ p → p.y.height ≡ 16 * c.down → to ≤ c.down → HoldsRows s from to
has_rows s p c from to e is high inside =
    let same = ap (λ (q : Picture). q.y.height) is in record {
      begins = omega (arith, e);
      ends = omega (arith, same, high, inside);
    }

pub whole_picture : (c : Coding) (j : Job) (p : Picture) → IsCoding c j p → IsWhole p
whole_picture c j p is = record {
  columns = sixteens p.y.width c.across is.wide;
  rows = sixteens p.y.height c.down is.high;
}
  where
    sixteens : (n a : ℕ) → n ≡ 16 * a → n % 16 ≡ 0
    sixteens n a e = omega (arith, e)
