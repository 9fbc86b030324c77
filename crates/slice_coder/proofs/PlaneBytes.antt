-- The samples of a plane are bytes of its buffer.
use Rattle.std.proofs.Common.{◌≡◌, ℕ, zero, suc, ◌+◌, ◌*◌, List, drop, replicate, subst, ap, ◌∙◌, arith}
use Rattle.picture_planes.specs.declared.plane.Plane.{Plane}
use Rattle.picture_planes.specs.Margins.{buffer_width}
use Rattle.picture_planes.specs.Samples.{row_start, row_of, rows_to, samples_of}
use Rattle.picture_planes.specs.Pictures.{planes_of}
use Rattle.picture_planes.specs.declared.stripe.Stripe.{Stripe}
use Rattle.residual_coder.specs.Stripes.{samples_from, planes_in}
use Rattle.spec_record_laws.specs.Coded.{AreBytes, PlanesFit}
use Rattle.spec_record_laws.proofs.Bytes.{none_bytes, zeros_bytes, append_bytes, take_bytes, drop_bytes}

row_bytes : (p : Plane) (y : ℕ) → AreBytes p.bytes.items → AreBytes (row_of p y)
row_bytes p y h = take_bytes _ (drop (row_start p y) p.bytes.items) (drop_bytes (row_start p y) p.bytes.items h)

rows_bytes : (p : Plane) → AreBytes p.bytes.items → (n : ℕ) → AreBytes (rows_to p n)
unfolding rows_to
rows_bytes p h zero = none_bytes
rows_bytes p h (suc n) = append_bytes (rows_to p n) (row_of p n) (rows_bytes p h n) (row_bytes p n h)

-- where all bytes of the buffer, from its first one on, are bytes
pub plane_bytes : (p : Plane) (all : List ℕ) → all ≡ drop (0 * buffer_width p + 0) p.bytes.items → AreBytes all → AreBytes (samples_of p)
unfolding samples_of
plane_bytes p all e h =
    let none : 0 * buffer_width p + 0 ≡ 0 = omega arith in
    rows_bytes p (subst (λ (xs : List ℕ). AreBytes xs) (e ∙ ap (λ (n : ℕ). drop n p.bytes.items) none) h) p.height

-- so are the zeros above a plane
from_bytes : (top : ℕ) (p : Plane) → AreBytes (samples_of p) → AreBytes (samples_from top p)
unfolding samples_from
from_bytes top p h = append_bytes (replicate (top * p.width) 0) (samples_of p) (zeros_bytes (top * p.width)) h

pub stripe_bytes : (s : Stripe) → PlanesFit (planes_of s.picture.now) → PlanesFit (planes_in s)
stripe_bytes s fits = record {
  luma = from_bytes (16 * s.first) s.picture.now.y fits.luma;
  cb = from_bytes (8 * s.first) s.picture.now.cb fits.cb;
  cr = from_bytes (8 * s.first) s.picture.now.cr fits.cr;
}
