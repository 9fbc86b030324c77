-- Rows that are taken over one by one.
use Rattle.std.proofs.Common.{◌≡◌, ◌≤◌, ◌<◌, ◌+◌, ◌⊎◌, inl, inr, ◌*◌, ℕ, List, length, take, drop, refl, sym, ap, ◌∙◌, arith}
use Rattle.std.proofs.lemmas.Bool.{cases_lt}
use Rattle.picture_planes.specs.declared.plane.Plane.{Plane}
use Rattle.picture_planes.specs.Samples.{row_of, with_row, samples_of}
use Rattle.picture_planes.proofs.SampleLaws.{row_of_samples}
use Rattle.picture_planes.specs.Placed.{RowsPlaced}
use Rattle.picture_planes.proofs.RowLaws.{row_written, row_kept_above, row_kept_below}

pub place_none : (to : ℕ) (other p : Plane) → RowsPlaced to 0 other p p
place_none to other p = record {
  shape = (refl, refl, refl);
  inside = λ y h. grind (arith, h);
  above = λ y h. refl;
  below = λ y h. refl;
}

module _ (to n : ℕ) (other old mid : Plane) (w : List ℕ) (so_far : RowsPlaced to n other old mid)
    (room : to + n < old.height) (e : length w ≡ old.width) (s : w ≡ row_of other n) where
  h : to + n < mid.height
  h = omega (arith, so_far.shape.1)

  e' : length w ≡ mid.width
  e' = e ∙ sym so_far.shape.0

  inside_by : (y : ℕ) → y < n + 1 → (y < n) ⊎ (n ≤ y) → row_of (with_row mid (to + n) w) (to + y) ≡ row_of other y
  inside_by y l (inl b) = row_kept_above mid (to + n) w h e' (to + y) (omega arith) ∙ so_far.inside y b
  inside_by y l (inr b) =
      let same : y ≡ n = omega arith in
      ap (λ (k : ℕ). row_of (with_row mid (to + n) w) (to + k)) same ∙ row_written mid (to + n) w h e' ∙ s ∙ ap (λ (k : ℕ). row_of other k) (sym same)

  pub place_more : RowsPlaced to (n + 1) other old (with_row mid (to + n) w)
  place_more = record {
    shape = so_far.shape;
    inside = λ y l. inside_by y l (cases_lt y n);
    above = λ y l. row_kept_above mid (to + n) w h e' y (omega arith) ∙ so_far.above y l;
    below = λ y l. row_kept_below mid (to + n) w h e' y (omega arith) ∙ so_far.below y (omega arith);
  }

-- a row of a plane of the same width is a part of its samples
pub row_of_other : (p : Plane) (y w : ℕ) → y < p.height → p.width ≡ w → row_of p y ≡ take w (drop (y * w) (samples_of p))
row_of_other p y w h e = row_of_samples p y h ∙ ap (λ (k : ℕ). take k (drop (y * k) (samples_of p))) e
