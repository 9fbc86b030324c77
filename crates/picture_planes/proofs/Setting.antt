-- Rows that are written one after another.
use Rattle.std.proofs.Common.{◌≡◌, ◌≤◌, ◌<◌, ◌+◌, ◌*◌, ℕ, List, length, take, drop, ◌++◌, refl, sym, ap, ◌∙◌, arith, take-add}
use Rattle.std.proofs.lemmas.Grind.{common_steps}
use Rattle.picture_planes.specs.declared.plane.Plane.{Plane}
use Rattle.picture_planes.specs.Samples.{samples_of, with_row, SameShape}
use Rattle.spec_film.specs.Over.{over}
use Rattle.spec_film.proofs.OverLaws.{over_nothing, over_next}
use Rattle.picture_planes.proofs.SampleLaws.{samples_written, samples_length, before_end}

-- the first n rows of these samples are written from row `first` on
pub record RowsSet (first n : ℕ) (samples : List ℕ) (old new : Plane) : Type 0 where
  pub shape : SameShape old new
  pub written : samples_of new ≡ over (samples_of old) (first * old.width) (take (n * old.width) samples)

pub set_none : (first : ℕ) (samples : List ℕ) (p : Plane) → RowsSet first 0 samples p p
set_none first samples p = record { shape = (refl, refl, refl); written = over_nothing (samples_of p) (first * p.width) ∙ ap (λ (n : ℕ). over (samples_of p) (first * p.width) (take n samples)) (nothing p.width) }
  where
    nothing : (w : ℕ) → 0 ≡ 0 * w
    nothing w = grind arith

next_part : (samples : List ℕ) (a b w : ℕ) → b ≡ a + w → take a samples ++ take w (drop a samples) ≡ take b samples
next_part samples a b w e = sym (take-add a w samples) ∙ ap (λ (k : ℕ). take k samples) (sym e)

long_part : (xs : List ℕ) (n : ℕ) → n ≤ length xs → length (take n xs) ≡ n
long_part xs n h = grind (arith, common_steps)

long_rest : (xs : List ℕ) (i n : ℕ) → i + n ≤ length xs → length (take n (drop i xs)) ≡ n
long_rest xs i n h = grind (arith, common_steps)

sum_times : (a b w : ℕ) → (a + b) * w ≡ a * w + b * w
sum_times a b w = grind arith

more_times : (n w : ℕ) → (n + 1) * w ≡ n * w + w
more_times n w = grind arith

pub set_more : (first n : ℕ) (samples : List ℕ) (old mid : Plane) (w : List ℕ) → RowsSet first n samples old mid → first + n < old.height
    → n * old.width + old.width ≤ length samples → w ≡ take old.width (drop (n * old.width) samples) → RowsSet first (n + 1) samples old (with_row mid (first + n) w)
set_more first n samples old mid w so_far inside long is =
    let u : List ℕ = take (n * old.width) samples in
    let long_u : length (take (n * old.width) samples) ≡ n * old.width = long_part samples (n * old.width) (omega arith) in
    let long_w : length w ≡ old.width = ap (λ (l : List ℕ). length l) is ∙ long_rest samples (n * old.width) old.width long in
    let same : mid.width ≡ old.width = so_far.shape.0 in
    let place : (first + n) * mid.width ≡ first * old.width + length (take (n * old.width) samples) =
    ap (λ (k : ℕ). (first + n) * k) same ∙ sum_times first n old.width ∙ ap (λ (k : ℕ). first * old.width + k) (sym long_u) in
    let end : (first + n) * old.width + old.width ≤ old.height * old.width = before_end (first + n) old.height old.width inside in
    let room : (first + n) * mid.width + length w ≤ length (samples_of old) = omega (arith, end, long_w, samples_length old, ap (λ (k : ℕ). (first + n) * k) same) in
    record {
      shape = so_far.shape;
      written =
          samples_written mid (first + n) w (omega (arith, so_far.shape.1)) (long_w ∙ sym same)
          ∙ ap (λ (l : List ℕ). over l ((first + n) * mid.width) w) so_far.written
          ∙ over_next (samples_of old) u w (first * old.width) ((first + n) * mid.width) place room
          ∙ ap (λ (l : List ℕ). over (samples_of old) (first * old.width) (u ++ l)) is
          ∙ ap (λ (l : List ℕ). over (samples_of old) (first * old.width) l) (next_part samples (n * old.width) ((n + 1) * old.width) old.width (more_times n old.width));
    }

pub set_all : (first n : ℕ) (samples : List ℕ) (old new : Plane) → RowsSet first n samples old new → length samples ≡ n * old.width → samples_of new ≡ over (samples_of old) (first * old.width) samples
set_all first n samples old new s e = s.written ∙ ap (λ (l : List ℕ). over (samples_of old) (first * old.width) l) (whole samples (n * old.width) e)
  where
    whole : (xs : List ℕ) (n : ℕ) → length xs ≡ n → take n xs ≡ xs
    whole xs n e = grind (arith, common_steps)
