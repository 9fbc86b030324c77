-- The samples of a plane as one list.
use Rattle.std.proofs.Common.{◌≡◌, ◌≤◌, ◌<◌, ◌+◌, ◌-◌, ◌*◌, ◌⊎◌, inl, inr, ℕ, zero, suc, List, length, take, drop, ◌++◌, replicate, slice_range, refl, sym, ap, ap₂, ◌∙◌, arith, length-append}
use native.Mathlib.Nat.{mul-le-mul_right}
use Rattle.std.proofs.lemmas.Grind.{common_steps}
use Rattle.std.proofs.lemmas.Bool.{cases_lt}
use Rattle.std.proofs.lemmas.List.{drop-drop, drop-take, drop-replicate, take-replicate, length-replicate, replicate-append-replicate}
use Rattle.picture_planes.specs.declared.plane.Plane.{Plane}
use Rattle.picture_planes.specs.Samples.{row_start, row_of, rows_to, samples_of, with_row}
use Rattle.spec_film.specs.Over.{over}
use Rattle.spec_film.proofs.OverLaws.{within_first, over_first, over_second}
use Rattle.picture_planes.proofs.RowLaws.{row_fits, row_written, row_kept_above, row_kept_below}

length_part : (xs : List ℕ) (s w : ℕ) → s + w ≤ length xs → length (slice_range xs s (s + w)) ≡ w
length_part xs s w h = grind (arith, common_steps)

pub row_length : (p : Plane) (y : ℕ) → y < p.height → length (row_of p y) ≡ p.width
row_length p y h = length_part p.bytes.items (row_start p y) p.width (row_fits p y h)

pub suc_times : (n w : ℕ) → n * w + w ≡ suc n * w
suc_times n w = grind arith

pub rows_length : (p : Plane) (n : ℕ) → n ≤ p.height → length (rows_to p n) ≡ n * p.width
unfolding rows_to
rows_length p zero h = omega arith
rows_length p (suc n) h =
    length-append (rows_to p n) (row_of p n)
    ∙ ap₂ (λ (a b : ℕ). a + b) (rows_length p n (omega arith)) (row_length p n (omega arith))
    ∙ suc_times n p.width

pub samples_length : (p : Plane) → length (samples_of p) ≡ p.height * p.width
unfolding samples_of
samples_length p = rows_length p p.height (omega arith)

-- planes with the same rows
pub rows_agree : (p q : Plane) (n : ℕ) → ((y : ℕ) → y < n → row_of q y ≡ row_of p y) → rows_to q n ≡ rows_to p n
unfolding rows_to
rows_agree p q zero same = refl
rows_agree p q (suc n) same = ap₂ (λ (a b : List ℕ). a ++ b) (rows_agree p q n (λ y h. same y (omega arith))) (same n (omega arith))

pub before_end : (y n w : ℕ) → y < n → y * w + w ≤ n * w
before_end y n w h =
    let more : (y + 1) * w ≤ n * w = mul-le-mul_right w (omega arith) in
    let one : (y + 1) * w ≡ y * w + w = grind arith in
    omega (arith, more, one)

module _ (p : Plane) (y : ℕ) (w : List ℕ) (h : y < p.height) (e : length w ≡ p.width) where
  rows_written : (n : ℕ) → n ≤ p.height → y < n → rows_to (with_row p y w) n ≡ over (rows_to p n) (y * p.width) w
  unfolding rows_to
  rows_written zero k l = absurd (omega arith)
  rows_written (suc n) k l = by (λ a b. rows_written n a b) (cases_lt y n)
    where
      by : (n ≤ p.height → y < n → rows_to (with_row p y w) n ≡ over (rows_to p n) (y * p.width) w) → (y < n) ⊎ (n ≤ y) → rows_to (with_row p y w) n ++ row_of (with_row p y w) n ≡ over (rows_to p n ++ row_of p n) (y * p.width) w
      by ih (inl b) =
          let room : y * p.width + length w ≤ length (rows_to p n) = omega (arith, rows_length p n (omega arith), before_end y n p.width b, e) in
          ap₂ (λ (a b : List ℕ). a ++ b) (ih (omega arith) b) (row_kept_below p y w h e n b)
          ∙ over_first (rows_to p n) (row_of p n) w (y * p.width) room
      by ih (inr b) =
          let same : y ≡ n = omega arith in
          let front : rows_to (with_row p y w) n ≡ rows_to p n = rows_agree p (with_row p y w) n (λ z l. row_kept_above p y w h e z (omega arith)) in
          let back : row_of (with_row p y w) n ≡ w = ap (λ (k : ℕ). row_of (with_row p y w) k) (sym same) ∙ row_written p y w h e in
          let place : y * p.width ≡ length (rows_to p n) = ap (λ (k : ℕ). k * p.width) same ∙ sym (rows_length p n (omega arith)) in
          ap₂ (λ (a b : List ℕ). a ++ b) front back
          ∙ over_second (rows_to p n) (row_of p n) w (y * p.width) place (e ∙ sym (row_length p n (omega arith)))

  -- a row is written: so are its samples
  pub samples_written : samples_of (with_row p y w) ≡ over (samples_of p) (y * p.width) w
  unfolding samples_of
  samples_written = rows_written p.height (omega arith) h

rows_part : (p : Plane) (y n : ℕ) → n ≤ p.height → y < n → row_of p y ≡ take p.width (drop (y * p.width) (rows_to p n))
unfolding rows_to
rows_part p y zero k l = absurd (omega arith)
rows_part p y (suc n) k l = by (λ a b. rows_part p y n a b) (cases_lt y n)
  where
    ending : (xs ys : List ℕ) (i w : ℕ) → i ≡ length xs → length ys ≡ w → ys ≡ take w (drop i (xs ++ ys))
    ending xs ys i w e l = grind (arith, common_steps)

    by : (n ≤ p.height → y < n → row_of p y ≡ take p.width (drop (y * p.width) (rows_to p n))) → (y < n) ⊎ (n ≤ y) → row_of p y ≡ take p.width (drop (y * p.width) (rows_to p n ++ row_of p n))
    by ih (inl b) =
        let room : y * p.width + p.width ≤ length (rows_to p n) = omega (arith, rows_length p n (omega arith), before_end y n p.width b) in
        ih (omega arith) b ∙ sym (within_first (rows_to p n) (row_of p n) p.width (y * p.width) room)
    by ih (inr b) =
        let same : y ≡ n = omega arith in
        let place : y * p.width ≡ length (rows_to p n) = ap (λ (k : ℕ). k * p.width) same ∙ sym (rows_length p n (omega arith)) in
        ap (λ (k : ℕ). row_of p k) same ∙ ending (rows_to p n) (row_of p n) (y * p.width) p.width place (row_length p n (omega arith))

-- a row is a part of the samples
pub row_of_samples : (p : Plane) (y : ℕ) → y < p.height → row_of p y ≡ take p.width (drop (y * p.width) (samples_of p))
unfolding samples_of
row_of_samples p y h = rows_part p y p.height (omega arith) h

shorter : (n m : ℕ) (zs : List ℕ) → n ≤ m → take n (take m zs) ≡ take n zs
shorter n m zs h = grind (arith, common_steps)

-- a part of a part
pub within : (xs : List ℕ) (i w x n : ℕ) → x + n ≤ w → take n (drop x (take w (drop i xs))) ≡ take n (drop (i + x) xs)
within xs i w x n k =
    let e : w ≡ x + (w - x) = omega arith in
    ap (λ (m : ℕ). take n (drop x (take m (drop i xs)))) e
    ∙ ap (λ (l : List ℕ). take n l) (drop-take x (w - x) (drop i xs))
    ∙ shorter n (w - x) (drop x (drop i xs)) (omega arith)
    ∙ ap (λ (l : List ℕ). take n l) (drop-drop x i xs)

-- and so is a part of a row
pub part_of_samples : (p : Plane) (y x n : ℕ) → y < p.height → x + n ≤ p.width → take n (drop x (row_of p y)) ≡ take n (drop (y * p.width + x) (samples_of p))
part_of_samples p y x n h k =
    ap (λ (l : List ℕ). take n (drop x l)) (row_of_samples p y h)
    ∙ within (samples_of p) (y * p.width) p.width x n k

blank_part : (n s w : ℕ) → s + w ≤ n → take w (drop s (replicate {A = ℕ} n 0)) ≡ replicate {A = ℕ} w 0
blank_part n s w h = ap (λ (l : List ℕ). take w l) (drop-replicate s n 0) ∙ take-replicate w (n - s) 0 (omega arith)

blank_row : (p : Plane) (n y : ℕ) → p.bytes.items ≡ replicate {A = ℕ} n 0 → y < p.height → row_of p y ≡ replicate {A = ℕ} p.width 0
blank_row p n y blank h =
    let long : row_start p y + p.width ≤ n = omega (arith, row_fits p y h, ap (λ (l : List ℕ). length l) blank ∙ length-replicate {A = ℕ} n 0) in
    let k : row_start p y + p.width - row_start p y ≡ p.width = omega arith in
    ap (λ (m : ℕ). take m (drop (row_start p y) p.bytes.items)) k
    ∙ ap (λ (l : List ℕ). take p.width (drop (row_start p y) l)) blank
    ∙ blank_part n (row_start p y) p.width long

blank_rows : (p : Plane) (n m : ℕ) → p.bytes.items ≡ replicate {A = ℕ} n 0 → m ≤ p.height → rows_to p m ≡ replicate {A = ℕ} (m * p.width) 0
unfolding rows_to
blank_rows p n zero blank h = ap (λ (k : ℕ). replicate {A = ℕ} k 0) (zero_times p.width)
  where
    zero_times : (w : ℕ) → 0 ≡ 0 * w
    zero_times w = grind arith
blank_rows p n (suc m) blank h =
    ap₂ (λ (a b : List ℕ). a ++ b) (blank_rows p n m blank (omega arith)) (blank_row p n m blank (omega arith))
    ∙ replicate-append-replicate (m * p.width) p.width 0
    ∙ ap (λ (k : ℕ). replicate {A = ℕ} k 0) (suc_times m p.width)

-- a plane whose buffer is 0 has samples 0
pub blank_samples : (p : Plane) (n : ℕ) → p.bytes.items ≡ replicate {A = ℕ} n 0 → samples_of p ≡ replicate {A = ℕ} (p.height * p.width) 0
unfolding samples_of
blank_samples p n blank = blank_rows p n p.height blank (omega arith)
