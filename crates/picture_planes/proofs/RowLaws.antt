-- What a plane holds once a row is written.
use Rattle.std.proofs.Common.{◌≡◌, ◌≤◌, ◌<◌, ◌+◌, ◌-◌, ◌*◌, ℕ, List, length, take, drop, sym, ap, ◌∙◌, arith}
use native.Mathlib.Nat.{mul-le-mul_right}
use Rattle.std.proofs.lemmas.List.{with_items_is}
use Rattle.picture_planes.specs.declared.plane.Plane.{Plane}
use Rattle.picture_planes.specs.Samples.{row_start, row_of, with_row}
use Rattle.spec_film.specs.Over.{over}
use Rattle.spec_film.proofs.OverLaws.{over_length, over_inside, over_before, over_after}

module _ (p : Plane) where
  abbrev stride : ℕ
  stride = p.width + 2 * p.pad

  abbrev items : List ℕ
  items = p.bytes.items

  -- one row ends before the next begins
  pub rows_apart : (y z : ℕ) → y < z → row_start p y + p.width ≤ row_start p z
  rows_apart y z h =
      let more : (y + p.pad + 1) * stride ≤ (z + p.pad) * stride = mul-le-mul_right stride (omega arith) in
      let one : (y + p.pad + 1) * stride ≡ (y + p.pad) * stride + stride = omega arith in
      omega (arith, more, one)

  -- a row lies in the buffer
  pub row_fits : (y : ℕ) → y < p.height → row_start p y + p.width ≤ length items
  row_fits y h =
      let more : (y + p.pad + 1) * stride ≤ (p.height + 2 * p.pad) * stride = mul-le-mul_right stride (omega arith) in
      let one : (y + p.pad + 1) * stride ≡ (y + p.pad) * stride + stride = omega arith in
      let turn : (p.height + 2 * p.pad) * stride ≡ stride * (p.height + 2 * p.pad) = omega arith in
      omega (arith, more, one, turn, p.whole, p.bytes.ok.0)

  module _ (y : ℕ) (w : List ℕ) (h : y < p.height) (e : length w ≡ p.width) where
    fits : row_start p y + length w ≤ length items
    fits = omega (arith, row_fits y h, e)

    pub items_of_row : (with_row p y w).bytes.items ≡ over items (row_start p y) w
    items_of_row = with_items_is p.bytes (over items (row_start p y) w) (over_length items w (row_start p y) fits ∙ sym p.bytes.ok.0)

    pub row_written : row_of (with_row p y w) y ≡ w
    row_written =
        let k : row_start p y + p.width - row_start p y ≡ p.width = omega arith in
        ap (λ (n : ℕ). take n (drop (row_start p y) (with_row p y w).bytes.items)) k
        ∙ ap (λ (l : List ℕ). take p.width (drop (row_start p y) l)) items_of_row
        ∙ over_inside items w (row_start p y) p.width e (row_fits y h)

    pub row_kept_above : (z : ℕ) → z < y → row_of (with_row p y w) z ≡ row_of p z
    row_kept_above z l =
        let n : ℕ = row_start p z + p.width - row_start p z in
        let k : n ≡ p.width = omega arith in
        ap (λ (l : List ℕ). take n (drop (row_start p z) l)) items_of_row
        ∙ over_before items w (row_start p y) n (row_start p z) (omega (arith, k, rows_apart z y l)) (omega (arith, row_fits y h))

    pub row_kept_below : (z : ℕ) → y < z → row_of (with_row p y w) z ≡ row_of p z
    row_kept_below z l =
        let n : ℕ = row_start p z + p.width - row_start p z in
        ap (λ (l : List ℕ). take n (drop (row_start p z) l)) items_of_row
        ∙ over_after items w (row_start p y) n (row_start p z) (omega (arith, e, rows_apart y z l)) fits
