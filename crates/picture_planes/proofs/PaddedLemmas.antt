-- What a plane holds once a whole row of the buffer is written.
use Rattle.std.proofs.Common.{◌≡◌, ◌≤◌, ◌<◌, ◌+◌, ◌-◌, ◌*◌, ℕ, List, length, take, drop, slice_range, refl, sym, ap, ◌∙◌, arith, ap₂, ◌++◌, ◌≢◌, ◌⊎◌, inl, inr}
use lib.Seq.{paste, drop-drop}
use Rattle.std.proofs.lemmas.Grind.{common_steps}
use Rattle.picture_planes.proofs.Sides.{assoc}
use Rattle.picture_planes.specs.Samples.{SameShape}
use Rattle.std.proofs.lemmas.Bool.{cases_lt}
use native.Mathlib.Nat.{mul-le-mul_right}
use Rattle.std.proofs.lemmas.List.{with_items_is}
use Rattle.picture_planes.specs.declared.plane.Plane.{Plane}
use Rattle.picture_planes.specs.Margins.{buffer_width, buffer_height, buffer_row, with_buffer_row}
use Rattle.picture_planes.specs.Edges.{OneRow}
use Rattle.spec_film.specs.Over.{over}
use Rattle.spec_film.proofs.OverLaws.{over_length, over_inside, over_before, over_after}

module _ (p : Plane) where
  abbrev S : ℕ
  S = buffer_width p

  abbrev items : List ℕ
  items = p.bytes.items

  pub rows_apart : (y z : ℕ) → y < z → y * S + S ≤ z * S
  rows_apart y z h =
      let more : (y + 1) * S ≤ z * S = mul-le-mul_right S (omega arith) in
      let one : (y + 1) * S ≡ y * S + S = omega arith in
      omega (arith, more, one)

  pub row_fits : (y : ℕ) → y < buffer_height p → y * S + S ≤ length items
  row_fits y h =
      let more : (y + 1) * S ≤ buffer_height p * S = mul-le-mul_right S (omega arith) in
      let one : (y + 1) * S ≡ y * S + S = omega arith in
      let turn : buffer_height p * S ≡ S * buffer_height p = omega arith in
      omega (arith, more, one, turn, p.whole, p.bytes.ok.0)

  module _ (y : ℕ) (w : List ℕ) (h : y < buffer_height p) (e : length w ≡ S) where
    fits : y * S + length w ≤ length items
    fits = omega (arith, row_fits y h, e)

    pub items_of_row : (with_buffer_row p y w).bytes.items ≡ over items (y * S) w
    items_of_row = with_items_is p.bytes (over items (y * S) w) (over_length items w (y * S) fits ∙ sym p.bytes.ok.0)

    pub row_replaced : buffer_row (with_buffer_row p y w) y ≡ w
    row_replaced =
        let k : y * S + S - y * S ≡ S = omega arith in
        ap (λ (n : ℕ). take n (drop (y * S) (with_buffer_row p y w).bytes.items)) k
        ∙ ap (λ (l : List ℕ). take S (drop (y * S) l)) items_of_row
        ∙ over_inside items w (y * S) S e (row_fits y h)

    kept_by : (z : ℕ) → z ≢ y → (z < y) ⊎ (y ≤ z) → buffer_row (with_buffer_row p y w) z ≡ buffer_row p z
    kept_by z ne (inl l) =
        let n : ℕ = z * S + S - z * S in
        let k : n ≡ S = omega arith in
        ap (λ (l : List ℕ). take n (drop (z * S) l)) items_of_row
        ∙ over_before items w (y * S) n (z * S) (omega (arith, k, rows_apart z y l)) (omega (arith, row_fits y h))
    kept_by z ne (inr l) =
        let n : ℕ = z * S + S - z * S in
        let after : y < z = omega (arith, ne, l) in
        ap (λ (l : List ℕ). take n (drop (z * S) l)) items_of_row
        ∙ over_after items w (y * S) n (z * S) (omega (arith, e, rows_apart y z after)) fits

    pub one_row : OneRow y w p (with_buffer_row p y w)
    one_row = record {
      shape = (refl, refl, refl);
      written = row_replaced;
      others = λ z l ne. kept_by z ne (cases_lt z y);
    }

-- the same of any plane that holds this list
module _ (p q : Plane) (y : ℕ) (w : List ℕ) (h : y < buffer_height p) (e : length w ≡ buffer_width p) (shape : SameShape p q)
    (holds : q.bytes.items ≡ over p.bytes.items (y * buffer_width p) w) where
  same_stride : buffer_width q ≡ buffer_width p
  same_stride = ap₂ (λ (a b : ℕ). a + 2 * b) shape.0 shape.2

  as_written : (z : ℕ) → buffer_row q z ≡ buffer_row (with_buffer_row p y w) z
  as_written z =
      ap (λ (s : ℕ). slice_range q.bytes.items (z * s) (z * s + s)) same_stride
      ∙ ap (λ (l : List ℕ). slice_range l (z * buffer_width p) (z * buffer_width p + buffer_width p)) (holds ∙ sym (items_of_row p y w h e))

  pub one_row_of : OneRow y w p q
  one_row_of =
      let o = one_row p y w h e in
      record { shape = shape; written = as_written y ∙ o.written; others = λ z l ne. as_written z ∙ o.others z l ne }

pub pasted : (xs : List ℕ) (d i n j : ℕ) → i + n ≤ length xs → j ≡ n → paste xs d (drop i xs) j ≡ over xs d (take n (drop i xs))
pasted xs d i n j h e =
    let long : length (take n (drop i xs)) ≡ n = grind (arith, common_steps) in
    ap (λ (m : ℕ). paste xs d (drop i xs) m) e
    ∙ assoc (take d xs) (take n (drop i xs)) (drop (d + n) xs)
    ∙ ap (λ (l : List ℕ). take d xs ++ (take n (drop i xs) ++ l)) (sym (drop-drop n d xs) ∙ ap (λ (m : ℕ). drop m (drop d xs)) (sym long))
