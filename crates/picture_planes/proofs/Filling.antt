-- A margin that is filled row by row is filled.
use Rattle.std.proofs.Common.{◌≡◌, ◌≤◌, ◌<◌, ◌+◌, ◌-◌, ◌*◌, ◌⊎◌, inl, inr, ℕ, ℤ, pos, negsuc, ◌+ℤ◌, ◌-ℤ◌, ◌≤ℤ◌, ◌<ℤ◌, min, List, get_or, length, take, drop, refl, sym, ap, ap₂, ◌∙◌, arith, slice_range}
use Rattle.std.proofs.lemmas.Grind.{common_steps}
use Rattle.std.proofs.lemmas.Int.{ints}
use Rattle.std.proofs.lemmas.Bool.{cases_lt}
use Rattle.spec_film.specs.Places.{clamped_to, sample_at}
use Rattle.picture_planes.specs.declared.plane.Plane.{Plane}
use Rattle.picture_planes.specs.Samples.{buffer, row_start, row_of, rows_to, samples_of, at, SameShape}
use Rattle.picture_planes.specs.Margins.{nearest, buffer_width, buffer_height, buffer_row, buffer_at, inward, IsFilled}
use Rattle.picture_planes.specs.Edges.{with_sides, Edged}
use Rattle.picture_planes.proofs.SampleLaws.{rows_agree, row_of_samples, within}
use Rattle.picture_planes.proofs.PaddedLemmas.{row_fits}

-- a column or row of the buffer, clamped to the plane
pub clamped_inward : (i pad size : ℕ) → clamped_to (pos i -ℤ pos pad) size ≡ min (i - pad) (size - 1)
clamped_inward i pad size = by (pos i -ℤ pos pad) refl
  where
    by : (z : ℤ) → z ≡ pos i -ℤ pos pad → clamped_to z size ≡ min (i - pad) (size - 1)
    by (pos n) e = let m : n ≡ i - pad = omega (arith, ints) in ap (λ (v : ℕ). min v (size - 1)) m
    by (negsuc n) e = let m : min (i - pad) (size - 1) ≡ 0 = omega (arith, ints) in sym m

item_of : (xs : List ℕ) (a w i : ℕ) → i < w → get_or xs (a + i) 0 ≡ get_or (take (a + w - a) (drop a xs)) i 0
item_of xs a w i p = grind (arith, common_steps)

-- a byte of the buffer is one of its row
pub buffer_at_row : (p : Plane) (c r : ℕ) → c < buffer_width p → buffer_at p c r ≡ get_or (buffer_row p r) c 0
unfolding buffer_at
buffer_at_row p c r h = item_of p.bytes.items (r * buffer_width p) (buffer_width p) c h

part_item : (xs : List ℕ) (s pad w n x : ℕ) → x < w → pad + w ≤ n → get_or (take (s + pad + w - (s + pad)) (drop (s + pad) xs)) x 0 ≡ get_or (take (s + n - s) (drop s xs)) (pad + x) 0
part_item xs s pad w n x h k = grind (arith, common_steps)

-- a sample of a row is one of the buffer's row
pub at_buffer_row : (p : Plane) (x y : ℕ) → x < p.width → at p x y ≡ get_or (buffer_row p (y + p.pad)) (p.pad + x) 0
at_buffer_row p x y h = part_item p.bytes.items ((y + p.pad) * buffer_width p) p.pad p.width (buffer_width p) x h (omega arith)

buffer_row_length : (p : Plane) (r : ℕ) → r < buffer_height p → length (buffer_row p r) ≡ buffer_width p
buffer_row_length p r h = long p.bytes.items (r * buffer_width p) (buffer_width p) (row_fits p r h)
  where
    long : (xs : List ℕ) (s w : ℕ) → s + w ≤ length xs → length (slice_range xs s (s + w)) ≡ w
    long xs s w h = grind (arith, common_steps)

-- a row with its sides holds at each column the nearest of its own samples
side_at : (pad width c : ℕ) (r : List ℕ) → length r ≡ width + 2 * pad → 0 < width → c < width + 2 * pad → get_or (with_sides pad width r) c 0 ≡ get_or r (pad + min (c - pad) (width - 1)) 0
side_at pad width c r e w h = by (cases_lt c pad) (cases_lt c (pad + width))
  where
    by : (c < pad) ⊎ (pad ≤ c) → (c < pad + width) ⊎ (pad + width ≤ c) → get_or (with_sides pad width r) c 0 ≡ get_or r (pad + min (c - pad) (width - 1)) 0
    by (inl a) b = let m : pad + min (c - pad) (width - 1) ≡ pad = omega arith in rw m (grind (arith, common_steps))
    by (inr a) (inl b) = let m : pad + min (c - pad) (width - 1) ≡ c = omega arith in rw m (grind (arith, common_steps))
    by (inr a) (inr b) = let m : pad + min (c - pad) (width - 1) ≡ pad + width - 1 = omega arith in rw m (grind (arith, common_steps))

sides_middle : (pad width : ℕ) (r : List ℕ) → length r ≡ width + 2 * pad → take width (drop pad (with_sides pad width r)) ≡ take width (drop pad r)
sides_middle pad width r e = grind (arith, common_steps)

row_of_buffer : (xs : List ℕ) (s pad w n : ℕ) → pad + w ≤ n → take (s + pad + w - (s + pad)) (drop (s + pad) xs) ≡ take w (drop pad (take (s + n - s) (drop s xs)))
row_of_buffer xs s pad w n h =
    let a : s + pad + w - (s + pad) ≡ w = omega arith in
    let b : s + n - s ≡ n = omega arith in
    ap (λ (k : ℕ). take k (drop (s + pad) xs)) a
    ∙ sym (within xs s n pad w h)
    ∙ ap (λ (k : ℕ). take w (drop pad (take k (drop s xs)))) (sym b)

-- a row of the plane is a part of the buffer's row
row_in : (p : Plane) (y : ℕ) → row_of p y ≡ take p.width (drop p.pad (buffer_row p (y + p.pad)))
row_in p y = row_of_buffer p.bytes.items ((y + p.pad) * buffer_width p) p.pad p.width (buffer_width p) (omega arith)

at_samples : (xs : List ℕ) (i w x : ℕ) → x < w → get_or (take w (drop i xs)) x 0 ≡ get_or xs (i + x) 0
at_samples xs i w x h = grind (arith, common_steps)

clamped_below : (z : ℤ) (size : ℕ) → 0 < size → clamped_to z size < size
clamped_below (pos n) size h = omega arith
clamped_below (negsuc n) size h = h

-- the nearest sample, in the words of the list of samples
pub nearest_is : (p : Plane) (x y : ℤ) → nearest p x y ≡ sample_at p.width p.height (samples_of p) x y
unfolding sample_at
nearest_is p x y =
    let row : clamped_to y p.height < p.height = clamped_below y p.height p.size.2 in
    let column : clamped_to x p.width < p.width = clamped_below x p.width p.size.0 in
    ap (λ (l : List ℕ). get_or l (clamped_to x p.width) 0) (row_of_samples p (clamped_to y p.height) row)
    ∙ at_samples (samples_of p) (clamped_to y p.height * p.width) p.width (clamped_to x p.width) column

module _ (old new : Plane) (e : Edged old.pad (old.pad + old.height) (buffer_height old) old new) where
  -- the plane's row that is nearest to a row of the buffer, counted in the buffer
  abbrev near : ℕ → ℕ
  near r = old.pad + min (r - old.pad) (old.height - 1)

  row_is : (r : ℕ) → r < buffer_height old → buffer_row new r ≡ with_sides old.pad old.width (buffer_row old (near r))
  row_is r h = by (cases_lt r old.pad) (cases_lt r (old.pad + old.height))
    where
      by : (r < old.pad) ⊎ (old.pad ≤ r) → (r < old.pad + old.height) ⊎ (old.pad + old.height ≤ r) → buffer_row new r ≡ with_sides old.pad old.width (buffer_row old (near r))
      by (inl a) b = let m : near r ≡ old.pad = omega arith in e.top r a ∙ ap (λ (k : ℕ). with_sides old.pad old.width (buffer_row old k)) (sym m)
      by (inr a) (inl b) = let m : near r ≡ r = omega arith in e.middle r a b ∙ ap (λ (k : ℕ). with_sides old.pad old.width (buffer_row old k)) (sym m)
      by (inr a) (inr b) = let m : near r ≡ old.pad + old.height - 1 = omega (arith, old.size) in e.bottom r b h ∙ ap (λ (k : ℕ). with_sides old.pad old.width (buffer_row old k)) (sym m)

  near_fits : (r : ℕ) → near r < buffer_height old
  near_fits r = omega (arith, old.size)

  near_again : (r : ℕ) → near (near r) ≡ near r
  near_again r = omega arith

  byte_is : (c r : ℕ) → c < buffer_width old → r < buffer_height old → get_or (buffer_row new r) c 0 ≡ get_or (buffer_row old (near r)) (old.pad + min (c - old.pad) (old.width - 1)) 0
  byte_is c r h k =
      ap (λ (l : List ℕ). get_or l c 0) (row_is r k)
      ∙ side_at old.pad old.width c (buffer_row old (near r)) (buffer_row_length old (near r) (near_fits r)) old.size.0 h

  -- a byte of the buffer is the sample of the nearest place
  same : (c r : ℕ) → c < buffer_width old → r < buffer_height old → get_or (buffer_row new r) c 0 ≡ get_or (buffer_row new (near r)) (old.pad + min (c - old.pad) (old.width - 1)) 0
  same c r h k =
      let m : ℕ = min (c - old.pad) (old.width - 1) in
      let column : old.pad + min (old.pad + m - old.pad) (old.width - 1) ≡ old.pad + m = omega arith in
      byte_is c r h k
      ∙ sym (byte_is (old.pad + m) (near r) (omega (arith, old.size)) (near_fits r)
      ∙ ap₂ (λ (a b : ℕ). get_or (buffer_row old a) b 0) (near_again r) column)

  filled_at : (c r : ℕ) → c < buffer_width new → r < buffer_height new → buffer_at new c r ≡ nearest new (inward new c) (inward new r)
  filled_at c r h k =
      let wide : new.width ≡ old.width = e.shape.0 in
      let high : new.height ≡ old.height = e.shape.1 in
      let edge : new.pad ≡ old.pad = e.shape.2 in
      let x : ℕ = min (c - new.pad) (new.width - 1) in
      let y : ℕ = min (r - new.pad) (new.height - 1) in
      let row : near r ≡ y + new.pad = omega (arith, high, edge) in
      let column : old.pad + min (c - old.pad) (old.width - 1) ≡ new.pad + x = omega (arith, wide, edge) in
      buffer_at_row new c r h
      ∙ same c r (omega (arith, h, wide, edge)) (omega (arith, k, high, edge))
      ∙ ap₂ (λ (a b : ℕ). get_or (buffer_row new a) b 0) row column
      ∙ sym (at_buffer_row new x y (omega (arith, new.size)))
      ∙ ap₂ (λ (a b : ℕ). at new a b) (sym (clamped_inward c new.pad new.width)) (sym (clamped_inward r new.pad new.height))

  pub edges_filled : IsFilled new
  edges_filled = record { at = filled_at }

  row_kept : (y : ℕ) → y < old.height → row_of new y ≡ row_of old y
  row_kept y h =
      row_in new y
      ∙ ap₂ (λ (a b : ℕ). take a (drop b (buffer_row new (y + b)))) e.shape.0 e.shape.2
      ∙ ap (λ (l : List ℕ). take old.width (drop old.pad l)) (e.middle (y + old.pad) (omega arith) (omega arith))
      ∙ sides_middle old.pad old.width (buffer_row old (y + old.pad)) (buffer_row_length old (y + old.pad) (omega arith))
      ∙ sym (row_in old y)

  -- the samples stay
  pub edges_samples : samples_of new ≡ samples_of old
  unfolding samples_of
  edges_samples = ap (λ (n : ℕ). rows_to new n) e.shape.1 ∙ rows_agree old new old.height row_kept

-- planes of one shape with the same samples have the same sample at each place
pub nearest_same : (p q : Plane) → SameShape p q → samples_of q ≡ samples_of p → (x y : ℤ) → nearest q x y ≡ nearest p x y
nearest_same p q shape alike x y =
    nearest_is q x y
    ∙ ap₂ (λ (a b : ℕ). sample_at a b (samples_of q) x y) shape.0 shape.1
    ∙ ap (λ (l : List ℕ). sample_at p.width p.height l x y) alike
    ∙ sym (nearest_is p x y)

-- planes of one shape with the same bytes have the same samples
row_same : (p q : Plane) → SameShape p q → buffer q ≡ buffer p → (y : ℕ) → row_of q y ≡ row_of p y
row_same p q shape same y =
    ap₂ (λ (w pad : ℕ). slice_range (buffer q) ((y + pad) * (w + 2 * pad) + pad) ((y + pad) * (w + 2 * pad) + pad + w)) shape.0 shape.2
    ∙ ap (λ (l : List ℕ). slice_range l (row_start p y) (row_start p y + p.width)) same

pub samples_same : (p q : Plane) → SameShape p q → buffer q ≡ buffer p → samples_of q ≡ samples_of p
unfolding samples_of
samples_same p q shape same = ap (λ (n : ℕ). rows_to q n) shape.1 ∙ rows_agree p q p.height (λ y h. row_same p q shape same y)

byte_same : (p q : Plane) → SameShape p q → buffer q ≡ buffer p → (c r : ℕ) → buffer_at q c r ≡ buffer_at p c r
unfolding buffer_at
byte_same p q shape same c r =
    ap₂ (λ (w pad : ℕ). get_or (buffer q) (r * (w + 2 * pad) + c) 0) shape.0 shape.2
    ∙ ap (λ (l : List ℕ). get_or l (r * buffer_width p + c) 0) same

-- and where the margin of one is filled, so is that of the other
pub filled_same : (p q : Plane) → SameShape p q → buffer q ≡ buffer p → IsFilled p → IsFilled q
filled_same p q shape same filled = record { at = at }
  where
    at : (c r : ℕ) → c < buffer_width q → r < buffer_height q → buffer_at q c r ≡ nearest q (inward q c) (inward q r)
    at c r h k =
        byte_same p q shape same c r
        ∙ filled.at c r (omega (arith, h, shape.0, shape.2)) (omega (arith, k, shape.1, shape.2))
        ∙ sym (nearest_same p q shape (samples_same p q shape same) (inward p c) (inward p r))
        ∙ ap (λ (pad : ℕ). nearest q (pos c -ℤ pos pad) (pos r -ℤ pos pad)) (sym shape.2)

-- the samples of a row inside the plane, whatever the margins hold
pub inside_nearest : (p : Plane) (y : ℤ) (row c : ℕ) → pos row ≡ y +ℤ pos p.pad → pos 0 ≤ℤ y → y <ℤ pos p.height → p.pad ≤ c → c < p.pad + p.width → buffer_at p c row ≡ nearest p (inward p c) y
inside_nearest p (negsuc n) row c e low high left right = absurd (omega (arith, ints))
inside_nearest p (pos n) row c e low high left right =
    let r : row ≡ n + p.pad = omega (arith, ints) in
    let under : n < p.height = omega (arith, ints) in
    let x : c ≡ p.pad + (c - p.pad) = omega arith in
    let column : c - p.pad ≡ min (c - p.pad) (p.width - 1) = omega arith in
    let down : n ≡ min n (p.height - 1) = omega arith in
    buffer_at_row p c row (omega arith)
    ∙ ap₂ (λ (a b : ℕ). get_or (buffer_row p a) b 0) r x
    ∙ sym (at_buffer_row p (c - p.pad) n (omega arith))
    ∙ ap₂ (λ (a b : ℕ). at p a b) (column ∙ sym (clamped_inward c p.pad p.width)) down

-- the samples of a row, margins and all, where the margin is filled
pub filled_nearest : (p : Plane) (y : ℤ) (row c : ℕ) → IsFilled p → pos row ≡ y +ℤ pos p.pad → y <ℤ pos (p.height + p.pad) → c < buffer_width p → buffer_at p c row ≡ nearest p (inward p c) y
filled_nearest p y row c filled e high h =
    let back : inward p row ≡ y = omega (arith, ints) in
    filled.at c row h (omega (arith, ints)) ∙ ap (λ (z : ℤ). nearest p (inward p c) z) back

pub from_first : (p : Plane) (x row : ℕ) → buffer_at p (0 + x) row ≡ buffer_at p x row
from_first p x row = let e : 0 + x ≡ x = omega arith in ap (λ (c : ℕ). buffer_at p c row) e
