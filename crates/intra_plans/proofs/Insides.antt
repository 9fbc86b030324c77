-- Blocks of a macroblock that lies inside a plane, and their neighbours.
use Rattle.std.proofs.Common.{◌≡◌, ◌≤◌, ◌<◌, ◌+◌, ◌-◌, ◌⊎◌, ◌&&◌, ◌||◌, nat_lt, ℕ, Bool, true, false, cond, inl, inr, refl, sym, subst, ap, ◌*◌, ◌∙◌, arith}
use Rattle.std.proofs.lemmas.Bool.{and_parts, ltb-true}
use Rattle.picture_planes.specs.declared.plane.Plane.{Plane}
use Rattle.plane_blocks.specs.Reach.{Reachable, Readable}
use Rattle.plane_blocks.proofs.AvailLaws.{left_is, above_is, corner_is, beyond_is}
use Rattle.spec_intra.specs.declared.Avail.{Avail}
use Rattle.spec_intra.specs.Near.{block_avail, macroblock_avail}
use Rattle.spec_basics.specs.Blocks.{block_number}
use Rattle.intra_plans.specs.Inside.{Inside}

either : (p q : Bool) → p || q ≡ true → (p ≡ true) ⊎ (q ≡ true)
either true q h = inl refl
either false q h = inr h

by_test : (p a b : Bool) → cond p a b ≡ true → ((p ≡ true) × (a ≡ true)) ⊎ ((p ≡ false) × (b ≡ true))
by_test true a b h = inl (refl, h)
by_test false a b h = inr (refl, h)

-- a block of s by s samples, a to the right and b down in the macroblock, in this column and row of the macroblock's n
record Lies (s n column row a b : ℕ) : Type 0 where
  right : 0 < column → 0 < a
  down : 0 < row → 0 < b
  wide : a + s ≤ 16
  high : b + s ≤ 16
  more : column + 1 < n → a + s + s ≤ 16

to_right : (column x a : ℕ) → (0 < column → 0 < a) → nat_lt 0 column ≡ true → 0 < x + a
to_right column x a right t = let k = right (ltb-true 0 column t) in omega arith

side : (column x a : ℕ) (there : Bool) → (0 < column → 0 < a) → (there ≡ true → 16 ≤ x) → nat_lt 0 column || there ≡ true → 0 < x + a
side column x a there right inside t = elim (either (nat_lt 0 column) there t) [
  | inl p ↦ to_right column x a right p
  | inr q ↦ (let k = inside q in omega arith)
]

corner_left : (column row x a : ℕ) (mb : Avail) → (0 < column → 0 < a) → (mb.left ≡ true → 16 ≤ x) → (mb.corner ≡ true → 16 ≤ x)
    → cond (nat_lt 0 row) (nat_lt 0 column || mb.left) (cond (nat_lt 0 column) mb.above mb.corner) ≡ true → 0 < x + a
corner_left column row x a mb right inside corner t = elim (by_test (nat_lt 0 row) _ _ t) [
  | inl p ↦ side column x a mb.left right inside p.1
  | inr q ↦ elim (by_test (nat_lt 0 column) mb.above mb.corner q.1) [
    | inl p ↦ to_right column x a right p.0
    | inr r ↦ (let k = corner r.1 in omega arith)
  ]
]

corner_above : (column row y b : ℕ) (mb : Avail) → (0 < row → 0 < b) → (mb.above ≡ true → 16 ≤ y) → (mb.corner ≡ true → 16 ≤ y)
    → cond (nat_lt 0 row) (nat_lt 0 column || mb.left) (cond (nat_lt 0 column) mb.above mb.corner) ≡ true → 0 < y + b
corner_above column row y b mb down inside corner t = elim (by_test (nat_lt 0 row) _ _ t) [
  | inl p ↦ to_right row y b down p.0
  | inr q ↦ elim (by_test (nat_lt 0 column) mb.above mb.corner q.1) [
    | inl p ↦ (let k = inside p.1 in omega arith)
    | inr r ↦ (let k = corner r.1 in omega arith)
  ]
]

beyond : (column row n x a s width : ℕ) (mb : Avail) (later : Bool) → (column + 1 < n → a + s + s ≤ 16) → a + s ≤ 16 → x + 16 ≤ width → (mb.above_right ≡ true → x + 32 ≤ width)
    → cond (nat_lt 0 row) (nat_lt (column + 1) n && later) (cond (nat_lt (column + 1) n) mb.above mb.above_right) ≡ true → x + a + s + s ≤ width
beyond column row n x a s width mb later more wide inside last t = elim (by_test (nat_lt 0 row) _ _ t) [
  | inl p ↦ (let k = more (ltb-true (column + 1) n (and_parts (nat_lt (column + 1) n) later p.1).0) in omega arith)
  | inr q ↦ elim (by_test (nat_lt (column + 1) n) mb.above mb.above_right q.1) [
    | inl p ↦ (let k = more (ltb-true (column + 1) n p.0) in omega arith)
    | inr r ↦ (let k = last r.1 in omega arith)
  ]
]

beyond_above : (column row n y b : ℕ) (mb : Avail) (later : Bool) → (0 < row → 0 < b) → (mb.above ≡ true → 16 ≤ y) → (mb.above_right ≡ true → 16 ≤ y)
    → cond (nat_lt 0 row) (nat_lt (column + 1) n && later) (cond (nat_lt (column + 1) n) mb.above mb.above_right) ≡ true → 0 < y + b
beyond_above column row n y b mb later down inside last t = elim (by_test (nat_lt 0 row) _ _ t) [
  | inl p ↦ to_right row y b down p.0
  | inr q ↦ elim (by_test (nat_lt (column + 1) n) mb.above mb.above_right q.1) [
    | inl p ↦ (let k = inside p.1 in omega arith)
    | inr r ↦ (let k = last r.1 in omega arith)
  ]
]

readable_at : (plane : Plane) (mb : Avail) (x y s n column row a b : ℕ) → Inside plane mb x y → Lies s n column row a b
    → Readable s plane (block_avail n mb column row) (x + a) (y + b)
readable_at plane mb x y s n column row a b inside lies = record {
  reachable = record {
    columns = (let k = inside.columns in let w = lies.wide in omega arith);
    rows = (let k = inside.rows in let w = lies.high in omega arith);
    left = side column x a mb.left lies.right inside.left;
    above = side row y b mb.above lies.down inside.above;
    corner_left = corner_left column row x a mb lies.right inside.left inside.corner_left;
    corner_above = corner_above column row y b mb lies.down inside.above inside.corner_above;
  };
  beyond = beyond column row n x a s plane.width mb (nat_lt (block_number (column + 1) (row - 1)) (block_number column row)) lies.more lies.wide inside.columns inside.beyond;
  beyond_above = beyond_above column row n y b mb (nat_lt (block_number (column + 1) (row - 1)) (block_number column row)) lies.down inside.above inside.beyond_above;
}

pub readable4 : (plane : Plane) (mb near : Avail) (x y column row : ℕ) → Inside plane mb x y → column < 4 → row < 4 → near ≡ block_avail 4 mb column row
    → Readable 4 plane near (x + 4 * column) (y + 4 * row)
readable4 plane mb near x y column row inside c r is =
    let P : Avail → Type 0 = λ v. Readable 4 plane v (x + 4 * column) (y + 4 * row) in
    subst P (sym is) (readable_at plane mb x y 4 4 column row (4 * column) (4 * row) inside
    (record { right = λ h. omega arith; down = λ h. omega arith; wide = omega arith; high = omega arith; more = λ h. omega arith }))

pub readable8 : (plane : Plane) (mb near : Avail) (x y column row : ℕ) → Inside plane mb x y → column < 2 → row < 2 → near ≡ block_avail 2 mb column row
    → Readable 8 plane near (x + 8 * column) (y + 8 * row)
readable8 plane mb near x y column row inside c r is =
    let P : Avail → Type 0 = λ v. Readable 8 plane v (x + 8 * column) (y + 8 * row) in
    subst P (sym is) (readable_at plane mb x y 8 2 column row (8 * column) (8 * row) inside
    (record { right = λ h. omega arith; down = λ h. omega arith; wide = omega arith; high = omega arith; more = λ h. omega arith }))

-- a macroblock in its row and column, in the luma plane and in a chroma plane
pub macroblock_inside : (plane : Plane) (mb : Avail) (width first row column : ℕ) → plane.width ≡ 16 * width → 16 * row + 16 ≤ plane.height → column < width → first ≤ row
    → mb ≡ macroblock_avail width (first * width) (row * width + column) → Inside plane mb (16 * column) (16 * row)
macroblock_inside plane mb width first row column wide high within start is = record {
  columns = omega arith;
  rows = omega arith;
  left = λ t. let k = is_left t in omega arith;
  above = λ t. let k = is_above t in omega arith;
  corner_left = λ t. let k = (is_corner t).0 in omega arith;
  corner_above = λ t. let k = (is_corner t).1 in omega arith;
  beyond = λ t. let k = (is_beyond t).1 in omega arith;
  beyond_above = λ t. let k = (is_beyond t).0 in omega arith;
}
  where
    is_left : mb.left ≡ true → 0 < column
    is_left t = ltb-true 0 column (left_is width first row column within start ∙ ap (λ (a : Avail). a.left) (sym is) ∙ t)

    is_above : mb.above ≡ true → first < row
    is_above t = ltb-true first row (above_is width first row column within ∙ ap (λ (a : Avail). a.above) (sym is) ∙ t)

    is_corner : mb.corner ≡ true → (0 < column) × (first < row)
    is_corner t =
        let p = and_parts (nat_lt 0 column) (nat_lt first row) (corner_is width first row column within ∙ ap (λ (a : Avail). a.corner) (sym is) ∙ t) in
        (ltb-true 0 column p.0, ltb-true first row p.1)

    is_beyond : mb.above_right ≡ true → (first < row) × (column < width - 1)
    is_beyond t =
        let p = and_parts (nat_lt first row) (nat_lt column (width - 1)) (beyond_is width first row column within ∙ ap (λ (a : Avail). a.above_right) (sym is) ∙ t) in
        (ltb-true first row p.0, ltb-true column (width - 1) p.1)

pub whole_reachable : (plane : Plane) (mb : Avail) (x y : ℕ) → Inside plane mb x y → Reachable 16 plane mb x y
whole_reachable plane mb x y inside = record {
  columns = inside.columns;
  rows = inside.rows;
  left = λ t. let k = inside.left t in omega arith;
  above = λ t. let k = inside.above t in omega arith;
  corner_left = λ t. let k = inside.corner_left t in omega arith;
  corner_above = λ t. let k = inside.corner_above t in omega arith;
}

pub chroma_reachable : (luma plane : Plane) (mb : Avail) (width row column : ℕ) → Inside luma mb (16 * column) (16 * row) → luma.width ≡ 16 * width
    → plane.width + plane.width ≡ luma.width → plane.height + plane.height ≡ luma.height → Reachable 8 plane mb (8 * column) (8 * row)
chroma_reachable luma plane mb width row column inside wide half_width half_height = record {
  columns = (let k = inside.columns in omega arith);
  rows = (let k = inside.rows in omega arith);
  left = λ t. let k = inside.left t in omega arith;
  above = λ t. let k = inside.above t in omega arith;
  corner_left = λ t. let k = inside.corner_left t in omega arith;
  corner_above = λ t. let k = inside.corner_above t in omega arith;
}
