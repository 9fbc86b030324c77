-- The blocks of a macroblock that lies inside a plane, which has some rows of a larger one, and their neighbours, lie inside it.
use Rattle.std.proofs.Common.{◌≡◌, ◌≤◌, ◌<◌, ◌+◌, ◌-◌, ◌*◌, ◌/◌, ◌%◌, ◌||◌, ◌&&◌, ℕ, zero, suc, Bool, true, false, cond, nat_lt, nat_le, not, ◌==◌, refl, sym, ap, ◌∙◌, arith, inl, inr, lit<}
use Rattle.std.proofs.Math.Nat.{mul-le-mul_left, add-mul-mod_self_right}
use Rattle.std.proofs.lemmas.Nat.{le-div}
use Rattle.spec_reconstruction.specs.Records.{site_of}
use Rattle.std.proofs.lemmas.Bool.{cases_lt}
use Rattle.std.proofs.lemmas.Bool.Decides.{nat_tests}
use Rattle.picture_planes.specs.declared.plane.Plane.{Plane}
use Rattle.spec_basics.specs.Blocks.{block_column, block_row, block_number}
use Rattle.spec_intra.specs.Near.{block_avail}
use Rattle.spec_reconstruction.specs.declared.Site.{Site}
use Rattle.spec_reconstruction.specs.Luma.{x4, y4, x8, y8}
use Rattle.residual_coder.specs.Inside.{IsSource}
use Rattle.intra_coder.specs.Reach.{Reachable, Readable, Stands}

left_inside : (low c x s : ℕ) (l : Bool) → 0 < s → low ≤ x → (l ≡ true → low + 16 ≤ x) → (nat_lt 0 c || l) ≡ true → low < x + s * c
left_inside low zero x s true p q h e = omega (arith, h refl)
left_inside low zero x s false p q h e = grind (arith, nat_tests)
left_inside low (suc c) x s l p q h e = let k : s * suc c ≡ s * c + s = grind arith in omega arith

corner_left_inside : (c r x s : ℕ) (l a k : Bool) → 0 < s → (l ≡ true → 16 ≤ x) → (k ≡ true → 16 ≤ x) → cond (nat_lt 0 r) (nat_lt 0 c || l) (cond (nat_lt 0 c) a k) ≡ true → 0 < x + s * c
corner_left_inside (suc c) r x s l a k p h i e = let t : s * suc c ≡ s * c + s = grind arith in omega arith
corner_left_inside zero r x s true a k p h i e = omega (arith, h refl)
corner_left_inside zero r x s false a true p h i e = omega (arith, i refl)
corner_left_inside zero r x s false a false p h i e = grind (arith, nat_tests)

corner_above_inside : (top c r y s : ℕ) (l a k : Bool) → 0 < s → top ≤ y → (a ≡ true → top + 16 ≤ y) → (k ≡ true → top + 16 ≤ y) → cond (nat_lt 0 r) (nat_lt 0 c || l) (cond (nat_lt 0 c) a k) ≡ true → top < y + s * r
corner_above_inside top c (suc r) y s l a k p q h i e = let t : s * suc r ≡ s * r + s = grind arith in omega arith
corner_above_inside top c zero y s l true k p q h i e = omega (arith, h refl)
corner_above_inside top c zero y s l false true p q h i e = omega (arith, i refl)
corner_above_inside top c zero y s l false false p q h i e = grind (arith, nat_tests)

last_is : (n c r : ℕ) (a k q : Bool) → n ≤ c + 1 → cond (nat_lt 0 r) (nat_lt (c + 1) n && q) (cond (nat_lt (c + 1) n) a k) ≡ true → k ≡ true
last_is n c r a true q h is = refl
last_is n c r a false q h is = by (nat_lt (c + 1) n) (nat_lt 0 r) (grind (arith, nat_tests)) is
  where
    by : (m z : Bool) → m ≡ false → cond z (m && q) (cond m a false) ≡ true → false ≡ true
    by true z e i = sym e
    by false true e i = i
    by false false e i = i

beyond_columns : (n c r x s wide : ℕ) (a k q : Bool) → s * n ≡ 16 → c < n → x + 16 ≤ wide → (k ≡ true → x + 32 ≤ wide)
    → cond (nat_lt 0 r) (nat_lt (c + 1) n && q) (cond (nat_lt (c + 1) n) a k) ≡ true → x + s * c + s + s ≤ wide
beyond_columns n c r x s wide a k q e inside room far is =
    let one : s * (c + 1) ≤ s * n = mul-le-mul_left s (omega arith) in
    let one' : s * (c + 1) ≡ s * c + s = grind arith in
    elim (cases_lt (c + 1) n) [
      | inl l ↦
          (let two : s * (c + 2) ≤ s * n = mul-le-mul_left s (omega arith) in
          let two' : s * (c + 2) ≡ s * c + s + s = grind arith in
          omega arith)
      | inr g ↦
          (let here : x + 32 ≤ wide = far (last_is n c r a k q g is) in
          let most : s * 1 ≤ s * n = mul-le-mul_left s (omega arith) in
          omega arith)
    ]

beyond_rows : (top n c r y s : ℕ) (a k q : Bool) → 0 < s → top ≤ y → (a ≡ true → top + 16 ≤ y) → (k ≡ true → top + 16 ≤ y)
    → cond (nat_lt 0 r) (nat_lt (c + 1) n && q) (cond (nat_lt (c + 1) n) a k) ≡ true → top < y + s * r
beyond_rows top n c (suc r) y s a k q p b h i e = let t : s * suc r ≡ s * r + s = grind arith in omega arith
beyond_rows top n c zero y s true k q p b h i e = omega (arith, h refl)
beyond_rows top n c zero y s false true q p b h i e = omega (arith, i refl)
beyond_rows top n c zero y s false false q p b h i e = grind (arith, nat_tests)

columns_inside : (n c s x wide : ℕ) → s * n ≡ 16 → c < n → x + 16 ≤ wide → x + s * c + s ≤ wide
columns_inside n c s x wide e inside room =
    let one : s * (c + 1) ≤ s * n = mul-le-mul_left s (omega arith) in
    let one' : s * (c + 1) ≡ s * c + s = grind arith in
    omega arith

-- a block of s by s samples, of which the macroblock has n in a row
block_readable : (site : Site) (top : ℕ) (plane : Plane) (n s c r : ℕ) → Stands site top plane → 0 < s → s * n ≡ 16 → c < n → r < n
    → Readable s top plane (block_avail n site.near c r) (site.x + s * c) (site.y + s * r)
block_readable site top plane n s c r st p e h k =
    let q = nat_lt (block_number (c + 1) (r - 1)) (block_number c r) in
    record {
      reachable = record {
        columns = columns_inside n c s site.x plane.width e h st.columns;
        begins = (let b = st.begins in omega arith);
        rows = columns_inside n r s site.y (top + plane.height) e k st.rows;
        left = left_inside 0 c site.x s site.near.left p (omega arith) st.left;
        above = left_inside top r site.y s site.near.above p st.begins st.above;
        corner_left = corner_left_inside c r site.x s site.near.left site.near.above site.near.corner p st.left st.corner_left;
        corner_above = corner_above_inside top c r site.y s site.near.left site.near.above site.near.corner p st.begins st.above st.corner_above;
      };
      beyond = beyond_columns n c r site.x s plane.width site.near.above site.near.above_right q e h st.columns st.beyond;
      beyond_above = beyond_rows top n c r site.y s site.near.above site.near.above_right q p st.begins st.above st.beyond_above;
    }

pub readable4 : (site : Site) (top : ℕ) (plane : Plane) (b : ℕ) → Stands site top plane → b < 16
    → Readable 4 top plane (block_avail 4 site.near (block_column b) (block_row b)) (x4 site b) (y4 site b)
readable4 site top plane b st h = block_readable site top plane 4 4 (block_column b) (block_row b) st (lit< tt) refl (omega arith) (omega arith)

pub readable8 : (site : Site) (top : ℕ) (plane : Plane) (b : ℕ) → Stands site top plane → b < 4
    → Readable 8 top plane (block_avail 2 site.near (b % 2) (b / 2)) (x8 site b) (y8 site b)
readable8 site top plane b st h = block_readable site top plane 2 8 (b % 2) (b / 2) st (lit< tt) refl (omega arith) (omega arith)

pub reachable16 : (site : Site) (top : ℕ) (plane : Plane) → Stands site top plane → Reachable 16 top plane site.near site.x site.y
reachable16 site top plane st = record {
  columns = st.columns;
  begins = st.begins;
  rows = st.rows;
  left = λ h. let k = st.left h in omega arith;
  above = λ h. let k = st.above h in omega arith;
  corner_left = λ h. let k = st.corner_left h in omega arith;
  corner_above = λ h. let k = st.corner_above h in omega arith;
}

-- in a chroma plane, which has half the width and half the height
pub reachable_chroma : (site : Site) (first : ℕ) (luma plane : Plane) → Stands site (16 * first) luma → plane.width + plane.width ≡ luma.width → plane.height + plane.height ≡ luma.height
    → Reachable 8 (8 * first) plane site.near (site.x / 2) (site.y / 2)
reachable_chroma site first luma plane st w h = record {
  columns = (let k = st.columns in omega arith);
  begins = (let k = st.begins in omega arith);
  rows = (let k = st.rows in omega arith);
  left = λ h. let k = st.left h in omega arith;
  above = λ h. let k = st.above h in omega arith;
  corner_left = λ h. let k = st.corner_left h in omega arith;
  corner_above = λ h. let k = st.corner_above h in omega arith;
}

-- and the source's
pub source_chroma : (y : ℕ) (luma plane source_luma source : Plane) → IsSource 16 y luma source_luma → plane.width + plane.width ≡ luma.width → source.width + source.width ≡ source_luma.width
    → source.height + source.height ≡ source_luma.height → IsSource 8 (y / 2) plane source
source_chroma y luma plane source_luma source is w v h = record {
  wide = (let k = is.wide in omega arith);
  rows = (let k = is.rows in omega arith);
}

-- ---- macroblocks of a slice

row_end : (row width : ℕ) → row * width + width ≡ (row + 1) * width
row_end row width = grind arith

at_or_behind : (row width address : ℕ) → nat_le (row * width + width) address ≡ true → (row + 1) * width ≤ address
at_or_behind row width address h = let k : row * width + width ≤ address = grind (arith, nat_tests) in omega (arith, row_end row width)

behind_corner : (row width address : ℕ) → nat_le (row * width + width + 1) address ≡ true → (row + 1) * width ≤ address
behind_corner row width address h = let k : row * width + width + 1 ≤ address = grind (arith, nat_tests) in omega (arith, row_end row width)

later_row : (row width address : ℕ) → 0 < width → (row + 1) * width ≤ address → row + 1 ≤ address / width
later_row row width address wide h = le-div (row + 1) address width wide h

not_first : (b c : Bool) → (not b && c) ≡ true → b ≡ false
not_first true c h = sym h
not_first false c h = refl

second_part : (b c : Bool) → (not b && c) ≡ true → c ≡ true
second_part true true h = refl
second_part true false h = h
second_part false c h = h

inner_column : (width address : ℕ) → (address % width == 0) ≡ false → 0 < address % width
inner_column width address h = grind (arith, nat_tests)

multiple : (k width : ℕ) → 0 < width → k * width % width ≡ 0
multiple k width wide =
    let sum : k * width ≡ 0 + k * width = omega arith in
    let none : 0 % width ≡ 0 = omega arith in
    ap (λ (m : ℕ). m % width) sum ∙ add-mul-mod_self_right 0 k width ∙ none

zero_test : (m : ℕ) → m ≡ 0 → (m == 0) ≡ false → ⊥
zero_test m e h = grind (arith, nat_tests)

last_column : (width address : ℕ) → 0 < width → ((address + 1) % width == 0) ≡ false → address % width + 2 ≤ width
last_column width address wide h =
    elim (cases_lt (address % width + 1) width) [
      | inl l ↦ omega arith
      | inr g ↦
          (let whole : address + 1 ≡ (address / width + 1) * width = next_whole width address wide g in
          let none : (address + 1) % width ≡ 0 = ap (λ (m : ℕ). m % width) whole ∙ multiple (address / width + 1) width wide in
          absurd (zero_test ((address + 1) % width) none h))
    ]
  where
    next_whole : (width address : ℕ) → 0 < width → width ≤ address % width + 1 → address + 1 ≡ (address / width + 1) * width
    next_whole width address wide g =
        let parts : width * (address / width) + address % width ≡ address = omega arith in
        let small : address % width < width = omega arith in
        let product : (address / width + 1) * width ≡ width * (address / width) + width = grind arith in
        omega arith

-- the macroblock above at the right is there: this one isn't the last of the first row
behind_right : (row width address : ℕ) → 0 < width → ((address + 1) % width == 0) ≡ false → nat_le (row * width + width) (address + 1) ≡ true → (row + 1) * width ≤ address
behind_right row width address wide h g =
    let k : row * width + width ≤ address + 1 = grind (arith, nat_tests) in
    elim (cases_lt address ((row + 1) * width)) [
      | inl l ↦
          (let e : address + 1 ≡ (row + 1) * width = omega (arith, row_end row width) in
          absurd (zero_test ((address + 1) % width) (ap (λ (m : ℕ). m % width) e ∙ multiple (row + 1) width wide) h))
      | inr r ↦ r
    ]

row_inside : (width rows address : ℕ) → 0 < width → address < width * rows → address / width < rows
row_inside width rows address wide h =
    elim (cases_lt (address / width) rows) [
      | inl l ↦ l
      | inr g ↦
          (let more : width * rows ≤ width * (address / width) = mul-le-mul_left width g in
          let parts : width * (address / width) + address % width ≡ address = omega arith in
          omega arith)
    ]

module _ (width rows row top address qp : ℕ) (plane : Plane) (wide : 0 < width) (begins : top ≤ row) (behind : row * width ≤ address) (inside : address < width * (top + rows)) (w : plane.width ≡ 16 * width) (h : plane.height ≡ 16 * rows) where
  column_is : address % width < width
  column_is = omega arith

  later : (row + 1) * width ≤ address → 16 * top + 16 ≤ 16 * (address / width)
  later l = let k : row + 1 ≤ address / width = later_row row width address wide l in omega arith

  -- a macroblock of a slice stands in the planes of a stripe
  pub stands_in : Stands (site_of width (row * width) address qp) (16 * top) plane
  stands_in = record {
    columns = (let k = column_is in omega arith);
    begins = (let k : row ≤ address / width = le-div row address width wide behind in omega arith);
    rows = (let k = row_inside width (top + rows) address wide inside in omega arith);
    left = λ e. let k : 0 < address % width = inner_column width address (not_first (address % width == 0) (nat_le (row * width + 1) address) e) in omega arith;
    above = λ e. later (at_or_behind row width address e);
    corner_left = λ e. let k : 0 < address % width = inner_column width address (not_first (address % width == 0) (nat_le (row * width + width + 1) address) e) in omega arith;
    corner_above = λ e. later (behind_corner row width address (second_part (address % width == 0) (nat_le (row * width + width + 1) address) e));
    beyond = λ e. let k : address % width + 2 ≤ width = last_column width address wide (not_first ((address + 1) % width == 0) (nat_le (row * width + width) (address + 1)) e) in omega arith;
    beyond_above = λ e.
        let last : ((address + 1) % width == 0) ≡ false = not_first ((address + 1) % width == 0) (nat_le (row * width + width) (address + 1)) e in
        let there : nat_le (row * width + width) (address + 1) ≡ true = second_part ((address + 1) % width == 0) (nat_le (row * width + width) (address + 1)) e in
        later (behind_right row width address wide last there);
  }
