-- The filter on a plane in a buffer with margins does what it does on the plain list of the plane's samples.
use Rattle.std.proofs.Common.{◌≡◌, ◌<◌, ◌≤◌, ◌+◌, ◌-◌, ◌*◌, ◌/◌, ◌%◌, ◌==◌, ◌&&◌, ◌||◌, not, ◌⊎◌, inl, inr, ℕ, zero, suc, Bool, true, false, cond, List, slice_index, refl, sym, ◌∙◌, arith, lit≤}
use Rattle.std.proofs.Math.Nat.{mul-le-mul_left}
use Rattle.std.proofs.lemmas.List.{ext_get_or}
use Rattle.spec_filter.specs.declared.MbEdges.{MbEdges}
use Rattle.spec_filter.specs.declared.Layout.{Layout}
use Rattle.spec_filter.specs.Strengths.{rule_at}
use Rattle.spec_filter.specs.Macroblocks.{has_luma_edge, has_chroma_edge, luma_vertical, luma_horizontal, chroma_vertical, chroma_horizontal, luma_macroblock, chroma_macroblock}
use Rattle.spec_filter.specs.Pictures.{luma_filtered, chroma_filtered, rows_of}
use Rattle.deblock.proofs.Rooms.{row_inside}
use Rattle.deblock.proofs.Shown.{Shows, edge_shown, cond_shown, steps_keep}

vertical_place : (o y x k n s j i : ℕ) → 4 ≤ x + k → o + y * s + x + k - 4 + n * s + j * s + i * 1 ≡ o + (y + n + j) * s + (x + k - 4 + i)
vertical_place o y x k n s j i h =
    let parts : (y + n + j) * s ≡ y * s + n * s + j * s = grind arith in
    omega (arith, parts)

horizontal_place : (o r x n s j i : ℕ) → o + r * s + x + n * 1 + j * 1 + i * s ≡ o + (r + i) * s + (x + n + j)
horizontal_place o r x n s j i =
    let parts : (r + i) * s ≡ r * s + i * s = grind arith in
    omega (arith, parts)

vertical_plain : (y x k n s j i : ℕ) → 4 ≤ x + k → 0 + y * s + x + k - 4 + n * s + j * s + i * 1 ≡ (y + n + j) * s + (x + k - 4 + i)
vertical_plain y x k n s j i h =
    let parts : (y + n + j) * s ≡ y * s + n * s + j * s = grind arith in
    omega (arith, parts)

horizontal_plain : (r x n s j i : ℕ) → 0 + r * s + x + n * 1 + j * 1 + i * s ≡ (r + i) * s + (x + n + j)
horizontal_plain r x n s j i =
    let parts : (r + i) * s ≡ r * s + i * s = grind arith in
    omega (arith, parts)

-- where an edge is filtered, samples stand before it
outer_or : (a b c : Bool) (k x : ℕ) → ((a || not (k == 0)) && c) ≡ true → (a ≡ true → 0 < x) → (0 < k) ⊎ (0 < x)
outer_or true b c zero x h f = inr (f refl)
outer_or true b c (suc k) x h f = inl (omega arith)
outer_or false b c zero x h f = absurd (cc)
outer_or false b c (suc k) x h f = inl (omega arith)

outer_alone : (a : Bool) (k x : ℕ) → (a || not (k == 0)) ≡ true → (a ≡ true → 0 < x) → (0 < k) ⊎ (0 < x)
outer_alone true zero x h f = inr (f refl)
outer_alone true (suc k) x h f = inl (omega arith)
outer_alone false zero x h f = absurd (cc)
outer_alone false (suc k) x h f = inl (omega arith)

at_least : (a k x : ℕ) → 4 ≤ a → (0 < k) ⊎ (0 < x) → 4 ≤ a * x + 4 * k
at_least a k x h (inl some) = omega arith
at_least a k x h (inr some) =
    let more : a * 1 ≤ a * x = mul-le-mul_left a (omega arith) in omega (arith, more)

module _ (o s w h : ℕ) (wide : w ≤ s) where
  abbrev padded : Layout
  padded = record { origin = o; stride = s }

  luma_vertical_shown : (e : MbEdges) (x y k : ℕ) (xs ys : List ℕ) → (e.left ≡ true → 0 < x) → 16 * x + 16 ≤ w → 16 * y + 16 ≤ h → k < 4
      → Shows o s w h xs ys → Shows o s w h (luma_vertical e padded x y k xs) (luma_vertical e (rows_of w) x y k ys)
  unfolding luma_vertical
  luma_vertical_shown e x y k xs ys before columns rows few m =
      cond_shown o s w h wide (has_luma_edge e.left e.transform8 k) xs _ ys _ m (λ has.
      edge_shown o s w h wide (λ g. rule_at false (cond (k == 0) e.luma.left e.luma.inner) (slice_index e.vertical (4 * k + g))) 4 (o + 16 * y * s + 16 * x + 4 * k - 4) 1 s (0 + 16 * y * w + 16 * x + 4 * k - 4) 1 w xs ys
      (λ g j hg hj. let some : 4 ≤ 16 * x + 4 * k = at_least 16 k x (lit≤ tt) (outer_or e.left e.transform8 (not (e.transform8 && k % 2 == 1)) k x has before) in
      record {
        row = λ i. 16 * y + 4 * g + j;
        column = λ i. 16 * x + 4 * k - 4 + i;
        in_row = λ i lt. omega arith;
        in_column = λ i lt. omega arith;
        place = λ i lt. vertical_place o (16 * y) (16 * x) (4 * k) (4 * g) s j i some;
        place2 = λ i lt. vertical_plain (16 * y) (16 * x) (4 * k) (4 * g) w j i some;
      }) m)

  luma_horizontal_shown : (e : MbEdges) (x y k : ℕ) (xs ys : List ℕ) → (e.above ≡ true → 0 < y) → 16 * x + 16 ≤ w → 16 * y + 16 ≤ h → k < 4
      → Shows o s w h xs ys → Shows o s w h (luma_horizontal e padded x y k xs) (luma_horizontal e (rows_of w) x y k ys)
  unfolding luma_horizontal
  luma_horizontal_shown e x y k xs ys before columns rows few m =
      cond_shown o s w h wide (has_luma_edge e.above e.transform8 k) xs _ ys _ m (λ has.
      edge_shown o s w h wide (λ g. rule_at false (cond (k == 0) e.luma.above e.luma.inner) (slice_index e.horizontal (4 * k + g))) 4 (o + (16 * y + 4 * k - 4) * s + 16 * x) s 1 (0 + (16 * y + 4 * k - 4) * w + 16 * x) w 1 xs ys
      (λ g j hg hj. record {
        row = λ i. 16 * y + 4 * k - 4 + i;
        column = λ i. 16 * x + 4 * g + j;
        in_row = λ i lt. omega arith;
        in_column = λ i lt. omega arith;
        place = λ i lt. horizontal_place o (16 * y + 4 * k - 4) (16 * x) (4 * g) s j i;
        place2 = λ i lt. horizontal_plain (16 * y + 4 * k - 4) (16 * x) (4 * g) w j i;
      }) m)

  luma_macroblock_shown : (e : MbEdges) (x y : ℕ) (xs ys : List ℕ) → (e.left ≡ true → 0 < x) → (e.above ≡ true → 0 < y) → 16 * x + 16 ≤ w → 16 * y + 16 ≤ h
      → Shows o s w h xs ys → Shows o s w h (luma_macroblock e padded x y xs) (luma_macroblock e (rows_of w) x y ys)
  unfolding luma_macroblock
  luma_macroblock_shown e x y xs ys left above columns rows m =
      steps_keep (Shows o s w h) (luma_horizontal e padded x y) (luma_horizontal e (rows_of w) x y) 4 _ _
      (λ k us vs few r. luma_horizontal_shown e x y k us vs above columns rows few r)
      (steps_keep (Shows o s w h) (luma_vertical e padded x y) (luma_vertical e (rows_of w) x y) 4 xs ys
      (λ k us vs few r. luma_vertical_shown e x y k us vs left columns rows few r) m)

  pub luma_filtered_shown : (edges : ℕ → MbEdges) (width n : ℕ) (xs ys : List ℕ)
      → ((m : ℕ) → m < n → ((edges m).left ≡ true → 0 < m % width) × ((edges m).above ≡ true → 0 < m / width) × (16 * (m % width) + 16 ≤ w) × (16 * (m / width) + 16 ≤ h))
      → Shows o s w h xs ys → Shows o s w h (luma_filtered edges width padded n xs) (luma_filtered edges width (rows_of w) n ys)
  unfolding luma_filtered
  luma_filtered_shown edges width n xs ys placed m =
      steps_keep (Shows o s w h) (λ i. luma_macroblock (edges i) padded (i % width) (i / width)) (λ i. luma_macroblock (edges i) (rows_of w) (i % width) (i / width)) n xs ys
      (λ i us vs lt r. let p = placed i lt in luma_macroblock_shown (edges i) (i % width) (i / width) us vs p.0 p.1 p.2 p.3 r) m

  chroma_vertical_shown : (e : MbEdges) (x y k : ℕ) (xs ys : List ℕ) → (e.left ≡ true → 0 < x) → 8 * x + 8 ≤ w → 8 * y + 8 ≤ h → k < 2
      → Shows o s w h xs ys → Shows o s w h (chroma_vertical e padded x y k xs) (chroma_vertical e (rows_of w) x y k ys)
  unfolding chroma_vertical
  chroma_vertical_shown e x y k xs ys before columns rows few m =
      cond_shown o s w h wide (has_chroma_edge e.left k) xs _ ys _ m (λ has.
      edge_shown o s w h wide (λ g. rule_at true (cond (k == 0) e.chroma.left e.chroma.inner) (slice_index e.vertical (8 * k + g))) 2 (o + 8 * y * s + 8 * x + 4 * k - 4) 1 s (0 + 8 * y * w + 8 * x + 4 * k - 4) 1 w xs ys
      (λ g j hg hj. let some : 4 ≤ 8 * x + 4 * k = at_least 8 k x (lit≤ tt) (outer_alone e.left k x has before) in
      record {
        row = λ i. 8 * y + 2 * g + j;
        column = λ i. 8 * x + 4 * k - 4 + i;
        in_row = λ i lt. omega arith;
        in_column = λ i lt. omega arith;
        place = λ i lt. vertical_place o (8 * y) (8 * x) (4 * k) (2 * g) s j i some;
        place2 = λ i lt. vertical_plain (8 * y) (8 * x) (4 * k) (2 * g) w j i some;
      }) m)

  chroma_horizontal_shown : (e : MbEdges) (x y k : ℕ) (xs ys : List ℕ) → (e.above ≡ true → 0 < y) → 8 * x + 8 ≤ w → 8 * y + 8 ≤ h → k < 2
      → Shows o s w h xs ys → Shows o s w h (chroma_horizontal e padded x y k xs) (chroma_horizontal e (rows_of w) x y k ys)
  unfolding chroma_horizontal
  chroma_horizontal_shown e x y k xs ys before columns rows few m =
      cond_shown o s w h wide (has_chroma_edge e.above k) xs _ ys _ m (λ has.
      edge_shown o s w h wide (λ g. rule_at true (cond (k == 0) e.chroma.above e.chroma.inner) (slice_index e.horizontal (8 * k + g))) 2 (o + (8 * y + 4 * k - 4) * s + 8 * x) s 1 (0 + (8 * y + 4 * k - 4) * w + 8 * x) w 1 xs ys
      (λ g j hg hj. record {
        row = λ i. 8 * y + 4 * k - 4 + i;
        column = λ i. 8 * x + 2 * g + j;
        in_row = λ i lt. omega arith;
        in_column = λ i lt. omega arith;
        place = λ i lt. horizontal_place o (8 * y + 4 * k - 4) (8 * x) (2 * g) s j i;
        place2 = λ i lt. horizontal_plain (8 * y + 4 * k - 4) (8 * x) (2 * g) w j i;
      }) m)

  chroma_macroblock_shown : (e : MbEdges) (x y : ℕ) (xs ys : List ℕ) → (e.left ≡ true → 0 < x) → (e.above ≡ true → 0 < y) → 8 * x + 8 ≤ w → 8 * y + 8 ≤ h
      → Shows o s w h xs ys → Shows o s w h (chroma_macroblock e padded x y xs) (chroma_macroblock e (rows_of w) x y ys)
  unfolding chroma_macroblock
  chroma_macroblock_shown e x y xs ys left above columns rows m =
      steps_keep (Shows o s w h) (chroma_horizontal e padded x y) (chroma_horizontal e (rows_of w) x y) 2 _ _
      (λ k us vs few r. chroma_horizontal_shown e x y k us vs above columns rows few r)
      (steps_keep (Shows o s w h) (chroma_vertical e padded x y) (chroma_vertical e (rows_of w) x y) 2 xs ys
      (λ k us vs few r. chroma_vertical_shown e x y k us vs left columns rows few r) m)

  pub chroma_filtered_shown : (edges : ℕ → MbEdges) (width n : ℕ) (xs ys : List ℕ)
      → ((m : ℕ) → m < n → ((edges m).left ≡ true → 0 < m % width) × ((edges m).above ≡ true → 0 < m / width) × (8 * (m % width) + 8 ≤ w) × (8 * (m / width) + 8 ≤ h))
      → Shows o s w h xs ys → Shows o s w h (chroma_filtered edges width padded n xs) (chroma_filtered edges width (rows_of w) n ys)
  unfolding chroma_filtered
  chroma_filtered_shown edges width n xs ys placed m =
      steps_keep (Shows o s w h) (λ i. chroma_macroblock (edges i) padded (i % width) (i / width)) (λ i. chroma_macroblock (edges i) (rows_of w) (i % width) (i / width)) n xs ys
      (λ i us vs lt r. let p = placed i lt in chroma_macroblock_shown (edges i) (i % width) (i / width) us vs p.0 p.1 p.2 p.3 r) m

-- a list is settled by what a buffer shows
pub shown_same : (o s w h : ℕ) (xs ys zs : List ℕ) → 0 < w → Shows o s w h xs ys → Shows o s w h xs zs → ys ≡ zs
shown_same o s w h xs ys zs some a b =
    ext_get_or 0 ys zs (a.size ∙ sym b.size) (λ i lt.
    let inside : i < h * w = omega (arith, a.size) in
    let row : i / w < h = row_inside i w h (omega (arith, turned h w)) in
    let column : i % w < w = omega arith in
    let place : i / w * w + i % w ≡ i = omega (arith, turned (i / w) w) in
    rw place at (sym (a.each (i / w) (i % w) row column) ∙ b.each (i / w) (i % w) row column))
  where
    turned : (m n : ℕ) → m * n ≡ n * m
    turned m n = grind arith
