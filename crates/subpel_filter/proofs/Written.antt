-- A block written row by row.
use Rattle.std.proofs.Common.{◌≡◌, ℕ, suc, ◌+◌, ◌-◌, ◌*◌, ◌/◌, ◌<◌, ◌≤◌, List, length, get_or, take, drop, refl, sym, ap, ap₂, ◌∙◌, inl, inr, arith, rules, pos, set, ◌≢◌, subst, ℤ, ◌+ℤ◌, below_more, get_or-set_other, get_or-set_same}
use Rattle.std.proofs.lemmas.Bool.{cases_lt}
use Rattle.std.proofs.lemmas.Nat.{mul-add-lt}
use Rattle.std.proofs.lemmas.List.{places}
use Rattle.std.proofs.lemmas.Grind.{common_steps}
use borrow.Rule.Slice.PartMut.{put_mid, mid_of}
use Rattle.picture_planes.specs.declared.plane.Plane.{Plane}
use Rattle.picture_planes.specs.Margins.{buffer_at, IsWindow}
use Rattle.spec_inter.specs.Taps.{mean}
use Rattle.spec_inter.specs.Luma.{firsts, seconds, quarter_of, along}
use Rattle.subpel_filter.specs.Rows.{middle, half_at, half_down, RawOf}
use Rattle.spec_inter.specs.Blocks.{RowsHold}
use Rattle.subpel_filter.proofs.Clips.{half_twice_up}
use Rattle.spec_inter.specs.declared.Position.TheVariants.{Middle}
use Rattle.subpel_filter.specs.Near.{near_at, quarter_at, eighth_in, position_at, across_at, whole_at, down_at, RawAt}

part_below : (xs ys : List ℕ) (a k i : ℕ) → a ≤ length xs → i < a → get_or (put_mid a k xs ys) i 0 ≡ get_or xs i 0
part_below xs ys a k i p q = search (rules, places)

part_inside : (xs ys : List ℕ) (a k i : ℕ) → a ≤ length xs → i < length ys → get_or (put_mid a k xs ys) (a + i) 0 ≡ get_or ys i 0
part_inside xs ys a k i p q = search (rules, places)

pub rows_more : (P : ℕ → ℕ → ℕ → Type 0) (w j k : ℕ) (xs ys : List ℕ) → RowsHold P w j xs → length ys ≡ w → j * w ≤ length xs
    → ((i : ℕ) → i < w → P i j (get_or ys i 0)) → RowsHold P w (j + 1) (put_mid (j * w) k xs ys)
rows_more P w j k xs ys h len room row = record {
  at = λ i m p q. elim (cases_lt m j) [
    | inl lt ↦ (let below : m * w + i < j * w = omega (arith, mul-add-lt m w i j lt p) in
        subst (P i m) (sym (part_below xs ys (j * w) k (m * w + i) room below)) (h.at i m p lt))
    | inr le ↦ (let e : j ≡ m = omega arith in
        subst (λ (t : ℕ). P i t (get_or (put_mid (j * w) k xs ys) (t * w + i) 0)) e
        (subst (P i j) (sym (part_inside xs ys (j * w) k i room (omega arith))) (row i p)))
  ];
}

mul-le-mul : (a b c d : ℕ) → a ≤ b → c ≤ d → a * c ≤ b * d
mul-le-mul a b c d p q = grind arith

pub row_room : (j h H w : ℕ) → j < h → h ≤ H → w ≤ 16 → j * w + w ≤ 16 * H
row_room j h H w p q r = grind (arith, mul-le-mul (suc j) H w 16 (omega arith) r)

pub mid_len : (xs : List ℕ) (a w : ℕ) → a + w ≤ length xs → length (mid_of a (a + w - a) xs) ≡ w
mid_len xs a w p = grind (arith, common_steps)

-- the same for a block in 16 * H places that is not higher than H or wider than 16
pub block_more : (P : ℕ → ℕ → ℕ → Type 0) (w h H j : ℕ) (xs ys : List ℕ) → RowsHold P w j xs → length ys ≡ length (mid_of (j * w) (j * w + w - j * w) xs) → length xs ≡ 16 * H
    → j < h → w ≤ 16 → h ≤ H
    → ((i : ℕ) → i < length (mid_of (j * w) (j * w + w - j * w) xs) → i < w → P i j (get_or ys i 0)) → RowsHold P w (j + 1) (put_mid (j * w) (j * w + w - j * w) xs ys)
block_more P w h H j xs ys r same len lt narrow low row =
    let room = row_room j h H w lt low narrow in
    let mid = mid_len xs (j * w) w (omega arith) in
    rows_more P w j _ xs ys r (omega arith) (omega arith) (λ i p. row i (omega arith) p)

-- one sample of a window
seen : (p : Plane) (c r n i k : ℕ) (xs : List ℕ) → IsWindow p c r n xs → i + k < n → get_or xs (i + k) 0 ≡ buffer_at p (c + i + k) r
seen p c r n i k xs h lt = h (i + k) lt ∙ ap (λ (v : ℕ). buffer_at p v r) (omega arith)

pub whole_row : (p : Plane) (k l c r n i j : ℕ) (xs : List ℕ) → IsWindow p (c + k) (r + j + l) n xs → i < n → get_or xs i 0 ≡ whole_at p k l c r i j
unfolding whole_at
whole_row p k l c r n i j xs h lt = h i lt ∙ ap (λ (v : ℕ). buffer_at p v (r + j + l)) (omega arith)

-- a row of half samples over a window
pub across_row : (p : Plane) (l c r n i j : ℕ) (xs : List ℕ) → IsWindow p c (r + j + l) (n + 5) xs → i < n → half_at xs i ≡ across_at p l c r i j
unfolding half_at across_at
across_row p l c r n i j xs h lt =
    let a : get_or xs i 0 ≡ buffer_at p (c + i + 0) (r + j + l) = h i (omega arith) ∙ ap (λ (v : ℕ). buffer_at p v (r + j + l)) (omega arith) in
    rw (
      a,
      seen p c (r + j + l) (n + 5) i 1 xs h (omega arith),
      seen p c (r + j + l) (n + 5) i 2 xs h (omega arith),
      seen p c (r + j + l) (n + 5) i 3 xs h (omega arith),
      seen p c (r + j + l) (n + 5) i 4 xs h (omega arith),
      seen p c (r + j + l) (n + 5) i 5 xs h (omega arith),
    ) refl

pub down_row : (p : Plane) (k c r n i j : ℕ) (x0 x1 x2 x3 x4 x5 : List ℕ) → IsWindow p (c + k) (r + j) n x0 → IsWindow p (c + k) (r + j + 1) n x1 → IsWindow p (c + k) (r + j + 2) n x2
    → IsWindow p (c + k) (r + j + 3) n x3 → IsWindow p (c + k) (r + j + 4) n x4 → IsWindow p (c + k) (r + j + 5) n x5 → i < n → half_down x0 x1 x2 x3 x4 x5 i ≡ down_at p k c r i j
unfolding half_down down_at
down_row p k c r n i j x0 x1 x2 x3 x4 x5 h0 h1 h2 h3 h4 h5 lt =
    let e : c + k + i ≡ c + i + k = omega arith in
    let z : r + j ≡ r + j + 0 = omega arith in
    let a : get_or x0 i 0 ≡ buffer_at p (c + i + k) (r + j + 0) = h0 i lt ∙ ap (λ (v : ℕ). buffer_at p v (r + j)) e ∙ ap (λ (v : ℕ). buffer_at p (c + i + k) v) z in
    let b : get_or x1 i 0 ≡ buffer_at p (c + i + k) (r + j + 1) = h1 i lt ∙ ap (λ (v : ℕ). buffer_at p v (r + j + 1)) e in
    let d : get_or x2 i 0 ≡ buffer_at p (c + i + k) (r + j + 2) = h2 i lt ∙ ap (λ (v : ℕ). buffer_at p v (r + j + 2)) e in
    let f : get_or x3 i 0 ≡ buffer_at p (c + i + k) (r + j + 3) = h3 i lt ∙ ap (λ (v : ℕ). buffer_at p v (r + j + 3)) e in
    let g : get_or x4 i 0 ≡ buffer_at p (c + i + k) (r + j + 4) = h4 i lt ∙ ap (λ (v : ℕ). buffer_at p v (r + j + 4)) e in
    let h : get_or x5 i 0 ≡ buffer_at p (c + i + k) (r + j + 5) = h5 i lt ∙ ap (λ (v : ℕ). buffer_at p v (r + j + 5)) e in
    rw (a, b, d, f, g, h) refl

pub raw_row : (p : Plane) (c r n i j v : ℕ) (xs : List ℕ) → IsWindow p c (r + j) (n + 5) xs → i < n → RawOf xs i v → RawAt p c r i j v
raw_row p c r n i j v xs h lt raw =
    let z : r + j ≡ r + j + 0 = omega arith in
    let a : get_or xs i 0 ≡ buffer_at p (c + i + 0) (r + j + 0) = h i (omega arith) ∙ ap (λ (v : ℕ). buffer_at p v (r + j)) (omega arith) ∙ ap (λ (v : ℕ). buffer_at p (c + i + 0) v) z in
    let b = seen p c (r + j) (n + 5) i 1 xs h (omega arith) ∙ ap (λ (v : ℕ). buffer_at p (c + i + 1) v) z in
    let d = seen p c (r + j) (n + 5) i 2 xs h (omega arith) ∙ ap (λ (v : ℕ). buffer_at p (c + i + 2) v) z in
    let e = seen p c (r + j) (n + 5) i 3 xs h (omega arith) ∙ ap (λ (v : ℕ). buffer_at p (c + i + 3) v) z in
    let f = seen p c (r + j) (n + 5) i 4 xs h (omega arith) ∙ ap (λ (v : ℕ). buffer_at p (c + i + 4) v) z in
    let g = seen p c (r + j) (n + 5) i 5 xs h (omega arith) ∙ ap (λ (v : ℕ). buffer_at p (c + i + 5) v) z in
    record { same = rw (a, b, d, e, f, g) at raw.same; most = raw.most }

-- the taps along row m of the surroundings, from those of the row that lies there
moved_row : (p : Plane) (c r i j m : ℕ) → along (near_at p (c + i) (r + (j + m))) 0 ≡ along (near_at p (c + i) (r + j)) m
moved_row p c r i j m = let e : r + (j + m) + 0 ≡ r + j + m = omega arith in rw e refl

pub middle_place : (p : Plane) (c r w n i j : ℕ) (xs : List ℕ) → RowsHold (RawAt p c r) w n xs → i < w → j + 5 < n
    → middle (get_or xs (j * w + i) 0) (get_or xs ((j + 1) * w + i) 0) (get_or xs ((j + 2) * w + i) 0) (get_or xs ((j + 3) * w + i) 0) (get_or xs ((j + 4) * w + i) 0) (get_or xs ((j + 5) * w + i) 0)
    ≡ position_at p Middle c r i j
unfolding position_at
middle_place p c r w n i j xs h lt lt5 =
    let a = (h.at i j lt (omega arith)).same in
    let b = (h.at i (j + 1) lt (omega arith)).same ∙ ap (λ (t : ℤ). t +ℤ pos 2550) (moved_row p c r i j 1) in
    let d = (h.at i (j + 2) lt (omega arith)).same ∙ ap (λ (t : ℤ). t +ℤ pos 2550) (moved_row p c r i j 2) in
    let e = (h.at i (j + 3) lt (omega arith)).same ∙ ap (λ (t : ℤ). t +ℤ pos 2550) (moved_row p c r i j 3) in
    let f = (h.at i (j + 4) lt (omega arith)).same ∙ ap (λ (t : ℤ). t +ℤ pos 2550) (moved_row p c r i j 4) in
    let g = (h.at i (j + 5) lt (omega arith)).same ∙ ap (λ (t : ℤ). t +ℤ pos 2550) (moved_row p c r i j 5) in
    sym (half_twice_up (along (near_at p (c + i) (r + j)) 0) (along (near_at p (c + i) (r + j)) 1) (along (near_at p (c + i) (r + j)) 2) (along (near_at p (c + i) (r + j)) 3) (along (near_at p (c + i) (r + j)) 4) (along (near_at p (c + i) (r + j)) 5) _ _ _ _ _ _ a b d e f g)

-- place i of the row at a in a list of rows
pub row_place : (xs : List ℕ) (a w i : ℕ) → i < w → get_or (take (a + w - a) (drop a xs)) i 0 ≡ get_or xs (a + i) 0
row_place xs a w i p = grind (arith, common_steps)

-- one place more of a row
pub item_more : (P : ℕ → ℕ → Type 0) (xs : List ℕ) (i v : ℕ) → i < length xs → ((k : ℕ) → k < i → P k (get_or xs k 0)) → P i v
    → (k : ℕ) → k < i + 1 → P k (get_or (set xs i v) k 0)
item_more P xs i v p h e = below_more _ _ (λ k q. (let ne : k ≢ i = omega arith in rw get_or-set_other (h k q))) (rw get_or-set_same e)

-- the mean of two blocks
pub means : (F G : ℕ → ℕ → ℕ) (w h n : ℕ) (xs ys zs : List ℕ) → RowsHold (λ i j v. v ≡ F i j) w h xs → RowsHold (λ i j v. v ≡ G i j) w h ys → n ≡ h * w
    → ((k : ℕ) → k < n → get_or zs k 0 ≡ mean (get_or xs k 0) (get_or ys k 0)) → RowsHold (λ i j v. v ≡ mean (F i j) (G i j)) w h zs
means F G w h n xs ys zs f g e m = record {
  at = λ i j p q.
      (let k : j * w + i < n = omega (arith, mul-add-lt j w i h q p, e) in
      m (j * w + i) k ∙ ap₂ mean (f.at i j p q) (g.at i j p q));
}

-- a block that is its own mean
pub mean_same : (F G : ℕ → ℕ → ℕ) (w h : ℕ) (xs : List ℕ) → RowsHold (λ i j v. v ≡ F i j) w h xs → ((i j : ℕ) → F i j ≡ G i j) → RowsHold (λ i j v. v ≡ mean (F i j) (G i j)) w h xs
mean_same F G w h xs f e = record {
  at = λ i j p q. (let a : F i j ≡ G i j = e i j in f.at i j p q ∙ omega arith);
}

-- the same for a block in 64 places that is at most 8 high and 8 wide
row_room_8 : (j h w : ℕ) → j < h → h ≤ 8 → w ≤ 8 → j * w + w ≤ 64
row_room_8 j h w p q r = grind (arith, mul-le-mul (suc j) 8 w 8 (omega arith) r)

pub block_more_8 : (P : ℕ → ℕ → ℕ → Type 0) (w h j : ℕ) (xs ys : List ℕ) → RowsHold P w j xs → length ys ≡ length (mid_of (j * w) (j * w + w - j * w) xs) → length xs ≡ 64
    → j < h → w ≤ 8 → h ≤ 8
    → ((i : ℕ) → i < length (mid_of (j * w) (j * w + w - j * w) xs) → i < w → P i j (get_or ys i 0)) → RowsHold P w (j + 1) (put_mid (j * w) (j * w + w - j * w) xs ys)
block_more_8 P w h j xs ys r same len lt narrow low row =
    let room = row_room_8 j h w lt low narrow in
    let mid = mid_len xs (j * w) w (omega arith) in
    rows_more P w j _ xs ys r (omega arith) (omega arith) (λ i p. row i (omega arith) p)

-- a row of a chroma block over two windows
pub eighth_row : (p : Plane) (u v c r n i j : ℕ) (h0 h1 h2 h3 : ℕ) (xs ys : List ℕ) → IsWindow p c (r + j) (n + 1) xs → IsWindow p c (r + j + 1) (n + 1) ys → i < n
    → h0 ≡ (8 - u) * (8 - v) → h1 ≡ u * (8 - v) → h2 ≡ (8 - u) * v → h3 ≡ u * v
    → (h0 * get_or xs i 0 + h1 * get_or xs (i + 1) 0 + h2 * get_or ys i 0 + h3 * get_or ys (i + 1) 0 + 32) / 64 ≡ eighth_in p u v c r i j
unfolding eighth_in
eighth_row p u v c r n i j h0 h1 h2 h3 xs ys hx hy lt e0 e1 e2 e3 =
    let z : r + j ≡ r + j + 0 = omega arith in
    let x : c + i ≡ c + i + 0 = omega arith in
    let a : get_or xs i 0 ≡ buffer_at p (c + i + 0) (r + j + 0) = hx i (omega arith) ∙ ap₂ (buffer_at p) x z in
    let b : get_or xs (i + 1) 0 ≡ buffer_at p (c + i + 1) (r + j + 0) = seen p c (r + j) (n + 1) i 1 xs hx (omega arith) ∙ ap (λ (t : ℕ). buffer_at p (c + i + 1) t) z in
    let d : get_or ys i 0 ≡ buffer_at p (c + i + 0) (r + j + 1) = hy i (omega arith) ∙ ap (λ (t : ℕ). buffer_at p t (r + j + 1)) x in
    let e : get_or ys (i + 1) 0 ≡ buffer_at p (c + i + 1) (r + j + 1) = seen p c (r + j + 1) (n + 1) i 1 ys hy (omega arith) in
    rw (e0, e1, e2, e3, a, b, d, e) refl

-- a block in other words
pub block_same : (f g : ℕ → ℕ → ℕ) (w w' h : ℕ) (xs : List ℕ) → RowsHold (λ i j v. v ≡ f i j) w h xs → w' ≡ w → ((i j : ℕ) → i < w → j < h → f i j ≡ g i j) → RowsHold (λ i j v. v ≡ g i j) w' h xs
block_same f g w w' h xs r e same = subst (λ (n : ℕ). RowsHold (λ i j v. v ≡ g i j) n h xs) (sym e) (record { at = λ i j p q. r.at i j p q ∙ same i j p q })

put_length : (xs ys : List ℕ) (a w : ℕ) → a + w ≤ length xs → length ys ≡ w → length (put_mid a (a + w - a) xs ys) ≡ length xs
put_length xs ys a w h e = grind (arith, common_steps)

-- four rows more of a block in 256 places
pub block_four : (P : ℕ → ℕ → ℕ → Type 0) (w h j m : ℕ) (xs y0 y1 y2 y3 : List ℕ) → RowsHold P w j xs → length xs ≡ 256 → j + 4 ≡ m → j + 3 < h → w ≤ 16 → h ≤ 16
    → length y0 ≡ w → length y1 ≡ w → length y2 ≡ w → length y3 ≡ w
    → ((i : ℕ) → i < w → P i j (get_or y0 i 0)) → ((i : ℕ) → i < w → P i (j + 1) (get_or y1 i 0)) → ((i : ℕ) → i < w → P i (j + 2) (get_or y2 i 0)) → ((i : ℕ) → i < w → P i (j + 3) (get_or y3 i 0))
    → RowsHold P w m (put_mid ((j + 3) * w) ((j + 3) * w + w - (j + 3) * w) (put_mid ((j + 2) * w) ((j + 2) * w + w - (j + 2) * w) (put_mid ((j + 1) * w) ((j + 1) * w + w - (j + 1) * w) (put_mid (j * w) (j * w + w - j * w) xs y0) y1) y2) y3)
block_four P w h j m xs y0 y1 y2 y3 r len next lt narrow low l0 l1 l2 l3 p0 p1 p2 p3 =
    let room0 : j * w + w ≤ 256 = row_room j h 16 w (omega arith) low narrow in
    let room1 : (j + 1) * w + w ≤ 256 = row_room (j + 1) h 16 w (omega arith) low narrow in
    let room2 : (j + 2) * w + w ≤ 256 = row_room (j + 2) h 16 w (omega arith) low narrow in
    let room3 : (j + 3) * w + w ≤ 256 = row_room (j + 3) h 16 w (omega arith) low narrow in
    let x0 : List ℕ = put_mid (j * w) (j * w + w - j * w) xs y0 in
    let x1 : List ℕ = put_mid ((j + 1) * w) ((j + 1) * w + w - (j + 1) * w) x0 y1 in
    let x2 : List ℕ = put_mid ((j + 2) * w) ((j + 2) * w + w - (j + 2) * w) x1 y2 in
    let n0 : length x0 ≡ 256 = put_length xs y0 (j * w) w (omega (arith, room0, len)) l0 ∙ len in
    let n1 : length x1 ≡ 256 = put_length x0 y1 ((j + 1) * w) w (omega (arith, room1, n0)) l1 ∙ n0 in
    let n2 : length x2 ≡ 256 = put_length x1 y2 ((j + 2) * w) w (omega (arith, room2, n1)) l2 ∙ n1 in
    let r0 = rows_more P w j (j * w + w - j * w) xs y0 r l0 (omega (arith, room0, len)) p0 in
    let r1 : RowsHold P w (j + 2) x1 = one_more x1 (rows_more P w (j + 1) ((j + 1) * w + w - (j + 1) * w) x0 y1 r0 l1 (omega (arith, room1, n0)) p1) (omega arith) in
    let r2 : RowsHold P w (j + 3) x2 = one_more x2 (rows_more P w (j + 2) ((j + 2) * w + w - (j + 2) * w) x1 y2 r1 l2 (omega (arith, room2, n1)) p2) (omega arith) in
    one_more _ (rows_more P w (j + 3) ((j + 3) * w + w - (j + 3) * w) x2 y3 r2 l3 (omega (arith, room3, n2)) p3) (omega (arith, next))
  where
    one_more : {n m : ℕ} (zs : List ℕ) → RowsHold P w n zs → n ≡ m → RowsHold P w m zs
    one_more zs h e = subst (λ (k : ℕ). RowsHold P w k zs) e h

-- at a whole sample position both samples are the sample itself
pub none_across : (p : Plane) (x y c r i j : ℕ) → x ≡ 0 → y ≡ 0 → whole_at p 2 2 c r i j ≡ quarter_at p x y c r i j
unfolding whole_at quarter_at firsts seconds
none_across p x y c r i j a b = itself (near_at p (c + i) (r + j) 2 2) ∙ sym (ap₂ (λ (u v : ℕ). quarter_of (near_at p (c + i) (r + j)) u v) a b)
  where
    itself : (g : ℕ) → g ≡ mean g g
    itself g = omega arith
