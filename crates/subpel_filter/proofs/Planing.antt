-- Rows of half samples, over the whole buffer of a plane.
use Rattle.std.proofs.Common.{◌≡◌, ◌≢◌, ℕ, ◌+◌, ◌-◌, ◌*◌, ◌<◌, ◌≤◌, min, List, length, get_or, take, ◌++◌, w32, FitsSigned, refl, sym, ap, ap₂, ◌∙◌, inl, inr, arith, subst, ℤ, pos, negsuc, ◌+ℤ◌, ◌-ℤ◌}
use Rattle.std.proofs.lemmas.Int.{ints, to_z-of_z, fits_signed_from_abs}
use mir.Val.{to_z, of_z}
use borrow.Rule.Slice.PartMut.{put_mid}
use Rattle.std.proofs.lemmas.Grind.{common_steps}
use Rattle.std.proofs.lemmas.Bool.{cases_lt}
use Rattle.spec_film.specs.Places.{clamped_to, place_of}
use Rattle.picture_planes.specs.declared.plane.Plane.{Plane}
use Rattle.picture_planes.specs.Samples.{SameShape}
use Rattle.picture_planes.specs.Margins.{buffer_at, buffer_width, buffer_height, with_buffer_row, inward, nearest, row_place, IsFilled, IsWindow}
use Rattle.picture_planes.proofs.Filling.{nearest_is, clamped_inward, buffer_at_row}
use Rattle.picture_planes.proofs.PaddedLemmas.{one_row}
use Rattle.spec_inter.specs.Taps.{tap, half, half_twice}
use Rattle.spec_inter.specs.Luma.{about, along, down}
use Rattle.spec_inter.specs.Halves.{halves_of}
use Rattle.subpel_filter.specs.Rows.{half_at, half_down, middle_across, middle, ended, RawDown}
use Rattle.subpel_filter.specs.Halves.{samples_at, Holds, RowMade, RowsMade}
use Rattle.subpel_filter.proofs.Clips.{half_twice_up}

-- the row of the buffer that is lent
pub place_back : (r pad : ℕ) → place_of (pos r -ℤ pos pad +ℤ pos pad) ≡ r
place_back r pad = by (pos r -ℤ pos pad +ℤ pos pad) (omega (arith, ints))
  where
    by : (z : ℤ) → z ≡ pos r → place_of z ≡ r
    by (pos n) e = omega (arith, ints)
    by (negsuc n) e = absurd (omega (arith, ints))

pub row_back : (q : Plane) (r pad : ℕ) (z : ℤ) → z ≡ pos r -ℤ pos pad → q.pad ≡ pad → r < 2400 → pad ≤ 40 → row_place q (to_z w32 (of_z w32 z)) ≡ r
row_back q r pad z e same low thin =
    ap (λ (v : ℤ). place_of (v +ℤ pos q.pad)) (to_z-of_z w32 z (fits z e) ∙ e)
    ∙ ap (λ (n : ℕ). place_of (pos r -ℤ pos pad +ℤ pos n)) same
    ∙ place_back r pad
  where
    fits : (v : ℤ) → v ≡ pos r -ℤ pos pad → FitsSigned w32 v
    fits (pos n) h = fits_signed_from_abs w32 (pos n) (omega (arith, ints))
    fits (negsuc n) h = fits_signed_from_abs w32 (negsuc n) (omega (arith, ints))

-- the front of a list that was written over another's front
pub front_item : (xs ys : List ℕ) (n i : ℕ) → length xs ≡ n → i < n → get_or (take n (xs ++ ys)) i 0 ≡ get_or xs i 0
front_item xs ys n i e h = grind (arith, common_steps)

-- an item behind the second of a list that was written over from there on
pub middle_item : (xs ys : List ℕ) (n i : ℕ) → length ys ≡ n → n + 5 ≤ length xs → i < n → get_or (take (n + 5) (put_mid 2 (n + 2 - 2) xs ys)) (i + 2) 0 ≡ get_or ys i 0
middle_item xs ys n i e room h = grind (arith, common_steps)

middle_length : (xs ys : List ℕ) (n : ℕ) → length ys ≡ n → n + 5 ≤ length xs → length (take (n + 5) (put_mid 2 (n + 2 - 2) xs ys)) ≡ n + 5
middle_length xs ys n e room = grind (arith, common_steps)

-- a list whose middle was written, and then its ends
pub line_item : (xs ys new rest : List ℕ) (n i : ℕ) → length ys ≡ n → n + 5 ≤ length xs → 0 < n → i < n + 5 → length new ≡ length (take (n + 5) (put_mid 2 (n + 2 - 2) xs ys))
    → ((k : ℕ) → k < length (take (n + 5) (put_mid 2 (n + 2 - 2) xs ys)) → get_or new k 0 ≡ get_or (take (n + 5) (put_mid 2 (n + 2 - 2) xs ys)) (ended (length (take (n + 5) (put_mid 2 (n + 2 - 2) xs ys)) - 5) k + 2) 0)
    → get_or (take (n + 5) (new ++ rest)) i 0 ≡ get_or ys (ended n i) 0
line_item xs ys new rest n i e room some lt long ends =
    let whole = middle_length xs ys n e room in
    let back : length (take (n + 5) (put_mid 2 (n + 2 - 2) xs ys)) - 5 ≡ n = omega (arith, whole) in
    front_item new rest (n + 5) i (long ∙ whole) lt
    ∙ ends i (omega (arith, whole, lt))
    ∙ ap (λ (m : ℕ). get_or (take (n + 5) (put_mid 2 (n + 2 - 2) xs ys)) (ended m i + 2) 0) back
    ∙ middle_item xs ys n (ended n i) e room (omega (arith, some))

-- a row that is written over
pub row_made : (f : ℕ → ℕ) (r : ℕ) (w : List ℕ) (p : Plane) → r < buffer_height p → length w ≡ buffer_width p → ((c : ℕ) → c < buffer_width p → get_or w c 0 ≡ f c)
    → RowMade f r p (with_buffer_row p r w)
row_made f r w p h e items =
    let o = one_row p r w h e in
    let q : Plane = with_buffer_row p r w in
    record {
      shape = (refl, refl, refl);
      at = λ c k. buffer_at_row q c r k ∙ ap (λ (l : List ℕ). get_or l c 0) o.written ∙ items c k;
      others = λ c z k m ne. buffer_at_row q c z k ∙ ap (λ (l : List ℕ). get_or l c 0) (o.others z m ne) ∙ sym (buffer_at_row p c z k);
    }

-- the rows so far
pub rows_none : (f : ℕ → ℕ → ℕ) (p : Plane) → RowsMade f 0 p p
rows_none f p = record { shape = (refl, refl, refl); at = λ c r k m. absurd (omega (arith, m)) }

pub wide_same : (p q : Plane) → SameShape p q → buffer_width q ≡ buffer_width p
wide_same p q s = ap₂ (λ (a b : ℕ). a + 2 * b) s.0 s.2

pub high_same : (p q : Plane) → SameShape p q → buffer_height q ≡ buffer_height p
high_same p q s = ap₂ (λ (a b : ℕ). a + 2 * b) s.1 s.2

pub rows_more : (f : ℕ → ℕ → ℕ) (n : ℕ) (old mid new : Plane) → n < buffer_height old → RowsMade f n old mid → RowMade (λ c. f c n) n mid new → RowsMade f (n + 1) old new
rows_more f n old mid new h a b =
    let wide = wide_same old mid a.shape in
    let high = high_same old mid a.shape in
    record {
      shape = (b.shape.0 ∙ a.shape.0, b.shape.1 ∙ a.shape.1, b.shape.2 ∙ a.shape.2);
      at = λ c r k m. elim (cases_lt r n) [
        | inl lt ↦ (let ne : r ≢ n = omega (arith, lt) in b.others c r (omega (arith, wide, k)) (omega (arith, high, m, h)) ne ∙ a.at c r k lt)
        | inr le ↦ (let e : n ≡ r = omega (arith, m) in subst (λ (t : ℕ). buffer_at new c t ≡ f c t) e (b.at c (omega (arith, wide, k))))
      ];
    }

-- all rows
pub rows_all : (g : ℤ → ℤ → ℕ) (n : ℕ) (p old new : Plane) → SameShape p old → n ≡ buffer_height p → RowsMade (λ c r. g (inward p c) (inward p r)) n old new → Holds g new
rows_all g n p old new s all made =
    let wide = wide_same old new made.shape in
    let high = high_same old new made.shape in
    let high_p = high_same p old s in
    let pad : new.pad ≡ p.pad = made.shape.2 ∙ s.2 in
    record {
      at = λ c r h k. made.at c r (omega (arith, wide, h)) (omega (arith, high, high_p, all, k)) ∙ ap (λ (t : ℕ). g (pos c -ℤ pos t) (pos r -ℤ pos t)) (sym pad);
    }

-- in a buffer with ended rows, a row's own place
pub own_row : (n size : ℕ) → n < size → ended size (n + 2) ≡ n
own_row n size h = omega (arith, h)

module _ (p : Plane) (filled : IsFilled p) where
  abbrev W : ℕ
  W = buffer_width p

  abbrev H : ℕ
  H = buffer_height p

  -- the nearest byte of the buffer is the sample at any place
  spot : (c r k l : ℕ) → buffer_at p (ended W (c + k)) (ended H (r + l)) ≡ about (samples_at p) (inward p c) (inward p r) k l
  spot c r k l =
      filled.at (ended W (c + k)) (ended H (r + l)) (omega (arith, p.size)) (omega (arith, p.size))
      ∙ ap₂ (λ (a b : ℕ). Rattle.picture_planes.specs.Samples.at p a b) (column c k p.width p.size.0) (column r l p.height p.size.2)
      ∙ nearest_is p (inward p c -ℤ pos 2 +ℤ pos k) (inward p r -ℤ pos 2 +ℤ pos l)
    where
      shifted : (c k : ℕ) → pos (c + k) -ℤ pos (p.pad + 2) ≡ pos c -ℤ pos p.pad -ℤ pos 2 +ℤ pos k
      shifted c k = omega (arith, ints)

      column : (c k size : ℕ) → 0 < size → clamped_to (pos (ended (size + 2 * p.pad) (c + k)) -ℤ pos p.pad) size ≡ clamped_to (pos c -ℤ pos p.pad -ℤ pos 2 +ℤ pos k) size
      column c k size some =
          clamped_inward (ended (size + 2 * p.pad) (c + k)) p.pad size
          ∙ (let e : min (min (c + k - 2) (size + 2 * p.pad - 1) - p.pad) (size - 1) ≡ min (c + k - (p.pad + 2)) (size - 1) = omega (arith, some) in e)
          ∙ sym (clamped_inward (c + k) (p.pad + 2) size)
          ∙ ap (λ (z : ℤ). clamped_to z size) (shifted c k)

  first : (n : ℕ) → 0 + n ≡ n
  first n = omega arith

  own : (n size : ℕ) → n < size → ended size (n + 2) ≡ n
  own n size h = own_row n size h

  pub across_is : (r : ℕ) (row line : List ℕ) → r < H → IsWindow p 0 r W row → ((i : ℕ) → i < W + 5 → get_or line i 0 ≡ get_or row (ended W i) 0)
      → (c : ℕ) → c < W → half_at line c ≡ (halves_of (samples_at p)).b (inward p c) (inward p r)
  unfolding half_at
  across_is r row line h window wider c k =
      let f : ℕ → ℕ → ℕ = about (samples_at p) (inward p c) (inward p r) in
      let one : (m : ℕ) → m < 6 → get_or line (c + m) 0 ≡ f m 2 =
      λ m lt. wider (c + m) (omega (arith, k, lt)) ∙ window (ended W (c + m)) (omega (arith, p.size)) ∙ ap (λ (t : ℕ). buffer_at p t r) (first (ended W (c + m))) ∙ ap (λ (t : ℕ). buffer_at p (ended W (c + m)) t) (sym (own r H h)) ∙ spot c r m 2 in
      let zero_is : get_or line c 0 ≡ f 0 2 = ap (λ (t : ℕ). get_or line t 0) (omega arith) ∙ one 0 (omega arith) in
      rw (zero_is, one 1 (omega arith), one 2 (omega arith), one 3 (omega arith), one 4 (omega arith), one 5 (omega arith)) refl

  -- a column of six rows about row r
  pub record Six (r : ℕ) (x0 x1 x2 x3 x4 x5 : List ℕ) : Type 0 where
    pub s0 : IsWindow p 0 (ended H (r + 0)) W x0
    pub s1 : IsWindow p 0 (ended H (r + 1)) W x1
    pub s2 : IsWindow p 0 (ended H (r + 2)) W x2
    pub s3 : IsWindow p 0 (ended H (r + 3)) W x3
    pub s4 : IsWindow p 0 (ended H (r + 4)) W x4
    pub s5 : IsWindow p 0 (ended H (r + 5)) W x5

  seen : (c r k l : ℕ) (xs : List ℕ) → IsWindow p 0 (ended H (r + l)) W xs → get_or xs (ended W (c + k)) 0 ≡ about (samples_at p) (inward p c) (inward p r) k l
  seen c r k l xs w = w (ended W (c + k)) (omega (arith, p.size)) ∙ ap (λ (t : ℕ). buffer_at p t (ended H (r + l))) (first (ended W (c + k))) ∙ spot c r k l

  down_at : (c r k : ℕ) (x0 x1 x2 x3 x4 x5 : List ℕ) → Six r x0 x1 x2 x3 x4 x5
      → tap (pos (get_or x0 (ended W (c + k)) 0)) (pos (get_or x1 (ended W (c + k)) 0)) (pos (get_or x2 (ended W (c + k)) 0)) (pos (get_or x3 (ended W (c + k)) 0)) (pos (get_or x4 (ended W (c + k)) 0)) (pos (get_or x5 (ended W (c + k)) 0))
      ≡ down (about (samples_at p) (inward p c) (inward p r)) k
  down_at c r k x0 x1 x2 x3 x4 x5 s = rw (seen c r k 0 x0 s.s0, seen c r k 1 x1 s.s1, seen c r k 2 x2 s.s2, seen c r k 3 x3 s.s3, seen c r k 4 x4 s.s4, seen c r k 5 x5 s.s5) refl

  pub down_is : (r : ℕ) (x0 x1 x2 x3 x4 x5 : List ℕ) → Six r x0 x1 x2 x3 x4 x5 → (c : ℕ) → c < W → half_down x0 x1 x2 x3 x4 x5 c ≡ (halves_of (samples_at p)).h (inward p c) (inward p r)
  unfolding half_down
  down_is r x0 x1 x2 x3 x4 x5 s c k =
      ap (λ (t : ℕ). half (tap (pos (get_or x0 t 0)) (pos (get_or x1 t 0)) (pos (get_or x2 t 0)) (pos (get_or x3 t 0)) (pos (get_or x4 t 0)) (pos (get_or x5 t 0)))) (sym (own c W k))
      ∙ ap half (down_at c r 2 x0 x1 x2 x3 x4 x5 s)

  -- taps along rows of taps down columns are taps down columns of taps along rows
  turned : (f : ℕ → ℕ → ℕ) → tap (along f 0) (along f 1) (along f 2) (along f 3) (along f 4) (along f 5) ≡ tap (down f 0) (down f 1) (down f 2) (down f 3) (down f 4) (down f 5)
  turned f =
      let ups : (f 0 0 + 20 * (f 2 0 + f 3 0) + f 5 0) + 20 * ((f 0 2 + 20 * (f 2 2 + f 3 2) + f 5 2) + (f 0 3 + 20 * (f 2 3 + f 3 3) + f 5 3)) + (f 0 5 + 20 * (f 2 5 + f 3 5) + f 5 5) + 5 * ((5 * (f 1 1 + f 4 1)) + (5 * (f 1 4 + f 4 4)))
      ≡ (f 0 0 + 20 * (f 0 2 + f 0 3) + f 0 5) + 20 * ((f 2 0 + 20 * (f 2 2 + f 2 3) + f 2 5) + (f 3 0 + 20 * (f 3 2 + f 3 3) + f 3 5)) + (f 5 0 + 20 * (f 5 2 + f 5 3) + f 5 5) + 5 * ((5 * (f 1 1 + f 1 4)) + (5 * (f 4 1 + f 4 4))) = omega arith in
      let downs : (5 * (f 1 0 + f 4 0)) + 20 * ((5 * (f 1 2 + f 4 2)) + (5 * (f 1 3 + f 4 3))) + (5 * (f 1 5 + f 4 5)) + 5 * ((f 0 1 + 20 * (f 2 1 + f 3 1) + f 5 1) + (f 0 4 + 20 * (f 2 4 + f 3 4) + f 5 4))
      ≡ (5 * (f 0 1 + f 0 4)) + 20 * ((5 * (f 2 1 + f 2 4)) + (5 * (f 3 1 + f 3 4))) + (5 * (f 5 1 + f 5 4)) + 5 * ((f 1 0 + 20 * (f 1 2 + f 1 3) + f 1 5) + (f 4 0 + 20 * (f 4 2 + f 4 3) + f 4 5)) = omega arith in
      outer (along f) (λ l. (f 0 l + 20 * (f 2 l + f 3 l) + f 5 l)) (λ l. (5 * (f 1 l + f 4 l))) (λ l. flat (f 0 l) (f 1 l) (f 2 l) (f 3 l) (f 4 l) (f 5 l))
      ∙ ap₂ (λ (a b : ℕ). pos a -ℤ pos b) ups downs
      ∙ sym (outer (down f) (λ k. (f k 0 + 20 * (f k 2 + f k 3) + f k 5)) (λ k. (5 * (f k 1 + f k 4))) (λ k. flat (f k 0) (f k 1) (f k 2) (f k 3) (f k 4) (f k 5)))
    where
      flat : (a b c d e f : ℕ) → tap (pos a) (pos b) (pos c) (pos d) (pos e) (pos f) ≡ pos (a + 20 * (c + d) + f) -ℤ pos (5 * (b + e))
      flat a b c d e f = omega (arith, ints)

      plain : (s0 s1 s2 s3 s4 s5 : ℤ) (u0 u1 u2 u3 u4 u5 d0 d1 d2 d3 d4 d5 : ℕ) → s0 ≡ pos u0 -ℤ pos d0 → s1 ≡ pos u1 -ℤ pos d1 → s2 ≡ pos u2 -ℤ pos d2 → s3 ≡ pos u3 -ℤ pos d3 → s4 ≡ pos u4 -ℤ pos d4 → s5 ≡ pos u5 -ℤ pos d5
          → tap s0 s1 s2 s3 s4 s5 ≡ pos (u0 + 20 * (u2 + u3) + u5 + 5 * (d1 + d4)) -ℤ pos (d0 + 20 * (d2 + d3) + d5 + 5 * (u1 + u4))
      plain s0 s1 s2 s3 s4 s5 u0 u1 u2 u3 u4 u5 d0 d1 d2 d3 d4 d5 a b c d e f = omega (arith, ints)

      outer : (s : ℕ → ℤ) (u d : ℕ → ℕ) → ((m : ℕ) → s m ≡ pos (u m) -ℤ pos (d m))
          → tap (s 0) (s 1) (s 2) (s 3) (s 4) (s 5) ≡ pos (u 0 + 20 * (u 2 + u 3) + u 5 + 5 * (d 1 + d 4)) -ℤ pos (d 0 + 20 * (d 2 + d 3) + d 5 + 5 * (u 1 + u 4))
      outer s u d e = plain (s 0) (s 1) (s 2) (s 3) (s 4) (s 5) (u 0) (u 1) (u 2) (u 3) (u 4) (u 5) (d 0) (d 1) (d 2) (d 3) (d 4) (d 5) (e 0) (e 1) (e 2) (e 3) (e 4) (e 5)

  pub middle_is : (r : ℕ) (x0 x1 x2 x3 x4 x5 line : List ℕ) → Six r x0 x1 x2 x3 x4 x5 → ((i : ℕ) → i < W + 5 → RawDown x0 x1 x2 x3 x4 x5 (ended W i) (get_or line i 0))
      → (c : ℕ) → c < W → middle_across line c ≡ (halves_of (samples_at p)).j (inward p c) (inward p r)
  unfolding middle_across
  middle_is r x0 x1 x2 x3 x4 x5 line s raw c k =
      let f : ℕ → ℕ → ℕ = about (samples_at p) (inward p c) (inward p r) in
      let one : (m : ℕ) → m < 6 → pos (get_or line (c + m) 0) ≡ down f m +ℤ pos 2550 =
      λ m lt. (raw (c + m) (omega (arith, k, lt))).same ∙ ap (λ (t : ℤ). t +ℤ pos 2550) (down_at c r m x0 x1 x2 x3 x4 x5 s) in
      let zero_is : pos (get_or line c 0) ≡ down f 0 +ℤ pos 2550 = ap (λ (t : ℕ). pos (get_or line t 0)) (omega arith) ∙ one 0 (omega arith) in
      sym (half_twice_up (down f 0) (down f 1) (down f 2) (down f 3) (down f 4) (down f 5) _ _ _ _ _ _ zero_is (one 1 (omega arith)) (one 2 (omega arith)) (one 3 (omega arith)) (one 4 (omega arith)) (one 5 (omega arith)))
      ∙ ap half_twice (sym (turned f))
