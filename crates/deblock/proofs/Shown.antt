-- A plane in a buffer with margins and the same plane as a plain list: what the filter does to one it does to the other.
use Rattle.std.proofs.Common.{◌≡◌, ◌≢◌, ◌<◌, ◌≤◌, ◌+◌, ◌*◌, ◌⊎◌, inl, inr, ℕ, zero, suc, Bool, true, false, cond, List, length, get_or, set, refl, sym, ap, ◌∙◌, arith, lit<}
use Rattle.std.proofs.Math.Nat.{mul-le-mul_right}
use Rattle.std.proofs.Math.ListN.{length-set}
use Rattle.std.proofs.lemmas.Bool.{cases_order, cases_eq}
use Rattle.std.proofs.lemmas.List.{get_or-set_same, get_or-set_other}
use Rattle.enc_tables.specs.Steps.{steps}
use Rattle.spec_filter.specs.declared.SampleLine.{SampleLine}
use Rattle.spec_filter.specs.declared.EdgeRule.{EdgeRule}
use Rattle.spec_filter.specs.Lines.{filtered}
use Rattle.spec_filter.specs.Edges.{line_at, with_line, line_filtered, part_filtered, edge_filtered}

-- xs shows at o + y * s + x what ys, which has h rows of w, shows in row y and column x
pub record Shows (o s w h : ℕ) (xs ys : List ℕ) : Type 0 where
  pub each : (y x : ℕ) → y < h → x < w → get_or xs (o + y * s + x) 0 ≡ get_or ys (y * w + x) 0
  pub room : (y x : ℕ) → y < h → x < w → o + y * s + x < length xs
  pub size : length ys ≡ h * w

-- row and column are settled by the place
before : (s y x z v : ℕ) → x < s → y < z → y * s + x < z * s + v
before s y x z v h lt =
    let rows : (y + 1) * s ≤ z * s = mul-le-mul_right s (omega arith) in
    let one : (y + 1) * s ≡ y * s + s = grind arith in
    omega (arith, rows, one)

unique : (s y x z v : ℕ) → x < s → v < s → y * s + x ≡ z * s + v → (y ≡ z) × (x ≡ v)
unique s y x z v hx hv e = by (cases_order y z)
  where
    cancel : y ≡ z → x ≡ v
    cancel d = let p : y * s ≡ z * s = ap (λ (n : ℕ). n * s) d in omega (arith, p, e)

    by : (y ≡ z) ⊎ ((y < z) ⊎ (z < y)) → (y ≡ z) × (x ≡ v)
    by (inl d) = (d, cancel d)
    by (inr (inl lt)) = absurd (omega (arith, before s y x z v hx lt, e))
    by (inr (inr lt)) = absurd (omega (arith, before s z v y x hv lt, e))

in_rows : (w h y x : ℕ) → y < h → x < w → y * w + x < h * w
in_rows w h y x hy hx =
    let rows : (y + 1) * w ≤ h * w = mul-le-mul_right w (omega arith) in
    let one : (y + 1) * w ≡ y * w + w = grind arith in
    omega (arith, rows, one)

module _ (o s w h : ℕ) (wide : w ≤ s) where
  pub set_shown : (xs ys : List ℕ) (z v a : ℕ) → z < h → v < w → Shows o s w h xs ys → Shows o s w h (set xs (o + z * s + v) a) (set ys (z * w + v) a)
  set_shown xs ys z v a hz hv m = record {
    each = λ y x hy hx. by y x hy hx (cases_eq (y * w + x) (z * w + v));
    room = λ y x hy hx. omega (arith, m.room y x hy hx, length-set xs (o + z * s + v) a);
    size = length-set ys (z * w + v) a ∙ m.size;
  }
    where
      by : (y x : ℕ) → y < h → x < w → (y * w + x ≡ z * w + v) ⊎ (y * w + x ≢ z * w + v) → get_or (set xs (o + z * s + v) a) (o + y * s + x) 0 ≡ get_or (set ys (z * w + v) a) (y * w + x) 0
      by y x hy hx (inl e) =
          let u : (y ≡ z) × (x ≡ v) = unique w y x z v hx hv e in
          let rows : y * s ≡ z * s = ap (λ (n : ℕ). n * s) u.0 in
          let place : o + y * s + x ≡ o + z * s + v = omega (arith, rows, u.1) in
          ap (λ (n : ℕ). get_or (set xs (o + z * s + v) a) n 0) place
          ∙ get_or-set_same xs (o + z * s + v) a 0 (m.room z v hz hv)
          ∙ sym (get_or-set_same ys (z * w + v) a 0 (omega (arith, m.size, in_rows w h z v hz hv)))
          ∙ ap (λ (n : ℕ). get_or (set ys (z * w + v) a) n 0) (sym e)
      by y x hy hx (inr ne) =
          let other : o + y * s + x ≢ o + z * s + v = λ same.
          let u : (y ≡ z) × (x ≡ v) = unique s y x z v (omega arith) (omega arith) (omega arith) in
          ne (ap (λ (n : ℕ). n * w + x) u.0 ∙ ap (λ (n : ℕ). z * w + n) u.1) in
          get_or-set_other xs (o + z * s + v) (o + y * s + x) a 0 other
          ∙ m.each y x hy hx
          ∙ sym (get_or-set_other ys (z * w + v) (y * w + x) a 0 ne)

  -- eight places on a line, in the one and in the other
  pub record Along (start step start2 step2 : ℕ) : Type 0 where
    pub row : ℕ → ℕ
    pub column : ℕ → ℕ
    pub in_row : (j : ℕ) → j < 8 → row j < h
    pub in_column : (j : ℕ) → j < 8 → column j < w
    pub place : (j : ℕ) → j < 8 → start + j * step ≡ o + row j * s + column j
    pub place2 : (j : ℕ) → j < 8 → start2 + j * step2 ≡ row j * w + column j

  module _ (a b c d : ℕ) (along : Along a b c d) where
    seen : (xs ys : List ℕ) (j i k : ℕ) → j < 8 → i ≡ a + j * b → k ≡ c + j * d → Shows o s w h xs ys → get_or xs i 0 ≡ get_or ys k 0
    seen xs ys j i k few e f m =
        ap (λ (n : ℕ). get_or xs n 0) (e ∙ along.place j few)
        ∙ m.each (along.row j) (along.column j) (along.in_row j few) (along.in_column j few)
        ∙ ap (λ (n : ℕ). get_or ys n 0) (sym (along.place2 j few) ∙ sym f)

    put : (xs ys : List ℕ) (j i k v : ℕ) → j < 8 → i ≡ a + j * b → k ≡ c + j * d → Shows o s w h xs ys → Shows o s w h (set xs i v) (set ys k v)
    put xs ys j i k v few e f m =
        rw (e ∙ along.place j few, f ∙ along.place2 j few)
        (set_shown xs ys (along.row j) (along.column j) v (along.in_row j few) (along.in_column j few) m)

    line_shown : (xs ys : List ℕ) → Shows o s w h xs ys → line_at xs a b ≡ line_at ys c d
    unfolding line_at
    line_shown xs ys m =
        let e0 : get_or xs a 0 ≡ get_or ys c 0 = seen xs ys 0 a c (lit< tt) (omega arith) (omega arith) m in
        let e1 : get_or xs (a + b) 0 ≡ get_or ys (c + d) 0 = seen xs ys 1 (a + b) (c + d) (lit< tt) (omega arith) (omega arith) m in
        let e2 : get_or xs (a + 2 * b) 0 ≡ get_or ys (c + 2 * d) 0 = seen xs ys 2 (a + 2 * b) (c + 2 * d) (lit< tt) refl refl m in
        let e3 : get_or xs (a + 3 * b) 0 ≡ get_or ys (c + 3 * d) 0 = seen xs ys 3 (a + 3 * b) (c + 3 * d) (lit< tt) refl refl m in
        let e4 : get_or xs (a + 4 * b) 0 ≡ get_or ys (c + 4 * d) 0 = seen xs ys 4 (a + 4 * b) (c + 4 * d) (lit< tt) refl refl m in
        let e5 : get_or xs (a + 5 * b) 0 ≡ get_or ys (c + 5 * d) 0 = seen xs ys 5 (a + 5 * b) (c + 5 * d) (lit< tt) refl refl m in
        let e6 : get_or xs (a + 6 * b) 0 ≡ get_or ys (c + 6 * d) 0 = seen xs ys 6 (a + 6 * b) (c + 6 * d) (lit< tt) refl refl m in
        let e7 : get_or xs (a + 7 * b) 0 ≡ get_or ys (c + 7 * d) 0 = seen xs ys 7 (a + 7 * b) (c + 7 * d) (lit< tt) refl refl m in
        cc

    with_line_shown : (xs ys : List ℕ) (l : SampleLine) → Shows o s w h xs ys → Shows o s w h (with_line xs a b l) (with_line ys c d l)
    unfolding with_line
    with_line_shown xs ys l m =
        put _ _ 6 (a + 6 * b) (c + 6 * d) l.q2 (lit< tt) refl refl
        (put _ _ 5 (a + 5 * b) (c + 5 * d) l.q1 (lit< tt) refl refl
        (put _ _ 4 (a + 4 * b) (c + 4 * d) l.q0 (lit< tt) refl refl
        (put _ _ 3 (a + 3 * b) (c + 3 * d) l.p0 (lit< tt) refl refl
        (put _ _ 2 (a + 2 * b) (c + 2 * d) l.p1 (lit< tt) refl refl
        (put xs ys 1 (a + b) (c + d) l.p2 (lit< tt) (omega arith) (omega arith) m)))))

    pub line_filtered_shown : (r : EdgeRule) (xs ys : List ℕ) → Shows o s w h xs ys → Shows o s w h (line_filtered r a b xs) (line_filtered r c d ys)
    unfolding line_filtered
    line_filtered_shown r xs ys m =
        rw (line_shown xs ys m) (with_line_shown xs ys (filtered r (line_at ys c d)) m)

-- what one step keeps, steps keep
pub steps_keep : {A B : Type 0} (R : A → B → Type 0) (f : ℕ → A → A) (g : ℕ → B → B) (n : ℕ) (a : A) (b : B)
    → ((i : ℕ) (x : A) (y : B) → i < n → R x y → R (f i x) (g i y)) → R a b → R (steps f n a) (steps g n b)
unfolding steps
steps_keep R f g zero a b h r = r
steps_keep R f g (suc n) a b h r = h n (steps f n a) (steps g n b) (omega arith) (steps_keep R f g n a b (λ i x y lt. h i x y (omega arith)) r)

module _ (o s w h : ℕ) (wide : w ≤ s) where
  -- the lines of an edge
  pub edge_shown : (rule : ℕ → EdgeRule) (n start step across start2 step2 across2 : ℕ) (xs ys : List ℕ)
      → ((g j : ℕ) → g < 4 → j < n → Along o s w h wide (start + n * g * across + j * across) step (start2 + n * g * across2 + j * across2) step2)
      → Shows o s w h xs ys → Shows o s w h (edge_filtered rule n start step across xs) (edge_filtered rule n start2 step2 across2 ys)
  unfolding edge_filtered part_filtered
  edge_shown rule n start step across start2 step2 across2 xs ys along m =
      steps_keep (Shows o s w h)
      (λ g. steps (λ j. line_filtered (rule g) (start + n * g * across + j * across) step) n)
      (λ g. steps (λ j. line_filtered (rule g) (start2 + n * g * across2 + j * across2) step2) n) 4 xs ys
      (λ g x y few r. steps_keep (Shows o s w h)
      (λ j. line_filtered (rule g) (start + n * g * across + j * across) step)
      (λ j. line_filtered (rule g) (start2 + n * g * across2 + j * across2) step2) n x y
      (λ j u v lt t. line_filtered_shown o s w h wide _ _ _ _ (along g j few lt) (rule g) u v t) r)
      m

  pub cond_shown : (b : Bool) (xs us ys vs : List ℕ) → Shows o s w h xs ys → (b ≡ true → Shows o s w h us vs) → Shows o s w h (cond b us xs) (cond b vs ys)
  cond_shown true xs us ys vs r t = t refl
  cond_shown false xs us ys vs r t = r
