-- The best mode of a block is one whose neighbours are available.
use Rattle.std.proofs.Common.{◌≡◌, ◌≤◌, ◌<◌, ◌+◌, ◌*◌, ◌^◌, ◌⊎◌, ℕ, zero, suc, Bool, true, false, cond, List, [], ◌∷◌, length, get_or, map, drop, replicate, refl, ap, ◌∙◌, arith, inl, inr}
use Rattle.std.specs.List.{range_with_len, filter}
use Rattle.std.specs.Prelude.{nat_lt}
use Rattle.std.proofs.lemmas.Bool.Decides.{nat_tests}
use Rattle.std.proofs.lemmas.List.{length-append, length-take}
use Rattle.std.proofs.lemmas.List.FromFn.{get_or-map-range_with_len}
use Rattle.spec_basics.proofs.SadLaws.{sad_most}
use Rattle.enc_tables.specs.Choice.{lesser, first_least}
use Rattle.spec_film.specs.Films.{Planes}
use Rattle.spec_intra.specs.declared.Avail.{Avail}
use Rattle.spec_intra.specs.Block.{line}
use Rattle.spec_basics.specs.Sums.{sad}
use Rattle.spec_intra.specs.Near.{macroblock_avail, plane_sample, neighbours4, neighbours8, neighbours16, neighbours_chroma}
use Rattle.spec_intra.specs.Predictions.{predicted4, predicted8, predicted16, predicted_chroma, is_allowed, is_allowed_nxn, is_allowed16, is_allowed_chroma}
use Rattle.spec_reconstruction.specs.Parts.{row_part, block_rows, block_at}
use Rattle.spec_choice.specs.declared.ModeCost.{ModeCost}
use Rattle.spec_choice.specs.Modes.{with_cost, allowed_modes, best_mode, cost_of_mode, above_all}
use Rattle.spec_choice.specs.IntraPlans.{best4, best8, best16, best_chroma, best4_of, best8_of, intra_plan}
use Rattle.spec_record_laws.specs.Coded.{AreBytes, PlanesFit, avail4, avail8, ModesAllowed}
use Rattle.spec_record_laws.proofs.Built.{rows_bytes}
use Rattle.spec_record_laws.proofs.Plans.{Each, least_is}
use Rattle.spec_record_laws.proofs.Predicted.{block4_bytes, block8_bytes, block16_bytes, chroma_bytes}

-- ---- the first of least cost, where some cost less than what it begins with

abbrev SomeBelow : {A : Type 0} → (A → ℕ) → ℕ → List A → Type 0
SomeBelow cost bound [] = ⊥
SomeBelow cost bound (x ∷ xs) = (cost x < bound) ⊎ SomeBelow cost bound xs

not_below : (a b : ℕ) → nat_lt a b ≡ false → a < b → ⊥
not_below a b e l = grind (arith, nat_tests)

least_among : {A : Type 0} (P : A → Type 0) (cost : A → ℕ) (best : A) (xs : List A) → Each P xs → SomeBelow cost (cost best) xs → P (first_least cost best xs)
unfolding lesser
least_among P cost best [] g s = absurd s
least_among P cost best (x ∷ xs) g s = by (nat_lt (cost x) (cost best)) refl (λ rest. least_among P cost best xs g.1 rest)
  where
    by : (b : Bool) → nat_lt (cost x) (cost best) ≡ b → (SomeBelow cost (cost best) xs → P (first_least cost best xs)) → P (first_least cost (cond b x best) xs)
    by true e more = least_is P cost x xs g.0 g.1
    by false e more = elim s [ inl less ↦ absurd (not_below (cost x) (cost best) e less) | inr rest ↦ more rest ]

-- what a filter keeps
each_passed : {A : Type 0} (test : A → Bool) (xs : List A) → Each (λ x. test x ≡ true) (filter test xs)
each_passed test [] = tt
each_passed test (x ∷ xs) = by (test x) refl (each_passed test xs)
  where
    by : (b : Bool) → test x ≡ b → Each (λ y. test y ≡ true) (filter test xs) → Each (λ y. test y ≡ true) (cond b (x ∷ filter test xs) (filter test xs))
    by true e rest = (e, rest)
    by false e rest = rest

abbrev SomeGood : {A : Type 0} → (A → Bool) → (A → ℕ) → ℕ → List A → Type 0
SomeGood test cost bound [] = ⊥
SomeGood test cost bound (x ∷ xs) = ((test x ≡ true) × (cost x < bound)) ⊎ SomeGood test cost bound xs

some_kept : {A : Type 0} (test : A → Bool) (cost : A → ℕ) (bound : ℕ) (xs : List A) → SomeGood test cost bound xs → SomeBelow cost bound (filter test xs)
some_kept test cost bound [] s = absurd s
some_kept test cost bound (x ∷ xs) s = elim s [
  | inl good ↦ rw good.0 (inl good.1)
  | inr rest ↦ by (test x) (some_kept test cost bound xs rest)
]
  where
    by : (b : Bool) → SomeBelow cost bound (filter test xs) → SomeBelow cost bound (cond b (x ∷ filter test xs) (filter test xs))
    by true h = inr h
    by false h = h

best_allowed : (n : ℕ) (is_allowed : ℕ → Bool) (cost : ℕ → ℕ) → SomeGood (λ (m : ModeCost). is_allowed m.mode) cost_of_mode (2 ^ 24) (map (with_cost cost) (range_with_len 0 n)) → is_allowed (best_mode n is_allowed cost).mode ≡ true
unfolding best_mode allowed_modes
best_allowed n is_allowed cost s =
    let test : ModeCost → Bool = λ m. is_allowed m.mode in
    let all : List ModeCost = map (with_cost cost) (range_with_len 0 n) in
    least_among (λ m. is_allowed m.mode ≡ true) cost_of_mode above_all (filter test all) (each_passed test all) (some_kept test cost_of_mode (2 ^ 24) all s)

-- ---- sums of absolute differences

sad_small : (xs ys : List ℕ) (n : ℕ) → AreBytes xs → AreBytes ys → length xs ≤ n → sad xs ys ≤ 255 * n
sad_small xs ys n h g few = sad_most xs ys n (λ k. h.at k) (λ k. g.at k) few

length-rows : (wide x y n : ℕ) (plane : List ℕ) (k : ℕ) → length (block_rows wide x y n plane k) ≤ k * n
unfolding block_rows
length-rows wide x y n plane zero = omega arith
length-rows wide x y n plane (suc k) =
    let rest = length-rows wide x y n plane k in
    let row = length-take n (drop ((y + k) * wide + x) plane) in
    let both = length-append (block_rows wide x y n plane k) (row_part wide x (y + k) n plane) in
    let more : suc k * n ≡ k * n + n = grind arith in
    omega arith

block_sad : (n wide x y : ℕ) (plane prediction : List ℕ) → AreBytes plane → AreBytes prediction → sad (block_at wide x y n plane) prediction ≤ 255 * (n * n)
block_sad n wide x y plane prediction h g = sad_small (block_at wide x y n plane) prediction (n * n) (rows_bytes wide x y n plane n h) g (length-rows wide x y n plane n)

is_small : (a b : ℕ) → a ≤ 255 * b → b ≤ 256 → a < 2 ^ 24
is_small a b h g = omega arith

sum_is_small : (a b : ℕ) → a ≤ 255 * 64 → b ≤ 255 * 64 → a + b < 2 ^ 24
sum_is_small a b h g = omega arith

-- ---- the best mode of each kind of block: the mean is always allowed

best4_allowed : (wide : ℕ) (luma : List ℕ) (avail : Avail) (x y : ℕ) → AreBytes luma → is_allowed_nxn (best4 wide luma avail x y).mode avail ≡ true
unfolding best4
best4_allowed wide luma avail x y h =
    best_allowed 9 (λ m. is_allowed 4 m avail) (λ m. sad (block_at wide x y 4 luma) (predicted4 m (neighbours4 (plane_sample wide luma) avail x y)))
    (inr (inr (inl (refl, is_small _ 16 (block_sad 4 wide x y luma _ h (block4_bytes wide 2 luma avail x y h)) (omega arith)))))

best8_allowed : (wide : ℕ) (luma : List ℕ) (avail : Avail) (x y : ℕ) → AreBytes luma → is_allowed_nxn (best8 wide luma avail x y).mode avail ≡ true
unfolding best8
best8_allowed wide luma avail x y h =
    best_allowed 9 (λ m. is_allowed 8 m avail) (λ m. sad (block_at wide x y 8 luma) (predicted8 m (neighbours8 (plane_sample wide luma) avail x y)))
    (inr (inr (inl (refl, is_small _ 64 (block_sad 8 wide x y luma _ h (block8_bytes wide 2 luma avail x y h)) (omega arith)))))

best16_allowed : (wide : ℕ) (luma : List ℕ) (avail : Avail) (x y : ℕ) → AreBytes luma → is_allowed16 (best16 wide luma avail x y).mode avail ≡ true
unfolding best16
best16_allowed wide luma avail x y h =
    best_allowed 4 (λ m. is_allowed 16 m avail) (λ m. sad (block_at wide x y 16 luma) (predicted16 m (neighbours16 (plane_sample wide luma) avail x y)))
    (inr (inr (inl (refl, is_small _ 256 (block_sad 16 wide x y luma _ h (block16_bytes wide 2 luma avail x y h)) (omega arith)))))

best_chroma_allowed : (wide : ℕ) (cb cr : List ℕ) (avail : Avail) (x y : ℕ) → AreBytes cb → AreBytes cr → is_allowed_chroma (best_chroma wide cb cr avail x y).mode avail ≡ true
unfolding best_chroma
best_chroma_allowed wide cb cr avail x y h g =
    best_allowed 4 (λ m. is_allowed 2 m avail)
    (λ m. sad (block_at wide x y 8 cb) (predicted_chroma m (neighbours_chroma (plane_sample wide cb) avail x y)) + sad (block_at wide x y 8 cr) (predicted_chroma m (neighbours_chroma (plane_sample wide cr) avail x y)))
    (inl (refl, sum_is_small _ _ (block_sad 8 wide x y cb _ h (chroma_bytes wide 0 cb avail x y h)) (block_sad 8 wide x y cr _ g (chroma_bytes wide 0 cr avail x y g))))

-- ---- the plan of a macroblock

line_is : (n : ℕ) (f : ℕ → ℕ) (k : ℕ) → k < n → get_or (line n f) k 0 ≡ f k
unfolding line
line_is n f k h = get_or-map-range_with_len f 0 n k k 0 h (omega arith)

kept_true : (b : Bool) (xs ys : List ℕ) → b ≡ true → cond b xs ys ≡ xs
kept_true b xs ys e = rw e refl

pub plans_allowed : (width first_row : ℕ) (t8x8 : Bool) (source : Planes) (row column : ℕ) → PlanesFit source → ModesAllowed t8x8 (macroblock_avail width (first_row * width) (row * width + column)) (intra_plan width first_row t8x8 source row column)
unfolding intra_plan
plans_allowed width first_row t8x8 source row column g =
    let mb : Avail = macroblock_avail width (first_row * width) (row * width + column) in
    let at4 : ℕ → ℕ = λ b. (best4_of (16 * width) source.luma mb (16 * column) (16 * row) b).mode in
    let at8 : ℕ → ℕ = λ k. (best8_of (16 * width) source.luma mb (16 * column) (16 * row) k).mode in
    record {
      mode16 = best16_allowed (16 * width) source.luma mb (16 * column) (16 * row) g.luma;
      modes8 = λ there k inside.
          ap (λ (modes : List ℕ). is_allowed_nxn (get_or modes k 0) (avail8 mb k)) (kept_true t8x8 (line 4 at8) (replicate 4 0) there)
          ∙ ap (λ (m : ℕ). is_allowed_nxn m (avail8 mb k)) (line_is 4 at8 k inside)
          ∙ best8_allowed (16 * width) source.luma (avail8 mb k) _ _ g.luma;
      modes4 = λ b inside.
          ap (λ (m : ℕ). is_allowed_nxn m (avail4 mb b)) (line_is 16 at4 b inside)
          ∙ best4_allowed (16 * width) source.luma (avail4 mb b) _ _ g.luma;
      chroma_mode = best_chroma_allowed (8 * width) source.cb source.cr mb (8 * column) (8 * row) g.cb g.cr;
    }
