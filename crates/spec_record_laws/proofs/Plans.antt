-- The modes and the kinds that are chosen.
use Rattle.std.proofs.Common.{◌≡◌, ◌≤◌, ◌<◌, ◌+◌, ◌*◌, ◌⊎◌, ℕ, zero, suc, Bool, true, false, cond, List, [], ◌∷◌, length, get_or, map, replicate, refl, arith, inl, inr, lit≤, lit<}
use Rattle.std.specs.List.{range_with_len, filter}
use Rattle.std.specs.Prelude.{nat_lt}
use Rattle.std.proofs.lemmas.Bool.{cases_lt}
use Rattle.std.proofs.lemmas.List.{get_or_past, length-replicate}
use Rattle.std.proofs.lemmas.List.FromFn.{length-map-range_with_len, get_or-map-range_with_len}
use Rattle.enc_tables.specs.declared.records.MbKind.{MbKind}
use Rattle.enc_tables.specs.declared.records.MbPlan.{MbPlan}
use Rattle.enc_tables.specs.declared.records.SliceKind.TheVariants.{I}
use Rattle.enc_tables.specs.Choice.{lesser, first_least, cost_of, choice_at, choice, lambda, intra_16, intra_nxn}
use Rattle.spec_film.specs.Films.{Planes}
use Rattle.spec_intra.specs.declared.Avail.{Avail}
use Rattle.spec_intra.specs.Block.{line}
use Rattle.spec_choice.specs.declared.ModeCost.{ModeCost}
use Rattle.spec_choice.specs.Modes.{with_cost, allowed_modes, best_mode, cost_of_mode, above_all}
use Rattle.spec_choice.specs.IntraPlans.{best4, best8, best16, best_chroma, intra_plan}
use Rattle.spec_record_laws.specs.Coded.{ModesFit, IsCodedKind}

-- ---- the first of least cost is one of those that there are

lesser_is : {A : Type 0} (P : A → Type 0) (cost : A → ℕ) (best next : A) → P best → P next → P (lesser cost best next)
unfolding lesser
lesser_is P cost best next h g = by (nat_lt (cost next) (cost best))
  where
    by : (b : Bool) → P (cond b next best)
    by true = g
    by false = h

-- P holds of each
abbrev pub Each : {A : Type 0} → (A → Type 0) → List A → Type 0
Each P [] = Unit {0}
Each P (x ∷ xs) = P x × Each P xs

pub least_is : {A : Type 0} (P : A → Type 0) (cost : A → ℕ) (best : A) (xs : List A) → P best → Each P xs → P (first_least cost best xs)
least_is P cost best [] h g = h
least_is P cost best (x ∷ xs) h g = least_is P cost (lesser cost best x) xs (lesser_is P cost best x h g.0) g.1

each_filtered : {A : Type 0} (P : A → Type 0) (test : A → Bool) (xs : List A) → Each P xs → Each P (filter test xs)
each_filtered P test [] h = tt
each_filtered P test (x ∷ xs) h = by (each_filtered P test xs h.1) (test x)
  where
    by : Each P (filter test xs) → (b : Bool) → Each P (cond b (x ∷ filter test xs) (filter test xs))
    by rest true = (h.0, rest)
    by rest false = rest

-- ---- modes

abbrev Below : ℕ → ModeCost → Type 0
Below n m = m.mode < n

each_costed : (n : ℕ) (cost : ℕ → ℕ) (a k : ℕ) → a + k ≤ n → Each (Below n) (map (with_cost cost) (range_with_len a k))
each_costed n cost a zero h = tt
each_costed n cost a (suc k) h = (omega arith, each_costed n cost (a + 1) k (omega arith))

best_below : (n : ℕ) (is_allowed : ℕ → Bool) (cost : ℕ → ℕ) → 0 < n → (best_mode n is_allowed cost).mode < n
unfolding best_mode allowed_modes
best_below n is_allowed cost some =
    least_is (Below n) cost_of_mode above_all _ some (each_filtered (Below n) _ (map (with_cost cost) (range_with_len 0 n)) (each_costed n cost 0 n (omega arith)))

best4_below : (wide : ℕ) (luma : List ℕ) (avail : Avail) (x y : ℕ) → (best4 wide luma avail x y).mode < 9
unfolding best4
best4_below wide luma avail x y = best_below 9 _ _ (lit< tt)

best8_below : (wide : ℕ) (luma : List ℕ) (avail : Avail) (x y : ℕ) → (best8 wide luma avail x y).mode < 9
unfolding best8
best8_below wide luma avail x y = best_below 9 _ _ (lit< tt)

best16_below : (wide : ℕ) (luma : List ℕ) (avail : Avail) (x y : ℕ) → (best16 wide luma avail x y).mode < 4
unfolding best16
best16_below wide luma avail x y = best_below 4 _ _ (lit< tt)

best_chroma_below : (wide : ℕ) (cb cr : List ℕ) (avail : Avail) (x y : ℕ) → (best_chroma wide cb cr avail x y).mode < 4
unfolding best_chroma
best_chroma_below wide cb cr avail x y = best_below 4 _ _ (lit< tt)

at_most_3 : (m : ℕ) → m < 4 → m ≤ 3
at_most_3 m h = omega arith

at_most_8 : (m : ℕ) → m < 9 → m ≤ 8
at_most_8 m h = omega arith

is_at_most : (a b m : ℕ) → a ≡ b → b ≤ m → a ≤ m
is_at_most a b m e h = omega arith

none_at_most : (a m : ℕ) → a ≡ 0 → a ≤ m
none_at_most a m e = omega arith

line_at : (n m : ℕ) (f : ℕ → ℕ) → ((k : ℕ) → f k ≤ m) → (k : ℕ) → (k < n) ⊎ (n ≤ k) → get_or (line n f) k 0 ≤ m
unfolding line
line_at n m f small k (inl l) = is_at_most _ _ m (get_or-map-range_with_len f 0 n k k 0 l (omega arith)) (small k)
line_at n m f small k (inr g) = none_at_most _ m (get_or_past (map f (range_with_len 0 n)) k 0 (omega (arith, length-map-range_with_len f 0 n)))

length-line : (n : ℕ) (f : ℕ → ℕ) → length (line n f) ≡ n
unfolding line
length-line n f = length-map-range_with_len f 0 n

zeros_at : (n k : ℕ) → get_or (replicate n 0) k 0 ≤ 8
zeros_at zero k = lit≤ tt
zeros_at (suc n) zero = lit≤ tt
zeros_at (suc n) (suc k) = zeros_at n k

cond_length : (b : Bool) (n : ℕ) (xs ys : List ℕ) → length xs ≡ n → length ys ≡ n → length (cond b xs ys) ≡ n
cond_length true n xs ys h g = h
cond_length false n xs ys h g = g

cond_at : (b : Bool) (m : ℕ) (xs ys : List ℕ) → ((k : ℕ) → get_or xs k 0 ≤ m) → ((k : ℕ) → get_or ys k 0 ≤ m) → (k : ℕ) → get_or (cond b xs ys) k 0 ≤ m
cond_at true m xs ys h g = h
cond_at false m xs ys h g = g

pub plans_fit : (width first_row : ℕ) (t8x8 : Bool) (source : Planes) (row column : ℕ) → ModesFit (intra_plan width first_row t8x8 source row column)
unfolding intra_plan
plans_fit width first_row t8x8 source row column = record {
  mode16 = at_most_3 _ (best16_below (16 * width) source.luma _ (16 * column) (16 * row));
  modes8_length = cond_length t8x8 4 _ _ (length-line 4 _) (length-replicate {A = ℕ} 4 0);
  modes8 = cond_at t8x8 8 _ _ (λ i. line_at 4 8 _ (λ k. at_most_8 _ (best8_below (16 * width) source.luma _ _ _)) i (cases_lt i 4)) (zeros_at 4);
  modes4_length = length-line 16 _;
  modes4 = λ i. line_at 16 8 _ (λ k. at_most_8 _ (best4_below (16 * width) source.luma _ _ _)) i (cases_lt i 16);
  chroma_mode = at_most_3 _ (best_chroma_below (8 * width) source.cb source.cr _ (8 * column) (8 * row));
}

-- ---- kinds

abbrev Coded : Bool → MbKind × ℕ → Type 0
Coded t8x8 c = IsCodedKind t8x8 c.0

choice_is : (t8x8 : Bool) (plan : MbPlan) (bit : ℕ) → Coded t8x8 (choice_at I plan bit t8x8)
choice_is true plan bit = least_is (Coded true) cost_of (intra_16 plan bit) (intra_nxn plan bit true) tt (refl, (tt, tt))
choice_is false plan bit = least_is (Coded false) cost_of (intra_16 plan bit) (intra_nxn plan bit false) tt (tt, tt)

pub choices_are_coded : (t8x8 : Bool) (plan : MbPlan) (qp : ℕ) → IsCodedKind t8x8 (choice I plan qp t8x8).0
unfolding choice
choices_are_coded t8x8 plan qp = choice_is t8x8 plan (lambda qp)
