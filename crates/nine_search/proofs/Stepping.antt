-- Searches of nine partitions at once, from place to place and over the whole window.
use Rattle.std.proofs.Common.{◌≡◌, ℕ, zero, suc, ◌+◌, ◌*◌, ◌<◌, ◌≤◌, List, refl, subst, sym, ap, ◌∙◌, arith, add-one, inl, inr}
use Rattle.std.specs.Prelude.{ℤ, slice_index, nat_lt, if◌then◌else◌}
use Rattle.std.specs.List.{sum_by}
use Rattle.std.proofs.Math.Nat.{mul-le-mul}
use Rattle.std.proofs.lemmas.Bool.Decides.{nat_tests}
use Rattle.std.proofs.lemmas.Bool.{cases_lt}
use Rattle.spec_basics.specs.Sums.{sum_below}
use Rattle.spec_kernels.proofs.SumLaws.{sum-zero, sum-more, sum-same, sum-plus}
use Rattle.spec_search.specs.Scan.{dx_of, dy_of, spot_at, window_size}
use Rattle.spec_search.specs.Least.{IsFirstLeast, Searched, compared_of}
use Rattle.spec_search.specs.Window.{scanned, IsWindowBest, compared_in}
use Rattle.spec_search.proofs.Places.{passed_over, compared_kept, compared_moved, started}
use Rattle.spec_search.proofs.WindowLaws.{window_best, bound_under}
use Rattle.spec_inter_plans.specs.InterPlans.{partitions}
use Rattle.nine_search.specs.declared.partitions.Nine.{Nine}
use Rattle.picture_planes.specs.declared.plane.Plane.{Plane}
use Rattle.picture_planes.specs.Samples.{at}
use Rattle.picture_planes.specs.Margins.{nearest}
use Rattle.motion_search.specs.Planes.{costs, bounds}
use Rattle.nine_search.specs.Partitions.{of_partition, partition_of, partition_block, sub_macroblock}
use Rattle.nine_search.specs.NineSearches.{dx_at, dy_at, sad_at, wants, nine_want, below_count, IsBestSoFar, NineSearched, Takes}
use Rattle.nine_search.specs.NinePlanes.{sub_costs, sub_bounds}
use Rattle.nine_search.proofs.Summing.{partition_below, partition_same, partition_is, costs_add, bounds_add, sums_of_nine, eight, apart_at, sums_apart}

-- ---- counts

pub count_none : (sums limits : List ℕ) → below_count sums limits 0 ≡ 0
count_none sums limits = sum-zero (λ k. if nat_lt (slice_index sums k) (slice_index limits k) then 1 else 0)

pub count_one : (sums limits : List ℕ) (n : ℕ) → slice_index sums n < slice_index limits n → below_count sums limits (n + 1) ≡ below_count sums limits n + 1
count_one sums limits n p = let s = sum-more (λ k. if nat_lt (slice_index sums k) (slice_index limits k) then 1 else 0) n in s ∙ grind (arith, nat_tests)

pub count_same : (sums limits : List ℕ) (n : ℕ) → slice_index limits n ≤ slice_index sums n → below_count sums limits (n + 1) ≡ below_count sums limits n
count_same sums limits n p = let s = sum-more (λ k. if nat_lt (slice_index sums k) (slice_index limits k) then 1 else 0) n in s ∙ grind (arith, nat_tests)

-- no item of a sum of 0 is more
pub sum_of_none : (f : ℕ → ℕ) (n : ℕ) → sum_below f n ≡ 0 → (i : ℕ) → i < n → f i ≡ 0
unfolding sum_below
sum_of_none f zero e i p = absurd (omega arith)
sum_of_none f (suc n) e i p = elim (cases_lt i n) [
  | inl lt ↦ sum_of_none f n (omega arith) i lt
  | inr ge ↦ (let same : n ≡ i = omega arith in subst (λ (t : ℕ). f t ≡ 0) same (omega arith))
]

wants_none : (g : ℕ → ℕ) (limit n : ℕ) → wants g limit n ≡ 0 → limit ≤ g n
wants_none g limit n e = elim (cases_lt (g n) limit) [
  | inl lt ↦ absurd (let one : wants g limit n ≡ 1 = grind (arith, nat_tests) in omega arith)
  | inr ge ↦ ge
]

-- ---- one partition

better : (f g : ℕ → ℕ) (n b s c : ℕ) → 0 < n → Searched f g n b s c → f n < s → g n ≤ f n → Searched f g (n + 1) n (f n) (c + 1)
better f g n b s c p h lt le = rw add-one (compared_moved f g n b s c p h (omega arith) lt)

kept : (f g : ℕ → ℕ) (n b s c : ℕ) → 0 < n → Searched f g n b s c → g n ≤ f n → s ≤ f n → Searched f g (n + 1) b s (c + wants g s n)
kept f g n b s c p h le over = elim (cases_lt (g n) s) [
  | inl lt ↦ (let e : c + wants g s n ≡ c + 1 = grind (arith, nat_tests) in rw (add-one, e) (compared_kept f g n b s c p h lt over))
  | inr ge ↦ (let e : c + wants g s n ≡ c = grind (arith, nat_tests) in rw (add-one, e) (passed_over f g n b s c p h le ge))
]

-- a partition's best after one place more, and its count
record Gone (f g : ℕ → ℕ) (n s : ℕ) (dx dy : ℤ) (s2 : ℕ) : Type 0 where
  best : IsBestSoFar f g (n + 1) dx dy s2
  count : compared_of f g (n + 1) ≡ compared_of f g n + wants g s n

gone : (f g : ℕ → ℕ) (n place s s2 : ℕ) (dx dy : ℤ) → dx ≡ dx_of (spot_at place) → dy ≡ dy_of (spot_at place) → Searched f g (n + 1) place s2 (compared_of f g n + wants g s n) → Gone f g n s dx dy s2
gone f g n place s s2 dx dy d e h = record {
  best = record { place = place; across = d; down = e; known = subst (λ (t : ℕ). Searched f g (n + 1) place s2 t) h.count h };
  count = sym h.count;
}

one_step : (f g : ℕ → ℕ) (n k : ℕ) (dx dy : ℤ) (old new : Nine) → 0 < n → dx ≡ dx_of (spot_at n) → dy ≡ dy_of (spot_at n)
    → IsBestSoFar f g n (dx_at old k) (dy_at old k) (sad_at old k) → g n ≤ f n → Takes dx dy (f n) k old new
    → Gone f g n (sad_at old k) (dx_at new k) (dy_at new k) (sad_at new k)
one_step f g n k dx dy old new p d e h le t = elim (cases_lt (f n) (sad_at old k)) [
  | inl lt ↦ (let x = t.cheaper lt in
      let c : compared_of f g n + 1 ≡ compared_of f g n + wants g (sad_at old k) n = grind (arith, nat_tests) in
      let a = better f g n h.place (sad_at old k) (compared_of f g n) p h.known lt le in
      let b = subst (λ (t : ℕ). Searched f g (n + 1) n (f n) t) c a in
      gone f g n n (sad_at old k) (sad_at new k) (dx_at new k) (dy_at new k) (x.0 ∙ d) (x.1 ∙ e)
      (subst (λ (t : ℕ). Searched f g (n + 1) n t (compared_of f g n + wants g (sad_at old k) n)) (sym x.2) b))
  | inr ge ↦ (let x = t.other ge in
      let a = kept f g n h.place (sad_at old k) (compared_of f g n) p h.known le ge in
      gone f g n h.place (sad_at old k) (sad_at new k) (dx_at new k) (dy_at new k) (x.0 ∙ h.across) (x.1 ∙ h.down)
      (subst (λ (t : ℕ). Searched f g (n + 1) h.place t (compared_of f g n + wants g (sad_at old k) n)) (sym x.2) a))
]

-- ---- all nine

-- a place with its costs: the least ones go down, and the count goes up by those who wanted it before
pub nine_step : (f g : ℕ → ℕ → ℕ) (n count : ℕ) (dx dy : ℤ) (old new : Nine) → 0 < n → dx ≡ dx_of (spot_at n) → dy ≡ dy_of (spot_at n) → NineSearched f g n old
    → ((q : ℕ) → q < 4 → g q n ≤ f q n)
    → ((k : ℕ) → k < 9 → Takes dx dy (partition_of f k n) k old new)
    → count ≡ nine_want g (sad_at old) n → new.compared ≡ old.compared + count
    → NineSearched f g (n + 1) new
nine_step f g n count dx dy old new p d e h le t ce ne = record {
  each = λ k q. (one k q).best;
  count =
      (let a = sum-same (λ k. compared_of (partition_of f k) (partition_of g k) (n + 1)) (λ k. compared_of (partition_of f k) (partition_of g k) n + wants (partition_of g k) (sad_at old k) n) 9 (λ k q. (one k q).count) in
      let b = sum-plus (λ k. compared_of (partition_of f k) (partition_of g k) n) (λ k. wants (partition_of g k) (sad_at old k) n) 9 in
      let e = h.count in
      omega arith);
}
  where
    one : (k : ℕ) → k < 9 → Gone (partition_of f k) (partition_of g k) n (sad_at old k) (dx_at new k) (dy_at new k) (sad_at new k)
    one k q = one_step (partition_of f k) (partition_of g k) n k dx dy old new p d e (h.each k q) (partition_below (λ r. g r n) (λ r. f r n) le k) (t k q)

-- a place that nobody wants changes nothing
pub nine_passed : (f g : ℕ → ℕ → ℕ) (n : ℕ) (nine : Nine) → 0 < n → NineSearched f g n nine → ((q : ℕ) → q < 4 → g q n ≤ f q n) → nine_want g (sad_at nine) n ≡ 0 → NineSearched f g (n + 1) nine
nine_passed f g n nine p h le none = nine_step f g n 0 (dx_of (spot_at n)) (dy_of (spot_at n)) nine nine p refl refl h le
    (λ k q. (let w = wants_none (partition_of g k) (sad_at nine k) n (sum_of_none (λ k. wants (partition_of g k) (sad_at nine k) n) 9 none k q) in
    let b = partition_below (λ r. g r n) (λ r. f r n) le k in
    record { cheaper = λ lt. absurd (omega arith); other = λ ge. (refl, refl, refl) }))
    (sym none) (omega arith)

-- the count of sums that are below the least costs so far is that of the partitions which want the place
pub want_is : (g : ℕ → ℕ → ℕ) (n : ℕ) (bounds sums limits : List ℕ) → ((q : ℕ) → q < 4 → slice_index bounds q ≡ g q n)
    → ((k : ℕ) → k < 9 → slice_index sums k ≡ of_partition (slice_index bounds) k)
    → below_count sums limits 9 ≡ nine_want g (slice_index limits) n
want_is g n bounds sums limits b s = sum-same (λ k. if nat_lt (slice_index sums k) (slice_index limits k) then 1 else 0) (λ k. wants (partition_of g k) (slice_index limits k) n) 9
    (λ k q. ap (λ (t : ℕ). if nat_lt t (slice_index limits k) then 1 else 0) (s k q ∙ partition_same (slice_index bounds) (λ r. g r n) b k))

pub cost_is_of : (f : ℕ → ℕ → ℕ) (n : ℕ) (costs sums : List ℕ) → ((q : ℕ) → q < 4 → slice_index costs q ≡ f q n)
    → ((k : ℕ) → k < 9 → slice_index sums k ≡ of_partition (slice_index costs) k)
    → (k : ℕ) → k < 9 → slice_index sums k ≡ partition_of f k n
cost_is_of f n costs sums c s k q = s k q ∙ partition_same (slice_index costs) (λ r. f r n) c k

pub takes_same : (dx dy : ℤ) (k a b : ℕ) (old new : Nine) → a ≡ b → Takes dx dy a k old new → Takes dx dy b k old new
takes_same dx dy k a b old new e t = subst (λ (c : ℕ). Takes dx dy c k old new) e t

-- the first place
pub nine_started : (f g : ℕ → ℕ → ℕ) (nine : Nine) → ((k : ℕ) → k < 9 → dx_at nine k ≡ dx_of (spot_at 0)) → ((k : ℕ) → k < 9 → dy_at nine k ≡ dy_of (spot_at 0))
    → ((k : ℕ) → k < 9 → sad_at nine k ≡ partition_of f k 0) → nine.compared ≡ 9 → NineSearched f g 1 nine
unfolding sum_below
nine_started f g nine d e s c = record {
  each = λ k q. record { place = 0; across = d k q; down = e k q; known = (let b = s k q in rw b (started (partition_of f k) (partition_of g k))) };
  count = c;
}

-- ---- the whole window

costs_same : (s r : Plane) (x y k : ℕ) → k < 9 → (n : ℕ) → partition_of (sub_costs s r x y) k n ≡ scanned (costs s r (partition_block x y k)) n
costs_same s r x y k p n = partition_is (λ block. costs s r block (dx_of (spot_at n)) (dy_of (spot_at n))) (eight (apart_at (at s) (nearest r) (dx_of (spot_at n)) (dy_of (spot_at n)))) (costs_add (at s) (nearest r) (dx_of (spot_at n)) (dy_of (spot_at n))) x y k p

bounds_same : (s r : Plane) (x y k : ℕ) → k < 9 → (n : ℕ) → partition_of (sub_bounds s r x y) k n ≡ scanned (bounds s r (partition_block x y k)) n
bounds_same s r x y k p n = partition_is (λ block. bounds s r block (dx_of (spot_at n)) (dy_of (spot_at n))) (sums_apart (at s) (nearest r) (dx_of (spot_at n)) (dy_of (spot_at n))) (bounds_add (at s) (nearest r) (dx_of (spot_at n)) (dy_of (spot_at n))) x y k p

-- no sub-macroblock costs less than its bound
pub sub_under : (s r : Plane) (x y n q : ℕ) → q < 4 → sub_bounds s r x y q n ≤ sub_costs s r x y q n
sub_under s r x y n zero p = bound_under (at s) (nearest r) (sub_macroblock x y 0) (dx_of (spot_at n)) (dy_of (spot_at n)) (inl refl) (inl refl)
sub_under s r x y n (suc zero) p = bound_under (at s) (nearest r) (sub_macroblock x y 1) (dx_of (spot_at n)) (dy_of (spot_at n)) (inl refl) (inl refl)
sub_under s r x y n (suc (suc zero)) p = bound_under (at s) (nearest r) (sub_macroblock x y 2) (dx_of (spot_at n)) (dy_of (spot_at n)) (inl refl) (inl refl)
sub_under s r x y n (suc (suc (suc zero))) p = bound_under (at s) (nearest r) (sub_macroblock x y 3) (dx_of (spot_at n)) (dy_of (spot_at n)) (inl refl) (inl refl)
sub_under s r x y n (suc (suc (suc (suc q)))) p = absurd (omega arith)

-- the window is searched: each partition has its best vector
pub nine_best : (s r : Plane) (x y range n : ℕ) (nine : Nine) → n ≡ window_size range → NineSearched (sub_costs s r x y) (sub_bounds s r x y) n nine
    → (k : ℕ) → k < 9 → IsWindowBest (costs s r (partition_block x y k)) range (dx_at nine k) (dy_at nine k) (sad_at nine k)
nine_best s r x y range n nine e h k p =
    let f : ℕ → ℕ = partition_of (sub_costs s r x y) k in
    let same : f ≡ scanned (costs s r (partition_block x y k)) = λ i m. costs_same s r x y k p m i in
    let w = h.each k p in
    let l = subst (λ (m : ℕ). IsFirstLeast f m w.place) e w.known.first_least in
    let o = w.known.is_cost in
    let b = window_best (costs s r (partition_block x y k)) range w.place (sad_at nine k)
    (subst (λ (g : ℕ → ℕ). IsFirstLeast g (window_size range) w.place) same l)
    (o ∙ costs_same s r x y k p w.place) in
    let c = w.across in
    let d = w.down in
    rw (c, d) b

-- .. and the count is that of all nine
pub nine_compared_is : (s r : Plane) (x y range n : ℕ) (nine : Nine) → n ≡ window_size range → NineSearched (sub_costs s r x y) (sub_bounds s r x y) n nine
    → nine.compared ≡ sum_by (λ block. compared_in (costs s r block) (bounds s r block) range) (partitions x y)
nine_compared_is s r x y range n nine e h =
    h.count
    ∙ ap (λ (m : ℕ). sum_below (λ k. compared_of (partition_of (sub_costs s r x y) k) (partition_of (sub_bounds s r x y) k) m) 9) e
    ∙ sum-same (λ k. compared_of (partition_of (sub_costs s r x y) k) (partition_of (sub_bounds s r x y) k) (window_size range)) (λ k. compared_in (costs s r (partition_block x y k)) (bounds s r (partition_block x y k)) range) 9
    (λ k p. (let c : partition_of (sub_costs s r x y) k ≡ scanned (costs s r (partition_block x y k)) = λ i m. costs_same s r x y k p m i in
    let d : partition_of (sub_bounds s r x y) k ≡ scanned (bounds s r (partition_block x y k)) = λ i m. bounds_same s r x y k p m i in
    (λ i. compared_of (c i) (d i) (window_size range))))
    ∙ sums_of_nine (λ block. compared_in (costs s r block) (bounds s r block) range) x y

-- how many places the largest window has
pub few_places : (range : ℕ) → range ≤ 32 → window_size range ≤ 4225
few_places range p =
    let a : 2 * range + 1 ≤ 65 = omega arith in
    let b : (2 * range + 1) * (2 * range + 1) ≤ 65 * 65 = mul-le-mul a a in
    b
