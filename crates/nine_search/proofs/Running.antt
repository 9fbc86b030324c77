-- A search of nine partitions that goes on over a run.
use Rattle.std.proofs.Common.{◌≡◌, ◌≢◌, ℕ, ◌+◌, ◌<◌, ◌≤◌, List, get_or, set, length, refl, subst, ap, ◌∙◌, arith, inl, inr}
use Rattle.std.specs.Prelude.{slice_index, nat_lt, if◌then◌else◌}
use Rattle.std.proofs.lemmas.Bool.{cases_lt}
use Rattle.std.proofs.lemmas.Bool.Decides.{nat_tests}
use Rattle.std.proofs.lemmas.List.{get_or-set_same, get_or-set_other}
use Rattle.spec_kernels.proofs.SumLaws.{sum-same, sum-most}
use Rattle.spec_search.specs.Scan.{dx_of, dy_of, spot_at}
use Rattle.nine_search.specs.declared.partitions.Nine.{Nine}
use Rattle.nine_search.specs.declared.runs.Run.{Run}
use Rattle.nine_search.specs.Runs.{apart_of, IsRun, is_below}
use Rattle.nine_search.specs.Partitions.{partition_of}
use Rattle.nine_search.specs.NineSearches.{sad_at, wants, nine_want, below_count, NineSearched}
use Rattle.nine_search.proofs.Summing.{partition_same}
use Rattle.nine_search.proofs.Stepping.{nine_step, sum_of_none}

-- an item more is set
pub placed : {A : Type 0} (d : A) (P : ℕ → A → Type 0) (xs : List A) (n : ℕ) (v : A) → n < length xs → ((i : ℕ) → i < n → P i (get_or xs i d)) → P n v → (i : ℕ) → i < n + 1 → P i (get_or (set xs n v) i d)
placed {A} d P xs n v l h now i p = elim (cases_lt i n) [
  | inl lt ↦ (let e : i ≢ n = λ e. omega arith in rw (get_or-set_other xs n i v d e) (h i lt))
  | inr ge ↦ (let e : n ≡ i = omega arith in subst (λ (t : ℕ). P t (get_or (set xs n v) t d)) e (rw (get_or-set_same xs n v d l) now))
]

-- the same bounds, the same who want a place
pub want_same : (f g : ℕ → ℕ → ℕ) (limits : ℕ → ℕ) (m n : ℕ) → ((q : ℕ) → q < 4 → f q m ≡ g q n) → nine_want f limits m ≡ nine_want g limits n
want_same f g limits m n h = sum-same (λ k. wants (partition_of f k) (limits k) m) (λ k. wants (partition_of g k) (limits k) n) 9
    (λ k q. ap (λ (t : ℕ). if nat_lt t (limits k) then 1 else 0) (partition_same (λ r. f r m) (λ r. g r n) h k))

below_none : (sum limit : ℕ) → is_below sum limit ≡ 0 → limit ≤ sum
below_none sum limit e = elim (cases_lt sum limit) [
  | inl lt ↦ absurd (let one : is_below sum limit ≡ 1 = grind (arith, nat_tests) in omega arith)
  | inr ge ↦ ge
]

-- a place whose costs are below nobody's least so far is counted alone
pub nine_kept : (f g : ℕ → ℕ → ℕ) (n count : ℕ) (sums : List ℕ) (nine : Nine) → 0 < n → NineSearched f g n nine
    → ((q : ℕ) → q < 4 → g q n ≤ f q n)
    → ((k : ℕ) → k < 9 → slice_index sums k ≡ partition_of f k n) → below_count sums nine.sads 9 ≡ 0
    → count ≡ nine_want g (sad_at nine) n
    → NineSearched f g (n + 1) (record nine { compared = nine.compared + count })
nine_kept f g n count sums nine p h le e none ce = nine_step f g n count (dx_of (spot_at n)) (dy_of (spot_at n)) nine (record nine { compared = nine.compared + count }) p refl refl h le
    (λ k q. (let b = below_none (slice_index sums k) (slice_index nine.sads k) (sum_of_none (λ k. if nat_lt (slice_index sums k) (slice_index nine.sads k) then 1 else 0) 9 none k q) in
    let s = e k q in
    record { cheaper = λ lt. absurd (omega arith); other = λ ge. (refl, refl, refl) }))
    ce refl

-- the counts by lanes are those of the places
pub lane_wanted : (own : List ℕ) (g : ℕ → ℕ → ℕ) (place : ℕ) (run : Run) (limits counts : List ℕ) → IsRun own g place run → ((q n : ℕ) → q < 4 → g q n ≤ 16383) → run.count ≤ 16
    → ((i : ℕ) → i < 16 → ((q : ℕ) → q < 4 → apart_of own run q i ≤ 16383) → slice_index counts i ≡ nine_want (apart_of own run) (slice_index limits) i)
    → (i : ℕ) → i < run.count → slice_index counts i ≡ nine_want g (slice_index limits) (place + i)
lane_wanted own g place run limits counts h low le e i p =
    e i (omega arith) (λ q s. under (apart_of own run q i) (g q (place + i)) (h.bound q i s p) (low q (place + i) s))
    ∙ want_same (apart_of own run) g (slice_index limits) i (place + i) (λ q s. h.bound q i s p)
  where
    under : (m n : ℕ) → m ≡ n → n ≤ 16383 → m ≤ 16383
    under m n e l = omega arith

wants_most : (f : ℕ → ℕ) (limit i : ℕ) → wants f limit i ≤ 1
wants_most f limit i = grind (arith, nat_tests)

pub want_most : (g : ℕ → ℕ → ℕ) (limits : ℕ → ℕ) (n : ℕ) → nine_want g limits n ≤ 9
want_most g limits n = let m = sum-most (λ k. wants (partition_of g k) (limits k) n) 1 9 (λ k q. wants_most (partition_of g k) (limits k) n) in omega arith
