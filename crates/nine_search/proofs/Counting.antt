-- Counts by lanes of 16 bits.
use Rattle.std.proofs.Common.{◌≡◌, ℕ, ◌+◌, ◌-◌, ◌%◌, ◌^◌, ◌<◌, ◌≤◌, min, false, cond, List, map, length, get_or, replicate, refl, sym, ap, ◌∙◌, arith, w16, ltb}
use Rattle.std.proofs.lemmas.Bool.Decides.{nat_tests}
use Rattle.std.proofs.lemmas.Bool.{cases_lt}
use Rattle.std.proofs.lemmas.Simd.{get_or-zip2, length-zip2, get_or-replicate, tops_compared, get_or-sel_l, length-sel_l}
use Rattle.std.proofs.Common.{inl, inr}
use Rattle.std.specs.Prelude.{slice_index}
use Rattle.std.specs.Int.{abs_diff}
use lib.Lanes.{zip2, sel_l, top}
use Rattle.spec_basics.specs.Sums.{sum_below}
use Rattle.nine_search.specs.Partitions.{of_partition, partition_of}
use Rattle.nine_search.specs.NineSearches.{wants}
use Rattle.nine_search.specs.Runs.{HoldsAt, is_below}

abbrev pub wrapped_sum : ℕ → ℕ → ℕ
wrapped_sum a b = (a + b) % 2 ^ 16

abbrev pub wrapped_rest : ℕ → ℕ → ℕ
wrapped_rest a b = (a + (2 ^ 16 - b)) % 2 ^ 16

rest_is : (own v : ℕ) → own < 65536 → v < 65536 → cond (ltb v own) (wrapped_rest own v) (wrapped_rest v own) ≡ abs_diff own v
rest_is own v p q = elim (cases_lt v own) [
  | inl lt ↦ (let e : wrapped_rest own v ≡ own - v = omega arith in let d : abs_diff own v ≡ own - v = omega arith in rw (e, d) (grind (arith, nat_tests)))
  | inr ge ↦ (let e : wrapped_rest v own ≡ v - own = omega arith in let d : abs_diff own v ≡ v - own = omega arith in rw (e, d) (grind (arith, nat_tests)))
]

pub added_at : (i u v : ℕ) (xs ys : List ℕ) → i < 16 → HoldsAt i u xs → HoldsAt i v ys → u + v < 65536 → HoldsAt i (u + v) (zip2 wrapped_sum xs ys)
added_at i u v xs ys p h k most =
    let a = h.value in
    let b = k.value in
    let hl = h.count in
    let kl = k.count in
    let z : wrapped_sum u v ≡ u + v = omega arith in
    let g = get_or-zip2 wrapped_sum xs ys i 0 0 0 (omega arith) (omega arith) in
    record { count = length-zip2 wrapped_sum xs ys (hl ∙ sym kl) ∙ hl; value = g ∙ (rw (a, b) refl) ∙ z }

pub splat_at : (i a : ℕ) → i < 16 → HoldsAt i a (replicate 16 a)
splat_at i a p = record { count = refl; value = get_or-replicate 16 i a 0 p }

abbrev pub mask : List ℕ → ℕ → List ℕ
mask xs limit = zip2 (λ a b. cond (ltb a b) (2 ^ 16 - 1) 0) xs (replicate 16 limit)

ones_at : (i v limit : ℕ) (xs : List ℕ) → i < 16 → HoldsAt i v xs → HoldsAt i (is_below v limit) (sel_l (map (top 15) (mask xs limit)) (replicate 16 1) (replicate 16 0))
ones_at i v limit xs p h =
    let hl = h.count in
    let a = h.value in
    let m = tops_compared w16 ltb xs (replicate 16 limit) in
    let l : length (zip2 ltb xs (replicate 16 limit)) ≡ 16 = length-zip2 ltb xs (replicate 16 limit) hl ∙ hl in
    rw m (record {
      count = length-sel_l (zip2 ltb xs (replicate 16 limit)) (replicate 16 1) (replicate 16 0) l l ∙ l;
      value =
          get_or-sel_l (zip2 ltb xs (replicate 16 limit)) (replicate 16 1) (replicate 16 0) i 0 (omega arith) p p
          ∙ rw (get_or-zip2 ltb xs (replicate 16 limit) i 0 0 false (omega arith) p, get_or-replicate 16 i limit 0 p, get_or-replicate {A = ℕ} 16 i 1 0 p, get_or-replicate {A = ℕ} 16 i 0 0 p, a) (grind (arith, nat_tests));
    })

-- how far a lane is from a sum: the smaller is taken from the greater
pub apart_at : (i own : ℕ) (xs : List ℕ) → i < 16 → length xs ≡ 16 → own < 65536 → get_or xs i 0 < 65536
    → HoldsAt i (abs_diff own (slice_index xs i)) (sel_l (map (top 15) (mask xs own)) (zip2 wrapped_rest (replicate 16 own) xs) (zip2 wrapped_rest xs (replicate 16 own)))
apart_at i own xs p hl small low =
    let m = tops_compared w16 ltb xs (replicate 16 own) in
    let r : length (replicate {A = ℕ} 16 own) ≡ 16 = refl in
    let l : length (zip2 ltb xs (replicate 16 own)) ≡ 16 = length-zip2 ltb xs (replicate 16 own) hl ∙ hl in
    let a : length (zip2 wrapped_rest (replicate 16 own) xs) ≡ 16 = length-zip2 wrapped_rest (replicate 16 own) xs (r ∙ sym hl) ∙ r in
    let b : length (zip2 wrapped_rest xs (replicate 16 own)) ≡ 16 = length-zip2 wrapped_rest xs (replicate 16 own) (hl ∙ sym r) ∙ hl in
    rw m (record {
      count = length-sel_l (zip2 ltb xs (replicate 16 own)) (zip2 wrapped_rest (replicate 16 own) xs) (zip2 wrapped_rest xs (replicate 16 own)) (l ∙ sym a) (l ∙ sym b) ∙ l;
      value =
          get_or-sel_l (zip2 ltb xs (replicate 16 own)) (zip2 wrapped_rest (replicate 16 own) xs) (zip2 wrapped_rest xs (replicate 16 own)) i 0 (omega arith) (omega arith) (omega arith)
          ∙ rw (get_or-zip2 ltb xs (replicate 16 own) i 0 0 false (omega arith) p, get_or-zip2 wrapped_rest (replicate 16 own) xs i 0 0 0 p (omega arith), get_or-zip2 wrapped_rest xs (replicate 16 own) i 0 0 0 (omega arith) p, get_or-replicate 16 i own 0 p) (rest_is own (get_or xs i 0) small low);
    })

pub below_most : (v limit : ℕ) → is_below v limit ≤ 1
below_most v limit = grind (arith, nat_tests)

pub counted_at : (i n v limit : ℕ) (counts xs : List ℕ) → i < 16 → HoldsAt i n counts → HoldsAt i v xs → n ≤ 9
    → HoldsAt i (n + is_below v limit) (zip2 wrapped_sum counts (sel_l (map (top 15) (mask xs limit)) (replicate 16 1) (replicate 16 0)))
counted_at i n v limit counts xs p h k most = let m = below_most v limit in added_at i n (is_below v limit) counts (sel_l (map (top 15) (mask xs limit)) (replicate 16 1) (replicate 16 0)) p h (ones_at i v limit xs p k) (omega arith)

-- a limit that is cut off tells the same of small sums
cut_same : (v limit : ℕ) → v < 65535 → is_below v (min limit 65535) ≡ is_below v limit
cut_same v limit p = elim (cases_lt v limit) [
  | inl lt ↦ (let m : v < min limit 65535 = omega arith in grind (arith, nat_tests))
  | inr ge ↦ (let m : min limit 65535 ≤ v = omega arith in grind (arith, nat_tests))
]

-- what one partition adds at a lane
pub one_wants : (l : ℕ → ℕ → ℕ) (limits : ℕ → ℕ) (k i v limit : ℕ) → v ≡ partition_of l k i → limit ≡ min (limits k) 65535 → v < 65535 → is_below v limit ≡ wants (partition_of l k) (limits k) i
one_wants l limits k i v limit e f p =
    ap (is_below v) f ∙ cut_same v (limits k) p ∙ ap (λ (t : ℕ). is_below t (limits k)) e

pub nine_add : (h : ℕ → ℕ) (a b c d e f g i j : ℕ) → a ≡ h 0 → b ≡ h 1 → c ≡ h 2 → d ≡ h 3 → e ≡ h 4 → f ≡ h 5 → g ≡ h 6 → i ≡ h 7 → j ≡ h 8
    → 0 + a + b + c + d + e + f + g + i + j ≡ sum_below h 9
unfolding sum_below
nine_add h a b c d e f g i j e0 e1 e2 e3 e4 e5 e6 e7 e8 = omega arith

pub part0 : (l : ℕ → ℕ → ℕ) (i : ℕ) → l 0 i + l 1 i + (l 2 i + l 3 i) ≡ partition_of l 0 i
unfolding of_partition
part0 l i = omega arith

pub part1 : (l : ℕ → ℕ → ℕ) (i : ℕ) → l 0 i + l 1 i ≡ partition_of l 1 i
unfolding of_partition
part1 l i = omega arith

pub part2 : (l : ℕ → ℕ → ℕ) (i : ℕ) → l 2 i + l 3 i ≡ partition_of l 2 i
unfolding of_partition
part2 l i = omega arith

pub part3 : (l : ℕ → ℕ → ℕ) (i : ℕ) → l 0 i + l 2 i ≡ partition_of l 3 i
unfolding of_partition
part3 l i = omega arith

pub part4 : (l : ℕ → ℕ → ℕ) (i : ℕ) → l 1 i + l 3 i ≡ partition_of l 4 i
unfolding of_partition
part4 l i = omega arith

pub part5 : (l : ℕ → ℕ → ℕ) (i : ℕ) → l 0 i ≡ partition_of l 5 i
unfolding of_partition
part5 l i = omega arith

pub part6 : (l : ℕ → ℕ → ℕ) (i : ℕ) → l 1 i ≡ partition_of l 6 i
unfolding of_partition
part6 l i = omega arith

pub part7 : (l : ℕ → ℕ → ℕ) (i : ℕ) → l 2 i ≡ partition_of l 7 i
unfolding of_partition
part7 l i = omega arith

pub part8 : (l : ℕ → ℕ → ℕ) (i : ℕ) → l 3 i ≡ partition_of l 8 i
unfolding of_partition
part8 l i = omega arith
