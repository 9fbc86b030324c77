-- Differences of rows, a part at a time.
use Rattle.std.proofs.Common.{◌≡◌, ℕ, zero, suc, ◌+◌, ◌*◌, ◌<◌, ◌≤◌, List, [], ◌∷◌, length, get_or, take, drop, ap, ◌∙◌, arith, w8, Fits}
use Rattle.std.proofs.lemmas.List.{length-take-le, take_more, drop-drop}
use Rattle.std.proofs.Math.Seq.{take-add}
use Rattle.std.proofs.lemmas.List.Sums.{sum_by-cons}
use Rattle.std.proofs.lemmas.Simd.{Each1-from_get_or}
use Rattle.std.specs.Prelude.{sum}
use Rattle.std.specs.Simd.{first_chunks}
use lib.Lanes.{zip2, Each1}
use Rattle.spec_basics.specs.Sums.{sad}
use Rattle.std.proofs.lemmas.List.Sums.{sum_by-append}
use Rattle.spec_basics.proofs.SadLaws.{sad_more}
use Rattle.lane_kernels.proofs.Apart.{diff_small}

pub chunk_at : {X : Type 0} (n k c : ℕ) (xs : List X) (d : List X) → k < c → get_or (first_chunks n c xs) k d ≡ take n (drop (n * k) xs)
chunk_at n k zero xs d p = absurd (omega arith)
chunk_at n zero (suc c) xs d p = let e : 0 ≡ n * 0 = omega arith in ap (λ (m : ℕ). take n (drop m xs)) e
chunk_at n (suc k) (suc c) xs d p =
    let e : n + n * k ≡ n * suc k = omega arith in
    chunk_at n k c (drop n xs) d (omega arith) ∙ ap (take n) (drop-drop (n * k) n xs) ∙ ap (λ (m : ℕ). take n (drop m xs)) e

pub take_fits : (i : ℕ) (xs : List ℕ) → Each1 (Fits w8) xs → Each1 (Fits w8) (take i xs)
take_fits zero xs h = tt
take_fits (suc i) [] h = tt
take_fits (suc i) (x ∷ xs) h = (h.0, take_fits i xs h.1)

pub all_fit : (xs : List ℕ) → ((i : ℕ) → Fits w8 (get_or xs i 0)) → Each1 (Fits w8) xs
all_fit xs h = Each1-from_get_or (Fits w8) xs 0 (λ i _. h i)

pub sad_so_far : (i : ℕ) (xs ys : List ℕ) → i ≤ length xs → ((k : ℕ) → Fits w8 (get_or xs k 0)) → ((k : ℕ) → Fits w8 (get_or ys k 0)) → sad (take i xs) (take i ys) ≤ 255 * i
sad_so_far i xs ys p f g =
    let h = diff_small (take i xs) (take i ys) (take_fits i xs (all_fit xs f)) (take_fits i ys (all_fit ys g)) in
    omega (arith, length-take-le i xs p)

-- one chunk more
pub sad_chunk : (k c : ℕ) (xs ys : List ℕ) (us vs : List (List ℕ)) → length xs ≡ length ys → us ≡ first_chunks 16 c xs → vs ≡ first_chunks 16 c ys → k < c
    → sad (take (16 * (k + 1)) xs) (take (16 * (k + 1)) ys) ≡ sad (take (16 * k) xs) (take (16 * k) ys) + sad (get_or us k []) (get_or vs k [])
sad_chunk k c xs ys us vs p q r s =
    let e : 16 * (k + 1) ≡ 16 * k + 16 = omega arith in
    let a = ap (λ l. get_or l k []) q ∙ chunk_at 16 k c xs [] s in
    let b = ap (λ l. get_or l k []) r ∙ chunk_at 16 k c ys [] s in
    rw (e, a, b) (sad_more (16 * k) 16 xs ys p)

-- SUMS

pub sum_more : (i n : ℕ) (xs : List ℕ) → sum (take (i + n) xs) ≡ sum (take i xs) + sum (take n (drop i xs))
sum_more i n xs = rw (take-add i n xs) (sum_by-append (λ (v : ℕ). v) (take i xs) (take n (drop i xs)))

pub sum_chunk : (k c : ℕ) (xs : List ℕ) (us : List (List ℕ)) → us ≡ first_chunks 16 c xs → k < c
    → sum (take (16 * (k + 1)) xs) ≡ sum (take (16 * k) xs) + sum (get_or us k [])
sum_chunk k c xs us q s =
    let e : 16 * (k + 1) ≡ 16 * k + 16 = omega arith in
    let a = ap (λ l. get_or l k []) q ∙ chunk_at 16 k c xs [] s in
    rw (e, a) (sum_more (16 * k) 16 xs)

pub sum_small : (xs : List ℕ) → Each1 (Fits w8) xs → sum xs ≤ 255 * length xs
sum_small [] f = omega arith
sum_small (x ∷ xs) f =
    let s = sum_by-cons (λ (v : ℕ). v) x xs in
    let h = sum_small xs f.1 in
    let p : x < 256 = f.0.fits in
    omega arith

pub sum_so_far : (i : ℕ) (xs : List ℕ) → i ≤ length xs → ((k : ℕ) → Fits w8 (get_or xs k 0)) → sum (take i xs) ≤ 255 * i
sum_so_far i xs p f = let h = sum_small (take i xs) (take_fits i xs (all_fit xs f)) in omega (arith, length-take-le i xs p)

pub sum_one : (i : ℕ) (xs : List ℕ) → i < length xs → sum (take (i + 1) xs) ≡ sum (take i xs) + get_or xs i 0
sum_one i xs q =
    let t = sum_by-append (λ (v : ℕ). v) (take i xs) (get_or xs i 0 ∷ []) in
    let s = sum_by-cons (λ (v : ℕ). v) (get_or xs i 0) [] in
    rw (take_more xs i 0 q) (omega arith)
