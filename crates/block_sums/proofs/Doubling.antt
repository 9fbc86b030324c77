-- Sums of more and more items, by passes that double their number.
use Rattle.std.proofs.Common.{◌≡◌, ℕ, zero, suc, ◌+◌, ◌-◌, ◌*◌, ◌<◌, ◌≤◌, List, length, get_or, refl, sym, ap, ◌∙◌, arith, w8, Fits}
use Rattle.spec_basics.specs.Sums.{sum_below}
use Rattle.spec_kernels.specs.Sums.{block_sum}
use Rattle.spec_kernels.proofs.SumLaws.{sum-zero, sum-more, sum-same, sum-add}
use Rattle.block_sums.specs.Passes.{AddedAhead, EightAhead, SquareAhead, AtMost}

pub moved : (xs : List ℕ) (i j : ℕ) → i ≡ j → get_or xs i 0 ≡ get_or xs j 0
moved xs i j e = ap (λ (m : ℕ). get_or xs m 0) e

-- each item is the sum of m old ones, d places apart
record Spans (d m : ℕ) (old xs : List ℕ) : Type 0 where
  item : (n : ℕ) → n + d * (m - 1) < length old → get_or xs n 0 ≡ sum_below (λ i. get_or old (n + d * i) 0) m
  long : length xs ≡ length old

one : (d : ℕ) (xs : List ℕ) → Spans d 1 xs xs
one d xs = record {
  item = λ n p. sym (single d xs n);
  long = refl;
}
  where
    single : (d : ℕ) (xs : List ℕ) (n : ℕ) → sum_below (λ i. get_or xs (n + d * i) 0) 1 ≡ get_or xs n 0
    single d xs n =
        let a = sum-more (λ i. get_or xs (n + d * i) 0) 0 in
        let b = sum-zero (λ i. get_or xs (n + d * i) 0) in
        let c = moved xs (n + d * 0) n (omega arith) in
        omega arith

twice : (d m : ℕ) (old xs ys : List ℕ) → 0 < m → Spans d m old xs → AddedAhead (m * d) xs ys → Spans d (m + m) old ys
twice d m old xs ys some h k = record {
  item = λ n p. (
      let long = h.long in
      let q : n + m * d < length xs = inside n m d (length old) (length xs) some p long in
      let a = k.item n q in
      let b = h.item n (first n m d (length old) some p) in
      let c = h.item (n + m * d) (second n m d (length old) some p) in
      let e = sum-add (λ i. get_or old (n + d * i) 0) m m in
      let f = sum-same (λ i. get_or old (n + m * d + d * i) 0) (λ i. get_or old (n + d * (m + i)) 0) m (λ i r. moved old (n + m * d + d * i) (n + d * (m + i)) (omega arith)) in
      omega arith);
  long = k.long ∙ h.long;
}
  where
    first : (n m d l : ℕ) → 0 < m → n + d * (m + m - 1) < l → n + d * (m - 1) < l
    first n zero d l p q = absurd (omega arith)
    first n (suc m) d l p q = let e : suc m + suc m - 1 ≡ m + 1 + m = omega arith in let f : suc m - 1 ≡ m = omega arith in let g : n + d * (m + 1 + m) < l = rw e at q in rw f (omega arith)

    second : (n m d l : ℕ) → 0 < m → n + d * (m + m - 1) < l → n + m * d + d * (m - 1) < l
    second n zero d l p q = absurd (omega arith)
    second n (suc m) d l p q = let e : suc m + suc m - 1 ≡ m + 1 + m = omega arith in let f : suc m - 1 ≡ m = omega arith in let g : n + d * (m + 1 + m) < l = rw e at q in rw f (omega arith)

    inside : (n m d l k : ℕ) → 0 < m → n + d * (m + m - 1) < l → k ≡ l → n + m * d < k
    inside n m d l k p q r = let s = second n m d l p q in omega arith

pub eight_ahead : (d : ℕ) (x0 x1 x2 x3 : List ℕ) → AddedAhead d x0 x1 → AddedAhead (2 * d) x1 x2 → AddedAhead (4 * d) x2 x3 → EightAhead d x0 x3
eight_ahead d x0 x1 x2 x3 a b c =
    let e : 1 * d ≡ d = omega arith in
    let p = twice d 1 x0 x0 x1 (omega arith) (one d x0) (rw e a) in
    let q = twice d 2 x0 x1 x2 (omega arith) p b in
    let r = twice d 4 x0 x2 x3 (omega arith) q c in
    record { item = r.item; long = r.long }

pub most_of : (b c : ℕ) (xs : List ℕ) → b ≤ c → AtMost b xs → AtMost c xs
most_of b c xs p h = record { item = λ n. (let q = h.item n in omega arith) }

pub square_ahead : (width : ℕ) (samples across sums : List ℕ) → EightAhead 1 samples across → EightAhead width across sums → SquareAhead width samples sums
unfolding block_sum
square_ahead width samples across sums h v = record {
  item = λ n p. (
      let l = h.long in
      let a = v.item n (omega arith) in
      a ∙ sum-same (λ j. get_or across (n + width * j) 0) (λ j. sum_below (λ i. get_or samples (n + width * j + i) 0) 8) 8 (λ j q. (
      let m = mul_le width j q in
      h.item (n + width * j) (omega arith) ∙ sum-same (λ i. get_or samples (n + width * j + 1 * i) 0) (λ i. get_or samples (n + width * j + i) 0) 8 (λ i r. moved samples (n + width * j + 1 * i) (n + width * j + i) (omega arith)))));
  long = v.long ∙ h.long;
}
  where
    mul_le : (w j : ℕ) → j < 8 → w * j ≤ w * 7
    mul_le w j p = grind arith

pub bytes_low : (xs ys : List ℕ) → xs ≡ ys → ((n : ℕ) → Fits w8 (get_or ys n 0)) → AtMost 255 xs
bytes_low xs ys e f = record { item = λ n. (let q : get_or ys n 0 < 256 = (f n).fits in let r = ap (λ l. get_or l n 0) e in omega arith) }
