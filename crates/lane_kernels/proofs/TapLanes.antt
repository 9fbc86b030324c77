-- The filter taps by lanes of 16 bits.
use Rattle.std.proofs.Common.{◌≡◌, ℕ, ◌+◌, ◌-◌, ◌*◌, ◌%◌, ◌^◌, ◌<◌, ◌≤◌, List, map, length, get_or, take, drop, replicate, refl, sym, ap, ◌∙◌, arith, w8, w16, Fits, pos, to_z, ℤ, ◌-ℤ◌, zero-add, inl, inr}
use Rattle.std.proofs.lemmas.Bool.{cases_lt}
use Rattle.std.proofs.lemmas.Bool.Decides.{nat_tests}
use Rattle.std.proofs.lemmas.Int.{ints}
use Rattle.std.proofs.lemmas.Grind.{common_steps}
use Rattle.std.proofs.lemmas.List.{get_or-map, length-map, length-take-le}
use Rattle.std.proofs.lemmas.Simd.{get_or-zip2, length-zip2, get_or-replicate, get_or-put_chunk_at, get_or-put_chunk_above}
use lib.Lanes.{zip2, put_chunk}
use Rattle.spec_kernels.specs.Sums.{tap_of, TapsOf}

abbrev wsub : ℕ → ℕ → ℕ
wsub a b = (a + (2 ^ 16 - b)) % 2 ^ 16

abbrev wadd : ℕ → ℕ → ℕ
wadd a b = (a + b) % 2 ^ 16

abbrev wmul : ℕ → ℕ → ℕ
wmul a b = (a * b) % 2 ^ 16

-- sixteen lanes that hold f
record Holds (f : ℕ → ℕ) (xs : List ℕ) : Type 0 where
  lanes : length xs ≡ 16
  at : (i : ℕ) → i < 16 → get_or xs i 0 ≡ f i

both : (op : ℕ → ℕ → ℕ) (f g : ℕ → ℕ) (xs ys : List ℕ) → Holds f xs → Holds g ys → Holds (λ i. op (f i) (g i)) (zip2 op xs ys)
both op f g xs ys h k = record {
  lanes = length-zip2 op xs ys (h.lanes ∙ sym k.lanes) ∙ h.lanes;
  at = λ i p. (let a = h.at i p in let b = k.at i p in
      let hl = h.lanes in let kl = k.lanes in
      get_or-zip2 op xs ys i 0 0 0 (omega arith) (omega arith) ∙ (rw (a, b) refl));
}

splat : (a : ℕ) → Holds (λ i. a) (replicate 16 a)
splat a = record { lanes = refl; at = λ i p. get_or-replicate 16 i a 0 p }

place : (n p i : ℕ) (a : List ℕ) → i < n → p + n ≤ length a → get_or (take n (drop p a)) i 0 ≡ get_or a (p + i) 0
place n p i a q h = grind (arith, common_steps)

place_first : (n i : ℕ) (a : List ℕ) → i < n → n ≤ length a → get_or (take n a) i 0 ≡ get_or a i 0
place_first n i a q h = grind (arith, common_steps)

long : (n p : ℕ) (a : List ℕ) → p + n ≤ length a → length (take n (drop p a)) ≡ n
long n p a h = grind (arith, common_steps)

loaded : (p : ℕ) (a : List ℕ) → p + 16 ≤ length a → Holds (λ i. get_or a (p + i) 0) (map (λ (v : ℕ). v) (take 16 (drop p a)))
loaded p a h =
    let l = long 16 p a h in
    record {
      lanes = length-map (take 16 (drop p a)) (λ (v : ℕ). v) ∙ l;
      at = λ i q. get_or-map (λ (v : ℕ). v) (take 16 (drop p a)) i 0 0 (omega arith) ∙ place 16 p i a q h;
    }

loaded_first : (a : List ℕ) → 16 ≤ length a → Holds (λ i. get_or a i 0) (map (λ (v : ℕ). v) (take 16 a))
loaded_first a h =
    let l = length-take-le 16 a h in
    record {
      lanes = length-map (take 16 a) (λ (v : ℕ). v) ∙ l;
      at = λ i q. get_or-map (λ (v : ℕ). v) (take 16 a) i 0 0 (omega arith) ∙ place_first 16 i a q h;
    }

-- a difference of 16 bits
apart : (u d : ℕ) → u < 16384 → d < 16384 → to_z w16 (wsub u d) ≡ pos u -ℤ pos d
apart u d p q = elim (cases_lt u d) [
  | inl lt ↦ (let e : wsub u d ≡ 2 ^ 16 - (d - u) = omega arith in rw e (grind (arith, ints, nat_tests)))
  | inr ge ↦ (let e : wsub u d ≡ u - d = omega arith in rw e (omega (arith, ints)))
]

-- one lane
lane : (a b c d e f : ℕ) → a < 256 → b < 256 → c < 256 → d < 256 → e < 256 → f < 256
    → to_z w16 (wsub (wadd (wadd a f) (wmul 20 (wadd c d))) (wmul 5 (wadd b e))) ≡ tap_of a b c d e f
lane a b c d e f p q r s t u =
    let x : wadd a f ≡ a + f = omega arith in
    let y : wmul 20 (wadd c d) ≡ 20 * (c + d) = omega arith in
    let z : wmul 5 (wadd b e) ≡ 5 * (b + e) = omega arith in
    let w : wadd (a + f) (20 * (c + d)) ≡ a + 20 * (c + d) + f = omega arith in
    rw (x, y, z, w) (apart (a + 20 * (c + d) + f) (5 * (b + e)) (omega arith) (omega arith))

abbrev pub load : ℕ → List ℕ → List ℕ
load p a = map (λ (v : ℕ). v) (take 16 (drop p a))

abbrev pub tap_lanes : List ℕ → List ℕ
tap_lanes a =
    zip2 wsub (zip2 wadd (zip2 wadd (map (λ (v : ℕ). v) (take 16 a)) (load 5 a)) (zip2 wmul (replicate 16 20) (zip2 wadd (load 2 a) (load 3 a)))) (zip2 wmul (replicate 16 5) (zip2 wadd (load 1 a) (load 4 a)))

held : (a : List ℕ) → 21 ≤ length a
    → Holds (λ i. wsub (wadd (wadd (get_or a i 0) (get_or a (5 + i) 0)) (wmul 20 (wadd (get_or a (2 + i) 0) (get_or a (3 + i) 0)))) (wmul 5 (wadd (get_or a (1 + i) 0) (get_or a (4 + i) 0)))) (tap_lanes a)
held a h =
    let l0 = loaded_first a (omega arith) in
    let l1 = loaded 1 a (omega arith) in
    let l2 = loaded 2 a (omega arith) in
    let l3 = loaded 3 a (omega arith) in
    let l4 = loaded 4 a (omega arith) in
    let l5 = loaded 5 a (omega arith) in
    let s20 = splat 20 in
    let s5 = splat 5 in
    both wsub _ _ _ _ (both wadd _ _ _ _ (both wadd _ _ _ _ l0 l5) (both wmul _ _ _ _ s20 (both wadd _ _ _ _ l2 l3))) (both wmul _ _ _ _ s5 (both wadd _ _ _ _ l1 l4))

swapped : (a : List ℕ) (k i : ℕ) → get_or a (k + i) 0 ≡ get_or a (i + k) 0
swapped a k i = ap (λ (m : ℕ). get_or a m 0) (omega arith)

pub taps_put : (a : List ℕ) (out : List ℤ) → 21 ≤ length a → 16 ≤ length out → ((k : ℕ) → Fits w8 (get_or a k 0)) → TapsOf a (put_chunk 0 out (map (to_z w16) (tap_lanes a))) 16
taps_put a out h room f i p =
    let l = held a h in
    let len = length-map (tap_lanes a) (to_z w16) ∙ l.lanes in
    let len2 = l.lanes in
    ap (λ (m : ℕ). get_or (put_chunk 0 out (map (to_z w16) (tap_lanes a))) m (pos 0)) (sym (zero-add i))
    ∙ get_or-put_chunk_at 0 out (map (to_z w16) (tap_lanes a)) i (pos 0) (omega arith) (omega arith)
    ∙ get_or-map (to_z w16) (tap_lanes a) i 0 (pos 0) (omega arith)
    ∙ ap (to_z w16) (l.at i p)
    ∙ lane (get_or a i 0) (get_or a (1 + i) 0) (get_or a (2 + i) 0) (get_or a (3 + i) 0) (get_or a (4 + i) 0) (get_or a (5 + i) 0) (f i).fits (f (1 + i)).fits (f (2 + i)).fits (f (3 + i)).fits (f (4 + i)).fits (f (5 + i)).fits
    ∙ rw (swapped a 1 i, swapped a 2 i, swapped a 3 i, swapped a 4 i, swapped a 5 i) refl

pub others_kept : (a : List ℕ) (out : List ℤ) → 21 ≤ length a → (k : ℕ) → 16 ≤ k → get_or (put_chunk 0 out (map (to_z w16) (tap_lanes a))) k (pos 0) ≡ get_or out k (pos 0)
others_kept a out h k p =
    let l = held a h in
    let len = length-map (tap_lanes a) (to_z w16) ∙ l.lanes in
    get_or-put_chunk_above 0 out (map (to_z w16) (tap_lanes a)) k (pos 0) (omega arith)
