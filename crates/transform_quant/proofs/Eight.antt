-- One line more of a block of eight columns is written as a column.
use Rattle.std.proofs.Common.{◌≡◌, ◌≢◌, ℕ, ℤ, pos, ◌+◌, ◌*◌, ◌<◌, List, length, get_or, ap, ◌∙◌, arith, inl, inr, subst}
use Rattle.std.proofs.lemmas.Bool.{cases_lt}
use Rattle.std.proofs.lemmas.List.{get_or_default}
use Rattle.spec_residual.specs.Blocks.{item}

pub columns8_next : (f : ℕ → ℕ → ℤ) (before after line : List ℤ) (i : ℕ) → i < 8 → ((b : ℕ) → b < 8 → item after (8 * b + i) ≡ item line b) → ((a b : ℕ) → a < 8 → b < 8 → a ≢ i → item after (8 * b + a) ≡ item before (8 * b + a)) → ((b : ℕ) → b < 8 → item line b ≡ f i b) → ((a b : ℕ) → a < i → b < 8 → item before (8 * b + a) ≡ f a b) → (a b : ℕ) → a < i + 1 → b < 8 → item after (8 * b + a) ≡ f a b
columns8_next f before after line i inside column others is done a b p q =
    elim (cases_lt a i) [
      | inl l ↦ others a b (omega arith) q (λ e. absurd (omega arith)) ∙ done a b l q
      | inr g ↦
          (let e : i ≡ a = omega arith in
          let P : ℕ → Type 0 = λ n. item after (8 * b + n) ≡ f n b in
          subst P e (column b q ∙ is b q))
    ]

pub same8 : (g : ℤ → ℤ → ℤ → ℤ → ℤ → ℤ → ℤ → ℤ → List ℤ) (r0 r1 r2 r3 r4 r5 r6 r7 s0 s1 s2 s3 s4 s5 s6 s7 : ℤ) → r0 ≡ s0 → r1 ≡ s1 → r2 ≡ s2 → r3 ≡ s3 → r4 ≡ s4 → r5 ≡ s5 → r6 ≡ s6 → r7 ≡ s7 → g r0 r1 r2 r3 r4 r5 r6 r7 ≡ g s0 s1 s2 s3 s4 s5 s6 s7
same8 g r0 r1 r2 r3 r4 r5 r6 r7 s0 s1 s2 s3 s4 s5 s6 s7 e0 e1 e2 e3 e4 e5 e6 e7 = cc

-- the line of what was read at eight places, each with a default of its own, is that of the items there
pub line8_read : (g : ℤ → ℤ → ℤ → ℤ → ℤ → ℤ → ℤ → ℤ → List ℤ) (x line : List ℤ) (i : ℕ) (d0 d1 d2 d3 d4 d5 d6 d7 : ℤ) → length x ≡ 64 → i < 8 → line ≡ g (get_or x (8 * i) d0) (get_or x (8 * i + 1) d1) (get_or x (8 * i + 2) d2) (get_or x (8 * i + 3) d3) (get_or x (8 * i + 4) d4) (get_or x (8 * i + 5) d5) (get_or x (8 * i + 6) d6) (get_or x (8 * i + 7) d7) → (b : ℕ) → b < 8 → item line b ≡ item (g (item x (8 * i)) (item x (8 * i + 1)) (item x (8 * i + 2)) (item x (8 * i + 3)) (item x (8 * i + 4)) (item x (8 * i + 5)) (item x (8 * i + 6)) (item x (8 * i + 7))) b
line8_read g x line i d0 d1 d2 d3 d4 d5 d6 d7 long inside e b q =
    let h0 = get_or_default x (8 * i) d0 (pos 0) (omega arith) in
    let h1 = get_or_default x (8 * i + 1) d1 (pos 0) (omega arith) in
    let h2 = get_or_default x (8 * i + 2) d2 (pos 0) (omega arith) in
    let h3 = get_or_default x (8 * i + 3) d3 (pos 0) (omega arith) in
    let h4 = get_or_default x (8 * i + 4) d4 (pos 0) (omega arith) in
    let h5 = get_or_default x (8 * i + 5) d5 (pos 0) (omega arith) in
    let h6 = get_or_default x (8 * i + 6) d6 (pos 0) (omega arith) in
    let h7 = get_or_default x (8 * i + 7) d7 (pos 0) (omega arith) in
    ap (λ (l : List ℤ). item l b) (e ∙ same8 g _ _ _ _ _ _ _ _ _ _ _ _ _ _ _ _ h0 h1 h2 h3 h4 h5 h6 h7)
