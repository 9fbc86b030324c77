-- One line more of a block is written as a column.
use Rattle.std.proofs.Common.{◌≡◌, ◌≢◌, ℕ, ℤ, pos, ◌+◌, ◌*◌, ◌<◌, List, length, get_or, sym, ap, ◌∙◌, arith, inl, inr, subst}
use Rattle.std.proofs.lemmas.Bool.{cases_lt}
use Rattle.std.proofs.lemmas.List.{get_or_default, ext_get_or}
use Rattle.spec_residual.specs.Blocks.{item}

pub columns4_next : (f : ℕ → ℕ → ℤ) (before after line : List ℤ) (i : ℕ) → i < 4 → ((b : ℕ) → b < 4 → item after (4 * b + i) ≡ item line b) → ((a b : ℕ) → a < 4 → b < 4 → a ≢ i → item after (4 * b + a) ≡ item before (4 * b + a)) → ((b : ℕ) → b < 4 → item line b ≡ f i b) → ((a b : ℕ) → a < i → b < 4 → item before (4 * b + a) ≡ f a b) → (a b : ℕ) → a < i + 1 → b < 4 → item after (4 * b + a) ≡ f a b
columns4_next f before after line i inside column others is done a b p q =
    elim (cases_lt a i) [
      | inl l ↦ others a b (omega arith) q (λ e. absurd (omega arith)) ∙ done a b l q
      | inr g ↦
          (let e : i ≡ a = omega arith in
          let P : ℕ → Type 0 = λ n. item after (4 * b + n) ≡ f n b in
          subst P e (column b q ∙ is b q))
    ]

pub same4 : (g : ℤ → ℤ → ℤ → ℤ → List ℤ) (r0 r1 r2 r3 s0 s1 s2 s3 : ℤ) → r0 ≡ s0 → r1 ≡ s1 → r2 ≡ s2 → r3 ≡ s3 → g r0 r1 r2 r3 ≡ g s0 s1 s2 s3
same4 g r0 r1 r2 r3 s0 s1 s2 s3 e0 e1 e2 e3 = cc

-- the line of what was read at four places, each with a default of its own, is that of the items there
pub line4_read : (g : ℤ → ℤ → ℤ → ℤ → List ℤ) (x line : List ℤ) (i : ℕ) (d0 d1 d2 d3 : ℤ) → length x ≡ 16 → i < 4 → line ≡ g (get_or x (4 * i) d0) (get_or x (4 * i + 1) d1) (get_or x (4 * i + 2) d2) (get_or x (4 * i + 3) d3) → (b : ℕ) → b < 4 → item line b ≡ item (g (item x (4 * i)) (item x (4 * i + 1)) (item x (4 * i + 2)) (item x (4 * i + 3))) b
line4_read g x line i d0 d1 d2 d3 long inside e b q =
    let h0 = get_or_default x (4 * i) d0 (pos 0) (omega arith) in
    let h1 = get_or_default x (4 * i + 1) d1 (pos 0) (omega arith) in
    let h2 = get_or_default x (4 * i + 2) d2 (pos 0) (omega arith) in
    let h3 = get_or_default x (4 * i + 3) d3 (pos 0) (omega arith) in
    ap (λ (l : List ℤ). item l b) (e ∙ same4 g _ _ _ _ _ _ _ _ h0 h1 h2 h3)

pub same_items : (n : ℕ) (xs ys : List ℤ) → length xs ≡ n → length ys ≡ n → ((k : ℕ) → k < n → item xs k ≡ item ys k) → xs ≡ ys
same_items n xs ys e f h = ext_get_or (pos 0) xs ys (e ∙ sym f) (λ k q. h k (omega arith))
