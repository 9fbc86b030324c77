-- Two passes of the Hadamard transforms.
use Rattle.std.proofs.Common.{◌≡◌, ℕ, zero, suc, ℤ, ◌*◌, ◌/◌, ◌%◌, ◌<◌, List, arith, subst, lit<}
use Rattle.std.proofs.lemmas.Int.{ints}
use Rattle.enc_tables.specs.declared.transform.TheConstants.{HADAMARD4, HADAMARD2}
use Rattle.spec_basics.specs.Bounds.{Within}
use Rattle.spec_residual.specs.Blocks.{AllWithin, item, block, transformed, rows_of}
use Rattle.transform_quant.specs.Lines.{row4_by, Turned4, hadamard4_line, hadamard2_sums}
use Rattle.transform_quant.proofs.Sizes.{pass4_within, hadamard4_grows}
use Rattle.transform_quant.proofs.Two.{two_passes4, hadamard4_left, hadamard4_right}

pub hadamard4_is : (x t out : List ℤ) → Turned4 (row4_by hadamard4_line x) t → Turned4 (row4_by hadamard4_line t) out → (p : ℕ) → p < 16 → item out p ≡ transformed 4 (rows_of HADAMARD4) (block 4 x) (p / 4) (p % 4)
hadamard4_is x t out first second = two_passes4 (rows_of HADAMARD4) hadamard4_line hadamard4_left hadamard4_right x t out first second

pub hadamard4_small : (x t out : List ℤ) (m : ℕ) → AllWithin 16 m x → Turned4 (row4_by hadamard4_line x) t → Turned4 (row4_by hadamard4_line t) out → AllWithin 16 (16 * m) out
hadamard4_small x t out m small first second =
    let e : 4 * (4 * m) ≡ 16 * m = omega arith in
    subst (λ (n : ℕ). AllWithin 16 n out) e (pass4_within hadamard4_line (4 * m) (4 * (4 * m)) (hadamard4_grows (4 * m)) t out (pass4_within hadamard4_line m (4 * m) (hadamard4_grows m) x t small first) second)

-- the four sums of a 2x2 block
pub sums_are : (x : List ℤ) (p : ℕ) → p < 4 → item (hadamard2_sums (item x 0) (item x 1) (item x 2) (item x 3)) p ≡ transformed 2 (rows_of HADAMARD2) (block 2 x) (p / 2) (p % 2)
sums_are x zero h = omega (arith, ints)
sums_are x (suc zero) h = omega (arith, ints)
sums_are x (suc (suc zero)) h = omega (arith, ints)
sums_are x (suc (suc (suc zero))) h = omega (arith, ints)
sums_are x (suc (suc (suc (suc p)))) h = absurd (omega arith)

sums_grow : (m : ℕ) (x0 x1 x2 x3 : ℤ) → Within m x0 → Within m x1 → Within m x2 → Within m x3 → (b : ℕ) → b < 4 → Within (4 * m) (item (hadamard2_sums x0 x1 x2 x3) b)
sums_grow m x0 x1 x2 x3 h0 h1 h2 h3 zero h = record { low = omega (arith, ints); high = omega (arith, ints) }
sums_grow m x0 x1 x2 x3 h0 h1 h2 h3 (suc zero) h = record { low = omega (arith, ints); high = omega (arith, ints) }
sums_grow m x0 x1 x2 x3 h0 h1 h2 h3 (suc (suc zero)) h = record { low = omega (arith, ints); high = omega (arith, ints) }
sums_grow m x0 x1 x2 x3 h0 h1 h2 h3 (suc (suc (suc zero))) h = record { low = omega (arith, ints); high = omega (arith, ints) }
sums_grow m x0 x1 x2 x3 h0 h1 h2 h3 (suc (suc (suc (suc b)))) h = absurd (omega arith)

pub sums_small : (x : List ℤ) (m : ℕ) → AllWithin 4 m x → AllWithin 4 (4 * m) (hadamard2_sums (item x 0) (item x 1) (item x 2) (item x 3))
sums_small x m small p h = sums_grow m _ _ _ _ (small 0 (lit< tt)) (small 1 (lit< tt)) (small 2 (lit< tt)) (small 3 (lit< tt)) p h
