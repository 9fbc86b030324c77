-- Bounds on the entries of tables.
use Rattle.std.proofs.Common.{ℕ, zero, suc, ◌≤◌, List, [], ◌∷◌, get_or, Bool, true, ◌&&◌, leb, T, leb→le, arith}
use lib.Ieee.Fits.{and_l, and_r}
use Rattle.enc_tables.specs.declared.transform.TheConstants.{CHROMA_QP}

abbrev pub all_at_most : ℕ → List ℕ → Bool
all_at_most b [] = true
all_at_most b (x ∷ xs) = leb x b && all_at_most b xs

entry_at_most : (b : ℕ) (xs : List ℕ) → T (all_at_most b xs) → (i : ℕ) → get_or xs i 0 ≤ b
entry_at_most b [] h i = omega arith
entry_at_most b (x ∷ xs) h zero = leb→le x b (and_l (leb x b) (all_at_most b xs) h)
entry_at_most b (x ∷ xs) h (suc i) = entry_at_most b xs (and_r (leb x b) (all_at_most b xs) h) i

pub chroma_qp_bound : (qp : ℕ) → get_or CHROMA_QP qp 0 ≤ 51
chroma_qp_bound qp = entry_at_most 51 CHROMA_QP tt qp
