-- Rows that a gate let in, one after another, and slice after slice.
use Rattle.std.proofs.Common.{◌≡◌, ◌≤◌, ◌<◌, ◌+◌, ◌*◌, ◌/◌, ◌⊎◌, inl, inr, ℕ, Bool, IsTrue, subst, arith}
use Rattle.std.proofs.lemmas.Bool.{cases_lt}
use Rattle.std.proofs.lemmas.Nat.{le-div}

pub row_asked : (f : ℕ → Bool) (first row : ℕ) → ((r : ℕ) → first ≤ r → r < row → IsTrue (f r)) → IsTrue (f row) → (r : ℕ) → first ≤ r → r < row + 1 → IsTrue (f r)
row_asked f first row before now r from to = by (cases_lt r row)
  where
    by : (r < row) ⊎ (row ≤ r) → IsTrue (f r)
    by (inl l) = before r from l
    by (inr m) = let e : row ≡ r = omega arith in subst (λ (k : ℕ). IsTrue (f k)) e now

pub slice_asked : (f : ℕ → Bool) (first end from to : ℕ) → first ≡ from → end ≡ to → ((r : ℕ) → r < from → IsTrue (f r)) → ((r : ℕ) → first ≤ r → r < end → IsTrue (f r)) → (r : ℕ) → r < to → IsTrue (f r)
slice_asked f first end from to e g before now r inside = by (cases_lt r first)
  where
    by : (r < first) ⊎ (first ≤ r) → IsTrue (f r)
    by (inl l) = before r (omega (arith, e))
    by (inr m) = now r m (omega (arith, g))

-- the slices have all rows
pub all_asked : (f : ℕ → Bool) (slices down : ℕ) → 0 < slices → ((r : ℕ) → r < slices * down / slices → IsTrue (f r)) → (r : ℕ) → r < down → IsTrue (f r)
all_asked f slices down some before r inside =
    let most : down ≤ slices * down / slices = le-div down (slices * down) slices some (omega arith) in
    before r (omega arith)
