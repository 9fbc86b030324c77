-- One step after another.
use Rattle.std.specs.Prelude.{ℕ, zero, suc}

-- the steps 0 to n - 1, in this order
unfoldable pub steps : {A : Type 0} → (ℕ → A → A) → ℕ → A → A
steps f zero a = a
steps f (suc n) a = f n (steps f n a)
