-- Held references that stand in order.
use Rattle.std.specs.Prelude.{ℕ, ◌<◌, ◌≤◌, List, [], ◌∷◌}
use Rattle.std.specs.List.{AllByRecursion}
use Rattle.spec_lists.specs.References.{Reference}

-- each at least as far as those before it
abbrev pub Rising : (Reference → ℕ) → List Reference → Type 0
Rising far [] = Unit {0}
Rising far (r ∷ rs) = AllByRecursion (λ q. far r ≤ far q) rs × Rising far rs

-- each below all before it
abbrev pub Falling : (Reference → ℕ) → List Reference → Type 0
Falling f [] = Unit {0}
Falling f (r ∷ rs) = AllByRecursion (λ q. f q < f r) rs × Falling f rs
