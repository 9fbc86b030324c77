use Rattle.std.proofs.Common.{◌≡◌, ℕ, ◌+◌, ◌-◌, ◌<◌, List, get_or, take, drop, arith}
use Rattle.std.proofs.lemmas.Grind.{common_steps}

pub window_at : (xs : List ℕ) (a b c n i : ℕ) → i < n → get_or (take (a + b + n - (a + b)) (drop (a + b) xs)) i 0 ≡ get_or xs (a + (b + i)) 0
window_at xs a b c n i p = grind (arith, common_steps)
