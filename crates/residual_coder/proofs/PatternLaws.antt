-- Two halves of a list, written one after the other.
use Rattle.std.proofs.Common.{◌≡◌, ◌++◌, ℕ, ℤ, List, [], length, take, drop, ap, ap₂, ◌∙◌, arith, append-nil}
use Rattle.std.proofs.lemmas.Grind.{common_steps}

-- a second half written over zeros
pub levels_beside : (n : ℕ) (u v zeros first second : List ℤ) → u ≡ first → v ≡ second → length first ≡ n → length zeros ≡ n
    → take n (u ++ zeros) ++ (v ++ drop n (drop n (u ++ zeros))) ≡ first ++ second
levels_beside n u v zeros first second e f h k =
    let long : length u ≡ n = ap (λ (l : List ℤ). length l) e ∙ h in
    let front : take n (u ++ zeros) ≡ u = grind (arith, common_steps) in
    let back : drop n (drop n (u ++ zeros)) ≡ [] = grind (arith, common_steps) in
    ap₂ (λ (a b : List ℤ). a ++ (v ++ b)) front back
    ∙ ap (λ (l : List ℤ). u ++ l) (append-nil v)
    ∙ ap₂ (λ (a b : List ℤ). a ++ b) e f
