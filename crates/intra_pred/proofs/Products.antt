use Rattle.std.proofs.Common.{◌≤◌, ℤ, pos, negsuc, ◌-ℤ◌, ◌*ℤ◌, ◌≤ℤ◌, ◌*◌, suc, arith}
use Rattle.std.proofs.lemmas.Int.{ints}
use Rattle.std.proofs.Math.Nat.{mul-le-mul}

pub product_high : (s d : ℤ) → (pos 0 -ℤ pos 10000) ≤ℤ s → s ≤ℤ pos 10000 → (pos 0 -ℤ pos 8) ≤ℤ d → d ≤ℤ pos 8 → (s *ℤ d) ≤ℤ pos 80000
product_high (pos a) (pos b) l h m n =
    let a_most : a ≤ 10000 = grind (arith, ints) in
    let b_most : b ≤ 8 = grind (arith, ints) in
    let most : a * b ≤ 80000 = mul-le-mul a_most b_most in grind (arith, ints)
product_high (pos a) (negsuc b) l h m n = grind (arith, ints)
product_high (negsuc a) (pos b) l h m n = grind (arith, ints)
product_high (negsuc a) (negsuc b) l h m n =
    let a_most : suc a ≤ 10000 = grind (arith, ints) in
    let b_most : suc b ≤ 8 = grind (arith, ints) in
    let most : suc a * suc b ≤ 80000 = mul-le-mul a_most b_most in grind (arith, ints)

pub product_low : (s d : ℤ) → (pos 0 -ℤ pos 10000) ≤ℤ s → s ≤ℤ pos 10000 → (pos 0 -ℤ pos 8) ≤ℤ d → d ≤ℤ pos 8 → (pos 0 -ℤ pos 80000) ≤ℤ (s *ℤ d)
product_low (pos a) (pos b) l h m n = grind (arith, ints)
product_low (pos a) (negsuc b) l h m n =
    let a_most : a ≤ 10000 = grind (arith, ints) in
    let b_most : suc b ≤ 8 = grind (arith, ints) in
    let most : a * suc b ≤ 80000 = mul-le-mul a_most b_most in grind (arith, ints)
product_low (negsuc a) (pos b) l h m n =
    let a_most : suc a ≤ 10000 = grind (arith, ints) in
    let b_most : b ≤ 8 = grind (arith, ints) in
    let most : suc a * b ≤ 80000 = mul-le-mul a_most b_most in grind (arith, ints)
product_low (negsuc a) (negsuc b) l h m n = grind (arith, ints)
