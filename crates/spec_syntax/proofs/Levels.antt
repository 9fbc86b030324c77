use Rattle.std.proofs.Common.{◌≡◌, ℕ, zero, suc, ◌+◌, ◌-◌, ◌<◌, ◌≤◌, Bool, true, false, [], ◌++◌, refl, arith, cond}
use Rattle.std.specs.Prelude.{nat_lt, min, ◌==◌}
use Rattle.std.proofs.lemmas.Bool.{ltb-false}
use Rattle.std.proofs.lemmas.Bool.Decides.{nat_tests}
use borrow.Author.Tests.{ltb-true}
use Rattle.spec_syntax.specs.Syntax.{Syntax, done, nothing, ◌>>=◌, Walks, Reads}
use Rattle.spec_syntax.specs.Numbers.{ones, ones_string, golomb, golomb_string}
use Rattle.spec_syntax.specs.Levels.{minus1, minus1_string}
use Rattle.spec_syntax.proofs.Walks.{walks_then, walks_last}
use Rattle.spec_syntax.proofs.Numbers.{walks_ones, walks_golomb}

within : (v m : ℕ) → v < 8177 → 14 + v ≡ m → Walks (cond (nat_lt v 8177) (done (14 + v)) nothing) [] m
within v m h e = let small : nat_lt v 8177 ≡ true = grind (arith, nat_tests) in rw small e

pub walks_minus1 : (first others m : ℕ) → m < 8191 → Walks (minus1 first others) (minus1_string first others m) m
unfolding minus1 minus1_string
walks_minus1 first others zero h = (refl, refl)
walks_minus1 first others (suc m) h = (refl, go (nat_lt m 13) refl)
  where
    tail : ℕ → Syntax ℕ
    tail k = cond (k == 13) (golomb 13 0 >>= λ v. cond (nat_lt v 8177) (done (14 + v)) nothing) (done (suc k))

    go : (b : Bool) → nat_lt m 13 ≡ b → Walks (ones others 13 >>= λ k. cond (k == 13) (golomb 13 0 >>= λ v. cond (nat_lt v 8177) (done (14 + v)) nothing) (done (suc k))) (ones_string others 13 m ++ cond b [] (golomb_string 13 0 (m - 13))) (suc m)
    go true e =
        let lt : m < 13 = ltb-true _ _ e in
        let small : min m 13 ≡ m = omega arith in
        let test : (m == 13) ≡ false = grind (arith, nat_tests) in
        walks_then (ones others 13) tail (ones_string others 13 m) [] m (suc m) (rw small at (walks_ones others 13 m)) (rw test refl)
    go false e =
        let le : 13 ≤ m = ltb-false _ _ e in
        let big : min m 13 ≡ 13 = omega arith in
        walks_then (ones others 13) tail (ones_string others 13 m) (golomb_string 13 0 (m - 13)) 13 (suc m) (rw big at (walks_ones others 13 m))
        (walks_last (golomb 13 0) (λ v. cond (nat_lt v 8177) (done (14 + v)) nothing) (golomb_string 13 0 (m - 13)) (m - 13) (suc m) (walks_golomb 13 0 (m - 13) (omega arith)) (within (m - 13) (suc m) (omega arith) (omega arith)))

pub reads_minus1 : (first others m : ℕ) → m < 8191 → Reads (minus1 first others) (minus1_string first others m) m
reads_minus1 first others m h = record { walk = walks_minus1 first others m h }
