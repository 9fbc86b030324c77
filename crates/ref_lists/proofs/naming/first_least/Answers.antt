use Rattle.spec_lists.specs.Reordering.{first_least_place}
use Rattle.std.proofs.Common.{◌≡◌, ◌<◌, ◌≤◌, ℕ, get_or, arith, true, false}
use Rattle.std.specs.Prelude.{nat_lt}
use Rattle.std.proofs.lemmas.Bool.Decides.{nat_tests}
use Rattle.ref_lists.proofs.Differing.{least_first, least_next, least_last}
use Rattle.ref_lists.proofs.naming.first_least.Goals as goal
use Rattle.ref_lists.proofs.naming.first_least.Goals.{then-numbers-k, else-numbers-k}

pub loop-k-init : goal.loop-k-init
loop-k-init c = (omega arith, omega arith, omega arith, least_first c.args.numbers.now)

pub loop-k-preserved : goal.loop-k-preserved
loop-k-preserved c =
    let xs = c.args.numbers.now in
    elim c.if-numbers-k.branch [
      | then-numbers-k w ↦ (
        omega arith,
        omega (arith, w.best-is),
        omega (arith, w.best-is, c.loop-k-test.true),
        least_next xs c.loop-k.best c.loop-k.k c.if-numbers-k.best (first_least_place xs) true c.loop-k-test.true (less (get_or xs c.loop-k.k 0) (get_or xs c.loop-k.best 0) w.if-numbers-k.true) w.best-is c.loop-k.invariant.3,
      )
      | else-numbers-k w ↦ (
        omega arith,
        omega (arith, w.best-is, c.loop-k.invariant.1),
        omega (arith, w.best-is, c.loop-k.invariant.2),
        least_next xs c.loop-k.best c.loop-k.k c.if-numbers-k.best (first_least_place xs) false c.loop-k-test.true (not_less (get_or xs c.loop-k.k 0) (get_or xs c.loop-k.best 0) w.if-numbers-k.false) w.best-is c.loop-k.invariant.3,
      )
    ]
  where
    less : (a b : ℕ) → a < b → nat_lt a b ≡ true
    less a b h = grind (arith, nat_tests)

    not_less : (a b : ℕ) → b ≤ a → nat_lt a b ≡ false
    not_less a b h = grind (arith, nat_tests)

pub returns-clause-value : goal.returns-clause-value
returns-clause-value c = least_last c.args.numbers.now c.loop-k.best c.loop-k.k (first_least_place c.args.numbers.now) (omega (arith, c.loop-k-test.false)) c.loop-k.invariant.3
