use Rattle.std.proofs.Common.{◌≤◌, ◌*◌, ◌/◌, ℕ, ap, ◌∙◌, arith}
use Rattle.picture_plans.proofs.Sharing.{small_product, row_inside, row_last, row_next}
use Rattle.picture_plans.proofs.slices.slice_start.Goals as goal

pub overflow_mul-result : goal.overflow_mul-result
overflow_mul-result c =
    let few : c.args.k ≤ 144 = omega arith in
    let small = small_product c.args.k c.args.down few c.requires.down in
    omega arith

pub returns-clause-within : goal.returns-clause-within
returns-clause-within c = row_inside c.args.k c.args.down c.args.slices c.requires.slice

pub returns-clause-some : goal.returns-clause-some
returns-clause-some c less = let next = row_next c.args.k c.args.down c.args.slices c.requires.some c.requires.slices in omega (arith, next)

pub returns-clause-last : goal.returns-clause-last
returns-clause-last c end = ap (λ (n : ℕ). n * c.args.down / c.args.slices) end ∙ row_last c.args.down c.args.slices c.requires.some
