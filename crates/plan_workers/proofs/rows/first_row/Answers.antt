use Rattle.std.proofs.Common.{◌≡◌, ◌∙◌, ◌≤◌, ◌<◌, ◌+◌, ◌-◌, ◌*◌, ◌/◌, ℕ, sym, ap, arith}
use Rattle.picture_plans.specs.Planned.{row_at}
use Rattle.plan_workers.proofs.Holding.{few_rows, some_rows, slice_before, slice_fits, slice_is}
use Rattle.plan_workers.proofs.rows.first_row.Goals as goal

pub overflow_mul-slice : goal.overflow_mul-slice
overflow_mul-slice c = let small = few_rows c.args.slices c.args.down c.args.row c.requires.few c.requires.down c.requires.row in omega (arith, small)

pub overflow_sub-slice : goal.overflow_sub-slice
overflow_sub-slice c = some_rows c.args.slices c.args.row c.requires.some

pub slice_start-requires-clause-slice : goal.slice_start-requires-clause-slice
slice_start-requires-clause-slice c = let fits = slice_fits c.args.slices c.args.down c.args.row c.requires.some c.requires.row in omega (arith, fits)

pub returns-clause-before : goal.returns-clause-before
returns-clause-before c =
    let value = c.slice_start.ensures.value in
    let before = slice_before c.args.slices c.args.down c.args.row c.requires.some in
    omega (arith, value, before)

pub returns-clause-first : goal.returns-clause-first
returns-clause-first c k from to =
    let row = c.requires.row in
    c.slice_start.ensures.value
    ∙ ap (λ (n : ℕ). row_at c.args.slices c.args.down n) (slice_is c.args.slices c.args.down c.args.row k c.requires.some (omega (arith, row)) from to)
