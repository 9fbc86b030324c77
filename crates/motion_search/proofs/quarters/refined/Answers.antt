use Rattle.std.proofs.Common.{arith, sym, subst}
use Rattle.std.specs.Prelude.{pos, ◌*ℤ◌}
use Rattle.std.proofs.lemmas.Int.{ints}
use Rattle.enc_tables.specs.declared.records.Vector.{Vector}
use Rattle.motion_search.specs.Quarters.{costs_by, IsWithin}
use Rattle.motion_search.proofs.Quartering.{turned_within, abs_bounds, centre_same}
use Rattle.motion_search.proofs.quarters.refined.Goals as goal

pub best_of_nine-requires-clause-centre : goal.best_of_nine-requires-clause-centre
best_of_nine-requires-clause-centre c =
    let a = abs_bounds c.args.best.now.dx 32 c.requires.best.across in
    let b = abs_bounds c.args.best.now.dy 32 c.requires.best.down in
    (128, omega arith, record { left = omega (arith, ints); right = omega (arith, ints); up = omega (arith, ints); down = omega (arith, ints) })

pub best_of_nine-requires-2-clause-centre : goal.best_of_nine-requires-2-clause-centre
best_of_nine-requires-2-clause-centre c =
    let a = abs_bounds c.args.best.now.dx 32 c.requires.best.across in
    let b = abs_bounds c.args.best.now.dy 32 c.requires.best.down in
    let h = c.best_of_nine.ensures.best in (
      130,
      omega arith,
      subst (λ (v : Vector). IsWithin 130 v) (sym h.stands)
          (turned_within 128 130 2 h.turn _ h.first_least.inside (omega arith) (record { left = omega (arith, ints); right = omega (arith, ints); up = omega (arith, ints); down = omega (arith, ints) })),
    )

pub returns : goal.returns
returns c =
    let a = abs_bounds c.args.best.now.dx 32 c.requires.best.across in
    let b = abs_bounds c.args.best.now.dy 32 c.requires.best.down in
    record {
      half = c.best_of_nine.result.0;
      coarse = centre_same (costs_by c.args.source.now c.args.reference.now c.args.halves c.args.block) _ (pos 4 *ℤ c.args.best.now.dx) _ (pos 4 *ℤ c.args.best.now.dy) 2 c.best_of_nine.result.0 (omega (arith, ints)) (omega (arith, ints)) c.best_of_nine.ensures.best;
      fine = c.best_of_nine-2.ensures.best;
      is_cost = c.best_of_nine-2.ensures.cost;
    }
