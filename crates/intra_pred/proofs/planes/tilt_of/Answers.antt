use Rattle.std.proofs.Common.{◌≡◌, ℕ, pos, ◌-ℤ◌, ◌+◌, arith, to_z, of_z, w32, ap₂, ◌∙◌}
use Rattle.std.proofs.lemmas.Int.{ints}
use Rattle.spec_intra.specs.Slopes.{tilt}
use Rattle.intra_pred.proofs.planes.tilt_of.Goals as goal

pub returns-clause-value : goal.returns-clause-value
unfolding tilt
returns-clause-value c =
    let e : c.loop-i.i ≡ c.args.h + 1 = omega arith in
    let up = rw e at c.loop-i.invariant.up in
    let down = rw e at c.loop-i.invariant.down in
    let plain : to_z w32 (of_z w32 (to_z w32 c.loop-i.up -ℤ to_z w32 c.loop-i.down)) ≡ pos c.loop-i.up -ℤ pos c.loop-i.down = omega (arith, ints) in
    plain ∙ ap₂ (λ (a b : ℕ). pos a -ℤ pos b) up down
