use Rattle.std.proofs.Common.{◌≡◌, ◌+◌, ◌-◌, ◌∷◌, ◌++◌}
use Rattle.arrayvec.specs.ArrayVec.{array_vec_len}
use Rattle.spec_plan.specs.Plan.{p_step, b_steps}
use Rattle.gop_plan.proofs.group.Given as goal

abbrev pub invariant-loop-place : goal.invariant-loop-place
invariant-loop-place l =
    (array_vec_len l.steps ≡ 1 + (l.place - l.display))
    × (l.steps.items ++ b_steps l.idr l.place l.frame_num (l.display + (l.got - 1) - l.place) ≡ p_step l.idr (l.display + (l.got - 1)) l.frame_num ∷ b_steps l.idr l.display l.frame_num (l.got - 1))
