use Rattle.std.proofs.Common.{ap}
use Rattle.std.specs.Prelude.{Some}
use Rattle.inter_coder.proofs.Around.{told, either_told, field_same}
use Rattle.inter_coder.proofs.fields.upper_right.Goals as goal

pub returns : goal.returns
returns c view h =
    field_same _ _ _ _ _ _ (ap (λ m. Some m) c.motion_at-left.ensures) (told _ _ _ 3 c.motion_in-b.ensures h.above)
    (either_told _ _ _ _ _ c.either-c.ensures (told _ _ _ 2 c.motion_in-right.ensures h.above_right) (told _ _ _ 2 c.motion_in-corner.ensures h.above))
