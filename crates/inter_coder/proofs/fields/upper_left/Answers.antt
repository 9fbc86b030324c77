use Rattle.inter_coder.proofs.Around.{told, either_told, field_same}
use Rattle.inter_coder.proofs.fields.upper_left.Goals as goal

pub returns : goal.returns
returns c view h =
    field_same _ _ _ _ _ _ (told _ _ _ 1 c.motion_in-a.ensures h.left) (told _ _ _ 2 c.motion_in-b.ensures h.above)
    (either_told _ _ _ _ _ c.either-c.ensures (told _ _ _ 3 c.motion_in-right.ensures h.above) (told _ _ _ 3 c.motion_in-corner.ensures h.above_left))
