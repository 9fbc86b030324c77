use Rattle.std.proofs.Common.{ap}
use Rattle.std.specs.Prelude.{Some}
use Rattle.inter_coder.proofs.Around.{told, field_same}
use Rattle.inter_coder.proofs.fields.lower_half.Goals as goal

pub returns : goal.returns
returns c view h =
    field_same _ _ _ _ _ _ (told _ _ _ 3 c.motion_in-a.ensures h.left) (ap (λ m. Some m) c.motion_at-above.ensures) (told _ _ _ 1 c.motion_in-c.ensures h.left)
