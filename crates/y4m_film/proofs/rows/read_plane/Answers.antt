use Rattle.y4m_film.proofs.Joining.{part_of}
use Rattle.std.proofs.Common.{◌*◌}
use Rattle.y4m_film.proofs.Widening.{plane_padded}
use Rattle.y4m_film.proofs.rows.read_plane.Goals as goal

pub returns-clause-read : goal.returns-clause-read
returns-clause-read g c =
    let seen = g.S.Studio.seen in
    part_of (c.args.height * c.args.width) c.in_ok-read.read _ _ (seen c.args.studio.now) (seen c.read_all_rows.new.studio)
    (λ left long filled. plane_padded c.args.width c.args.height c.args.plane.now c.read_all_rows.new.plane c.repeat_last.new.plane left c.requires.height.0 c.requires.height.1 c.requires.width.1 c.in_ok-read.ensures.shape filled c.repeat_last.ensures.samples)
    c.in_ok-read.ensures.read
