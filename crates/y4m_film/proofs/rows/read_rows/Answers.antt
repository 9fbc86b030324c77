use Rattle.std.proofs.Common.{refl, length, ◌∙◌}
use Rattle.y4m_film.proofs.Widening.{rows_read}
use Rattle.y4m_film.proofs.rows.read_rows.Goals as goal

pub returns-clause-read : goal.returns-clause-read
returns-clause-read g c =
    let seen = g.S.Studio.seen in
    rows_read c.args.width c.args.rows c.args.first (length c.read_full.new.buf) c.in_ok-read.read c.read_full.new.buf c.args.plane.now c.set_rows.new.plane (seen c.args.studio.now) (seen c.read_full.new.studio)
    (c.read_full.auto.buf ∙ c.requires.piece) refl c.in_ok-read.ensures.count c.in_ok-read.ensures.bytes c.in_ok-read.ensures.ok (λ _. c.set_rows.ensures.samples)
