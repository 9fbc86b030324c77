use Rattle.std.proofs.Common.{arith, length}
use Rattle.y4m_film.proofs.Frames.{film_long}
use Rattle.y4m_film.proofs.pictures.end_of_film.Goals as goal

pub returns-clause-fault : goal.returns-clause-fault
returns-clause-fault g c =
    let seen = g.S.Studio.seen in
    λ head. film_long c.in-Ok.read (length c.read_full.new.buf) head c.read_full.new.buf (seen c.args.studio.now) (seen c.read_full.new.studio)
    c.read_full.auto.buf (omega (arith, c.in-Ok.ensures.count, c.read_full.auto.buf, c.if-read-eq0.false)) c.in-Ok.ensures.bytes c.in-Ok.ensures.ok
