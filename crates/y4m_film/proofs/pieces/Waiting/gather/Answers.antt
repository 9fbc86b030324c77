use Rattle.y4m_film.specs.Waits.{waits}
use Rattle.y4m_film.proofs.LineBytes.{ok_both}
use Rattle.y4m_film.proofs.Appending.{gathered_behind, gathered_written}
use Rattle.y4m_film.proofs.pieces.Waiting.gather.Goals as goal

pub returns-then-self-lt-PIECE-clause-ok : goal.returns-then-self-lt-PIECE-clause-ok
returns-then-self-lt-PIECE-clause-ok g c =
    gathered_behind c.args.out (waits c.args.self.now) c.args.bytes.now (waits c.add.new.self) (g.S.Studio.seen c.args.studio.now) c.add.ensures.bytes

pub returns-clause-ok : goal.returns-clause-ok
returns-clause-ok g c =
    let seen = g.S.Studio.seen in
    ok_both c.put.result
    (λ written rest. gathered_written c.args.out (waits c.args.self.now) c.args.bytes.now (waits c.add.new.self) (waits c.put.new.self) (seen c.args.studio.now) (seen c.put.new.studio) c.add.ensures.bytes rest.0 written)
    c.put.ensures.ok c.put.ensures.rest
