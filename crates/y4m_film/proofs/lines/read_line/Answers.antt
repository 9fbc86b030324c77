use Rattle.std.proofs.Common.{length, ap, arith}
use Rattle.std.specs.Prelude.{◌==◌}
use Rattle.y4m_film.proofs.LineBytes.{reading_none, line_cut, line_whole, line_long, line_unread, if_err}
use Rattle.y4m_film.proofs.lines.read_line.Goals as goal

pub loop-n-init : goal.loop-n-init
loop-n-init g c = reading_none c.args.line.now (g.S.Studio.seen c.args.studio.now)

pub returns-in_err-read-clause-err : goal.returns-in_err-read-clause-err
returns-in_err-read-clause-err g c =
    let seen = g.S.Studio.seen in
    if_err c.from_residual.result (line_unread c.loop-n.n (length c.read_full.new.buf) c.loop-n.line (seen c.args.studio.now) (seen c.loop-n.studio) (seen c.read_full.new.studio)
    c.read_full.auto.buf c.loop-n-test.true c.loop-n.invariant c.in_err-read.ensures.within)

pub returns-then-read-eq0-clause-line : goal.returns-then-read-eq0-clause-line
returns-then-read-eq0-clause-line g c =
    let seen = g.S.Studio.seen in
    line_cut c.loop-n.n (length c.read_full.new.buf) c.in_ok-read.read c.loop-n.line c.read_full.new.buf (seen c.args.studio.now) (seen c.loop-n.studio) (seen c.read_full.new.studio)
    c.read_full.auto.buf c.if-read-eq0.true c.loop-n-test.true c.loop-n.invariant c.in_ok-read.ensures.bytes c.in_ok-read.ensures.ok

pub returns-then-byte-eq10-clause-line : goal.returns-then-byte-eq10-clause-line
returns-then-byte-eq10-clause-line g c =
    let seen = g.S.Studio.seen in
    line_whole c.loop-n.n (length c.read_full.new.buf) c.in_ok-read.read c.loop-n.line c.read_full.new.buf (seen c.args.studio.now) (seen c.loop-n.studio) (seen c.read_full.new.studio)
    c.read_full.auto.buf c.read_full.auto.buf c.if-read-eq0.false (omega (arith, c.read_full.auto.buf, c.in_ok-read.ensures.count)) c.loop-n-test.true (omega arith) (ap (λ b. b == 10) c.if-byte-eq10.true)
    c.loop-n.invariant c.in_ok-read.ensures.bytes c.in_ok-read.ensures.ok

pub returns-clause-line : goal.returns-clause-line
returns-clause-line g c =
    let seen = g.S.Studio.seen in
    line_long c.loop-n.n c.loop-n.line (seen c.args.studio.now) (seen c.loop-n.studio) (omega arith) c.loop-n.invariant
