use Rattle.std.proofs.Common.{arith, ◌≤◌, ◌+◌}
use Rattle.y4m_film.proofs.LineBytes.{if_err}
use Rattle.y4m_film.proofs.Widening.{filling_none, filling_more, filling_few, filling_failed}
use Rattle.y4m_film.proofs.rows.read_all_rows.Goals as goal

pub loop-first-init : goal.loop-first-init
loop-first-init g c = filling_none c.args.width c.args.height c.args.plane.now (g.S.Studio.seen c.args.studio.now)

pub returns-in_err-read-clause-err : goal.returns-in_err-read-clause-err
returns-in_err-read-clause-err g c =
    let seen = g.S.Studio.seen in
    let within : c.loop-first.first + c.min-rows.result ≤ c.args.height = omega (arith, c.min-rows.ensures, c.loop-first.invariant.within) in
    if_err c.from_residual.result (filling_failed c.loop-first.first c.min-rows.result c.args.width c.args.height c.args.plane.now c.loop-first.plane (seen c.args.studio.now) (seen c.loop-first.studio) (seen c.read_rows.new.studio) c.loop-first.invariant within c.in_err-read.ensures.err)

pub returns-then-read-count-clause-read : goal.returns-then-read-count-clause-read
returns-then-read-count-clause-read g c =
    let seen = g.S.Studio.seen in
    let within : c.loop-first.first + c.min-rows.result ≤ c.args.height = omega (arith, c.min-rows.ensures, c.loop-first.invariant.within) in
    filling_few c.loop-first.first c.min-rows.result c.in_ok-read.read c.args.width c.args.height c.args.plane.now c.loop-first.plane c.read_rows.new.plane (seen c.args.studio.now) (seen c.loop-first.studio) (seen c.read_rows.new.studio)
    c.loop-first.invariant within c.if-read-count.true c.in_ok-read.ensures.read

pub loop-first-preserved : goal.loop-first-preserved
loop-first-preserved g c =
    let seen = g.S.Studio.seen in
    let within : c.loop-first.first + c.min-rows.result ≤ c.args.height = omega (arith, c.min-rows.ensures, c.loop-first.invariant.within) in
    filling_more c.loop-first.first c.min-rows.result c.in_ok-read.read c.args.width c.args.height c.args.plane.now c.loop-first.plane c.read_rows.new.plane (seen c.args.studio.now) (seen c.loop-first.studio) (seen c.read_rows.new.studio)
    c.loop-first.invariant within c.requires.height c.requires.width.1 c.in_ok-read.ensures.shape (omega (arith, c.if-read-count.false, c.in_ok-read.ensures.read.within)) c.in_ok-read.ensures.read
