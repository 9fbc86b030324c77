use Rattle.std.proofs.Common.{arith, refl}
use Rattle.picture_planes.specs.Samples.{samples_of}
use Rattle.y4m_film.specs.Waits.{waits}
use Rattle.y4m_film.proofs.LineBytes.{if_err}
use Rattle.y4m_film.proofs.Appending.{no_row, row_gathered, all_rows, row_failed, row_part}
use Rattle.y4m_film.proofs.writing.put_plane.Goals as goal

pub loop-y-init : goal.loop-y-init
loop-y-init g c = no_row c.args.plane.now.width c.args.width (samples_of c.args.plane.now) c.args.out c.args.waiting.now.count (waits c.args.waiting.now) (g.S.Studio.seen c.args.studio.now) c.requires.room

pub returns-in_err-gather-clause-err : goal.returns-in_err-gather-clause-err
returns-in_err-gather-clause-err g c =
    let seen = g.S.Studio.seen in
    if_err c.from_residual.result
    (row_failed c.args.plane.now.width c.args.width (samples_of c.args.plane.now) c.args.out c.loop-y.y c.args.height c.loop-y.waiting.count _ (waits c.args.waiting.now) (waits c.loop-y.waiting) (seen c.args.studio.now) (seen c.loop-y.studio) (seen c.gather.new.studio)
    c.loop-y.invariant c.loop-y-test.true (row_part c.args.plane.now c.loop-y.y c.args.width c.row.result.now _ (omega (arith, c.loop-y-test.true, c.requires.height)) c.requires.width c.row.ensures.value refl) c.in_err-gather.ensures.err)

pub loop-y-preserved : goal.loop-y-preserved
loop-y-preserved g c =
    let seen = g.S.Studio.seen in
    row_gathered c.args.plane.now.width c.args.width (samples_of c.args.plane.now) c.args.out c.loop-y.y c.loop-y.waiting.count c.gather.new.self.count _ (waits c.args.waiting.now) (waits c.loop-y.waiting) (waits c.gather.new.self)
    (seen c.args.studio.now) (seen c.loop-y.studio) (seen c.gather.new.studio) c.loop-y.invariant
    (row_part c.args.plane.now c.loop-y.y c.args.width c.row.result.now _ (omega (arith, c.loop-y-test.true, c.requires.height)) c.requires.width c.row.ensures.value refl) c.in_ok-gather.ensures.ok c.in_ok-gather.ensures.room

pub returns-clause-ok : goal.returns-clause-ok
returns-clause-ok g c =
    let seen = g.S.Studio.seen in
    all_rows c.args.plane.now.width c.args.width (samples_of c.args.plane.now) c.args.out c.loop-y.y c.args.height c.loop-y.waiting.count (waits c.args.waiting.now) (waits c.loop-y.waiting) (seen c.args.studio.now) (seen c.loop-y.studio) c.loop-y.invariant (omega (arith, c.loop-y-test.false, c.loop-y.auto.y-end))
