use Rattle.std.proofs.Common.{◌++◌, ◌/◌}
use Rattle.spec_film.specs.Cropping.{cropped_plane}
use Rattle.picture_planes.specs.Samples.{samples_of}
use Rattle.y4m_film.specs.Waits.{waits}
use Rattle.y4m_film.proofs.LineBytes.{if_err, err_then, ok_then}
use Rattle.y4m_film.proofs.Appending.{gathered_then, gathered_then_failed, front_more}
use Rattle.y4m_film.proofs.writing.put_planes.Goals as goal

pub returns-in_err-put_plane-clause-err : goal.returns-in_err-put_plane-clause-err
returns-in_err-put_plane-clause-err g c =
    let seen = g.S.Studio.seen in
    let y = cropped_plane c.args.picture.now.y.width c.args.head.now.width c.args.head.now.height (samples_of c.args.picture.now.y) in
    let cb = cropped_plane c.args.picture.now.cb.width (c.args.head.now.width / 2) (c.args.head.now.height / 2) (samples_of c.args.picture.now.cb) in
    let cr = cropped_plane c.args.picture.now.cr.width (c.args.head.now.width / 2) (c.args.head.now.height / 2) (samples_of c.args.picture.now.cr) in
    if_err c.from_residual.result
    (front_more c.args.out (waits c.args.waiting.now) y (cb ++ cr) (seen c.args.studio.now) (seen c.put_plane.new.studio) c.in_err-put_plane.ensures.err)

pub returns-in_err-put_plane-2-clause-err : goal.returns-in_err-put_plane-2-clause-err
returns-in_err-put_plane-2-clause-err g c =
    let seen = g.S.Studio.seen in
    let y = cropped_plane c.args.picture.now.y.width c.args.head.now.width c.args.head.now.height (samples_of c.args.picture.now.y) in
    let cb = cropped_plane c.args.picture.now.cb.width (c.args.head.now.width / 2) (c.args.head.now.height / 2) (samples_of c.args.picture.now.cb) in
    let cr = cropped_plane c.args.picture.now.cr.width (c.args.head.now.width / 2) (c.args.head.now.height / 2) (samples_of c.args.picture.now.cr) in
    if_err c.from_residual-in_err-put_plane-2.result
    (gathered_then_failed c.args.out (waits c.args.waiting.now) y (waits c.put_plane.new.waiting) (cb ++ cr) (seen c.args.studio.now) (seen c.put_plane.new.studio) (seen c.put_plane-2.new.studio)
    c.in_ok-put_plane.ensures.ok
    (front_more c.args.out (waits c.put_plane.new.waiting) cb cr (seen c.put_plane.new.studio) (seen c.put_plane-2.new.studio) c.in_err-put_plane-2.ensures.err))

pub returns-clause-err : goal.returns-clause-err
returns-clause-err g c =
    let seen = g.S.Studio.seen in
    let y = cropped_plane c.args.picture.now.y.width c.args.head.now.width c.args.head.now.height (samples_of c.args.picture.now.y) in
    let cb = cropped_plane c.args.picture.now.cb.width (c.args.head.now.width / 2) (c.args.head.now.height / 2) (samples_of c.args.picture.now.cb) in
    let cr = cropped_plane c.args.picture.now.cr.width (c.args.head.now.width / 2) (c.args.head.now.height / 2) (samples_of c.args.picture.now.cr) in
    err_then c.put_plane-3.result
    (λ f. gathered_then_failed c.args.out (waits c.args.waiting.now) y (waits c.put_plane.new.waiting) (cb ++ cr) (seen c.args.studio.now) (seen c.put_plane.new.studio) (seen c.put_plane-3.new.studio)
    c.in_ok-put_plane.ensures.ok
    (gathered_then_failed c.args.out (waits c.put_plane.new.waiting) cb (waits c.put_plane-2.new.waiting) cr (seen c.put_plane.new.studio) (seen c.put_plane-2.new.studio) (seen c.put_plane-3.new.studio)
    c.in_ok-put_plane-2.ensures.ok f))
    c.put_plane-3.ensures.err

pub returns-clause-ok : goal.returns-clause-ok
returns-clause-ok g c =
    let seen = g.S.Studio.seen in
    let y = cropped_plane c.args.picture.now.y.width c.args.head.now.width c.args.head.now.height (samples_of c.args.picture.now.y) in
    let cb = cropped_plane c.args.picture.now.cb.width (c.args.head.now.width / 2) (c.args.head.now.height / 2) (samples_of c.args.picture.now.cb) in
    let cr = cropped_plane c.args.picture.now.cr.width (c.args.head.now.width / 2) (c.args.head.now.height / 2) (samples_of c.args.picture.now.cr) in
    ok_then c.put_plane-3.result
    (λ h. gathered_then c.args.out (waits c.args.waiting.now) y (waits c.put_plane.new.waiting) (cb ++ cr) (waits c.put_plane-3.new.waiting) (seen c.args.studio.now) (seen c.put_plane.new.studio) (seen c.put_plane-3.new.studio)
    c.in_ok-put_plane.ensures.ok
    (gathered_then c.args.out (waits c.put_plane.new.waiting) cb (waits c.put_plane-2.new.waiting) cr (waits c.put_plane-3.new.waiting) (seen c.put_plane.new.studio) (seen c.put_plane-2.new.studio) (seen c.put_plane-3.new.studio)
    c.in_ok-put_plane-2.ensures.ok h))
    c.put_plane-3.ensures.ok
