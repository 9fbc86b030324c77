use Rattle.std.proofs.Common.{arith}
use Rattle.picture_planes.specs.Samples.{samples_of}
use Rattle.y4m_film.proofs.LineBytes.{if_err}
use Rattle.y4m_film.proofs.Planes.{luma_as, chroma_as, three_read, second_failed, third_failed}
use Rattle.y4m_film.proofs.pictures.read_planes.Goals as goal

pub returns-in_err-cb-clause-err : goal.returns-in_err-cb-clause-err
returns-in_err-cb-clause-err g c =
    let seen = g.S.Studio.seen in
    if_err c.from_residual-in_err-cb.result
    (second_failed c.args.head.now c.requires.head (samples_of c.read_plane.new.plane) c.in_ok-luma.luma (seen c.args.studio.now) (seen c.read_plane.new.studio) (seen c.read_plane-2.new.studio) (omega (arith, c.if-luma-head.false, c.in_ok-luma.ensures.read.within))
    (luma_as c.args.head.now c.requires.head c.args.picture.now.y.width c.args.picture.now.y.height c.in_ok-luma.luma (samples_of c.read_plane.new.plane) (seen c.args.studio.now) (seen c.read_plane.new.studio) c.requires.sizes.luma_width c.requires.sizes.luma_height c.in_ok-luma.ensures.read) c.in_err-cb.ensures.err)

pub returns-in_err-cr-clause-err : goal.returns-in_err-cr-clause-err
returns-in_err-cr-clause-err g c =
    let seen = g.S.Studio.seen in
    if_err c.from_residual-in_err-cr.result
    (third_failed c.args.head.now c.requires.head (samples_of c.read_plane.new.plane) (samples_of c.read_plane-2.new.plane) c.in_ok-luma.luma c.in_ok-cb.cb (seen c.args.studio.now) (seen c.read_plane.new.studio) (seen c.read_plane-2.new.studio) (seen c.read_plane-3.new.studio)
    (omega (arith, c.if-luma-head.false, c.in_ok-luma.ensures.read.within)) (omega (arith, c.if-cb-high.false, c.in_ok-cb.ensures.read.within)) (luma_as c.args.head.now c.requires.head c.args.picture.now.y.width c.args.picture.now.y.height c.in_ok-luma.luma (samples_of c.read_plane.new.plane) (seen c.args.studio.now) (seen c.read_plane.new.studio) c.requires.sizes.luma_width c.requires.sizes.luma_height c.in_ok-luma.ensures.read) (chroma_as c.args.head.now c.requires.head c.args.picture.now.cb.width c.args.picture.now.cb.height c.in_ok-cb.cb (samples_of c.read_plane-2.new.plane) (seen c.read_plane.new.studio) (seen c.read_plane-2.new.studio) c.requires.sizes.cb_width c.requires.sizes.cb_height c.in_ok-cb.ensures.read) c.in_err-cr.ensures.err)

pub returns-clause-read : goal.returns-clause-read
returns-clause-read g c =
    let seen = g.S.Studio.seen in
    three_read c.args.head.now c.requires.head (samples_of c.read_plane.new.plane) (samples_of c.read_plane-2.new.plane) (samples_of c.read_plane-3.new.plane) c.in_ok-luma.luma c.in_ok-cb.cb c.in_ok-cr.cr
    (seen c.args.studio.now) (seen c.read_plane.new.studio) (seen c.read_plane-2.new.studio) (seen c.read_plane-3.new.studio)
    (omega (arith, c.if-luma-head.false, c.in_ok-luma.ensures.read.within)) (omega (arith, c.if-cb-high.false, c.in_ok-cb.ensures.read.within)) (luma_as c.args.head.now c.requires.head c.args.picture.now.y.width c.args.picture.now.y.height c.in_ok-luma.luma (samples_of c.read_plane.new.plane) (seen c.args.studio.now) (seen c.read_plane.new.studio) c.requires.sizes.luma_width c.requires.sizes.luma_height c.in_ok-luma.ensures.read) (chroma_as c.args.head.now c.requires.head c.args.picture.now.cb.width c.args.picture.now.cb.height c.in_ok-cb.cb (samples_of c.read_plane-2.new.plane) (seen c.read_plane.new.studio) (seen c.read_plane-2.new.studio) c.requires.sizes.cb_width c.requires.sizes.cb_height c.in_ok-cb.ensures.read)
    (chroma_as c.args.head.now c.requires.head c.args.picture.now.cr.width c.args.picture.now.cr.height c.in_ok-cr.cr (samples_of c.read_plane-3.new.plane) (seen c.read_plane-2.new.studio) (seen c.read_plane-3.new.studio) c.requires.sizes.cr_width c.requires.sizes.cr_height c.in_ok-cr.ensures.read)
