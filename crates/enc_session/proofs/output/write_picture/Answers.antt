use Rattle.std.proofs.Common.{List, ℕ, take, ◌∙◌, subst}
use Rattle.enc_edge.specs.declared.studio.Out.TheVariants.{Report}
use Rattle.enc_edge.specs.declared.studio.Place.TheVariants.{Output}
use Rattle.enc_edge.specs.Calls.{LaterFailed, wrote}
use Rattle.spec_report.specs.Lines.{picture_line}
use Rattle.enc_session.proofs.Written.{stream_cut, line_cut}
use Rattle.enc_session.proofs.output.write_picture.Goals as goal

pub returns-in-Err : goal.returns-in-Err
returns-in-Err g c = stream_cut c.args.unit.now (picture_line c.args.picture.now) c.in-Err.field-0.0 (g.S.Studio.seen c.args.studio.now) (g.S.Studio.seen c.write_full.new.studio) c.in-Err.ensures.err

pub returns-in-Err-write_full : goal.returns-in-Err-write_full
returns-in-Err-write_full g c =
    let line = c.as_bytes.ensures.value ∙ c.deref.ensures.0 ∙ c.picture_line-line.ensures in
    line_cut c.args.unit.now (picture_line c.args.picture.now) c.in-Err-write_full.field-0.0 (g.S.Studio.seen c.args.studio.now) (g.S.Studio.seen c.write_full.new.studio) (g.S.Studio.seen c.write_full-2.new.studio)
    c.in-Ok.ensures.ok
    (subst (λ (xs : List ℕ). LaterFailed (Output Report) (wrote (Output Report) (take c.in-Err-write_full.field-0.0 xs) (g.S.Studio.seen c.write_full.new.studio)) (g.S.Studio.seen c.write_full-2.new.studio)) line c.in-Err-write_full.ensures.err)
