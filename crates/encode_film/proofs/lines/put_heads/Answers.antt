use Rattle.std.proofs.Common.{◌∙◌}
use Rattle.enc_session.specs.Sessions.{settings_of}
use Rattle.encode_film.proofs.Writing.{head_cut, heads_written}
use Rattle.encode_film.proofs.lines.put_heads.Goals as goal

pub returns-in-Err : goal.returns-in-Err
returns-in-Err g c =
    let seen = g.S.Studio.seen in
    head_cut c.args.settings.now c.args.head.now (settings_of c.args.session.now) (seen c.args.studio.now) (seen c.put_head.new.studio) c.requires.settled c.in-Err.ensures.err

pub returns : goal.returns
returns g c =
    let seen = g.S.Studio.seen in
    heads_written c.args.settings.now c.args.head.now (settings_of c.args.session.now) c.level.result c.head_line-line.result.bytes c.as_bytes.result.now (seen c.args.studio.now) (seen c.put_head.new.studio) (seen c.put_line.new.studio) c.put_line.result
    c.requires.settled c.level.ensures c.head_line-line.ensures (c.as_bytes.ensures.value ∙ c.deref.ensures.0) c.in-Ok.ensures.ok c.put_line.ensures
