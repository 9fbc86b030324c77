use Rattle.enc_session.specs.Sessions.{settings_of, state_of}
use Rattle.encode_film.proofs.Totals.{totals_written}
use Rattle.encode_film.proofs.groups.encode_pictures.Goals as goal

pub returns-in-Err : goal.returns-in-Err
returns-in-Err g c = c.in-Err.ensures

pub returns : goal.returns
returns g c =
    let seen = g.S.Studio.seen in
    totals_written c.args.head.now (settings_of c.args.session.now) (seen c.args.studio.now) (seen c.encode_groups.new.studio) (seen c.put_totals.new.studio) (state_of c.encode_groups.new.session) c.put_totals.result c.in-Ok.ensures c.put_totals.ensures
