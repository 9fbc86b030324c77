use Rattle.encode_film.proofs.Writing.{line_cut}
use Rattle.encode_film.proofs.lines.put_line.Goals as goal

pub returns-in-Err : goal.returns-in-Err
returns-in-Err g c =
    let seen = g.S.Studio.seen in
    line_cut c.args.line.now c.in-Err.field-0.0 (seen c.args.studio.now) (seen c.write_full.new.studio) c.in-Err.ensures.err
