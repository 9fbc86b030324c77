use Rattle.encode_film.specs.Outputs.{named}
use Rattle.encode_film.proofs.Deciding.{answers}
use Rattle.encode_film.proofs.run.encode.Goals as goal

pub returns-clause-answers : goal.returns-clause-answers
returns-clause-answers g c =
    let seen = g.S.Studio.seen in
    answers (named c.args.input.now c.args.outputs.now) c.args.settings.now (seen c.args.studio.now) (seen c.encode_film.new.studio) c.encode_film.result c.requires.early c.encode_film.ensures
