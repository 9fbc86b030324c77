use Rattle.std.proofs.Common.{[]}
use Rattle.enc_edge.specs.Films.{film_seen}
use Rattle.spec_film.specs.Films.{film_of}
use Rattle.encode_film.specs.Outputs.{named}
use Rattle.encode_cli.proofs.Leaving.{encoded_answers, encoded_left}
use Rattle.encode_cli.proofs.Trying.{lender_same}
use Rattle.encode_cli.proofs.films.encode_filmed.Goals as goal

pub returns-clause-left : goal.returns-clause-left
returns-clause-left g c =
    let seen = film_seen g.S.Studio.seen in
    encoded_left (named [] c.args.outputs.now) c.args.settings.now (seen c.args.filmed.now) (seen c.encode.new.studio) c.encode.result c.outcome_of.result c.outcome_of.ensures c.encode.ensures.left

pub returns-clause-same_reference : goal.returns-clause-same_reference
returns-clause-same_reference g c = lender_same (named [] c.args.outputs.now) c.args.settings.now _ _ _ _ _ _ c.outcome_of.result (returns-clause-left g c)

pub returns-clause-decided : goal.returns-clause-decided
returns-clause-decided g c = λ left told none.
    encoded_answers c.args.settings.now (film_of left) c.encode.result c.outcome_of.result c.outcome_of.ensures (c.encode.ensures.answers left told none)
