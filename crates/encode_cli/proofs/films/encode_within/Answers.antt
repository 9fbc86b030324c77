use Rattle.std.proofs.Common.{[], rules}
use Rattle.enc_edge.specs.Films.{film_seen}
use Rattle.encode_film.specs.Outputs.{named}
use Rattle.encode_cli.proofs.Trying.{decided_within, in_film_of}
use Rattle.encode_cli.proofs.films.encode_within.Goals as goal

pub returns-clause-left : goal.returns-clause-left
returns-clause-left g c =
    let seen = g.S.Studio.seen in
    let told = in_film_of (named [] c.args.outputs.now) c.args.settings.now c.args.film.items _ _ _ (seen c.args.studio.now) _ (film_seen seen c.new-filmed.result) c.encode_filmed-outcome.result c.new-filmed.ensures.seen c.encode_filmed-outcome.ensures.left in
    search (rules, told)

pub returns-clause-decided : goal.returns-clause-decided
returns-clause-decided g c =
    let seen = g.S.Studio.seen in
    let told = decided_within c.args.settings.now c.args.film.items _ _ _ (seen c.args.studio.now) _ (film_seen seen c.new-filmed.result) c.encode_filmed-outcome.result c.new-filmed.ensures.seen c.encode_filmed-outcome.ensures.decided in
    search (rules, told)
