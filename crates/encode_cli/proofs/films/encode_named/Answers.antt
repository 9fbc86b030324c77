use Rattle.std.proofs.Common.{List, ℕ, refl, subst, sym}
use Rattle.spec_film.specs.Films.{film_of}
use Rattle.encode_film.specs.Outputs.{named}
use Rattle.encode_cli.specs.Encoding.{FilmLeaves, refused_early, went}
use Rattle.encode_cli.proofs.Leaving.{early_answers, encoded_answers, encoded_left}
use Rattle.encode_cli.proofs.films.encode_named.Goals as goal

pub returns-in-Some-clause-left : goal.returns-in-Some-clause-left
returns-in-Some-clause-left g c = refused_early c.in-Some.fault (sym c.in-Some.ensures) refl refl

pub returns-in-Some-clause-decided : goal.returns-in-Some-clause-decided
returns-in-Some-clause-decided g c = λ left told none. early_answers c.args.settings.now (film_of left) c.in-Some.fault (sym c.in-Some.ensures)

pub returns-in-None-clause-left : goal.returns-in-None-clause-left
returns-in-None-clause-left g c =
    let seen = g.S.Studio.seen in
    went (sym c.in-None.ensures)
    (subst (λ (x : List ℕ). FilmLeaves (named x c.args.outputs.now) c.args.settings.now (seen c.args.studio.now) (seen c.encode.new.studio) c.outcome_of.result) c.as_str.ensures
    (encoded_left (named c.as_str.result.now c.args.outputs.now) c.args.settings.now (seen c.args.studio.now) (seen c.encode.new.studio) c.encode.result c.outcome_of.result c.outcome_of.ensures c.encode.ensures.left))

pub returns-in-None-clause-decided : goal.returns-in-None-clause-decided
returns-in-None-clause-decided g c = λ left told none.
    encoded_answers c.args.settings.now (film_of left) c.encode.result c.outcome_of.result c.outcome_of.ensures (c.encode.ensures.answers left told none)
