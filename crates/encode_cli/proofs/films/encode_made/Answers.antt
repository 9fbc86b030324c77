use Rattle.std.proofs.Common.{ℕ, [], List, inr, refl, subst, sym}
use Rattle.spec_film.specs.Films.{film_of}
use Rattle.encode_film.specs.Outputs.{named}
use Rattle.encode_cli.specs.Doing.{TrialDecided}
use Rattle.encode_cli.specs.Encoding.{FilmLeaves}
use Rattle.encode_cli.specs.Trials.{InFilm, film_made, film_unmade, refused_untried, tried}
use Rattle.encode_cli.proofs.Leaving.{early_answers}
use Rattle.encode_cli.proofs.films.encode_made.Goals as goal

pub returns-in-Some-clause-left : goal.returns-in-Some-clause-left
returns-in-Some-clause-left g c = refused_untried c.in-Some.fault (sym c.in-Some.ensures) refl refl

pub returns-in-Some-clause-decided : goal.returns-in-Some-clause-decided
returns-in-Some-clause-decided g c = λ none. early_answers c.args.settings.now (film_of (film_made c.args.made.now)) c.in-Some.fault (sym c.in-Some.ensures)

pub returns-in-Ok-clause-left : goal.returns-in-Ok-clause-left
returns-in-Ok-clause-left g c =
    let seen = g.S.Studio.seen in
    tried (sym c.in_default.ensures)
    (subst (λ (x : List ℕ). InFilm (λ before after. FilmLeaves (named [] c.args.outputs.now) c.args.settings.now before after c.encode_within.result) x (seen c.args.studio.now) (seen c.encode_within.new.studio)) c.in-Ok.ensures
    c.encode_within.ensures.left)

pub returns-in-Ok-clause-decided : goal.returns-in-Ok-clause-decided
returns-in-Ok-clause-decided g c =
    let seen = g.S.Studio.seen in
    subst (λ (x : List ℕ). TrialDecided x c.args.settings.now (seen c.args.studio.now) (seen c.encode_within.new.studio) c.encode_within.result) c.in-Ok.ensures c.encode_within.ensures.decided

pub returns-in-Err-clause-left : goal.returns-in-Err-clause-left
returns-in-Err-clause-left g c = film_unmade refl refl

pub returns-in-Err-clause-decided : goal.returns-in-Err-clause-decided
returns-in-Err-clause-decided g c = λ none. inr refl
