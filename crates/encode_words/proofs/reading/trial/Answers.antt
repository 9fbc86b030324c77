use Rattle.std.proofs.Common.{map, List}
use Rattle.clap.specs.Words.{Text}
use Rattle.spec_words.specs.Commands.{trial_in, trial_of}
use Rattle.spec_words.specs.Options.{trial_app, on_off}
use Rattle.encode_words.proofs.Parsing.{failure_answers, matches_answer}
use Rattle.encode_words.proofs.reading.trial.Goals as goal

pub returns-in-Err : goal.returns-in-Err
unfolding trial_of
returns-in-Err c =
    let words : List Text = map (λ w. w.now) c.args.words.now in
    rw c.end_of.ensures (failure_answers (trial_app on_off) words trial_in c.trial_matches.result c.in-Err.error c.in-Err.is c.trial_matches.ensures)

pub returns-in-Ok : goal.returns-in-Ok
unfolding trial_of
returns-in-Ok c =
    let words : List Text = map (λ w. w.now) c.args.words.now in
    matches_answer (trial_app on_off) words trial_in c.trial_matches.result c.in-Ok.matches _ c.in-Ok.is c.trial_matches.ensures c.trial_command.ensures
