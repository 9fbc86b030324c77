use Rattle.std.proofs.Common.{map, List}
use Rattle.clap.specs.Words.{Text}
use Rattle.spec_words.specs.Commands.{store_in, store_of}
use Rattle.spec_words.specs.Options.{store_app}
use Rattle.encode_words.proofs.Parsing.{failure_answers, matches_answer}
use Rattle.encode_words.proofs.reading.store.Goals as goal

pub returns-in-Err : goal.returns-in-Err
unfolding store_of
returns-in-Err c =
    let words : List Text = map (λ w. w.now) c.args.words.now in
    rw c.end_of.ensures (failure_answers (store_app) words store_in c.store_matches.result c.in-Err.error c.in-Err.is c.store_matches.ensures)

pub returns-in-Ok : goal.returns-in-Ok
unfolding store_of
returns-in-Ok c =
    let words : List Text = map (λ w. w.now) c.args.words.now in
    matches_answer (store_app) words store_in c.store_matches.result c.in-Ok.matches _ c.in-Ok.is c.store_matches.ensures c.store_command.ensures
