use Rattle.std.proofs.Common.{map, List}
use Rattle.clap.specs.Words.{Text}
use Rattle.spec_words.specs.Commands.{encode_in, encode_of}
use Rattle.spec_words.specs.Options.{encode_app, on_off}
use Rattle.encode_words.proofs.Parsing.{failure_answers, matches_answer}
use Rattle.encode_words.proofs.reading.encode.Goals as goal

pub returns-in-Err : goal.returns-in-Err
unfolding encode_of
returns-in-Err c =
    let words : List Text = map (λ w. w.now) c.args.words.now in
    rw c.end_of.ensures (failure_answers (encode_app on_off) words encode_in c.encode_matches.result c.in-Err.error c.in-Err.is c.encode_matches.ensures)

pub returns-in-Ok : goal.returns-in-Ok
unfolding encode_of
returns-in-Ok c =
    let words : List Text = map (λ w. w.now) c.args.words.now in
    matches_answer (encode_app on_off) words encode_in c.encode_matches.result c.in-Ok.matches _ c.in-Ok.is c.encode_matches.ensures c.encode_command.ensures
