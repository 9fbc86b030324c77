use Rattle.std.proofs.Common.{map, List}
use Rattle.clap.specs.Words.{Text}
use Rattle.spec_words.specs.Options.{trial_app, on_off}
use Rattle.spec_words.proofs.Places.{trial_faults, trial_rows}
use Rattle.encode_words.proofs.Parsing.{reads_same}
use Rattle.encode_words.proofs.options.trial_matches.Goals as goal

pub returns : goal.returns
returns c =
    let words : List Text = map (λ w. w.now) c.args.words.now in
    let names = c.switch.result in
    reads_same (trial_app names) (trial_app on_off) words _ (trial_faults names words c.switch.ensures) (trial_rows names words c.switch.ensures) c.trial_by.ensures
