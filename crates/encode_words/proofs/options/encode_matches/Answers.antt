use Rattle.std.proofs.Common.{map, List}
use Rattle.clap.specs.Words.{Text}
use Rattle.spec_words.specs.Options.{encode_app, on_off}
use Rattle.spec_words.proofs.Places.{encode_faults, encode_rows}
use Rattle.encode_words.proofs.Parsing.{reads_same}
use Rattle.encode_words.proofs.options.encode_matches.Goals as goal

pub returns : goal.returns
returns c =
    let words : List Text = map (λ w. w.now) c.args.words.now in
    let names = c.switch.result in
    reads_same (encode_app names) (encode_app on_off) words _ (encode_faults names words c.switch.ensures) (encode_rows names words c.switch.ensures) c.encode_by.ensures
