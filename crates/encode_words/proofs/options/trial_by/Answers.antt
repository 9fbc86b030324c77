use Rattle.std.proofs.Common.{ap, refl, ◌∙◌, ◌≡◌}
use Rattle.clap.specs.Words.{app_of}
use Rattle.spec_words.specs.Options.{trial_app, with_made, with_outputs, with_settings}
use Rattle.encode_words.proofs.Parsing.{parse_reads}
use Rattle.encode_words.proofs.options.trial_by.Goals as goal

pub returns : goal.returns
returns c =
    let same : app_of c.in_ok-command.command ≡ trial_app c.args.names =
    c.in_ok-command.ensures ∙ ap (with_settings c.args.names) (c.in_ok-placed.ensures ∙ ap with_outputs (c.in_ok-made.ensures ∙ ap with_made c.new.ensures.app)) in
    let parse = c.try_get_matches_from in
    parse_reads _ (trial_app c.args.names) _ parse.result same refl refl parse.ensures.kinds parse.ensures.matches
