use Rattle.std.proofs.Common.{ap, ap₂, refl, ◌∙◌, ◌≡◌}
use Rattle.clap.specs.Words.{app_of, with_rule}
use Rattle.spec_words.specs.Options.{encode_app, with_outputs, with_settings}
use Rattle.encode_words.proofs.Parsing.{parse_reads}
use Rattle.encode_words.proofs.options.encode_by.Goals as goal

pub returns : goal.returns
returns c =
    let named = c.in_ok-named.ensures.shape c.text.ensures.local ∙ ap₂ with_rule c.new.ensures.app c.text.ensures.rule in
    let same : app_of c.in_ok-command.command ≡ encode_app c.args.names =
    c.in_ok-command.ensures ∙ ap (with_settings c.args.names) (c.in_ok-placed.ensures ∙ ap with_outputs named) in
    let parse = c.try_get_matches_from in
    parse_reads _ (encode_app c.args.names) _ parse.result same refl refl parse.ensures.kinds parse.ensures.matches
