use Rattle.std.proofs.Common.{ap₂, refl, ◌∙◌, ◌≡◌}
use Rattle.clap.specs.Words.{app_of, with_rule}
use Rattle.spec_words.specs.Options.{store_app}
use Rattle.encode_words.proofs.Parsing.{parse_reads}
use Rattle.encode_words.proofs.options.store_matches.Goals as goal

pub returns : goal.returns
returns c =
    let first = c.in_ok-arg.ensures.shape c.text.ensures.local ∙ ap₂ with_rule c.new.ensures.app c.text.ensures.rule in
    let same : app_of c.in_ok-command.command ≡ store_app = c.in_ok-command.ensures.shape c.text-2.ensures.local ∙ ap₂ with_rule first c.text-2.ensures.rule in
    let parse = c.try_get_matches_from in
    parse_reads _ store_app _ parse.result same refl refl parse.ensures.kinds parse.ensures.matches
