use Rattle.std.proofs.Common.{ap, ◌∙◌, []}
use Rattle.std.specs.Prelude.{Option, unwrap_or}
use Rattle.clap.specs.Words.{Text, found_of}
use Rattle.clap.proofs.WalkLemmas.{first_value-rows}
use Rattle.spec_words.specs.Choices.{text_of}
use Rattle.encode_words.proofs.Parsing.{text_is}
use Rattle.encode_words.proofs.values.text_of.Goals as goal

pub returns : goal.returns
unfolding text_of
returns c =
    ap (λ b. b.now) c.unwrap_or.ensures ∙ text_is c.get_str.result _
    ∙ ap (λ (o : Option Text). unwrap_or o []) (c.get_str.ensures ∙ first_value-rows (found_of c.args.matches.now) c.args.id.now)
