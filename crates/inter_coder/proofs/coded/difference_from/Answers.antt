use Rattle.std.proofs.Common.{ℕ, List, ap, ◌∙◌}
use Rattle.spec_basics.specs.Sums.{sad}
use Rattle.inter_coder.proofs.coded.difference_from.Goals as goal

pub returns : goal.returns
returns c = c.sad_rows.ensures ∙ ap (λ (xs : List ℕ). sad xs c.args.prediction.now) c.read_block.ensures
