use Rattle.residual_writer.proofs.Contexts.{significant_has}
use Rattle.residual_writer.proofs.significance.code_significant.Goals as goal

pub code_bin-requires-clause-below : goal.code_bin-requires-clause-below
code_bin-requires-clause-below c = rw c.significant_context.ensures (significant_has c.args.category c.args.place c.requires.place).below

pub code_bin-requires-clause-has_state : goal.code_bin-requires-clause-has_state
code_bin-requires-clause-has_state c = rw c.significant_context.ensures (significant_has c.args.category c.args.place c.requires.place).other
