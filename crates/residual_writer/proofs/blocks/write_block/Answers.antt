use Rattle.std.proofs.Common.{length, ◌-◌}
use Rattle.bin_writer.proofs.Coding.{codes_then, codes_as}
use Rattle.residual_writer.proofs.Contexts.{coded_has}
use Rattle.residual_writer.proofs.Flags.{last_some}
use Rattle.residual_writer.proofs.Sizes.{block_some, block_none}
use Rattle.residual_writer.proofs.blocks.write_block.Goals as goal

pub code_bin-requires-clause-below : goal.code_bin-requires-clause-below
code_bin-requires-clause-below c = rw c.coded_context-context.ensures (coded_has c.args.category c.args.inc c.requires.inc).below

pub code_bin-requires-clause-has_state : goal.code_bin-requires-clause-has_state
code_bin-requires-clause-has_state c = rw c.coded_context-context.ensures (coded_has c.args.category c.args.inc c.requires.inc).other

pub code_bin-requires-in-Some-clause-below : goal.code_bin-requires-in-Some-clause-below
code_bin-requires-in-Some-clause-below c = rw c.coded_context-context.ensures (coded_has c.args.category c.args.inc c.requires.inc).below

pub code_bin-requires-in-Some-clause-has_state : goal.code_bin-requires-in-Some-clause-has_state
code_bin-requires-in-Some-clause-has_state c = rw c.coded_context-context.ensures (coded_has c.args.category c.args.inc c.requires.inc).other

pub returns-in-None : goal.returns-in-None
returns-in-None c =
    let ls = c.args.levels.now in
    codes_as (block_none c.args.category c.args.inc (length ls - 1) ls c.in-None.ensures) (rw c.coded_context-context.ensures at c.code_bin.ensures)

pub returns-in-Some : goal.returns-in-Some
returns-in-Some c =
    let ls = c.args.levels.now in
    codes_as (block_some c.args.category c.args.inc (length ls - 1) ls (last_some ls c.in-Some.last c.in-Some.ensures))
    (codes_then (rw c.coded_context-context.ensures at c.code_bin-in-Some.ensures) (codes_then c.code_significance.ensures c.code_levels.ensures))
