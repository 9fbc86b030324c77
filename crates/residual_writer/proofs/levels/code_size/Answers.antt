use Rattle.bin_writer.proofs.Coding.{codes_then, codes_as, codes_plainly}
use Rattle.mb_binarise.proofs.Strings.{minus1_zero, minus1_small, minus1_large}
use Rattle.std.proofs.Common.{arith}
use Rattle.spec_syntax.specs.Levels.{first_at, others_at}
use Rattle.residual_writer.proofs.Contexts.{first_has, others_has}
use Rattle.residual_writer.proofs.levels.code_size.Goals as goal

pub code_bin-requires-clause-below : goal.code_bin-requires-clause-below
code_bin-requires-clause-below c = rw c.first_context-first.ensures (first_has c.args.category c.args.above c.args.ones).below

pub code_bin-requires-clause-has_state : goal.code_bin-requires-clause-has_state
code_bin-requires-clause-has_state c = rw c.first_context-first.ensures (first_has c.args.category c.args.above c.args.ones).other

pub code_bin-requires-2-clause-below : goal.code_bin-requires-2-clause-below
code_bin-requires-2-clause-below c = rw c.first_context-first.ensures (first_has c.args.category c.args.above c.args.ones).below

pub code_bin-requires-2-clause-has_state : goal.code_bin-requires-2-clause-has_state
code_bin-requires-2-clause-has_state c = rw c.first_context-first.ensures (first_has c.args.category c.args.above c.args.ones).other

pub code_ones-requires-clause-below : goal.code_ones-requires-clause-below
code_ones-requires-clause-below c = rw c.others_context.ensures (others_has c.args.category c.args.above).below

pub code_ones-requires-clause-has_state : goal.code_ones-requires-clause-has_state
code_ones-requires-clause-has_state c = rw c.others_context.ensures (others_has c.args.category c.args.above).other

pub returns-then-minus1-eq0 : goal.returns-then-minus1-eq0
returns-then-minus1-eq0 c = rw (c.if-minus1-eq0.true) (codes_as (minus1_zero (first_at c.args.category c.args.above c.args.ones) (others_at c.args.category c.args.above)) (rw c.first_context-first.ensures at c.code_bin.ensures))

pub returns-then-minus1-gt13 : goal.returns-then-minus1-gt13
returns-then-minus1-gt13 c =
    codes_as (minus1_large (first_at c.args.category c.args.above c.args.ones) (others_at c.args.category c.args.above) c.args.minus1 (omega arith))
    (codes_then (rw c.first_context-first.ensures at c.code_bin-2.ensures) (codes_then (rw c.others_context.ensures at c.code_ones.ensures) (codes_plainly c.code_ones.ensures.ready c.code_golomb.ensures)))

pub returns-else-minus1-gt13 : goal.returns-else-minus1-gt13
returns-else-minus1-gt13 c =
    codes_as (minus1_small (first_at c.args.category c.args.above c.args.ones) (others_at c.args.category c.args.above) c.args.minus1 (omega arith) (omega arith))
    (codes_then (rw c.first_context-first.ensures at c.code_bin-2.ensures) (rw c.others_context.ensures at c.code_ones.ensures))
