use Rattle.std.proofs.Common.{length, ◌-◌, map, drop}
use Rattle.spec_syntax.specs.Blocks.{nonzero, significance_string}
use Rattle.bin_writer.specs.Coding.{seen}
use Rattle.bin_writer.proofs.Coding.{Leads}
use Rattle.residual_writer.proofs.significance.code_significance.Given as goal

abbrev pub invariant-loop-place : goal.invariant-loop-place
invariant-loop-place l =
    Leads (seen l.fn.coder l.fn.contexts) (significance_string l.category 0 (length l.levels - 1) (map nonzero l.levels))
    (seen l.coder l.contexts) (significance_string l.category l.place (length l.levels - 1 - l.place) (map nonzero (drop l.place l.levels)))
