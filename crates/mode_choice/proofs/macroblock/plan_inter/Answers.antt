use Rattle.mode_choice.proofs.Parting.{p_entries, b_entries}
use Rattle.mode_choice.proofs.macroblock.plan_inter.Goals as goal

pub plan_of_p-requires-clause-some : goal.plan_of_p-requires-clause-some
plan_of_p-requires-clause-some g c = p_entries c.args.kind _ _ c.in-P.is c.requires.entries

pub plan_of_b-requires-clause-some : goal.plan_of_b-requires-clause-some
plan_of_b-requires-clause-some g c = b_entries c.args.kind _ _ c.in-B.is c.requires.entries
