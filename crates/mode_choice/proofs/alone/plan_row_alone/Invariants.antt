use Rattle.mode_choice.proofs.alone.plan_row_alone.Given as goal

abbrev pub ghosts-plan_from : goal.ghosts-plan_from
ghosts-plan_from a = record { name = a.blank.name; parts = a.blank.parts }
