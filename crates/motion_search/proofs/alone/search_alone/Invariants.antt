use Rattle.motion_search.proofs.alone.search_alone.Given as goal

abbrev pub ghosts-search_from : goal.ghosts-search_from
ghosts-search_from a = record { name = a.blank.name; parts = a.blank.parts }
