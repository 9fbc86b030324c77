use Rattle.nine_search.proofs.alone.search_nine_alone.Given as goal

abbrev pub ghosts-nine_from : goal.ghosts-nine_from
ghosts-nine_from a = record { name = a.blank.name; parts = a.blank.parts }
