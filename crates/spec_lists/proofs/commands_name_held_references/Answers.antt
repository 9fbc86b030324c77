use Rattle.spec_lists.proofs.Moved.{command_found}
use Rattle.spec_lists.proofs.commands_name_held_references.Goals as goal

pub returns : goal.returns
returns c = λ frame_num difference source held small low moved. let found = command_found frame_num difference source held small low moved in (found.one, found.first)
