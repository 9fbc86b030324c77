use Rattle.spec_session.proofs.Ranges.{in_range}
use Rattle.spec_session.proofs.commands_give_settings_in_range.Goals as goal

pub returns : goal.returns
returns c = in_range
