use Rattle.mode_choice.proofs.BothLists.{means_are}
use Rattle.mode_choice.proofs.both.means.Goals as goal

pub returns : goal.returns
returns c f g w h wide high a b = means_are f g w h c.args.first.now c.args.second.now _ wide high c.told-first c.told-second c.average.ensures a b
