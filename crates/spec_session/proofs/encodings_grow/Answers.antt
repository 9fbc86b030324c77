use Rattle.spec_session.proofs.Grouping.{last_group, place_behind_all}
use Rattle.spec_session.proofs.Growing.{grows, grows_so, outputs_grow}
use Rattle.spec_session.proofs.encodings_grow.Goals as goal

pub returns : goal.returns
returns c = record { on = grows; behind = grows_so; written = outputs_grow; group = last_group; place = place_behind_all }
