use Rattle.std.proofs.Common.{◌≡◌}
use Rattle.enc_session.specs.Sessions.{HasSlots, slots_of}
use Rattle.encode_film.proofs.Loading.{Loaded}
use Rattle.encode_film.proofs.reading.read_group.Given as goal

abbrev pub invariant-loop-got : goal.invariant-loop-got
invariant-loop-got g l = record {
  engine : l.session.engine ≡ l.fn.session.engine;
  slots : HasSlots l.head (slots_of l.session);
  loaded : Loaded l.head l.place l.got (slots_of l.session) (g.S.Studio.seen l.fn.studio) (g.S.Studio.seen l.studio);
}
