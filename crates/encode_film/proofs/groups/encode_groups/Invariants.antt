use Rattle.std.proofs.Common.{◌-◌, ◌≡◌, ◌≤◌}
use Rattle.spec_session.specs.Groups.{Place}
use Rattle.enc_session.specs.Sessions.{settings_of, state_of, place_of, slots_of, HasSlots, IsReady}
use Rattle.encode_film.proofs.Going.{Going}
use Rattle.encode_film.proofs.groups.encode_groups.Given as goal

abbrev pub invariant-loop-place : goal.invariant-loop-place
invariant-loop-place g l = record {
  going : Going l.head (settings_of l.fn.session) l.place l.number (g.S.Studio.seen l.fn.studio) (g.S.Studio.seen l.studio) (state_of l.session);
  settings : settings_of l.session ≡ settings_of l.fn.session;
  stands : (let p : Place = record { display = l.place; number = l.number } in place_of l.session ≡ p);
  ready : IsReady l.session;
  slots : HasSlots l.head (slots_of l.session);
  few : l.place ≤ 1000000;
  numbers : l.number ≤ 600;
}

abbrev pub decreases-loop-place : goal.decreases-loop-place
decreases-loop-place g l = 1000000 - l.place
