use Rattle.std.proofs.Common.{◌≤◌, ◌*◌}
use Rattle.stored_picture.specs.Rooms.{payload_most, units_most}
use Rattle.y4m_film.specs.Sizes.{FitsHead}
use Rattle.store_film.proofs.Storing.{Going}
use Rattle.store_film.proofs.pictures.store_pictures.Given as goal

abbrev pub invariant-loop-number : goal.invariant-loop-number
invariant-loop-number g l = record {
  going : Going l.head l.number (g.S.Studio.seen l.fn.studio) (g.S.Studio.seen l.studio);
  sizes : FitsHead l.head l.picture;
  payload : 8 * payload_most l.head ≤ l.payload.room;
  units : 8 * units_most l.head ≤ l.units.room;
}
