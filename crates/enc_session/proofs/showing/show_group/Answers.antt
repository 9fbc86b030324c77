use Rattle.std.proofs.Common.{ℕ, zero, suc, ◌≡◌, ◌≤◌, map, refl, arith}
use Rattle.picture_planes.specs.Pictures.{planes_of}
use Rattle.enc_session.specs.Showing.{newest_planes}
use Rattle.enc_session.proofs.Shown.{both_shown}
use Rattle.enc_session.proofs.showing.show_group.Goals as goal

pub returns-in-Ok : goal.returns-in-Ok
returns-in-Ok g c =
    both_shown c.args.head.now (map planes_of c.args.slots.now) (newest_planes c.args.store.now) c.args.count
    (g.S.Studio.seen c.args.studio.now) (g.S.Studio.seen c.show_slots.new.studio) (g.S.Studio.seen c.show_newest.new.studio) c.show_newest.result
    (some c.args.count c.if-count-eq0.false) c.in-Ok.ensures c.show_newest.ensures
  where
    some : (n : ℕ) → (n ≡ 0 → ⊥) → 1 ≤ n
    some zero h = absurd (h refl)
    some (suc n) h = omega arith
