use Rattle.std.proofs.Common.{◌≡◌, ◌<◌, ◌+◌, ◌-◌, ◌∷◌, ◌∙◌, length, take, min, ap, sym, subst, arith}
use Rattle.std.specs.List.{AllByRecursion}
use Rattle.ref_lists.specs.Held.{seen, IsMade, IsReady}
use Rattle.ref_lists.proofs.Entering.{holds_at}
use Rattle.ref_lists.proofs.Storing.{all_taken, front_is, room_is, slid_is, order_is, all_is, counts_are}
use Rattle.ref_lists.proofs.store.RefStore.slide.Goals as goal

pub invariant_of-self : goal.invariant_of-self
invariant_of-self c =
    let s = c.args.self.now in
    let places = s.places.items in
    let new = c.make_ready.new.self in
    let items = c.turn.new.places.items in
    let turned : items ≡ new ∷ take (length places - 1) places = c.turn.ensures.places in
    let count : c.min-self.result ≡ min (s.count + 1) (length places) = c.min-self.ensures ∙ ap (min (s.count + 1)) (c.len-places.ensures ∙ s.places.ok.0) in
    let front = front_is s.count c.min-self.result new places items turned count s.room.0 s.room.2 in
    let room = room_is s.count c.min-self.result new places items turned count s.room.0 in record {
      room = (omega (arith, room.0, s.room.0), omega (arith, room.0, s.room.1), room.1);
      made = subst (AllByRecursion (IsMade s.width s.height)) (sym turned) (c.make_ready.ensures.made s.width s.height c.requires.made, all_taken (IsMade s.width s.height) (length places - 1) places s.made);
      ready = all_is IsReady (length places) s.count new places (take c.min-self.result items) front c.make_ready.ensures.ready s.ready;
      order =
          order_is (length places) s.count c.args.new.now.frame_num c.args.new.now.poc new places (take c.min-self.result items) front s.order c.make_ready.ensures.frame_num c.requires.frame_num c.make_ready.ensures.poc c.requires.poc;
    }

pub returns-clause-held : goal.returns-clause-held
returns-clause-held c =
    let s = c.args.self.now in
    let places = s.places.items in
    let new = c.make_ready.new.self in
    let items = c.turn.new.places.items in
    let count : c.min-self.result ≡ min (s.count + 1) (length places) = c.min-self.ensures ∙ ap (min (s.count + 1)) (c.len-places.ensures ∙ s.places.ok.0) in
    let front = front_is s.count c.min-self.result new places items c.turn.ensures.places count s.room.0 s.room.2 in
    slid_is (length places) s.count new (seen c.args.new.now) places (take c.min-self.result items) front c.make_ready.ensures.seen

pub returns-clause-counts : goal.returns-clause-counts
returns-clause-counts c =
    let s = c.args.self.now in
    let places = s.places.items in
    let new = c.make_ready.new.self in
    let items = c.turn.new.places.items in
    let count : c.min-self.result ≡ min (s.count + 1) (length places) = c.min-self.ensures ∙ ap (min (s.count + 1)) (c.len-places.ensures ∙ s.places.ok.0) in
    let front = front_is s.count c.min-self.result new places items c.turn.ensures.places count s.room.0 s.room.2 in
    counts_are (length places) s.count new places (take c.min-self.result items) c.args.new.now.poc front c.make_ready.ensures.poc

pub returns-clause-back : goal.returns-clause-back
returns-clause-back c =
    let s = c.args.self.now in
    let places = s.places.items in
    let less : length places - 1 < length places = omega (arith, s.room.0) in
    subst (IsMade s.width s.height) (sym (c.turn.ensures.back c.args.new.now)) (holds_at (IsMade s.width s.height) places (length places - 1) c.args.new.now s.made less)
