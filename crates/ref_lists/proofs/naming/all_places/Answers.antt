use Rattle.std.proofs.Common.{◌∙◌, ℕ, List, length, map, ap, sym, subst, arith}
use Rattle.ref_lists.specs.Entries.{entries, ArePlaces}
use Rattle.ref_lists.proofs.Entering.{some_at, length-seen, no_entry, no_place, entered_all, one_place_more, whole_front}
use Rattle.ref_lists.proofs.naming.all_places.Goals as goal

pub loop-place-init : goal.loop-place-init
loop-place-init c = (
  ap (λ (ks : List ℕ). length ks) c.new-places.ensures,
  (λ seen. no_entry (map seen c.args.held.now) c.new-places.result.items c.new-places.ensures),
  no_place (length c.args.held.now) c.new-places.result.items c.new-places.ensures,
)

pub loop-place-preserved : goal.loop-place-preserved
loop-place-preserved c = (
  omega (arith, c.push.ensures.len, c.loop-place.invariant.0),
  (λ seen. let some = some_at seen c.args.held.now c.loop-place.place c.loop-place-test.true in
      ap (entries (map seen c.args.held.now)) c.push.ensures.items ∙ entered_all (map seen c.args.held.now) c.loop-place.places.items c.loop-place.place some.0 some.1 (c.loop-place.invariant.1 seen)),
  subst (ArePlaces (length c.args.held.now)) (sym c.push.ensures.items) (one_place_more (length c.args.held.now) c.loop-place.places.items c.loop-place.place c.loop-place.invariant.2 c.loop-place-test.true),
)

pub returns-clause-named : goal.returns-clause-named
returns-clause-named c seen =
    c.loop-place.invariant.1 seen ∙ whole_front (map seen c.args.held.now) c.loop-place.place (omega (arith, length-seen seen c.args.held.now, c.loop-place.auto.place-end, c.loop-place-test.false))
