use Rattle.std.proofs.Common.{◌≤ℤ◌, ◌-ℤ◌, ◌∙◌, ℕ, List, length, ap, sym, subst, arith}
use Rattle.std.specs.Prelude.{nat_lt}
use Rattle.ref_lists.specs.Held.{natural, ranked, seen_from, all_seen_from}
use Rattle.ref_lists.specs.Entries.{entries, ArePlaces}
use Rattle.ref_lists.proofs.Entering.{seen_here, holds_here, length-seen, no_entry, no_place, entered_by, place_by, filter_whole}
use Rattle.ref_lists.proofs.naming.earlier.Goals as goal

pub loop-k-init : goal.loop-k-init
loop-k-init c = (
  omega (arith, ap (λ (ks : List ℕ). length ks) c.new-places.ensures),
  (λ origin low. no_entry (all_seen_from origin c.args.held.now) c.new-places.result.items c.new-places.ensures),
  no_place (length c.args.held.now) c.new-places.result.items c.new-places.ensures,
)

pub loop-k-preserved : goal.loop-k-preserved
loop-k-preserved c = (
  omega (arith, c.enter.ensures.len, c.loop-k.invariant.0),
  (λ origin low.
      let held = all_seen_from origin c.args.held.now in
      let r = c.index-held-k.result in
      let at = seen_here (seen_from origin) c.args.held.now c.loop-k.k r c.index-held-k.is c.loop-k-test.true in
      let under = holds_here (λ q. origin ≤ℤ q.poc) c.args.held.now c.loop-k.k r c.index-held-k.is low.1 c.loop-k-test.true in
      ap (entries held) c.enter.ensures.items
      ∙ entered_by (λ q. nat_lt q.poc (natural (ranked c.args.rank -ℤ origin))) held c.loop-k.places.items c.loop-k.k (seen_from origin r) c.is_before-there.result at (sym (c.is_before-there.ensures origin under low.0)) (c.loop-k.invariant.1 origin low)),
  subst (ArePlaces (length c.args.held.now)) (sym c.enter.ensures.items) (place_by (length c.args.held.now) c.loop-k.places.items c.loop-k.k c.is_before-there.result c.loop-k.invariant.2 c.loop-k-test.true),
)

pub returns-clause-named : goal.returns-clause-named
returns-clause-named c origin low =
    c.loop-k.invariant.1 origin low
    ∙ filter_whole (λ r. nat_lt r.poc (natural (ranked c.args.rank -ℤ origin))) (all_seen_from origin c.args.held.now) c.loop-k.k (omega (arith, length-seen (seen_from origin) c.args.held.now, c.loop-k.auto.k-end, c.loop-k-test.false))
