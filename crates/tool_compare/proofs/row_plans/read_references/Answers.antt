use Rattle.std.proofs.Common.{ℕ, ℤ, ◌≤◌, ◌+◌, ◌*◌, pos, sym, ap, subst, ◌∙◌, arith}
use Rattle.std.specs.Prelude.{◌<ℤ◌}
use Rattle.std.proofs.lemmas.Int.{ints}
use Rattle.ref_lists.specs.Held.{seen}
use Rattle.ref_lists.specs.Stored.{held_of, places_of, references_of, order_counts}
use Rattle.tool_compare.proofs.Holding.{none_numbered, none_shown, next_numbered, next_shown}
use Rattle.tool_compare.proofs.row_plans.read_references.Goals as goal

pub loop-number-init : goal.loop-number-init
loop-number-init c = record {
  width = c.in_ok-store.ensures.size.0;
  height = c.in_ok-store.ensures.size.1;
  places = c.in_ok-store.ensures.size.2;
  numbered = none_numbered 0 (held_of c.in_ok-store.store) c.in_ok-store.ensures.nothing;
  shown = none_shown (pos 0) (references_of c.in_ok-store.store) c.in_ok-store.ensures.nothing;
}

pub loop-number-preserved : goal.loop-number-preserved
loop-number-preserved c =
    let n : ℕ = c.loop-number.number in
    let some : 1 ≤ places_of c.loop-number.store = omega (arith, c.loop-number.invariant.places, c.requires.count) in
    let below : pos (2 * n) <ℤ pos (2 * (n + 1)) = omega (arith, ints) in
    record {
      width = c.slide.ensures.size.0 ∙ c.loop-number.invariant.width;
      height = c.slide.ensures.size.1 ∙ c.loop-number.invariant.height;
      places = c.slide.ensures.size.2 ∙ c.loop-number.invariant.places;
      numbered =
          next_numbered (n + 1) (seen c.in_ok-reference.reference) (places_of c.loop-number.store) (held_of c.loop-number.store) (held_of c.slide.new.self) c.slide.ensures.held some
          (ap (λ (k : ℕ). k + 1) (sym c.in_ok-reference.ensures.frame_num));
      shown =
          next_shown (pos (2 * (n + 1))) c.in_ok-reference.reference.poc (places_of c.loop-number.store) (order_counts (references_of c.loop-number.store)) (order_counts (references_of c.slide.new.self)) c.slide.ensures.counts some
          (subst (λ (q : ℤ). q <ℤ pos (2 * (n + 1))) (sym c.in_ok-reference.ensures.poc) below);
    }
