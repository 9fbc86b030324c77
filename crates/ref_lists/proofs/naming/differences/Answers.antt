use Rattle.std.proofs.Common.{◌<◌, ℕ, List, [], get_or, length, map, refl, ap, sym, ◌∙◌, arith}
use Rattle.picture_planes.specs.Samples.{samples_of}
use Rattle.spec_lists.specs.Reordering.{difference}
use Rattle.spec_lists.specs.References.{Reference as Shown}
use Rattle.ref_lists.specs.declared.held.Reference.{Reference}
use Rattle.ref_lists.specs.Held.{seen, all_seen}
use Rattle.ref_lists.proofs.Entering.{seen_here, place_at, number_more, no_entry}
use Rattle.ref_lists.proofs.naming.differences.Goals as goal

pub loop-k-init : goal.loop-k-init
loop-k-init c = (
  ap (λ (ns : List ℕ). length ns) c.new-numbers.ensures,
  c.new-numbers.ensures ∙ sym (ap (λ (zs : List Shown). map (λ r. difference (samples_of c.args.source.now) r.planes.luma) zs) (no_entry (all_seen c.args.held.now) [] refl)),
)

pub loop-k-preserved : goal.loop-k-preserved
loop-k-preserved c =
    let places = c.args.places.now in
    let k = c.loop-k.k in
    let less : get_or places k 0 < length c.args.held.now = place_at (length c.args.held.now) places k 0 c.requires.inside c.loop-k-test.true in
    let at = seen_here seen c.args.held.now (get_or places k 0) c.index-held-place.result c.index-held-place.is less in (
      omega (arith, c.push.ensures.len, c.loop-k.invariant.0),
      c.push.ensures.items
          ∙ number_more (λ r. difference (samples_of c.args.source.now) r.planes.luma) (all_seen c.args.held.now) places k (seen c.index-held-place.result) c.difference_of.result c.loop-k.numbers.items c.loop-k-test.true at
          (c.difference_of.ensures ∙ ap (λ (r : Reference). difference (samples_of c.args.source.now) (samples_of r.picture.y)) (sym c.index-held-place.is)) c.loop-k.invariant.1,
    )
