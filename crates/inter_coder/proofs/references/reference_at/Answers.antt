use Rattle.std.proofs.Common.{ℕ, ℤ, length, map, get_or, refl, sym, ap, ◌∙◌}
use Rattle.spec_reconstruction.specs.Inter.{source_at}
use Rattle.ref_lists.specs.Entries.{entries}
use Rattle.ref_lists.specs.Held.{all_seen, IsMade, IsReady}
use Rattle.ref_lists.proofs.Entering.{place_at, holds_here}
use Rattle.inter_coder.proofs.Naming.{one_named, index_below}
use Rattle.inter_coder.proofs.references.reference_at.Goals as goal

pub returns-clause-planes : goal.returns-clause-planes
returns-clause-planes c =
    let held = c.args.held.now in
    let places = c.args.places.now in
    let i : ℕ = c.index_of-index.result in
    let less = index_below (length places) i _ c.index_of-index.ensures c.requires.fits in
    ap (λ (z : ℤ). source_at (map (λ r. r.planes) (entries (all_seen held) places)) z) (sym c.index_of-index.ensures)
    ∙ one_named held places i (get_or places i 0) c.index-held-place.result c.requires.inside less refl (place_at (length held) places i 0 c.requires.inside less) c.index-held-place.is

pub returns-clause-ready : goal.returns-clause-ready
returns-clause-ready c width height lent =
    let held = c.args.held.now in
    let places = c.args.places.now in
    let i : ℕ = c.index_of-index.result in
    let less = index_below (length places) i _ c.index_of-index.ensures c.requires.fits in
    let there = place_at (length held) places i 0 c.requires.inside less in (
      holds_here (IsMade width height) held (get_or places i 0) c.index-held-place.result c.index-held-place.is lent.made there,
      holds_here IsReady held (get_or places i 0) c.index-held-place.result c.index-held-place.is lent.ready there,
    )
