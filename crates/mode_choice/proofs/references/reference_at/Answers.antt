use Rattle.std.proofs.Common.{ℕ, length, get_or, refl}
use Rattle.ref_lists.specs.Held.{IsMade, IsReady}
use Rattle.ref_lists.proofs.Entering.{place_at, holds_here}
use Rattle.mode_choice.proofs.Naming.{picture_is}
use Rattle.mode_choice.proofs.references.reference_at.Goals as goal

pub returns-clause-planes : goal.returns-clause-planes
returns-clause-planes c =
    let held = c.args.held.now in
    let places = c.args.places.now in
    let i : ℕ = c.args.number in
    picture_is held places i (get_or places i 0) c.index-held-place.result c.requires.inside c.requires.number refl (place_at (length held) places i 0 c.requires.inside c.requires.number) c.index-held-place.is

pub returns-clause-made : goal.returns-clause-made
returns-clause-made c width height lent =
    let held = c.args.held.now in
    let places = c.args.places.now in
    let i : ℕ = c.args.number in
    let there = place_at (length held) places i 0 c.requires.inside c.requires.number in
    holds_here (IsMade width height) held (get_or places i 0) c.index-held-place.result c.index-held-place.is lent.made there

pub returns-clause-ready : goal.returns-clause-ready
returns-clause-ready c width height lent =
    let held = c.args.held.now in
    let places = c.args.places.now in
    let i : ℕ = c.args.number in
    let there = place_at (length held) places i 0 c.requires.inside c.requires.number in
    holds_here IsReady held (get_or places i 0) c.index-held-place.result c.index-held-place.is lent.ready there
