use Rattle.std.proofs.Common.{◌≡◌, ◌<◌, ◌++◌, ◌∷◌, ℤ, pos, List, [], get_or, length, refl, ap, sym, ◌∙◌, arith, w32}
use Rattle.std.proofs.lemmas.Int.{to_z-of_z}
use mir.Val.{SFits}
use Rattle.spec_lists.specs.Lists.{pictures_of}
use Rattle.spec_lists.specs.References.{Reference as Shown}
use Rattle.ref_lists.specs.declared.held.Reference.{Reference}
use Rattle.ref_lists.specs.Held.{seen, all_seen, natural}
use Rattle.ref_lists.proofs.Entering.{seen_here, place_at, no_entry}
use Rattle.picture_coder.proofs.Counts.{count_there, count_more}
use Rattle.picture_coder.proofs.filter.counts_at.Goals as goal

pub loop-k-init : goal.loop-k-init
loop-k-init c = (
  ap (λ (ns : List ℤ). length ns) c.new-counts.ensures,
  c.new-counts.ensures ∙ sym (ap (λ (zs : List Shown). pictures_of zs) (no_entry (all_seen c.args.held.now) [] refl)),
)

pub loop-k-preserved : goal.loop-k-preserved
loop-k-preserved c =
    let places = c.args.places.now in
    let k = c.loop-k.k in
    let r = c.index-held-place.result in
    let n : ℤ = c.count_of-count.result in
    let range : SFits w32 n = record { sfits = c.count_of-count.type_inv } in
    let less : get_or places k 0 < length c.args.held.now = place_at (length c.args.held.now) places k 0 c.requires.inside c.loop-k-test.true in
    let at = seen_here seen c.args.held.now (get_or places k 0) r c.index-held-place.is less in
    let there : r.poc ≡ pos (natural r.poc) =
    ap (λ (q : Reference). q.poc) c.index-held-place.is ∙ count_there c.args.held.now (get_or places k 0) r less c.requires.origin ∙ ap (λ (q : Reference). pos (natural q.poc)) (sym c.index-held-place.is) in
    let pushed = c.push.ensures.items ∙ ap (λ (z : ℤ). c.loop-k.counts.items ++ z ∷ []) (to_z-of_z w32 n range) in (
      omega (arith, c.push.ensures.len, c.loop-k.invariant.0),
      pushed ∙ count_more (all_seen c.args.held.now) places k (seen r) n c.loop-k.counts.items c.loop-k-test.true at (c.count_of-count.ensures ∙ there) c.loop-k.invariant.1,
    )
