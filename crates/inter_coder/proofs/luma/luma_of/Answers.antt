use Rattle.std.proofs.Common.{◌+◌, ℕ, negsuc, List, length, get_or, sym, subst, arith}
use Rattle.enc_tables.specs.declared.records.Vector.{Vector}
use Rattle.spec_partitions.specs.Records.{RefFits}
use Rattle.subpel_filter.specs.Predicted.{IsShort, luma_at}
use Rattle.ref_lists.specs.Entries.{ArePlaces}
use Rattle.inter_coder.specs.Given.{wide_of, tall_of, sources_in, luma_sample, predicted_in}
use Rattle.inter_coder.proofs.Naming.{list_fits, list_inside, list_short}
use Rattle.inter_coder.proofs.Predicting.{rows_same, short_is}
use Rattle.inter_coder.proofs.Sampling.{named_there, luma_there}
use Rattle.inter_coder.proofs.luma.luma_of.Goals as goal

pub reference_at-reference-requires-clause-inside : goal.reference_at-reference-requires-clause-inside
reference_at-reference-requires-clause-inside c =
    subst (λ (ps : List ℕ). ArePlaces (length c.args.pictures.now.lists.now.held.now) ps) (sym c.places_of.ensures) (list_inside c.args.pictures.now c.args.list c.requires.lent)

pub reference_at-reference-requires-clause-fits : goal.reference_at-reference-requires-clause-fits
reference_at-reference-requires-clause-fits c =
    subst (λ (ps : List ℕ). RefFits (length ps) (get_or c.args.motion.now.refs c.args.list (negsuc 0))) (sym c.places_of.ensures) (list_fits c.args.pictures.now c.args.motion.now c.args.list c.requires.list c.requires.fits)

pub luma_from-requires-clause-margin : goal.luma_from-requires-clause-margin
luma_from-requires-clause-margin c = (c.reference_at-reference.ensures.ready (wide_of c.args.pictures.now) (tall_of c.args.pictures.now) c.requires.lent.held).0.luma.2

pub luma_from-requires-clause-filled : goal.luma_from-requires-clause-filled
luma_from-requires-clause-filled c = (c.reference_at-reference.ensures.ready (wide_of c.args.pictures.now) (tall_of c.args.pictures.now) c.requires.lent.held).1.filled.0

pub luma_from-requires-clause-sizes : goal.luma_from-requires-clause-sizes
luma_from-requires-clause-sizes c = (c.reference_at-reference.ensures.ready (wide_of c.args.pictures.now) (tall_of c.args.pictures.now) c.requires.lent.held).0.halves

pub luma_from-requires-clause-inside : goal.luma_from-requires-clause-inside
luma_from-requires-clause-inside c =
    let made = (c.reference_at-reference.ensures.ready (wide_of c.args.pictures.now) (tall_of c.args.pictures.now) c.requires.lent.held).0.luma in
    (omega (arith, c.requires.inside.0, made.0), omega (arith, c.requires.inside.1, made.1))

pub luma_from-requires-clause-short : goal.luma_from-requires-clause-short
luma_from-requires-clause-short c =
    subst (λ (v : Vector). IsShort v) (sym c.vector_at-vector.ensures) (short_is _ (list_short c.args.motion.now c.args.list c.requires.list c.requires.used c.requires.short))

pub returns : goal.returns
returns c =
    let p = c.args.pictures.now in
    let m = c.args.motion.now in
    let r = c.reference_at-reference.result.now in
    let v = c.vector_at-vector.result in
    let ready = c.reference_at-reference.ensures.ready (wide_of p) (tall_of p) c.requires.lent.held in
    let there = named_there p c.args.list c.places_of.result.now (get_or m.refs c.args.list (negsuc 0)) _ c.places_of.ensures c.reference_at-reference.ensures.planes in
    rows_same (luma_at r.picture.y c.args.x c.args.y v) (λ i j. predicted_in (luma_sample (wide_of p) (c.args.x + i) (c.args.y + j)) (sources_in p) c.args.list m) c.args.side c.args.side _
    (λ i j. luma_there r.picture (wide_of p) (c.args.x + i) (c.args.y + j) c.args.list (sources_in p) m v ready.0.luma.0 there c.vector_at-vector.ensures)
    (c.luma_from.ensures.same ready.1.halves)
