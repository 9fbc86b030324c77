use Rattle.std.proofs.Common.{◌+◌, ◌/◌, ℕ, negsuc, List, length, get_or, sym, subst, arith}
use Rattle.enc_tables.specs.declared.records.Vector.{Vector}
use Rattle.spec_partitions.specs.Records.{RefFits}
use Rattle.subpel_filter.specs.Predicted.{IsShort, chroma_at}
use Rattle.ref_lists.specs.Entries.{ArePlaces}
use Rattle.inter_coder.specs.Given.{wide_of, tall_of, sources_in, chroma_sample, component, predicted_in}
use Rattle.inter_coder.proofs.Naming.{list_fits, list_inside, list_short}
use Rattle.inter_coder.proofs.Predicting.{rows_same, short_is}
use Rattle.inter_coder.proofs.Sampling.{named_there, chroma_there, is_half}
use Rattle.inter_coder.proofs.chroma.chroma_of.Goals as goal

pub reference_at-reference-requires-clause-inside : goal.reference_at-reference-requires-clause-inside
reference_at-reference-requires-clause-inside c =
    subst (λ (ps : List ℕ). ArePlaces (length c.args.pictures.now.lists.now.held.now) ps) (sym c.places_of.ensures) (list_inside c.args.pictures.now c.args.list c.requires.lent)

pub reference_at-reference-requires-clause-fits : goal.reference_at-reference-requires-clause-fits
reference_at-reference-requires-clause-fits c =
    subst (λ (ps : List ℕ). RefFits (length ps) (get_or c.args.motion.now.refs c.args.list (negsuc 0))) (sym c.places_of.ensures) (list_fits c.args.pictures.now c.args.motion.now c.args.list c.requires.list c.requires.fits)

pub chroma_block-requires-clause-margin : goal.chroma_block-requires-clause-margin
chroma_block-requires-clause-margin c =
    let ready = c.reference_at-reference.ensures.ready (wide_of c.args.pictures.now) (tall_of c.args.pictures.now) c.requires.lent.held in
    (is_half _ _ c.reference_at-reference.result.now c.args.number c.plane.result.now c.requires.number.0 c.plane.ensures ready.0 ready.1).pad

pub chroma_block-requires-clause-filled : goal.chroma_block-requires-clause-filled
chroma_block-requires-clause-filled c =
    let ready = c.reference_at-reference.ensures.ready (wide_of c.args.pictures.now) (tall_of c.args.pictures.now) c.requires.lent.held in
    (is_half _ _ c.reference_at-reference.result.now c.args.number c.plane.result.now c.requires.number.0 c.plane.ensures ready.0 ready.1).filled

pub chroma_block-requires-clause-inside : goal.chroma_block-requires-clause-inside
chroma_block-requires-clause-inside c =
    let ready = c.reference_at-reference.ensures.ready (wide_of c.args.pictures.now) (tall_of c.args.pictures.now) c.requires.lent.held in
    let half = is_half _ _ c.reference_at-reference.result.now c.args.number c.plane.result.now c.requires.number.0 c.plane.ensures ready.0 ready.1 in
    (omega (arith, c.requires.inside.0, half.width), omega (arith, c.requires.inside.1, half.height))

pub chroma_block-requires-clause-short : goal.chroma_block-requires-clause-short
chroma_block-requires-clause-short c =
    subst (λ (v : Vector). IsShort v) (sym c.vector_at-vector.ensures) (short_is _ (list_short c.args.motion.now c.args.list c.requires.list c.requires.used c.requires.short))

pub returns : goal.returns
returns c =
    let p = c.args.pictures.now in
    let m = c.args.motion.now in
    let r = c.reference_at-reference.result.now in
    let q = c.plane.result.now in
    let v = c.vector_at-vector.result in
    let ready = c.reference_at-reference.ensures.ready (wide_of p) (tall_of p) c.requires.lent.held in
    let half = is_half _ _ r c.args.number q c.requires.number.0 c.plane.ensures ready.0 ready.1 in
    let there = named_there p c.args.list c.places_of.result.now (get_or m.refs c.args.list (negsuc 0)) _ c.places_of.ensures c.reference_at-reference.ensures.planes in
    rows_same (chroma_at q c.args.x c.args.y v) (λ i j. predicted_in (chroma_sample (component c.args.number) (wide_of p / 2) (c.args.x + i) (c.args.y + j)) (sources_in p) c.args.list m) c.args.side c.args.side _
    (λ i j. chroma_there r.picture (wide_of p) (c.args.x + i) (c.args.y + j) c.args.list (sources_in p) m v c.args.number q c.requires.number.0 c.plane.ensures half.width there c.vector_at-vector.ensures)
    c.chroma_block.ensures
