use Rattle.std.proofs.Common.{◌*◌, ◌/◌, length, refl, sym, ◌∙◌, Err}
use Rattle.std.proofs.lemmas.Bool.{false≢true}
use Rattle.residual_coder.specs.Stripes.{planes_in}
use Rattle.picture_planes.specs.Pictures.{planes_of}
use Rattle.spec_headers.specs.HeadFields.{slice_head_bits}
use Rattle.spec_slice_payload.proofs.Layers.{layer_back}
use Rattle.ref_lists.specs.Named.{named}
use Rattle.slice_coder.specs.Plans.{place_of, format_of, task_of}
use Rattle.slice_coder.specs.Records.{coded, records_by}
use Rattle.slice_coder.proofs.Along.{records_long}
use Rattle.slice_coder.proofs.Heads.{head_says}
use Rattle.slice_coder.proofs.Shapes.{some_macroblocks, some_across}
use Rattle.slice_coder.proofs.Standing.{placed, pictures_of}
use Rattle.slice_coder.proofs.Layers.{is_slice}
use Rattle.slice_coder.proofs.Closing.{wrote, leaves_no_head, leaves_slice}
use Rattle.slice_coder.proofs.slice.code_slice.Goals as goal

pub write_slice_head-requires-clause-allowed : goal.write_slice_head-requires-clause-allowed
write_slice_head-requires-clause-allowed c = (head_says c.args.head.now.idr c.args.head.now c.requires.head).allowed

pub code_macroblocks-requires-clause-placed : goal.code_macroblocks-requires-clause-placed
code_macroblocks-requires-clause-placed c = placed (pictures_of c.args.lists c.args.source) c.args.head.now c.args.rows.0 c.args.rows.1 c.args.t8x8 c.requires.whole c.requires.rows.0 c.requires.rows.1 c.requires.head c.requires.first c.requires.lists

pub code_macroblocks-requires-clause-can_be : goal.code_macroblocks-requires-clause-can_be
code_macroblocks-requires-clause-can_be c = record { count = c.requires.row_plans; planned = c.requires.planned; greatest = c.requires.greatest }

pub code_macroblocks-requires-clause-samples : goal.code_macroblocks-requires-clause-samples
code_macroblocks-requires-clause-samples c = record { source = c.lemma_samples_fit.ensures; list0 = c.lemma_lists_fit.ensures.list0; list1 = c.lemma_lists_fit.ensures.list1 }

pub returns-then-is_err-clause-payload : goal.returns-then-is_err-clause-payload
returns-then-is_err-clause-payload c =
    leaves_no_head (Err record {}) c.write_slice_head.result (format_of c.args.source.now c.args.t8x8) (coded c.args.coarsest c.args.head.now (task_of (format_of c.args.source.now c.args.t8x8) c.args.head.now (named c.args.lists.now) (planes_of c.args.source.now) c.args.plans.now) (planes_in c.args.stripe.now) (length c.args.records.now))
    c.args.buf c.write_slice_head.new.out c.requires.empty c.write_slice_head.ensures (sym c.is_err.ensures.value ∙ c.if-is_err.true) refl

pub returns-then-is_err-clause-slice : goal.returns-then-is_err-clause-slice
returns-then-is_err-clause-slice c =
    is_slice c.args.coarsest (place_of c.args.source.now c.args.rows.0 c.args.rows.1 c.args.t8x8) c.args.head.now (pictures_of c.args.lists c.args.source) c.args.plans.now (planes_in c.args.stripe.now) (length c.args.records.now) (placed (pictures_of c.args.lists c.args.source) c.args.head.now c.args.rows.0 c.args.rows.1 c.args.t8x8 c.requires.whole c.requires.rows.0 c.requires.rows.1 c.requires.head c.requires.first c.requires.lists) (record { count = c.requires.row_plans; planned = c.requires.planned; greatest = c.requires.greatest }) (record { source = c.lemma_samples_fit.ensures; list0 = c.lemma_lists_fit.ensures.list0; list1 = c.lemma_lists_fit.ensures.list1 }) c.lemma_stripe_fits.ensures c.requires.records

pub returns-then-is_err-clause-read_back : goal.returns-then-is_err-clause-read_back
returns-then-is_err-clause-read_back c =
    λ held e. layer_back (format_of c.args.source.now c.args.t8x8) c.args.head.now.idr held (named c.args.lists.now) (coded c.args.coarsest c.args.head.now (task_of (format_of c.args.source.now c.args.t8x8) c.args.head.now (named c.args.lists.now) (planes_of c.args.source.now) c.args.plans.now) (planes_in c.args.stripe.now) (length c.args.records.now)) e (is_slice c.args.coarsest (place_of c.args.source.now c.args.rows.0 c.args.rows.1 c.args.t8x8) c.args.head.now (pictures_of c.args.lists c.args.source) c.args.plans.now (planes_in c.args.stripe.now) (length c.args.records.now) (placed (pictures_of c.args.lists c.args.source) c.args.head.now c.args.rows.0 c.args.rows.1 c.args.t8x8 c.requires.whole c.requires.rows.0 c.requires.rows.1 c.requires.head c.requires.first c.requires.lists) (record { count = c.requires.row_plans; planned = c.requires.planned; greatest = c.requires.greatest }) (record { source = c.lemma_samples_fit.ensures; list0 = c.lemma_lists_fit.ensures.list0; list1 = c.lemma_lists_fit.ensures.list1 }) c.lemma_stripe_fits.ensures c.requires.records)

pub returns-clause-slice : goal.returns-clause-slice
returns-clause-slice c =
    is_slice c.args.coarsest (place_of c.args.source.now c.args.rows.0 c.args.rows.1 c.args.t8x8) c.args.head.now (pictures_of c.args.lists c.args.source) c.args.plans.now (planes_in c.args.stripe.now) (length c.args.records.now) (placed (pictures_of c.args.lists c.args.source) c.args.head.now c.args.rows.0 c.args.rows.1 c.args.t8x8 c.requires.whole c.requires.rows.0 c.requires.rows.1 c.requires.head c.requires.first c.requires.lists) (record { count = c.requires.row_plans; planned = c.requires.planned; greatest = c.requires.greatest }) (record { source = c.lemma_samples_fit.ensures; list0 = c.lemma_lists_fit.ensures.list0; list1 = c.lemma_lists_fit.ensures.list1 }) c.lemma_stripe_fits.ensures c.requires.records

pub returns-clause-read_back : goal.returns-clause-read_back
returns-clause-read_back c =
    λ held e. layer_back (format_of c.args.source.now c.args.t8x8) c.args.head.now.idr held (named c.args.lists.now) (coded c.args.coarsest c.args.head.now (task_of (format_of c.args.source.now c.args.t8x8) c.args.head.now (named c.args.lists.now) (planes_of c.args.source.now) c.args.plans.now) (planes_in c.args.stripe.now) (length c.args.records.now)) e (is_slice c.args.coarsest (place_of c.args.source.now c.args.rows.0 c.args.rows.1 c.args.t8x8) c.args.head.now (pictures_of c.args.lists c.args.source) c.args.plans.now (planes_in c.args.stripe.now) (length c.args.records.now) (placed (pictures_of c.args.lists c.args.source) c.args.head.now c.args.rows.0 c.args.rows.1 c.args.t8x8 c.requires.whole c.requires.rows.0 c.requires.rows.1 c.requires.head c.requires.first c.requires.lists) (record { count = c.requires.row_plans; planned = c.requires.planned; greatest = c.requires.greatest }) (record { source = c.lemma_samples_fit.ensures; list0 = c.lemma_lists_fit.ensures.list0; list1 = c.lemma_lists_fit.ensures.list1 }) c.lemma_stripe_fits.ensures c.requires.records)

pub returns-clause-payload : goal.returns-clause-payload
returns-clause-payload c =
    leaves_slice c.close.result.0 (place_of c.args.source.now c.args.rows.0 c.args.rows.1 c.args.t8x8) (c.args.source.now.y.width / 16 * (c.args.source.now.y.height / 16)) c.args.head.now (length c.args.records.now) c.args.buf c.write_slice_head.new.out c.close.result.1 c.start-coder.result
    c.code_macroblocks.new.coder c.init-contexts.result.states c.code_macroblocks.new.contexts.states c.code_macroblocks.new.records (records_by c.args.coarsest (task_of (format_of c.args.source.now c.args.t8x8) c.args.head.now (named c.args.lists.now) (planes_of c.args.source.now) c.args.plans.now) (planes_in c.args.stripe.now) (length c.args.records.now))
    (some_macroblocks (length c.args.records.now) c.args.rows.0 c.args.rows.1 (c.args.source.now.y.width / 16) c.requires.records c.requires.rows.0 (some_across c.args.source.now c.requires.whole))
    (records_long c.args.coarsest (task_of (format_of c.args.source.now c.args.t8x8) c.args.head.now (named c.args.lists.now) (planes_of c.args.source.now) c.args.plans.now) (planes_in c.args.stripe.now) (length c.args.records.now))
    c.code_macroblocks.ensures.records c.start-coder.ensures c.init-contexts.ensures.states
    (wrote c.write_slice_head.result c.args.buf c.write_slice_head.new.out (slice_head_bits c.args.head.now) (λ bad. false≢true (sym c.if-is_err.false ∙ c.is_err.ensures.value ∙ bad)) c.write_slice_head.ensures)
    c.requires.empty c.code_macroblocks.ensures.opened c.close.ensures
