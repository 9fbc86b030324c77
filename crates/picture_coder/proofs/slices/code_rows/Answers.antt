use Rattle.std.proofs.Common.{rules, ◌≤◌, ◌-◌, ◌*◌, ◌/◌, ℕ, List, Bool, length, take, drop, sym, ap, subst, ◌∙◌, arith}
use Rattle.std.proofs.lemmas.List.{length-take-le, length-drop}
use Rattle.picture_planes.specs.declared.picture.Picture.{Picture}
use Rattle.picture_planes.specs.Pictures.{planes_of}
use Rattle.enc_tables.specs.declared.plans.RowPlan.{RowPlan}
use Rattle.spec_film.specs.Films.{Planes}
use Rattle.spec_lists.specs.Colocated.{colocated_at}
use Rattle.spec_slice_payload.specs.Layer.{Slice}
use Rattle.spec_slice_payload.specs.Writing.{layer_bits}
use Rattle.spec_tasks.specs.Choosing.{sources_of}
use Rattle.residual_coder.specs.Stripes.{planes_in}
use Rattle.spec_reconstruction.specs.Records.{slice_built}
use Rattle.ref_lists.specs.Held.{AreHeld}
use Rattle.ref_lists.specs.Named.{named}
use Rattle.slice_coder.specs.Left.{Leaves}
use Rattle.slice_coder.specs.Plans.{format_of, task_of}
use Rattle.slice_coder.specs.Records.{records_by, coded}
use Rattle.bit_strings.specs.declared.bit_buf.Full.{Full}
use Rattle.picture_coder.specs.Pictures.{format_for, slice_at}
use Rattle.picture_coder.proofs.Sizes.{both_ok, source_coding, sixteenth}
use Rattle.picture_coder.proofs.SliceRows.{lent, first_small, given_slice, slice_planned, slice_is, bits_are, slice_coded, all_small}
use Rattle.picture_coder.proofs.WholeStripes.{planes_are, planes_whole, has_rows, whole_picture}
use Rattle.picture_coder.proofs.slices.code_rows.Goals as goal

pub head_at-head-requires-clause-first : goal.head_at-head-requires-clause-first
head_at-head-requires-clause-first c = first_small c.rows_of-rows.result.0 c.args.coding.now.across (omega (arith, c.rows_of-rows.ensures.some, c.rows_of-rows.ensures.within, c.requires.coding.down_fits)) c.requires.coding.across_fits

pub code_slice-requires-clause-whole : goal.code_slice-requires-clause-whole
code_slice-requires-clause-whole c = whole_picture c.args.coding.now c.args.job.now c.args.job.now.source.now (source_coding c.args.coding.now c.args.job.now c.args.picture.now c.requires.coding)

pub code_slice-requires-clause-wide : goal.code_slice-requires-clause-wide
code_slice-requires-clause-wide c =
    let is = source_coding c.args.coding.now c.args.job.now c.args.picture.now c.requires.coding in
    ap (λ (p : Picture). p.y.width) c.stripe.ensures.picture ∙ c.requires.coding.wide ∙ sym is.wide

pub code_slice-requires-clause-rows : goal.code_slice-requires-clause-rows
code_slice-requires-clause-rows c =
    let is = source_coding c.args.coding.now c.args.job.now c.args.picture.now c.requires.coding in
    (c.rows_of-rows.ensures.some, omega (arith, is.high, c.rows_of-rows.ensures.within))

pub code_slice-requires-clause-holds : goal.code_slice-requires-clause-holds
code_slice-requires-clause-holds c =
    has_rows c.stripe.result c.args.picture.now c.args.coding.now c.rows_of-rows.result.0 c.rows_of-rows.result.1 c.stripe.ensures.first c.stripe.ensures.picture c.requires.coding.high c.rows_of-rows.ensures.within

pub code_slice-requires-clause-first : goal.code_slice-requires-clause-first
code_slice-requires-clause-first c =
    let is = source_coding c.args.coding.now c.args.job.now c.args.picture.now c.requires.coding in
    c.head_at-head.ensures.first ∙ ap (λ (a : ℕ). c.rows_of-rows.result.0 * a) (sym (sixteenth c.args.job.now.source.now.y.width c.args.coding.now.across is.wide))

pub code_slice-requires-clause-lists : goal.code_slice-requires-clause-lists
code_slice-requires-clause-lists c =
    let is = source_coding c.args.coding.now c.args.job.now c.args.picture.now c.requires.coding in
    record {
      held =
          subst (λ (w : ℕ). AreHeld w c.args.job.now.source.now.y.height c.args.job.now.lists.now.held.now) (sym is.wide)
          (subst (λ (h : ℕ). AreHeld (16 * c.args.coding.now.across) h c.args.job.now.lists.now.held.now) (sym is.high) c.requires.coding.job.held);
      first = c.requires.coding.job.first;
      second = c.requires.coding.job.second;
      count0 = c.head_at-head.ensures.count0;
      count1 = c.head_at-head.ensures.count1;
    }

pub code_slice-requires-clause-row_plans : goal.code_slice-requires-clause-row_plans
code_slice-requires-clause-row_plans c chosen =
    let rest = length-drop c.rows_of-rows.result.0 c.args.plans.now in
    length-take-le (c.rows_of-rows.result.1 - c.rows_of-rows.result.0) (drop c.rows_of-rows.result.0 c.args.plans.now) (omega (arith, rest, c.rows_of-rows.ensures.within, c.requires.plan_count))

pub code_slice-requires-clause-planned : goal.code_slice-requires-clause-planned
code_slice-requires-clause-planned c chosen =
    let is = source_coding c.args.coding.now c.args.job.now c.args.picture.now c.requires.coding in
    let n : ℕ = length (take (c.macroblocks_of-from.result.1 - c.macroblocks_of-from.result.0) (drop c.macroblocks_of-from.result.0 c.args.records.now)) in
    let inside = c.macroblocks_of-from.ensures.within c.args.coding.now.down c.rows_of-rows.ensures.within in
    let given =
    given_slice c.args.coding.now c.args.job.now c.args.plans.now c.args.slice c.rows_of-rows.result.0 c.rows_of-rows.result.1 c.macroblocks_of-from.result.0 c.macroblocks_of-from.result.1 c.head_at-head.result c.args.records.now is c.requires.slice
    c.rows_of-rows.ensures.first c.rows_of-rows.ensures.end c.rows_of-rows.ensures.some (omega (arith, c.rows_of-rows.ensures.within, c.requires.plan_count)) c.head_at-head.ensures.value c.requires.plans c.macroblocks_of-from.ensures.from c.macroblocks_of-from.ensures.to (omega (arith, inside, c.requires.records)) (record { plain = c.slices_are_searched.ensures.plain; coarsest = c.slices_are_searched.ensures.coarsest }) in
    (slice_planned c.args.coding.now c.args.job.now c.args.plans.now c.args.slice c.rows_of-rows.result.0 c.rows_of-rows.result.1 n c.head_at-head.result given chosen).0

pub code_slice-requires-clause-greatest : goal.code_slice-requires-clause-greatest
code_slice-requires-clause-greatest c coarsest = c.head_at-head.ensures.qp ∙ c.requires.coding.greatest coarsest

pub code_slice-requires-clause-records : goal.code_slice-requires-clause-records
code_slice-requires-clause-records c =
    let is = source_coding c.args.coding.now c.args.job.now c.args.picture.now c.requires.coding in
    let inside = c.macroblocks_of-from.ensures.within c.args.coding.now.down c.rows_of-rows.ensures.within in
    lent c.rows_of-rows.result.0 c.rows_of-rows.result.1 c.args.coding.now.across (c.args.job.now.source.now.y.width / 16) c.macroblocks_of-from.result.0 c.macroblocks_of-from.result.1 c.args.records.now c.macroblocks_of-from.ensures.from c.macroblocks_of-from.ensures.to
    (omega (arith, c.rows_of-rows.ensures.some)) (omega (arith, inside, c.requires.records)) (sixteenth c.args.job.now.source.now.y.width c.args.coding.now.across is.wide)

pub returns-clause-payload : goal.returns-clause-payload
returns-clause-payload c =
    let is = source_coding c.args.coding.now c.args.job.now c.args.picture.now c.requires.coding in
    let n : ℕ = length (take (c.macroblocks_of-from.result.1 - c.macroblocks_of-from.result.0) (drop c.macroblocks_of-from.result.0 c.args.records.now)) in
    let inside = c.macroblocks_of-from.ensures.within c.args.coding.now.down c.rows_of-rows.ensures.within in
    let given =
    given_slice c.args.coding.now c.args.job.now c.args.plans.now c.args.slice c.rows_of-rows.result.0 c.rows_of-rows.result.1 c.macroblocks_of-from.result.0 c.macroblocks_of-from.result.1 c.head_at-head.result c.args.records.now is c.requires.slice
    c.rows_of-rows.ensures.first c.rows_of-rows.ensures.end c.rows_of-rows.ensures.some (omega (arith, c.rows_of-rows.ensures.within, c.requires.plan_count)) c.head_at-head.ensures.value c.requires.plans c.macroblocks_of-from.ensures.from c.macroblocks_of-from.ensures.to (omega (arith, inside, c.requires.records)) (record { plain = c.slices_are_searched.ensures.plain; coarsest = c.slices_are_searched.ensures.coarsest }) in
    subst (λ (bits : List Bool). Leaves {A = Unit {0}} {E = Full} c.code_slice.result.0 c.args.payload.room c.args.payload.made bits c.code_slice.result.1)
    (bits_are c.args.coding.now c.args.job.now c.args.plans.now c.args.slice c.rows_of-rows.result.0 c.rows_of-rows.result.1 n c.head_at-head.result (planes_in c.stripe.result) given
    ∙ ap (λ (p : Planes). layer_bits (format_for c.args.coding.now c.args.job.now) (slice_at c.args.coding.now c.args.job.now c.args.slice p)) (planes_are c.stripe.result c.args.picture.now c.stripe.ensures.first c.stripe.ensures.picture))
    c.code_slice.ensures.payload

pub returns-clause-coded : goal.returns-clause-coded
returns-clause-coded c =
    let is = source_coding c.args.coding.now c.args.job.now c.args.picture.now c.requires.coding in
    let n : ℕ = length (take (c.macroblocks_of-from.result.1 - c.macroblocks_of-from.result.0) (drop c.macroblocks_of-from.result.0 c.args.records.now)) in
    let part : List RowPlan = take (c.rows_of-rows.result.1 - c.rows_of-rows.result.0) (drop c.rows_of-rows.result.0 c.args.plans.now) in
    let inside = c.macroblocks_of-from.ensures.within c.args.coding.now.down c.rows_of-rows.ensures.within in
    let given =
    given_slice c.args.coding.now c.args.job.now c.args.plans.now c.args.slice c.rows_of-rows.result.0 c.rows_of-rows.result.1 c.macroblocks_of-from.result.0 c.macroblocks_of-from.result.1 c.head_at-head.result c.args.records.now is c.requires.slice
    c.rows_of-rows.ensures.first c.rows_of-rows.ensures.end c.rows_of-rows.ensures.some (omega (arith, c.rows_of-rows.ensures.within, c.requires.plan_count)) c.head_at-head.ensures.value c.requires.plans c.macroblocks_of-from.ensures.from c.macroblocks_of-from.ensures.to (omega (arith, inside, c.requires.records)) (record { plain = c.slices_are_searched.ensures.plain; coarsest = c.slices_are_searched.ensures.coarsest }) in
    let before = planes_are c.stripe.result c.args.picture.now c.stripe.ensures.first c.stripe.ensures.picture in
    let after = planes_whole c.code_slice.new.stripe (c.code_slice.ensures.place ∙ c.stripe.ensures.first) in
    let told =
    both_ok c.code_slice.result.0
    (λ records planes.
    slice_coded c.args.coding.now c.args.job.now c.args.plans.now c.args.slice c.rows_of-rows.result.0 c.rows_of-rows.result.1 n c.macroblocks_of-from.result.0 c.macroblocks_of-from.result.1 c.head_at-head.result (planes_of c.args.picture.now) (planes_of c.code_slice.new.stripe.picture.now) c.args.records.now c.code_slice.new.records
    given c.macroblocks_of-from.ensures.from c.macroblocks_of-from.ensures.to c.macroblocks_of-from.ensures.order (omega (arith, inside, c.requires.records))
    (records ∙ ap (λ (p : Planes). records_by c.args.coding.now.coarsest (task_of (format_of c.args.job.now.source.now c.args.job.now.t8x8) c.head_at-head.result (named c.args.job.now.lists.now) (planes_of c.args.job.now.source.now) part) p n) before)
    (sym after ∙ planes ∙ ap (λ (p : Planes). slice_built (c.args.job.now.source.now.y.width / 16) (sources_of (named c.args.job.now.lists.now)) c.head_at-head.result.first_mb c.code_slice.new.records p) before))
    c.code_slice.ensures.records c.code_slice.ensures.planes in
    search (rules, told)

pub returns-clause-quantised : goal.returns-clause-quantised
returns-clause-quantised c =
    let is = source_coding c.args.coding.now c.args.job.now c.args.picture.now c.requires.coding in
    let f = format_of c.args.job.now.source.now c.args.job.now.t8x8 in
    let n : ℕ = length (take (c.macroblocks_of-from.result.1 - c.macroblocks_of-from.result.0) (drop c.macroblocks_of-from.result.0 c.args.records.now)) in
    let part : List RowPlan = take (c.rows_of-rows.result.1 - c.rows_of-rows.result.0) (drop c.rows_of-rows.result.0 c.args.plans.now) in
    let inside = c.macroblocks_of-from.ensures.within c.args.coding.now.down c.rows_of-rows.ensures.within in
    let given =
    given_slice c.args.coding.now c.args.job.now c.args.plans.now c.args.slice c.rows_of-rows.result.0 c.rows_of-rows.result.1 c.macroblocks_of-from.result.0 c.macroblocks_of-from.result.1 c.head_at-head.result c.args.records.now is c.requires.slice
    c.rows_of-rows.ensures.first c.rows_of-rows.ensures.end c.rows_of-rows.ensures.some (omega (arith, c.rows_of-rows.ensures.within, c.requires.plan_count)) c.head_at-head.ensures.value c.requires.plans c.macroblocks_of-from.ensures.from c.macroblocks_of-from.ensures.to (omega (arith, inside, c.requires.records)) (record { plain = c.slices_are_searched.ensures.plain; coarsest = c.slices_are_searched.ensures.coarsest }) in
    let s : Slice = coded c.args.coding.now.coarsest c.head_at-head.result (task_of f c.head_at-head.result (named c.args.job.now.lists.now) (planes_of c.args.job.now.source.now) part) (planes_in c.stripe.result) n in
    all_small f (colocated_at (named c.args.job.now.lists.now)) c.head_at-head.result.idr s (slice_at c.args.coding.now c.args.job.now c.args.slice (planes_of c.args.picture.now))
    (slice_is c.args.coding.now c.args.job.now c.args.plans.now c.args.slice c.rows_of-rows.result.0 c.rows_of-rows.result.1 n c.head_at-head.result (planes_in c.stripe.result) given
    ∙ ap (λ (p : Planes). slice_at c.args.coding.now c.args.job.now c.args.slice p) (planes_are c.stripe.result c.args.picture.now c.stripe.ensures.first c.stripe.ensures.picture))
    (subst (λ (q : ℕ). q ≤ 51) (sym c.head_at-head.ensures.qp) c.requires.coding.qp) c.code_slice.ensures.slice
