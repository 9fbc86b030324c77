use Rattle.std.proofs.Common.{◌<◌, List, length, take, arith, refl, sym, ap, subst, ◌∙◌, length-set, length-take-le}
use Rattle.enc_tables.specs.declared.records.MbRecord.{MbRecord}
use Rattle.spec_partitions.specs.Near.{last_qp}
use Rattle.residual_coder.specs.Stripes.{planes_in}
use Rattle.bin_writer.specs.Coding.{seen}
use Rattle.slice_coder.specs.Given.{task_in, MovesFit}
use Rattle.slice_coder.proofs.Along.{records_none}
use Rattle.slice_coder.proofs.Made.{moves, same_qp}
use Rattle.slice_coder.proofs.Shapes.{shapes_same, shapes_then, width_kept, holds_kept}
use Rattle.slice_coder.proofs.Stepping.{first_fits, few_of_slice, next_is, fits_next, follows_next, records_more, built_more, bins_more, built_start, opened_start}
use Rattle.slice_coder.proofs.data.code_macroblocks.Goals as goal

pub loop-n-init : goal.loop-n-init
loop-n-init c = record {
  long = refl;
  same_reference = refl;
  begins = refl;
  shapes = shapes_same c.args.stripe.now.picture.now;
  coded = sym (records_none c.args.coarsest (task_in c.args.place.now c.args.head.now c.args.pictures.now c.args.plans.now) (planes_in c.args.stripe.now));
  built = built_start c.args.coarsest c.args.place.now c.args.head.now c.args.pictures.now c.args.plans.now (planes_in c.args.stripe.now);
  opened = opened_start c.args.coarsest c.args.place.now c.args.head.now c.args.pictures.now c.args.plans.now (planes_in c.args.stripe.now) (length c.args.records.now) (seen c.args.coder.now c.args.contexts.now) c.requires.ready;
}

pub code_record-record-requires-clause-alike : goal.code_record-record-requires-clause-alike
code_record-record-requires-clause-alike c = width_kept c.args.stripe.now.picture.now c.loop-n.stripe.picture.now c.loop-n.invariant.shapes ∙ c.requires.alike

pub code_record-record-requires-clause-holds : goal.code_record-record-requires-clause-holds
code_record-record-requires-clause-holds c = holds_kept c.args.stripe.now c.loop-n.stripe c.args.place.now.row c.args.place.now.end c.loop-n.invariant.begins c.loop-n.invariant.shapes c.requires.holds

pub code_record-record-requires-clause-more : goal.code_record-record-requires-clause-more
code_record-record-requires-clause-more c = omega (arith, c.loop-n.invariant.long, c.requires.count, length-take-le c.loop-n.n c.loop-n.records (omega (arith, c.loop-n.invariant.long)))

pub code_record-record-requires-clause-moves : goal.code_record-record-requires-clause-moves
code_record-record-requires-clause-moves c =
    subst (λ (rs : List MbRecord). MovesFit c.args.head.now rs) (sym c.loop-n.invariant.coded)
    (moves c.args.coarsest c.args.place.now c.args.head.now c.args.pictures.now c.args.plans.now (planes_in c.args.stripe.now) c.requires.placed c.requires.can_be c.requires.samples c.requires.built_fits c.loop-n.n (omega (arith, c.requires.count)))

pub code_record-record-requires-clause-qp : goal.code_record-record-requires-clause-qp
code_record-record-requires-clause-qp c =
    ap (λ (rs : List MbRecord). last_qp c.args.head.now.qp rs) c.loop-n.invariant.coded
    ∙ same_qp c.args.coarsest c.args.place.now c.args.head.now c.args.pictures.now c.args.plans.now (planes_in c.args.stripe.now) c.requires.placed c.requires.can_be c.requires.samples c.requires.built_fits c.loop-n.n (omega (arith, c.requires.count))

pub write_behind-requires-clause-ready : goal.write_behind-requires-clause-ready
write_behind-requires-clause-ready c = (c.write_no_end.ensures.coded c.loop-n.contexts.states c.loop-n.invariant.opened.codes.ready.known).ready

pub write_behind-requires-clause-across : goal.write_behind-requires-clause-across
write_behind-requires-clause-across c = c.requires.placed.wide

pub write_behind-requires-clause-first : goal.write_behind-requires-clause-first
write_behind-requires-clause-first c = first_fits c.args.place.now c.args.head.now c.args.pictures.now c.requires.placed

pub write_behind-requires-clause-few : goal.write_behind-requires-clause-few
write_behind-requires-clause-few c =
    let few = few_of_slice c.args.place.now c.args.head.now c.args.pictures.now c.requires.placed in
    omega (arith, c.loop-n.invariant.long, c.requires.count, length-take-le c.loop-n.n c.loop-n.records (omega (arith, c.loop-n.invariant.long)))

pub write_behind-requires-clause-follows : goal.write_behind-requires-clause-follows
write_behind-requires-clause-follows c =
    follows_next c.args.coarsest c.args.place.now c.args.head.now c.args.pictures.now c.args.plans.now (planes_in c.args.stripe.now) c.loop-n.n c.code_record-record.result (take c.loop-n.n c.loop-n.records) c.requires.placed c.requires.can_be c.requires.samples c.requires.built_fits (omega (arith, c.requires.count)) c.loop-n.invariant.coded
    (next_is c.args.coarsest c.args.place.now c.args.head.now c.args.pictures.now c.args.plans.now (planes_in c.args.stripe.now) c.loop-n.n c.code_record-record.result (take c.loop-n.n c.loop-n.records) (planes_in c.loop-n.stripe) c.loop-n.invariant.coded c.loop-n.invariant.built c.code_record-record.ensures.record)

pub write_behind-requires-clause-record_ : goal.write_behind-requires-clause-record_
write_behind-requires-clause-record_ c =
    fits_next c.args.coarsest c.args.place.now c.args.head.now c.args.pictures.now c.args.plans.now (planes_in c.args.stripe.now) c.loop-n.n c.code_record-record.result (take c.loop-n.n c.loop-n.records) c.requires.placed c.requires.can_be c.requires.samples c.requires.built_fits (omega (arith, c.requires.count)) c.loop-n.invariant.coded
    (next_is c.args.coarsest c.args.place.now c.args.head.now c.args.pictures.now c.args.plans.now (planes_in c.args.stripe.now) c.loop-n.n c.code_record-record.result (take c.loop-n.n c.loop-n.records) (planes_in c.loop-n.stripe) c.loop-n.invariant.coded c.loop-n.invariant.built c.code_record-record.ensures.record)

pub loop-n-preserved : goal.loop-n-preserved
loop-n-preserved c =
    let i = c.loop-n.invariant in
    let inside : c.loop-n.n < length c.loop-n.records = omega (arith, i.long) in
    let is = next_is c.args.coarsest c.args.place.now c.args.head.now c.args.pictures.now c.args.plans.now (planes_in c.args.stripe.now) c.loop-n.n c.code_record-record.result (take c.loop-n.n c.loop-n.records) (planes_in c.loop-n.stripe) c.loop-n.invariant.coded c.loop-n.invariant.built c.code_record-record.ensures.record in
    record {
      long = length-set c.loop-n.records c.loop-n.n c.code_record-record.result ∙ i.long;
      same_reference = c.code_record-record.ensures.same_reference ∙ i.same_reference;
      begins = c.code_record-record.ensures.begins ∙ i.begins;
      shapes = shapes_then c.args.stripe.now.picture.now c.loop-n.stripe.picture.now c.code_record-record.new.stripe.picture.now i.shapes c.code_record-record.ensures.shapes;
      coded = records_more c.args.coarsest c.args.place.now c.args.head.now c.args.pictures.now c.args.plans.now (planes_in c.args.stripe.now) c.loop-n.n c.code_record-record.result c.loop-n.records inside i.coded is;
      built = built_more c.args.coarsest c.args.place.now c.args.head.now c.args.pictures.now c.args.plans.now (planes_in c.args.stripe.now) c.loop-n.n c.code_record-record.result (take c.loop-n.n c.loop-n.records) (planes_in c.loop-n.stripe) (planes_in c.code_record-record.new.stripe) i.coded i.built is c.code_record-record.ensures.planes;
      opened = bins_more c.args.coarsest c.args.place.now c.args.head.now c.args.pictures.now c.args.plans.now (planes_in c.args.stripe.now) c.loop-n.n c.code_record-record.result (length c.args.records.now) (take c.loop-n.n c.loop-n.records)
          (seen c.args.coder.now c.args.contexts.now) (seen c.loop-n.coder c.loop-n.contexts) (seen c.write_behind.new.coder c.write_behind.new.contexts) c.write_no_end.new.coder i.coded is i.opened (omega (arith, i.long)) c.write_no_end.ensures c.write_behind.ensures;
    }
