use Rattle.std.proofs.Common.{false, Bool, List, length, refl, sym, ap, ◌∙◌, arith}
use Rattle.picture_planes.specs.Pictures.{planes_of}
use Rattle.picture_coder.proofs.Sizes.{shapes_then, coding_kept}
use Rattle.picture_coder.proofs.Written.{none_coded, no_bits, one_more}
use Rattle.picture_coder.proofs.Short.{one_more_unit}
use Rattle.picture_coder.proofs.counting.count_units.Goals as goal

pub loop-slice-init : goal.loop-slice-init
loop-slice-init c = record {
  shapes = ((refl, refl, refl), (refl, refl, refl), (refl, refl, refl));
  count = refl;
  coded = none_coded c.args.coding.now c.args.job.now (planes_of c.args.picture.now) c.args.records.now c.requires.blank;
  payload = refl;
  bits = sym (ap (λ (t : List Bool). length t) (no_bits c.args.coding.now c.args.job.now false));
  small = omega arith;
}

pub count_unit-bits-requires-clause-coding : goal.count_unit-bits-requires-clause-coding
count_unit-bits-requires-clause-coding c = coding_kept c.args.coding.now c.args.job.now c.args.picture.now c.loop-slice.picture c.loop-slice.invariant.shapes c.requires.coding

pub loop-slice-preserved : goal.loop-slice-preserved
loop-slice-preserved c = record {
  shapes = shapes_then c.args.picture.now c.loop-slice.picture c.count_unit-bits.new.picture c.loop-slice.invariant.shapes c.count_unit-bits.ensures.shapes;
  count = c.count_unit-bits.ensures.count ∙ c.loop-slice.invariant.count;
  coded =
      one_more c.args.coding.now c.args.job.now c.loop-slice.slice (planes_of c.loop-slice.picture) (planes_of c.count_unit-bits.new.picture) c.loop-slice.records c.count_unit-bits.new.records
      c.requires.coding.job c.loop-slice.invariant.coded c.count_unit-bits.ensures.coded c.count_unit-bits.ensures.quantised;
  payload = c.count_unit-bits.ensures.payload ∙ c.loop-slice.invariant.payload;
  bits = one_more_unit c.args.coding.now c.args.job.now c.loop-slice.slice (planes_of c.loop-slice.picture) c.loop-slice.total c.count_unit-bits.result.0 c.loop-slice.invariant.coded.planes c.loop-slice.invariant.bits c.count_unit-bits.ensures.unit;
  small = omega (arith, c.loop-slice.invariant.small, c.count_unit-bits.ensures.small);
}

pub returns-clause-small : goal.returns-clause-small
returns-clause-small c =
    let few = c.requires.coding.few in
    let most = c.requires.coding.down_fits in
    omega (arith, c.loop-slice.invariant.small, few, most, c.loop-slice.auto.slice-end)
