use Rattle.std.proofs.Common.{◌==◌, ℕ, Bool, List, length, refl, sym, ap, ◌∙◌, arith}
use Rattle.picture_planes.specs.Pictures.{planes_of}
use Rattle.picture_coder.specs.Pictures.{slice_at, unit_of}
use Rattle.picture_coder.proofs.Sizes.{on_ok, if_done, if_full, shapes_then, coding_kept}
use Rattle.picture_coder.proofs.Written.{none_coded, none_written, long_first, one_more, units_more, then_short, stopped, whole_still, fits_more}
use Rattle.picture_coder.proofs.slices.code_slices.Goals as goal

pub loop-slice-init : goal.loop-slice-init
loop-slice-init c = record {
  shapes = ((refl, refl, refl), (refl, refl, refl), (refl, refl, refl));
  count = refl;
  coded = none_coded c.args.coding.now c.args.job.now (planes_of c.args.picture.now) c.args.records.now c.requires.blank;
  payload = refl;
  fits = omega (arith, c.len-long.ensures.len, c.len-long.ensures.within);
  units = none_written c.args.coding.now c.args.job.now (length c.args.out.now.text == 0) c.args.out.now;
  long = ap (λ (n : ℕ). n == 0) c.len-long.ensures.len ∙ long_first c.args.coding.now c.args.job.now (length c.args.out.now.text == 0);
}

pub code_unit-done-requires-clause-coding : goal.code_unit-done-requires-clause-coding
code_unit-done-requires-clause-coding c = coding_kept c.args.coding.now c.args.job.now c.args.picture.now c.loop-slice.picture c.loop-slice.invariant.shapes c.requires.coding

pub code_unit-done-requires-clause-whole : goal.code_unit-done-requires-clause-whole
code_unit-done-requires-clause-whole c =
    whole_still c.args.coding.now c.args.job.now (length c.args.out.now.text == 0) c.loop-slice.slice c.args.out.now c.loop-slice.out c.loop-slice.invariant.units c.requires.whole

pub returns-then-is_err-clause-units : goal.returns-then-is_err-clause-units
returns-then-is_err-clause-units c =
    stopped c.args.coding.now c.args.job.now (length c.args.out.now.text == 0) c.loop-slice.long c.loop-slice.slice (planes_of c.loop-slice.picture) c.args.out.now c.loop-slice.out c.code_unit-done.new.out
    c.loop-slice-test.true c.loop-slice.invariant.coded.planes c.loop-slice.invariant.long c.loop-slice.invariant.units
    (if_full c.code_unit-done.result.0 c.loop-slice.out c.code_unit-done.new.out (unit_of c.args.coding.now c.args.job.now c.loop-slice.long (slice_at c.args.coding.now c.args.job.now c.loop-slice.slice (planes_of c.loop-slice.picture)))
    (sym c.is_err.ensures.value ∙ c.if-is_err.true) c.code_unit-done.ensures.unit)

pub loop-slice-preserved : goal.loop-slice-preserved
loop-slice-preserved c =
    let good = sym c.is_err.ensures.value ∙ c.if-is_err.false in
    let u : List Bool = unit_of c.args.coding.now c.args.job.now c.loop-slice.long (slice_at c.args.coding.now c.args.job.now c.loop-slice.slice (planes_of c.loop-slice.picture)) in
    let appended = if_done c.code_unit-done.result.0 c.loop-slice.out c.code_unit-done.new.out u good c.code_unit-done.ensures.unit in
    record {
      shapes = shapes_then c.args.picture.now c.loop-slice.picture c.code_unit-done.new.picture c.loop-slice.invariant.shapes c.code_unit-done.ensures.shapes;
      count = c.code_unit-done.ensures.count ∙ c.loop-slice.invariant.count;
      coded =
          one_more c.args.coding.now c.args.job.now c.loop-slice.slice (planes_of c.loop-slice.picture) (planes_of c.code_unit-done.new.picture) c.loop-slice.records c.code_unit-done.new.records
          c.requires.coding.job c.loop-slice.invariant.coded (on_ok c.code_unit-done.result.0 good c.code_unit-done.ensures.coded) c.code_unit-done.ensures.quantised;
      payload = c.code_unit-done.ensures.payload ∙ c.loop-slice.invariant.payload;
      fits = fits_more c.loop-slice.out c.code_unit-done.new.out u appended.0 appended.1;
      units =
          appended.1
          ∙ units_more c.args.coding.now c.args.job.now (length c.args.out.now.text == 0) c.loop-slice.long c.loop-slice.slice (planes_of c.loop-slice.picture) c.args.out.now c.loop-slice.out
          c.loop-slice.invariant.coded.planes c.loop-slice.invariant.long c.loop-slice.invariant.units;
      long = then_short c.args.coding.now c.args.job.now (length c.args.out.now.text == 0) c.loop-slice.slice;
    }
