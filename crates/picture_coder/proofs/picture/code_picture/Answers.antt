use Rattle.std.proofs.Common.{◌*◌, sym, ap, ◌∙◌}
use Rattle.picture_planes.specs.declared.picture.Picture.{Picture}
use Rattle.picture_planes.specs.Pictures.{planes_of}
use Rattle.picture_coder.proofs.Sizes.{on_ok, shapes_then, width_kept, coding_kept, count_is, made_count}
use Rattle.picture_coder.proofs.Filtered.{all_quantised, filtered, kept_is, made_still}
use Rattle.picture_coder.proofs.picture.code_picture.Goals as goal

pub code_slices-done-requires-clause-coding : goal.code_slices-done-requires-clause-coding
code_slices-done-requires-clause-coding c = coding_kept c.args.coding.now c.args.job.now c.args.reference.now.picture c.clear.new.picture c.clear.ensures.shapes c.requires.coding

pub code_slices-done-requires-clause-blank : goal.code_slices-done-requires-clause-blank
code_slices-done-requires-clause-blank c = c.clear.ensures.blank c.args.coding.now.across c.args.coding.now.down c.requires.coding.wide c.requires.coding.high

pub returns-then-is_err-clause-sizes : goal.returns-then-is_err-clause-sizes
returns-then-is_err-clause-sizes c =
    made_still (16 * c.args.coding.now.across) (16 * c.args.coding.now.down) c.args.reference.now c.code_slices-done.new.picture
    (shapes_then c.args.reference.now.picture c.clear.new.picture c.code_slices-done.new.picture c.clear.ensures.shapes c.code_slices-done.ensures.shapes) c.requires.sizes

pub filter-requires-clause-count : goal.filter-requires-clause-count
filter-requires-clause-count c =
    let shapes = shapes_then c.args.reference.now.picture c.clear.new.picture c.code_slices-done.new.picture c.clear.ensures.shapes c.code_slices-done.ensures.shapes in
    count_is c.args.coding.now c.args.job.now c.code_slices-done.new.picture _ (coding_kept c.args.coding.now c.args.job.now c.args.reference.now.picture c.code_slices-done.new.picture shapes c.requires.coding)
    (c.code_slices-done.ensures.count ∙ c.requires.records)

pub filter-requires-clause-qps : goal.filter-requires-clause-qps
filter-requires-clause-qps c =
    all_quantised c.args.coding.now c.args.job.now (planes_of c.code_slices-done.new.picture) c.code_slices-done.new.records c.requires.coding.some
    (c.code_slices-done.ensures.count ∙ c.requires.records)
    (on_ok c.code_slices-done.result.0 (sym c.is_err.ensures.value ∙ c.if-is_err.false) c.code_slices-done.ensures.coded)

pub filter-requires-clause-first : goal.filter-requires-clause-first
filter-requires-clause-first c = c.requires.coding.job.first

pub filter-requires-clause-second : goal.filter-requires-clause-second
filter-requires-clause-second c = c.requires.coding.job.second

pub filter-requires-clause-origin : goal.filter-requires-clause-origin
filter-requires-clause-origin c = c.requires.coding.job.origin.1

pub keep-requires : goal.keep-requires
keep-requires c = made_count c.args.coding.now.across c.args.coding.now.down _ _ c.requires.sizes.records (c.code_slices-done.ensures.count ∙ c.requires.records)

pub returns-clause-sizes : goal.returns-clause-sizes
returns-clause-sizes c =
    let shapes = shapes_then c.args.reference.now.picture c.clear.new.picture c.code_slices-done.new.picture c.clear.ensures.shapes c.code_slices-done.ensures.shapes in
    c.keep.ensures.made (16 * c.args.coding.now.across) (16 * c.args.coding.now.down)
    (made_still (16 * c.args.coding.now.across) (16 * c.args.coding.now.down) c.args.reference.now c.filter.new.picture (shapes_then c.args.reference.now.picture c.code_slices-done.new.picture c.filter.new.picture shapes c.filter.ensures.shapes) c.requires.sizes)

pub returns-clause-kept : goal.returns-clause-kept
returns-clause-kept c =
    let shapes = shapes_then c.args.reference.now.picture c.clear.new.picture c.code_slices-done.new.picture c.clear.ensures.shapes c.code_slices-done.ensures.shapes in
    let long = c.code_slices-done.ensures.count ∙ c.requires.records in
    let coded = on_ok c.code_slices-done.result.0 (sym c.is_err.ensures.value ∙ c.if-is_err.false) c.code_slices-done.ensures.coded in
    kept_is c.args.coding.now c.args.job.now (planes_of c.code_slices-done.new.picture) c.code_slices-done.new.records c.keep.new.reference c.requires.coding.some long coded
    (ap (λ (p : Picture). planes_of p) c.keep.ensures.picture
    ∙ c.filter.ensures.value
    ∙ filtered c.args.coding.now c.args.job.now (planes_of c.code_slices-done.new.picture) c.code_slices-done.new.records c.code_slices-done.new.picture.y.width c.requires.coding.some c.requires.coding.job long
    (width_kept c.args.reference.now.picture c.code_slices-done.new.picture shapes ∙ c.requires.coding.wide) coded)
    c.keep.ensures.motion c.keep.ensures.poc c.keep.ensures.frame_num
