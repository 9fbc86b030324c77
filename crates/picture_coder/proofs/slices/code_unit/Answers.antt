use Rattle.std.proofs.Common.{◌%◌, ℕ, Bool, List, length, refl, sym, ap, subst, ◌∙◌, arith}
use Rattle.picture_planes.specs.Pictures.{planes_of}
use Rattle.bit_strings.specs.BitText.{BitText, Appends}
use Rattle.spec_bits.specs.Bits.{bits_of_bytes, bytes_of_bits}
use Rattle.spec_bits.specs.Units.{unit_bytes, EndsWell}
use Rattle.spec_lists.specs.Heads.{ref_idc_of}
use Rattle.spec_slice_payload.specs.Layer.{Slice}
use Rattle.spec_slice_payload.specs.Writing.{layer_bits}
use Rattle.picture_coder.specs.Pictures.{format_for, kind_number, slice_at}
use Rattle.picture_coder.proofs.Sizes.{on_ok}
use Rattle.picture_coder.proofs.Written.{text_whole, text_ends, text_is_payload, unit_long}
use Rattle.picture_coder.proofs.slices.code_unit.Goals as goal

pub returns-then-is_err-clause-unit : goal.returns-then-is_err-clause-unit
returns-then-is_err-clause-unit c =
    let s : Slice = slice_at c.args.coding.now c.args.job.now c.args.slice (planes_of c.args.picture.now) in
    let short = (c.code_rows-done.ensures.payload.full).0 (sym c.is_err.ensures.value ∙ c.if-is_err.true) in
    let long = unit_long c.args.coding.now c.args.job.now c.args.long s in
    (omega (arith, short, long, c.requires.room), refl)

pub append_unit-requires-clause-payload : goal.append_unit-requires-clause-payload
append_unit-requires-clause-payload c =
    let s : Slice = slice_at c.args.coding.now c.args.job.now c.args.slice (planes_of c.args.picture.now) in
    let is = on_ok c.code_rows-done.result.0 (sym c.is_err.ensures.value ∙ c.if-is_err.false) c.code_rows-done.ensures.payload.ok in
    ap (λ (b : BitText). length b.text % 8) is ∙ text_whole (layer_bits (format_for c.args.coding.now c.args.job.now) s)

pub append_unit-requires-clause-ends : goal.append_unit-requires-clause-ends
append_unit-requires-clause-ends c =
    let s : Slice = slice_at c.args.coding.now c.args.job.now c.args.slice (planes_of c.args.picture.now) in
    let is = on_ok c.code_rows-done.result.0 (sym c.is_err.ensures.value ∙ c.if-is_err.false) c.code_rows-done.ensures.payload.ok in
    subst (λ (b : BitText). EndsWell (bytes_of_bits b.text)) (sym is) (text_ends (format_for c.args.coding.now c.args.job.now) s)

pub returns-clause-unit : goal.returns-clause-unit
returns-clause-unit c =
    let s : Slice = slice_at c.args.coding.now c.args.job.now c.args.slice (planes_of c.args.picture.now) in
    let idc : ℕ = ref_idc_of c.args.job.now.step.idr c.args.job.now.step.kind in
    let kind : ℕ = kind_number c.args.job.now.step.idr in
    let is = on_ok c.code_rows-done.result.0 (sym c.is_err.ensures.value ∙ c.if-is_err.false) c.code_rows-done.ensures.payload.ok in
    subst (λ (bits : List Bool). Appends c.args.out.now c.append_unit.new.out bits c.append_unit.result.0)
    (ap (λ (b : BitText). bits_of_bytes (unit_bytes c.args.long idc kind (bytes_of_bits b.text))) is ∙ ap (λ (bytes : List ℕ). bits_of_bytes (unit_bytes c.args.long idc kind bytes)) (text_is_payload (format_for c.args.coding.now c.args.job.now) s))
    c.append_unit.ensures.appended
