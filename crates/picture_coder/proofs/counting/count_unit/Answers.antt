use Rattle.std.proofs.Common.{◌≡◌, ◌≤◌, ◌+◌, ◌*◌, ◌%◌, false, ℕ, List, Bool, length, sym, ap, ◌∙◌, arith}
use Rattle.std.proofs.lemmas.Bool.{false≢true}
use Rattle.bit_strings.specs.BitText.{BitText}
use Rattle.picture_planes.specs.Pictures.{planes_of}
use Rattle.spec_bits.specs.Units.{unit_bytes}
use Rattle.spec_slice_payload.specs.Writing.{layer_bits}
use Rattle.spec_slice_payload.specs.Layer.{Slice}
use Rattle.picture_coder.specs.Pictures.{format_for, slice_at}
use Rattle.picture_coder.proofs.Sizes.{on_ok}
use Rattle.picture_coder.proofs.Written.{text_whole}
use Rattle.picture_coder.proofs.Short.{slice_short, not_full, unit_bits_are, payload_bytes, unit_small}
use Rattle.picture_coder.proofs.counting.count_unit.Goals as goal

pub code_rows-done-requires-clause-plans : goal.code_rows-done-requires-clause-plans
code_rows-done-requires-clause-plans c chosen = absurd (false≢true (sym chosen ∙ c.requires.coarsest))

pub unreachable-requires : goal.unreachable-requires
unreachable-requires c =
    let s : Slice = slice_at c.args.coding.now c.args.job.now c.args.slice (planes_of c.args.picture.now) in
    let short = slice_short c.args.coding.now c.args.job.now c.args.slice (planes_of c.args.picture.now) c.coarsest_slices_are_short.ensures.padded c.requires.coarsest (c.requires.coding.greatest c.requires.coarsest) c.requires.slice in
    false≢true (
    sym (not_full c.code_rows-done.result.0 c.args.payload.room c.args.payload.made (layer_bits (format_for c.args.coding.now c.args.job.now) s) c.code_rows-done.result.1 c.code_rows-done.ensures.payload (omega (arith, short, c.requires.room)))
    ∙ sym c.is_err.ensures.value
    ∙ c.if-is_err.true)

pub bytes-requires : goal.bytes-requires
bytes-requires c =
    let s : Slice = slice_at c.args.coding.now c.args.job.now c.args.slice (planes_of c.args.picture.now) in
    let is = on_ok c.code_rows-done.result.0 (sym c.is_err.ensures.value ∙ c.if-is_err.false) c.code_rows-done.ensures.payload.ok in
    ap (λ (b : BitText). length b.text % 8) is ∙ text_whole (layer_bits (format_for c.args.coding.now c.args.job.now) s)

pub unit_bits-bits-requires : goal.unit_bits-bits-requires
unit_bits-bits-requires c =
    let s : Slice = slice_at c.args.coding.now c.args.job.now c.args.slice (planes_of c.args.picture.now) in
    let is = on_ok c.code_rows-done.result.0 (sym c.is_err.ensures.value ∙ c.if-is_err.false) c.code_rows-done.ensures.payload.ok in
    let text : List Bool = c.code_rows-done.result.1.text in
    let whole : length text % 8 ≡ 0 = ap (λ (b : BitText). length b.text % 8) is ∙ text_whole (layer_bits (format_for c.args.coding.now c.args.job.now) s) in
    let short = slice_short c.args.coding.now c.args.job.now c.args.slice (planes_of c.args.picture.now) c.coarsest_slices_are_short.ensures.padded c.requires.coarsest (c.requires.coding.greatest c.requires.coarsest) c.requires.slice in
    let few : length text ≤ 128 * (c.args.coding.now.down * c.args.coding.now.across) + 1024 = omega (arith, ap (λ (b : BitText). length b.text) is, short) in
    let bytes = payload_bytes text c.args.coding.now.across c.args.coding.now.down whole few c.requires.coding.across_fits c.requires.coding.down_fits in
    let same = ap (λ (xs : List ℕ). length xs) c.bytes.ensures.bytes in
    omega (arith, bytes, same)

pub returns-clause-unit : goal.returns-clause-unit
returns-clause-unit c =
    let s : Slice = slice_at c.args.coding.now c.args.job.now c.args.slice (planes_of c.args.picture.now) in
    let is = on_ok c.code_rows-done.result.0 (sym c.is_err.ensures.value ∙ c.if-is_err.false) c.code_rows-done.ensures.payload.ok in
    unit_bits_are c.args.coding.now c.args.job.now s c.code_rows-done.result.1.text c.unit_bits-bits.result (ap (λ (b : BitText). b.text) is)
    (λ ref_idc kind. c.unit_bits-bits.ensures ref_idc kind ∙ ap (λ (xs : List ℕ). 8 * length (unit_bytes false ref_idc kind xs)) c.bytes.ensures.bytes)

pub returns-clause-small : goal.returns-clause-small
returns-clause-small c =
    let s : Slice = slice_at c.args.coding.now c.args.job.now c.args.slice (planes_of c.args.picture.now) in
    let is = on_ok c.code_rows-done.result.0 (sym c.is_err.ensures.value ∙ c.if-is_err.false) c.code_rows-done.ensures.payload.ok in
    let text : List Bool = c.code_rows-done.result.1.text in
    let whole : length text % 8 ≡ 0 = ap (λ (b : BitText). length b.text % 8) is ∙ text_whole (layer_bits (format_for c.args.coding.now c.args.job.now) s) in
    let short = slice_short c.args.coding.now c.args.job.now c.args.slice (planes_of c.args.picture.now) c.coarsest_slices_are_short.ensures.padded c.requires.coarsest (c.requires.coding.greatest c.requires.coarsest) c.requires.slice in
    let few : length text ≤ 128 * (c.args.coding.now.down * c.args.coding.now.across) + 1024 = omega (arith, ap (λ (b : BitText). length b.text) is, short) in
    unit_small text c.unit_bits-bits.result (payload_bytes text c.args.coding.now.across c.args.coding.now.down whole few c.requires.coding.across_fits c.requires.coding.down_fits)
    (λ ref_idc kind. c.unit_bits-bits.ensures ref_idc kind ∙ ap (λ (xs : List ℕ). 8 * length (unit_bytes false ref_idc kind xs)) c.bytes.ensures.bytes)
