use Rattle.std.proofs.Common.{sym, ap, ◌∙◌}
use Rattle.std.specs.Prelude.{nat_abs}
use Rattle.spec_contexts.specs.Increments.{inc_ref, ref_of}
use Rattle.spec_contexts.specs.Near.{pointed}
use Rattle.bin_writer.proofs.Coding.{codes_none, codes_as}
use Rattle.mb_syntax.specs.Around.{near_of}
use Rattle.mb_syntax.proofs.PartStrings.{used_at_part, block_at_part, ref_unused, ref_single, ref_some, ref_codable}
use Rattle.mb_syntax.proofs.parts.write_reference.Goals as goal

pub returns-then-not-uses_list : goal.returns-then-not-uses_list
returns-then-not-uses_list c =
    let mb = c.args.mb.now in
    let used = used_at_part mb c.args.list c.args.part _ _ c.shape_of.ensures.value c.first_block-block.ensures.value in
    codes_as (ref_unused (near_of c.args.around.now mb) mb c.args.list c.args.entries c.args.part (sym used ∙ sym c.uses_list.ensures ∙ c.if-not-uses_list.true)) (codes_none c.requires.ready)

pub returns-then-not-has_choice : goal.returns-then-not-has_choice
returns-then-not-has_choice c =
    let mb = c.args.mb.now in
    let used = used_at_part mb c.args.list c.args.part _ _ c.shape_of.ensures.value c.first_block-block.ensures.value in
    codes_as (ref_single (near_of c.args.around.now mb) mb c.args.list c.args.entries c.args.part (sym used ∙ sym c.uses_list.ensures ∙ c.if-not-uses_list.false) (sym c.has_choice.ensures ∙ c.if-not-has_choice.true)) (codes_none c.requires.ready)

pub code_bins-requires-clause-codable : goal.code_bins-requires-clause-codable
code_bins-requires-clause-codable c = rw (c.as_slice.ensures.value, c.bins_ref-bins.ensures) (ref_codable c.inc_ref-inc.result c.reference.result c.inc_ref-inc.ensures.most)

pub returns : goal.returns
returns c =
    let mb = c.args.mb.now in
    let used = used_at_part mb c.args.list c.args.part _ _ c.shape_of.ensures.value c.first_block-block.ensures.value in
    let block = block_at_part mb c.args.part _ _ c.shape_of.ensures.value c.first_block-block.ensures.value in
    let inc = c.inc_ref-inc.ensures.value ∙ ap (λ k. inc_ref mb (pointed c.args.around.now.left) (pointed c.args.around.now.above) c.args.list k) block in
    let index = c.reference.ensures ∙ ap (λ k. nat_abs (ref_of mb c.args.list k)) block in
    codes_as
    (ref_some (near_of c.args.around.now mb) mb c.args.list c.args.entries c.args.part c.inc_ref-inc.result (sym used ∙ sym c.uses_list.ensures ∙ c.if-not-uses_list.false) (sym c.has_choice.ensures ∙ c.if-not-has_choice.false) inc)
    (rw (c.as_slice.ensures.value, c.bins_ref-bins.ensures, index) at c.code_bins.ensures)
