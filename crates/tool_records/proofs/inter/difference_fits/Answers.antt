use Rattle.std.proofs.Common.{refl, ap, sym, ◌∙◌}
use Rattle.spec_partitions.specs.Partitions.{first_block}
use Rattle.tool_records.proofs.Spread.{fits, fits_used}
use Rattle.tool_records.proofs.inter.difference_fits.Goals as goal

pub returns-then-uses_list : goal.returns-then-uses_list
returns-then-uses_list c = λ t.
    let begins = c.first_block-block.ensures.value ∙ ap (λ s. first_block s c.args.part) c.shape_of.ensures.value in
    fits_used c.args.mb.now c.args.list c.args.part c.first_block-block.result begins (c.if-not-is_difference.ensures.across refl) (c.if-not-is_difference.ensures.down refl) (sym c.if-uses_list.ensures)

pub returns-else-uses_list : goal.returns-else-uses_list
returns-else-uses_list c = λ t.
    let begins = c.first_block-block.ensures.value ∙ ap (λ s. first_block s c.args.part) c.shape_of.ensures.value in
    fits c.args.mb.now c.args.list c.args.part c.first_block-block.result begins (c.if-not-is_difference.ensures.across refl) (c.if-not-is_difference.ensures.down refl) (λ f. c.is_still.ensures t)
