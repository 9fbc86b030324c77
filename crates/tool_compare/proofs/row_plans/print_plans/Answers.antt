use Rattle.std.proofs.Common.{ℕ, refl, sym, subst}
use Rattle.ref_lists.specs.Held.{AreHeld}
use Rattle.tool_compare.proofs.row_plans.print_plans.Goals as goal

pub print_rows-requires-clause-held : goal.print_rows-requires-clause-held
print_rows-requires-clause-held c =
    let size = c.requires.held in
    let large = c.if-not-are_as_large.ensures size.0 size.1 size.2 refl in
    subst (λ (k : ℕ). AreHeld k c.args.source.now.y.height c.args.lists.now.held.now) (sym large.0)
    (subst (λ (k : ℕ). AreHeld size.0 k c.args.lists.now.held.now) (sym large.1) size.2)
