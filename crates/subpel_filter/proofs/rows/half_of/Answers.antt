use Rattle.std.proofs.Common.{◌∙◌, ◌/◌, ℕ, ap, min, sym}
use Rattle.subpel_filter.proofs.Clips.{half_up_down}
use Rattle.subpel_filter.proofs.rows.half_of.Goals as goal

pub returns : goal.returns
returns c = c.min.ensures ∙ ap (λ (v : ℕ). min (v / 32) 255) c.saturating_sub.ensures ∙ sym (half_up_down c.args.a c.args.b c.args.c c.args.d c.args.e c.args.f)
