use Rattle.std.proofs.Common.{List, ℕ, length, sym, ap, ◌∙◌}
use Rattle.std.proofs.lemmas.List.{with_items_is}
use Rattle.picture_planes.specs.Samples.{with_buffer}
use Rattle.picture_planes.proofs.SampleLaws.{blank_samples}
use Rattle.picture_coder.proofs.picture.clear_plane.Goals as goal

pub returns-clause-samples : goal.returns-clause-samples
returns-clause-samples c =
    let long = c.fill.ensures.len ∙ ap (λ (xs : List ℕ). length xs) c.buffer_mut.ensures.value ∙ sym c.args.plane.now.bytes.ok.0 in
    blank_samples (with_buffer c.args.plane.now c.fill.new.self) (length c.buffer_mut.result.now) (with_items_is c.args.plane.now.bytes c.fill.new.self long ∙ c.fill.ensures.after (λ y same. same))
