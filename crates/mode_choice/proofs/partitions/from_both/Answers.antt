use Rattle.std.proofs.Common.{◌∙◌, w8, SFits}
use Rattle.std.proofs.lemmas.Int.{to_z-of_z}
use Rattle.picture_planes.specs.Pictures.{planes_of}
use Rattle.mode_choice.proofs.Parting.{both_is}
use Rattle.mode_choice.proofs.partitions.from_both.Goals as goal

pub returns-clause-value : goal.returns-clause-value
returns-clause-value c s h e f =
    let fi : SFits w8 c.index_of-i.result = record { sfits = c.index_of-i.type_inv } in
    let fj : SFits w8 c.index_of-j.result = record { sfits = c.index_of-j.type_inv } in
    both_is s c.args.block c.args.a c.args.b (planes_of c.args.first.now.picture) (planes_of c.args.second.now.picture) _ _ c.difference_of_both-difference.result
    e f (to_z-of_z w8 c.index_of-i.result fi ∙ c.index_of-i.ensures) (to_z-of_z w8 c.index_of-j.result fj ∙ c.index_of-j.ensures) (c.difference_of_both-difference.ensures.value s h)
