use Rattle.std.proofs.Common.{List, length, ◌==◌, subst}
use Rattle.bit_strings.specs.BitText.{Appends}
use Rattle.spec_slice_payload.specs.Layer.{Slice}
use Rattle.picture_coder.specs.Units.{bits_for}
use Rattle.picture_coder.specs.Kept.{IsKept}
use Rattle.picture_coder.specs.Coders.{shape_for, kept_for}
use Rattle.std.specs.Prelude.{OnOk}
use Rattle.picture_coder.proofs.OwnSizes.{coarsest_is}
use Rattle.picture_coder.proofs.coder.PictureCoder.coarsest.Goals as goal

pub returns-clause-units : goal.returns-clause-units
returns-clause-units g c =
    subst (λ (ss : List Slice). Appends c.args.out.now c.code_by.new.out (bits_for (shape_for c.args.self.now c.args.job.now) (length c.args.out.now.text == 0) c.args.job.now.step ss) c.code_by.result)
    (coarsest_is c.args.self.now c.args.job.now c.requires.plain) c.code_by.ensures.units

pub returns-clause-decoded : goal.returns-clause-decoded
returns-clause-decoded g c =
    subst (λ (ss : List Slice). OnOk c.code_by.result (IsKept c.code_by.new.self.reference (kept_for c.args.self.now c.args.job.now ss))) (coarsest_is c.args.self.now c.args.job.now c.requires.plain) c.code_by.ensures.decoded
