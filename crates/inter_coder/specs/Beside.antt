-- What is known of the macroblocks around one, and of its plan.
use Rattle.std.specs.Prelude.{◌≡◌, ◌<◌, ◌*◌, ℕ, get_or, Some}
use Rattle.enc_tables.specs.declared.records.MbPlan.{MbPlan}
use Rattle.enc_tables.specs.Plans.{blank_part}
use Rattle.picture_planes.specs.declared.stripe.Stripe.{Stripe}
use Rattle.spec_contexts.specs.Near.{pointed}
use Rattle.spec_partitions.specs.InRange.{MotionFits, NearFits}
use Rattle.spec_partitions.specs.Small.{BlockSmall, NearSmall}
use Rattle.spec_reconstruction.specs.declared.Site.{Site}
use Rattle.residual_coder.specs.Inside.{Inside}
use Rattle.inter_coder.specs.declared.given.Pictures.{Pictures}
use Rattle.inter_coder.specs.declared.given.Beside.{Beside}
use Rattle.inter_coder.specs.Given.{wide_of, AreLent, IsIn}

-- their references are below the lengths of the lists, and their vectors are at most so long (ViewFits and ViewSmall of spec_partitions, of the
-- macroblocks themselves)
pub record BesideFits (entries0 entries1 : ℕ) (b : Beside) : Type 0 where
  pub left : NearFits entries0 entries1 (pointed b.left)
  pub above : NearFits entries0 entries1 (pointed b.above)
  pub above_right : NearFits entries0 entries1 (pointed b.above_right)
  pub above_left : NearFits entries0 entries1 (pointed b.above_left)

pub record BesideSmall (most : ℕ) (b : Beside) : Type 0 where
  pub left : NearSmall most (pointed b.left)
  pub above : NearSmall most (pointed b.above)
  pub above_right : NearSmall most (pointed b.above_right)
  pub above_left : NearSmall most (pointed b.above_left)

-- the nine partitions of a plan refer to entries of the lists, and their vectors are at most so long
pub record PlanFits (entries0 entries1 : ℕ) (plan : MbPlan) : Type 0 where
  pub at : (k : ℕ) → k < 9 → MotionFits entries0 entries1 (get_or plan.parts k blank_part).motion

pub record PlanSmall (most : ℕ) (plan : MbPlan) : Type 0 where
  pub at : (k : ℕ) → k < 9 → BlockSmall most (Some (get_or plan.parts k blank_part).motion)

-- a macroblock lies inside the pictures and the stripe, which are as wide
pub record Stands (site : Site) (p : Pictures) (s : Stripe) : Type 0 where
  pub lent : AreLent p
  pub inside : IsIn site p
  pub alike : s.picture.now.y.width ≡ wide_of p
  pub rows : Inside 16 (16 * s.first) s.picture.now.y site.x site.y
