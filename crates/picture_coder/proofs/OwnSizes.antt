-- A coder's pictures can be coded, and its slices are those of the film's coder.
use Rattle.std.proofs.Common.{◌≡◌, ◌≤◌, ℕ, Bool, true, false, Option, None, ap}
use Rattle.spec_film_coder.specs.Pictures.{slices_to, head_at, plain_rule, coarsest_rule, plain_picture, coarsest_picture}
use Rattle.picture_coder.specs.declared.coder.PictureCoder.{PictureCoder}
use Rattle.picture_coder.specs.declared.job.Job.{Job}
use Rattle.picture_coder.specs.Jobs.{IsMoved, held_in, source_in}
use Rattle.picture_coder.specs.Pictures.{IsCoding, first_slices}
use Rattle.picture_coder.specs.Coders.{HasOwnSizes, IsFor, shape_for, plain_for, coarsest_for, coding_for}

pub own_coding : (c : PictureCoder) (j : Job) (qp : ℕ) (coarsest : Bool) → HasOwnSizes c → IsFor c j → qp ≤ 51 → (coarsest ≡ true → qp ≡ 51) → IsCoding (coding_for c qp coarsest) j c.reference.picture
own_coding c j qp coarsest sizes is small greatest = record {
  job = is.job;
  wide = sizes.luma.0;
  high = sizes.luma.1;
  across_some = c.across_fits.0;
  across_fits = c.across_fits.1;
  down_fits = c.down_fits.1;
  some = c.slices_fit.0;
  few = c.slices_fit.1;
  qp = small;
  greatest = greatest;
}

pub plain_is : (c : PictureCoder) (j : Job) (qp : ℕ) → IsMoved j → first_slices (coding_for c qp false) j c.slices ≡ plain_for c j qp
unfolding plain_picture
plain_is c j qp moved = ap (λ (o : Option ℕ). slices_to (shape_for c j) (held_in j) (head_at j.step (held_in j) j.idr_id o qp) (plain_rule (shape_for c j) (held_in j) (source_in j)) c.slices) moved

pub coarsest_is : (c : PictureCoder) (j : Job) → j.moved ≡ None → first_slices (coding_for c 51 true) j c.slices ≡ coarsest_for c j
unfolding coarsest_picture
coarsest_is c j plain = ap (λ (o : Option ℕ). slices_to (shape_for c j) (held_in j) (head_at j.step (held_in j) j.idr_id o 51) (coarsest_rule (shape_for c j) (held_in j) (source_in j)) c.slices) plain
