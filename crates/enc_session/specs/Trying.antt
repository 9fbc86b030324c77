-- The trials of a picture, each behind the units that stand before its slices.
use Rattle.std.specs.Prelude.{ℕ, ◌≡◌, ◌≤◌, ◌<◌, ◌+◌, Bool, true, false, List, ◌++◌, length, map, Option, Some, None, Result, Ok, Err, if◌then◌else◌}
use Rattle.enc_tables.specs.declared.records.PlanStep.{PlanStep}
use Rattle.bit_strings.specs.BitText.{BitText}
use Rattle.spec_film.specs.Films.{Planes}
use Rattle.spec_lists.specs.References.{Reference as Shown}
use Rattle.spec_slice_payload.specs.Layer.{Slice}
use Rattle.spec_film_coder.specs.Pictures.{Shape, plain_picture, coarsest_picture}
use Rattle.spec_coding.specs.Trials.{Trial, plain_trial, coarsest_trial, trial_qps, trials, first_fit}
use Rattle.ref_lists.specs.declared.held.Reference.{Reference}
use Rattle.picture_coder.specs.declared.coder.PictureCoder.{PictureCoder}
use Rattle.picture_coder.specs.declared.job.Job.{Job}
use Rattle.picture_coder.specs.Coders.{shape_for}
use Rattle.picture_coder.specs.Jobs.{held_in, source_in}
use Rattle.picture_coder.specs.Kept.{IsKept, shown_by}
use Rattle.picture_coder.specs.Units.{bits_for}
use Rattle.enc_session.specs.declared.trials.Pick.{Pick}

-- a picture that is to be coded: its shape, the references that are held, its step, its idr_pic_id, where it is an IDR picture, and its source
pub record Asked : Type 0 where
  pub shape : Shape
  pub held : List Shown
  pub step : PlanStep
  pub idr_id : ℕ
  pub source : Planes

abbrev pub asked_by : PictureCoder → Job → Asked
asked_by c j = record { shape = shape_for c j; held = held_in j; step = j.step; idr_id = j.idr_id; source = source_in j }

-- the slices of a trial, and the bits of their units behind others
abbrev pub slices_at : Asked → Trial → List Slice
slices_at a t = if t.coarsest then coarsest_picture a.shape a.held a.step a.idr_id a.source else plain_picture a.shape a.held a.step a.idr_id t.qp a.source

abbrev pub trial_text : Asked → Trial → List Bool
trial_text a t = bits_for a.shape false a.step (slices_at a t)

-- how long the whole unit is, behind so many bits
abbrev pub trial_bits : ℕ → Asked → Trial → ℕ
trial_bits begun a t = begun + length (trial_text a t)

abbrev pub trial_of : Pick → Trial
trial_of p = record { qp = p.qp; coarsest = p.coarsest }

-- a trial was taken, and its picture is kept
pub record IsTaken (a : Asked) (t : Trial) (old new : BitText) (kept : Reference) : Type 0 where
  pub small : t.qp ≤ 51
  pub fits : trial_bits (length old.text) a t ≤ old.room
  pub text : new ≡ record old { text = old.text ++ trial_text a t }
  pub shown : IsKept kept (shown_by a.shape a.held a.step (slices_at a t))

abbrev pub TryLeft : Asked → Trial → BitText → BitText → Reference → Bool → Type 0
TryLeft a t old new kept true = IsTaken a t old new kept
TryLeft a t old new kept false = (old.room < trial_bits (length old.text) a t) × (new ≡ old)

-- of the trials by the written choice the first that fits, or none
abbrev pub PlainLeft : Asked → ℕ → BitText → BitText → Reference → Option ℕ → Type 0
PlainLeft a start old new kept (Some q) = (first_fit (trial_bits (length old.text) a) old.room (map plain_trial (trial_qps start)) ≡ Some (plain_trial q)) × IsTaken a (plain_trial q) old new kept
PlainLeft a start old new kept None = (first_fit (trial_bits (length old.text) a) old.room (map plain_trial (trial_qps start)) ≡ None) × (new ≡ old)

-- the coarsest one, or what it needs, which is more than there is
abbrev pub CoarsestLeft : Asked → BitText → BitText → Reference → Result Pick ℕ → Type 0
CoarsestLeft a old new kept (Ok p) = (trial_of p ≡ coarsest_trial) × IsTaken a coarsest_trial old new kept
CoarsestLeft a old new kept (Err need) = (need ≡ trial_bits (length old.text) a coarsest_trial) × (old.room < need)

-- the first of all trials that fits, or what the last one needs
abbrev pub PickLeft : Asked → ℕ → ℕ → BitText → BitText → Reference → Result Pick ℕ → Type 0
PickLeft a start have old new kept (Ok p) =
    (first_fit (trial_bits (length old.text) a) have (trials start) ≡ Some (trial_of p)) × IsTaken a (trial_of p) (record old { room = have }) new kept
PickLeft a start have old new kept (Err need) =
    (first_fit (trial_bits (length old.text) a) have (trials start) ≡ None) × (need ≡ trial_bits (length old.text) a coarsest_trial)
