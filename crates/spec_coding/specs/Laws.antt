-- What is said of encodings, and what the layers below owe.
use Rattle.std.specs.Prelude.{ℕ, ◌≡◌, ◌≤◌, ◌*◌, ◌%◌, List, [], ◌∷◌, map, Option, Some, None}
use Rattle.enc_tables.specs.declared.records.PlanStep.{PlanStep}
use Rattle.spec_film.specs.Films.{Planes}
use Rattle.spec_headers.specs.declared.heads.SeqHead.{SeqHead}
use Rattle.spec_headers.specs.declared.heads.SliceHead.{SliceHead}
use Rattle.spec_lists.specs.References.{kept}
use Rattle.spec_lists.specs.Heads.{idr_id_of}
use Rattle.spec_buffer.specs.Buffer.{scale, share_of}
use Rattle.spec_buffer.specs.Ledger.{available}
use Rattle.spec_headers.specs.MessageReaders.{AreDelays}
use Rattle.spec_decoder.specs.Pictures.{Reading}
use Rattle.spec_pictures.specs.Coded.{slices_in}
use Rattle.spec_pictures.specs.Accesses.{Covers, id_in}
use Rattle.spec_coding.specs.Encoding.{State, Picked, Fits, Refusal, Coded, Went, behind, after}
use Rattle.spec_coding.specs.Trials.{Coder, Film, Trial, coarsest_trial, delays_of, slices_by, bits_by, picked_by, choice_of}

-- the steps of pictures, and their places in display order
abbrev pub steps_of : List (PlanStep × Planes) → List PlanStep
steps_of xs = map (λ x. x.0) xs

abbrev pub places : List (PlanStep × Planes) → List ℕ
places xs = map (λ x. x.0.display) xs

-- what goes on behind steps, where none of them was refused
abbrev pub go_on : {S : Type 0} → (State → Went S) → Went S → Option Refusal → Went S
go_on more w None = behind w.done (more w.end)
go_on more w (Some refusal) = w

-- what is picked is a trial that fits
pub record IsTrial {S : Type 0} (f : Film) (c : Coder S) (s : State) (st : PlanStep) (source : Planes) (p : Picked S) : Type 0 where
  pub trial : Trial
  pub qp : trial.qp ≤ 51
  pub same : p ≡ picked_by f c s st source trial
  pub small : bits_by f c s st source trial ≤ available f.rate s.ledger

-- the bits and the filler of each unit
abbrev pub spendings : {S : Type 0} → List (Coded S) → List (ℕ × ℕ)
spendings ds = map (λ d. (d.picked.bits, d.picked.filler)) ds

-- ---- the buffer: each coarsest unit has at most a picture's share, and the first one fits

abbrev pub AreSmall : {S : Type 0} → Reading S → SeqHead → Film → Coder S → State → List (PlanStep × Planes) → Type 0
AreSmall r q f c s [] = Unit {0}
AreSmall r q f c s (x ∷ xs) =
    (scale f.rate * bits_by f c s x.0 x.1 coarsest_trial ≤ share_of f.rate)
    × ((p : Picked _) → (choice_of f c).chosen s x.0 x.1 ≡ Fits p → AreSmall r q f c (after r q (choice_of f c) s x.0 p) xs)

abbrev pub FirstFits : {S : Type 0} → Film → Coder S → State → List (PlanStep × Planes) → Type 0
FirstFits f c s [] = Unit {0}
FirstFits f c s (x ∷ xs) = bits_by f c s x.0 x.1 coarsest_trial ≤ available f.rate s.ledger

-- ---- what the coder's layers prove: each trial's slices cover the picture and are read back, and what is kept goes on to be sound

pub record CoderLaws {S : Type 0} (r : Reading S) (q : SeqHead) (f : Film) (c : Coder S) (Sound : State → List (PlanStep × Planes) → Type 0) : Type 0 where
  pub covers : (s : State) (x : PlanStep × Planes) (xs : List (PlanStep × Planes)) (t : Trial) → t.qp ≤ 51 → Sound s (x ∷ xs) → (lead : SliceHead) × Covers r q f.flags (kept x.0.idr s.held) lead x.0 0 (slices_by c s x.0 x.1 t)
  -- an IDR picture has the number of those before it, modulo 2
  pub names : (s : State) (x : PlanStep × Planes) (xs : List (PlanStep × Planes)) (t : Trial) → t.qp ≤ 51 → Sound s (x ∷ xs) → id_in r (slices_in (slices_by c s x.0 x.1 t)) ≡ idr_id_of x.0.idr (s.idrs % 2)
  pub delays : (s : State) (x : PlanStep × Planes) (xs : List (PlanStep × Planes)) → Sound s (x ∷ xs) → AreDelays (delays_of f s x.0)
  pub keeps : (s : State) (x : PlanStep × Planes) (xs : List (PlanStep × Planes)) (t : Trial) → Sound s (x ∷ xs) → Sound (after r q (choice_of f c) s x.0 (picked_by f c s x.0 x.1 t)) xs
