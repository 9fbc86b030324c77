-- The B pictures of a group, one after another.
use Rattle.std.specs.Prelude.{ℕ, ◌≡◌, ◌≤◌, ◌<◌, ◌+◌, Bool, false, List, [], ◌∷◌, length, map, take, Some, None, Result, Ok, Err, if◌then◌else◌}
use Rattle.enc_edge.specs.declared.studio.Out.TheVariants.{Stream, Report}
use Rattle.enc_edge.specs.declared.studio.Place.TheVariants.{Output}
use Rattle.enc_edge.specs.Seen.{Seen}
use Rattle.enc_edge.specs.Calls.{wrote}
use Rattle.enc_tables.specs.declared.records.PlanStep.{PlanStep}
use Rattle.enc_tables.specs.declared.records.SliceKind.TheVariants.{B}
use Rattle.spec_film.specs.Films.{Planes}
use Rattle.spec_lists.specs.References.{Reference as Shown}
use Rattle.spec_plan.specs.Marks.{mark, KindFits}
use Rattle.spec_decoder.specs.Macroblocks.{Slice as Read}
use Rattle.spec_coding.specs.Encoding.{State, Coded}
use Rattle.spec_coding.specs.Report.{picture_lines}
use Rattle.spec_film_coder.specs.Sound.{StepFits}
use Rattle.spec_session.specs.Settings.{SessionSettings}
use Rattle.spec_session.specs.Encodings.{encoding_from, stream_of}
use Rattle.ref_lists.specs.Entries.{next_number}
use Rattle.enc_session.specs.declared.ends.GroupEnd.{GroupEnd}
use Rattle.enc_session.specs.declared.ends.GroupEnd.TheVariants.{Buffer, Write}
use Rattle.enc_session.specs.Left.{CutShort, with_line}

-- steps with their pictures
abbrev pub paired : List PlanStep → List Planes → List (PlanStep × Planes)
paired [] ps = []
paired (st ∷ sts) [] = []
paired (st ∷ sts) (p ∷ ps) = (st, p) ∷ paired sts ps

-- a B picture that refers to these references
pub record IsBetween (held : List Shown) (st : PlanStep) : Type 0 where
  pub kind : st.kind ≡ B
  pub idr : st.idr ≡ false
  pub step : StepFits st.idr st.kind st
  pub marks : KindFits B st.poc st.frame_num (map mark held)
  pub number : st.frame_num ≡ next_number held
  pub display : st.display < 1000000

-- each is shown when it is there, or later; units: how many come before the first
abbrev pub AreLate : Bool → ℕ → List PlanStep → Type 0
AreLate reorders units [] = Unit {0}
AreLate reorders units (st ∷ sts) = (units ≤ st.display + (if reorders then 1 else 0)) × AreLate reorders (units + 1) sts

-- access units and lines of pictures were written, behind so many others
abbrev pub spoken : SessionSettings → ℕ → List (Coded Read) → Seen → Seen
spoken f units ds s = wrote (Output Report) (picture_lines units ds) (wrote (Output Stream) (stream_of f ds) s)

-- by how coding them ended: all were coded, one was refused behind these, or a write failed
abbrev pub EndedBy : SessionSettings → State → List (PlanStep × Planes) → List (Coded Read) → Seen → Seen → State → Result (Unit {0}) GroupEnd → Type 0
EndedBy f s0 xs ds old new s (Ok done) = (encoding_from f s0 xs ≡ record { done = ds; end = s; refused = None }) × (new ≡ spoken f s0.ledger.units ds old)
EndedBy f s0 xs ds old new s (Err (Buffer picture need have)) =
    ((t : State) × (encoding_from f s0 xs ≡ record { done = ds; end = t; refused = Some (record { picture = picture; need = need; have = have }) })) × (new ≡ spoken f s0.ledger.units ds old)
EndedBy f s0 xs ds old new s (Err (Write out)) =
    CutShort out (with_line (stream_of f (encoding_from f s0 xs).done) (picture_lines s0.ledger.units (encoding_from f s0 xs).done)) old new

-- so many were coded, whose pictures are these
pub record BetweenLeft (f : SessionSettings) (s0 : State) (xs : List (PlanStep × Planes)) (old new : Seen) (s : State) (pictures : List Planes) (n : ℕ) (r : Result (Unit {0}) GroupEnd) : Type 0 where
  pub done : List (Coded Read)
  pub count : length done ≡ n
  pub shown : map (λ (d : Coded Read). d.picture.planes) done ≡ take n pictures
  pub steps : map (λ (d : Coded Read). d.access.step) done ≡ take n (map (λ (x : PlanStep × Planes). x.0) xs)
  pub ended : EndedBy f s0 xs done old new s r
