-- What a group leaves behind.
use Rattle.std.specs.Prelude.{ℕ, ◌≡◌, List, [], Some, None, Result, Ok, Err}
use Rattle.enc_edge.specs.declared.studio.Out.{Out}
use Rattle.enc_edge.specs.declared.studio.Out.TheVariants.{Stream, Recon, Report}
use Rattle.enc_edge.specs.declared.studio.Place.TheVariants.{Output}
use Rattle.enc_edge.specs.Seen.{Seen}
use Rattle.enc_edge.specs.Calls.{LaterFailed, wrote}
use Rattle.spec_decoder.specs.Macroblocks.{Slice as Read}
use Rattle.spec_coding.specs.Encoding.{State, Coded, Went}
use Rattle.spec_session.specs.Settings.{SessionSettings}
use Rattle.spec_session.specs.Outputs.{Outputs, AreFronts, group_text}
use Rattle.enc_session.specs.declared.ends.GroupEnd.{GroupEnd}
use Rattle.enc_session.specs.declared.ends.GroupEnd.TheVariants.{Buffer, Write}

-- something was written to each output
abbrev pub added : Outputs → Seen → Seen
added t s = wrote (Output Recon) t.recon (wrote (Output Report) t.report (wrote (Output Stream) t.stream s))

-- all that is due of pictures of a group was written, where so many pictures were coded before it
abbrev pub grown : SessionSettings → ℕ → List (Coded Read) → Seen → Seen
grown f coded ds s = added (group_text f coded ds) s

-- a write to `out` failed: a front of what is due was written to each output, then that output's count of later faults rose
pub record CutShort (out : Out) (due : Outputs) (old new : Seen) : Type 0 where
  pub written : Outputs
  pub fronts : AreFronts written due
  pub failed : LaterFailed (Output out) (added written old) new

-- By how a group ended that was coded from state s0 on, and went as w says. Behind a refused picture what was coded before it is written;
-- what the session keeps is told where the group was coded to its end.
abbrev pub GroupLeft : SessionSettings → State → Went Read → Seen → Seen → State → Result (Unit {0}) GroupEnd → Type 0
GroupLeft f s0 w old new s (Ok done) = (w.refused ≡ None) × (s ≡ w.end) × (new ≡ grown f s0.ledger.units w.done old)
GroupLeft f s0 w old new s (Err (Buffer picture need have)) = (w.refused ≡ Some (record { picture = picture; need = need; have = have })) × (new ≡ grown f s0.ledger.units w.done old)
GroupLeft f s0 w old new s (Err (Write out)) = CutShort out (group_text f s0.ledger.units w.done) old new

-- ---- one picture

abbrev pub with_line : List ℕ → List ℕ → Outputs
with_line unit line = record { stream = unit; recon = []; report = line }

-- its access unit and its line were written, or a write failed
abbrev pub UnitLeft : List ℕ → List ℕ → Seen → Seen → Result (Unit {0}) Out → Type 0
UnitLeft unit line old new (Ok done) = new ≡ wrote (Output Report) line (wrote (Output Stream) unit old)
UnitLeft unit line old new (Err out) = CutShort out (with_line unit line) old new
