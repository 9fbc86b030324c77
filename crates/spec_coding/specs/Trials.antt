-- The trials of a picture, the filler, and the delays, by the ledger.
use Rattle.std.specs.Prelude.{ℕ, zero, suc, ◌+◌, ◌-◌, ◌*◌, ◌/◌, ◌==◌, nat_le, Bool, true, false, List, [], ◌∷◌, ◌++◌, length, map, Option, Some, None, if◌then◌else◌}
use Rattle.enc_tables.specs.declared.records.PlanStep.{PlanStep}
use Rattle.spec_film.specs.Films.{Planes}
use Rattle.spec_headers.specs.declared.heads.SeqHead.{SeqHead}
use Rattle.spec_headers.specs.HeadFields.{payload_of}
use Rattle.spec_headers.specs.MessageFields.{message_fields}
use Rattle.spec_bits.specs.Units.{Nal, filler_payload}
use Rattle.spec_lists.specs.References.{Reference, kept}
use Rattle.spec_buffer.specs.Buffer.{Rate}
use Rattle.spec_plan.specs.Delays.{removal_ticks, output_ticks}
use Rattle.spec_buffer.specs.Ledger.{available, filler_bytes, spent, start_qp, initial_delay}
use Rattle.spec_headers.specs.MessageReaders.{Delays}
use Rattle.spec_pictures.specs.Coded.{CodedSlice}
use Rattle.spec_pictures.specs.Accesses.{Access, access_bytes}
use Rattle.spec_coding.specs.Encoding.{State, Picked, Chosen, Fits, Refused, Choice}

-- how pictures are coded: by the references that are held, the step, the number of earlier IDR pictures and the quantisation parameter;
-- the coarsest coding; and the comparisons that planning makes
pub record Coder (S : Type 0) : Type 0 where
  pub plain : List Reference → PlanStep → ℕ → ℕ → Planes → List (CodedSlice S)
  pub coarsest : List Reference → PlanStep → ℕ → Planes → List (CodedSlice S)
  pub compared : List Reference → PlanStep → Planes → ℕ

-- how a film is coded
pub record Film : Type 0 where
  pub sequence : SeqHead
  pub flags : Bool × Bool
  pub rate : Rate
  -- whether there are B pictures
  pub reorders : Bool

-- ---- trials

pub record Trial : Type 0 where
  pub qp : ℕ
  pub coarsest : Bool

-- start, start + 3 and so on while less than 51, then 51
unfoldable pub steps_to_51 : ℕ → ℕ → List ℕ
steps_to_51 zero q = 51 ∷ []
steps_to_51 (suc n) q = q ∷ steps_to_51 n (q + 3)

abbrev pub trial_qps : ℕ → List ℕ
trial_qps start = steps_to_51 ((53 - start) / 3) start

abbrev pub plain_trial : ℕ → Trial
plain_trial q = record { qp = q; coarsest = false }

abbrev pub coarsest_trial : Trial
coarsest_trial = record { qp = 51; coarsest = true }

abbrev pub trials : ℕ → List Trial
trials start = map plain_trial (trial_qps start) ++ coarsest_trial ∷ []

-- the first of them with at most so many bits
unfoldable pub first_fit : (Trial → ℕ) → ℕ → List Trial → Option Trial
first_fit bits have [] = None
first_fit bits have (t ∷ ts) = if nat_le (bits t) have then Some t else first_fit bits have ts

-- ---- delays (clauses D.2.2 and D.2.3)

-- a buffering period begins with each IDR picture
abbrev pub removal_delay : State → ℕ
removal_delay s = removal_ticks s.ledger.units s.last_idr

abbrev pub output_delay : Bool → State → PlanStep → ℕ
output_delay reorders s st = output_ticks reorders st.display s.ledger.units

abbrev pub delays_of : Film → State → PlanStep → Delays
delays_of f s st = record {
  initial = if st.idr then Some (initial_delay f.rate s.ledger) else None;
  removal = removal_delay s;
  output = output_delay f.reorders s st;
}

-- the messages of both types (clauses D.1.2 and D.1.3)
abbrev pub supplement_unit : Delays → Nal
supplement_unit d = record { ref_idc = 0; kind = 6; payload = payload_of (message_fields d.initial d.removal d.output) }

abbrev pub filler_units : ℕ → List Nal
filler_units n = if n == 0 then [] else record { ref_idc = 0; kind = 12; payload = filler_payload n } ∷ []

-- ---- the choice

-- the slices of a trial, and its unit with so many bytes of filler
unfoldable pub slices_by : {S : Type 0} → Coder S → State → PlanStep → Planes → Trial → List (CodedSlice S)
slices_by c s st source t =
    if t.coarsest then c.coarsest (kept st.idr s.held) st s.idrs source else c.plain (kept st.idr s.held) st s.idrs t.qp source

abbrev pub unit_by : {S : Type 0} → Film → Coder S → State → PlanStep → Planes → ℕ → Trial → Access S
unit_by f c s st source filler t =
    record { step = st; before = supplement_unit (delays_of f s st) ∷ []; slices = slices_by c s st source t; behind = filler_units filler }

unfoldable pub bits_by : {S : Type 0} → Film → Coder S → State → PlanStep → Planes → Trial → ℕ
bits_by f c s st source t = 8 * length (access_bytes f.sequence f.flags (unit_by f c s st source 0 t))

unfoldable pub picked_by : {S : Type 0} → Film → Coder S → State → PlanStep → Planes → Trial → Picked S
picked_by f c s st source t = record {
  qp = t.qp;
  coarsest = t.coarsest;
  before = supplement_unit (delays_of f s st) ∷ [];
  slices = slices_by c s st source t;
  behind = filler_units (filler_bytes f.rate s.ledger (bits_by f c s st source t));
  bits = bits_by f c s st source t;
  filler = filler_bytes f.rate s.ledger (bits_by f c s st source t);
  have = available f.rate s.ledger;
  compared = c.compared (kept st.idr s.held) st source;
}

unfoldable pub by_trial : {S : Type 0} → Film → Coder S → State → PlanStep → Planes → Option Trial → Chosen S
by_trial f c s st source None = Refused (bits_by f c s st source coarsest_trial) (available f.rate s.ledger)
by_trial f c s st source (Some t) = Fits (picked_by f c s st source t)

-- what is kept behind a picture, but for the references
unfoldable pub moved_by : {S : Type 0} → Film → State → PlanStep → Picked S → State
moved_by f s st p = record {
  held = s.held;
  ledger = spent f.rate s.ledger p.bits p.filler;
  idrs = if st.idr then s.idrs + 1 else s.idrs;
  last_idr = if st.idr then s.ledger.units else s.last_idr;
  compared = s.compared + p.compared;
}

-- the first trial whose unit has at most the bits that are there
abbrev pub choice_of : {S : Type 0} → Film → Coder S → Choice S
choice_of f c = record {
  chosen = λ s st source. by_trial f c s st source (first_fit (bits_by f c s st source) (available f.rate s.ledger) (trials (start_qp st.kind s.ledger.qp)));
  moved = λ s st p. moved_by f s st p;
}
