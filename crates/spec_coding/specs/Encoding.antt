-- The encoding of pictures, step by step. What one picture's coding is, and when it is refused, is left open.
use Rattle.std.specs.Prelude.{ℕ, Bool, List, [], ◌∷◌, ◌++◌, map, Option, Some, None}
use Rattle.enc_tables.specs.declared.records.PlanStep.{PlanStep}
use Rattle.spec_film.specs.Films.{Planes}
use Rattle.spec_headers.specs.declared.heads.SeqHead.{SeqHead}
use Rattle.spec_bits.specs.Units.{Nal}
use Rattle.spec_decoder.specs.Output.{placed, pictures_in}
use Rattle.spec_lists.specs.References.{Reference}
use Rattle.spec_buffer.specs.Ledger.{Ledger}
use Rattle.spec_decoder.specs.Pictures.{Reading, shown_planes}
use Rattle.spec_pictures.specs.Coded.{CodedSlice}
use Rattle.spec_pictures.specs.Accesses.{Access, picture_of, held_after, accesses_bytes}

-- what is kept between two steps
pub record State : Type 0 where
  pub held : List Reference
  pub ledger : Ledger
  -- how many IDR pictures there were, and how many units before the last of them
  pub idrs : ℕ
  pub last_idr : ℕ
  -- how many candidates were compared
  pub compared : ℕ

-- the coding of a picture that is taken
pub record Picked (S : Type 0) : Type 0 where
  pub qp : ℕ
  pub coarsest : Bool
  pub before : List Nal
  pub slices : List (CodedSlice S)
  pub behind : List Nal
  -- the bits of its unit without filler, the bytes of filler, and the bits that were there
  pub bits : ℕ
  pub filler : ℕ
  pub have : ℕ
  pub compared : ℕ

pub record Refusal : Type 0 where
  -- its place in display order
  pub picture : ℕ
  pub need : ℕ
  pub have : ℕ

pub data Chosen (S : Type 0) : Type 0 where
  Fits : Picked S → Chosen S
  Refused : ℕ → ℕ → Chosen S

-- what the layers below define: the coding of a picture in a state, and what a coding does to what is kept beside the references
pub record Choice (S : Type 0) : Type 0 where
  pub chosen : State → PlanStep → Planes → Chosen S
  pub moved : State → PlanStep → Picked S → State

pub record Coded (S : Type 0) : Type 0 where
  pub access : Access S
  pub picked : Picked S
  pub picture : Reference

abbrev pub access_of : {S : Type 0} → PlanStep → Picked S → Access S
access_of st p = record { step = st; before = p.before; slices = p.slices; behind = p.behind }

unfoldable pub coded : {S : Type 0} → Reading S → SeqHead → State → PlanStep → Picked S → Coded S
coded r q s st p = record { access = access_of st p; picked = p; picture = picture_of r q s.held (access_of st p) }

unfoldable pub after : {S : Type 0} → Reading S → SeqHead → Choice S → State → PlanStep → Picked S → State
after r q c s st p = record (c.moved s st p) { held = held_after r q s.held (access_of st p) }

-- what was coded, what is kept behind it, and whether a picture was refused
pub record Went (S : Type 0) : Type 0 where
  pub done : List (Coded S)
  pub end : State
  pub refused : Option Refusal

abbrev pub behind : {S : Type 0} → List (Coded S) → Went S → Went S
behind ds w = record { done = ds ++ w.done; end = w.end; refused = w.refused }

-- one step, and what goes on from the state after it
unfoldable pub went_on : {S : Type 0} → Reading S → SeqHead → Choice S → State → PlanStep → (State → Went S) → Chosen S → Went S
went_on r q c s st more (Refused need have) = record { done = []; end = s; refused = Some (record { picture = st.display; need = need; have = have }) }
went_on r q c s st more (Fits p) = behind (coded r q s st p ∷ []) (more (after r q c s st p))

-- steps with their pictures, from a state on, up to the first refusal
unfoldable pub encoded : {S : Type 0} → Reading S → SeqHead → Choice S → State → List (PlanStep × Planes) → Went S
encoded r q c s [] = record { done = []; end = s; refused = None }
encoded r q c s (x ∷ xs) = went_on r q c s x.0 (λ t. encoded r q c t xs) (c.chosen s x.0 x.1)

-- what an encoding writes, in coded order and in display order
abbrev pub accesses_of : {S : Type 0} → List (Coded S) → List (Access S)
accesses_of ds = map (λ d. d.access) ds

abbrev pub spelled : {S : Type 0} → SeqHead → Bool × Bool → List (Coded S) → List ℕ
spelled q flags ds = accesses_bytes q flags (accesses_of ds)

abbrev pub shown_at : {S : Type 0} → SeqHead → Coded S → ℕ × Planes
shown_at q d = (d.access.step.display, shown_planes q d.picture.planes)

unfoldable pub placed_all : {S : Type 0} → SeqHead → List (ℕ × Planes) → List (Coded S) → List (ℕ × Planes)
placed_all q before [] = before
placed_all q before (d ∷ ds) = placed_all q (placed (shown_at q d) before) ds

abbrev pub in_order : {S : Type 0} → SeqHead → List (Coded S) → List Planes
in_order q ds = pictures_in (placed_all q [] ds)
