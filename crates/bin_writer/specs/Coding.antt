-- Bins of syntax elements, coded one after another: the coder, and the states of the contexts, which follow the bins (ITU-T H.264, clause 9.3.4).
use Rattle.std.specs.Prelude.{◌≡◌, ◌+◌, ◌<◌, ◌⊎◌, ◌↔◌, Result, IsErr, OnOk, OnErr, Bool, true, false, cond, ◌||◌, nat_lt, List, [], ◌∷◌, length}
use Rattle.enc_tables.specs.declared.records.CtxState.{CtxState}
use Rattle.spec_contexts.specs.States.{AllKnown}
use Rattle.spec_cabac.specs.Code.{Coded, step, run}
use Rattle.spec_cabac.specs.Bins.Bin.{Answered}
use Rattle.spec_syntax.specs.declared.Bin.{Bin}
use Rattle.spec_slice_data.specs.Decoding.{request, after, after_all}
use Rattle.spec_slice_data.specs.Coding.{asked, ends_code, GoesOn}
use Rattle.cabac_coder.specs.State.{CoderState, coded_of, stepped, FullAt}
use Rattle.cabac_contexts.specs.declared.states.Contexts.{Contexts}

pub record Coding : Type 0 where
  pub coder : CoderState
  pub states : List CtxState

abbrev pub coding : CoderState → List CtxState → Coding
coding coder states = record { coder = coder; states = states }

abbrev pub seen : CoderState → Contexts → Coding
seen coder contexts = coding coder contexts.states

-- the bits of a code that ends at f don't fit, or an earlier bin didn't
abbrev pub is_full_at : CoderState → Coded → Bool
is_full_at s f = s.full || nat_lt s.room (length s.start + (f.shifts + 9))

-- where a bin leads
abbrev pub bin_step : Coding → Bin → Coded
bin_step s b = step (Answered (request s.states b.ctx) b.bit) (coded_of s.coder)

-- a bin that doesn't end the code. From the first one that doesn't fit nothing changes any more, but that the coder is full
unfoldable pub code_bin : Coding → Bin → Coding
code_bin s b =
    cond (is_full_at s.coder (bin_step s b))
    (coding (record s.coder { full = true }) s.states)
    (coding (stepped s.coder (bin_step s b) false) (after s.states b))

unfoldable pub code_all : Coding → List Bin → Coding
code_all s [] = s
code_all s (b ∷ bins) = code_all (code_bin s b) bins

-- a bin can follow: the code hasn't ended, and each state is one of the arithmetic coder's
pub record IsReady (s : Coding) : Type 0 where
  pub live : s.coder.ended ≡ false
  pub known : AllKnown s.states

-- these bins lead from start to now, and none of them ends the code
pub record Codes (start : Coding) (bins : List Bin) (now : Coding) : Type 0 where
  pub same : now ≡ code_all start bins
  pub ready : IsReady now
  pub goes_on : GoesOn bins

-- the same of bins without a state: the states stay, whatever they are
pub record CodesPlain (start : CoderState) (bins : List Bin) (now : CoderState) : Type 0 where
  pub coded : (states : List CtxState) → AllKnown states → Codes (coding start states) bins (coding now states)
  pub live : now.ended ≡ false

-- a bin by bypass, or by a context that has a state
abbrev pub IsCodable : Bin → Type 0
IsCodable b = (b.ctx ≡ 1000) ⊎ ((b.ctx < 436) × (ends_code b ≡ false))

-- ---- bins in one

-- where bins lead
abbrev pub bins_step : Coding → List Bin → Coded
bins_step s bins = run (asked s.states bins) (coded_of s.coder)

-- one of the bins didn't fit: nothing is known of the code's number then, and of the states
pub record Stopped (old new : CoderState) : Type 0 where
  pub full : new.full ≡ true
  pub start : new.start ≡ old.start
  pub room : new.room ≡ old.room
  pub made : new.made ≡ old.made
  pub live : new.ended ≡ false

-- an answer to bins, of which there is one at least. It is Full exactly where the bits of a code that ends behind one of them pass the room, or a bin before didn't fit; else the code's number and the states have gone on by these bins
pub record Written {A E : Type 0} (answer : Result A E) (old : Coding) (bins : List Bin) (new : Coding) : Type 0 where
  pub full : IsErr answer ↔ FullAt old.coder (bins_step old bins)
  pub ok : OnOk answer (new ≡ coding (stepped old.coder (bins_step old bins) false) (after_all old.states bins))
  pub err : OnErr answer (Stopped old.coder new.coder)
