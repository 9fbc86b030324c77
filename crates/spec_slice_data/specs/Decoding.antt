-- Bins as the arithmetic decoder is asked for them: the states of the contexts follow the bins (ITU-T H.264, clauses 9.3.1 and 9.3.3.2).
use Rattle.std.specs.Prelude.{ℕ, ◌==◌, Bool, List, [], ◌∷◌, Option, Some, None, option_and_then, if◌then◌else◌, slice_index_or, slice_set}
use Rattle.enc_tables.specs.declared.records.CtxState.{CtxState}
use Rattle.enc_tables.specs.Arithmetic.{state_after}
use Rattle.spec_contexts.specs.States.{no_state}
use Rattle.spec_cabac.specs.Bins.{Request}
use Rattle.spec_cabac.specs.Bins.Request.{Context, Bypass, Terminate}
use Rattle.spec_cabac.specs.Decoder.{Reader, answer, started}
use Rattle.spec_syntax.specs.declared.Bin.{Bin}
use Rattle.spec_syntax.specs.Syntax.{Syntax, done, nothing, ask, take, at}

-- by the number of a bin's context: 1000 is a bypass decision, 276 a decision before termination, and any other has a state
abbrev pub is_bypass : ℕ → Bool
is_bypass c = c == 1000

abbrev pub is_terminate : ℕ → Bool
is_terminate c = c == 276

abbrev pub request : List CtxState → ℕ → Request
request states c = if is_bypass c then Bypass else if is_terminate c then Terminate else Context (slice_index_or states c no_state)

-- the states after a bin: that of its context follows it
abbrev pub after : List CtxState → Bin → List CtxState
after states b =
    if is_bypass b.ctx then states
    else if is_terminate b.ctx then states
    else slice_set states b.ctx (state_after (slice_index_or states b.ctx no_state) b.bit)

unfoldable pub after_all : List CtxState → List Bin → List CtxState
after_all states [] = states
after_all states (b ∷ bins) = after_all (after states b) bins

-- what was read, with the states and the decoder behind it
pub record Decoded (A : Type 0) : Type 0 where
  pub value : A
  pub states : List CtxState
  pub decoder : Reader

-- the value that the arithmetic decoder reads, asked bin by bin. The samples of I_PCM macroblocks aren't read by it: there it gives nothing
unfoldable pub decoded : {A : Type 0} → Syntax A → List CtxState → Reader → Option (Decoded A)
decoded (done a) states r = Some (record { value = a; states = states; decoder = r })
decoded nothing states r = None
decoded (take next) states r = None
decoded (ask c next) states r = option_and_then (λ a. decoded (next a.bit) (after states (at c a.bit)) a.after) (answer (request states c) r)

-- the same from the first bits of a code on
unfoldable pub decoded_from : {A : Type 0} → Syntax A → List CtxState → List Bool → Option (Decoded A)
decoded_from s states bits = option_and_then (decoded s states) (started bits)
