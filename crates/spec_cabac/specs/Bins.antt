-- What the arithmetic decoder is asked for, and its answers (ITU-T H.264, clause 9.3.3.2).
use Rattle.std.specs.Prelude.{◌≡◌, Bool, true, false, List, [], ◌∷◌}
use Rattle.enc_tables.specs.declared.records.CtxState.{CtxState}

-- a decision by a context, whose state is at most 63; a bypass decision; and whether the code ends
pub data Request : Type 0 where
  Context : CtxState → Request
  Bypass : Request
  Terminate : Request

-- a request with its answer
pub data Bin : Type 0 where
  Answered : Request → Bool → Bin

abbrev pub request_of : Bin → Request
request_of (Answered q b) = q

abbrev pub answer_of : Bin → Bool
answer_of (Answered q b) = b

abbrev pub is_end : Bin → Bool
is_end (Answered Terminate true) = true
is_end _ = false

-- the last bin, and no other, is a terminate 1
abbrev pub EndsOnce : List Bin → Type 0
EndsOnce [] = ⊥
EndsOnce (b ∷ bs) = elim (is_end b) [ true ↦ bs ≡ [] | false ↦ EndsOnce bs ]
