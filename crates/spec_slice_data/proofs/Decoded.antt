-- What the arithmetic decoder reads, by what is read over bins.
use Rattle.std.proofs.Common.{◌≡◌, Bool, true, false, ◌&&◌, List, [], ◌∷◌, ◌++◌, Some, refl, if◌then◌else◌}
use Rattle.std.specs.Prelude.{slice_index_or}
use Rattle.spec_contexts.specs.States.{no_state}
use Rattle.enc_tables.specs.declared.records.CtxState.{CtxState}
use Rattle.spec_cabac.specs.Bins.{Bin as Decision, is_end, EndsOnce}
use Rattle.spec_cabac.specs.Bins.Request.{Context, Bypass, Terminate}
use Rattle.spec_cabac.specs.Bins.Bin.{Answered}
use Rattle.spec_cabac.specs.Decoder.{Reader}
use Rattle.spec_cabac.specs.Law.{Gives}
use Rattle.spec_syntax.specs.declared.Bin.{Bin}
use Rattle.spec_syntax.specs.Syntax.{Syntax, done, nothing, ask, take, at, Walks}
use Rattle.spec_slice_data.specs.Decoding.{is_bypass, is_terminate, request, after, after_all, decoded}
use Rattle.spec_slice_data.specs.Coding.{asked, GoesOn}

pub decoded_walk : {A : Type 0} (s : Syntax A) (bins : List Bin) (v : A) (states : List CtxState) (r z : Reader) → Walks s bins v → Gives r (asked states bins) z
    → decoded s states r ≡ Some (record { value = v; states = after_all states bins; decoder = z })
unfolding decoded asked after_all
decoded_walk (done a) [] v states r z h k = rw (h, k) refl
decoded_walk (done a) (x ∷ bins) v states r z h k = absurd h
decoded_walk nothing bins v states r z h k = absurd h
decoded_walk (take next) bins v states r z h k = absurd h
decoded_walk (ask c next) [] v states r z h k = absurd h
decoded_walk (ask c next) (x ∷ bins) v states r z h k =
    rw (← h.0, k.answers) (decoded_walk (next x.bit) bins v (after states x) k.after z h.1 k.others)

-- a bin that doesn't end the code is no end for the arithmetic code either
not_end : (bypass terminate bit : Bool) (s : CtxState) → (terminate && bit) ≡ false
    → is_end (Answered (if bypass then Bypass else if terminate then Terminate else Context s) bit) ≡ false
not_end true terminate bit s h = refl
not_end false true true s h = absurd cc
not_end false true false s h = refl
not_end false false bit s h = refl

ends_later : (b : Decision) (bs : List Decision) → is_end b ≡ false → EndsOnce bs → EndsOnce (b ∷ bs)
ends_later b bs e h = rw (e, EndsOnce) h

-- bins that go on, and then the end
pub ends_once : (states : List CtxState) (bins : List Bin) → GoesOn bins → EndsOnce (asked states (bins ++ at 276 true ∷ []))
unfolding asked GoesOn
ends_once states [] h = refl
ends_once states (b ∷ bins) h =
    ends_later (Answered (request states b.ctx) b.bit) (asked (after states b) (bins ++ at 276 true ∷ []))
    (not_end (is_bypass b.ctx) (is_terminate b.ctx) b.bit (slice_index_or states b.ctx no_state) h.0) (ends_once (after states b) bins h.1)

-- bins after bins
pub asked_append : (states : List CtxState) (xs ys : List Bin) → asked states (xs ++ ys) ≡ asked states xs ++ asked (after_all states xs) ys
unfolding asked after_all
asked_append states [] ys = refl
asked_append states (x ∷ xs) ys = rw (asked_append (after states x) xs ys) refl

pub after_append : (states : List CtxState) (xs ys : List Bin) → after_all states (xs ++ ys) ≡ after_all (after_all states xs) ys
unfolding after_all
after_append states [] ys = refl
after_append states (x ∷ xs) ys = after_append (after states x) xs ys

pub goes_on_append : (xs ys : List Bin) → GoesOn xs → GoesOn ys → GoesOn (xs ++ ys)
unfolding GoesOn
goes_on_append [] ys h k = k
goes_on_append (x ∷ xs) ys h k = (h.0, goes_on_append xs ys h.1 k)
