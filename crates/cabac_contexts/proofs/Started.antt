-- Lists of states that are given place by place.
use Rattle.std.proofs.Common.{◌≡◌, ◌≤◌, ◌<◌, ℕ, zero, suc, ℤ, List, length, map, replicate, slice_index_or, sym, ◌∙◌, arith}
use Rattle.std.proofs.lemmas.List.{ext_get_or}
use Rattle.std.proofs.lemmas.List.FromFn.{length-map-range_with_len, get_or-map-range_with_len}
use Rattle.std.specs.List.{range_with_len}
use Rattle.enc_tables.specs.declared.records.CtxState.{CtxState}
use Rattle.spec_contexts.specs.States.{start_state, start_states, no_state}

pub is_started : (pairs : List ℤ) (qp : ℕ) (states : List CtxState) → length states ≡ 436 → ((k : ℕ) → k < 436 → slice_index_or states k no_state ≡ start_state pairs qp k) → states ≡ start_states pairs qp
unfolding start_states
is_started pairs qp states long same =
    ext_get_or no_state states (map (start_state pairs qp) (range_with_len 0 436)) (long ∙ sym (length-map-range_with_len (start_state pairs qp) 0 436)) (λ p q. let r : p < 436 = omega arith in same p r ∙ sym (get_or-map-range_with_len (start_state pairs qp) 0 436 p p no_state r (omega arith)))

pub blank_known : (n k : ℕ) → (slice_index_or (replicate n no_state) k no_state).state ≤ 63
blank_known zero k = omega arith
blank_known (suc n) zero = omega arith
blank_known (suc n) (suc k) = blank_known n k
