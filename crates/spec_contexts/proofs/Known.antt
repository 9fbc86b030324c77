-- States of the arithmetic coder, read and replaced.
use Rattle.std.proofs.Common.{◌≤◌, ℕ, zero, suc, List, [], ◌∷◌, slice_set}
use Rattle.enc_tables.specs.declared.records.CtxState.{CtxState}
use Rattle.spec_contexts.specs.States.{AllKnown}

pub known_set : (states : List CtxState) (i : ℕ) (w : CtxState) → AllKnown states → w.state ≤ 63 → AllKnown (slice_set states i w)
known_set [] i w known h c = known c
known_set (x ∷ xs) zero w known h zero = h
known_set (x ∷ xs) zero w known h (suc c) = known (suc c)
known_set (x ∷ xs) (suc i) w known h zero = known zero
known_set (x ∷ xs) (suc i) w known h (suc c) = known_set xs i w (λ k. known (suc k)) h c
