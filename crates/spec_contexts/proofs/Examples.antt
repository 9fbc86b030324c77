-- Worked numbers: the definitions computed.
use Rattle.std.proofs.Common.{◌≡◌, pos, negsuc, true, false, [], ◌∷◌, map, refl}
use Rattle.std.specs.List.{range_with_len}
use Rattle.enc_tables.specs.declared.contexts.TheConstants.{CONTEXT_PAIRS_I, CONTEXT_PAIRS_PB}
use Rattle.spec_contexts.specs.States.{pre_state, start_state}
use Rattle.spec_contexts.specs.Near.{left_block2, above_block2, left_block4, above_block4}

-- the pair 20, -15 at 24: (480 >> 4) - 15 = 15
first_pair : pre_state (pos 20) (negsuc 14) 24 ≡ 15
unfolding pre_state
first_pair = refl

first_context : start_state CONTEXT_PAIRS_I 24 0 ≡ record { state = 48; mps = false }
unfolding start_state pre_state
first_context = refl

-- the pair -28, 127 at 1: the shift of -28 rounds down to -2; 125 is state 61 of 1
rounds_down : start_state CONTEXT_PAIRS_I 1 6 ≡ record { state = 61; mps = true }
unfolding start_state pre_state
rounds_down = refl

-- the pair 49, 9 at 51: 156 + 9 is clipped to 126
clips : start_state CONTEXT_PAIRS_PB 51 423 ≡ record { state = 62; mps = true }
unfolding start_state pre_state
clips = refl

left_blocks : map left_block4 (range_with_len 0 16) ≡ 5 ∷ 0 ∷ 7 ∷ 2 ∷ 1 ∷ 4 ∷ 3 ∷ 6 ∷ 13 ∷ 8 ∷ 15 ∷ 10 ∷ 9 ∷ 12 ∷ 11 ∷ 14 ∷ []
unfolding left_block4
left_blocks = refl

above_blocks : map above_block4 (range_with_len 0 16) ≡ 10 ∷ 11 ∷ 0 ∷ 1 ∷ 14 ∷ 15 ∷ 4 ∷ 5 ∷ 2 ∷ 3 ∷ 8 ∷ 9 ∷ 6 ∷ 7 ∷ 12 ∷ 13 ∷ []
unfolding above_block4
above_blocks = refl

left_blocks2 : map left_block2 (range_with_len 0 4) ≡ 1 ∷ 0 ∷ 3 ∷ 2 ∷ []
left_blocks2 = refl

above_blocks2 : map above_block2 (range_with_len 0 4) ≡ 2 ∷ 3 ∷ 0 ∷ 1 ∷ []
above_blocks2 = refl
