-- Worked rows of the trials.
use Rattle.std.proofs.Common.{◌≡◌, [], ◌∷◌, refl}
use Rattle.spec_coding.specs.Trials.{steps_to_51, trial_qps}

row_from_24 : trial_qps 24 ≡ 24 ∷ 27 ∷ 30 ∷ 33 ∷ 36 ∷ 39 ∷ 42 ∷ 45 ∷ 48 ∷ 51 ∷ []
unfolding steps_to_51
row_from_24 = refl

row_from_26 : trial_qps 26 ≡ 26 ∷ 29 ∷ 32 ∷ 35 ∷ 38 ∷ 41 ∷ 44 ∷ 47 ∷ 50 ∷ 51 ∷ []
unfolding steps_to_51
row_from_26 = refl

row_from_51 : trial_qps 51 ≡ 51 ∷ []
unfolding steps_to_51
row_from_51 = refl
