use Rattle.std.proofs.Common.{◌≡◌, true, false, [], ◌∷◌, ◌++◌, refl}
use Rattle.std.specs.Prelude.{negsuc, replicate}
use Rattle.spec_syntax.specs.Syntax.{at}
use Rattle.spec_syntax.specs.Numbers.{ones_string, golomb_string, number_string}
use Rattle.spec_syntax.specs.Elements.{Whole, intra_type_string, qp_delta_string}
use Rattle.spec_syntax.specs.Levels.{minus1_string, first_at, others_at}

-- coeff_abs_level_minus1 of 1631, as the first level of a luma 4x4 block: 14 ones, ten ones and a zero, and 1001010010
row_level : minus1_string (first_at 2 0 0) (others_at 2 0) 1631 ≡
    at 248 true ∷ replicate 13 (at 252 true) ++ replicate 10 (at 1000 true) ++ at 1000 false
    ∷ at 1000 true ∷ at 1000 false ∷ at 1000 false ∷ at 1000 true ∷ at 1000 false ∷ at 1000 true ∷ at 1000 false ∷ at 1000 false ∷ at 1000 true ∷ at 1000 false ∷ []
unfolding ones_string golomb_string number_string minus1_string first_at others_at
row_level = refl

-- Intra 16x16 with mode 2, chroma pattern 1 and AC levels: 1, 0 before termination, 1, then 1 0, then 1 0
row_type : intra_type_string 1 (Whole 2 1 true) ≡ at 4 true ∷ at 276 false ∷ at 6 true ∷ at 7 true ∷ at 8 false ∷ at 9 true ∷ at 10 false ∷ []
unfolding intra_type_string
row_type = refl

row_delta : qp_delta_string 1 (negsuc 0) ≡ at 61 true ∷ at 62 true ∷ at 63 false ∷ []
unfolding qp_delta_string
row_delta = refl
