-- Codes that are known.
use Rattle.std.proofs.Common.{◌≡◌, true, false, [], ◌∷◌, refl}
use Rattle.spec_cabac.specs.Code.{arith_code, step}
use Rattle.spec_bits.specs.Bits.{digits}
use Rattle.spec_cabac.specs.Bins.Request.{Bypass, Terminate}
use Rattle.spec_cabac.specs.Bins.Bin.{Answered}

code_of_end : arith_code (Answered Terminate true ∷ []) ≡ true ∷ true ∷ true ∷ true ∷ true ∷ true ∷ true ∷ false ∷ true ∷ []
unfolding step digits
code_of_end = refl

code_of_zero : arith_code (Answered Bypass false ∷ Answered Terminate true ∷ []) ≡ false ∷ true ∷ true ∷ true ∷ true ∷ true ∷ true ∷ true ∷ false ∷ true ∷ []
unfolding step digits
code_of_zero = refl

code_of_one : arith_code (Answered Bypass true ∷ Answered Terminate true ∷ []) ≡ true ∷ true ∷ true ∷ true ∷ true ∷ true ∷ true ∷ false ∷ true ∷ true ∷ []
unfolding step digits
code_of_one = refl
