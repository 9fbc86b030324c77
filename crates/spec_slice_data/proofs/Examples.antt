-- Bins of a slice whose macroblocks have one bin each.
use Rattle.std.proofs.Common.{◌≡◌, Bool, true, false, List, [], ◌∷◌, refl}
use Rattle.spec_syntax.specs.Syntax.{at}
use Rattle.spec_syntax.specs.Sequences.{sequence_string}
use Rattle.spec_slice_data.specs.Coding.{strings_of, slice_string}

two : slice_string (λ (before : List Bool) (r : Bool). at 11 r ∷ []) (true ∷ false ∷ []) ≡ at 11 true ∷ at 276 false ∷ at 11 false ∷ at 276 true ∷ []
unfolding slice_string strings_of sequence_string
two = refl
