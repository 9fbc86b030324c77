-- The data of a slice (ITU-T H.264, clause 7.3.4): macroblocks, each with the ones before it in view, and behind each of them end_of_slice_flag. What a macroblock is, and how it is read, is left open here.
use Rattle.std.specs.Prelude.{ℕ, zero, suc, true, false, List, [], ◌∷◌, ◌++◌}
use Rattle.spec_syntax.specs.Syntax.{Syntax, done, nothing, ◌>>=◌, bin}
use Rattle.spec_syntax.specs.Elements.{end_of_slice}

-- macroblocks, behind those before, up to the first end_of_slice_flag that is 1; at most so many are read
unfoldable pub slice_data : {R : Type 0} → (List R → Syntax R) → ℕ → List R → Syntax (List R)
slice_data mb zero before = nothing
slice_data mb (suc n) before = do
  r ← mb before
  last ← bin end_of_slice
  elim last [ true ↦ done (before ++ r ∷ []) | false ↦ slice_data mb n (before ++ r ∷ []) ]
