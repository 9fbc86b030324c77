-- Prediction from both lists (ITU-T H.264, clause 8.4.2.3.1).
use Rattle.std.specs.Prelude.{ℕ, List}
use Rattle.std.specs.Simd.Lanes.{zip2}
use Rattle.spec_inter.specs.Taps.{mean}

-- the rounded mean of two predictions, sample by sample
abbrev pub averaged : List ℕ → List ℕ → List ℕ
averaged xs ys = zip2 mean xs ys
