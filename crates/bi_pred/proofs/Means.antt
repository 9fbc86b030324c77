-- Rows of means.
use Rattle.std.proofs.Common.{ℕ, ◌≡◌, ◌<◌, List, length, sym, ◌∙◌, arith}
use Rattle.std.specs.Prelude.{slice_index}
use Rattle.std.specs.Simd.Lanes.{zip2}
use Rattle.std.proofs.lemmas.Simd.{get_or-zip2, length-zip2}
use Rattle.std.proofs.lemmas.List.{ext_get_or}
use Rattle.spec_inter.specs.Taps.{mean}
use Rattle.bi_pred.specs.Averages.{averaged}

pub all_means : (xs ys out : List ℕ) → length out ≡ length xs → length xs ≡ length ys → ((k : ℕ) → k < length out → slice_index out k ≡ mean (slice_index xs k) (slice_index ys k)) → out ≡ averaged xs ys
all_means xs ys out e f h =
    ext_get_or 0 out (zip2 mean xs ys) (e ∙ sym (length-zip2 mean xs ys f)) (λ k less. h k less ∙ sym (get_or-zip2 mean xs ys k 0 0 0 (omega (arith, e, less)) (omega (arith, e, f, less))))
