-- Lists that are given place by place.
use Rattle.std.proofs.Common.{◌≡◌, ℕ, ℤ, pos, ◌<◌, List, length, sym, ◌∙◌, arith}
use Rattle.std.proofs.lemmas.List.{ext_get_or}
use Rattle.std.proofs.lemmas.List.FromFn.{length-map-range_with_len, get_or-map-range_with_len}
use Rattle.spec_residual.specs.Blocks.{item, listed}

pub length-listed : (n : ℕ) (f : ℕ → ℤ) → length (listed n f) ≡ n
unfolding listed
length-listed n f = length-map-range_with_len f 0 n

pub item-listed : (n : ℕ) (f : ℕ → ℤ) (p : ℕ) → p < n → item (listed n f) p ≡ f p
unfolding listed
item-listed n f p inside = get_or-map-range_with_len f 0 n p p (pos 0) inside (omega arith)

-- a list of n items that are those of f is the list of f
pub is_listed : (n : ℕ) (f : ℕ → ℤ) (xs : List ℤ) → length xs ≡ n → ((p : ℕ) → p < n → item xs p ≡ f p) → xs ≡ listed n f
is_listed n f xs long same =
    ext_get_or (pos 0) xs (listed n f) (long ∙ sym (length-listed n f)) (λ p q. let r : p < n = omega arith in same p r ∙ sym (item-listed n f p r))
