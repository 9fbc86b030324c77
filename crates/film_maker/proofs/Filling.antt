-- Arrays that are filled place by place.
use Rattle.std.proofs.Common.{◌≡◌, ℕ, suc, ◌+◌, ◌/◌, ◌^◌, ◌<◌, List, length, get_or, set, ap, sym, arith, ◌∙◌}
use Rattle.std.proofs.lemmas.List.FromFn.{fill_by_all}
use Rattle.std.proofs.lemmas.List.Edits.{fill_by_more}
use Rattle.std.proofs.Math.ListN.{length-set}
use Rattle.film_maker.specs.Made.{next_state, state_after, noise_of}

-- the first k of n places have what f says
pub record Filled (n : ℕ) (f : ℕ → ℕ) (k : ℕ) (xs : List ℕ) : Type 0 where
  pub size : length xs ≡ n
  pub each : (i : ℕ) → i < k → get_or xs i 0 ≡ f i

pub filled_more : (n : ℕ) (f : ℕ → ℕ) (k v : ℕ) (xs : List ℕ) → k < n → v ≡ f k → Filled n f k xs → Filled n f (k + 1) (set xs k v)
filled_more n f k v xs lt e h = record {
  size = length-set xs k v ∙ h.size;
  each = rw e (fill_by_more f xs k 0 (omega (arith, lt, h.size)) h.each);
}

-- the highest byte of state k
abbrev pub byte_at : ℕ → ℕ → ℕ
byte_at seed k = state_after (k + 1) seed / 2 ^ 56

pub noise_filled : (seed : ℕ) (xs : List ℕ) → Filled 64 (byte_at seed) 64 xs → xs ≡ noise_of seed
unfolding noise_of
noise_filled seed xs h = fill_by_all (byte_at seed) xs 64 0 h.size h.each

pub state_next : (k seed now : ℕ) → now ≡ state_after k seed → next_state now ≡ state_after (k + 1) seed
unfolding state_after
state_next k seed now e = ap next_state e ∙ one k
  where
    one : (k : ℕ) → next_state (state_after k seed) ≡ state_after (k + 1) seed
    one k = let more : k + 1 ≡ suc k = omega arith in sym (ap (λ n. state_after n seed) more)
