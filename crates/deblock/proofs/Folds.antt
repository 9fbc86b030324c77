-- Steps one after another, and lists made place by place.
use Rattle.std.proofs.Common.{◌≡◌, ◌<◌, ◌+◌, ◌/◌, ◌%◌, ℕ, List, length, map, get_or, refl, sym, ap, ◌∙◌, arith, add-one}
use Rattle.std.specs.List.{range_with_len}
use Rattle.std.proofs.lemmas.List.{ext_get_or}
use Rattle.std.proofs.lemmas.List.FromFn.{get_or-map-range_with_len, length-map-range_with_len}
use Rattle.enc_tables.specs.Steps.{steps}
use Rattle.spec_filter.specs.Macroblocks.{strengths}

pub steps_none : {A : Type 0} (f : ℕ → A → A) (a : A) → a ≡ steps f 0 a
unfolding steps
steps_none f a = refl

pub steps_more : {A : Type 0} (f : ℕ → A → A) (n : ℕ) (a b c : A) → b ≡ steps f n a → c ≡ f n b → c ≡ steps f (n + 1) a
unfolding steps
steps_more f n a b c e h = rw add-one (h ∙ ap (f n) e)

pub steps_all : {A : Type 0} (f : ℕ → A → A) (n m : ℕ) (a b : A) → b ≡ steps f n a → n ≡ m → b ≡ steps f m a
steps_all f n m a b e h = e ∙ ap (λ (k : ℕ). steps f k a) h

-- sixteen strengths, place by place
pub strengths_are : (bs : ℕ → ℕ → ℕ) (xs : List ℕ) → length xs ≡ 16 → ((i : ℕ) → i < 16 → get_or xs i 0 ≡ bs (i / 4) (i % 4)) → xs ≡ strengths bs
unfolding strengths
strengths_are bs xs long each =
    let f : ℕ → ℕ = λ i. bs (i / 4) (i % 4) in
    ext_get_or 0 xs (map f (range_with_len 0 16)) (long ∙ sym (length-map-range_with_len f 0 16))
    (λ i h. let few : i < 16 = omega arith in each i few ∙ sym (get_or-map-range_with_len f 0 16 i i 0 few (omega arith)))
