-- A decoder rebuilds what the coder left: the blocks built from the coded levels are the blocks that were coded.
use Rattle.std.proofs.Common.{◌≡◌, ◌≤◌, ◌<◌, ◌+◌, ◌-◌, ◌*◌, ◌++◌, ◌⊎◌, ℕ, zero, suc, ℤ, List, length, take, drop, refl, sym, ap, ap₂, ◌∙◌, arith, inl, inr, length-append}
use Rattle.std.proofs.lemmas.Bool.{cases_lt}
use Rattle.std.proofs.lemmas.Grind.{common_steps}
use Rattle.std.proofs.lemmas.List.{take-append-le, drop-append-le}
use Rattle.enc_tables.specs.Steps.{steps}
use Rattle.spec_reconstruction.specs.InOrder.{joined, levels_of_block, built_in_order, coded_in_order, levels_in_order}

pub length-joined : (f : ℕ → List ℤ) (size n : ℕ) → ((b : ℕ) → length (f b) ≡ size) → length (joined f n) ≡ n * size
unfolding joined
length-joined f size zero long = omega arith
length-joined f size (suc n) long =
    length-append (joined f n) (f n) ∙ ap₂ (λ (a b : ℕ). a + b) (length-joined f size n long) (long n) ∙ suc_times n size
  where
    suc_times : (n w : ℕ) → n * w + w ≡ suc n * w
    suc_times n w = grind arith

pub in_first : (xs ys : List ℤ) (size a : ℕ) → a + size ≤ length xs → take size (drop a (xs ++ ys)) ≡ take size (drop a xs)
in_first xs ys size a h =
    let short : length (drop a xs) ≡ length xs - a = grind (arith, common_steps) in
    ap (λ (l : List ℤ). take size l) (drop-append-le a xs ys (omega arith)) ∙ take-append-le size (drop a xs) ys (omega (arith, short))

in_second : (xs ys : List ℤ) (size a : ℕ) → a ≡ length xs → length ys ≡ size → take size (drop a (xs ++ ys)) ≡ ys
in_second xs ys size a e h = grind (arith, common_steps)

pub before : (b n w : ℕ) → b < n → b * w + w ≤ n * w
before b n w h = grind arith

-- block b of what was joined
pub block_of_joined : (f : ℕ → List ℤ) (size n b : ℕ) → ((b : ℕ) → length (f b) ≡ size) → b < n → levels_of_block size b (joined f n) ≡ f b
unfolding joined
block_of_joined f size zero b long h = absurd (omega arith)
block_of_joined f size (suc n) b long h = by (λ l. block_of_joined f size n b long l) (cases_lt b n)
  where
    by : (b < n → levels_of_block size b (joined f n) ≡ f b) → (b < n) ⊎ (n ≤ b) → levels_of_block size b (joined f n ++ f n) ≡ f b
    by ih (inl l) = in_first (joined f n) (f n) size (b * size) (omega (arith, length-joined f size n long, before b n size l)) ∙ ih l
    by ih (inr g) =
        let e : b ≡ n = omega arith in
        in_second (joined f n) (f n) size (b * size) (ap (λ (m : ℕ). m * size) e ∙ sym (length-joined f size n long)) (long n)
        ∙ ap (λ (m : ℕ). f m) (sym e)

steps_agree : (f g : ℕ → List ℕ → List ℕ) (n : ℕ) (plane : List ℕ) → ((b : ℕ) → b < n → f b (steps g b plane) ≡ g b (steps g b plane)) → steps f n plane ≡ steps g n plane
unfolding steps
steps_agree f g zero plane same = refl
steps_agree f g (suc n) plane same = ap (λ (p : List ℕ). f n p) (steps_agree f g n plane (λ b h. same b (omega arith))) ∙ same n (omega arith)

-- the blocks built from the levels in order are the coded ones
pub rebuilt : (build : ℕ → List ℤ → List ℕ → List ℕ) (choose : ℕ → List ℕ → List ℤ) (size n : ℕ) (plane : List ℕ) → ((b : ℕ) (p : List ℕ) → length (choose b p) ≡ size)
    → built_in_order build size (levels_in_order build choose n plane) n plane ≡ coded_in_order build choose n plane
unfolding built_in_order coded_in_order levels_in_order
rebuilt build choose size n plane long =
    steps_agree (λ b now. build b (levels_of_block size b (joined (λ b. choose b (coded b)) n)) now) (λ b now. build b (choose b now) now) n plane
    (λ b h. ap (λ (l : List ℤ). build b l (coded b)) (block_of_joined (λ b. choose b (coded b)) size n b (λ b. long b (coded b)) h))
  where
    coded : ℕ → List ℕ
    coded b = steps (λ b now. build b (choose b now) now) b plane
