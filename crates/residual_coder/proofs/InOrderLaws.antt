-- One block more that was coded.
use Rattle.std.proofs.Common.{◌≡◌, ◌≤◌, ◌<◌, ◌+◌, ◌*◌, ◌++◌, ℕ, ℤ, List, length, take, drop, add-one, refl, sym, ap, ap₂, ◌∙◌, arith, subst, inl, inr}
use Rattle.std.proofs.lemmas.Bool.{cases_lt}
use Rattle.std.proofs.lemmas.List.{take-append-drop}
use Rattle.std.proofs.lemmas.Grind.{common_steps}
use Rattle.enc_tables.specs.Steps.{steps}
use Rattle.spec_reconstruction.proofs.Rebuilt.{in_first, before}
use Rattle.spec_reconstruction.specs.InOrder.{joined, levels_of_block, built_in_order, coded_in_order, levels_in_order}

-- one piece more of a list that is written from its front
pub piece_written : (all piece done : List ℤ) (start size k : ℕ) → start + size ≤ length all → length piece ≡ size → k ≡ size → take start all ≡ done
    → take (start + size) (take start all ++ (piece ++ drop k (drop start all))) ≡ done ++ piece
piece_written all piece done start size k room e f so_far = grind (arith, common_steps)

pub piece_long : (all piece : List ℤ) (start size k : ℕ) → start + size ≤ length all → length piece ≡ size → k ≡ size
    → length (take start all ++ (piece ++ drop k (drop start all))) ≡ length all
piece_long all piece start size k room e f = grind (arith, common_steps)

module _ (build : ℕ → List ℤ → List ℕ → List ℕ) (choose : ℕ → List ℕ → List ℤ) (plane : List ℕ) where
  pub no_levels : (xs : List ℤ) → take 0 xs ≡ levels_in_order build choose 0 plane
  unfolding levels_in_order joined
  no_levels xs = refl

  pub no_samples : plane ≡ coded_in_order build choose 0 plane
  unfolding coded_in_order steps
  no_samples = refl

  pub more_levels : (n : ℕ) → levels_in_order build choose (n + 1) plane ≡ levels_in_order build choose n plane ++ choose n (coded_in_order build choose n plane)
  unfolding levels_in_order joined
  more_levels n = rw add-one refl

  more_samples : (n : ℕ) → coded_in_order build choose (n + 1) plane ≡ build n (choose n (coded_in_order build choose n plane)) (coded_in_order build choose n plane)
  unfolding coded_in_order steps
  more_samples n = rw add-one refl

  pub next_levels : (n : ℕ) (done more : List ℤ) (now : List ℕ) → now ≡ coded_in_order build choose n plane → done ≡ levels_in_order build choose n plane → more ≡ choose n now
      → done ++ more ≡ levels_in_order build choose (n + 1) plane
  next_levels n done more now e f g =
      ap₂ (λ (a b : List ℤ). a ++ b) f (g ∙ ap (λ (p : List ℕ). choose n p) e) ∙ sym (more_levels n)

  pub next_samples : (n : ℕ) (more : List ℤ) (now new : List ℕ) → now ≡ coded_in_order build choose n plane → more ≡ choose n now → new ≡ build n more now
      → new ≡ coded_in_order build choose (n + 1) plane
  next_samples n more now new e f g =
      g ∙ ap (λ (l : List ℤ). build n l now) f ∙ ap (λ (p : List ℕ). build n (choose n p) p) e ∙ sym (more_samples n)

  -- the levels of one block more, in a list that is written from its front
  pub next_piece : (n size k : ℕ) (all piece more : List ℤ) (now : List ℕ) → n * size + size ≤ length all → length more ≡ size → k ≡ size → piece ≡ more
      → now ≡ coded_in_order build choose n plane → take (n * size) all ≡ levels_in_order build choose n plane → more ≡ choose n now
      → take ((n + 1) * size) (take (n * size) all ++ (piece ++ drop k (drop (n * size) all))) ≡ levels_in_order build choose (n + 1) plane
  next_piece n size k all piece more now room long at_k same e f g =
      let next : (n + 1) * size ≡ n * size + size = grind arith in
      ap (λ (m : ℕ). take m (take (n * size) all ++ (piece ++ drop k (drop (n * size) all)))) next
      ∙ piece_written all piece (levels_in_order build choose n plane) (n * size) size k room (ap (λ (l : List ℤ). length l) same ∙ long) at_k f
      ∙ ap (λ (l : List ℤ). levels_in_order build choose n plane ++ l) same
      ∙ next_levels n (levels_in_order build choose n plane) more now e refl g

-- ---- pieces of a list that is written from its front

pub joined_none : (f : ℕ → List ℤ) (xs : List ℤ) → take 0 xs ≡ joined f 0
unfolding joined
joined_none f xs = refl

pub joined_more : (f : ℕ → List ℤ) (n : ℕ) → joined f (n + 1) ≡ joined f n ++ f n
unfolding joined
joined_more f n = rw add-one refl

pub joined_next : (f : ℕ → List ℤ) (n size k : ℕ) (all piece : List ℤ) → n * size + size ≤ length all → length piece ≡ size → k ≡ size → piece ≡ f n → take (n * size) all ≡ joined f n
    → take ((n + 1) * size) (take (n * size) all ++ (piece ++ drop k (drop (n * size) all))) ≡ joined f (n + 1)
joined_next f n size k all piece room long at_k is done =
    let next : (n + 1) * size ≡ n * size + size = grind arith in
    ap (λ (m : ℕ). take m (take (n * size) all ++ (piece ++ drop k (drop (n * size) all)))) next
    ∙ piece_written all piece (joined f n) (n * size) size k room long at_k done
    ∙ ap (λ (l : List ℤ). joined f n ++ l) is
    ∙ sym (joined_more f n)

same_block : (all piece : List ℤ) (n size k b : ℕ) → n * size + size ≤ length all → b < n → levels_of_block size b (take (n * size) all ++ (piece ++ drop k (drop (n * size) all))) ≡ levels_of_block size b all
same_block all piece n size k b room h =
    let front : length (take (n * size) all) ≡ n * size = grind (arith, common_steps) in
    let inside : b * size + size ≤ length (take (n * size) all) = omega (arith, front, before b n size h) in
    in_first (take (n * size) all) (piece ++ drop k (drop (n * size) all)) size (b * size) inside
    ∙ sym (in_first (take (n * size) all) (drop (n * size) all) size (b * size) inside)
    ∙ ap (λ (l : List ℤ). levels_of_block size b l) (take-append-drop (n * size) all)

new_block : (all piece : List ℤ) (n size k : ℕ) → n * size + size ≤ length all → length piece ≡ size → levels_of_block size n (take (n * size) all ++ (piece ++ drop k (drop (n * size) all))) ≡ piece
new_block all piece n size k room long = grind (arith, common_steps)

-- what holds of each block so far, and of the next
pub block_next : (P : List ℤ → Type 0) (all piece : List ℤ) (n size k : ℕ) → n * size + size ≤ length all → length piece ≡ size → P piece
    → ((b : ℕ) → b < n → P (levels_of_block size b all)) → (b : ℕ) → b < n + 1 → P (levels_of_block size b (take (n * size) all ++ (piece ++ drop k (drop (n * size) all))))
block_next P all piece n size k room long is so_far b h =
    elim (cases_lt b n) [
      | inl l ↦ subst P (sym (same_block all piece n size k b room l)) (so_far b l)
      | inr g ↦
          (let e : n ≡ b = omega arith in
          let Q : ℕ → Type 0 = λ m. P (levels_of_block size m (take (n * size) all ++ (piece ++ drop k (drop (n * size) all)))) in
          subst Q e (subst P (sym (new_block all piece n size k room long)) is))
    ]

-- one block more that is built
pub built_none : (build : ℕ → List ℤ → List ℕ → List ℕ) (size : ℕ) (levels : List ℤ) (plane : List ℕ) → plane ≡ built_in_order build size levels 0 plane
unfolding built_in_order steps
built_none build size levels plane = refl

built_more : (build : ℕ → List ℤ → List ℕ → List ℕ) (size : ℕ) (levels : List ℤ) (n : ℕ) (plane : List ℕ)
    → built_in_order build size levels (n + 1) plane ≡ build n (levels_of_block size n levels) (built_in_order build size levels n plane)
unfolding built_in_order steps
built_more build size levels n plane = rw add-one refl

pub built_next : (build : ℕ → List ℤ → List ℕ → List ℕ) (size : ℕ) (levels : List ℤ) (n : ℕ) (plane now new : List ℕ) → now ≡ built_in_order build size levels n plane
    → new ≡ build n (levels_of_block size n levels) now → new ≡ built_in_order build size levels (n + 1) plane
built_next build size levels n plane now new e f = f ∙ ap (λ (p : List ℕ). build n (levels_of_block size n levels) p) e ∙ sym (built_more build size levels n plane)

pub all_taken : (xs ys : List ℤ) (n size b : ℕ) → length xs ≡ n * size → b ≡ n → take (b * size) xs ≡ ys → xs ≡ ys
all_taken xs ys n size b long e done = sym (whole xs (b * size) (long ∙ ap (λ (m : ℕ). m * size) (sym e))) ∙ done
  where
    whole : (xs : List ℤ) (m : ℕ) → length xs ≡ m → take m xs ≡ xs
    whole xs m e = grind (arith, common_steps)
