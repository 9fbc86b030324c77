-- The margins of one row.
use Rattle.std.proofs.Common.{◌≡◌, ◌≤◌, ◌<◌, ◌+◌, ◌-◌, ◌*◌, ◌++◌, ℕ, List, length, take, drop, replicate, refl, sym, ap, ap₂, ◌∙◌, arith, slice_index}
use Rattle.std.proofs.lemmas.Grind.{common_steps}
use lib.Seq.{take-append-add}
use borrow.Rule.Slice.PartMut.{put_mid}
use Rattle.picture_planes.specs.Edges.{with_sides}

module _ (pad width : ℕ) (r A B : List ℕ) (e : length r ≡ width + 2 * pad) (a : length A ≡ pad) where
  abbrev pub xs : List ℕ
  xs = A ++ drop pad r

  abbrev pub k : ℕ
  k = length xs - (pad + width)

  pub long : length xs ≡ width + 2 * pad
  long = grind (arith, common_steps)

  front : take (pad + width) xs ≡ A ++ take width (drop pad r)
  front = ap (λ (n : ℕ). take (n + width) xs) (sym a) ∙ take-append-add A (drop pad r) width

  module _ (b : length B ≡ pad) where
    pub sides : put_mid (pad + width) k xs B ≡ (A ++ take width (drop pad r)) ++ B
    sides =
        let rest : length (drop k (drop (pad + width) xs)) ≡ 0 = grind (arith, common_steps, long) in
        let none : drop k (drop (pad + width) xs) ≡ Rattle.std.proofs.Common.[] = grind (arith, common_steps, rest) in
        ap₂ (λ (p q : List ℕ). p ++ (B ++ q)) front none ∙ grind (arith, common_steps)

    pub sides_length : length (put_mid (pad + width) k xs B) ≡ width + 2 * pad
    sides_length = grind (arith, common_steps, sides, long)

pub assoc : (a b c : List ℕ) → (a ++ b) ++ c ≡ a ++ (b ++ c)
assoc a b c = grind (arith, common_steps)

pub made : (pad width : ℕ) (r R A B : List ℕ) (n m f l : ℕ) → r ≡ R → A ≡ replicate n f → n ≡ pad → B ≡ replicate m l → m ≡ pad
    → f ≡ slice_index r pad → l ≡ slice_index r (pad + width - 1) → (A ++ take width (drop pad r)) ++ B ≡ with_sides pad width R
made pad width r R A B n m f l e a n' b m' f' l' =
    assoc A (take width (drop pad r)) B
    ∙ ap₂ (λ (p q : List ℕ). p ++ (take width (drop pad r) ++ q)) (a ∙ ap₂ (λ (i j : ℕ). replicate i j) n' f') (b ∙ ap₂ (λ (i j : ℕ). replicate i j) m' l')
    ∙ ap (λ (s : List ℕ). with_sides pad width s) e
