-- The margin, row by row.
use Rattle.std.proofs.Common.{◌≡◌, ◌≤◌, ◌<◌, ◌+◌, ◌-◌, ◌⊎◌, inl, inr, ℕ, List, sym, ap, ap₂, ◌∙◌, arith}
use Rattle.std.proofs.lemmas.Bool.{cases_lt}
use Rattle.picture_planes.specs.declared.plane.Plane.{Plane}
use Rattle.picture_planes.specs.Samples.{SameShape}
use Rattle.picture_planes.specs.Edges.{with_sides, OneRow, Edged}
use Rattle.picture_planes.specs.Margins.{buffer_row, buffer_height}

abbrev sides : Plane → List ℕ → List ℕ
sides p r = with_sides p.pad p.width r

joined : (p q r : Plane) → SameShape p q → SameShape q r → SameShape p r
joined p q r a b = (b.0 ∙ a.0, b.1 ∙ a.1, b.2 ∙ a.2)

module _ (old m new : Plane) where
  module _ (n : ℕ) (low : old.pad ≤ n) (high : n < old.pad + old.height) (e : Edged 0 n (old.pad + old.height) old m)
      (o : OneRow n (sides m (buffer_row m n)) m new) where
    at_n : buffer_row new n ≡ sides old (buffer_row old n)
    at_n = o.written ∙ ap₂ (λ (a b : ℕ). with_sides a b (buffer_row m n)) e.shape.2 e.shape.0 ∙ ap (λ (r : List ℕ). sides old r) (e.left n (omega arith) high)

    inside : (z : ℕ) → z < buffer_height old → z < buffer_height m
    inside z h = omega (arith, h, e.shape.1, e.shape.2)

    mid_by : (z : ℕ) → old.pad ≤ z → z < n + 1 → (z < n) ⊎ (n ≤ z) → buffer_row new z ≡ sides old (buffer_row old z)
    mid_by z a b (inl l) = o.others z (inside z (omega arith)) (omega arith) ∙ e.middle z a l
    mid_by z a b (inr l) = let same : z ≡ n = omega arith in ap (λ (k : ℕ). buffer_row new k) same ∙ at_n ∙ ap (λ (k : ℕ). sides old (buffer_row old k)) (sym same)

    pub sides_more : Edged 0 (n + 1) (old.pad + old.height) old new
    sides_more = record {
      shape = joined old m new e.shape o.shape;
      top = λ z h. grind (arith, h);
      middle = λ z a b. mid_by z a b (cases_lt z n);
      left = λ z a b. o.others z (inside z (omega arith)) (omega arith) ∙ e.left z (omega arith) b;
      bottom = λ z a b. grind (arith, a, b);
    }

  module _ (n : ℕ) (high : n < old.pad) (tall : 0 < old.height) (e : Edged n (old.pad + old.height) (old.pad + old.height) old m)
      (o : OneRow n (buffer_row m old.pad) m new) where
    inside₂ : (z : ℕ) → z < buffer_height old → z < buffer_height m
    inside₂ z h = omega (arith, h, e.shape.1, e.shape.2)

    top_by : (z : ℕ) → z < n + 1 → (z < n) ⊎ (n ≤ z) → buffer_row new z ≡ sides old (buffer_row old old.pad)
    top_by z b (inl l) = o.others z (inside₂ z (omega arith)) (omega arith) ∙ e.top z l
    top_by z b (inr l) = let same : z ≡ n = omega arith in ap (λ (k : ℕ). buffer_row new k) same ∙ o.written ∙ e.middle old.pad (omega arith) (omega arith)

    pub top_more : Edged (n + 1) (old.pad + old.height) (old.pad + old.height) old new
    top_more = record {
      shape = joined old m new e.shape o.shape;
      top = λ z b. top_by z b (cases_lt z n);
      middle = λ z a b. o.others z (inside₂ z (omega arith)) (omega arith) ∙ e.middle z a b;
      left = λ z a b. grind (arith, a, b);
      bottom = λ z a b. grind (arith, a, b);
    }

  module _ (n : ℕ) (low : old.pad + old.height ≤ n) (high : n < buffer_height old) (tall : 0 < old.height) (e : Edged old.pad (old.pad + old.height) n old m)
      (o : OneRow n (buffer_row m (old.pad + old.height - 1)) m new) where
    inside₃ : (z : ℕ) → z < buffer_height old → z < buffer_height m
    inside₃ z h = omega (arith, h, e.shape.1, e.shape.2)

    bottom_by : (z : ℕ) → old.pad + old.height ≤ z → z < n + 1 → (z < n) ⊎ (n ≤ z) → buffer_row new z ≡ sides old (buffer_row old (old.pad + old.height - 1))
    bottom_by z a b (inl l) = o.others z (inside₃ z (omega arith)) (omega arith) ∙ e.bottom z a l
    bottom_by z a b (inr l) = let same : z ≡ n = omega arith in ap (λ (k : ℕ). buffer_row new k) same ∙ o.written ∙ e.middle (old.pad + old.height - 1) (omega arith) (omega arith)

    pub bottom_more : Edged old.pad (old.pad + old.height) (n + 1) old new
    bottom_more = record {
      shape = joined old m new e.shape o.shape;
      top = λ z b. o.others z (inside₃ z (omega arith)) (omega arith) ∙ e.top z b;
      middle = λ z a b. o.others z (inside₃ z (omega arith)) (omega arith) ∙ e.middle z a b;
      left = λ z a b. grind (arith, a, b);
      bottom = λ z a b. bottom_by z a b (cases_lt z n);
    }
