use Rattle.std.proofs.Common.{◌≡◌, ◌+◌, ◌-◌, ◌*◌, ◌∙◌, ℕ, arith, ap₂}
use Rattle.subpel_filter.proofs.chroma.weights_at.Goals as goal

sum_of : (u a v c : ℕ) → u + a ≡ 8 → v + c ≡ 8 → a * c + u * c + a * v + u * v ≡ 64
sum_of u a v c p q = let e : a * c + u * c + a * v + u * v ≡ (u + a) * (v + c) = omega arith in e ∙ ap₂ (λ (x y : ℕ). x * y) p q

pub returns-clause-sum : goal.returns-clause-sum
returns-clause-sum c = sum_of c.args.u (8 - c.args.u) c.args.v (8 - c.args.v) (omega arith) (omega arith)
