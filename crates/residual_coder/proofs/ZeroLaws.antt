-- The quantiser makes 0 of 0.
use Rattle.std.proofs.Common.{◌≡◌, ◌<◌, ◌+◌, ◌*◌, ◌/◌, ◌^◌, ℕ, ℤ, pos, Bool, true, false, List, set, replicate, length, sym, ap, ◌∙◌, arith, subst, inl, inr}
use Rattle.std.proofs.Math.Nat.{div-eq_of_lt}
use Rattle.std.proofs.lemmas.Bool.{cases_lt}
use Rattle.std.proofs.lemmas.Grind.{get_or-set_at}
use Rattle.std.proofs.lemmas.List.{get_or-set_other}
use Rattle.std.proofs.lemmas.Nat.{pow-add, pow_pos}
use Rattle.spec_residual.specs.declared.BlockKind.{BlockKind}
use Rattle.spec_residual.specs.declared.BlockKind.TheVariants.{Luma4, Luma8, LumaDc, Chroma4, ChromaDc}
use Rattle.spec_residual.specs.Blocks.{item}
use Rattle.spec_residual.specs.Levels.{IsMade, greatest, level_of, multiplier, rounding, shift, signed_level}
use Rattle.residual_coder.proofs.BlockLaws.{zero_within, item_of_zeros}

none_of : (m f s : ℕ) → f < 2 ^ s → signed_level m f s (pos 0) ≡ pos 0
none_of m f s h =
    let none : 0 * m + f ≡ f = omega arith in
    ap (λ (n : ℕ). pos (n / 2 ^ s)) none ∙ ap (λ (n : ℕ). pos n) (div-eq_of_lt h)

third : (k : ℕ) → 2 ^ k / 3 < 2 ^ k
third k = let p : 0 < 2 ^ k = pow_pos k in omega arith

sixth : (k : ℕ) → 2 ^ k / 6 < 2 ^ k
sixth k = let p : 0 < 2 ^ k = pow_pos k in omega arith

double : (k : ℕ) → 2 * (2 ^ (15 + k) / 3) < 2 ^ (16 + k)
double k =
    let p : 0 < 2 ^ (15 + k) = pow_pos (15 + k) in
    let q : 2 ^ (16 + k) ≡ 2 * 2 ^ (15 + k) = ap (λ (n : ℕ). 2 ^ n) (let e : 16 + k ≡ 1 + (15 + k) = omega arith in e) ∙ pow-add 2 1 (15 + k) in
    omega arith

double_sixth : (k : ℕ) → 2 * (2 ^ (15 + k) / 6) < 2 ^ (16 + k)
double_sixth k =
    let p : 0 < 2 ^ (15 + k) = pow_pos (15 + k) in
    let q : 2 ^ (16 + k) ≡ 2 * 2 ^ (15 + k) = ap (λ (n : ℕ). 2 ^ n) (let e : 16 + k ≡ 1 + (15 + k) = omega arith in e) ∙ pow-add 2 1 (15 + k) in
    omega arith

pub level_of_none : (kind : BlockKind) (intra : Bool) (qp p : ℕ) → level_of kind intra qp p (pos 0) ≡ pos 0
unfolding level_of rounding shift
level_of_none Luma4 true qp p = none_of (multiplier Luma4 qp p) _ _ (third (15 + qp / 6))
level_of_none Luma8 true qp p = none_of (multiplier Luma8 qp p) _ _ (third (16 + qp / 6))
level_of_none LumaDc true qp p = none_of (multiplier LumaDc qp p) _ _ (double (qp / 6))
level_of_none Chroma4 true qp p = none_of (multiplier Chroma4 qp p) _ _ (third (15 + qp / 6))
level_of_none ChromaDc true qp p = none_of (multiplier ChromaDc qp p) _ _ (double (qp / 6))
level_of_none Luma4 false qp p = none_of (multiplier Luma4 qp p) _ _ (sixth (15 + qp / 6))
level_of_none Luma8 false qp p = none_of (multiplier Luma8 qp p) _ _ (sixth (16 + qp / 6))
level_of_none LumaDc false qp p = none_of (multiplier LumaDc qp p) _ _ (double_sixth (qp / 6))
level_of_none Chroma4 false qp p = none_of (multiplier Chroma4 qp p) _ _ (sixth (15 + qp / 6))
level_of_none ChromaDc false qp p = none_of (multiplier ChromaDc qp p) _ _ (double_sixth (qp / 6))

pub zero_made : (kind : BlockKind) (intra : Bool) (qp p : ℕ) → IsMade kind intra qp p (pos 0)
zero_made kind intra qp p = record { coefficient = pos 0; small = zero_within (greatest kind); made = sym (level_of_none kind intra qp p) }

-- where each level was made, and one more is written
pub zeros_made : (kind : BlockKind) (intra : Bool) (qp n p : ℕ) → IsMade kind intra qp p (item (replicate n (pos 0)) p)
zeros_made kind intra qp n p = let P : ℤ → Type 0 = λ z. IsMade kind intra qp p z in subst P (sym (item_of_zeros n p)) (zero_made kind intra qp p)

pub set_made : (kind : BlockKind) (intra : Bool) (qp i : ℕ) (v : ℤ) (c : List ℤ) → i < length c → IsMade kind intra qp i v → ((p : ℕ) → IsMade kind intra qp p (item c p)) → (p : ℕ) → IsMade kind intra qp p (item (set c i v) p)
set_made kind intra qp i v c inside is all p =
    let P : ℤ → Type 0 = λ z. IsMade kind intra qp p z in
    elim (cases_lt p i) [
      | inl l ↦ subst P (sym (get_or-set_other c i p v (pos 0) (λ z. absurd (omega arith)))) (all p)
      | inr g ↦
          (elim (cases_lt i p) [
            | inl l ↦ subst P (sym (get_or-set_other c i p v (pos 0) (λ z. absurd (omega arith)))) (all p)
            | inr l ↦
                (let e : p ≡ i = omega arith in
                let Q : ℕ → Type 0 = λ m. IsMade kind intra qp m v in
                subst P (sym (get_or-set_at c i p v (pos 0) e inside)) (subst Q (sym e) is))
          ])
    ]
