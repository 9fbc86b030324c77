use Rattle.std.proofs.Common.{◌≡◌, get_or, ◌*◌, ℤ, List, length, arith, sym, ap, ◌∙◌, pos}
use Rattle.std.proofs.lemmas.List.{get_or_default}
use Rattle.spec_residual.specs.Blocks.{item}
use Rattle.transform_quant.specs.Lines.{hadamard2_sums}
use Rattle.transform_quant.proofs.Columns.{same4}
use Rattle.transform_quant.proofs.Sizes.{all_within_same}
use Rattle.transform_quant.proofs.HadamardPasses.{sums_are, sums_small}
use Rattle.transform_quant.proofs.hadamard.hadamard2.Goals as goal

read : (x line : List ℤ) (d0 d1 d2 d3 : ℤ) → length x ≡ 4 → line ≡ hadamard2_sums (get_or x 0 d0) (get_or x 1 d1) (get_or x 2 d2) (get_or x 3 d3) → line ≡ hadamard2_sums (item x 0) (item x 1) (item x 2) (item x 3)
read x line d0 d1 d2 d3 long e =
    e ∙ same4 hadamard2_sums _ _ _ _ _ _ _ _ (get_or_default x 0 d0 (pos 0) (omega arith)) (get_or_default x 1 d1 (pos 0) (omega arith)) (get_or_default x 2 d2 (pos 0) (omega arith)) (get_or_default x 3 d3 (pos 0) (omega arith))

pub returns-clause-value : goal.returns-clause-value
returns-clause-value c p h =
    ap (λ (l : List ℤ). item l p) (read c.args.x c.hadamard2_sums.result _ _ _ _ (omega arith) c.hadamard2_sums.ensures) ∙ sums_are c.args.x p h

pub returns-clause-small : goal.returns-clause-small
returns-clause-small c m small =
    all_within_same 4 (4 * m) _ _ (sym (read c.args.x c.hadamard2_sums.result _ _ _ _ (omega arith) c.hadamard2_sums.ensures)) (sums_small c.args.x m small)
