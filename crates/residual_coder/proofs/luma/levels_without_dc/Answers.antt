use Rattle.std.proofs.Common.{◌≡◌, ℕ, ℤ, List, pos, set, length, arith, sym, subst}
use Rattle.spec_residual.specs.Blocks.{AllWithin}
use Rattle.spec_residual.specs.declared.BlockKind.{BlockKind}
use Rattle.spec_residual.specs.Levels.{greatest}
use Rattle.residual_coder.proofs.BlockLaws.{levels_without_dc_is, set_within, zero_within, made4}
use Rattle.residual_coder.proofs.luma.levels_without_dc.Goals as goal

-- what is quantised is still as small as the kind allows
still_small : (kind : BlockKind) (xs : List ℤ) → length xs ≡ 16 → greatest kind ≡ 9180 → AllWithin 16 9180 xs → AllWithin 16 (greatest kind) (set xs 0 (pos 0))
still_small kind xs long e small =
    let P : ℕ → Type 0 = λ n. AllWithin 16 n (set xs 0 (pos 0)) in
    subst P (sym e) (set_within 16 9180 0 (pos 0) xs (omega arith) (zero_within 9180) small)

pub returns-clause-value : goal.returns-clause-value
returns-clause-value c = levels_without_dc_is c.args.kind c.args.intra c.args.qp c.args.spectrum.now _ c.quantise4.ensures.value

pub returns-clause-small : goal.returns-clause-small
returns-clause-small c = c.quantise4.ensures.small (still_small c.args.kind c.args.spectrum.now c.told-spectrum c.requires.of_blocks c.requires.size)

pub returns-clause-made : goal.returns-clause-made
returns-clause-made c =
    made4 c.args.kind c.args.intra c.args.qp _ _ c.quantise4.ensures.value
    (still_small c.args.kind c.args.spectrum.now c.told-spectrum c.requires.of_blocks c.requires.size)
