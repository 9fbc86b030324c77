use Rattle.transform_quant.specs.Lines.{hadamard4_line}
use Rattle.transform_quant.proofs.Sizes.{hadamard4_grows, pass4_within}
use Rattle.transform_quant.proofs.HadamardPasses.{hadamard4_is, hadamard4_small}
use Rattle.transform_quant.proofs.hadamard.hadamard4.Goals as goal

pub hadamard4_pass-requires-2 : goal.hadamard4_pass-requires-2
hadamard4_pass-requires-2 c =
    pass4_within hadamard4_line 25000 100000 (hadamard4_grows 25000) _ _ c.requires c.hadamard4_pass.ensures

pub returns-clause-value : goal.returns-clause-value
returns-clause-value c = hadamard4_is _ _ _ c.hadamard4_pass.ensures c.hadamard4_pass-2.ensures

pub returns-clause-small : goal.returns-clause-small
returns-clause-small c m small = hadamard4_small _ _ _ m small c.hadamard4_pass.ensures c.hadamard4_pass-2.ensures
