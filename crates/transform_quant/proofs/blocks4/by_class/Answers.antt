use Rattle.transform_quant.proofs.Classes.{classed}
use Rattle.transform_quant.proofs.blocks4.by_class.Goals as goal

pub returns : goal.returns
returns c p h = classed c.args.even c.args.odd c.args.mixed p h
