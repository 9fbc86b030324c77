use Rattle.std.proofs.Common.{◌<◌, arith, get_or}
use Rattle.nine_search.proofs.nine.lemma_bytes.Goals as goal

pub returns : goal.returns
returns c n = let f : get_or c.args.bytes.now n 0 < 256 = (c.type_inv.bytes n).fits in omega arith
