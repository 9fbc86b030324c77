use Rattle.spec_record_laws.proofs.Built.{macroblock_bytes, slice_bytes}
use Rattle.spec_record_laws.proofs.built_samples_fit.Goals as goal

pub returns : goal.returns
returns c = record { macroblock = macroblock_bytes; slice = slice_bytes }
