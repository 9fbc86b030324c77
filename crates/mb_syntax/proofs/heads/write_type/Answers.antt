use Rattle.bin_writer.proofs.Coding.{codes_as}
use Rattle.mb_syntax.specs.Around.{near_of}
use Rattle.mb_syntax.proofs.Codable.{type_codable}
use Rattle.mb_syntax.proofs.Strings.{type_is}
use Rattle.mb_syntax.proofs.heads.write_type.Goals as goal

pub code_bins-requires-clause-codable : goal.code_bins-requires-clause-codable
code_bins-requires-clause-codable c = rw (c.as_slice.ensures.value, c.bins_type-bins.ensures, c.type_inc-inc.ensures c.args.mb.now) (type_codable (near_of c.args.around.now c.args.mb.now) c.args.mb.now c.requires.record_)

pub returns : goal.returns
returns c = codes_as (type_is (near_of c.args.around.now c.args.mb.now) c.args.mb.now c.type_inc-inc.result (c.type_inc-inc.ensures c.args.mb.now)) (rw (c.as_slice.ensures.value, c.bins_type-bins.ensures) at c.code_bins.ensures)
