use Rattle.std.proofs.Common.{sym, subst}
use Rattle.spec_partitions.specs.Near.{Near}
use Rattle.spec_macroblock.specs.Records.{IsRecord}
use Rattle.spec_macroblock.specs.Strings.{macroblock_string}
use Rattle.bin_writer.specs.Coding.{seen, Codes}
use Rattle.slice_coder.proofs.write.write_behind.Goals as goal

pub code_mb-requires-clause-record_ : goal.code_mb-requires-clause-record_
code_mb-requires-clause-record_ c =
    subst (λ (near : Near). IsRecord near c.args.mb.now) (sym (c.around_of-around.ensures c.args.mb.now c.requires.follows)) c.requires.record_

pub returns : goal.returns
returns c =
    subst (λ (near : Near). Codes (seen c.args.coder.now c.args.contexts.now) (macroblock_string near c.args.mb.now) (seen c.code_mb.new.coder c.code_mb.new.contexts))
    (c.around_of-around.ensures c.args.mb.now c.requires.follows) c.code_mb.ensures
