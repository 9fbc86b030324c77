use Rattle.std.proofs.Common.{sym, subst}
use Rattle.spec_syntax.specs.Syntax.{Reads}
use Rattle.spec_partitions.specs.Near.{Near}
use Rattle.spec_macroblock.specs.Macroblock.{macroblock}
use Rattle.spec_macroblock.specs.Records.{IsRecord}
use Rattle.bin_writer.specs.Coding.{seen}
use Rattle.bin_writer.proofs.Whole.{written}
use Rattle.spec_macroblock.specs.Strings.{macroblock_string}
use Rattle.spec_macroblock.proofs.Reading.{reads_macroblock}
use Rattle.mb_syntax.specs.Around.{near_of}
use Rattle.mb_syntax.proofs.Strings.{some_bin}
use Rattle.mb_syntax.proofs.write_mb.Goals as goal

pub returns-clause-written : goal.returns-clause-written
returns-clause-written c =
    written c.outcome.result (seen c.args.coder.now c.args.contexts.now) (macroblock_string (near_of c.args.around.now c.args.mb.now) c.args.mb.now) _ (some_bin (near_of c.args.around.now c.args.mb.now) c.args.mb.now c.requires.record_)
    c.code_mb.ensures c.outcome.ensures

pub returns-clause-read_back : goal.returns-clause-read_back
returns-clause-read_back c = λ view e g.
    subst (λ (n : Near). Reads (macroblock view) (macroblock_string n c.args.mb.now) c.args.mb.now) e (reads_macroblock view c.args.mb.now (subst (λ (n : Near). IsRecord n c.args.mb.now) (sym e) c.requires.record_) g)
