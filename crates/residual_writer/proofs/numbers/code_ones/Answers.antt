use Rattle.std.proofs.Common.{◌≡◌, ◌-◌, arith}
use Rattle.bin_writer.proofs.Coding.{leads_start, leads_on, leads_last, leads_end}
use Rattle.mb_binarise.proofs.Strings.{ones_more, ones_close, ones_end}
use Rattle.residual_writer.proofs.numbers.code_ones.Goals as goal

pub loop-k-init : goal.loop-k-init
loop-k-init c =
    let m : c.args.most - 0 ≡ c.args.most = omega arith in
    let v : c.args.value - 0 ≡ c.args.value = omega arith in
    record { coded = rw (m, v) (leads_start c.requires.ready); count = omega arith }

pub loop-k-preserved : goal.loop-k-preserved
loop-k-preserved c = record {
  coded = leads_on (ones_more c.args.context c.args.most c.args.value c.loop-k.k (omega arith) (omega arith)) c.loop-k.invariant.coded c.code_bin.ensures;
  count = omega arith;
}

pub returns-then-value-most : goal.returns-then-value-most
returns-then-value-most c = leads_last (ones_close c.args.context c.args.most c.args.value c.loop-k.k (omega arith) (omega arith)) c.loop-k.invariant.coded c.code_bin-then-value-most.ensures

pub returns-else-value-most : goal.returns-else-value-most
returns-else-value-most c = leads_end (ones_end c.args.context c.args.most c.args.value c.loop-k.k (omega arith)) c.loop-k.invariant.coded
