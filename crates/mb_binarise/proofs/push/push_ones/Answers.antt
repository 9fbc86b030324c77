use Rattle.std.proofs.Common.{◌∙◌, sym, ap, arith, ◌++◌, List}
use Rattle.std.proofs.lemmas.List.{append-nil}
use Rattle.spec_syntax.specs.declared.Bin.{Bin}
use Rattle.mb_binarise.proofs.Strings.{ones_more, ones_close, ones_end, step}
use Rattle.mb_binarise.proofs.push.push_ones.Goals as goal

pub loop-k-preserved : goal.loop-k-preserved
loop-k-preserved c = record {
  written = rw c.push.ensures.items (step _ c.loop-k.bins.items _ _ _ c.loop-k.invariant.written (ones_more c.args.ctx c.args.most c.args.value c.loop-k.k (omega arith) (omega arith)));
  len = omega arith;
  count = omega arith;
}

pub returns-then-value-most-clause-items : goal.returns-then-value-most-clause-items
returns-then-value-most-clause-items c = c.push-then-value-most.ensures.items ∙ ap (λ (ys : List Bin). c.loop-k.bins.items ++ ys) (sym (ones_close c.args.ctx c.args.most c.args.value c.loop-k.k (omega arith) (omega arith))) ∙ c.loop-k.invariant.written

pub returns-else-value-most-clause-items : goal.returns-else-value-most-clause-items
returns-else-value-most-clause-items c =
    sym (append-nil c.loop-k.bins.items) ∙ ap (λ (ys : List Bin). c.loop-k.bins.items ++ ys) (sym (ones_end c.args.ctx c.args.most c.args.value c.loop-k.k (omega arith))) ∙ c.loop-k.invariant.written
