use Rattle.std.proofs.Common.{◌∙◌, sym, ap, arith, ◌++◌, List}
use Rattle.std.proofs.lemmas.List.{append-nil}
use Rattle.spec_syntax.specs.declared.Bin.{Bin}
use Rattle.spec_syntax.specs.Inter.{mvd_at}
use Rattle.mb_binarise.proofs.Strings.{prefix_more, prefix_close, prefix_end, step}
use Rattle.mb_binarise.proofs.inter.push_prefix.Goals as goal

pub loop-k-preserved : goal.loop-k-preserved
loop-k-preserved c = record {
  written = rw (c.push.ensures.items, c.mvd_context.ensures) (step _ c.loop-k.bins.items _ _ _ c.loop-k.invariant.written (prefix_more (mvd_at c.args.vertical c.args.inc) 9 c.args.size c.loop-k.k (omega arith) (omega arith)));
  len = omega arith;
  count = omega arith;
}

pub returns-then-size-lt9-clause-items : goal.returns-then-size-lt9-clause-items
returns-then-size-lt9-clause-items c = c.push-then-size-lt9.ensures.items ∙ ap (λ (ys : List Bin). c.loop-k.bins.items ++ ys) (rw c.mvd_context-then-size-lt9.ensures (sym (prefix_close (mvd_at c.args.vertical c.args.inc) 9 c.args.size c.loop-k.k (omega arith) (omega arith)))) ∙ c.loop-k.invariant.written

pub returns-else-size-lt9-clause-items : goal.returns-else-size-lt9-clause-items
returns-else-size-lt9-clause-items c =
    sym (append-nil c.loop-k.bins.items) ∙ ap (λ (ys : List Bin). c.loop-k.bins.items ++ ys) (sym (prefix_end (mvd_at c.args.vertical c.args.inc) 9 c.args.size c.loop-k.k (omega arith))) ∙ c.loop-k.invariant.written
