use Rattle.std.proofs.Common.{◌≡◌, ◌-◌, length, arith, pos}
use Rattle.bin_writer.proofs.Coding.{leads_start, leads_on, leads_last, leads_end, codes_then}
use Rattle.residual_writer.proofs.Flags.{flags_more, flags_last, flags_end}
use Rattle.residual_writer.proofs.significance.code_significance.Goals as goal

pub loop-place-init : goal.loop-place-init
loop-place-init c =
    let n : length c.args.levels.now - 1 - 0 ≡ length c.args.levels.now - 1 = omega arith in
    rw n (leads_start c.requires.ready)

pub loop-place-preserved : goal.loop-place-preserved
loop-place-preserved c =
    leads_on (flags_more c.args.category c.loop-place.place c.args.last c.args.levels.now (pos 0) c.requires.last (omega arith)) c.loop-place.invariant (rw c.is_level-here.ensures at c.code_place.ensures)

pub returns-then-last-levels : goal.returns-then-last-levels
returns-then-last-levels c =
    let e : c.loop-place.place ≡ c.args.last = omega arith in
    leads_last (flags_last c.args.category c.args.last c.args.levels.now c.requires.last c.if-last-levels.true) (rw e at c.loop-place.invariant) (codes_then c.code_significant.ensures c.code_last.ensures)

pub returns-else-last-levels : goal.returns-else-last-levels
returns-else-last-levels c =
    let e : c.loop-place.place ≡ c.args.last = omega arith in
    leads_end (flags_end c.args.category c.args.last c.args.levels.now _ (omega arith)) (rw e at c.loop-place.invariant)
