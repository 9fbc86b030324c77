use Rattle.std.proofs.Common.{◌≡◌, length, refl, sym, subst, ◌∙◌, arith}
use Rattle.nal_writer.proofs.Pieces.{Scanned, scanned_more, scanned_past, run_here, run_all}
use Rattle.nal_writer.proofs.units.clean_run.Goals as goal

pub returns-then-needs_escape : goal.returns-then-needs_escape
returns-then-needs_escape c = run_here c.args.bytes.now c.loop-i.i c.loop-i.zeros _ (omega arith) refl (sym c.needs_escape.ensures ∙ c.if-needs_escape.true) c.loop-i.invariant

pub loop-i-preserved-then-byte-gt3 : goal.loop-i-preserved-then-byte-gt3
loop-i-preserved-then-byte-gt3 c = scanned_past c.args.bytes.now c.loop-i.i c.loop-i.zeros _ (omega arith) refl (omega (arith, c.if-byte-gt3.true)) c.loop-i.invariant

pub loop-i-preserved : goal.loop-i-preserved
loop-i-preserved c = scanned_more c.args.bytes.now c.loop-i.i c.loop-i.zeros _ c.next_zeros-zeros.result (omega arith) refl (sym c.needs_escape.ensures ∙ c.if-needs_escape.false) c.next_zeros-zeros.ensures c.loop-i.invariant

pub returns : goal.returns
returns c = run_all c.args.bytes.now (length c.args.bytes.now) c.loop-i.zeros refl (let e : c.loop-i.i ≡ length c.args.bytes.now = omega arith in subst (λ i. Scanned c.args.bytes.now i c.loop-i.zeros) e c.loop-i.invariant)
