use Rattle.std.proofs.Common.{◌≡◌, true, ◌<◌, ◌+◌, ◌^◌, cond, subst, sym, arith}
use Rattle.cabac_coder.specs.Emitted.{Emitted}
use Rattle.cabac_coder.proofs.OneByte.{resolved_in_turn, run_room, Fitting}
use Rattle.cabac_coder.proofs.pending.PendingBytes.settle.Goals as goal

pub put_run-requires : goal.put_run-requires
put_run-requires c =
    let k : Fitting 0 c.args.self.now = omega (arith, c.requires.room) in
    rw c.put_held.ensures (omega (
      arith,
      run_room c.self.inside.first c.self.inside.base c.self.inside.held (c.self.inside.held + cond c.args.carry 1 0) c.self.inside.outstanding c.self.inside.buf.room c.self.inside.buf.made 0
          c.self.inside.buf.text c.self.invariant.within c.self.invariant.empty (subst (Fitting 0) (sym c.self.view_is) k),
    ))

pub returns : goal.returns
returns c = rw (c.put_run.ensures, c.put_held.ensures, ← c.self.view_is)
    (resolved_in_turn c.args.carry c.self.inside.first c.self.inside.base c.self.inside.held c.self.inside.outstanding c.args.next c.self.inside.buf.room c.self.inside.buf.made c.self.inside.buf.text
    c.self.invariant.within c.self.invariant.empty c.self.invariant.blank c.self.invariant.below
    (subst (λ (e : Emitted). c.args.carry ≡ true → e.number + 1 < 2 ^ e.count) (sym c.self.view_is) c.requires.bound))
