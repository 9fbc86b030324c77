use Rattle.std.proofs.Common.{◌≡◌, ℕ, Bool, true, List, [], ◌<◌, ◌+◌, ◌^◌, ◌*◌, ◌++◌, cond, subst, sym, ap, arith}
use Rattle.bit_strings.specs.BitText.{BitText}
use Rattle.spec_bits.specs.Bits.{digits}
use Rattle.cabac_coder.specs.Emitted.{Emitted, run_of}
use Rattle.cabac_coder.proofs.OneByte.{finished, run_room, Fitting, length-behind}
use Rattle.cabac_coder.proofs.pending.PendingBytes.finish.Goals as goal

of_text : ℕ → ℕ → List Bool → BitText
of_text r m t = record { text = t; room = r; made = m }

pub put_run-requires : goal.put_run-requires
put_run-requires c =
    rw c.put_held.ensures (omega (
      arith,
      run_room c.self.inside.first c.self.inside.base c.self.inside.held (c.self.inside.held + cond c.args.carry 1 0) c.self.inside.outstanding c.self.inside.buf.room c.self.inside.buf.made c.args.size
          c.self.inside.buf.text c.self.invariant.within c.self.invariant.empty (subst (Fitting c.args.size) (sym c.self.view_is) c.requires.room),
    ))

pub put_digits-requires-clause-room : goal.put_digits-requires-clause-room
put_digits-requires-clause-room c =
    rw (c.put_run.ensures, c.put_held.ensures) (omega (
      arith,
      length-behind (c.self.inside.buf.text ++ cond c.self.inside.first [] (digits 8 (c.self.inside.held + cond c.args.carry 1 0))) (8 * c.self.inside.outstanding) (run_of c.args.carry c.self.inside.outstanding),
      run_room c.self.inside.first c.self.inside.base c.self.inside.held (c.self.inside.held + cond c.args.carry 1 0) c.self.inside.outstanding c.self.inside.buf.room c.self.inside.buf.made c.args.size
          c.self.inside.buf.text c.self.invariant.within c.self.invariant.empty (subst (Fitting c.args.size) (sym c.self.view_is) c.requires.room),
    ))

pub returns : goal.returns
unfolding of_text
returns c = rw (c.put_digits.ensures, c.put_run.ensures, c.put_held.ensures, ← c.self.view_is)
    (ap (of_text c.self.inside.buf.room c.self.inside.buf.made)
    (finished c.args.carry c.self.inside.first c.self.inside.base c.self.inside.held c.self.inside.outstanding c.self.inside.buf.room c.self.inside.buf.made c.args.size c.args.last c.self.inside.buf.text
    c.self.invariant.within c.self.invariant.empty c.self.invariant.blank c.self.invariant.below c.requires.fits
    (subst (λ (e : Emitted). c.args.carry ≡ true → e.number + 1 < 2 ^ e.count) (sym c.self.view_is) c.requires.bound)))
