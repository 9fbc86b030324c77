use Rattle.std.proofs.Common.{◌≡◌, ◌+◌, ◌-◌, ◌^◌, ◌<◌, ◌≤◌, ◌++◌, length, refl, sym, ap, subst, ◌∙◌, arith}
use Rattle.spec_bits.specs.Bits.{digits}
use Rattle.bit_strings.specs.BitText.{BitText, filled}
use Rattle.bit_strings.proofs.Buffer.{same_text, length-filled, filled-push, filled-joined}
use Rattle.std.proofs.Common.{pow_pos}
use Rattle.std.proofs.lemmas.Nat.{mod_below}
use Rattle.bit_strings.proofs.bit_buf.BitBuf.append.Goals as goal

pub loop-used-init : goal.loop-used-init
loop-used-init c =
    let f = c.self.inside in
    let k = subst (λ (t : BitText). length t.text + c.args.n ≤ t.room) (sym c.self.view_is) c.requires.room in
    record {
      same = refl;
      fits = rw c.from.ensures c.joined-rest.ensures.fits;
      few = omega arith;
      room = omega (arith, k, length-filled f.bytes.items f.used f.begun);
      same_room = refl;
      same_made = refl;
      within = c.self.invariant.3;
      capacity = c.self.invariant.4;
      small = c.self.invariant.5;
    }

pub loop-used-preserved : goal.loop-used-preserved
loop-used-preserved c =
    let e : c.loop-used.used - 8 + 8 ≡ c.loop-used.used = omega arith in
    let f : c.loop-used.rest < 2 ^ (c.loop-used.used - 8 + 8) = rw e c.loop-used.invariant.fits in
    record {
      same = rw (c.push_reserved.ensures.items, c.high_byte.ensures, c.low_part-rest.ensures)
          (filled-push c.loop-used.self-inside.bytes.items (c.loop-used.used - 8) c.loop-used.rest f
          ∙ ap (λ u. filled c.loop-used.self-inside.bytes.items u c.loop-used.rest) e ∙ c.loop-used.invariant.same);
      fits = rw c.low_part-rest.ensures (mod_below c.loop-used.rest (2 ^ (c.loop-used.used - 8)) (pow_pos (c.loop-used.used - 8)));
      few = omega arith;
      room = omega arith;
      same_room = c.loop-used.invariant.same_room;
      same_made = c.loop-used.invariant.same_made;
      within = c.loop-used.invariant.within;
      capacity = omega arith;
      small = c.loop-used.invariant.small;
    }

pub returns : goal.returns
returns c =
    let f = c.self.inside in
    same_text _ _ _ _ _ _
    (c.loop-used.invariant.same
    ∙ ap (λ n. filled f.bytes.items (f.used + n) c.joined-rest.result) c.from.ensures
    ∙ ap (λ r. filled f.bytes.items (f.used + c.args.n) r) c.joined-rest.ensures.number
    ∙ filled-joined f.bytes.items f.used f.begun c.args.n c.args.value c.self.invariant.1 c.requires.below
    ∙ ap (λ t. t.text ++ digits c.args.n c.args.value) c.self.view_is)
    (c.loop-used.invariant.same_room ∙ ap (λ t. t.room) c.self.view_is) (c.loop-used.invariant.same_made ∙ ap (λ t. t.made) c.self.view_is)
