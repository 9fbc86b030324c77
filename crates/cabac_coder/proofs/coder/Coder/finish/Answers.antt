use Rattle.std.proofs.Common.{List, subst, drop, length, ◌≡◌, ℕ, ◌+◌, ◌*◌, ◌/◌, ◌%◌, ◌^◌, ◌≤◌, ◌<◌, cond, Bool, true, false, ◌++◌, refl, sym, ap, ◌∙◌, arith}
use Rattle.bit_strings.specs.BitText.{BitText}
use Rattle.spec_bits.specs.Bits.{digits}
use Rattle.spec_cabac.specs.Code.{Coded, flushed, arith_code}
use Rattle.cabac_coder.specs.Emitted.{Emitted}
use Rattle.cabac_coder.specs.State.{CoderState, state_of, coded_of}
use Rattle.spec_cabac.specs.Law.{ReadsBack}
use Rattle.spec_cabac.proofs.Law.{reads_back}
use Rattle.std.proofs.Math.Seq.{drop-append_seam}
use Rattle.cabac_coder.proofs.Advance.{end_bound, end_fits, end_number}
use Rattle.cabac_coder.proofs.coder.Coder.finish.Goals as goal

pub finish-requires-clause-bound : goal.finish-requires-clause-bound
finish-requires-clause-bound c = λ k. end_bound c.self.inside.bytes c.self.inside.at.low c.self.inside.at.range c.self.inside.at.queued
    c.self.invariant.bounded c.self.invariant.least (c.carries.ensures.carry k)

pub finish-requires-clause-fits : goal.finish-requires-clause-fits
finish-requires-clause-fits c = rw c.last_digits.ensures (end_fits c.self.inside.at.low c.self.inside.at.queued)

abbrev ends_at : CoderState → BitText
ends_at s = record { text = s.start ++ flushed (coded_of s); room = s.room; made = s.made }

ended : (b : Emitted) (low range q last : ℕ) (carry e f : Bool) → (carry ≡ true → 2 ^ (9 + q) ≤ low) → (carry ≡ false → low < 2 ^ (9 + q)) → low < 1024 * 2 ^ q →
    last ≡ low % 2 ^ (9 + q) / 2 * 2 + 1 →
    (let t : BitText = record { text = b.start ++ digits (b.count + (9 + q)) ((b.number + cond carry 1 0) * 2 ^ (9 + q) + last); room = b.room; made = b.made } in t)
    ≡ ends_at (state_of b low range q e f)
ended b low range q last carry e f y n m v =
    let c : b.count + (9 + q) ≡ b.count + q + 9 = omega arith in
    rw (v, end_number carry b.number low q y n m, c) refl

bits_at_end : (r : goal.After-finish) → r.finish.result ≡ ends_at r.args.self
bits_at_end c =
    let low : c.self.inside.at.low < 1024 * 2 ^ c.self.inside.at.queued = omega (arith, c.self.invariant.register, c.self.invariant.least) in
    c.finish.ensures
    ∙ ended c.self.inside.bytes c.self.inside.at.low c.self.inside.at.range c.self.inside.at.queued c.last_digits.result c.carries.result c.self.inside.ended c.self.inside.full
    c.carries.ensures.carry c.carries.ensures.none low c.last_digits.ensures
    ∙ ap ends_at c.self.view_is

pub returns-clause-bits : goal.returns-clause-bits
returns-clause-bits c = bits_at_end c

pub returns-clause-code : goal.returns-clause-code
returns-clause-code c = λ bins r. ap (λ (t : BitText). t.text) (bits_at_end c) ∙ ap (λ (e : Coded). c.args.self.start ++ flushed e) (sym r)

pub returns-clause-read_back : goal.returns-clause-read_back
returns-clause-read_back c = λ bins k r.
    let t : c.finish.result.text ≡ c.args.self.start ++ arith_code bins = returns-clause-code c bins r in
    let d : drop (length c.args.self.start) c.finish.result.text ≡ arith_code bins =
    ap (drop (length c.args.self.start)) t ∙ drop-append_seam c.args.self.start (arith_code bins) in
    subst (λ (x : List Bool). ReadsBack bins x) (sym d) (reads_back bins k)
