use Rattle.std.proofs.Common.{◌≡◌, ◌+◌, ◌/◌, ◌^◌, ◌<◌, arith, rules}
use Rattle.std.proofs.lemmas.Nat.{shr_below}
use Rattle.bit_strings.proofs.bit_buf.high_byte.Goals as goal

pub overflow_cast-result : goal.overflow_cast-result
overflow_cast-result c =
    let e : c.args.used + 8 ≡ 8 + c.args.used = omega arith in
    let h : c.args.rest / 2 ^ c.args.used < 2 ^ 8 = shr_below c.args.rest 8 c.args.used (rw (← e) c.requires.fits) in
    search rules
