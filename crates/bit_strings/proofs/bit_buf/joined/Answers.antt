use Rattle.std.proofs.Common.{ℕ, ◌≡◌, ◌+◌, ◌*◌, ◌%◌, ◌^◌, ◌<◌, ◌≤◌, arith, pow-add, mul_comm, ◌∙◌}
use Rattle.std.proofs.lemmas.Nat.{shl_whole, mul-add-lt}
use Rattle.bit_strings.proofs.bit_buf.joined.Goals as goal

both_fit : (begun used n value : ℕ) → used < 8 → n ≤ 32 → begun < 2 ^ used → value < 2 ^ n → begun * 2 ^ n % 2 ^ 64 + value < 2 ^ (used + n)
both_fit begun used n value u k h v =
    let w : used + n ≤ 64 = omega arith in
    let e : 2 ^ (used + n) ≡ 2 ^ n * 2 ^ used = pow-add 2 used n ∙ mul_comm (2 ^ used) (2 ^ n) in
    rw (shl_whole begun used n 64 h w, e) (mul-add-lt begun (2 ^ n) value (2 ^ used) h v)

pub returns-clause-fits : goal.returns-clause-fits
returns-clause-fits c = both_fit c.args.begun c.args.used c.args.n c.args.value c.requires.used c.requires.few c.requires.begun c.requires.below
