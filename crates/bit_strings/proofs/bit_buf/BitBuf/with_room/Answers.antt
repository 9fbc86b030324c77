use Rattle.std.proofs.Common.{ℕ, ◌≡◌, Bool, List, [], arith}
use Rattle.bit_strings.specs.BitText.{BitText}
use Rattle.bit_strings.proofs.Buffer.{no_text}
use Rattle.bit_strings.proofs.bit_buf.BitBuf.with_room.Goals as goal

same : (a : List Bool) (m n : ℕ) → a ≡ [] → m ≡ n → (let x : BitText = record { text = a; room = m; made = m } in let y : BitText = record { text = []; room = n; made = n } in x ≡ y)
same a m n p q = cc

pub returns : goal.returns
returns c = same _ _ _ (no_text c.in_ok-with_capacity.field-0.items c.in_ok-with_capacity.ensures.items) (omega (arith, c.from-made.ensures))
