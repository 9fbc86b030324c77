use Rattle.std.proofs.Common.{length, ap, arith}
use Rattle.bit_strings.proofs.Buffer.{length-filled}
use Rattle.bit_strings.proofs.bit_buf.BitBuf.len.Goals as goal

pub returns-clause-len : goal.returns-clause-len
returns-clause-len c = let f = c.self.inside in omega (arith, length-filled f.bytes.items f.used f.begun, ap (λ t. length t.text) c.self.view_is, c.len.ensures)
