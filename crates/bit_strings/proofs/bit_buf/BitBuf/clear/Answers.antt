use Rattle.std.proofs.Common.{ap}
use Rattle.bit_strings.proofs.Buffer.{same_text, no_text}
use Rattle.bit_strings.proofs.bit_buf.BitBuf.clear.Goals as goal

pub returns : goal.returns
returns c = same_text _ _ _ _ _ _ (no_text c.clear.new.self.items c.clear.ensures.items) (ap (λ t. t.room) c.self.view_is) (ap (λ t. t.made) c.self.view_is)
