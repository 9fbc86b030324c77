use Rattle.cabac_coder.proofs.OneByte.{held_more}
use Rattle.cabac_coder.proofs.pending.PendingBytes.hold.Goals as goal

pub returns : goal.returns
returns c = rw (← c.self.view_is) (held_more c.self.inside.base c.self.inside.held c.self.inside.outstanding c.self.inside.buf.room c.self.inside.buf.made c.self.inside.first c.self.inside.buf.text)
