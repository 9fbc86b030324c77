-- The units of an access unit that stand before those of its slices (ITU-T H.264, clause 7.4.1.2.3).
use Rattle.std.specs.Prelude.{ℕ, Bool, not, List, ◌++◌}
use Rattle.spec_headers.specs.declared.heads.SeqHead.{SeqHead}
use Rattle.spec_headers.specs.MessageReaders.{Delays}
use Rattle.unit_writer.specs.Parts.{set_bytes, message_bytes}

-- parameter sets of IDR pictures alone, and the messages, which come first where there are none
abbrev pub front_bytes : SeqHead → Bool × Bool → Bool → Delays → List ℕ
front_bytes s flags idr d = set_bytes s flags idr ++ message_bytes (not idr) d
