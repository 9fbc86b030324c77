-- Units that say nothing of the pictures: filler data and supplemental enhancement information (ITU-T H.264, clauses 7.3.2.3 and 7.3.2.7).
use Rattle.std.specs.Prelude.{◌==◌, ◌&&◌, Bool, is_some, if◌then◌else◌}
use Rattle.spec_bits.specs.Units.{Nal}
use Rattle.spec_headers.specs.MessageReaders.{delays, is_filler}
use Rattle.spec_decoder.specs.Sets.{read_set}

-- nal_ref_idc is 0 of both (clause 7.4.1)
unfoldable pub is_passed : Nal → Bool
is_passed nal =
    (nal.ref_idc == 0) && (if nal.kind == 12 then is_filler nal.payload else (nal.kind == 6) && is_some (read_set delays nal.payload))
