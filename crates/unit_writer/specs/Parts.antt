-- The parts of an access unit around the units of its slices (ITU-T H.264, clauses 7.4.1.2.3 and B.1.1).
use Rattle.std.specs.Prelude.{ℕ, Bool, List, ◌++◌, length, map}
use Rattle.std.specs.List.{flat_map}
use Rattle.spec_bits.specs.declared.fields.Field.{Field}
use Rattle.spec_bits.specs.Fields.{fields_bits}
use Rattle.spec_bits.specs.Golomb.{trail_bits}
use Rattle.spec_bits.specs.Units.{Nal, written}
use Rattle.spec_headers.specs.declared.heads.SeqHead.{SeqHead}
use Rattle.spec_headers.specs.MessageReaders.{Delays}
use Rattle.spec_pictures.specs.Accesses.{is_set, set_nals, started}
use Rattle.spec_coding.specs.Trials.{supplement_unit, filler_units}

-- the payload of a unit of fields: the fields, with the trailing bits
abbrev pub ended : List Field → List Bool
ended fields = fields_bits fields ++ trail_bits (length (fields_bits fields))

-- units that stand behind the first one of an access unit
abbrev pub later_bytes : List Nal → List ℕ
later_bytes nals = flat_map written (map (λ m. (is_set m, m)) nals)

-- the parameter sets that begin the access unit of an IDR picture
abbrev pub set_bytes : SeqHead → Bool × Bool → Bool → List ℕ
set_bytes s flags idr = flat_map written (started (set_nals s flags idr))

-- the unit of the messages, with a start code of four bytes where it is long
abbrev pub message_bytes : Bool → Delays → List ℕ
message_bytes long d = written (long, supplement_unit d)

-- the filler that ends an access unit
abbrev pub filler_bytes : ℕ → List ℕ
filler_bytes n = later_bytes (filler_units n)
