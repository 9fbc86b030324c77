-- Worked rows: units.
use Rattle.std.proofs.Common.{◌≡◌, [], ◌∷◌, refl}
use Rattle.std.specs.Prelude.{Some}
use Rattle.spec_bits.specs.Units.{escape, unit_bytes, filler_unit, parted, unescape, units_of}

smallest_filler : filler_unit 5 ≡ 0 ∷ 0 ∷ 1 ∷ 0x0C ∷ 0x80 ∷ []
unfolding filler_unit unit_bytes escape
smallest_filler = refl

two_units : units_of (0 ∷ 0 ∷ 0 ∷ 1 ∷ 0x68 ∷ 0 ∷ 0 ∷ 3 ∷ 1 ∷ 0 ∷ 0 ∷ 1 ∷ 0x0C ∷ 0x80 ∷ []) ≡ Some ((record { ref_idc = 3; kind = 8; payload = 0 ∷ 0 ∷ 1 ∷ [] }) ∷ (record { ref_idc = 0; kind = 12; payload = 0x80 ∷ [] }) ∷ [])
unfolding units_of parted unescape
two_units = refl
