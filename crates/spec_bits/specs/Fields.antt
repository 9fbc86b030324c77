-- The bits of fields, by their descriptors (ITU-T H.264, clause 7.2), and which numbers they have room for.
use Rattle.std.specs.Prelude.{◌-◌, ◌^◌, ◌<◌, ◌≤◌, ◌<ℤ◌, negsuc, Bool, List, [], ◌∷◌}
use Rattle.std.specs.List.{flat_map}
use Rattle.spec_bits.specs.declared.fields.Field.{Field}
use Rattle.spec_bits.specs.declared.fields.Field.TheVariants.{U, Ue, Se}
use Rattle.spec_bits.specs.Bits.{digits}
use Rattle.spec_bits.specs.Golomb.{ue_bits, se_bits}

abbrev pub field_bits : Field → List Bool
field_bits (U n v) = digits n v
field_bits (Ue v) = ue_bits v
field_bits (Se v) = se_bits v

unfoldable pub fields_bits : List Field → List Bool
fields_bits fields = flat_map field_bits fields

-- a field has room for its number
abbrev pub FieldFits : Field → Type 0
FieldFits (U n v) = (n ≤ 32) × (v < 2 ^ n)
FieldFits (Ue v) = v < 2 ^ 32 - 1
FieldFits (Se v) = negsuc (2 ^ 31 - 1) <ℤ v

abbrev pub FieldsFit : List Field → Type 0
FieldsFit [] = Unit {0}
FieldsFit (f ∷ fields) = FieldFits f × FieldsFit fields
