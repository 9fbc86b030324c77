-- Laws of lists of fields.
use Rattle.std.proofs.Common.{◌≡◌, List, [], ◌∷◌, ◌++◌, refl, append-nil}
use Rattle.std.proofs.lemmas.List.Concat.{flat_map-append}
use Rattle.spec_bits.specs.declared.fields.Field.{Field}
use Rattle.spec_bits.specs.Fields.{field_bits, fields_bits}

pub fields_bits-none : fields_bits [] ≡ []
unfolding fields_bits
fields_bits-none = refl

pub fields_bits-one : (f : Field) → fields_bits (f ∷ []) ≡ field_bits f
unfolding fields_bits
fields_bits-one f = append-nil (field_bits f)

pub fields_bits-cons : (f : Field) (fields : List Field) → fields_bits (f ∷ fields) ≡ field_bits f ++ fields_bits fields
unfolding fields_bits
fields_bits-cons f fields = refl

pub fields_bits-append : (xs ys : List Field) → fields_bits (xs ++ ys) ≡ fields_bits xs ++ fields_bits ys
unfolding fields_bits
fields_bits-append xs ys = flat_map-append field_bits xs ys
