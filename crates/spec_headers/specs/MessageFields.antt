-- The fields of the messages of supplemental enhancement information (ITU-T H.264, clauses 7.3.2.3, D.1.2 and D.1.3).
use Rattle.std.specs.Prelude.{ℕ, List, [], ◌∷◌, ◌++◌, Option, Some, None}
use Rattle.spec_bits.specs.declared.fields.Field.{Field}
use Rattle.spec_bits.specs.declared.fields.Field.TheVariants.{U, Ue}

-- buffering_period of one buffer (clause D.1.2)
abbrev pub buffering_fields : ℕ → List Field
buffering_fields delay =
    U 8 0  -- payloadType
    ∷ U 8 9  -- payloadSize
    ∷ Ue 0  -- seq_parameter_set_id
    ∷ U 32 delay  -- initial_cpb_removal_delay
    ∷ U 32 0  -- initial_cpb_removal_delay_offset
    ∷ U 7 64  -- bit_equal_to_one, and bit_equal_to_zero to the byte
    ∷ []

-- pic_timing (clause D.1.3)
abbrev pub timing_fields : ℕ → ℕ → List Field
timing_fields removal output =
    U 8 1  -- payloadType
    ∷ U 8 6  -- payloadSize
    ∷ U 24 removal  -- cpb_removal_delay
    ∷ U 24 output  -- dpb_output_delay
    ∷ []

abbrev pub period_fields : Option ℕ → List Field
period_fields None = []
period_fields (Some delay) = buffering_fields delay

-- the messages of a picture in one unit: of the buffering period that begins with it, where one does, and of its timing
unfoldable pub message_fields : Option ℕ → ℕ → ℕ → List Field
message_fields initial removal output = period_fields initial ++ timing_fields removal output
