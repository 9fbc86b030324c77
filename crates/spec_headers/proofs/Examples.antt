-- Worked rows: the parameter set and the messages of a stream of one picture at 25 pictures a second, 1,000,000 bits a second and a buffer of
-- 1,000,000 bits; and fields that a stream doesn't have there.
use Rattle.std.proofs.Common.{ℕ, ◌≡◌, Bool, true, false, List, [], ◌∷◌, ◌++◌, Option, Some, refl}
use Rattle.std.specs.Prelude.{is_some}
use Rattle.std.specs.Int.Count.{count_leading_zeros}
use Rattle.std.specs.Option.{option_map}
use Rattle.spec_bits.specs.declared.fields.Field.{Field}
use Rattle.spec_bits.specs.declared.fields.Field.TheVariants.{U, Ue}
use Rattle.spec_bits.specs.Bits.{digits, bits_of_bytes}
use Rattle.spec_bits.specs.Golomb.{ue_bits}
use Rattle.spec_bits.specs.Fields.{fields_bits}
use Rattle.spec_headers.specs.MessageFields.{message_fields}
use Rattle.spec_reading.specs.Reader.{Reader, read, u_behind, ue_behind, fixed, flag}
use Rattle.spec_headers.specs.HeadReaders.{cropping, sequence, usability}
use Rattle.spec_headers.specs.MessageReaders.{delays}

-- the value that bytes begin with
read_from : {A : Type 0} → Reader A → List ℕ → Option A
read_from f bytes = option_map (λ r. r.0) (read f (bits_of_bytes bytes))

worked_sequence : read_from sequence (0x64 ∷ 0x00 ∷ 0x0D ∷ 0xAC ∷ 0x1B ∷ 0x1A ∷ 0xDE ∷ 0x84 ∷ 0x00 ∷ 0x00 ∷ 0x00 ∷ 0x04 ∷ 0x00 ∷ 0x00 ∷ 0x00 ∷ 0xCB ∷ 0x80 ∷ 0x00 ∷ 0x03 ∷ 0xD0 ∷ 0x90 ∷ 0x00 ∷ 0x1E ∷ 0x84 ∷ 0x9F ∷ 0xDE ∷ 0xE0 ∷ 0x1E ∷ 0x24 ∷ 0x4A ∷ 0x70 ∷ [])
    ≡ Some (record { width = 16; height = 16; level = 13; refs = 2; timing = Some (record { num = 25; den = 1; rate = 1000000; cpb = 1000000; reorder = true }) })
unfolding read_from bits_of_bytes digits u_behind ue_behind fixed flag sequence cropping
worked_sequence = refl

worked_messages : read_from delays (0x00 ∷ 0x09 ∷ 0x80 ∷ 0x00 ∷ 0x57 ∷ 0xE4 ∷ 0x00 ∷ 0x00 ∷ 0x00 ∷ 0x00 ∷ 0x40 ∷ 0x01 ∷ 0x06 ∷ 0x00 ∷ 0x00 ∷ 0x00 ∷ 0x00 ∷ 0x00 ∷ 0x02 ∷ 0x80 ∷ []) ≡ Some (record { initial = Some 45000; removal = 0; output = 2 })
unfolding read_from bits_of_bytes digits u_behind ue_behind fixed delays
worked_messages = refl

-- usability information of up to two references, with these fields for a stretch of it
with_clock : ℕ → ℕ → List Field
with_clock ticks scale = U 32 ticks ∷ U 32 scale ∷ []

buffer : ℕ → ℕ → ℕ → List Field
buffer rate size constant = U 1 1 ∷ U 1 1 ∷ Ue 0 ∷ U 4 0 ∷ U 4 0 ∷ Ue rate ∷ Ue size ∷ U 1 constant ∷ U 5 31 ∷ U 5 23 ∷ U 5 23 ∷ U 5 0 ∷ U 1 0 ∷ U 1 0 ∷ U 1 0 ∷ []

depth : ℕ → ℕ → List Field
depth reorder held = U 1 1 ∷ U 1 1 ∷ Ue 0 ∷ Ue 0 ∷ Ue 8 ∷ Ue 8 ∷ Ue reorder ∷ Ue held ∷ []

is_read : List Field → List Field → List Field → Bool
is_read pace held restricted = is_some (read (usability 2) (fields_bits ((U 1 1 ∷ U 1 0 ∷ U 1 0 ∷ U 1 0 ∷ U 1 0 ∷ U 1 1 ∷ []) ++ (pace ++ (held ++ restricted)))))

-- a clock that stands still, a picture that lasts no whole ticks, a rate or a size past 32 bits, a rate that isn't constant, more than one picture
-- out of order, and a buffer of pictures of another size than max_num_ref_frames
refused : is_read (with_clock 1 50) (buffer 15624 62499 1) (depth 1 2)
    ∷ is_read (with_clock 0 50) (buffer 15624 62499 1) (depth 1 2)
    ∷ is_read (with_clock 1 0) (buffer 15624 62499 1) (depth 1 2)
    ∷ is_read (with_clock 1 51) (buffer 15624 62499 1) (depth 1 2)
    ∷ is_read (with_clock 1 50) (buffer 67108863 62499 1) (depth 1 2)
    ∷ is_read (with_clock 1 50) (buffer 15624 268435455 1) (depth 1 2)
    ∷ is_read (with_clock 1 50) (buffer 15624 62499 0) (depth 1 2)
    ∷ is_read (with_clock 1 50) (buffer 15624 62499 1) (depth 2 2)
    ∷ is_read (with_clock 1 50) (buffer 15624 62499 1) (depth 1 1)
    ∷ []
    ≡ true ∷ false ∷ false ∷ false ∷ false ∷ false ∷ false ∷ false ∷ false ∷ []
unfolding is_read with_clock buffer depth digits ue_bits fields_bits u_behind ue_behind fixed flag count_leading_zeros
refused = refl

-- a buffering period of no delay (clause D.2.2)
no_delay : is_some (read delays (fields_bits (message_fields (Some 0) 0 2))) ≡ false
unfolding digits ue_bits fields_bits message_fields u_behind ue_behind fixed delays count_leading_zeros
no_delay = refl
