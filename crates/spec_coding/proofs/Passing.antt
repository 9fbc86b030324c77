-- The messages and the filler of an access unit are passed over.
use Rattle.std.proofs.Common.{ℕ, ◌-◌, Bool, true, false, [], ◌∷◌, replicate, inl, inr, refl, ap, lit<}
use Rattle.std.specs.Prelude.{◌==◌, ◌≡◌, is_some, if◌then◌else◌}
use Rattle.std.specs.List.{AllByRecursion}
use Rattle.spec_bits.specs.Fields.{fields_bits}
use Rattle.spec_headers.specs.MessageFields.{message_fields}
use Rattle.spec_bits.specs.Units.{filler_payload}
use Rattle.spec_bits.proofs.Payloads.{push_ends_well}
use Rattle.spec_headers.specs.MessageReaders.{Delays, AreDelays, delays}
use Rattle.spec_headers.proofs.MessageLaws.{reads_delays, filler_is_read}
use Rattle.spec_stream.proofs.DecodeLaws.{read_set-back}
use Rattle.spec_stream.proofs.Ends.{ends_in_trail}
use Rattle.spec_decoder.specs.Passed.{is_passed}
use Rattle.spec_pictures.specs.Accesses.{IsPassedOver}
use Rattle.spec_coding.specs.Trials.{supplement_unit, filler_units}

supplement_is : (d : Delays) → AreDelays d → is_passed (supplement_unit d) ≡ true
unfolding is_passed
supplement_is d are = ap (λ o. is_some o) (read_set-back delays (fields_bits (message_fields d.initial d.removal d.output)) d (reads_delays d are))

pub supplement_passed : (d : Delays) → AreDelays d → IsPassedOver (supplement_unit d)
supplement_passed d are = record { kind = inl refl; ref_idc = refl; passed = supplement_is d are; ends = ends_in_trail (fields_bits (message_fields d.initial d.removal d.output)) }

filler_unit_is : (n : ℕ) → is_passed (record { ref_idc = 0; kind = 12; payload = filler_payload n }) ≡ true
unfolding is_passed
filler_unit_is n = filler_is_read n

pub filler_passed : (n : ℕ) → AllByRecursion IsPassedOver (filler_units n)
filler_passed n = by (n == 0)
  where
    by : (t : Bool) → AllByRecursion IsPassedOver (if t then [] else record { ref_idc = 0; kind = 12; payload = filler_payload n } ∷ [])
    by true = tt
    by false = (record { kind = inr refl; ref_idc = refl; passed = filler_unit_is n; ends = push_ends_well (replicate (n - 5) 255) 128 (lit< tt) }, tt)
