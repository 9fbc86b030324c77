-- Messages and filler are read back.
use Rattle.std.proofs.Common.{ℕ, zero, suc, ◌≡◌, ◌-◌, ◌^◌, ◌<◌, ◌≤◌, true, [], ◌∷◌, ◌++◌, Option, Some, None, replicate, refl, arith}
use Rattle.std.specs.Prelude.{nat_lt, IfSome}
use Rattle.std.proofs.lemmas.Bool.Decides.{nat_tests}
use Rattle.spec_bits.specs.declared.fields.Field.TheVariants.{U, Ue}
use Rattle.spec_bits.specs.Fields.{fields_bits}
use Rattle.spec_headers.specs.MessageFields.{message_fields}
use Rattle.spec_bits.specs.Units.{filler_payload}
use Rattle.spec_reading.specs.Reader.{◌>>=◌, u, fixed, Reads}
use Rattle.spec_headers.specs.MessageReaders.{Delays, timing, buffering, by_type, delays, AreDelays, is_filler}
use Rattle.spec_headers.proofs.HeadLaws.{number, one_number, one_code, over, two_parts, passed}

timing_read : (initial : Option ℕ) (removal output : ℕ) → removal < 2 ^ 24 → output < 2 ^ 24
    → Reads (timing initial) (fields_bits (U 8 6 ∷ U 24 removal ∷ U 24 output ∷ [])) (record { initial = initial; removal = removal; output = output })
timing_read initial removal output h k =
    let d : Delays = record { initial = initial; removal = removal; output = output } in
    one_number 8 6 _ _ d (omega arith) (number 24 removal _ _ d h (number 24 output _ _ d k (over d)))

is_some_delay : (n : ℕ) → 1 ≤ n → nat_lt 0 n ≡ true
is_some_delay n h = grind (arith, nat_tests)

buffering_read : (n : ℕ) → 1 ≤ n → n < 2 ^ 32 → Reads buffering (fields_bits (U 8 9 ∷ Ue 0 ∷ U 32 n ∷ U 32 0 ∷ U 7 64 ∷ [])) n
buffering_read n some h =
    one_number 8 9 _ _ n (omega arith) (one_code 0 _ _ n (omega arith) (number 32 n _ _ n h (passed (nat_lt 0 n) _ _ n (is_some_delay n some) (one_number 32 0 _ _ n (omega arith) (one_number 7 64 _ _ n (omega arith) (over n))))))

by_initial : (initial : Option ℕ) (removal output : ℕ) → IfSome initial (λ delay. (1 ≤ delay) × (delay < 2 ^ 32)) → removal < 2 ^ 24 → output < 2 ^ 24
    → (let d : Delays = record { initial = initial; removal = removal; output = output } in Reads delays (fields_bits (message_fields initial removal output)) d)
unfolding delays message_fields
by_initial None removal output f h k =
    let d : Delays = record { initial = None; removal = removal; output = output } in
    number 8 1 by_type _ d (omega arith) (timing_read None removal output h k)
by_initial (Some n) removal output f h k =
    let d : Delays = record { initial = Some n; removal = removal; output = output } in
    number 8 0 by_type _ d (omega arith)
    (two_parts buffering (λ delay. fixed (u 8) 1 >>= λ _. timing (Some delay)) (U 8 9 ∷ Ue 0 ∷ U 32 n ∷ U 32 0 ∷ U 7 64 ∷ []) (U 8 1 ∷ U 8 6 ∷ U 24 removal ∷ U 24 output ∷ []) n d
    (buffering_read n f.0 f.1) (one_number 8 1 (λ _. timing (Some n)) _ d (omega arith) (timing_read (Some n) removal output h k)))

pub reads_delays : (d : Delays) → AreDelays d → Reads delays (fields_bits (message_fields d.initial d.removal d.output)) d
reads_delays d are = by_initial d.initial d.removal d.output are.initial are.removal are.output

filler_is : (n : ℕ) → is_filler (replicate n 255 ++ 128 ∷ []) ≡ true
filler_is zero = refl
filler_is (suc zero) = refl
filler_is (suc (suc n)) = filler_is (suc n)

pub filler_is_read : (n : ℕ) → is_filler (filler_payload n) ≡ true
filler_is_read n = filler_is (n - 5)
