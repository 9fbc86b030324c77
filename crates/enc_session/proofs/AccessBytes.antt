-- Access units are bytes, and filler has the length that is told.
use Rattle.std.proofs.Common.{ℕ, ◌-◌, ◌≡◌, ◌≤◌, ◌⊎◌, inl, inr, ◌==◌, Bool, true, false, not, List, [], ◌∷◌, ◌++◌, length, map, replicate, ap, sym, ◌∙◌, subst, arith, lit≤, lit<, append-nil}
use Rattle.std.specs.Prelude.{if◌then◌else◌}
use Rattle.std.specs.List.{All}
use Rattle.std.proofs.lemmas.Bool.Decides.{nat_tests}
use Rattle.std.proofs.lemmas.List.Elements.{All-nil, All-cons, All-append, All-replicate}
use Rattle.enc_tables.specs.declared.records.PlanStep.{PlanStep}
use Rattle.enc_tables.specs.declared.records.SliceKind.{SliceKind}
use Rattle.enc_tables.specs.declared.records.SliceKind.TheVariants.{I, P, B}
use Rattle.spec_bits.specs.Bits.{IsByte, bits_of_bytes, bytes_of_bits}
use Rattle.spec_bits.specs.Units.{unit_bytes, filler_unit, filler_payload, written}
use Rattle.spec_bits.proofs.Digits.{bytes_of_bits-bits_of_bytes, bytes_of_bits-are_bytes}
use Rattle.spec_bits.proofs.Payloads.{unit_bytes-are_bytes, length-filler_unit}
use Rattle.spec_headers.specs.declared.heads.SeqHead.{SeqHead}
use Rattle.spec_headers.specs.HeadFields.{sequence_payload, picture_payload}
use Rattle.spec_headers.specs.MessageReaders.{Delays}
use Rattle.spec_lists.specs.Heads.{ref_idc_of}
use Rattle.spec_slice_payload.specs.Layer.{Format, Slice}
use Rattle.spec_slice_payload.specs.Writing.{layer_payload}
use Rattle.spec_encoding.specs.Encoding.{with_payload}
use Rattle.spec_pictures.specs.Accesses.{sequence_nal, picture_nal, slice_nal}
use Rattle.picture_coder.specs.Units.{units_of}
use Rattle.unit_writer.specs.Parts.{set_bytes, message_bytes, filler_bytes, later_bytes}
use Rattle.enc_session.specs.Fronts.{front_bytes}

fields_bytes : (long : Bool) (ref_idc kind : ℕ) (bits : List Bool) → ref_idc ≤ 3 → kind ≤ 31 → All IsByte (unit_bytes long ref_idc kind (bytes_of_bits bits))
fields_bytes long ref_idc kind bits r k = unit_bytes-are_bytes long ref_idc kind (bytes_of_bits bits) r k (bytes_of_bits-are_bytes bits)

sets_are_bytes : (s : SeqHead) (t8x8 idr : Bool) → All IsByte (set_bytes s (true, t8x8) idr)
unfolding sequence_payload picture_payload
sets_are_bytes s t8x8 false = All-nil IsByte
sets_are_bytes s t8x8 true =
    All-append IsByte (written (true, sequence_nal s)) (written (true, picture_nal (true, t8x8)) ++ []) (fields_bytes true 3 7 _ (lit≤ tt) (lit≤ tt))
    (All-append IsByte (written (true, picture_nal (true, t8x8))) [] (fields_bytes true 3 8 _ (lit≤ tt) (lit≤ tt)) (All-nil IsByte))

pub front_are_bytes : (s : SeqHead) (t8x8 idr : Bool) (d : Delays) → All IsByte (front_bytes s (true, t8x8) idr d)
front_are_bytes s t8x8 idr d = All-append IsByte (set_bytes s (true, t8x8) idr) (message_bytes (not idr) d) (sets_are_bytes s t8x8 idr) (fields_bytes (not idr) 0 6 _ (lit≤ tt) (lit≤ tt))

ref_small : (idr : Bool) (kind : SliceKind) → ref_idc_of idr kind ≤ 3
ref_small true I = lit≤ tt
ref_small true P = lit≤ tt
ref_small true B = lit≤ tt
ref_small false I = lit≤ tt
ref_small false P = lit≤ tt
ref_small false B = lit≤ tt

kind_small : (idr : Bool) → (if idr then 5 else 1) ≤ 31
kind_small true = lit≤ tt
kind_small false = lit≤ tt

pub units_are_bytes : (st : PlanStep) (f : Format) (ss : List Slice) → All IsByte (units_of false st (map (with_payload f) ss))
unfolding units_of layer_payload
units_are_bytes st f [] = All-nil IsByte
units_are_bytes st f (s ∷ ss) =
    All-append IsByte (written (false, slice_nal st.idr st.kind (with_payload f s))) (units_of false st (map (with_payload f) ss))
    (fields_bytes false (ref_idc_of st.idr st.kind) (if st.idr then 5 else 1) _ (ref_small st.idr st.kind) (kind_small st.idr)) (units_are_bytes st f ss)

-- ---- filler

pub filler_as : (n : ℕ) → 5 ≤ n → filler_bytes n ≡ filler_unit n
unfolding filler_unit
filler_as n h =
    ap (λ (b : Bool). later_bytes (if b then [] else record { ref_idc = 0; kind = 12; payload = filler_payload n } ∷ [])) (some n h)
    ∙ append-nil (unit_bytes false 0 12 (filler_payload n))
  where
    some : (n : ℕ) → 5 ≤ n → (n == 0) ≡ false
    some n h = grind (arith, nat_tests)

pub length-filler : (n : ℕ) → (n ≡ 0) ⊎ (5 ≤ n) → length (filler_bytes n) ≡ n
length-filler n (inl e) = ap (λ (k : ℕ). length (filler_bytes k)) e ∙ sym e
length-filler n (inr h) = ap (λ (xs : List ℕ). length xs) (filler_as n h) ∙ length-filler_unit n h

pub filler_are_bytes : (n : ℕ) → (n ≡ 0) ⊎ (5 ≤ n) → All IsByte (filler_bytes n)
unfolding filler_unit
filler_are_bytes n (inl e) = subst (λ (k : ℕ). All IsByte (filler_bytes k)) (sym e) (All-nil IsByte)
filler_are_bytes n (inr h) =
    subst (λ (xs : List ℕ). All IsByte xs) (sym (filler_as n h))
    (unit_bytes-are_bytes false 0 12 (filler_payload n) (lit≤ tt) (lit≤ tt)
    (All-append IsByte (replicate (n - 5) 255) (128 ∷ []) (All-replicate IsByte (n - 5) 255 (lit< tt)) (All-cons IsByte 128 [] (lit< tt) (All-nil IsByte))))

-- what is written is the access unit
pub unit_is : (unit written : List ℕ) (text : List Bool) → text ≡ bits_of_bytes unit → All IsByte unit → written ≡ bytes_of_bits text → written ≡ unit
unit_is unit written text is small shown = shown ∙ ap bytes_of_bits is ∙ bytes_of_bits-bits_of_bytes unit small
