-- What the coding of a slice leaves in the buffer.
use Rattle.std.proofs.Common.{◌≡◌, ℕ, ◌+◌, ◌<◌, ◌++◌, Bool, true, List, [], ◌∷◌, length, refl, ap, subst, ◌∙◌, arith, length-append}
use Rattle.std.specs.Prelude.{Result, Ok, Err, IsErr}
use Rattle.std.proofs.lemmas.Bool.{false≢true}
use Rattle.enc_tables.specs.declared.records.CtxState.{CtxState}
use Rattle.enc_tables.specs.declared.records.MbRecord.{MbRecord}
use Rattle.bit_strings.specs.BitText.{BitText, Appends}
use Rattle.spec_headers.specs.declared.heads.SliceHead.{SliceHead}
use Rattle.spec_headers.specs.HeadFields.{slice_head_bits}
use Rattle.spec_cabac.specs.Code.{arith_code}
use Rattle.spec_syntax.specs.declared.Bin.{Bin}
use Rattle.spec_syntax.specs.Syntax.{at}
use Rattle.spec_syntax.specs.Elements.{end_of_slice}
use Rattle.spec_slice_data.specs.Coding.{asked, slice_code}
use Rattle.spec_slice_payload.specs.Layer.{Format, Slice, states_of}
use Rattle.spec_slice_payload.specs.Writing.{layer_bits, string_after}
use Rattle.cabac_coder.specs.State.{CoderState}
use Rattle.bin_writer.specs.Coding.{coding, Codes}
use Rattle.slice_coder.specs.declared.place.Place.{Place}
use Rattle.slice_coder.specs.Strings.{string_at, Opened}
use Rattle.slice_coder.specs.Left.{buffer, Leaves, started_at}
use Rattle.slice_coder.proofs.Ending.{no_shorter, leaves_none}
use Rattle.slice_coder.proofs.Going.{opened_all}
use Rattle.slice_coder.proofs.Layers.{layer_is}

pub wrote : {F : Type 0} (written : Result (Unit {0}) F) (old new : BitText) (more : List Bool) → (IsErr written → ⊥) → Appends old new more written → (let b : BitText = record old { text = old.text ++ more } in new ≡ b)
wrote (Ok a) old new more good h = h.1
wrote (Err e) old new more good h = absurd (good refl)

-- the header doesn't fit
pub leaves_no_head : {A E F : Type 0} (answer : Result A E) (written : Result (Unit {0}) F) (f : Format) (s : Slice) (old new : BitText) → old.text ≡ [] → Appends old new (slice_head_bits s.head) written → IsErr written → IsErr answer
    → Leaves answer old.room old.made (layer_bits f s) new
unfolding layer_bits
leaves_no_head answer (Ok a) f s old new empty h bad k = absurd (false≢true bad)
leaves_no_head answer (Err e) f s old new empty h bad k =
    let none : length old.text ≡ 0 = ap (λ (xs : List Bool). length xs) empty in
    let more : old.room < length old.text + length (slice_head_bits s.head) = h.0 in
    let long = length-append (slice_head_bits s.head) (slice_code (string_after f s.head) (states_of s.head) s.records) in
    let short = no_shorter (slice_head_bits s.head ++ slice_code (string_after f s.head) (states_of s.head) s.records) in
    leaves_none answer old.room old.made (slice_head_bits s.head ++ slice_code (string_after f s.head) (states_of s.head) s.records) new k (omega arith)
    (h.1 ∙ ap (λ (text : List Bool). buffer old.room old.made text) empty)

-- the code ends behind the macroblocks
pub leaves_slice : {A E : Type 0} (answer : Result A E) (place : Place) (total : ℕ) (h : SliceHead) (count : ℕ) (old buf new : BitText) (start coder : CoderState) (states last : List CtxState) (records the : List MbRecord)
    → 0 < count → length the ≡ count → records ≡ the → start ≡ started_at buf → states ≡ states_of h → (let b : BitText = record old { text = old.text ++ slice_head_bits h } in buf ≡ b) → old.text ≡ []
    → Opened (string_at place h) count records (coding start states) (coding coder last)
    → ((from : BitText) (ss ls : List CtxState) (bins : List Bin) → Codes (coding (started_at from) ss) bins (coding coder ls)
    → Leaves answer from.room from.made (from.text ++ arith_code (asked ss (bins ++ at end_of_slice true ∷ []))) new)
    → (let f : Format = record { across = place.across; total = total; t8x8 = place.t8x8 } in let s : Slice = record { head = h; records = the } in Leaves answer old.room old.made (layer_bits f s) new)
leaves_slice answer place total h count old buf new start coder states last records the some long is starts from headed empty opened closes =
    let f : Format = record { across = place.across; total = total; t8x8 = place.t8x8 } in
    let s : Slice = record { head = h; records = the } in
    let o : Opened (string_at place h) count s.records (coding start states) (coding coder last) =
    subst (λ (rs : List MbRecord). Opened (string_at place h) count rs (coding start states) (coding coder last)) is opened in
    let all = opened_all (string_at place h) count s.records (coding start states) (coding coder last) o some long in
    let left = closes buf states last o.bins (subst (λ (c : CoderState). Codes (coding c states) o.bins (coding coder last)) starts o.codes) in
    let text : buf.text ≡ slice_head_bits h = ap (λ (b : BitText). b.text) headed ∙ ap (λ (xs : List Bool). xs ++ slice_head_bits h) empty in
    let bits = layer_is f s buf.text states (o.bins ++ at end_of_slice true ∷ []) text from all in
    subst (λ (n : ℕ). Leaves answer n old.made (layer_bits f s) new) (ap (λ (b : BitText). b.room) headed)
    (subst (λ (n : ℕ). Leaves answer buf.room n (layer_bits f s) new) (ap (λ (b : BitText). b.made) headed) (subst (λ (xs : List Bool). Leaves answer buf.room buf.made xs new) bits left))
