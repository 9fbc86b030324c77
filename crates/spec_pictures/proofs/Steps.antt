-- What the units of a picture do to a decoder.
use Rattle.std.proofs.Common.{ℕ, ◌+◌, ◌*◌, ◌≡◌, ◌≤◌, ◌<◌, ◌⊎◌, inl, inr, List, [], ◌∷◌, ◌++◌, Bool, true, false, cond, Option, Some, None, refl, ap, ap₂, sym, ◌∙◌, arith, append_assoc, mul-pos}
use Rattle.std.specs.Prelude.{nat_lt, nat_eq, ◌==◌, ◌&&◌, option_and_then, get_or}
use Rattle.std.specs.Option.{option_map}
use Rattle.std.specs.List.{AllByRecursion}
use Rattle.std.specs.Cmp.Lexicographic.{pointwise}
use Rattle.std.proofs.lemmas.Cmp.{nat_list_eq_equiv}
use Rattle.std.proofs.lemmas.Bool.Decides.{nat_tests}
use Rattle.std.proofs.lemmas.List.Sums.{sum_by-append}
use Rattle.enc_tables.specs.declared.records.PlanStep.{PlanStep}
use Rattle.enc_tables.specs.declared.records.SliceKind.{SliceKind}
use Rattle.enc_tables.specs.declared.records.SliceKind.TheVariants.{I, P, B}
use Rattle.spec_headers.specs.declared.heads.SeqHead.{SeqHead}
use Rattle.spec_headers.specs.declared.heads.SliceHead.{SliceHead}
use Rattle.spec_bits.specs.Fields.{fields_bits}
use Rattle.spec_headers.specs.HeadFields.{sequence_fields, picture_fields, sequence_payload, picture_payload}
use Rattle.spec_headers.specs.Allowed.{IsSeqHead}
use Rattle.spec_bits.specs.Units.{Nal}
use Rattle.spec_headers.specs.HeadReaders.{sequence, picture}
use Rattle.spec_headers.proofs.HeadLaws.{reads_sequence, reads_picture}
use Rattle.spec_decoder.specs.Sets.{read_set, across_of, down_of}
use Rattle.spec_stream.proofs.DecodeLaws.{read_set-back}
use Rattle.spec_lists.specs.References.{Reference, kept}
use Rattle.spec_lists.specs.Heads.{is_referred, ref_idc_of, fits_ref_idc, is_numbered, common, idr_id_of}
use Rattle.spec_decoder.specs.Passed.{is_passed}
use Rattle.spec_decoder.specs.Pictures.{Reading, Decoder, counted, shown, joined, goes_with, slice_step, with_slice, with_sequence, step, steps, with_picture, may_follow}
use Rattle.spec_pictures.specs.Coded.{CodedSlice, slices_in}
use Rattle.spec_pictures.specs.Accesses.{picture_nal, slice_nal, slice_nals, set_nals, HasHead, IsCodedSlice, Covers, IsPassedOver, id_in}

-- ---- units one after another

pub steps-append : {S : Type 0} (r : Reading S) (o : Option (Decoder S)) (ms ns : List Nal) → steps r o (ms ++ ns) ≡ steps r (steps r o ms) ns
unfolding steps
steps-append r None ms ns = elim ns as (λ w. steps r None (ms ++ w) ≡ steps r None w) [ [] ↦ refl | n ∷ rest ↦ refl ]
steps-append r (Some d) [] ns = refl
steps-append r (Some d) (m ∷ ms) ns = steps-append r (step r d m) ms ns

-- ---- parameter sets

sequence_back : (s : SeqHead) → IsSeqHead s → s.level < 256 → read_set sequence (sequence_payload s) ≡ Some s
unfolding sequence_payload
sequence_back s is level = read_set-back sequence (fields_bits (sequence_fields s)) s (reads_sequence s is level)

picture_set_back : (flags : Bool × Bool) → read_set picture (picture_payload flags.0 flags.1) ≡ Some flags
unfolding picture_payload
picture_set_back flags = read_set-back picture (fields_bits (picture_fields flags.0 flags.1)) flags (reads_picture flags.0 flags.1)

-- a decoder between two pictures
unfoldable pub idle : {S : Type 0} → Decoder S → Decoder S
idle d = record d { begun = [] }

unfoldable pub with_sets : {S : Type 0} → SeqHead → Bool × Bool → Decoder S → Decoder S
with_sets s flags d = record d { sequence_set = Some s; picture_set = Some flags; sets_before = true; held = []; begun = [] }

pub sets_read : {S : Type 0} (r : Reading S) (s : SeqHead) (flags : Bool × Bool) (d : Decoder S) → IsSeqHead s → s.level < 256
    → steps r (Some (idle d)) (set_nals s flags true) ≡ Some (with_sets s flags d)
unfolding steps step idle with_sets
sets_read r s flags d is level =
    ap (λ o. steps r (option_map (with_sequence (idle d)) o) (picture_nal flags ∷ [])) (sequence_back s is level)
    ∙ ap (λ o. steps r (option_map (with_picture (with_sequence (idle d) s)) o) []) (picture_set_back flags)

-- ---- units that are passed over

-- by the type of the unit
by_kind : {A : Type 0} → ℕ → A → A → A → A → A → Bool → A
by_kind k idr other sequence picture rest marked = cond (k == 5) idr (cond (k == 1) other (cond ((k == 7) && marked) sequence (cond ((k == 8) && marked) picture rest)))

rest_is : {A : Type 0} (k : ℕ) (a b c e x : A) (t : Bool) → (k ≡ 6) ⊎ (k ≡ 12) → by_kind k a b c e x t ≡ x
unfolding by_kind
rest_is k a b c e x t (inl h) = ap (λ n. by_kind n a b c e x t) h
rest_is k a b c e x t (inr h) = ap (λ n. by_kind n a b c e x t) h

passed : {S : Type 0} (r : Reading S) (d : Decoder S) (n : Nal) → IsPassedOver n → step r (idle d) n ≡ Some (idle d)
unfolding step idle by_kind
passed r d n p =
    rest_is n.kind (with_slice r (idle d) true n.ref_idc n.payload) (with_slice r (idle d) false n.ref_idc n.payload)
    (option_map (with_sequence (idle d)) (read_set sequence n.payload)) (option_map (with_picture (idle d)) (read_set picture n.payload))
    (cond (is_passed n) (Some (idle d)) None) (nat_lt 0 n.ref_idc) p.kind
    ∙ ap (λ b. cond b (Some (idle d)) None) p.passed

pub all_passed : {S : Type 0} (r : Reading S) (d : Decoder S) (ns : List Nal) → AllByRecursion IsPassedOver ns → steps r (Some (idle d)) ns ≡ Some (idle d)
unfolding steps
all_passed r d [] h = refl
all_passed r d (n ∷ ns) h = ap (λ o. steps r o ns) (passed r d n h.0) ∙ all_passed r d ns h.1

-- ---- slices

-- how many macroblocks one slice more has
counted_more : {S : Type 0} (r : Reading S) (begun : List S) (c : S) → counted r (begun ++ c ∷ []) ≡ counted r begun + r.count c
counted_more r begun c = sum_by-append r.count begun (c ∷ []) ∙ ap (λ n. counted r begun + n) (alone (r.count c))
  where
    alone : (n : ℕ) → 0 + n ≡ n
    alone n = omega arith

-- the slices behind so many macroblocks end where the picture does
covers_most : {S : Type 0} (r : Reading S) (s : SeqHead) (flags : Bool × Bool) (held : List Reference) (lead : SliceHead) (st : PlanStep) (before : ℕ) (cs : List (CodedSlice S)) → Covers r s flags held lead st before cs → before ≤ across_of s * down_of s
covers_most r s flags held lead st before [] c = omega (arith, c)
covers_most r s flags held lead st before (x ∷ cs) c = omega (arith, covers_most r s flags held lead st (before + r.count x.slice) cs c.1)

fits_own : (idr : Bool) (kind : SliceKind) → fits_ref_idc kind (ref_idc_of idr kind) ≡ true
fits_own true I = refl
fits_own true P = refl
fits_own true B = refl
fits_own false I = refl
fits_own false P = refl
fits_own false B = refl

-- the first of the slices so far agrees with the others
abbrev pub GoWith : {S : Type 0} → Reading S → SliceHead → List S → Type 0
GoWith r lead [] = Unit {0}
GoWith r lead (b ∷ bs) = common (r.head b) ≡ common lead

goes_so : {S : Type 0} (r : Reading S) (lead : SliceHead) (begun : List S) (h : SliceHead) → GoWith r lead begun → common h ≡ common lead → goes_with r begun h ≡ true
goes_so r lead [] h k e = refl
goes_so r lead (b ∷ bs) h k e = ap₂ (λ xs ys. pointwise nat_eq xs ys) k e ∙ nat_list_eq_equiv.refl (common lead)

go_on : {S : Type 0} (r : Reading S) (lead : SliceHead) (begun : List S) (c : S) → GoWith r lead begun → common (r.head c) ≡ common lead → GoWith r lead (begun ++ c ∷ [])
go_on r lead [] c k e = e
go_on r lead (b ∷ bs) c k e = k

five : (a b c d e : Bool) → a ≡ true → b ≡ true → c ≡ true → d ≡ true → e ≡ true → (a && b && c && d && e) ≡ true
five a b c d e h k l m n = rw (h, k, l, m, n) refl

-- headers that agree have the same idr_pic_id
pub same_id : (g h : SliceHead) → common g ≡ common h → g.idr_id ≡ h.idr_id
unfolding common
same_id g h e = ap (λ (xs : List ℕ). get_or xs 3 0) e

-- the header follows where the step does
follows_so : {S : Type 0} (d : Decoder S) (h : SliceHead) (st : PlanStep) (lead : SliceHead) → HasHead lead st h → may_follow d st.idr lead.idr_id st.poc ≡ true → may_follow d h.idr h.idr_id h.poc ≡ true
follows_so d h st lead k e = ap (λ i. may_follow d i h.idr_id h.poc) k.idr ∙ ap₂ (λ i p. may_follow d st.idr i p) (same_id h lead k.agrees) k.poc ∙ e

-- the header has the step's numbers
numbered : (h : SliceHead) (st : PlanStep) (held : List Reference) (lead : SliceHead) → HasHead lead st h → is_numbered st.idr st.frame_num st.poc held ≡ true → is_numbered h.idr h.frame_num h.poc held ≡ true
numbered h st held lead k e = ap (λ i. is_numbered i h.frame_num h.poc held) k.idr ∙ ap₂ (λ f p. is_numbered st.idr f p held) k.frame_num k.poc ∙ e

same : (a b : ℕ) → a ≡ b → (a == b) ≡ true
same a b e = grind (arith, nat_tests)

some_macroblocks : (s : SeqHead) → IsSeqHead s → 0 < across_of s * down_of s
some_macroblocks s is = mul-pos (omega (arith, is.width_from)) (omega (arith, is.height_from))

-- a decoder that has begun a picture
unfoldable pub amid : {S : Type 0} → SeqHead → Bool × Bool → List S → Decoder S → Decoder S
amid s flags begun d = record d { sequence_set = Some s; picture_set = Some flags; begun = begun }

by_type : {S : Type 0} (r : Reading S) (d : Decoder S) (idr : Bool) (kind : SliceKind) (c : CodedSlice S) → step r d (slice_nal idr kind c) ≡ with_slice r d idr (ref_idc_of idr kind) c.payload
unfolding step
by_type r d true kind c = refl
by_type r d false kind c = refl

-- a decoder that has begun a picture goes on as one that hasn't
still : {S : Type 0} (d : Decoder S) (st : PlanStep) (lead : SliceHead) (s : SeqHead) (flags : Bool × Bool) (begun : List S) → may_follow d st.idr lead.idr_id st.poc ≡ true → may_follow (amid s flags begun d) st.idr lead.idr_id st.poc ≡ true
unfolding amid
still d st lead s flags begun e = by st.idr e
  where
    by : (i : Bool) → may_follow d i lead.idr_id st.poc ≡ true → may_follow (amid s flags begun d) i lead.idr_id st.poc ≡ true
    by true e = e
    by false e = e

-- the slices' headers tell the identifier of the picture
pub id_by_lead : {S : Type 0} (r : Reading S) (s : SeqHead) (flags : Bool × Bool) (held : List Reference) (lead : SliceHead) (st : PlanStep) (cs : List (CodedSlice S))
    → IsSeqHead s → Covers r s flags held lead st 0 cs → id_in r (slices_in cs) ≡ idr_id_of st.idr lead.idr_id
id_by_lead r s flags held lead st [] is covers = absurd (omega (arith, some_macroblocks s is, covers))
id_by_lead r s flags held lead st (c ∷ cs) is covers =
    ap (λ (i : Bool). idr_id_of i (r.head c.slice).idr_id) covers.0.head.idr ∙ ap (λ (n : ℕ). idr_id_of st.idr n) (same_id (r.head c.slice) lead covers.0.head.agrees)

-- a slice, and what the decoder is after it
step_slice : {S : Type 0} (r : Reading S) (s : SeqHead) (flags : Bool × Bool) (begun : List S) (before : ℕ) (d : Decoder S) (lead : SliceHead) (st : PlanStep) (c : CodedSlice S)
    → IsCodedSlice r s flags (kept st.idr d.held) lead st before c → is_numbered st.idr st.frame_num st.poc d.held ≡ true → may_follow d st.idr lead.idr_id st.poc ≡ true → GoWith r lead begun → counted r begun ≡ before
    → step r (amid s flags begun d) (slice_nal st.idr st.kind c) ≡ joined r s (r.head c.slice) (begun ++ c.slice ∷ []) (amid s flags begun d)
unfolding with_slice slice_step amid
step_slice r s flags begun before d lead st c is number next go counts =
    let h : SliceHead = r.head c.slice in
    by_type r (amid s flags begun d) st.idr st.kind c
    ∙ ap (λ o. option_and_then (slice_step r s (amid s flags begun d) (ref_idc_of st.idr st.kind)) o) is.reads
    ∙ ap (λ b. cond b (joined r s h (begun ++ c.slice ∷ []) (amid s flags begun d)) None)
    (five (fits_ref_idc h.kind (ref_idc_of st.idr st.kind)) (is_numbered h.idr h.frame_num h.poc d.held) (may_follow (amid s flags begun d) h.idr h.idr_id h.poc) (goes_with r begun h) (h.first_mb == counted r begun)
    (ap (λ k. fits_ref_idc k (ref_idc_of st.idr st.kind)) is.head.kind ∙ fits_own st.idr st.kind)
    (numbered h st d.held lead is.head number)
    (follows_so (amid s flags begun d) h st lead is.head (still d st lead s flags begun next))
    (goes_so r lead begun h go is.head.agrees)
    (same h.first_mb (counted r begun) (is.first ∙ sym counts)))

joined_part : {S : Type 0} (r : Reading S) (s : SeqHead) (h : SliceHead) (slices : List S) (d : Decoder S) → counted r slices < across_of s * down_of s → joined r s h slices d ≡ Some (record d { begun = slices })
unfolding joined
joined_part r s h slices d fewer =
    ap (λ b. cond b (Some (record d { begun = slices })) (cond (counted r slices == across_of s * down_of s) (Some (shown r s (is_referred h.kind) h.idr h.idr_id h.frame_num h.poc slices d)) None)) (less (counted r slices) (across_of s * down_of s) fewer)
  where
    less : (a b : ℕ) → a < b → nat_lt a b ≡ true
    less a b e = grind (arith, nat_tests)

-- what is shown is told by the step
shown_by : {S : Type 0} (r : Reading S) (s : SeqHead) (lead : SliceHead) (st : PlanStep) (h : SliceHead) (slices : List S) (d : Decoder S) → HasHead lead st h
    → shown r s (is_referred h.kind) h.idr h.idr_id h.frame_num h.poc slices d ≡ shown r s (is_referred st.kind) st.idr lead.idr_id st.frame_num st.poc slices d
shown_by r s lead st h slices d k =
    ap₂ (λ (x : SliceKind) (i : Bool). shown r s (is_referred x) i h.idr_id h.frame_num h.poc slices d) k.kind k.idr
    ∙ ap (λ (n : ℕ). shown r s (is_referred st.kind) st.idr n h.frame_num h.poc slices d) (same_id h lead k.agrees)
    ∙ ap₂ (λ (f p : ℕ). shown r s (is_referred st.kind) st.idr lead.idr_id f p slices d) k.frame_num k.poc

joined_whole : {S : Type 0} (r : Reading S) (s : SeqHead) (lead : SliceHead) (st : PlanStep) (h : SliceHead) (slices : List S) (d : Decoder S) → HasHead lead st h → counted r slices ≡ across_of s * down_of s
    → joined r s h slices d ≡ Some (shown r s (is_referred st.kind) st.idr lead.idr_id st.frame_num st.poc slices d)
unfolding joined
joined_whole r s lead st h slices d k all =
    ap₂ (λ a b. cond a (Some (record d { begun = slices })) (cond b (Some (shown r s (is_referred h.kind) h.idr h.idr_id h.frame_num h.poc slices d)) None)) (not_less (counted r slices) (across_of s * down_of s) all) (same (counted r slices) (across_of s * down_of s) all)
    ∙ ap (λ e. Some e) (shown_by r s lead st h slices d k)
  where
    not_less : (a b : ℕ) → a ≡ b → nat_lt a b ≡ false
    not_less a b e = grind (arith, nat_tests)

-- the slices of a picture, from the first of those that are left on
steps_slices : {S : Type 0} (r : Reading S) (s : SeqHead) (flags : Bool × Bool) (begun : List S) (before : ℕ) (d : Decoder S) (lead : SliceHead) (st : PlanStep) (c : CodedSlice S) (cs : List (CodedSlice S))
    → counted r begun ≡ before → GoWith r lead begun → is_numbered st.idr st.frame_num st.poc d.held ≡ true → may_follow d st.idr lead.idr_id st.poc ≡ true → Covers r s flags (kept st.idr d.held) lead st before (c ∷ cs)
    → steps r (Some (amid s flags begun d)) (slice_nals st (c ∷ cs)) ≡ Some (shown r s (is_referred st.kind) st.idr lead.idr_id st.frame_num st.poc (begun ++ slices_in (c ∷ cs)) (amid s flags [] d))
unfolding steps amid shown
steps_slices r s flags begun before d lead st c [] counts go number next covers =
    ap (λ o. steps r o [])
    (step_slice r s flags begun before d lead st c covers.0 number next go counts
    ∙ joined_whole r s lead st (r.head c.slice) (begun ++ c.slice ∷ []) (amid s flags begun d) covers.0.head (counted_more r begun c.slice ∙ ap (λ n. n + r.count c.slice) counts ∙ covers.1))
steps_slices r s flags begun before d lead st c (x ∷ cs) counts go number next covers =
    ap (λ o. steps r o (slice_nals st (x ∷ cs)))
    (step_slice r s flags begun before d lead st c covers.0 number next go counts
    ∙ joined_part r s (r.head c.slice) (begun ++ c.slice ∷ []) (amid s flags begun d) fewer)
    ∙ steps_slices r s flags (begun ++ c.slice ∷ []) (before + r.count c.slice) d lead st x cs (counted_more r begun c.slice ∙ ap (λ n. n + r.count c.slice) counts) (go_on r lead begun c.slice go covers.0.head.agrees) number next covers.1
    ∙ ap (λ slices. Some (shown r s (is_referred st.kind) st.idr lead.idr_id st.frame_num st.poc slices (amid s flags [] d))) (append_assoc begun (c.slice ∷ []) (slices_in (x ∷ cs)))
  where
    fewer : counted r (begun ++ c.slice ∷ []) < across_of s * down_of s
    fewer = omega (arith, counted_more r begun c.slice, counts, covers.1.0.some, covers_most r s flags (kept st.idr d.held) lead st (before + r.count c.slice + r.count x.slice) cs covers.1.1)

-- all slices of a picture
pub slices_read : {S : Type 0} (r : Reading S) (s : SeqHead) (flags : Bool × Bool) (d : Decoder S) (lead : SliceHead) (st : PlanStep) (cs : List (CodedSlice S))
    → IsSeqHead s → is_numbered st.idr st.frame_num st.poc d.held ≡ true → may_follow d st.idr lead.idr_id st.poc ≡ true → Covers r s flags (kept st.idr d.held) lead st 0 cs
    → steps r (Some (amid s flags [] d)) (slice_nals st cs) ≡ Some (shown r s (is_referred st.kind) st.idr lead.idr_id st.frame_num st.poc (slices_in cs) (amid s flags [] d))
slices_read r s flags d lead st [] is number next covers = absurd (omega (arith, some_macroblocks s is, covers))
slices_read r s flags d lead st (c ∷ cs) is number next covers = steps_slices r s flags [] 0 d lead st c cs refl tt number next covers
