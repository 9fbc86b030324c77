-- The slices of a picture of any kind are slices of the syntax, and cover its macroblocks in order.
use Rattle.std.proofs.Common.{◌≡◌, ◌≤◌, ◌<◌, ◌+◌, ◌*◌, ◌/◌, ◌++◌, ℕ, zero, suc, Bool, true, List, [], ◌∷◌, length, map, refl, sym, ap, subst, ◌∙◌, arith, length-append}
use Rattle.std.specs.Prelude.{option_map}
use Rattle.std.proofs.Math.Nat.{mul-div_cancel}
use Rattle.std.proofs.lemmas.List.{map-append, length-map}
use Rattle.std.proofs.lemmas.Nat.{mul-le}
use Rattle.enc_tables.specs.declared.records.PlanStep.{PlanStep}
use Rattle.spec_film.specs.Films.{Planes}
use Rattle.spec_headers.specs.declared.heads.SeqHead.{SeqHead}
use Rattle.spec_headers.specs.declared.heads.SliceHead.{SliceHead}
use Rattle.spec_lists.specs.References.{Reference}
use Rattle.spec_lists.specs.Colocated.{colocated_at}
use Rattle.spec_slice_payload.specs.Layer.{Slice}
use Rattle.spec_slice_payload.specs.Slices.{AreRecords, IsSlice}
use Rattle.spec_slice_payload.proofs.Layers.{layer_back}
use Rattle.spec_record_laws.specs.Coded.{PlanesFit}
use Rattle.spec_coded.specs.Tasks.{records_in_order, task_records}
use Rattle.spec_coded.specs.Coarsest.{coarsest_records}
use Rattle.spec_inter_records.proofs.Along.{coarsest_are}
use Rattle.spec_tasks.specs.Given.{IsGiven}
use Rattle.spec_tasks.proofs.Told.{planned_records}
use Rattle.spec_decoder.specs.Sets.{across_of, down_of}
use Rattle.spec_decoder.specs.Pictures.{Reading}
use Rattle.spec_decoder.specs.Macroblocks.{Slice as Read, coded, of_records, read_slice}
use Rattle.spec_decoder.specs.Frames.{blank_planes, frames, lists_by}
use Rattle.spec_pictures.specs.Coded.{CodedSlice}
use Rattle.spec_pictures.specs.Accesses.{IsCodedSlice, Covers}
use Rattle.spec_encoding.specs.Frames.{slices_built}
use Rattle.spec_encoding.specs.Encoding.{with_payload}
use Rattle.spec_encoding.proofs.Numbers.{row_inside, row_none, row_last, row_next, behind, some_more}
use Rattle.spec_encoding.proofs.Coded.{blank_fits, built_fits}
use Rattle.spec_encoding.proofs.Ends.{payload_ends}
use Rattle.spec_film_coder.specs.Pictures.{CoderSettings, Rule, shape, format, first_row, first_of, count_of, slice_by, slices_to, task_of, plain_rule, coarsest_rule}
use Rattle.spec_film_coder.specs.Sound.{AreSettings}
use Rattle.spec_film_coder.proofs.Heads.{IsListed, HeadsFit}

-- ---- sizes

wide_some : (c : CoderSettings) → AreSettings c → 0 < (shape c).across
wide_some c s = let e = s.sequence.width_from in omega (arith, e)

wide_most : (c : CoderSettings) → AreSettings c → (shape c).across ≤ 256
wide_most c s = let e = s.sequence.width_to in omega (arith, e)

high_most : (c : CoderSettings) → AreSettings c → (shape c).down ≤ 144
high_most c s = let e = s.sequence.height_to in omega (arith, e)

-- the slice behind begins where this one ends
next_first : (c : CoderSettings) (k : ℕ) → AreSettings c → first_of (shape c) k + count_of (shape c) k ≡ first_of (shape c) (k + 1)
next_first c k s = let more = row_next k ((shape c).down) c.slices s.some s.few in behind (first_row (shape c) k) (first_row (shape c) (k + 1)) ((shape c).across) (omega (arith, more))

count_some : (c : CoderSettings) (k : ℕ) → AreSettings c → 0 < count_of (shape c) k
count_some c k s = some_more (first_row (shape c) k) (first_row (shape c) (k + 1)) ((shape c).across) (row_next k ((shape c).down) c.slices s.some s.few) (wide_some c s)

first_inside : (c : CoderSettings) (k : ℕ) → k ≤ c.slices → first_of (shape c) k ≤ (shape c).down * (shape c).across
first_inside c k h = let least : (shape c).across ≤ (shape c).across = omega arith in mul-le (first_row (shape c) k) ((shape c).across) ((shape c).down) ((shape c).across) (row_inside k ((shape c).down) c.slices h) least

first_small : (c : CoderSettings) (k : ℕ) → AreSettings c → k ≤ c.slices → first_of (shape c) k ≤ 36864
first_small c k s h =
    let a = first_inside c k h in
    let b = mul-le ((shape c).down) ((shape c).across) 144 256 (high_most c s) (wide_most c s) in
    omega (arith, a, b)

whole_rows : (r a n : ℕ) → 0 < a → n ≡ r * a → n / a * a ≡ n
whole_rows r a n some e = ap (λ (m : ℕ). m * a) (ap (λ (m : ℕ). m / a) e ∙ mul-div_cancel r some) ∙ sym e

-- ---- records

length-order : {A : Type 0} (next : List A → Planes → A) (built : List A → Planes) (n : ℕ) → length (records_in_order next built n) ≡ n
unfolding records_in_order
length-order next built zero = refl
length-order next built (suc n) = omega (arith, length-append (records_in_order next built n) (next (records_in_order next built n) (built (records_in_order next built n)) ∷ []), length-order next built n)

-- a rule gives a slice of the syntax as many records as it is asked for
pub record RuleFits (c : CoderSettings) (held : List Reference) (head : ℕ → SliceHead) (rule : Rule) : Type 0 where
  pub are : (k : ℕ) (p : Planes) → PlanesFit p → AreRecords (format (shape c)) (colocated_at (lists_by (head (first_of (shape c) k)) held)) (head (first_of (shape c) k)) [] (rule (head (first_of (shape c) k)) (count_of (shape c) k) p)
  pub long : (h : SliceHead) (n : ℕ) (p : Planes) → length (rule h n p) ≡ n

given : (c : CoderSettings) (st : PlanStep) (held : List Reference) (number qp : ℕ) (head : ℕ → SliceHead) (source : Planes) (k : ℕ) → AreSettings c → PlanesFit source → qp ≤ 51 → HeadsFit st held number qp head
    → IsGiven (format (shape c)) (head (first_of (shape c) k)) (lists_by (head (first_of (shape c) k)) held) source c.range
given c st held number qp head source k s g small h =
    let l : IsListed held (head (first_of (shape c) k)) = h.lists (first_of (shape c) k) in
    record {
      some = wide_some c s;
      row = whole_rows (first_row (shape c) k) ((shape c).across) (head (first_of (shape c) k)).first_mb (wide_some c s) (h.first (first_of (shape c) k));
      qp = subst (λ (q : ℕ). q ≤ 51) (sym (h.own_qp (first_of (shape c) k))) small;
      range_fits = s.range;
      source_fits = g;
      pictures0 = l.listed.pictures0;
      pictures1 = l.listed.pictures1;
      length0 = l.listed.length0;
      length1 = l.listed.length1;
      few0 = l.listed.few0;
      few1 = l.listed.few1;
      entries = l.listed.entries;
    }

pub plain_fits : (c : CoderSettings) (st : PlanStep) (held : List Reference) (number qp : ℕ) (head : ℕ → SliceHead) (source : Planes) → AreSettings c → PlanesFit source → qp ≤ 51 → HeadsFit st held number qp head
    → RuleFits c held head (plain_rule (shape c) held source)
unfolding task_records
plain_fits c st held number qp head source s g small h = record {
  are = λ k p fits. planned_records (format (shape c)) (head (first_of (shape c) k)) (lists_by (head (first_of (shape c) k)) held) source c.range p (count_of (shape c) k) (given c st held number qp head source k s g small h) fits;
  long = λ x n p. length-order _ _ n;
}

pub coarsest_fits : (c : CoderSettings) (st : PlanStep) (held : List Reference) (number : ℕ) (head : ℕ → SliceHead) (source : Planes) → AreSettings c → HeadsFit st held number 51 head → RuleFits c held head (coarsest_rule (shape c) held source)
unfolding coarsest_records
coarsest_fits c st held number head source s h = record {
  are = λ k p fits. coarsest_are (format (shape c)) (head (first_of (shape c) k)) (task_of (shape c) held source (head (first_of (shape c) k))) p (count_of (shape c) k) refl (wide_some c s) (h.own_qp (first_of (shape c) k)) fits;
  long = λ x n p. length-order _ _ n;
}

-- ---- a slice

is_slice : (c : CoderSettings) (st : PlanStep) (held : List Reference) (number qp : ℕ) (head : ℕ → SliceHead) (rule : Rule) (k : ℕ) (p : Planes) → AreSettings c → HeadsFit st held number qp head → RuleFits c held head rule → k < c.slices → PlanesFit p
    → IsSlice (format (shape c)) (colocated_at (lists_by (head (first_of (shape c) k)) held)) st.idr (slice_by (shape c) head rule k p)
is_slice c st held number qp head rule k p s h f inside fits =
    let long : length (rule (head (first_of (shape c) k)) (count_of (shape c) k) p) ≡ count_of (shape c) k = f.long (head (first_of (shape c) k)) (count_of (shape c) k) p in
    let first : (head (first_of (shape c) k)).first_mb ≡ first_of (shape c) k = h.first (first_of (shape c) k) in
    let next = next_first c k s in
    let last = first_inside c (k + 1) (omega (arith, inside)) in
    let total : (shape c).down * (shape c).across ≡ (shape c).across * (shape c).down = omega arith in
    record {
      head_fits = h.fits (first_of (shape c) k) (first_small c k s (omega (arith, inside)));
      some = subst (λ (n : ℕ). 0 < n) (sym long) (count_some c k s);
      fits = omega (arith, long, first, next, last, total);
      each = f.are k p fits;
    }

is_coded : (c : CoderSettings) (st : PlanStep) (held : List Reference) (number qp : ℕ) (head : ℕ → SliceHead) (rule : Rule) (k : ℕ) (p : Planes) → AreSettings c → HeadsFit st held number qp head → RuleFits c held head rule → k < c.slices → PlanesFit p
    → IsCodedSlice frames c.sequence (true, c.t8x8) held (head 0) st (first_of (shape c) k) (with_payload (format (shape c)) (slice_by (shape c) head rule k p))
unfolding read_slice
is_coded c st held number qp head rule k p s h f inside fits =
    let x : Slice = slice_by (shape c) head rule k p in
    let is = is_slice c st held number qp head rule k p s h f inside fits in
    record {
      reads = ap (λ o. option_map of_records o) (layer_back (format (shape c)) st.idr held (lists_by (head (first_of (shape c) k)) held) x (h.lists (first_of (shape c) k)).there is);
      ends = payload_ends (format (shape c)) x;
      first = h.first (first_of (shape c) k);
      some = subst (λ (n : ℕ). 0 < n) (sym (length-map x.records coded)) is.some;
      head = h.says (first_of (shape c) k);
    }

-- ---- slices, one behind another, up to a macroblock

abbrev Reaches : {S : Type 0} → Reading S → SeqHead → Bool × Bool → List Reference → SliceHead → PlanStep → ℕ → List (CodedSlice S) → ℕ → Type 0
Reaches r s flags held lead st before [] end = before ≡ end
Reaches r s flags held lead st before (c ∷ cs) end = IsCodedSlice r s flags held lead st before c × Reaches r s flags held lead st (before + r.count c.slice) cs end

one_more : {S : Type 0} (r : Reading S) (s : SeqHead) (flags : Bool × Bool) (held : List Reference) (lead : SliceHead) (st : PlanStep) (before : ℕ) (cs : List (CodedSlice S)) (end : ℕ) (c : CodedSlice S) → Reaches r s flags held lead st before cs end
    → IsCodedSlice r s flags held lead st end c → Reaches r s flags held lead st before (cs ++ c ∷ []) (end + r.count c.slice)
one_more r s flags held lead st before [] end c e is = (subst (λ (n : ℕ). IsCodedSlice r s flags held lead st n c) (sym e) is, ap (λ (n : ℕ). n + r.count c.slice) e)
one_more r s flags held lead st before (x ∷ cs) end c e is = (e.0, one_more r s flags held lead st (before + r.count x.slice) cs end c e.1 is)

covers : {S : Type 0} (r : Reading S) (s : SeqHead) (flags : Bool × Bool) (held : List Reference) (lead : SliceHead) (st : PlanStep) (before : ℕ) (cs : List (CodedSlice S)) (end : ℕ) → Reaches r s flags held lead st before cs end
    → end ≡ across_of s * down_of s → Covers r s flags held lead st before cs
covers r s flags held lead st before [] end e h = e ∙ h
covers r s flags held lead st before (c ∷ cs) end e h = (e.0, covers r s flags held lead st (before + r.count c.slice) cs end e.1 h)

reaches : (c : CoderSettings) (st : PlanStep) (held : List Reference) (number qp : ℕ) (head : ℕ → SliceHead) (rule : Rule) (k : ℕ) → AreSettings c → HeadsFit st held number qp head → RuleFits c held head rule → k ≤ c.slices
    → Reaches frames c.sequence (true, c.t8x8) held (head 0) st 0 (map (with_payload (format (shape c))) (slices_to (shape c) held head rule k)) (first_of (shape c) k)
unfolding slices_to
reaches c st held number qp head rule zero s h f inside = sym (ap (λ (n : ℕ). n * (shape c).across) (row_none ((shape c).down) c.slices) ∙ nothing ((shape c).across))
  where
    nothing : (n : ℕ) → 0 * n ≡ 0
    nothing n = omega arith
reaches c st held number qp head rule (suc k) s h f inside =
    let before : List Slice = slices_to (shape c) held head rule k in
    let p : Planes = slices_built ((shape c).across) held before (blank_planes ((shape c).across) ((shape c).down)) in
    let fits : PlanesFit p = built_fits ((shape c).across) held before _ (blank_fits ((shape c).across) ((shape c).down)) in
    let x : Slice = slice_by (shape c) head rule k p in
    let now : CodedSlice Read = with_payload (format (shape c)) x in
    let at : k + 1 ≡ suc k = omega arith in
    let end : first_of (shape c) k + length (map coded x.records) ≡ first_of (shape c) (suc k) =
    ap (λ (n : ℕ). first_of (shape c) k + n) (length-map x.records coded ∙ f.long (head (first_of (shape c) k)) (count_of (shape c) k) p) ∙ next_first c k s ∙ ap (λ (n : ℕ). first_of (shape c) n) at in
    subst (λ (n : ℕ). Reaches frames c.sequence (true, c.t8x8) held (head 0) st 0 (map (with_payload (format (shape c))) (before ++ x ∷ [])) n) end
    (subst (λ (cs : List (CodedSlice Read)). Reaches frames c.sequence (true, c.t8x8) held (head 0) st 0 cs (first_of (shape c) k + length (map coded x.records))) (sym (map-append (with_payload (format (shape c))) before (x ∷ [])))
    (one_more frames c.sequence (true, c.t8x8) held (head 0) st 0 (map (with_payload (format (shape c))) before) (first_of (shape c) k) now (reaches c st held number qp head rule k s h f (omega (arith, inside)))
    (is_coded c st held number qp head rule k p s h f (omega (arith, inside)) fits)))

pub picture_covers : (c : CoderSettings) (st : PlanStep) (held : List Reference) (number qp : ℕ) (head : ℕ → SliceHead) (rule : Rule) → AreSettings c → HeadsFit st held number qp head → RuleFits c held head rule
    → Covers frames c.sequence (true, c.t8x8) held (head 0) st 0 (map (with_payload (format (shape c))) (slices_to (shape c) held head rule c.slices))
picture_covers c st held number qp head rule s h f =
    covers frames c.sequence (true, c.t8x8) held (head 0) st 0 _ (first_of (shape c) c.slices) (reaches c st held number qp head rule c.slices s h f (omega arith))
    (ap (λ (n : ℕ). n * (shape c).across) (row_last ((shape c).down) c.slices s.some) ∙ turned ((shape c).down) ((shape c).across))
  where
    turned : (d a : ℕ) → d * a ≡ a * d
    turned d a = omega arith
