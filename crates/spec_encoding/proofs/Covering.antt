-- The slices of a coded picture are slices of the syntax, and cover its macroblocks in order.
use Rattle.std.proofs.Common.{◌≡◌, ◌≤◌, ◌<◌, ◌+◌, ◌-◌, ◌*◌, ◌/◌, ◌%◌, ◌^◌, ◌++◌, ℕ, zero, suc, Bool, true, List, [], ◌∷◌, length, map, refl, sym, ap, subst, ◌∙◌, arith, lit<}
use Rattle.std.specs.Prelude.{option_map}
use Rattle.std.proofs.lemmas.List.{map-append, length-map}
use Rattle.std.proofs.lemmas.Nat.{mul-le, div-add-mod'}
use Rattle.spec_film.specs.Films.{Planes}
use Rattle.spec_headers.specs.declared.heads.SeqHead.{SeqHead}
use Rattle.spec_headers.specs.declared.heads.SliceHead.{SliceHead}
use Rattle.spec_headers.specs.Heads.{idr_head}
use Rattle.spec_decoder.specs.Sets.{across_of, down_of}
use Rattle.spec_slice_payload.specs.Layer.{Format, Colocated, Slice}
use Rattle.spec_slice_payload.specs.Slices.{IsIdrHead, IsSlice}
use Rattle.spec_slice_payload.proofs.Layers.{idr_layer_back}
use Rattle.spec_lists.specs.Heads.{common}
use Rattle.spec_lists.specs.Lists.{no_lists}
use Rattle.spec_lists.specs.Colocated.{colocated_at}
use Rattle.spec_reconstruction.specs.Inter.{no_sources}
use Rattle.spec_decoder.specs.Pictures.{Reading}
use Rattle.spec_pictures.specs.Coded.{CodedSlice, IsCodedSlice, Covers}
use Rattle.spec_intra.specs.Near.{macroblock_avail}
use Rattle.spec_record_laws.specs.Coded.{PlanesFit, ModesAllowed}
use Rattle.spec_record_laws.proofs.Plans.{plans_fit, choices_are_coded}
use Rattle.spec_record_laws.proofs.Allowed.{plans_allowed}
use Rattle.spec_decoder.specs.Macroblocks.{Slice as Read, coded, format_of, of_records, read_slice}
use Rattle.spec_encoding.specs.Frames.{slices_built}
use Rattle.spec_decoder.specs.Frames.{blank_planes, frames}
use Rattle.spec_encoding.specs.Coding.{Settled, first_row, first_of, count_of, plan_at, kind_at, records_of, head_of, slices_of, coded_picture}
use Rattle.spec_encoding.specs.Encoding.{with_payload}
use Rattle.spec_encoding.proofs.Numbers.{row_inside, row_none, row_last, row_next, behind, some_more}
use Rattle.spec_encoding.proofs.Coded.{blank_fits, built_fits, length-coded, are_coded}
use Rattle.spec_encoding.proofs.Ends.{payload_ends}

-- how pictures of this sequence are coded
pub record IsSettled (q : SeqHead) (c : Settled) : Type 0 where
  pub across : c.across ≡ across_of q
  pub down : c.down ≡ down_of q
  pub wide : 0 < c.across
  pub across_fits : c.across ≤ 256
  pub down_fits : c.down ≤ 144
  pub qp : c.qp ≤ 51
  pub some : 0 < c.slices
  pub few : c.slices ≤ c.down

abbrev slice_at : Settled → ℕ → Planes → ℕ → Planes → Slice
slice_at c number source k p = record { head = head_of c number k; records = records_of c source k p }

abbrev format : Settled → Format
format c = record { across = c.across; total = c.across * c.down; t8x8 = c.t8x8 }

-- there is no co-located picture
abbrev nowhere : Colocated
nowhere = colocated_at no_lists

count_is : (c : Settled) (source : Planes) (k : ℕ) (p : Planes) → length (records_of c source k p) ≡ count_of c k
unfolding records_of
count_is c source k p = length-coded c.across no_sources (first_of c k) c.qp (kind_at c source k) (plan_at c source k) source p (count_of c k)

-- the slice behind begins where this one ends
next_first : (q : SeqHead) (c : Settled) (k : ℕ) → IsSettled q c → first_of c k + count_of c k ≡ first_of c (k + 1)
next_first q c k s = let more = row_next k c.down c.slices s.some s.few in behind (first_row c k) (first_row c (k + 1)) c.across (omega arith)

count_some : (q : SeqHead) (c : Settled) (k : ℕ) → IsSettled q c → 0 < count_of c k
count_some q c k s = some_more (first_row c k) (first_row c (k + 1)) c.across (row_next k c.down c.slices s.some s.few) s.wide

first_inside : (q : SeqHead) (c : Settled) (k : ℕ) → IsSettled q c → k ≤ c.slices → first_of c k ≤ c.down * c.across
first_inside q c k s h = let least : c.across ≤ c.across = omega arith in mul-le (first_row c k) c.across c.down c.across (row_inside k c.down c.slices h) least

head_fits : (q : SeqHead) (c : Settled) (number k : ℕ) → IsSettled q c → k ≤ c.slices → IsIdrHead (head_of c number k)
unfolding idr_head
head_fits q c number k s h =
    let a = first_inside q c k s h in
    let b = mul-le c.down c.across 144 256 s.down_fits s.across_fits in
    let small : first_of c k ≤ 36864 = omega arith in
    record {
      same = refl;
      first_mb_fits = below (first_of c k) small;
      frame_num_fits = lit< tt;
      idr_id_fits = omega arith;
      poc_fits = lit< tt;
      qp_fits = s.qp;
    }
  where
    below : (n : ℕ) → n ≤ 36864 → n < 2 ^ 32 - 1
    below n h = omega arith

pub is_slice : (q : SeqHead) (c : Settled) (number : ℕ) (source : Planes) (k : ℕ) (p : Planes) → IsSettled q c → k < c.slices → PlanesFit source → PlanesFit p → IsSlice (format c) nowhere true (slice_at c number source k p)
unfolding idr_head records_of
is_slice q c number source k p s inside g h =
    let long = count_is c source k p in
    let some = count_some q c k s in
    let next = next_first q c k s in
    let last = first_inside q c (k + 1) s (omega arith) in
    let total : c.down * c.across ≡ c.across * c.down = omega arith in
    record {
      head_fits = head_fits q c number k s (omega arith);
      some = omega arith;
      fits = omega arith;
      each = (are_coded (format c) nowhere (head_of c number k) no_sources (kind_at c source k) (plan_at c source k) source p (count_of c k) (record {
        qp = s.qp;
        kinds_fit = λ a. choices_are_coded c.t8x8 (plan_at c source k a) c.qp;
        plans_fit = λ a. plans_fit c.across (first_row c k) c.t8x8 source (a / c.across) (a % c.across);
        plans_allowed = λ a. subst (λ (address : ℕ). ModesAllowed c.t8x8 (macroblock_avail c.across (first_of c k) address) (plan_at c source k a)) (div-add-mod' a c.across)
            (plans_allowed c.across (first_row c k) c.t8x8 source (a / c.across) (a % c.across) g);
        source_fits = g;
        built = h;
      })).0;
    }

-- ---- slices one behind another

abbrev Reaches : {S : Type 0} → Reading S → SeqHead → Bool × Bool → SliceHead → ℕ → List (CodedSlice S) → ℕ → Type 0
Reaches r s flags lead before [] end = before ≡ end
Reaches r s flags lead before (c ∷ cs) end = IsCodedSlice r s flags lead before c × Reaches r s flags lead (before + r.count c.slice) cs end

one_more : {S : Type 0} (r : Reading S) (s : SeqHead) (flags : Bool × Bool) (lead : SliceHead) (before : ℕ) (cs : List (CodedSlice S)) (end : ℕ) (c : CodedSlice S) → Reaches r s flags lead before cs end → IsCodedSlice r s flags lead end c
    → Reaches r s flags lead before (cs ++ c ∷ []) (end + r.count c.slice)
one_more r s flags lead before [] end c e is = (subst (λ (n : ℕ). IsCodedSlice r s flags lead n c) (sym e) is, ap (λ (n : ℕ). n + r.count c.slice) e)
one_more r s flags lead before (x ∷ cs) end c e is = (e.0, one_more r s flags lead (before + r.count x.slice) cs end c e.1 is)

covers : {S : Type 0} (r : Reading S) (s : SeqHead) (flags : Bool × Bool) (lead : SliceHead) (before : ℕ) (cs : List (CodedSlice S)) (end : ℕ) → Reaches r s flags lead before cs end → end ≡ across_of s * down_of s → Covers r s flags lead before cs
covers r s flags lead before [] end e h = e ∙ h
covers r s flags lead before (c ∷ cs) end e h = (e.0, covers r s flags lead (before + r.count c.slice) cs end e.1 h)

-- ---- a picture

same_format : (q : SeqHead) (c : Settled) → IsSettled q c → format c ≡ format_of q c.t8x8
same_format q c s = by c.across c.down (across_of q) (down_of q) s.across s.down
  where
    by : (a d a' d' : ℕ) → a ≡ a' → d ≡ d' → (let f : Format = record { across = a; total = a * d; t8x8 = c.t8x8 } in let g : Format = record { across = a'; total = a' * d'; t8x8 = c.t8x8 } in f ≡ g)
    by a d a' d' e h =
        ap (λ (n : ℕ). let f : Format = record { across = n; total = n * d; t8x8 = c.t8x8 } in f) e
        ∙ ap (λ (n : ℕ). let f : Format = record { across = a'; total = a' * n; t8x8 = c.t8x8 } in f) h

-- what the headers of a picture's slices have in common
abbrev pub lead_of : Settled → ℕ → SliceHead
lead_of c number = idr_head 0 0 (number % 2) 0 c.qp true

is_coded : (q : SeqHead) (c : Settled) (number : ℕ) (source : Planes) (k : ℕ) (p : Planes) → IsSettled q c → k < c.slices → PlanesFit source → PlanesFit p
    → IsCodedSlice frames q (true, c.t8x8) (lead_of c number) (first_of c k) (with_payload (format_of q c.t8x8) (slice_at c number source k p))
unfolding read_slice idr_head common
is_coded q c number source k p s inside g h =
    let fits : IsSlice (format_of q c.t8x8) nowhere true (slice_at c number source k p) = subst (λ (f : Format). IsSlice f nowhere true (slice_at c number source k p)) (same_format q c s) (is_slice q c number source k p s inside g h) in
    record {
      reads = ap (λ o. option_map of_records o) (idr_layer_back (format_of q c.t8x8) [] (slice_at c number source k p) fits);
      ends = payload_ends (format_of q c.t8x8) (slice_at c number source k p);
      first = refl;
      some = subst (λ (n : ℕ). 0 < n) (sym (length-map (slice_at c number source k p).records coded)) fits.some;
      agrees = refl;
      kind = refl;
      idr = refl;
      frame_num = refl;
      poc = refl;
    }

reaches : (q : SeqHead) (c : Settled) (number : ℕ) (source : Planes) (k : ℕ) → IsSettled q c → k ≤ c.slices → PlanesFit source
    → Reaches frames q (true, c.t8x8) (lead_of c number) 0 (map (with_payload (format_of q c.t8x8)) (slices_of c number source k)) (first_of c k)
unfolding slices_of
reaches q c number source zero s inside g = sym (ap (λ (n : ℕ). n * c.across) (row_none c.down c.slices) ∙ nothing c.across)
  where
    nothing : (n : ℕ) → 0 * n ≡ 0
    nothing n = omega arith
reaches q c number source (suc k) s inside g =
    let before : List Slice = slices_of c number source k in
    let p : Planes = slices_built c.across [] before (blank_planes c.across c.down) in
    let fits : PlanesFit p = built_fits c.across [] before _ (blank_fits c.across c.down) in
    let f : Format = format_of q c.t8x8 in
    let x : CodedSlice Read = with_payload f (slice_at c number source k p) in
    let at : k + 1 ≡ suc k = omega arith in
    let end : first_of c k + length (map coded (records_of c source k p)) ≡ first_of c (suc k) =
    ap (λ (n : ℕ). first_of c k + n) (length-map (records_of c source k p) coded ∙ count_is c source k p) ∙ next_first q c k s ∙ ap (λ (n : ℕ). first_of c n) at in
    subst (λ (n : ℕ). Reaches frames q (true, c.t8x8) (lead_of c number) 0 (map (with_payload f) (before ++ slice_at c number source k p ∷ [])) n) end
    (subst (λ (cs : List (CodedSlice Read)). Reaches frames q (true, c.t8x8) (lead_of c number) 0 cs (first_of c k + length (map coded (records_of c source k p)))) (sym (map-append (with_payload f) before (slice_at c number source k p ∷ [])))
    (one_more frames q (true, c.t8x8) (lead_of c number) 0 (map (with_payload f) before) (first_of c k) x (reaches q c number source k s (omega arith) g) (is_coded q c number source k p s (omega arith) g fits)))

pub picture_covers : (q : SeqHead) (c : Settled) (number : ℕ) (source : Planes) → IsSettled q c → PlanesFit source → Covers frames q (true, c.t8x8) (lead_of c number) 0 (map (with_payload (format_of q c.t8x8)) (coded_picture c number source))
picture_covers q c number source s g =
    covers frames q (true, c.t8x8) (lead_of c number) 0 _ (first_of c c.slices) (reaches q c number source c.slices s (omega arith) g)
    (ap (λ (n : ℕ). n * c.across) (row_last c.down c.slices s.some) ∙ turned c.down c.across (down_of q) (across_of q) s.down s.across)
  where
    turned : (d a d' a' : ℕ) → d ≡ d' → a ≡ a' → d * a ≡ a' * d'
    turned d a d' a' e h = rw (e, h) (omega arith)
