-- Two readings of the same payloads: where one's slices stand for the other's, they show the same.
use Rattle.std.proofs.Common.{ℕ, ◌+◌, ◌≡◌, ◌<◌, List, [], ◌∷◌, ◌++◌, map, Bool, false, Some, None, refl, ap, ap₂, sym, subst, ◌∙◌, Option}
use Rattle.std.specs.List.{flat_map, IsDistinct}
use Rattle.enc_tables.specs.declared.records.Motion.{Motion}
use Rattle.enc_tables.specs.declared.records.PlanStep.{PlanStep}
use Rattle.spec_film.specs.Films.{Planes}
use Rattle.spec_headers.specs.declared.heads.SeqHead.{SeqHead}
use Rattle.spec_headers.specs.declared.heads.SliceHead.{SliceHead}
use Rattle.spec_bits.specs.Units.{Nal, written}
use Rattle.spec_decoder.specs.Output.{placed, pictures_in}
use Rattle.spec_lists.specs.References.{Reference, kept}
use Rattle.spec_lists.specs.Heads.{is_referred, is_other, idr_id_of}
use Rattle.spec_decoder.specs.Pictures.{Reading, made, shown_planes, held_behind, decode_by, read_by}
use Rattle.spec_pictures.specs.Coded.{CodedSlice, slices_in}
use Rattle.spec_pictures.specs.Accesses.{Access, slice_nal, set_nals, started, slice_nals, access_nals, access_bytes, accesses_bytes, HasHead, Covers, picture_of, held_after, AllCoded, shown_from, Follows, pictures_shown, slices_of_accesses, id_in, AreOthers, places_of}
use Rattle.std.specs.Prelude.{nat_eq}
use Rattle.spec_pictures.proofs.Streams.{streams_decode, streams_are_read}
use Rattle.spec_headers.specs.Allowed.{IsSeqHead}

pub record Translates {S T : Type 0} (r : Reading S) (t : Reading T) (s : SeqHead) (flags : Bool × Bool) (g : S → T) : Type 0 where
  pub slice : (idr : Bool) (held : List Reference) (payload : List ℕ) (x : S) → r.slice s flags idr held payload ≡ Some x → t.slice s flags idr held payload ≡ Some (g x)
  pub head : (x : S) → t.head (g x) ≡ r.head x
  pub count : (x : S) → t.count (g x) ≡ r.count x
  pub planes : (held : List Reference) (xs : List S) → t.planes s held (map g xs) ≡ r.planes s held xs
  pub motion : (xs : List S) → t.motion (map g xs) ≡ r.motion xs

abbrev pub translated : {S T : Type 0} → (S → T) → CodedSlice S → CodedSlice T
translated g c = record { payload = c.payload; slice = g c.slice }

abbrev pub translated_access : {S T : Type 0} → (S → T) → Access S → Access T
translated_access g a = record { step = a.step; before = a.before; slices = map (translated g) a.slices; behind = a.behind }

slices_are : {S T : Type 0} (g : S → T) (cs : List (CodedSlice S)) → slices_in (map (translated g) cs) ≡ map g (slices_in cs)
slices_are g [] = refl
slices_are g (c ∷ cs) = ap (λ (xs : List _). g c.slice ∷ xs) (slices_are g cs)

nals_are : {S T : Type 0} (g : S → T) (st : PlanStep) (cs : List (CodedSlice S)) → slice_nals st (map (translated g) cs) ≡ slice_nals st cs
nals_are g st [] = refl
nals_are g st (c ∷ cs) = ap (λ (ns : List Nal). slice_nal st.idr st.kind c ∷ ns) (nals_are g st cs)

-- the bytes don't tell one from the other
one_same : {S T : Type 0} (s : SeqHead) (flags : Bool × Bool) (g : S → T) (a : Access S) → access_bytes s flags (translated_access g a) ≡ access_bytes s flags a
unfolding access_bytes access_nals
one_same s flags g a = ap (λ (ns : List Nal). flat_map written (started (set_nals s flags a.step.idr ++ (a.before ++ (ns ++ a.behind))))) (nals_are g a.step a.slices)

pub bytes_same : {S T : Type 0} (s : SeqHead) (flags : Bool × Bool) (g : S → T) (accesses : List (Access S)) → accesses_bytes s flags (map (translated_access g) accesses) ≡ accesses_bytes s flags accesses
unfolding accesses_bytes
bytes_same s flags g [] = refl
bytes_same s flags g (a ∷ rest) = ap₂ (λ (x y : List ℕ). x ++ y) (one_same s flags g a) (bytes_same s flags g rest)

module _ {S T : Type 0} (r : Reading S) (t : Reading T) (s : SeqHead) (flags : Bool × Bool) (g : S → T) (same : Translates r t s flags g) where
  pictures_same : (frame_num poc : ℕ) (held : List Reference) (cs : List (CodedSlice S)) → made t s frame_num poc held (slices_in (map (translated g) cs)) ≡ made r s frame_num poc held (slices_in cs)
  unfolding made
  pictures_same frame_num poc held cs =
      ap (λ (xs : List T). made t s frame_num poc held xs) (slices_are g cs)
      ∙ ap₂ (λ (p : Planes) (m : List (Bool × List Motion)). let x : Reference = record { planes = p; motion = m; poc = poc; frame_num = frame_num } in x) (same.planes held (slices_in cs)) (same.motion (slices_in cs))

  after_same : (held : List Reference) (a : Access S) → held_after t s held (translated_access g a) ≡ held_after r s held a
  unfolding held_after
  after_same held a = ap (λ (x : Reference). held_behind s (is_referred a.step.kind) x (kept a.step.idr held)) (pictures_same a.step.frame_num a.step.poc (kept a.step.idr held) a.slices)

  covers_same : (held : List Reference) (lead : SliceHead) (st : PlanStep) (before : ℕ) (cs : List (CodedSlice S)) → Covers r s flags held lead st before cs → Covers t s flags held lead st before (map (translated g) cs)
  covers_same held lead st before [] h = h
  covers_same held lead st before (c ∷ cs) h = (
    record {
      reads = same.slice st.idr held c.payload c.slice h.0.reads;
      ends = h.0.ends;
      first = ap (λ (x : SliceHead). x.first_mb) (same.head c.slice) ∙ h.0.first;
      some = subst (λ n. 0 < n) (sym (same.count c.slice)) h.0.some;
      head = subst (λ x. HasHead lead st x) (sym (same.head c.slice)) h.0.head;
    },
    subst (λ n. Covers t s flags held lead st (before + n) (map (translated g) cs)) (sym (same.count c.slice)) (covers_same held lead st (before + r.count c.slice) cs h.1),
  )

  pub coded_same : (held : List Reference) (accesses : List (Access S)) → AllCoded r s flags held accesses → AllCoded t s flags held (map (translated_access g) accesses)
  coded_same held [] h = tt
  coded_same held (a ∷ rest) h = (
    record { lead = h.0.lead; covers = covers_same (kept a.step.idr held) h.0.lead a.step 0 a.slices h.0.covers; before = h.0.before; behind = h.0.behind },
    subst (λ x. AllCoded t s flags x (map (translated_access g) rest)) (sym (after_same held a)) (coded_same (held_after r s held a) rest h.1),
  )

  pub shown_same : (held : List Reference) (before : List (ℕ × Planes)) (accesses : List (Access S)) → shown_from t s held before (map (translated_access g) accesses) ≡ shown_from r s held before accesses
  unfolding shown_from
  shown_same held before [] = refl
  shown_same held before (a ∷ rest) =
      ap₂ (λ (h : List Reference) (x : Reference). shown_from t s h (placed (a.step.display, shown_planes s x.planes) before) (map (translated_access g) rest)) (after_same held a) (pictures_same a.step.frame_num a.step.poc (kept a.step.idr held) a.slices)
      ∙ shown_same (held_after r s held a) (placed (a.step.display, shown_planes s (picture_of r s held a).planes) before) rest

  steps_same : (accesses : List (Access S)) → map (λ (a : Access T). a.step) (map (translated_access g) accesses) ≡ map (λ (a : Access S). a.step) accesses
  steps_same [] = refl
  steps_same (a ∷ rest) = ap (λ (xs : List PlanStep). a.step ∷ xs) (steps_same rest)

  slices_same : (accesses : List (Access S)) → slices_of_accesses (map (translated_access g) accesses) ≡ map (map g) (slices_of_accesses accesses)
  slices_same [] = refl
  slices_same (a ∷ rest) = ap₂ (λ (x : List T) (xs : List (List T)). x ∷ xs) (slices_are g a.slices) (slices_same rest)

  id_same : (cs : List (CodedSlice S)) → id_in t (slices_in (map (translated g) cs)) ≡ id_in r (slices_in cs)
  id_same [] = refl
  id_same (c ∷ cs) = ap (λ (h : SliceHead). idr_id_of h.idr h.idr_id) (same.head c.slice)

  others_same : (before : Option ℕ) (accesses : List (Access S)) → AreOthers r before (slices_of_accesses accesses) → AreOthers t before (slices_of_accesses (map (translated_access g) accesses))
  others_same before [] h = tt
  others_same before (a ∷ rest) h = (
    ap (λ o. is_other o before) (id_same a.slices) ∙ h.0,
    subst (λ o. AreOthers t o (slices_of_accesses (map (translated_access g) rest))) (sym (id_same a.slices)) (others_same (id_in r (slices_in a.slices)) rest h.1),
  )

  places_same : (accesses : List (Access S)) → places_of (map (translated_access g) accesses) ≡ places_of accesses
  places_same [] = refl
  places_same (a ∷ rest) = ap (λ (xs : List ℕ). a.step.display ∷ xs) (places_same rest)

  -- what one reading's law says holds of the other
  pub translated_decode : (accesses : List (Access S)) → IsSeqHead s → s.level < 256 → AllCoded r s flags [] accesses → Follows false 0 0 0 (map (λ a. a.step) accesses) → IsDistinct nat_eq (places_of accesses) → AreOthers r None (slices_of_accesses accesses)
      → decode_by t (accesses_bytes s flags accesses) ≡ Some (pictures_shown r s accesses)
  translated_decode accesses is level coded f distinct others =
      ap (λ bytes. decode_by t bytes) (sym (bytes_same s flags g accesses))
      ∙ streams_decode t s flags (map (translated_access g) accesses) is level (coded_same [] accesses coded) (subst (λ x. Follows false 0 0 0 x) (sym (steps_same accesses)) f) (subst (λ x. IsDistinct nat_eq x) (sym (places_same accesses)) distinct) (others_same None accesses others)
      ∙ ap (λ (ps : List (ℕ × Planes)). Some (pictures_in ps)) (shown_same [] [] accesses)

  pub translated_read : (accesses : List (Access S)) → IsSeqHead s → s.level < 256 → AllCoded r s flags [] accesses → Follows false 0 0 0 (map (λ a. a.step) accesses) → IsDistinct nat_eq (places_of accesses) → AreOthers r None (slices_of_accesses accesses)
      → read_by t (accesses_bytes s flags accesses) ≡ Some (map (map g) (slices_of_accesses accesses))
  translated_read accesses is level coded f distinct others =
      ap (λ bytes. read_by t bytes) (sym (bytes_same s flags g accesses))
      ∙ streams_are_read t s flags (map (translated_access g) accesses) is level (coded_same [] accesses coded) (subst (λ x. Follows false 0 0 0 x) (sym (steps_same accesses)) f) (subst (λ x. IsDistinct nat_eq x) (sym (places_same accesses)) distinct) (others_same None accesses others)
      ∙ ap (λ (xs : List (List T)). Some xs) (slices_same accesses)
