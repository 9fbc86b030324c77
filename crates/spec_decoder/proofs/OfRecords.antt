-- Slices of records make what their records build.
use Rattle.std.proofs.Common.{◌≡◌, ◌+◌, ◌++◌, ℕ, List, [], ◌∷◌, length, map, get_or, refl, sym, ap, ◌∙◌, append_assoc, append-nil}
use Rattle.std.proofs.Math.ListN.{get_or-map}
use Rattle.std.proofs.lemmas.List.{length-map}
use Rattle.enc_tables.specs.declared.records.MbKind.TheVariants as kinds
use Rattle.enc_tables.specs.declared.records.MbRecord.{MbRecord}
use Rattle.enc_tables.specs.Records.{blank_record}
use Rattle.enc_tables.specs.Steps.{steps}
use Rattle.spec_film.specs.Films.{Planes}
use Rattle.spec_lists.specs.References.{Reference}
use Rattle.spec_slice_payload.specs.Layer as layer
use Rattle.spec_reconstruction.specs.Inter.{Sources}
use Rattle.spec_reconstruction.specs.Records.{macroblock_built, slice_built}
use Rattle.spec_decoder.specs.Macroblocks.{Macroblock, coded, record_of, of_records}
use Rattle.spec_decoder.specs.Frames.{sources_by, macroblock_made, slice_made, slices_made, all_records}
use Rattle.spec_decoder.proofs.Steps.{steps_same}

pub slice_same : (width : ℕ) (o : Sources) (first : ℕ) (mbs : List MbRecord) (p : Planes) → slice_made width o first (map coded mbs) p ≡ slice_built width o first mbs p
unfolding slice_made slice_built
slice_same width o first mbs p =
    ap (λ (n : ℕ). steps (λ k now. macroblock_made width o first (first + k) (get_or (map coded mbs) k (coded (blank_record kinds.Pcm 0))) now) n p) (length-map mbs coded)
    ∙ steps_same (λ k now. macroblock_made width o first (first + k) (get_or (map coded mbs) k (coded (blank_record kinds.Pcm 0))) now)
    (λ k now. macroblock_built width o first (first + k) (get_or mbs k (blank_record kinds.Pcm 0)) now) (length mbs) p
    (λ k inside now. ap (λ (mb : Macroblock). macroblock_made width o first (first + k) mb now) (get_or-map coded mbs k (blank_record kinds.Pcm 0)))

-- the first of some slices, and the last
pub built_first : (across : ℕ) (held : List Reference) (s : layer.Slice) (ss : List layer.Slice) (p : Planes) → slices_made across held (map of_records (s ∷ ss)) p ≡ slices_made across held (map of_records ss) (slice_built across (sources_by s.head held) s.head.first_mb s.records p)
unfolding slices_made
built_first across held s ss p = ap (λ (q : Planes). slices_made across held (map of_records ss) q) (slice_same across (sources_by s.head held) s.head.first_mb s.records p)

pub built_last : (across : ℕ) (held : List Reference) (ss : List layer.Slice) (s : layer.Slice) (p : Planes) → slices_made across held (map of_records (ss ++ s ∷ [])) p ≡ slice_built across (sources_by s.head held) s.head.first_mb s.records (slices_made across held (map of_records ss) p)
unfolding slices_made
built_last across held [] s p = slice_same across (sources_by s.head held) s.head.first_mb s.records p
built_last across held (x ∷ ss) s p = built_last across held ss s (slice_made across (sources_by x.head held) x.head.first_mb (map coded x.records) p)

records_back : (mbs : List MbRecord) → map record_of (map coded mbs) ≡ mbs
records_back [] = refl
records_back (mb ∷ mbs) = ap (λ (rest : List MbRecord). mb ∷ rest) (records_back mbs)

pub records_last : (ss : List layer.Slice) (s : layer.Slice) → all_records (map of_records (ss ++ s ∷ [])) ≡ all_records (map of_records ss) ++ s.records
records_last [] s = append-nil (map record_of (map coded s.records)) ∙ records_back s.records
records_last (x ∷ ss) s =
    ap (λ (t : List MbRecord). map record_of (map coded x.records) ++ t) (records_last ss s)
    ∙ sym (append_assoc (map record_of (map coded x.records)) (all_records (map of_records ss)) s.records)
