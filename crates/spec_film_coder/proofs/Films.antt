-- What a decoder shows of a film's encoding.
use Rattle.std.proofs.Common.{◌≡◌, ◌<◌, Bool, false, List, [], Some, None}
use Rattle.std.specs.Prelude.{nat_eq}
use Rattle.std.specs.List.{IsDistinct}
use Rattle.enc_tables.specs.declared.records.PlanStep.{PlanStep}
use Rattle.spec_film.specs.Films.{Planes}
use Rattle.spec_buffer.specs.Buffer.{Rate}
use Rattle.spec_decoder.specs.Frames.{frames, decode, slices_read}
use Rattle.spec_pictures.specs.Accesses.{Follows, AllCoded, AreOthers, slices_of_accesses}
use Rattle.spec_coding.specs.Encoding.{State, accesses_of}
use Rattle.spec_coding.specs.Trials.{choice_of}
use Rattle.spec_coding.specs.Laws.{steps_of, places}
use Rattle.spec_coding.proofs.Choosing.{coders_encode}
use Rattle.spec_coding.proofs.Going.{encodings_decode, encodings_are_read}
use Rattle.spec_film_coder.specs.Pictures.{CoderSettings, film_coder, film_of, film_encoded, film_bytes, film_shown}
use Rattle.spec_film_coder.specs.Sound.{AreSettings, IsSound}
use Rattle.spec_film_coder.proofs.Laws.{coder_laws}

owed : (c : CoderSettings) (rate : Rate) (reorders : Bool) (s : State) (xs : List (PlanStep × Planes)) → AreSettings c → IsSound c rate s xs
    → AllCoded frames c.sequence (film_of c rate reorders).flags s.held (accesses_of (film_encoded c rate reorders s xs).done) × AreOthers frames None (slices_of_accesses (accesses_of (film_encoded c rate reorders s xs).done))
unfolding film_encoded
owed c rate reorders s xs set so = coders_encode frames c.sequence (film_of c rate reorders) (film_coder c) (IsSound c rate) (coder_laws c rate reorders set) xs s so

pub shows : (c : CoderSettings) (rate : Rate) (reorders : Bool) (s : State) (xs : List (PlanStep × Planes)) → AreSettings c → c.sequence.level < 256 → s.held ≡ [] → IsSound c rate s xs → Follows false 0 0 0 (steps_of xs) → IsDistinct nat_eq (places xs)
    → decode (film_bytes c rate reorders s xs) ≡ Some (film_shown c rate reorders s xs)
unfolding decode film_encoded
shows c rate reorders s xs set level none so f distinct =
    let o = owed c rate reorders s xs set so in
    encodings_decode frames c.sequence (film_of c rate reorders).flags (choice_of (film_of c rate reorders) (film_coder c)) xs s set.sequence level none o.0 o.1 f distinct

pub reads : (c : CoderSettings) (rate : Rate) (reorders : Bool) (s : State) (xs : List (PlanStep × Planes)) → AreSettings c → c.sequence.level < 256 → s.held ≡ [] → IsSound c rate s xs → Follows false 0 0 0 (steps_of xs) → IsDistinct nat_eq (places xs)
    → slices_read (film_bytes c rate reorders s xs) ≡ Some (slices_of_accesses (accesses_of (film_encoded c rate reorders s xs).done))
unfolding slices_read film_encoded
reads c rate reorders s xs set level none so f distinct =
    let o = owed c rate reorders s xs set so in
    encodings_are_read frames c.sequence (film_of c rate reorders).flags (choice_of (film_of c rate reorders) (film_coder c)) xs s set.sequence level none o.0 o.1 f distinct
