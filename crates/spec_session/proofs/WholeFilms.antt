-- The film that some bytes are, encoded to its end.
use Rattle.std.proofs.Common.{◌≡◌, ◌≤◌, ◌<◌, ℕ, zero, suc, List, [], ◌∷◌, length, Option, Some, None, Result, Ok, Err, refl, sym, ap, subst, ◌∙◌, arith}
use Rattle.std.specs.Prelude.{slice_index}
use Rattle.std.specs.List.{All}
use Rattle.std.proofs.lemmas.List.Elements.{All-head, All-tail}
use Rattle.spec_bits.specs.Bits.{IsByte}
use Rattle.spec_film.specs.declared.FilmHead.{FilmHead}
use Rattle.spec_film.specs.declared.HeadFault.{HeadFault}
use Rattle.spec_film.specs.Films.{AllowedHead, Film, FilmEnd, Ended, Faulty, FrameStep, Over, Next, Broken, Planes, frame_step, pictures_of, most_pictures, film_from, film_of, read_head}
use Rattle.spec_film.proofs.FilmLaws.{pictures_over, pictures_broken, pictures_next, next_none}
use Rattle.spec_stream.specs.Pictures.{IsPicture}
use Rattle.spec_stream.proofs.FilmPictures.{film_has}
use Rattle.spec_record_laws.specs.Coded.{AreBytes, PlanesFit}
use Rattle.spec_words.specs.declared.command.Settings.{Settings}
use Rattle.spec_words.specs.declared.command.SettingFault.{SettingFault}
use Rattle.spec_words.specs.Choices.{early_of}
use Rattle.spec_decoder.specs.Macroblocks.{Slice as Read}
use Rattle.spec_buffer.specs.Buffer.{BufferHolds, IsRate}
use Rattle.spec_buffer.specs.Ledger.{sizes_of}
use Rattle.spec_coding.specs.Encoding.{Coded, Refusal}
use Rattle.spec_coding.specs.Laws.{spendings}
use Rattle.spec_session.specs.Settings.{SessionSettings, AreInRange, unless_early, completed, setting_of, with_workers}
use Rattle.spec_session.specs.Encodings.{picture_at, rate_of, encoding, IsEncoding}
use Rattle.spec_session.specs.Groups.{coded_by, coded_pictures}
use Rattle.spec_session.specs.Outputs.{Outputs, outputs_of, written_by, written_whole}
use Rattle.spec_session.specs.Answers.{Done, ending_by, with_setting, with_head, behind_early, ending_of, Encodes}
use Rattle.spec_session.proofs.Settling.{completes, rate_is, film_is}
use Rattle.spec_session.proofs.Promised.{IsFilmOf, is_encoding, buffer_holds}

-- ---- pictures of bytes

bytes_fit : (xs : List ℕ) → All IsByte xs → AreBytes xs
bytes_fit xs small = record { at = λ k. at xs k small }
  where
    at : (xs : List ℕ) (k : ℕ) → All IsByte xs → slice_index xs k ≤ 255
    at [] k small = omega arith
    at (x ∷ xs) zero small = let h : x < 256 = All-head IsByte x xs small in omega (arith, h)
    at (x ∷ xs) (suc k) small = at xs k (All-tail IsByte x xs small)

picture_fits : (h : FilmHead) (p : Planes) → IsPicture h p → PlanesFit p
picture_fits h p is = record { luma = bytes_fit p.luma is.luma_bytes; cb = bytes_fit p.cb is.cb_bytes; cr = bytes_fit p.cr is.cr_bytes }

pub pictures_fit : (h : FilmHead) (ps : List Planes) → All (IsPicture h) ps → (d : ℕ) → d < length ps → PlanesFit (picture_at ps d)
pictures_fit h [] all d less = absurd (omega (arith, less))
pictures_fit h (p ∷ ps) all zero less = picture_fits h p (All-head (IsPicture h) p ps all)
pictures_fit h (p ∷ ps) all (suc d) less = pictures_fit h ps (All-tail (IsPicture h) p ps all) d (omega (arith, less))

-- ---- how many there are

most : (more : ℕ) (head : FilmHead) (bytes : List ℕ) → length (pictures_of more head bytes).0 ≤ more
most zero head bytes = go (frame_step zero head bytes) refl
  where
    go : (s : FrameStep) → frame_step zero head bytes ≡ s → length (pictures_of zero head bytes).0 ≤ zero
    go Over is = subst (λ r. length r.0 ≤ zero) (sym (pictures_over zero head bytes is)) (omega arith)
    go (Next p rest) is = absurd (next_none head bytes p rest is)
    go (Broken fault) is = subst (λ r. length r.0 ≤ zero) (sym (pictures_broken zero head bytes fault is)) (omega arith)
most (suc more) head bytes = go (frame_step (suc more) head bytes) refl (λ rest. most more head rest)
  where
    go : (s : FrameStep) → frame_step (suc more) head bytes ≡ s → ((rest : List ℕ) → length (pictures_of more head rest).0 ≤ more) → length (pictures_of (suc more) head bytes).0 ≤ suc more
    go Over is after = subst (λ r. length r.0 ≤ suc more) (sym (pictures_over (suc more) head bytes is)) (omega arith)
    go (Broken fault) is after = subst (λ r. length r.0 ≤ suc more) (sym (pictures_broken (suc more) head bytes fault is)) (omega arith)
    go (Next p rest) is after = let few = after rest in subst (λ r. length r.0 ≤ suc more) (sym (pictures_next (suc more) more head bytes p rest is (omega arith))) (omega (arith, few))

pub film_few : (bytes : List ℕ) → length (film_of bytes).pictures ≤ most_pictures
unfolding film_of
film_few bytes = go (read_head bytes)
  where
    go : (r : Result (FilmHead × List ℕ) HeadFault) → length (film_from r).pictures ≤ most_pictures
    go (Err fault) = omega arith
    go (Ok read) = most most_pictures read.0 read.1

-- ---- a film that is done with

record Ends (s : Settings) (film : Film) : Type 0 where
  head : FilmHead
  settings : SessionSettings
  head_is : film.head ≡ Some head
  ended : film.end ≡ Ended
  early : early_of s ≡ None
  completed_is : completed s head ≡ Ok settings
  none_refused : (encoding settings (coded_pictures settings film)).refused ≡ None

end_done : (r : Option Refusal) (end : FilmEnd) → ending_by r end ≡ Done → (r ≡ None) × (end ≡ Ended)
end_done (Some refusal) end e = absurd cc
end_done None Ended e = (refl, refl)
end_done None (Faulty fault) e = absurd cc

ends : (s : Settings) (film : Film) → (film.head ≡ None → film.end ≡ Ended → ⊥) → ending_of s film ≡ Done → Ends s film
unfolding ending_of
ends s film headed e = by (early_of s) refl film.head refl e
  where
    setting : (h : FilmHead) (r : Result SessionSettings SettingFault) → completed s h ≡ r → early_of s ≡ None → film.head ≡ Some h → with_setting film r ≡ Done → Ends s film
    setting h (Err fault) is none head e = absurd cc
    setting h (Ok f) is none head e =
        let d = end_done (encoding f (coded_pictures f film)).refused film.end e in
        record { head = h; settings = f; head_is = head; ended = d.1; early = none; completed_is = is; none_refused = d.0 }

    by : (early : Option SettingFault) → early_of s ≡ early → (o : Option FilmHead) → film.head ≡ o → behind_early early (with_head s film o) ≡ Done → Ends s film
    by (Some fault) is o head e = absurd cc
    by None is None head e = absurd (headed head (end_done None film.end e).1)
    by None is (Some h) head e = setting h (completed s h) refl is head e

-- a film without a head has a fault
headed : (bytes : List ℕ) → (film_of bytes).head ≡ None → (film_of bytes).end ≡ Ended → ⊥
unfolding film_of
headed bytes = go (read_head bytes)
  where
    go : (r : Result (FilmHead × List ℕ) HeadFault) → (film_from r).head ≡ None → (film_from r).end ≡ Ended → ⊥
    go (Err fault) none ended = cc
    go (Ok read) none ended = cc

coded_whole : (f : SessionSettings) (end : FilmEnd) (pictures : List Planes) → end ≡ Ended → coded_by f end pictures ≡ pictures
coded_whole f Ended pictures e = refl
coded_whole f (Faulty fault) pictures e = absurd cc

whole_by : (f : SessionSettings) (refused : Option Refusal) (end : FilmEnd) (ds : List (Coded Read)) → refused ≡ None → end ≡ Ended → written_by f refused end ds ≡ written_whole f ds
whole_by f None Ended ds none ended = refl
whole_by f None (Faulty fault) ds none ended = absurd cc
whole_by f (Some refusal) end ds none ended = absurd cc

unless_none : (o : Option SettingFault) (r : Result SessionSettings SettingFault) → o ≡ None → unless_early o r ≡ r
unless_none None r e = refl
unless_none (Some fault) r e = absurd cc

abbrev Keeps : SessionSettings → List Planes → Outputs → Type 0
Keeps f pictures o = IsEncoding f pictures o.stream o.recon o.report

pub encodes : (s : Settings) (bytes : List ℕ) → AreInRange s → All IsByte bytes → ending_of s (film_of bytes) ≡ Done → Encodes s (film_of bytes)
encodes s bytes r small e =
    let film : Film = film_of bytes in
    let d = ends s film (headed bytes) e in
    let f : SessionSettings = d.settings in
    let has = film_has bytes d.head small d.head_is in
    let few = film_few bytes in
    let is = completes s d.head f d.completed_is in
    let all : coded_pictures f film ≡ film.pictures = coded_whole f film.end film.pictures d.ended in
    let none : (encoding f film.pictures).refused ≡ None = subst (λ ps. (encoding f ps).refused ≡ None) all d.none_refused in
    let whole : outputs_of f film ≡ written_whole f (encoding f film.pictures).done =
    ap (λ ps. written_by f (encoding f ps).refused film.end (encoding f ps).done) all ∙ whole_by f (encoding f film.pictures).refused film.end (encoding f film.pictures).done none d.ended in
    record {
      head = d.head;
      settings = f;
      head_is = d.head_is;
      ended = d.ended;
      setting_is = unless_none (early_of s) (completed s d.head) d.early ∙ d.completed_is;
      is_encoding = subst (Keeps f film.pictures) (sym whole)
          (is_encoding f film.pictures (film_is s d.head f (length film.pictures) (picture_at film.pictures) r has.allowed d.early is (omega (arith, few)) (pictures_fit d.head film.pictures has.pictures)) (rate_is s d.head f has.allowed is) none);
    }

-- ---- a film by its head and its pictures

record Set (s : Settings) (h : FilmHead) (f : SessionSettings) : Type 0 where
  early : early_of s ≡ None
  completed_is : completed s h ≡ Ok f

set_by : (s : Settings) (h : FilmHead) (f : SessionSettings) → setting_of s h ≡ Ok f → Set s h f
set_by s h f e = by (early_of s) refl e
  where
    by : (o : Option SettingFault) → early_of s ≡ o → unless_early o (completed s h) ≡ Ok f → Set s h f
    by None is e = record { early = is; completed_is = e }
    by (Some fault) is e = absurd cc

film_by : (s : Settings) (h : FilmHead) (f : SessionSettings) (pictures : List Planes) → AreInRange s → AllowedHead h → setting_of s h ≡ Ok f → All (IsPicture h) pictures → length pictures ≤ 1000000 → IsFilmOf f pictures × IsRate (rate_of f)
film_by s h f pictures r head e all few =
    let set = set_by s h f e in
    let is = completes s h f set.completed_is in
    (film_is s h f (length pictures) (picture_at pictures) r head set.early is (omega (arith, few)) (pictures_fit h pictures all), rate_is s h f head is)

pub keeps_promises : (s : Settings) (h : FilmHead) (f : SessionSettings) (pictures : List Planes) → AreInRange s → AllowedHead h → setting_of s h ≡ Ok f → All (IsPicture h) pictures → length pictures ≤ 1000000 → (encoding f pictures).refused ≡ None
    → IsEncoding f pictures (written_whole f (encoding f pictures).done).stream (written_whole f (encoding f pictures).done).recon (written_whole f (encoding f pictures).done).report
keeps_promises s h f pictures r head e all few none = let film = film_by s h f pictures r head e all few in is_encoding f pictures film.0 film.1 none

pub keeps_buffer : (s : Settings) (h : FilmHead) (f : SessionSettings) (pictures : List Planes) → AreInRange s → AllowedHead h → setting_of s h ≡ Ok f → All (IsPicture h) pictures → length pictures ≤ 1000000
    → BufferHolds (rate_of f) (sizes_of (spendings (encoding f pictures).done))
keeps_buffer s h f pictures r head e all few = let film = film_by s h f pictures r head e all few in buffer_holds f pictures film.0 film.1

-- ---- workers

pub same_ending : (s : Settings) (workers : ℕ) (film : Film) → ending_of (with_workers workers s) film ≡ ending_of s film
unfolding early_of completed ending_of
same_ending s workers film = refl
