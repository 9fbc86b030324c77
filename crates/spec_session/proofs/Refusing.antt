-- When pictures are refused, and what a refusal says.
use Rattle.std.proofs.Common.{◌≡◌, ◌≤◌, ◌<◌, ◌+◌, ℕ, List, length, Option, Some, None, Ok, refl, sym, ap, subst, ◌∙◌, arith}
use Rattle.enc_tables.specs.declared.records.PlanStep.{PlanStep}
use Rattle.spec_film.specs.declared.FilmHead.{FilmHead}
use Rattle.spec_film.specs.Films.{AllowedHead, Planes, Film, FilmEnd, Ended}
use Rattle.spec_decoder.specs.Frames.{frames}
use Rattle.spec_words.specs.declared.command.Settings.{Settings}
use Rattle.spec_words.specs.declared.command.SettingFault.{SettingFault}
use Rattle.spec_words.specs.Choices.{early_of}
use Rattle.spec_buffer.specs.Buffer.{IsRate}
use Rattle.spec_buffer.proofs.Holds.{at_start}
use Rattle.spec_coding.specs.Encoding.{State, Refusal}
use Rattle.spec_coding.specs.Trials.{choice_of}
use Rattle.spec_coding.proofs.Going.{going}
use Rattle.spec_coding.proofs.Choosing.{refused_means, never_refused}
use Rattle.spec_film_coder.specs.Pictures.{film_coder, film_of, film_encoded}
use Rattle.spec_session.specs.Settings.{SessionSettings, unless_early, completed, setting_of}
use Rattle.spec_session.specs.Encodings.{reorders, sequence_of, coder_of, rate_of, film_steps, start, encoding_from, encoding, AreSmallUnits}
use Rattle.spec_session.specs.Groups.{first_place, coded_pictures, coded_by}
use Rattle.spec_session.specs.Answers.{Done, ending_by, with_setting, with_head, behind_early, ending_of}
use Rattle.spec_session.proofs.Settling.{completes, rate_is}
use Rattle.spec_session.proofs.Placing.{Stands}
use Rattle.spec_session.proofs.Grouping.{film_from_start}
use Rattle.spec_session.proofs.Growing.{StepsStand, from_stand}

-- ---- a refusal

pub record Tells (low high : ℕ) (r : Refusal) : Type 0 where
  pub fewer : r.have < r.need
  pub from : low ≤ r.picture
  pub to : r.picture < high

told : (low high : ℕ) (st : PlanStep) (need have : ℕ) (r : Refusal) → Stands low high st → have < need → Some (let v : Refusal = record { picture = st.display; need = need; have = have } in v) ≡ Some r → Tells low high r
told low high st need have r h less e = subst (λ (v : Refusal). Tells low high v) (same e) (record { fewer = less; from = h.from; to = h.to })
  where
    same : Some (let v : Refusal = record { picture = st.display; need = need; have = have } in v) ≡ Some r → (let v : Refusal = record { picture = st.display; need = need; have = have } in v) ≡ r
    same e = cc

refusal_tells : (f : SessionSettings) (s : State) (xs : List (PlanStep × Planes)) (low high : ℕ) → StepsStand low high xs → (r : Refusal) → (encoding_from f s xs).refused ≡ Some r → Tells low high r
unfolding encoding_from film_encoded
refusal_tells f s xs low high all =
    let film = film_of (coder_of f) (rate_of f) (reorders f) in
    let coder = film_coder (coder_of f) in
    going frames (sequence_of f) (choice_of film coder) (λ s xs w. StepsStand low high xs → (r : Refusal) → w.refused ≡ Some r → Tells low high r)
    (λ s h r e. absurd cc) (λ s x xs need have e h r is. told low high x.0 need have r h.0 (refused_means film coder s x.0 x.1 need have e).2 is)
    (λ s x xs p w e ih h r is. ih h.1 r is) xs s all

pub refusals_tell : (f : SessionSettings) (pictures : List Planes) (r : Refusal) → (encoding f pictures).refused ≡ Some r → Tells 0 (length pictures) r
unfolding encoding
refusals_tell f pictures r e =
    let all : 0 + length pictures ≡ length pictures = omega arith in
    subst (λ n. Tells 0 n r) all
    (refusal_tells f (start f) (film_steps f pictures) 0 (0 + length pictures)
    (subst (λ xs. StepsStand 0 (0 + length pictures) xs) (sym (film_from_start f pictures)) (from_stand f first_place pictures)) r e)

-- ---- no refusal

pub small_units_fit : (f : SessionSettings) (pictures : List Planes) → IsRate (rate_of f) → AreSmallUnits f pictures → (encoding f pictures).refused ≡ None
unfolding encoding encoding_from film_encoded
small_units_fit f pictures rate small =
    never_refused frames (sequence_of f) (film_of (coder_of f) (rate_of f) (reorders f)) (film_coder (coder_of f)) (film_steps f pictures) (start f) rate (at_start (rate_of f) f.qp rate) small.units small.first

-- ---- a film of which nothing is refused is done with

done_by : (f : SessionSettings) (film : Film) → film.end ≡ Ended → (encoding f film.pictures).refused ≡ None → ending_by (encoding f (coded_pictures f film)).refused film.end ≡ Done
done_by f film ended none =
    ap (λ (end : FilmEnd). ending_by (encoding f (coded_by f end film.pictures)).refused end) ended ∙ ap (λ r. ending_by r Ended) none

early_none : (s : Settings) (h : FilmHead) (f : SessionSettings) → setting_of s h ≡ Ok f → (early_of s ≡ None) × (completed s h ≡ Ok f)
early_none s h f e = by (early_of s) refl e
  where
    by : (o : Option SettingFault) → early_of s ≡ o → unless_early o (completed s h) ≡ Ok f → (early_of s ≡ None) × (completed s h ≡ Ok f)
    by None is e = (is, e)
    by (Some fault) is e = absurd cc

pub films_end : (s : Settings) (film : Film) (h : FilmHead) (f : SessionSettings) → film.head ≡ Some h → film.end ≡ Ended → setting_of s h ≡ Ok f → (encoding f film.pictures).refused ≡ None → ending_of s film ≡ Done
unfolding ending_of
films_end s film h f head ended set none =
    let both = early_none s h f set in
    ap (λ o. behind_early o (with_head s film film.head)) both.0
    ∙ ap (λ o. with_head s film o) head
    ∙ ap (λ r. with_setting film r) both.1
    ∙ done_by f film ended none

pub never_small : (s : Settings) (h : FilmHead) (f : SessionSettings) (pictures : List Planes) → AllowedHead h → setting_of s h ≡ Ok f → AreSmallUnits f pictures → (encoding f pictures).refused ≡ None
never_small s h f pictures head set small = small_units_fit f pictures (rate_is s h f head (completes s h f (early_none s h f set).1)) small
