-- The film and the settings alone decide the end where nothing outside fails.
use Rattle.std.proofs.Common.{ℕ, ◌≡◌, List, inl, inr, Option, Some, None, Result, Ok, Err, refl, ap, ap₂, sym, ◌∙◌, subst}
use Rattle.std.specs.Prelude.{IfSome}
use Rattle.enc_edge.specs.declared.studio.Out.{Out}
use Rattle.enc_edge.specs.declared.studio.Out.TheVariants.{Stream, Recon, Report}
use Rattle.enc_edge.specs.declared.studio.Place.{Place}
use Rattle.enc_edge.specs.declared.studio.Place.TheVariants as places
use Rattle.enc_edge.specs.Seen.{Seen, spot_at}
use Rattle.enc_edge.specs.Calls.{Rose}
use Rattle.spec_film.specs.declared.FilmHead.{FilmHead}
use Rattle.spec_film.specs.declared.InputFault.{InputFault}
use Rattle.spec_film.specs.Films.{Film, Planes, FilmEnd, Ended, Faulty, film_of}
use Rattle.spec_words.specs.declared.command.Settings.{Settings}
use Rattle.spec_words.specs.declared.command.SettingFault.{SettingFault}
use Rattle.spec_words.specs.Choices.{early_of}
use Rattle.spec_decoder.specs.Macroblocks.{Slice as Slice}
use Rattle.spec_coding.specs.Encoding.{Refusal, Went}
use Rattle.spec_session.specs.Settings.{SessionSettings, completed, setting_of, unless_early}
use Rattle.spec_session.specs.Encodings.{encoding}
use Rattle.spec_session.specs.Groups.{coded_by, coded_pictures}
use Rattle.spec_session.specs.Answers as endings
use Rattle.spec_session.specs.Answers.{Ending, ending_of, ending_by, with_setting, with_head, behind_early}
use Rattle.y4m_film.specs.Taken.{HeadIs}
use Rattle.y4m_film.proofs.Behind.{film_is}
use Rattle.encode_film.specs.declared.ends.EncodeEnd.{EncodeEnd}
use Rattle.encode_film.specs.declared.ends.EncodeEnd.TheVariants.{Open, Read, Write, Input, Setting, Buffer, OutOfMemory}
use Rattle.encode_film.specs.Answering.{Answers, end_of}
use Rattle.encode_film.specs.Leaving.{Leaves}
use Rattle.encode_film.specs.Outputs.{Names}
use Rattle.encode_film.specs.Runs.{NoFault, NoFilm, OpenFailed, ReadFault, Refused, SettingRefused, WriteFault, no_head, cut_short, cut, closing, in_head, in_group}

-- ---- causes

open_rose : (place : Place) (names : Names) (s : Settings) (old new : Seen) → OpenFailed names s old new place → Rose (spot_at place old).opening (spot_at place new).opening
open_rose places.Input names s old new failed = failed.rose
open_rose (places.Output Stream) names s old new (mid, read, failed) = subst (λ (x : Seen). Rose x.stream.opening new.stream.opening) read.now failed.rose
open_rose (places.Output Recon) names s old new (mid, read, failed) = subst (λ (x : Seen). Rose x.recon.opening new.recon.opening) read.now failed.rose
open_rose (places.Output Report) names s old new (mid, read, failed) = subst (λ (x : Seen). Rose x.report.opening new.report.opening) read.now failed.rose

read_rose : (names : Names) (s : Settings) (old new : Seen) → ReadFault names s old new → Rose old.input.later new.input.later
read_rose names s old new (in_head n failed) = failed.rose
read_rose names s old new (in_group n groups mid encoded failed) = subst (λ (x : Seen). Rose x.input.later new.input.later) encoded.now failed.rose

write_rose : (names : Names) (s : Settings) (out : Out) (old new : Seen) → WriteFault names s out old new → Rose (spot_at (places.Output out) old).later (spot_at (places.Output out) new).later
write_rose names s Stream old new (cut u) = u.failed.rose
write_rose names s Recon old new (cut u) = u.failed.rose
write_rose names s Report old new (cut u) = u.failed.rose
write_rose names s Stream old new (closing mid all failed) = subst (λ (x : Seen). Rose x.stream.later new.stream.later) all.now failed.rose
write_rose names s Recon old new (closing mid all failed) = subst (λ (x : Seen). Rose x.recon.later new.recon.later) all.now failed.rose
write_rose names s Report old new (closing mid all failed) = subst (λ (x : Seen). Rose x.report.later new.report.later) all.now failed.rose

-- ---- answers

-- what is told of the input's bytes
of_told : (o : Option (List ℕ)) (left : List ℕ) (P : List ℕ → Type 0) → o ≡ Some left → IfSome o P → P left
of_told o left P is told = subst (λ x. IfSome x P) is told

completed_so : (s : Settings) (h : FilmHead) (r : Result SessionSettings SettingFault) → early_of s ≡ None → setting_of s h ≡ r → completed s h ≡ r
completed_so s h r early is = sym (ap (λ (o : Option SettingFault). unless_early o (completed s h)) early) ∙ is

no_head_end : (s : Settings) (film : Film) (fault : InputFault) → early_of s ≡ None → film.head ≡ None → film.end ≡ Faulty fault → ending_of s film ≡ endings.Input fault
unfolding ending_of
no_head_end s film fault early is end =
    ap (λ (o : Option SettingFault). behind_early o (with_head s film film.head)) early ∙ ap (λ (o : Option FilmHead). with_head s film o) is ∙ ap (λ (e : FilmEnd). ending_by None e) end

setting_end : (s : Settings) (film : Film) (head : FilmHead) (r : Result SessionSettings SettingFault) → early_of s ≡ None → film.head ≡ Some head → setting_of s head ≡ r → ending_of s film ≡ with_setting film r
unfolding ending_of
setting_end s film head r early is set =
    ap (λ (o : Option SettingFault). behind_early o (with_head s film film.head)) early ∙ ap (λ (o : Option FilmHead). with_head s film o) is
    ∙ ap (λ (x : Result SessionSettings SettingFault). with_setting film x) (completed_so s head r early set)

fits_end : (s : Settings) (film : Film) (head : FilmHead) (f : SessionSettings) (w : Went Slice) (o : Option Refusal) (end : FilmEnd) → early_of s ≡ None → film.head ≡ Some head → setting_of s head ≡ Ok f → encoding f (coded_pictures f film) ≡ w → w.refused ≡ o → film.end ≡ end
    → ending_of s film ≡ ending_by o end
fits_end s film head f w o end early is set went refused ended =
    setting_end s film head (Ok f) early is set ∙ ap₂ (λ (x : Option Refusal) (e : FilmEnd). ending_by x e) (ap (λ (x : Went Slice). x.refused) went ∙ refused) ended

no_film_end : (names : Names) (s : Settings) (fault : InputFault) (old new : Seen) (left : List ℕ) → early_of s ≡ None → old.input.bytes ≡ Some left → NoFilm names s fault old new → ending_of s (film_of left) ≡ endings.Input fault
no_film_end names s fault old new left early is (no_head n change told) =
    let t = of_told old.input.bytes left (λ bytes. ((film_of bytes).head ≡ None) × ((film_of bytes).end ≡ Faulty fault)) is told in
    no_head_end s (film_of left) fault early t.0 t.1
no_film_end names s fault old new left early is (cut_short u) =
    let t = of_told old.input.bytes left (λ bytes. ((film_of bytes).head ≡ Some u.head) × ((film_of bytes).end ≡ Faulty fault) × (coded_pictures u.settings (film_of bytes) ≡ u.pictures)) is u.told in
    fits_end s (film_of left) u.head u.settings (encoding u.settings u.pictures) None (Faulty fault) early t.0 u.setting_is (ap (λ (ps : List Planes). encoding u.settings ps) t.2) u.none_refused t.1

refused_end : (names : Names) (s : Settings) (r : Refusal) (old new : Seen) (left : List ℕ) → early_of s ≡ None → old.input.bytes ≡ Some left → Refused names s r old new → ending_of s (film_of left) ≡ endings.Buffer r
refused_end names s r old new left early is u =
    let t = of_told old.input.bytes left (λ bytes. ((film_of bytes).head ≡ Some u.head) × (encoding u.settings (coded_pictures u.settings (film_of bytes)) ≡ encoding u.settings u.pictures)) is u.told in
    fits_end s (film_of left) u.head u.settings (encoding u.settings u.pictures) (Some r) (film_of left).end early t.0 u.setting_is t.1 u.refused refl

refused_setting : (names : Names) (s : Settings) (fault : SettingFault) (old new : Seen) (left : List ℕ) → early_of s ≡ None → old.input.bytes ≡ Some left → SettingRefused names s fault old new → ending_of s (film_of left) ≡ endings.Setting fault
refused_setting names s fault old new left early is u =
    setting_end s (film_of left) u.head (Err fault) early (ap (λ (film : Film). film.head) (film_is u.head u.count left (of_told old.input.bytes left (HeadIs u.head u.count) is u.told))) u.refused

so_ends : (s : Settings) (film : Film) (e : Ending) (r : Result (Unit {0}) EncodeEnd) → ending_of s film ≡ e → r ≡ end_of e → Answers s film r
so_ends s film e r is same = inl (same ∙ ap end_of (sym is))

pub answers : (names : Names) (s : Settings) (old new : Seen) (r : Result (Unit {0}) EncodeEnd) → early_of s ≡ None → Leaves names s old new r → (left : List ℕ) → old.input.bytes ≡ Some left → NoFault old new → Answers s (film_of left) r
answers names s old new (Ok done) early l left is none =
    let t = of_told old.input.bytes left _ is l.whole in
    let film = t.1 in
    so_ends s (film_of left) endings.Done (Ok done)
    (fits_end s (film_of left) l.head l.settings (encoding l.settings l.pictures) None Ended early film.head_is l.setting_is
    (ap₂ (λ (e : FilmEnd) (ps : List Planes). encoding l.settings (coded_by l.settings e ps)) film.end_is film.pictures_are) l.keeps.none_refused film.end_is) refl
answers names s old new (Err (Open place)) early l left is none = absurd (none.opening place (open_rose place names s old new l))
answers names s old new (Err Read) early l left is none = absurd (none.later places.Input (read_rose names s old new l))
answers names s old new (Err (Write out)) early l left is none = absurd (none.later (places.Output out) (write_rose names s out old new l))
answers names s old new (Err (Input fault)) early l left is none = so_ends s (film_of left) (endings.Input fault) (Err (Input fault)) (no_film_end names s fault old new left early is l) refl
answers names s old new (Err (Setting fault)) early l left is none = so_ends s (film_of left) (endings.Setting fault) (Err (Setting fault)) (refused_setting names s fault old new left early is l) refl
answers names s old new (Err (Buffer picture need have)) early l left is none =
    so_ends s (film_of left) (endings.Buffer (record { picture = picture; need = need; have = have })) (Err (Buffer picture need have)) (refused_end names s (record { picture = picture; need = need; have = have }) old new left early is l) refl
answers names s old new (Err OutOfMemory) early l left is none = inr refl
