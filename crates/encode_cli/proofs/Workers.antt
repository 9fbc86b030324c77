-- How many threads plan a picture settles nothing of what is written.
use Rattle.std.proofs.Common.{ℕ, ◌≡◌, ◌++◌, List, [], Option, Some, None, Result, Ok, Err, refl, sym, ap, subst, ◌∙◌}
use Rattle.std.specs.Prelude.{IfSome, drop}
use Rattle.enc_edge.specs.Seen.{Seen}
use Rattle.spec_film.specs.declared.FilmHead.{FilmHead}
use Rattle.spec_film.specs.Films.{Planes, Ended, film_of}
use Rattle.spec_words.specs.declared.command.Made.{Made}
use Rattle.spec_words.specs.declared.command.Outputs.{Outputs as OutputNames}
use Rattle.spec_words.specs.declared.command.Settings.{Settings}
use Rattle.spec_words.specs.declared.command.SettingFault.{SettingFault}
use Rattle.spec_session.specs.Settings.{SessionSettings, setting_of, with_workers}
use Rattle.spec_session.specs.Encodings.{encoding}
use Rattle.spec_session.specs.Outputs.{Outputs, written_whole}
use Rattle.spec_session.proofs.Settling.{same_setting}
use Rattle.y4m_film.specs.Taken.{IsFilm}
use Rattle.encode_film.specs.Outputs.{Names}
use Rattle.encode_film.specs.Runs.{Encoded}
use Rattle.encode_cli.specs.Alike.{Wrote, WroteAlike}
use Rattle.encode_cli.specs.Trials.{TrialEncoded, film_made}

-- a film was encoded by these settings
record Given (s : Settings) (left : List ℕ) (head : FilmHead) (settings : SessionSettings) (pictures : List Planes) : Type 0 where
  setting_is : setting_of s head ≡ Ok settings
  film : IsFilm left head pictures Ended

some_same : (x y : FilmHead) → Some x ≡ Some y → x ≡ y
some_same x y e = cc

ok_same : (x y : SessionSettings) → (let r : Result SessionSettings SettingFault = Ok x in r ≡ Ok y) → x ≡ y
ok_same x y e = cc

abbrev whole : SessionSettings → List Planes → Outputs
whole settings pictures = written_whole settings (encoding settings pictures).done

settled_same : (s : Settings) (workers : ℕ) (head head2 : FilmHead) (f g : SessionSettings) → head ≡ head2 → setting_of s head ≡ Ok f → setting_of (with_workers workers s) head2 ≡ Ok g → f ≡ g
settled_same s workers head head2 f g same is is2 =
    ok_same f g (sym is ∙ (ap (λ (h : FilmHead). setting_of s h) same ∙ (sym (same_setting s workers head2) ∙ is2)))

outputs_same : (s : Settings) (workers : ℕ) (left : List ℕ) (head head2 : FilmHead) (f g : SessionSettings) (ps qs : List Planes)
    → Given s left head f ps → Given (with_workers workers s) left head2 g qs → whole f ps ≡ whole g qs
outputs_same s workers left head head2 f g ps qs a b =
    let heads = some_same head head2 (sym a.film.head_is ∙ b.film.head_is) in
    let settings = settled_same s workers head head2 f g heads a.setting_is b.setting_is in
    ap (λ (x : SessionSettings). whole x ps) settings ∙ ap (λ (x : List Planes). whole g x) (sym a.film.pictures_are ∙ b.film.pictures_are)

told_film : (o : Option (List ℕ)) (left : List ℕ) (count : ℕ) (head : FilmHead) (pictures : List Planes) → o ≡ Some left
    → IfSome o (λ bytes. (drop count bytes ≡ []) × IsFilm bytes head pictures Ended) → IsFilm left head pictures Ended
told_film o left count head pictures is told = (subst (λ (x : Option (List ℕ)). IfSome x (λ bytes. (drop count bytes ≡ []) × IsFilm bytes head pictures Ended)) is told).1

encoded_wrote : (names : Names) (s : Settings) (old new : Seen) (e : Encoded names s old new) → Wrote (whole e.settings e.pictures) old new
encoded_wrote names s old new e = record {
  stream = ap (λ (t : Seen). t.stream.bytes) e.closed;
  recon = ap (λ (t : Seen). t.recon.bytes) e.closed;
  report = ap (λ (t : Seen). t.report.bytes) e.closed;
}

tried_wrote : (made : Made) (outputs : OutputNames) (s : Settings) (old new : Seen) (e : TrialEncoded made outputs s old new) → Wrote (whole e.settings e.pictures) old new
tried_wrote made outputs s old new e = record {
  stream = ap (λ (t : Seen). t.stream.bytes) e.closed;
  recon = ap (λ (t : Seen). t.recon.bytes) e.closed;
  report = ap (λ (t : Seen). t.report.bytes) e.closed;
}

pub encoded_alike : (names others : Names) (s : Settings) (workers : ℕ) (left : List ℕ) (old new old2 new2 : Seen) → old.input.bytes ≡ Some left → old2.input.bytes ≡ Some left
    → Encoded names s old new → Encoded others (with_workers workers s) old2 new2 → WroteAlike old new old2 new2
encoded_alike names others s workers left old new old2 new2 is is2 a b =
    let given : Given s left a.head a.settings a.pictures = record { setting_is = a.setting_is; film = told_film old.input.bytes left a.count a.head a.pictures is a.whole } in
    let given2 : Given (with_workers workers s) left b.head b.settings b.pictures = record { setting_is = b.setting_is; film = told_film old2.input.bytes left b.count b.head b.pictures is2 b.whole } in
    let same = outputs_same s workers left a.head b.head a.settings b.settings a.pictures b.pictures given given2 in
    record {
      outputs = whole b.settings b.pictures;
      first = subst (λ (o : Outputs). Wrote o old new) same (encoded_wrote names s old new a);
      second = encoded_wrote others (with_workers workers s) old2 new2 b;
    }

pub tried_alike : (made : Made) (outputs others : OutputNames) (s : Settings) (workers : ℕ) (old new old2 new2 : Seen)
    → TrialEncoded made outputs s old new → TrialEncoded made others (with_workers workers s) old2 new2 → WroteAlike old new old2 new2
tried_alike made outputs others s workers old new old2 new2 a b =
    let given : Given s (film_made made) a.head a.settings a.pictures = record { setting_is = a.setting_is; film = a.whole } in
    let given2 : Given (with_workers workers s) (film_made made) b.head b.settings b.pictures = record { setting_is = b.setting_is; film = b.whole } in
    let same = outputs_same s workers (film_made made) a.head b.head a.settings b.settings a.pictures b.pictures given given2 in
    record {
      outputs = whole b.settings b.pictures;
      first = subst (λ (o : Outputs). Wrote o old new) same (tried_wrote made outputs s old new a);
      second = tried_wrote made others (with_workers workers s) old2 new2 b;
    }
