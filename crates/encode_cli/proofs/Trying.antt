-- An encoding whose input is a film in memory leaves the outside's own input as it was.
use Rattle.std.proofs.Common.{ℕ, ◌≡◌, ◌≤◌, ◌+◌, ◌-◌, ◌^◌, min, List, [], ◌∷◌, Option, Some, None, refl, sym, ap, subst, ◌∙◌, arith}
use Rattle.std.specs.Borrow.{GName}
use Rattle.enc_edge.specs.Seen.{Seen, Spot, Behind, spot_at}
use Rattle.enc_edge.specs.Filmed.{filmed, behind}
use Rattle.enc_edge.specs.Calls.{OpeningFailed, LaterFailed, Rose}
use Rattle.enc_edge.specs.declared.studio.Out.{Out}
use Rattle.enc_edge.specs.declared.studio.Out.TheVariants.{Stream, Recon, Report}
use Rattle.enc_edge.specs.declared.studio.Place.{Place}
use Rattle.enc_edge.specs.declared.studio.Place.TheVariants as places
use Rattle.spec_film.specs.declared.InputFault.{InputFault}
use Rattle.spec_words.specs.declared.command.Made.{Made}
use Rattle.spec_words.specs.declared.command.Outputs.{Outputs}
use Rattle.spec_words.specs.declared.command.Settings.{Settings}
use Rattle.spec_session.specs.Encodings.{encoding}
use Rattle.spec_session.specs.Outputs.{written_whole}
use Rattle.encode_film.specs.Calls.{shut_before}
use Rattle.encode_film.specs.Outputs.{Names, encoded_to, named, reading}
use Rattle.encode_film.specs.Runs.{NoFault, Encoded, OpenFailed, ReadFault, in_head, in_group, NoFilm, no_head, cut_short, WriteFault, cut, closing, opened_before}
use Rattle.encode_cli.specs.declared.outcome.Outcome.{Outcome}
use Rattle.encode_cli.specs.declared.outcome.Outcome.TheVariants.{Done, Words, Open, Read, Write, Input, Setting, Buffer, OutOfMemory}
use Rattle.encode_cli.specs.Doing.{EncodeDecided, TrialDecided}
use Rattle.encode_cli.specs.Encoding.{FilmLeaves}
use Rattle.encode_cli.specs.Trials.{InFilm, TrialEncoded, film_made}

-- ---- what stands aside

opening_aside : (place : Place) (old new : Seen) → OpeningFailed place old new → new.aside ≡ old.aside
opening_aside places.Input old new failed = ap (λ (s : Seen). s.aside) failed.else_same
opening_aside (places.Output Stream) old new failed = ap (λ (s : Seen). s.aside) failed.else_same
opening_aside (places.Output Recon) old new failed = ap (λ (s : Seen). s.aside) failed.else_same
opening_aside (places.Output Report) old new failed = ap (λ (s : Seen). s.aside) failed.else_same

later_aside : (place : Place) (old new : Seen) → LaterFailed place old new → new.aside ≡ old.aside
later_aside places.Input old new failed = ap (λ (s : Seen). s.aside) failed.else_same
later_aside (places.Output Stream) old new failed = ap (λ (s : Seen). s.aside) failed.else_same
later_aside (places.Output Recon) old new failed = ap (λ (s : Seen). s.aside) failed.else_same
later_aside (places.Output Report) old new failed = ap (λ (s : Seen). s.aside) failed.else_same

opened_aside : (names : Names) (out : Out) (s : Seen) → (opened_before names out s).aside ≡ s.aside
opened_aside names Stream s = refl
opened_aside names Recon s = refl
opened_aside names Report s = refl

shut_aside : (out : Out) (s : Seen) → (shut_before out s).aside ≡ s.aside
shut_aside Stream s = refl
shut_aside Recon s = refl
shut_aside Report s = refl

open_aside : (names : Names) (s : Settings) (old new : Seen) (place : Place) → OpenFailed names s old new place → new.aside ≡ old.aside
open_aside names s old new places.Input failed = opening_aside places.Input old new failed
open_aside names s old new (places.Output out) (mid, fit, failed) =
    opening_aside (places.Output out) (opened_before names out mid) new failed ∙ (opened_aside names out mid ∙ ap (λ (t : Seen). t.aside) fit.now)

read_aside : (names : Names) (s : Settings) (old new : Seen) → ReadFault names s old new → new.aside ≡ old.aside
read_aside names s old new (in_head n failed) = later_aside places.Input (reading names n old) new failed
read_aside names s old new (in_group n groups mid so_far failed) = later_aside places.Input mid new failed ∙ ap (λ (t : Seen). t.aside) so_far.now

film_aside : (names : Names) (s : Settings) (fault : InputFault) (old new : Seen) → NoFilm names s fault old new → new.aside ≡ old.aside
film_aside names s fault old new (no_head n now told) = ap (λ (t : Seen). t.aside) now
film_aside names s fault old new (cut_short film) = ap (λ (t : Seen). t.aside) film.now

write_aside : (names : Names) (s : Settings) (out : Out) (old new : Seen) → WriteFault names s out old new → new.aside ≡ old.aside
write_aside names s out old new (cut outputs) = later_aside (places.Output out) (encoded_to names outputs.written outputs.count old) new outputs.failed
write_aside names s out old new (closing mid all failed) =
    later_aside (places.Output out) (shut_before out mid) new failed ∙ (shut_aside out mid ∙ ap (λ (t : Seen). t.aside) all.now)

aside_same : (names : Names) (s : Settings) (old new : Seen) (o : Outcome) → FilmLeaves names s old new o → new.aside ≡ old.aside
aside_same names s old new Done l = ap (λ (t : Seen). t.aside) l.closed
aside_same names s old new (Words fault) l = absurd l
aside_same names s old new (Open place) l = open_aside names s old new place l
aside_same names s old new Read l = read_aside names s old new l
aside_same names s old new (Write out) l = write_aside names s out old new l
aside_same names s old new (Input fault) l = film_aside names s fault old new l
aside_same names s old new (Setting fault) l = ap (λ (t : Seen). t.aside) l.now
aside_same names s old new (Buffer picture need have) l = ap (λ (t : Seen). t.aside) l.now
aside_same names s old new OutOfMemory l = ap (λ (t : Seen). t.aside) l.now

-- ---- the studio behind

abbrev input_of : Spot → List Behind → Spot
input_of else_this [] = else_this
input_of else_this (b ∷ more) = b.input

abbrev lender_of : GName → List Behind → GName
lender_of else_this [] = else_this
lender_of else_this (b ∷ more) = b.lender

abbrev more_of : List Behind → List Behind
more_of [] = []
more_of (b ∷ more) = more

-- the reference is the same
pub lender_same : (names : Names) (s : Settings) (film left : List ℕ) (l k : GName) (old new : Seen) (o : Outcome)
    → FilmLeaves names s (filmed film l old) (filmed left k new) o → k ≡ l
lender_same names s film left l k old new o h = ap (lender_of k) (aside_same names s (filmed film l old) (filmed left k new) o h)

pub in_film : (names : Names) (s : Settings) (film left : List ℕ) (l k : GName) (old new : Seen) (o : Outcome)
    → FilmLeaves names s (filmed film l old) (filmed left k new) o → InFilm (λ before after. FilmLeaves names s before after o) film old new
in_film names s film left l k old new o h =
    let same = aside_same names s (filmed film l old) (filmed left k new) o h in
    record {
      lender = l;
      left = left;
      happened = subst (λ (x : GName). FilmLeaves names s (filmed film l old) (filmed left x new) o) (lender_same names s film left l k old new o h) h;
      input_same = ap (input_of new.input) same;
      aside_same = ap more_of same;
    }

-- the same where the film's studio shows this before it is read
pub in_film_of : (names : Names) (s : Settings) (film left : List ℕ) (l k : GName) (old new before : Seen) (o : Outcome) → before ≡ filmed film l old
    → FilmLeaves names s before (filmed left k new) o → InFilm (λ x y. FilmLeaves names s x y o) film old new
in_film_of names s film left l k old new before o is h = in_film names s film left l k old new o (subst (λ (x : Seen). FilmLeaves names s x (filmed left k new) o) is h)

-- where no fault rose outside, none rose with the film, whose own input has none
none_rose : min (0 + 1) (2 ^ 64 - 1) ≤ 0 → ⊥
none_rose e = omega (arith, e)

pub no_fault : (film left : List ℕ) (l k : GName) (old new : Seen) → NoFault old new → NoFault (filmed film l old) (filmed left k new)
no_fault film left l k old new none = record { opening = opening; later = later }
  where
    opening : (place : Place) → Rose (spot_at place (filmed film l old)).opening (spot_at place (filmed left k new)).opening → ⊥
    opening places.Input rose = none_rose rose
    opening (places.Output Stream) rose = none.opening (places.Output Stream) rose
    opening (places.Output Recon) rose = none.opening (places.Output Recon) rose
    opening (places.Output Report) rose = none.opening (places.Output Report) rose

    later : (place : Place) → Rose (spot_at place (filmed film l old)).later (spot_at place (filmed left k new)).later → ⊥
    later places.Input rose = none_rose rose
    later (places.Output Stream) rose = none.later (places.Output Stream) rose
    later (places.Output Recon) rose = none.later (places.Output Recon) rose
    later (places.Output Report) rose = none.later (places.Output Report) rose

-- the film and the settings decided the answer
pub decided_within : (s : Settings) (film left : List ℕ) (l k : GName) (old new before : Seen) (o : Outcome) → before ≡ filmed film l old
    → EncodeDecided s before (filmed left k new) o → TrialDecided film s old new o
decided_within s film left l k old new before o is d = λ none.
    (subst (λ (x : Seen). EncodeDecided s x (filmed left k new) o) is d) film refl (no_fault film left l k old new none)

-- ---- a trial that came to its end

pub tried_whole : (made : Made) (outputs : Outputs) (s : Settings) (old new : Seen) → InFilm (λ before after. Encoded (named [] outputs) s before after) (film_made made) old new → TrialEncoded made outputs s old new
tried_whole made outputs s old new ran =
    let e = ran.happened in
    record { head = e.head; settings = e.settings; pictures = e.pictures; setting_is = e.setting_is; keeps = e.keeps; closed = ap behind e.closed; whole = e.whole.1 }
