-- The clauses of a run, by what its words mean.
use Rattle.std.proofs.Common.{ℕ, ◌≡◌, ◌⊎◌, inl, inr, List, [], Option, Some, None, Result, Ok, Err, refl, ap, sym, ◌∙◌, subst}
use Rattle.std.specs.Prelude.{IfSome}
use Rattle.clap.specs.Words.{IsAmong, Kinds}
use Rattle.clap.specs.declared.error.kind.ErrorKind.{ErrorKind}
use Rattle.enc_edge.specs.declared.studio.Out.{Out}
use Rattle.enc_edge.specs.declared.studio.Out.TheVariants.{Stream, Recon, Report}
use Rattle.enc_edge.specs.declared.studio.Place.{Place}
use Rattle.enc_edge.specs.declared.studio.Place.TheVariants as places
use Rattle.enc_edge.specs.Seen.{Seen, spot_at}
use Rattle.enc_edge.specs.Calls.{Rose}
use Rattle.spec_film.specs.declared.InputFault.{InputFault}
use Rattle.spec_film.specs.Films.{FilmEnd, Ended, Faulty, film_of}
use Rattle.spec_words.specs.declared.command.Command.{Command}
use Rattle.spec_words.specs.declared.command.Command.TheVariants.{Store, Encode, Trial}
use Rattle.spec_words.specs.declared.command.Made.{Made}
use Rattle.spec_words.specs.declared.command.Outputs.{Outputs}
use Rattle.spec_words.specs.declared.command.Settings.{Settings}
use Rattle.spec_words.specs.declared.command.SettingFault.{SettingFault}
use Rattle.spec_words.specs.declared.command.WordFault.{WordFault}
use Rattle.spec_words.specs.declared.command.WordFault.TheVariants.{NoCommand, UnknownCommand, Refused}
use Rattle.spec_words.specs.Commands.{Meaning, Means, Faulty as IsFaulty, Refuses}
use Rattle.store_film.specs.Runs.{Stored, OpenFailed, ReadFault, in_head, in_pictures, WriteFault, NoFilm, no_head, cut_short}
use Rattle.encode_film.specs.Outputs.{Names, named}
use Rattle.encode_film.specs.Runs.{NoFault, Encoded}
use Rattle.encode_cli.specs.declared.outcome.Outcome.{Outcome}
use Rattle.encode_cli.specs.declared.outcome.Outcome.TheVariants.{Done, Words, Open, Read, Write, Input, Setting, Buffer, OutOfMemory}
use Rattle.encode_cli.specs.Doing.{Does, HasFault, RefusedByClap}
use Rattle.encode_cli.specs.Encoding.{FilmLeaves, EncodeLeaves, words_unread, refused_early, went, EncodeAnswers}
use Rattle.encode_cli.specs.Storing.{StoreLeaves, StoreAnswers, stored_answer}
use Rattle.encode_cli.specs.Trials.{InFilm, TrialLeaves, film_unmade, refused_untried, tried, TrialEncoded, film_made}
use Rattle.encode_cli.proofs.Trying.{tried_whole}

-- ---- storing: the film alone decides the answer where nothing outside fails

open_rose : (place : Place) (input : List ℕ) (old new : Seen) → OpenFailed input old new place → Rose (spot_at place old).opening (spot_at place new).opening
open_rose places.Input input old new failed = failed.rose
open_rose (places.Output Stream) input old new (mid, read, failed) = subst (λ (s : Seen). Rose s.stream.opening new.stream.opening) read.now failed.rose
open_rose (places.Output Recon) input old new failed = absurd failed
open_rose (places.Output Report) input old new failed = absurd failed

read_rose : (input output : List ℕ) (old new : Seen) → ReadFault input output old new → Rose old.input.later new.input.later
read_rose input output old new (in_head n failed) = failed.rose
read_rose input output old new (in_pictures n head pictures mid so_far failed) = subst (λ (s : Seen). Rose s.input.later new.input.later) so_far.now failed.rose

write_rose : (input output : List ℕ) (old new : Seen) → WriteFault input output old new → Rose old.stream.later new.stream.later
write_rose input output old new fault = fault.failed.rose

told_end : (o : Option (List ℕ)) (left : List ℕ) (end : FilmEnd) (P : List ℕ → Type 0) → ((bytes : List ℕ) → P bytes → (film_of bytes).end ≡ end) → o ≡ Some left → IfSome o P → (film_of left).end ≡ end
told_end o left end P turn is told = turn left (subst (λ x. IfSome x P) is told)

no_film_end : (input output : List ℕ) (fault : InputFault) (old new : Seen) (left : List ℕ) → old.input.bytes ≡ Some left → NoFilm input output fault old new → (film_of left).end ≡ Faulty fault
no_film_end input output fault old new left is (no_head n change told) = told_end old.input.bytes left (Faulty fault) _ (λ bytes p. p.1) is told
no_film_end input output fault old new left is (cut_short n head pictures change told) = told_end old.input.bytes left (Faulty fault) _ (λ bytes p. p.end_is) is told

answered : (end end' : FilmEnd) (r : Outcome) → end ≡ end' → r ≡ stored_answer end' → StoreAnswers end r
answered end end' r e is = inl (is ∙ ap stored_answer (sym e))

store_decided : (input output : List ℕ) (old new : Seen) (left : List ℕ) → old.input.bytes ≡ Some left → NoFault old new → (r : Outcome) → StoreLeaves input output old new r → StoreAnswers (film_of left).end r
store_decided input output old new left is none Done l = answered (film_of left).end Ended Done (told_end old.input.bytes left Ended _ (λ bytes p. p.1.end_is) is l.whole) refl
store_decided input output old new left is none (Words fault) l = absurd l
store_decided input output old new left is none (Open place) l = absurd (none.opening place (open_rose place input old new l))
store_decided input output old new left is none Read l = absurd (none.later places.Input (read_rose input output old new l))
store_decided input output old new left is none (Write out) l = absurd (none.later (places.Output Stream) (write_rose input output old new l.1))
store_decided input output old new left is none (Input fault) l = answered (film_of left).end (Faulty fault) (Input fault) (no_film_end input output fault old new left is l) refl
store_decided input output old new left is none (Setting fault) l = absurd l
store_decided input output old new left is none (Buffer picture need have) l = absurd l
store_decided input output old new left is none OutOfMemory l = inr refl

-- ---- words

-- no answer to a command is that its words are refused
film_words : (names : Names) (s : Settings) (old new : Seen) (o : Outcome) (fault : WordFault) → o ≡ Words fault → FilmLeaves names s old new o → ⊥
film_words names s old new o fault is l = subst (FilmLeaves names s old new) is l

memory_words : (o : Outcome) (fault : WordFault) → o ≡ Words fault → o ≡ OutOfMemory → ⊥
memory_words o fault is e = cc

setting_words : (o : Outcome) (fault : WordFault) (f : SettingFault) → o ≡ Words fault → o ≡ Setting f → ⊥
setting_words o fault f is e = cc

words_same : (f g : WordFault) → Words f ≡ Words g → f ≡ g
words_same f g e = cc

store_words : (input output : List ℕ) (old new : Seen) (o : Outcome) (fault : WordFault) → o ≡ Words fault → StoreLeaves input output old new o → ⊥
store_words input output old new o fault is l = subst (StoreLeaves input output old new) is l

encode_words : (names : Names) (s : Settings) (old new : Seen) (o : Outcome) (fault : WordFault) → o ≡ Words fault → EncodeLeaves names s old new o → ⊥
encode_words names s old new o fault is (words_unread e same) = memory_words o fault is e
encode_words names s old new o fault is (refused_early f early e same) = setting_words o fault f is e
encode_words names s old new o fault is (went early l) = film_words names s old new o fault is l

trial_words : (made : Made) (outputs : Outputs) (s : Settings) (old new : Seen) (o : Outcome) (fault : WordFault) → o ≡ Words fault → TrialLeaves made outputs s old new o → ⊥
trial_words made outputs s old new o fault is (film_unmade e same) = memory_words o fault is e
trial_words made outputs s old new o fault is (refused_untried f early e same) = setting_words o fault f is e
trial_words made outputs s old new o fault is (tried early ran) = film_words (named [] outputs) s _ _ o fault is ran.happened

kind_among : (kinds : Kinds) (kind : ErrorKind) (fault : WordFault) → Refused kind ≡ fault → IsAmong kind kinds → HasFault (Refuses kinds) fault
kind_among kinds kind fault is a = subst (λ (f : WordFault). HasFault (Refuses kinds) f) is a

clap_words : (kinds : Kinds) (o : Outcome) (fault : WordFault) → o ≡ Words fault → RefusedByClap kinds o → HasFault (Refuses kinds) fault
clap_words kinds o fault is (inl (kind, a, e)) = kind_among kinds kind fault (words_same (Refused kind) fault (sym e ∙ is)) a
clap_words kinds o fault is (inr e) = absurd (memory_words o fault is e)

pub words_refused : (m : Meaning) (old new : Seen) (o : Outcome) → Does m old new o → (fault : WordFault) → o ≡ Words fault → HasFault m fault × (new ≡ old)
words_refused (Means (Store input output)) old new o d fault is = absurd (store_words input output old new o fault is d)
words_refused (Means (Encode input outputs s)) old new o d fault is = absurd (encode_words (named input outputs) s old new o fault is d.0)
words_refused (Means (Trial made outputs s)) old new o d fault is = absurd (trial_words made outputs s old new o fault is d.0)
words_refused (IsFaulty f) old new o d fault is = (words_same fault f (sym is ∙ d.0), d.1)
words_refused (Refuses kinds) old new o d fault is = (clap_words kinds o fault is d.0, d.1)

-- what words of one meaning do
pub does : (m k : Meaning) (old new : Seen) (o : Outcome) → Does m old new o → m ≡ k → Does k old new o
does m k old new o d is = subst (λ (x : Meaning). Does x old new o) is d

-- ---- commands that came to their end

memory_done : (o : Outcome) → o ≡ Done → o ≡ OutOfMemory → ⊥
memory_done o is e = cc

setting_done : (o : Outcome) (f : SettingFault) → o ≡ Done → o ≡ Setting f → ⊥
setting_done o f is e = cc

pub done_stored : (input output : List ℕ) (old new : Seen) (o : Outcome) → StoreLeaves input output old new o → o ≡ Done → Stored input output old new
done_stored input output old new o l is = subst (StoreLeaves input output old new) is l

pub done_encoded : (names : Names) (s : Settings) (old new : Seen) (o : Outcome) → EncodeLeaves names s old new o → o ≡ Done → Encoded names s old new
done_encoded names s old new o (words_unread e same) is = absurd (memory_done o is e)
done_encoded names s old new o (refused_early f early e same) is = absurd (setting_done o f is e)
done_encoded names s old new o (went early l) is = subst (FilmLeaves names s old new) is l

pub done_tried : (made : Made) (outputs : Outputs) (s : Settings) (old new : Seen) (o : Outcome) → TrialLeaves made outputs s old new o → o ≡ Done → TrialEncoded made outputs s old new
done_tried made outputs s old new o (film_unmade e same) is = absurd (memory_done o is e)
done_tried made outputs s old new o (refused_untried f early e same) is = absurd (setting_done o f is e)
done_tried made outputs s old new o (tried early ran) is =
    tried_whole made outputs s old new (subst (λ (x : Outcome). InFilm (λ before after. FilmLeaves (named [] outputs) s before after x) (film_made made) old new) is ran)

pub input_kept : (made : Made) (outputs : Outputs) (s : Settings) (old new : Seen) (o : Outcome) → TrialLeaves made outputs s old new o → new.input ≡ old.input
input_kept made outputs s old new o (film_unmade e same) = ap (λ (t : Seen). t.input) same
input_kept made outputs s old new o (refused_untried f early e same) = ap (λ (t : Seen). t.input) same
input_kept made outputs s old new o (tried early ran) = ran.input_same

-- ---- the clauses

pub are_refused : (m : Meaning) (old new : Seen) (o : Outcome) → Does m old new o → (fault : WordFault) → m ≡ IsFaulty fault → (o ≡ Words fault) × (new ≡ old)
are_refused m old new o d fault is = does m (IsFaulty fault) old new o d is

pub are_refused_by_clap : (m : Meaning) (old new : Seen) (o : Outcome) → Does m old new o → (kinds : Kinds) → m ≡ Refuses kinds → RefusedByClap kinds o × (new ≡ old)
are_refused_by_clap m old new o d kinds is = does m (Refuses kinds) old new o d is

pub store_left : (m : Meaning) (old new : Seen) (o : Outcome) → Does m old new o → (input output : List ℕ) → m ≡ Means (Store input output) → StoreLeaves input output old new o
store_left m old new o d input output is = does m (Means (Store input output)) old new o d is

pub encode_left : (m : Meaning) (old new : Seen) (o : Outcome) → Does m old new o → (input : List ℕ) (outputs : Outputs) (s : Settings) → m ≡ Means (Encode input outputs s) → EncodeLeaves (named input outputs) s old new o
encode_left m old new o d input outputs s is = (does m (Means (Encode input outputs s)) old new o d is).0

pub trial_left : (m : Meaning) (old new : Seen) (o : Outcome) → Does m old new o → (made : Made) (outputs : Outputs) (s : Settings) → m ≡ Means (Trial made outputs s) → TrialLeaves made outputs s old new o
trial_left m old new o d made outputs s is = (does m (Means (Trial made outputs s)) old new o d is).0

pub was_stored : (m : Meaning) (old new : Seen) (o : Outcome) → Does m old new o → (input output : List ℕ) → m ≡ Means (Store input output) → o ≡ Done → Stored input output old new
was_stored m old new o d input output is done = done_stored input output old new o (store_left m old new o d input output is) done

pub was_encoded : (m : Meaning) (old new : Seen) (o : Outcome) → Does m old new o → (input : List ℕ) (outputs : Outputs) (s : Settings) → m ≡ Means (Encode input outputs s) → o ≡ Done
    → Encoded (named input outputs) s old new
was_encoded m old new o d input outputs s is done = done_encoded (named input outputs) s old new o (encode_left m old new o d input outputs s is) done

pub was_tried : (m : Meaning) (old new : Seen) (o : Outcome) → Does m old new o → (made : Made) (outputs : Outputs) (s : Settings) → m ≡ Means (Trial made outputs s) → o ≡ Done → TrialEncoded made outputs s old new
was_tried m old new o d made outputs s is done = done_tried made outputs s old new o (trial_left m old new o d made outputs s is) done

pub trial_input : (m : Meaning) (old new : Seen) (o : Outcome) → Does m old new o → (made : Made) (outputs : Outputs) (s : Settings) → m ≡ Means (Trial made outputs s) → new.input ≡ old.input
trial_input m old new o d made outputs s is = input_kept made outputs s old new o (trial_left m old new o d made outputs s is)

pub store_answers : (m : Meaning) (old new : Seen) (o : Outcome) → Does m old new o → (input output left : List ℕ) → m ≡ Means (Store input output) → old.input.bytes ≡ Some left → NoFault old new → StoreAnswers (film_of left).end o
store_answers m old new o d input output left is told none = store_decided input output old new left told none o (store_left m old new o d input output is)

pub encode_answers : (m : Meaning) (old new : Seen) (o : Outcome) → Does m old new o → (input : List ℕ) (outputs : Outputs) (s : Settings) (left : List ℕ) → m ≡ Means (Encode input outputs s) → old.input.bytes ≡ Some left
    → NoFault old new → EncodeAnswers s (film_of left) o
encode_answers m old new o d input outputs s left is told none = (does m (Means (Encode input outputs s)) old new o d is).1 left told none

pub trial_answers : (m : Meaning) (old new : Seen) (o : Outcome) → Does m old new o → (made : Made) (outputs : Outputs) (s : Settings) → m ≡ Means (Trial made outputs s) → NoFault old new
    → EncodeAnswers s (film_of (film_made made)) o
trial_answers m old new o d made outputs s is none = (does m (Means (Trial made outputs s)) old new o d is).1 none
