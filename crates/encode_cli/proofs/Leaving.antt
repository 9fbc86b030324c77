-- From the ends of storing and encoding to the answers of a run.
use Rattle.std.proofs.Common.{ℕ, ◌≡◌, ◌⊎◌, inl, inr, List, [], Option, Some, None, Result, Ok, Err, refl, sym, ap, subst}
use Rattle.enc_edge.specs.Seen.{Seen}
use Rattle.enc_edge.specs.declared.studio.Out.{Out}
use Rattle.enc_edge.specs.declared.studio.Out.TheVariants.{Stream, Recon, Report}
use Rattle.enc_edge.specs.declared.studio.Place.{Place}
use Rattle.enc_edge.specs.declared.studio.Place.TheVariants as places
use Rattle.enc_edge.specs.Calls.{OpeningFailed, LaterFailed}
use Rattle.spec_film.specs.Films.{Film}
use Rattle.spec_words.specs.declared.command.Settings.{Settings}
use Rattle.spec_words.specs.declared.command.SettingFault.{SettingFault}
use Rattle.spec_words.specs.Choices.{early_of}
use Rattle.spec_session.specs.Answers.{behind_early, ending_of, with_head}
use Rattle.store_film.specs.declared.ends.StoreEnd.{StoreEnd}
use Rattle.store_film.specs.declared.ends.StoreEnd.TheVariants as store_ends
use Rattle.store_film.specs.Leaving.{Leaves as StoreEndLeaves}
use Rattle.encode_film.specs.declared.ends.EncodeEnd.{EncodeEnd}
use Rattle.encode_film.specs.declared.ends.EncodeEnd.TheVariants as ends
use Rattle.encode_film.specs.Answering.{Answers as EndAnswers, end_of}
use Rattle.encode_film.specs.Leaving.{Leaves as EndLeaves}
use Rattle.encode_film.specs.Outputs.{Names}
use Rattle.encode_cli.specs.declared.outcome.Outcome.{Outcome}
use Rattle.encode_cli.specs.declared.outcome.Outcome.TheVariants.{Done, Words, Open, Read, Write, Input, Setting, Buffer, OutOfMemory}
use Rattle.encode_cli.specs.Encoding.{FilmLeaves, EncodeAnswers}
use Rattle.encode_cli.specs.Storing.{StoreLeaves}
use Rattle.encode_cli.specs.Told.{outcome_of, stored_outcome}

store_left : (input output : List ℕ) (old new : Seen) (r : Result (Unit {0}) StoreEnd) → StoreEndLeaves input output old new r → StoreLeaves input output old new (stored_outcome r)
store_left input output old new (Ok done) l = l
store_left input output old new (Err (store_ends.Open place)) l = l
store_left input output old new (Err store_ends.Read) l = l
store_left input output old new (Err store_ends.Write) l = (refl, l)
store_left input output old new (Err (store_ends.Input fault)) l = l
store_left input output old new (Err store_ends.OutOfMemory) l = inr l

pub stored_left : (input output : List ℕ) (old new : Seen) (r : Result (Unit {0}) StoreEnd) (o : Outcome) → o ≡ stored_outcome r → StoreEndLeaves input output old new r → StoreLeaves input output old new o
stored_left input output old new r o is l = subst (StoreLeaves input output old new) (sym is) (store_left input output old new r l)

film_left : (names : Names) (s : Settings) (old new : Seen) (r : Result (Unit {0}) EncodeEnd) → EndLeaves names s old new r → FilmLeaves names s old new (outcome_of r)
film_left names s old new (Ok done) l = l
film_left names s old new (Err (ends.Open place)) l = l
film_left names s old new (Err ends.Read) l = l
film_left names s old new (Err (ends.Write out)) l = l
film_left names s old new (Err (ends.Input fault)) l = l
film_left names s old new (Err (ends.Setting fault)) l = l
film_left names s old new (Err (ends.Buffer picture need have)) l = l
film_left names s old new (Err ends.OutOfMemory) l = l

pub encoded_left : (names : Names) (s : Settings) (old new : Seen) (r : Result (Unit {0}) EncodeEnd) (o : Outcome) → o ≡ outcome_of r → EndLeaves names s old new r → FilmLeaves names s old new o
encoded_left names s old new r o is l = subst (FilmLeaves names s old new) (sym is) (film_left names s old new r l)

film_answers : (s : Settings) (film : Film) (r : Result (Unit {0}) EncodeEnd) → EndAnswers s film r → EncodeAnswers s film (outcome_of r)
film_answers s film r (inl is) = inl (ap outcome_of is)
film_answers s film r (inr is) = inr (ap outcome_of is)

pub encoded_answers : (s : Settings) (film : Film) (r : Result (Unit {0}) EncodeEnd) (o : Outcome) → o ≡ outcome_of r → EndAnswers s film r → EncodeAnswers s film o
encoded_answers s film r o is a = subst (EncodeAnswers s film) (sym is) (film_answers s film r a)

-- settings that are refused whatever the film is
pub early_answers : (s : Settings) (film : Film) (fault : SettingFault) → early_of s ≡ Some fault → EncodeAnswers s film (Setting fault)
unfolding ending_of
early_answers s film fault e = inl (ap (λ (o : Option SettingFault). outcome_of (end_of (behind_early o (with_head s film film.head)))) (sym e))
