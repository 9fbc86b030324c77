-- What a run does, by what its words mean.
use Rattle.std.specs.Prelude.{ℕ, ◌≡◌, ◌⊎◌, List, [], Some}
use Rattle.enc_edge.specs.Seen.{Seen}
use Rattle.clap.specs.Words.{IsAmong, Kinds}
use Rattle.clap.specs.declared.error.kind.ErrorKind.{ErrorKind}
use Rattle.spec_film.specs.Films.{film_of}
use Rattle.spec_words.specs.declared.command.Command.TheVariants.{Store, Encode, Trial}
use Rattle.spec_words.specs.declared.command.Settings.{Settings}
use Rattle.spec_words.specs.declared.command.WordFault.{WordFault}
use Rattle.spec_words.specs.declared.command.WordFault.TheVariants.{NoCommand, UnknownCommand, Refused}
use Rattle.spec_words.specs.Commands.{Meaning, Means, Faulty, Refuses}
use Rattle.encode_film.specs.Outputs.{named}
use Rattle.encode_film.specs.Runs.{NoFault}
use Rattle.encode_cli.specs.declared.outcome.Outcome.{Outcome}
use Rattle.encode_cli.specs.declared.outcome.Outcome.TheVariants.{Words, OutOfMemory}
use Rattle.encode_cli.specs.Storing.{StoreLeaves}
use Rattle.encode_cli.specs.Encoding.{EncodeLeaves, EncodeAnswers}
use Rattle.encode_cli.specs.Trials.{TrialLeaves, film_made}

-- ---- words

-- words that mean this have this fault
abbrev pub HasFault : Meaning → WordFault → Type 0
HasFault (Means command) fault = ⊥
HasFault (Faulty other) fault = fault ≡ other
HasFault (Refuses kinds) NoCommand = ⊥
HasFault (Refuses kinds) UnknownCommand = ⊥
HasFault (Refuses kinds) (Refused kind) = IsAmong kind kinds

-- the words are refused for one of these kinds, or memory was wanting
abbrev pub RefusedByClap : Kinds → Outcome → Type 0
RefusedByClap kinds outcome = ((kind : ErrorKind) × IsAmong kind kinds × (outcome ≡ Words (Refused kind))) ⊎ (outcome ≡ OutOfMemory)

-- ---- commands

-- where the input's bytes are told and nothing outside failed, the film and the settings decided the answer
abbrev pub EncodeDecided : Settings → Seen → Seen → Outcome → Type 0
EncodeDecided s old new outcome = (left : List ℕ) → old.input.bytes ≡ Some left → NoFault old new → EncodeAnswers s (film_of left) outcome

-- where nothing outside failed, this film and the settings decided it
abbrev pub TrialDecided : List ℕ → Settings → Seen → Seen → Outcome → Type 0
TrialDecided film s old new outcome = NoFault old new → EncodeAnswers s (film_of film) outcome

abbrev pub Does : Meaning → Seen → Seen → Outcome → Type 0
Does (Means (Store input output)) old new outcome = StoreLeaves input output old new outcome
Does (Means (Encode input outputs s)) old new outcome = EncodeLeaves (named input outputs) s old new outcome × EncodeDecided s old new outcome
Does (Means (Trial made outputs s)) old new outcome = TrialLeaves made outputs s old new outcome × TrialDecided (film_made made) s old new outcome
Does (Faulty fault) old new outcome = (outcome ≡ Words fault) × (new ≡ old)
Does (Refuses kinds) old new outcome = RefusedByClap kinds outcome × (new ≡ old)
