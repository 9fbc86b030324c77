-- What the words of a command line mean: the first names a command, and the rest is read by clap as that command's options.
use Rattle.std.specs.Prelude.{◌≡◌, List, [], ◌∷◌, Result, Err, codes, if◌then◌else◌, MatchResult}
use Rattle.std.specs.Str.{bytes_eq}
use Rattle.clap.specs.Words.{App, IsAmong, Kinds, Row, Text, fault_of, matches_of}
use Rattle.spec_words.specs.declared.command.Command.{Command}
use Rattle.spec_words.specs.declared.command.Command.TheVariants.{Store, Encode, Trial}
use Rattle.spec_words.specs.declared.command.WordFault.{WordFault}
use Rattle.spec_words.specs.declared.command.WordFault.TheVariants.{NoCommand, UnknownCommand, Refused}
use Rattle.spec_words.specs.declared.command.WordsEnd.{WordsEnd}
use Rattle.spec_words.specs.declared.command.WordsEnd.TheVariants.{Fault, OutOfMemory}
use Rattle.spec_words.specs.Choices.{made_of, outputs_of, settings_of, text_of}
use Rattle.spec_words.specs.Options.{encode_app, on_off, store_app, trial_app}

pub data Meaning : Type 0 where
  Means : Command → Meaning
  Faulty : WordFault → Meaning
  Refuses : Kinds → Meaning  -- by clap, for one of these kinds; there is one at least

abbrev pub store_in : List Row → Command
store_in rows = Store (text_of (codes "in") rows) (text_of (codes "out") rows)

abbrev pub encode_in : List Row → Command
encode_in rows = Encode (text_of (codes "in") rows) (outputs_of rows) (settings_of rows)

abbrev pub trial_in : List Row → Command
trial_in rows = Trial (made_of rows) (outputs_of rows) (settings_of rows)

-- the command, where clap finds no fault
abbrev pub unless_refused : Kinds → Command → Meaning
unless_refused [] command = Means command
unless_refused (kind ∷ kinds) command = Refuses (kind ∷ kinds)

-- what clap makes of the words of a command, the first of which is the command's own
abbrev pub read_by : App → (List Row → Command) → List Text → Meaning
read_by app command words = unless_refused (fault_of app words) (command (matches_of app words))

unfoldable pub store_of : List Text → Meaning
store_of = read_by store_app store_in

unfoldable pub encode_of : List Text → Meaning
encode_of = read_by (encode_app on_off) encode_in

unfoldable pub trial_of : List Text → Meaning
trial_of = read_by (trial_app on_off) trial_in

unfoldable pub meaning_of : List Text → Meaning
meaning_of [] = Faulty NoCommand
meaning_of (first ∷ rest) =
    if bytes_eq first (codes "store") then store_of (first ∷ rest)
    else if bytes_eq first (codes "encode") then encode_of (first ∷ rest)
    else if bytes_eq first (codes "trial") then trial_of (first ∷ rest)
    else Faulty UnknownCommand

-- ---- answers

-- the command, or memory was wanting
abbrev pub MeansOrMemory : Command → Result Command WordsEnd → Type 0
MeansOrMemory command result = MatchResult result (λ c. c ≡ command) (λ e. e ≡ OutOfMemory)

-- one of the kinds, or memory was wanting
abbrev pub RefusedBy : Kinds → WordsEnd → Type 0
RefusedBy kinds OutOfMemory = Unit {0}
RefusedBy kinds (Fault (Refused kind)) = IsAmong kind kinds
RefusedBy kinds (Fault other) = ⊥

abbrev pub Answers : Meaning → Result Command WordsEnd → Type 0
Answers (Means command) result = MeansOrMemory command result
Answers (Faulty fault) result = result ≡ Err (Fault fault)
Answers (Refuses kinds) result = MatchResult result (λ _. ⊥) (RefusedBy kinds)
