-- What an answer of clap says of words.
use Rattle.std.specs.Prelude.{◌≡◌, List, [], Result, MatchResult}
use Rattle.clap.specs.Words.{App, HasKind, Text, fault_of, found_of, matches_of, rows_of}
use Rattle.clap.specs.declared.error.Error.{Error}
use Rattle.clap.specs.declared.error.kind.ErrorKind.{ErrorKind}
use Rattle.clap.specs.declared.error.kind.ErrorKind.TheVariants as kind
use Rattle.clap.specs.declared.parser.matches.ArgMatches.{ArgMatches}
use Rattle.spec_words.specs.declared.command.WordFault.TheVariants.{Refused}
use Rattle.spec_words.specs.declared.command.WordsEnd.{WordsEnd}
use Rattle.spec_words.specs.declared.command.WordsEnd.TheVariants.{Fault, OutOfMemory}

-- the command takes the words and this is what it finds in them; or it refuses them, or memory was wanting
abbrev pub ReadsAs : App → List Text → Result ArgMatches Error → Type 0
ReadsAs app words answer = MatchResult answer
    (λ m. (fault_of app words ≡ []) × (rows_of (found_of m) ≡ matches_of app words))
    (HasKind (fault_of app words))

-- what a kind of error is to us
abbrev pub end_of_kind : ErrorKind → WordsEnd
end_of_kind kind.OutOfMemory = OutOfMemory
end_of_kind other = Fault (Refused other)
