-- From clap's clauses to the meaning of words.
use Rattle.std.proofs.Common.{◌≡◌, ◌∙◌, ◌⊎◌, inl, inr, ap, subst, sym, refl, true, ℕ, List, [], ◌∷◌, Result, Ok, Err}
use Rattle.std.specs.Prelude.{IfOk, Option, Some, None, option_map, unwrap_or}
use Rattle.std.specs.Borrow.{Bor}
use Rattle.clap.specs.Words.{App, FailsBy, HasMatchesOf, HasKind, IsAmong, Kinds, Row, Text, fault_of, found_of, is_simple, is_simple_and_free, kind_of, matches_of, rows_of}
use Rattle.clap.specs.declared.error.Error.{Error}
use Rattle.clap.specs.declared.error.kind.ErrorKind.{ErrorKind}
use Rattle.clap.specs.declared.error.kind.ErrorKind.TheVariants as kind
use Rattle.clap.specs.declared.parser.matches.ArgMatches.{ArgMatches}
use Rattle.spec_words.specs.declared.command.Command.{Command}
use Rattle.spec_words.specs.declared.command.WordsEnd.{WordsEnd}
use Rattle.spec_words.specs.declared.command.WordsEnd.TheVariants.{OutOfMemory}
use Rattle.spec_words.specs.Commands.{Answers, MeansOrMemory, RefusedBy, read_by, unless_refused}
use Rattle.encode_words.specs.Reads.{ReadsAs, end_of_kind}

answer_reads : (app : App) (words : List Text) (r : Result ArgMatches Error) → is_simple app ≡ true
    → FailsBy (fault_of app words) r → IfOk r (HasMatchesOf app words) → ReadsAs app words r
answer_reads app words (Ok m) simple kinds matches = (kinds, (matches simple).0)
answer_reads app words (Err e) simple kinds matches = kinds

-- a parse by a command that is, as clap sees it, `app`
pub parse_reads : (made app : App) (words : List Text) (r : Result ArgMatches Error) → made ≡ app
    → is_simple app ≡ true → is_simple_and_free app ≡ true
    → (is_simple_and_free made ≡ true → FailsBy (fault_of made words) r)
    → IfOk r (HasMatchesOf made words) → ReadsAs app words r
parse_reads made app words r same simple free kinds matches =
    answer_reads app words r simple
    (subst (λ (a : App). FailsBy (fault_of a words) r) same (kinds (ap is_simple_and_free same ∙ free)))
    (subst (λ (a : App). IfOk r (HasMatchesOf a words)) same matches)

-- the text of a reference that may be missing
pub text_is : (o : Option (Bor Text)) (d : Bor Text) → (unwrap_or o d).now ≡ unwrap_or (option_map (λ s. s.now) o) d.now
text_is None d = refl
text_is (Some x) d = refl

end_refused : (kinds : Kinds) (k : ErrorKind) → (k ≡ kind.OutOfMemory) ⊎ IsAmong k kinds → RefusedBy kinds (end_of_kind k)
end_refused kinds kind.OutOfMemory h = tt
end_refused kinds other (inl h) = cc
end_refused kinds other (inr h) = h

end_alone : (k : ErrorKind) → (k ≡ kind.OutOfMemory) ⊎ IsAmong k [] → end_of_kind k ≡ OutOfMemory
end_alone k (inl h) = ap end_of_kind h
end_alone k (inr h) = absurd h

end_answers : (kinds : Kinds) (command : Command) (k : ErrorKind) → (k ≡ kind.OutOfMemory) ⊎ IsAmong k kinds
    → Answers (unless_refused kinds command) (Err (end_of_kind k))
end_answers [] command k h = end_alone k h
end_answers (x ∷ xs) command k h = end_refused (x ∷ xs) k h

-- a parse that failed is answered as clap's definition says
pub failure_answers : (app : App) (words : List Text) (command : List Row → Command) (r : Result ArgMatches Error) (e : Error)
    → r ≡ Err e → ReadsAs app words r → Answers (read_by app command words) (Err (end_of_kind (kind_of e)))
failure_answers app words command r e is h =
    end_answers (fault_of app words) (command (matches_of app words)) (kind_of e) (subst (λ (x : Result ArgMatches Error). ReadsAs app words x) is h)

-- and one that went well
pub matches_answer : (app : App) (words : List Text) (command : List Row → Command) (r : Result ArgMatches Error) (m : ArgMatches) (a : Result Command WordsEnd)
    → r ≡ Ok m → ReadsAs app words r → MeansOrMemory (command (rows_of (found_of m))) a
    → Answers (read_by app command words) a
matches_answer app words command r m a is h means =
    let read = subst (λ (x : Result ArgMatches Error). ReadsAs app words x) is h in
    let same : MeansOrMemory (command (matches_of app words)) a = subst (λ (rows : List Row). MeansOrMemory (command rows) a) read.1 means in
    subst (λ (kinds : Kinds). Answers (unless_refused kinds (command (matches_of app words))) a) (sym read.0) same

-- what holds by one command holds by another whose faults and rows are the same
pub reads_same : (a b : App) (words : List Text) (r : Result ArgMatches Error) → fault_of a words ≡ fault_of b words → matches_of a words ≡ matches_of b words
    → ReadsAs a words r → ReadsAs b words r
reads_same a b words (Ok m) faults rows h = (sym faults ∙ h.0, h.1 ∙ rows)
reads_same a b words (Err e) faults rows h = subst (λ (kinds : Kinds). HasKind kinds e) faults h
