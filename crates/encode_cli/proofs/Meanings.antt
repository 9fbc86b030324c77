-- What the words mean, and what is known of the settings that they give.
use Rattle.std.proofs.Common.{ℕ, ◌≡◌, ◌≤◌, ◌⊎◌, inl, inr, Bool, true, false, List, [], ◌∷◌, Option, Some, None, Result, Ok, Err, refl, sym, ap, subst, ◌∙◌, min, max, arith}
use Rattle.std.specs.Prelude.{codes, if◌then◌else◌, option_and_then, option_map, unwrap_or}
use Rattle.std.specs.Str.{bytes_eq}
use Rattle.clap.specs.Words.{Kinds, Row, Text, fault_of, matches_of, one_of}
use Rattle.clap.specs.declared.error.kind.ErrorKind.{ErrorKind}
use Rattle.enc_edge.specs.Seen.{Seen}
use Rattle.spec_words.specs.declared.command.Command.{Command}
use Rattle.spec_words.specs.declared.command.Command.TheVariants.{Store, Encode, Trial}
use Rattle.spec_words.specs.declared.command.Made.{Made}
use Rattle.spec_words.specs.declared.command.Outputs.{Outputs}
use Rattle.spec_words.specs.declared.command.Settings.{Settings}
use Rattle.spec_words.specs.declared.command.WordFault.{WordFault}
use Rattle.spec_words.specs.declared.command.WordFault.TheVariants.{NoCommand, UnknownCommand, Refused}
use Rattle.spec_words.specs.declared.command.WordsEnd.{WordsEnd}
use Rattle.spec_words.specs.declared.command.WordsEnd.TheVariants as ends
use Rattle.spec_words.specs.Choices.{given_number, made_of, number_of, unsigned_of}
use Rattle.spec_words.specs.Commands.{Meaning, Means, Faulty, Refuses, Answers, unless_refused, store_in, encode_in, trial_in, store_of, encode_of, trial_of, meaning_of}
use Rattle.spec_words.specs.Options.{encode_app, on_off, store_app, trial_app}
use Rattle.spec_session.specs.Settings.{AreInRange}
use Rattle.spec_session.proofs.Ranges.{in_range}
use Rattle.encode_cli.specs.declared.outcome.Outcome.TheVariants.{Words, OutOfMemory}
use Rattle.encode_cli.specs.Doing.{Does}
use Rattle.encode_cli.specs.Encoding.{words_unread}
use Rattle.encode_cli.specs.Trials.{film_unmade}

-- ---- what the reader of the words answers

ok_err : (c : Command) (e : WordsEnd) → (let x : Result Command WordsEnd = Ok c in x ≡ Err e) → ⊥
ok_err c e is = cc

fault_memory : (f : WordFault) → ends.Fault f ≡ ends.OutOfMemory → ⊥
fault_memory f is = cc

memory_fault : (f : WordFault) → (let x : Result Command WordsEnd = Err ends.OutOfMemory in x ≡ Err (ends.Fault f)) → ⊥
memory_fault f is = cc

pub meant : (m : Meaning) (c : Command) → Answers m (Ok c) → m ≡ Means c
meant (Means d) c a = ap (λ (x : Command). Means x) (sym a)
meant (Faulty f) c a = absurd (ok_err c (ends.Fault f) a)
meant (Refuses ks) c a = absurd a

words_same : (f g : WordFault) → (let x : Result Command WordsEnd = Err (ends.Fault f) in x ≡ Err (ends.Fault g)) → Words f ≡ Words g
words_same f g e = cc

pub faulted : (m : Meaning) (fault : WordFault) (s : Seen) → Answers m (Err (ends.Fault fault)) → Does m s s (Words fault)
faulted (Means d) fault s a = absurd (fault_memory fault a)
faulted (Faulty f) fault s a = (words_same fault f a, refl)
faulted (Refuses ks) NoCommand s a = absurd a
faulted (Refuses ks) UnknownCommand s a = absurd a
faulted (Refuses ks) (Refused kind) s a = (inl (kind, a, refl), refl)

pub unread : (m : Meaning) (s : Seen) → Answers m (Err ends.OutOfMemory) → Does m s s OutOfMemory
unread (Means (Store input output)) s a = inl refl
unread (Means (Encode input outputs settings)) s a = (words_unread refl refl, λ left told none. inr refl)
unread (Means (Trial made outputs settings)) s a = (film_unmade refl refl, λ none. inr refl)
unread (Faulty f) s a = absurd (memory_fault f a)
unread (Refuses ks) s a = (inr refl, refl)

-- ---- ranges

most_by : (low high : ℕ) → low ≤ high → (o : Option ℕ) → unwrap_or (option_map (λ n. max (min n high) low) o) low ≤ high
most_by low high h None = h
most_by low high h (Some n) = omega (arith, h)

number_most : (low high : ℕ) (id : Text) (rows : List Row) → low ≤ high → number_of low high id rows ≤ high
unfolding number_of given_number
number_most low high id rows h = most_by low high h (option_and_then unsigned_of (one_of id rows))

pub record IsMade (made : Made) : Type 0 where
  pub width : made.width ≤ 1920
  pub height : made.height ≤ 1088
  pub count : made.count ≤ 300

made_small : (rows : List Row) → IsMade (made_of rows)
unfolding made_of
made_small rows = record {
  width = number_most 16 1920 (codes "width") rows (omega arith);
  height = number_most 16 1088 (codes "height") rows (omega arith);
  count = number_most 0 300 (codes "pictures") rows (omega arith);
}

abbrev pub IsInRange : Command → Type 0
IsInRange (Store input output) = Unit {0}
IsInRange (Encode input outputs settings) = AreInRange settings
IsInRange (Trial made outputs settings) = IsMade made × AreInRange settings

same_command : (c d : Command) → Means c ≡ Means d → d ≡ c
same_command c d e = cc

refuses_none : (ks : Kinds) (c : Command) → Refuses ks ≡ Means c → ⊥
refuses_none ks c e = cc

faulty_none : (f : WordFault) (c : Command) → Faulty f ≡ Means c → ⊥
faulty_none f c e = cc

unless_means : (kinds : Kinds) (command c : Command) → unless_refused kinds command ≡ Means c → c ≡ command
unless_means [] command c e = same_command command c e
unless_means (k ∷ ks) command c e = absurd (refuses_none (k ∷ ks) c e)

store_means : (words : List Text) (c : Command) → store_of words ≡ Means c → IsInRange c
unfolding store_of
store_means words c e = subst IsInRange (sym (unless_means (fault_of store_app words) (store_in (matches_of store_app words)) c e)) tt

encode_means : (words : List Text) (c : Command) → encode_of words ≡ Means c → IsInRange c
unfolding encode_of
encode_means words c e =
    let rows = matches_of (encode_app on_off) words in
    subst IsInRange (sym (unless_means (fault_of (encode_app on_off) words) (encode_in rows) c e)) (in_range rows)

trial_means : (words : List Text) (c : Command) → trial_of words ≡ Means c → IsInRange c
unfolding trial_of
trial_means words c e =
    let rows = matches_of (trial_app on_off) words in
    subst IsInRange (sym (unless_means (fault_of (trial_app on_off) words) (trial_in rows) c e)) (made_small rows, in_range rows)

no_words : (c : Command) → meaning_of [] ≡ Means c → IsInRange c
unfolding meaning_of
no_words c e = absurd (faulty_none NoCommand c e)

-- a command has its numbers in their ranges
pub means_in_range : (words : List Text) (c : Command) → meaning_of words ≡ Means c → IsInRange c
unfolding meaning_of
means_in_range [] c e = no_words c e
means_in_range (first ∷ rest) c e = by (bytes_eq first (codes "store")) (bytes_eq first (codes "encode")) (bytes_eq first (codes "trial")) e
  where
    by : (p q r : Bool) → (if p then store_of (first ∷ rest) else if q then encode_of (first ∷ rest) else if r then trial_of (first ∷ rest) else Faulty UnknownCommand) ≡ Means c → IsInRange c
    by true q r is = store_means (first ∷ rest) c is
    by false true r is = encode_means (first ∷ rest) c is
    by false false true is = trial_means (first ∷ rest) c is
    by false false false is = absurd (faulty_none UnknownCommand c is)
