use Rattle.std.proofs.Common.{ap, sym, ◌≡◌, ◌∙◌, ℕ, max, min}
use Rattle.std.specs.Prelude.{Option, Some, option_map}
use Rattle.std.specs.Str.Parse.{ParsesUnsigned, ExplainsUnsignedError, HasUnsignedDigitsIfOk}
use Rattle.clap.specs.Words.{found_of}
use Rattle.encode_words.proofs.Numbers.{number_given}
use Rattle.encode_words.proofs.values.given_number.Goals as goal

pub returns-in-Some-clause-number : goal.returns-in-Some-clause-number
returns-in-Some-clause-number c =
    let low = c.args.low in
    let high = c.args.high in
    ap (λ (n : ℕ). Some n) (c.max.ensures ∙ ap (λ (n : ℕ). max n low) c.min.ensures)
    ∙ (ap (λ (o : Option ℕ). option_map (λ n. max (min n high) low) o) (sym c.in-Some.is)
    ∙ number_given (λ bs r. ParsesUnsigned 64 10 bs r × ExplainsUnsignedError 10 bs r × HasUnsignedDigitsIfOk bs r)
    (found_of c.args.matches.now) c.args.id.now c.get_one.result (λ t x h. h.0) c.get_one.ensures.none c.get_one.ensures.value low high)

pub returns-in-None-clause-number : goal.returns-in-None-clause-number
returns-in-None-clause-number c =
    let low = c.args.low in
    let high = c.args.high in
    ap (λ (o : Option ℕ). option_map (λ n. max (min n high) low) o) (sym c.in-None.is)
    ∙ number_given (λ bs r. ParsesUnsigned 64 10 bs r × ExplainsUnsignedError 10 bs r × HasUnsignedDigitsIfOk bs r)
    (found_of c.args.matches.now) c.args.id.now c.get_one.result (λ t x h. h.0) c.get_one.ensures.none c.get_one.ensures.value low high
