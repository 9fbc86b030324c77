-- The number that `get_one` gives is the one that the option's text writes.
use Rattle.std.proofs.Common.{◌≡◌, ◌∙◌, ◌&&◌, ◌^◌, ap, max, min, sym, refl, true, false, Bool, ℕ, List, [], ◌∷◌, length, nat_lt, Result, Ok, Err, true≢false, lt-ltb, ltb-true}
use Rattle.std.specs.Prelude.{Option, Some, None, option_and_then, option_map}
use Rattle.std.specs.List.{list_all}
use Rattle.std.specs.Str.Parse.{AllDigits, ParsesUnsigned, digits_value, without_leading_plus}
use Rattle.std.specs.Char.{digit_value}
use Rattle.clap.specs.Matches.{ReadsOne}
use Rattle.clap.specs.ValueTests.{is_numeral}
use Rattle.clap.specs.Words.{Text, one_text, rows_of}
use Rattle.clap.specs.declared.parser.matches.Found.{Found}
use Rattle.clap.proofs.WalkLemmas.{one_text-rows}
use Rattle.spec_words.specs.Choices.{given_number, unsigned_of}

digits_pass : (ds : List ℕ) → AllDigits 10 ds → list_all (λ d. nat_lt (digit_value d) 10) ds ≡ true
digits_pass [] h = refl
digits_pass (d ∷ ds) h = rw (lt-ltb (digit_value d) 10 h.0) (digits_pass ds h.1)

both : (a b : Bool) → (a && b) ≡ true → (a ≡ true) × (b ≡ true)
both true b e = (refl, e)
both false b e = absurd (true≢false (sym e))

digits_from : (ds : List ℕ) → list_all (λ d. nat_lt (digit_value d) 10) ds ≡ true → AllDigits 10 ds
digits_from [] e = tt
digits_from (d ∷ ds) e =
    let parts = both _ _ e in
    (ltb-true _ _ parts.0, digits_from ds parts.1)

abbrev is_read : List ℕ → Bool
is_read digits = is_numeral digits && nat_lt (digits_value 10 digits) (2 ^ 64)

abbrev ok_of : {E : Type 0} → Result ℕ E → Option ℕ
ok_of (Ok n) = Some n
ok_of (Err e) = None

number_is : {E : Type 0} (text : Text) (r : Result ℕ E) → ParsesUnsigned 64 10 text r → ok_of r ≡ unsigned_of text
unfolding unsigned_of
number_is text (Ok n) h =
    let digits = without_leading_plus text in
    rw (lt-ltb 0 (length digits) h.0.0.0, digits_pass digits h.0.0.1, lt-ltb (digits_value 10 digits) (2 ^ 64) h.0.1, h.1) refl
number_is text (Err e) h = go (is_read (without_leading_plus text)) refl
  where
    go : (b : Bool) → is_read (without_leading_plus text) ≡ b → None ≡ unsigned_of text
    go false t = rw t refl
    go true t =
        let outer = both _ _ t in
        let inner = both _ _ outer.0 in
        absurd (h ((ltb-true _ _ inner.0, digits_from (without_leading_plus text) inner.1), ltb-true _ _ outer.1))

-- what `get_one` gives, as a function of the text
pub given_is : {E : Type 0} (G : Text → Result ℕ E → Type 0) (o : Option Text) (r : Option ℕ)
    → ((t : Text) (x : Result ℕ E) → G t x → ParsesUnsigned 64 10 t x)
    → (o ≡ None → r ≡ None) → ((t : Text) → o ≡ Some t → ReadsOne G t r)
    → r ≡ option_and_then unsigned_of o
given_is G None r only none value = none refl
given_is {E} G (Some t) r only none value = go r (value t refl)
  where
    go : (x : Option ℕ) → ReadsOne G t x → x ≡ unsigned_of t
    go (Some v) h = number_is {E = E} t (Ok v) (only t (Ok v) h)
    go None h = number_is {E = E} t (Err h.0) (only t (Err h.0) h.1)

-- the number within its bounds, by the rows of a parse
pub number_given : {E : Type 0} (G : Text → Result ℕ E → Type 0) (f : Found) (id : Text) (r : Option ℕ)
    → ((t : Text) (x : Result ℕ E) → G t x → ParsesUnsigned 64 10 t x)
    → (one_text f id ≡ None → r ≡ None) → ((t : Text) → one_text f id ≡ Some t → ReadsOne G t r)
    → (low high : ℕ) → option_map (λ n. max (min n high) low) r ≡ given_number low high id (rows_of f)
unfolding given_number
number_given G f id r only none value low high =
    ap (λ (o : Option ℕ). option_map (λ n. max (min n high) low) o)
    (given_is G (one_text f id) r only none value ∙ ap (λ (o : Option Text). option_and_then unsigned_of o) (one_text-rows f id))
