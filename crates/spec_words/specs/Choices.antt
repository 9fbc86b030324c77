-- Settings: what the options of a command say, by the rows that clap makes of them, and which settings are refused.
use Rattle.std.specs.Prelude.{ℕ, ◌*◌, ◌/◌, ◌&&◌, ◌==◌, ◌^◌, not, List, [], codes, if◌then◌else◌, nat_lt, max, min, Option, Some, None, option_and_then, option_map, unwrap_or}
use Rattle.std.specs.Str.{bytes_eq}
use Rattle.std.specs.Str.Parse.{digits_value, without_leading_plus}
use Rattle.clap.specs.ValueTests.{is_numeral}
use Rattle.clap.specs.Words.{Row, Text, first_of, one_of}
use Rattle.spec_words.specs.declared.command.Made.{Made}
use Rattle.spec_words.specs.declared.command.Outputs.{Outputs}
use Rattle.spec_words.specs.declared.command.Settings.{Settings}
use Rattle.spec_words.specs.declared.command.SettingFault.{SettingFault}
use Rattle.spec_words.specs.declared.command.SettingFault.TheVariants.{Refs, BigCpb}

-- ---- one option

-- the text of an option; one that its command needs has a text
unfoldable pub text_of : Text → List Row → Text
text_of id rows = unwrap_or (first_of id rows) []

-- the number that a text writes, as u64 is read
unfoldable pub unsigned_of : Text → Option ℕ
unsigned_of text =
    let digits = without_leading_plus text in
    if is_numeral digits && nat_lt (digits_value 10 digits) (2 ^ 64) then Some (digits_value 10 digits) else None

-- the number of an option, where it is given; clap takes none past the bounds
unfoldable pub given_number : ℕ → ℕ → Text → List Row → Option ℕ
given_number low high id rows = option_map (λ n. max (min n high) low) (option_and_then unsigned_of (one_of id rows))

-- the number of an option that has one always, by its command or by default
unfoldable pub number_of : ℕ → ℕ → Text → List Row → ℕ
number_of low high id rows = unwrap_or (given_number low high id rows) low

-- ---- settings

-- the multiple of a step that is next below
abbrev pub rounded : ℕ → ℕ → ℕ
rounded step n = n / step * step

unfoldable pub rate_of : List Row → ℕ
rate_of rows = rounded 64 (number_of 64 360000000 (codes "bitrate") rows)

-- by default the rate, where that isn't past 100,000,000 bits
unfoldable pub cpb_of : ℕ → List Row → ℕ
cpb_of rate rows = rounded 16 (unwrap_or (given_number 16 4000000000 (codes "cpb") rows) (min rate 100000000))

-- by default the time in which half the buffer is filled, in 1/90000 of a second
unfoldable pub delay_of : ℕ → ℕ → List Row → ℕ
delay_of rate cpb rows = unwrap_or (given_number 0 4294967295 (codes "delay") rows) (min (90000 * cpb / (2 * rate)) 4294967295)

unfoldable pub settings_of : List Row → Settings
settings_of rows =
    let rate = rate_of rows in
    let cpb = cpb_of rate rows in
    record {
      rate = rate;
      cpb = cpb;
      delay = delay_of rate cpb rows;
      qp = number_of 0 51 (codes "qp") rows;
      refs = number_of 1 4 (codes "refs") rows;
      bframes = number_of 0 4 (codes "bframes") rows;
      idr = number_of 1 600 (codes "idr") rows;
      range = number_of 1 32 (codes "range") rows;
      slices = number_of 1 255 (codes "slices") rows;
      workers = number_of 1 64 (codes "workers") rows;
      level = number_of 0 255 (codes "level") rows;
      t8x8 = bytes_eq (text_of (codes "t8x8") rows) (codes "on");
    }

-- ---- names, and films from a number

unfoldable pub outputs_of : List Row → Outputs
outputs_of rows = record { stream = text_of (codes "out") rows; recon = text_of (codes "recon") rows; report = text_of (codes "report") rows }

unfoldable pub made_of : List Row → Made
made_of rows = record {
  seed = number_of 0 18446744073709551615 (codes "seed") rows;
  width = number_of 16 1920 (codes "width") rows;
  height = number_of 16 1088 (codes "height") rows;
  count = number_of 0 300 (codes "pictures") rows;
}

-- ---- settings that are refused whatever the film is

-- the first of the faults that need no film
unfoldable pub early_of : Settings → Option SettingFault
early_of settings =
    if settings.refs == 1 && not (settings.bframes == 0) then Some Refs
    else if nat_lt 100000000 settings.cpb then Some BigCpb
    else None
