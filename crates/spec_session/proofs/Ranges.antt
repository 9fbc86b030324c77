-- The settings that the words of a command give are in their ranges.
use Rattle.std.proofs.Common.{◌≡◌, ◌≤◌, ◌*◌, ◌/◌, ◌%◌, min, max, ℕ, List, Option, Some, None, arith}
use Rattle.std.specs.Prelude.{codes, option_and_then, option_map, unwrap_or}
use Rattle.clap.specs.Words.{Row, Text, one_of}
use Rattle.spec_words.specs.Choices.{unsigned_of, given_number, number_of, rounded, rate_of, cpb_of, delay_of, settings_of}
use Rattle.spec_session.specs.Settings.{AreInRange}

record Between (low high n : ℕ) : Type 0 where
  least : low ≤ n
  most : n ≤ high

given_by : (low high other : ℕ) → low ≤ high → Between low high other → (o : Option ℕ) → Between low high (unwrap_or (option_map (λ n. max (min n high) low) o) other)
given_by low high other h b None = b
given_by low high other h b (Some n) = record { least = omega arith; most = omega (arith, h) }

number_between : (low high : ℕ) (id : Text) (rows : List Row) → low ≤ high → Between low high (number_of low high id rows)
unfolding number_of given_number
number_between low high id rows h = given_by low high low h (record { least = omega arith; most = h }) (option_and_then unsigned_of (one_of id rows))

-- ---- whole units

record Whole (step low high n : ℕ) : Type 0 where
  least : low ≤ n
  most : n ≤ high
  whole : n % step ≡ 0

whole_64 : (n high : ℕ) → Between 64 high n → Whole 64 64 high (rounded 64 n)
whole_64 n high b = let least = b.least in let most = b.most in record { least = omega (arith, least); most = omega (arith, most); whole = omega arith }

whole_16 : (n high : ℕ) → Between 16 high n → Whole 16 16 high (rounded 16 n)
whole_16 n high b = let least = b.least in let most = b.most in record { least = omega (arith, least); most = omega (arith, most); whole = omega arith }

rate_whole : (rows : List Row) → Whole 64 64 360000000 (rate_of rows)
unfolding rate_of
rate_whole rows = whole_64 (number_of 64 360000000 (codes "bitrate") rows) 360000000 (number_between 64 360000000 (codes "bitrate") rows (omega arith))

cpb_whole : (rate : ℕ) (rows : List Row) → 64 ≤ rate → Whole 16 16 4000000000 (cpb_of rate rows)
unfolding cpb_of given_number
cpb_whole rate rows some =
    whole_16 _ 4000000000 (given_by 16 4000000000 (min rate 100000000) (omega arith) (record { least = omega (arith, some); most = omega arith }) (option_and_then unsigned_of (one_of (codes "cpb") rows)))

delay_small : (rate cpb : ℕ) (rows : List Row) → Between 0 4294967295 (delay_of rate cpb rows)
unfolding delay_of given_number
delay_small rate cpb rows =
    given_by 0 4294967295 (min (90000 * cpb / (2 * rate)) 4294967295) (omega arith) (record { least = omega arith; most = omega arith }) (option_and_then unsigned_of (one_of (codes "delay") rows))

pub in_range : (rows : List Row) → AreInRange (settings_of rows)
unfolding settings_of
in_range rows =
    let rate = rate_whole rows in
    let cpb = cpb_whole (rate_of rows) rows rate.least in
    let delay = (delay_small (rate_of rows) (cpb_of (rate_of rows) rows) rows).most in
    let refs = number_between 1 4 (codes "refs") rows (omega arith) in
    let idr = number_between 1 600 (codes "idr") rows (omega arith) in
    let range = number_between 1 32 (codes "range") rows (omega arith) in
    let slices = number_between 1 255 (codes "slices") rows (omega arith) in
    let workers = number_between 1 64 (codes "workers") rows (omega arith) in
    record {
      rate_least = rate.least;
      rate_most = rate.most;
      rate_whole = rate.whole;
      cpb_least = cpb.least;
      cpb_most = cpb.most;
      cpb_whole = cpb.whole;
      delay = omega (arith, delay);
      qp = (number_between 0 51 (codes "qp") rows (omega arith)).most;
      refs_least = refs.least;
      refs_most = refs.most;
      bframes = (number_between 0 4 (codes "bframes") rows (omega arith)).most;
      idr_least = idr.least;
      idr_most = idr.most;
      range_least = range.least;
      range_most = range.most;
      slices_least = slices.least;
      slices_most = slices.most;
      workers_least = workers.least;
      workers_most = workers.most;
      level = (number_between 0 255 (codes "level") rows (omega arith)).most;
    }
