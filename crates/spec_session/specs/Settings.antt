-- The settings that a film is encoded by: those of the command, completed by the film's head; and which of them are refused.
use Rattle.std.specs.Prelude.{ℕ, ◌+◌, ◌*◌, ◌==◌, ◌≡◌, ◌≤◌, ◌<◌, ◌%◌, ◌^◌, ◌||◌, ◌⊎◌, nat_lt, true, Bool, Option, Some, None, Result, Ok, Err, if◌then◌else◌}
use Rattle.spec_basics.specs.Sizes.{in_macroblocks}
use Rattle.spec_film.specs.declared.FilmHead.{FilmHead}
use Rattle.spec_levels.specs.declared.Need.{Need}
use Rattle.spec_levels.specs.Levels.{fits, least_level}
use Rattle.spec_words.specs.declared.command.Settings.{Settings}
use Rattle.spec_words.specs.declared.command.SettingFault.{SettingFault}
use Rattle.spec_words.specs.declared.command.SettingFault.TheVariants.{Slices, SmallCpb, Delay, Level, NoLevel}
use Rattle.spec_words.specs.Choices.{early_of}

-- What settles an encoding beside the pictures: complete settings and the film's head. How many threads plan a picture isn't among it.
pub record SessionSettings : Type 0 where
  pub head : FilmHead
  pub rate : ℕ
  pub cpb : ℕ
  pub delay : ℕ
  pub qp : ℕ
  pub refs : ℕ
  pub bframes : ℕ
  pub idr : ℕ
  pub range : ℕ
  pub slices : ℕ
  pub level : ℕ
  pub t8x8 : Bool

-- the ranges of a command's settings: rate and buffer are whole units of the syntax (clause E.2.2)
pub record AreInRange (s : Settings) : Type 0 where
  pub rate_least : 64 ≤ s.rate
  pub rate_most : s.rate ≤ 360000000
  pub rate_whole : s.rate % 64 ≡ 0
  pub cpb_least : 16 ≤ s.cpb
  pub cpb_most : s.cpb ≤ 4000000000
  pub cpb_whole : s.cpb % 16 ≡ 0
  pub delay : s.delay < 2 ^ 32
  pub qp : s.qp ≤ 51
  pub refs_least : 1 ≤ s.refs
  pub refs_most : s.refs ≤ 4
  pub bframes : s.bframes ≤ 4
  pub idr_least : 1 ≤ s.idr
  pub idr_most : s.idr ≤ 600
  pub range_least : 1 ≤ s.range
  pub range_most : s.range ≤ 32
  pub slices_least : 1 ≤ s.slices
  pub slices_most : s.slices ≤ 255
  pub workers_least : 1 ≤ s.workers
  pub workers_most : s.workers ≤ 64
  pub level : s.level ≤ 255

-- ---- what needs the film, one by one

-- a picture has at most 16 slices, each of which has a row of macroblocks
abbrev pub has_many_slices : Settings → FilmHead → Bool
has_many_slices s h = nat_lt 16 s.slices || nat_lt (in_macroblocks h.height) s.slices

-- the buffer has no room for a picture's share, which is rate * den / num bits, and 48 bits
abbrev pub has_small_cpb : Settings → FilmHead → Bool
has_small_cpb s h = nat_lt (s.cpb * h.num) (s.rate * h.den + 48 * h.num)

-- there is none, or the buffer is over-full behind it (clause D.2.2)
abbrev pub has_bad_delay : Settings → Bool
has_bad_delay s = (s.delay == 0) || nat_lt (90000 * s.cpb) (s.rate * s.delay)

-- what the stream needs of a level
abbrev pub need_of : Settings → FilmHead → Need
need_of s h = record {
  width_mbs = in_macroblocks h.width;
  height_mbs = in_macroblocks h.height;
  num = h.num;
  den = h.den;
  rate = s.rate;
  cpb = s.cpb;
  refs = s.refs;
}

abbrev pub or_fault : SettingFault → Option ℕ → Result ℕ SettingFault
or_fault fault None = Err fault
or_fault fault (Some level) = Ok level

-- the level that is asked for, if it fits; where none is asked for, the least that does
abbrev pub level_of : Settings → FilmHead → Result ℕ SettingFault
level_of s h =
    if s.level == 0 then or_fault NoLevel (least_level (need_of s h))
    else if fits s.level (need_of s h) then Ok s.level
    else Err Level

-- ---- together

abbrev pub settled : Settings → FilmHead → ℕ → SessionSettings
settled s h level = record {
  head = h;
  rate = s.rate;
  cpb = s.cpb;
  delay = s.delay;
  qp = s.qp;
  refs = s.refs;
  bframes = s.bframes;
  idr = s.idr;
  range = s.range;
  slices = s.slices;
  level = level;
  t8x8 = s.t8x8;
}

abbrev pub with_level : Settings → FilmHead → Result ℕ SettingFault → Result SessionSettings SettingFault
with_level s h (Err fault) = Err fault
with_level s h (Ok level) = Ok (settled s h level)

-- the settings, completed; or the first fault of those that need the film
unfoldable pub completed : Settings → FilmHead → Result SessionSettings SettingFault
completed s h =
    if has_many_slices s h then Err Slices
    else if has_small_cpb s h then Err SmallCpb
    else if has_bad_delay s then Err Delay
    else with_level s h (level_of s h)

abbrev pub unless_early : Option SettingFault → Result SessionSettings SettingFault → Result SessionSettings SettingFault
unless_early (Some fault) result = Err fault
unless_early None result = result

-- the same with those before them that need no film
abbrev pub setting_of : Settings → FilmHead → Result SessionSettings SettingFault
setting_of s h = unless_early (early_of s) (completed s h)

-- the settings with another number of threads
abbrev pub with_workers : ℕ → Settings → Settings
with_workers workers s = record s { workers = workers }

-- ---- what is known of completed settings

pub record Completes (s : Settings) (h : FilmHead) (f : SessionSettings) : Type 0 where
  pub level : ℕ
  pub settled_is : f ≡ settled s h level
  -- the level holds the stream, and is the one that was asked for, or the least that does
  pub fits_it : fits level (need_of s h) ≡ true
  pub asked : (s.level ≡ level) ⊎ ((s.level ≡ 0) × (least_level (need_of s h) ≡ Some level))
  pub few_slices : s.slices ≤ 16
  pub rows : s.slices ≤ in_macroblocks h.height
  pub share : s.rate * h.den + 48 * h.num ≤ s.cpb * h.num
  pub some_delay : 1 ≤ s.delay
  pub delay : s.rate * s.delay ≤ 90000 * s.cpb
