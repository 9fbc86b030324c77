-- Settings and groups, worked by hand.
use Rattle.std.specs.Prelude.{◌≡◌, ℕ, true, refl, Result, Ok, Err}
use Rattle.spec_film.specs.declared.FilmHead.{FilmHead}
use Rattle.spec_words.specs.declared.command.Settings.{Settings}
use Rattle.spec_words.specs.declared.command.SettingFault.{SettingFault}
use Rattle.spec_words.specs.declared.command.SettingFault.TheVariants.{Refs, BigCpb, Slices, SmallCpb, Delay, Level, NoLevel}
use Rattle.spec_words.specs.Choices.{early_of}
use Rattle.spec_levels.specs.Levels.{meets, fits, first_level}
use Rattle.spec_session.specs.Settings.{SessionSettings, completed, setting_of}
use Rattle.spec_session.specs.Groups.{place_from, place_after, whole_from, whole_groups}

-- 25 pictures a second
head : ℕ → ℕ → FilmHead
head width height = record { width = width; height = height; num = 25; den = 1 }

-- a million bits a second, all else as it is by default
ample : Settings
ample = record { rate = 1000000; cpb = 1000000; delay = 45000; qp = 26; refs = 2; bframes = 2; idr = 250; range = 16; slices = 1; workers = 1; level = 0; t8x8 = true }

abbrev level_or : Result SessionSettings SettingFault → Result ℕ SettingFault
level_or (Ok f) = Ok f.level
level_or (Err fault) = Err fault

level_13 : level_or (setting_of ample (head 16 16)) ≡ Ok 13
unfolding ample head early_of completed first_level meets
level_13 = refl

-- 396 macroblocks at 30000/1001 pictures a second
level_13_cif : level_or (setting_of ample (record { width = 352; height = 288; num = 30000; den = 1001 })) ≡ Ok 13
unfolding ample early_of completed first_level meets
level_13_cif = refl

level_12_refused : setting_of (record ample { level = 12 }) (head 16 16) ≡ Err Level
unfolding ample head early_of completed fits meets
level_12_refused = refl

no_such_level : setting_of (record ample { level = 9 }) (head 16 16) ≡ Err Level
unfolding ample head early_of completed fits meets
no_such_level = refl

-- 36,864 macroblocks at 172 pictures a second
none_holds : setting_of ample (record { width = 4096; height = 2304; num = 172; den = 1 }) ≡ Err NoLevel
unfolding ample early_of completed first_level meets
none_holds = refl

-- a picture's share of 64,000 bits a second is 2,560 bits: 48 bits more are needed
small_fits : level_or (setting_of (record ample { rate = 64000; cpb = 2608; delay = 1833 }) (head 16 16)) ≡ Ok 10
unfolding ample head early_of completed first_level meets
small_fits = refl

small_refused : setting_of (record ample { rate = 64000; cpb = 2592; delay = 1833 }) (head 16 16) ≡ Err SmallCpb
unfolding ample head early_of completed
small_refused = refl

no_delay : setting_of (record ample { delay = 0 }) (head 16 16) ≡ Err Delay
unfolding ample head early_of completed
no_delay = refl

long_delay : setting_of (record ample { delay = 90001 }) (head 16 16) ≡ Err Delay
unfolding ample head early_of completed
long_delay = refl

-- a picture of 272 rows of samples has 17 rows of macroblocks
many_slices : setting_of (record ample { slices = 17 }) (head 16 272) ≡ Err Slices
unfolding ample head early_of completed
many_slices = refl

few_rows : setting_of (record ample { slices = 2 }) (head 16 16) ≡ Err Slices
unfolding ample head early_of completed
few_rows = refl

-- the faults that need no film come first, and among the others the slices
first_refs : setting_of (record ample { refs = 1; cpb = 4000000000; slices = 17 }) (head 16 16) ≡ Err Refs
unfolding ample head early_of completed
first_refs = refl

first_cpb : setting_of (record ample { cpb = 100000016; slices = 17 }) (head 16 16) ≡ Err BigCpb
unfolding ample head early_of completed
first_cpb = refl

-- seven pictures, two B pictures at most between others, an IDR picture at every fourth place: the groups are 0, 1 to 3, 4, 5 to 6
settings : SessionSettings
settings = record { head = head 16 16; rate = 1000000; cpb = 1000000; delay = 45000; qp = 26; refs = 2; bframes = 2; idr = 4; range = 16; slices = 1; level = 13; t8x8 = true }

behind_two : place_after settings 2 ≡ record { display = 4; number = 2 }
unfolding settings place_from
behind_two = refl

behind_three : place_after settings 3 ≡ record { display = 5; number = 1 }
unfolding settings place_from
behind_three = refl

-- where the seventh picture is cut, five pictures are coded; where the fourth is, one
five_of_six : whole_groups settings 6 ≡ 5
unfolding settings whole_from
five_of_six = refl

one_of_three : whole_groups settings 3 ≡ 1
unfolding settings whole_from
one_of_three = refl
