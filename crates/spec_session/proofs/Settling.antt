-- What is known of settings that aren't refused.
use Rattle.std.proofs.Common.{◌≡◌, ◌≤◌, ◌<◌, ◌+◌, ◌*◌, ◌⊎◌, inl, inr, ℕ, Bool, true, false, cond, List, [], ◌∷◌, Option, Some, None, Result, Ok, Err, refl, sym, subst, arith}
use Rattle.std.specs.Prelude.{◌==◌, ◌&&◌, ◌||◌, not, nat_lt, nat_le, IfSome}
use Rattle.std.specs.List.{list_any, list_all}
use Rattle.std.proofs.lemmas.Bool.Decides.{nat_tests}
use Rattle.spec_basics.specs.Sizes.{in_macroblocks}
use Rattle.spec_film.specs.declared.FilmHead.{FilmHead}
use Rattle.spec_film.specs.Films.{AllowedHead, Planes}
use Rattle.spec_levels.specs.declared.TheConstants.{LEVELS}
use Rattle.spec_levels.specs.declared.Need.{Need}
use Rattle.spec_levels.specs.Levels.{meets, fits, least_level, IsLeast}
use Rattle.spec_levels.proofs.First.{least_is}
use Rattle.spec_headers.specs.Allowed.{IsSeqHead}
use Rattle.spec_buffer.specs.Buffer.{IsRate}
use Rattle.spec_plan.specs.Plan.{fixed}
use Rattle.spec_plan.specs.Marks.{HasRoom}
use Rattle.spec_words.specs.declared.command.Settings.{Settings}
use Rattle.spec_words.specs.declared.command.SettingFault.{SettingFault}
use Rattle.spec_words.specs.declared.command.SettingFault.TheVariants.{Refs, Slices, SmallCpb, Delay, Level, NoLevel}
use Rattle.spec_words.specs.Choices.{early_of}
use Rattle.spec_record_laws.specs.Coded.{PlanesFit}
use Rattle.spec_film_coder.specs.Sound.{IsFilm}
use Rattle.spec_session.specs.Settings.{SessionSettings, AreInRange, has_many_slices, has_small_cpb, has_bad_delay, need_of, level_of, settled, with_level, completed, setting_of, with_workers, Completes}
use Rattle.spec_session.specs.Encodings.{sequence_of, coder_of, rate_of}

-- ---- levels

low_by : (q : ℕ × List ℕ → Bool) (most k : ℕ) (levels : List (ℕ × List ℕ)) → list_all (λ l. nat_le l.0 most) levels ≡ true → list_any (λ l. (l.0 == k) && q l) levels ≡ true → k ≤ most
low_by q most k [] all e = absurd cc
low_by q most k (x ∷ xs) all e = by (nat_le x.0 most) (x.0 == k) (q x) refl refl all e (low_by q most k xs)
  where
    by : (a b c : Bool) → nat_le x.0 most ≡ a → (x.0 == k) ≡ b → (a && list_all (λ l. nat_le l.0 most) xs) ≡ true → ((b && c) || list_any (λ l. (l.0 == k) && q l) xs) ≡ true
        → (list_all (λ l. nat_le l.0 most) xs ≡ true → list_any (λ l. (l.0 == k) && q l) xs ≡ true → k ≤ most) → k ≤ most
    by false b c h g all e ih = absurd cc
    by true true c h g all e ih = grind (arith, nat_tests)
    by true false c h g all e ih = ih all e

levels_low : list_all (λ (l : ℕ × List ℕ). nat_le l.0 51) LEVELS ≡ true
levels_low = refl

pub level_low : (k : ℕ) (n : Need) → fits k n ≡ true → k ≤ 51
unfolding fits
level_low k n e = low_by (λ l. meets l.1 n) 51 k LEVELS levels_low e

-- ---- one test after another

passed : {A E : Type 0} (b : Bool) (e : E) (r : Result A E) (x : A) → cond b (Err e) r ≡ Ok x → (b ≡ false) × (r ≡ Ok x)
passed true e r x h = absurd cc
passed false e r x h = (refl, h)

not_less : (a b : ℕ) → nat_lt a b ≡ false → b ≤ a
not_less a b e = grind (arith, nat_tests)

neither : (a b : Bool) → (a || b) ≡ false → (a ≡ false) × (b ≡ false)
neither true b e = absurd cc
neither false b e = (refl, e)

some_is : (n : ℕ) → (n == 0) ≡ false → 1 ≤ n
some_is n e = grind (arith, nat_tests)

zero_is : (n : ℕ) → (n == 0) ≡ true → n ≡ 0
zero_is n e = grind (arith, nat_tests)

-- ---- the level

record Leveled (s : Settings) (h : FilmHead) (level : ℕ) : Type 0 where
  fits_it : fits level (need_of s h) ≡ true
  asked : (s.level ≡ level) ⊎ ((s.level ≡ 0) × (least_level (need_of s h) ≡ Some level))

least_fits : (n : Need) (k : ℕ) → least_level n ≡ Some k → fits k n ≡ true
least_fits n k e = (subst (λ o. IfSome o (λ level. IsLeast level n)) e (least_is n)).fits_it

leveled : (s : Settings) (h : FilmHead) (k : ℕ) → level_of s h ≡ Ok k → Leveled s h k
leveled s h k e = by (s.level == 0) refl (least_level (need_of s h)) refl (fits s.level (need_of s h)) refl e
  where
    by : (none : Bool) → (s.level == 0) ≡ none → (o : Option ℕ) → least_level (need_of s h) ≡ o → (b : Bool) → fits s.level (need_of s h) ≡ b
        → cond none (elim o as (λ _. Result ℕ SettingFault) [ None ↦ Err NoLevel | Some l ↦ Ok l ]) (cond b (Ok s.level) (Err Level)) ≡ Ok k → Leveled s h k
    by true z None l b f e = absurd cc
    by true z (Some j) l b f e =
        let same : j ≡ k = cc in
        subst (λ n. Leveled s h n) same (record { fits_it = least_fits (need_of s h) j l; asked = inr (zero_is s.level z, l) })
    by false z o l false f e = absurd cc
    by false z o l true f e =
        let same : s.level ≡ k = cc in
        subst (λ n. Leveled s h n) same (record { fits_it = f; asked = inl refl })

-- ---- all of them

by_level : (s : Settings) (h : FilmHead) (f : SessionSettings) (r : Result ℕ SettingFault) → with_level s h r ≡ Ok f → (level : ℕ) × (r ≡ Ok level) × (f ≡ settled s h level)
by_level s h f (Err fault) e = absurd cc
by_level s h f (Ok level) e = let same : settled s h level ≡ f = cc in (level, refl, sym same)

pub completes : (s : Settings) (h : FilmHead) (f : SessionSettings) → completed s h ≡ Ok f → Completes s h f
unfolding completed
completes s h f e =
    let slices = passed (has_many_slices s h) Slices _ f e in
    let cpb = passed (has_small_cpb s h) SmallCpb _ f slices.1 in
    let delay = passed (has_bad_delay s) Delay _ f cpb.1 in
    let level = by_level s h f (level_of s h) delay.1 in
    let fit = leveled s h level.0 level.1 in
    let many = neither (nat_lt 16 s.slices) (nat_lt (in_macroblocks h.height) s.slices) slices.0 in
    let late = neither (s.delay == 0) (nat_lt (90000 * s.cpb) (s.rate * s.delay)) delay.0 in
    record {
      level = level.0;
      settled_is = level.2;
      fits_it = fit.fits_it;
      asked = fit.asked;
      few_slices = not_less 16 s.slices many.0;
      rows = not_less (in_macroblocks h.height) s.slices many.1;
      share = not_less (s.cpb * h.num) (s.rate * h.den + 48 * h.num) cpb.0;
      some_delay = some_is s.delay late.0;
      delay = not_less (90000 * s.cpb) (s.rate * s.delay) late.1;
    }

-- ---- places for references, where no setting that needs no film is refused

none_taken : {A : Type 0} (b : Bool) (x : A) (o : Option A) → cond b (Some x) o ≡ None → b ≡ false
none_taken true x o e = absurd cc
none_taken false x o e = refl

room_by : (refs bframes : ℕ) → 1 ≤ refs → (refs == 1 && not (bframes == 0)) ≡ false → HasRoom (fixed bframes) refs
room_by refs bframes some e = by (refs == 1) (bframes == 0) refl refl e
  where
    by : (a b : Bool) → (refs == 1) ≡ a → (bframes == 0) ≡ b → (a && not b) ≡ false → HasRoom (fixed bframes) refs
    by true true f g e = let z = zero_is bframes g in inr (λ d. omega (arith, z))
    by true false f g e = absurd cc
    by false b f g e = inl (two refs some f)
      where
        two : (n : ℕ) → 1 ≤ n → (n == 1) ≡ false → 2 ≤ n
        two n some e = grind (arith, nat_tests)

pub has_room : (s : Settings) → 1 ≤ s.refs → early_of s ≡ None → HasRoom (fixed s.bframes) s.refs
unfolding early_of
has_room s some e = room_by s.refs s.bframes some (none_taken (s.refs == 1 && not (s.bframes == 0)) Refs _ e)

-- ---- the film's coder, its buffer and its plan

pub rate_is : (s : Settings) (h : FilmHead) (f : SessionSettings) → AllowedHead h → Completes s h f → IsRate (rate_of f)
rate_is s h f head c = subst (λ (g : SessionSettings). IsRate (rate_of g)) (sym c.settled_is) (record { some = head.num_least; share = c.share; first = c.delay })

sequence_is : (s : Settings) (h : FilmHead) (level : ℕ) → AreInRange s → AllowedHead h → IsSeqHead (sequence_of (settled s h level))
sequence_is s h level r head =
    let num = head.num_most in
    let den = head.den_most in
    let rate = r.rate_most in
    let cpb = r.cpb_most in
    record {
      width_from = head.width_least;
      width_to = head.width_most;
      width_even = head.width_even;
      height_from = head.height_least;
      height_to = head.height_most;
      height_even = head.height_even;
      refs_from = r.refs_least;
      refs_to = r.refs_most;
      timing = record {
        num_from = head.num_least;
        num_to = omega (arith, num);
        den_from = head.den_least;
        den_to = omega (arith, den);
        rate_from = r.rate_least;
        rate_to = omega (arith, rate);
        rate_whole = r.rate_whole;
        cpb_from = r.cpb_least;
        cpb_to = omega (arith, cpb);
        cpb_whole = r.cpb_whole;
      };
    }

pub film_is : (s : Settings) (h : FilmHead) (f : SessionSettings) (pictures : ℕ) (source : ℕ → Planes) → AreInRange s → AllowedHead h → early_of s ≡ None → Completes s h f → pictures ≤ 4000000 → ((d : ℕ) → d < pictures → PlanesFit (source d))
    → IsFilm (coder_of f) (rate_of f) (fixed f.bframes) f.idr pictures source
film_is s h f pictures source r head none c few fit =
    let slices = r.slices_least in
    let level = level_low c.level (need_of s h) c.fits_it in
    let idr_some = r.idr_least in
    let idr_most = r.idr_most in
    subst (λ (g : SessionSettings). IsFilm (coder_of g) (rate_of g) (fixed g.bframes) g.idr pictures source) (sym c.settled_is)
    (record {
      settings = record { sequence = sequence_is s h c.level r head; some = slices; few = c.rows; range = r.range_most };
      level = omega (arith, level);
      idr_some = idr_some;
      idr_most = omega (arith, idr_most);
      room = has_room s r.refs_least none;
      few = few;
      fit = fit;
      some_delay = c.some_delay;
      delay = r.delay;
    })

-- ---- workers

pub same_setting : (s : Settings) (workers : ℕ) (h : FilmHead) → setting_of (with_workers workers s) h ≡ setting_of s h
unfolding early_of completed
same_setting s workers h = refl
