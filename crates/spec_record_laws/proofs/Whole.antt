-- The record of a coded macroblock is a record of the syntax.
use Rattle.std.proofs.Common.{◌≡◌, ◌≤◌, ◌+◌, ◌-◌, ◌*◌, ◌/◌, ◌++◌, ◌-ℤ◌, ℕ, zero, suc, ℤ, pos, Bool, true, false, cond, List, [], ◌∷◌, length, get_or, replicate, refl, sym, ap, ap₂, ◌∙◌, arith, subst, lit≤}
use Rattle.std.specs.Prelude.{nat_abs}
use Rattle.std.proofs.lemmas.Int.{ints}
use Rattle.std.proofs.lemmas.List.{get_or_past, get_or-append_right, length-append}
use Rattle.enc_tables.specs.declared.records.MbKind.{MbKind}
use Rattle.enc_tables.specs.declared.records.MbPlan.{MbPlan}
use Rattle.enc_tables.specs.declared.records.SliceKind.{SliceKind}
use Rattle.enc_tables.specs.Kinds.{is_16x16}
use Rattle.spec_contexts.specs.Increments.{some_level}
use Rattle.spec_film.specs.Films.{Planes}
use Rattle.spec_syntax.specs.Elements.{IsDelta}
use Rattle.spec_partitions.specs.Near.{Near, View}
use Rattle.spec_macroblock.specs.Strings.{difference}
use Rattle.spec_partitions.specs.Records.{is_in, HasMotion}
use Rattle.spec_macroblock.specs.Records.{AreModes, QpFits, AreLevels, level_at, IsRecord}
use Rattle.spec_reconstruction.specs.declared.Site.{Site}
use Rattle.spec_reconstruction.specs.Luma.{luma4_levels, luma8_levels, luma16_levels}
use Rattle.spec_reconstruction.specs.Records.{luma_pattern, chroma_pattern, intra_record, both_dc, both_ac, intra4_record, intra8_record, intra16_record}
use Rattle.spec_reconstruction.specs.Slices.{is_8x8, coded_record}
use Rattle.spec_record_laws.specs.Coded.{PlanesFit, ModesFit, IsCodedKind, Stands}
use Rattle.spec_record_laws.proofs.Levels.{are_levels, append_small}
use Rattle.spec_record_laws.proofs.Chosen.{luma4_small, length-luma4, luma8_small, length-luma8, dc16_small, length-dc16, luma16_small, length-luma16, luma16_places, chroma_dc_levels_small, length-chroma_dc_levels, chroma_ac_levels_small, length-chroma_ac}
use Rattle.spec_record_laws.proofs.Pattern.{bits_small, some_in, blank_by_pattern, some_by_pattern, whole_pattern, whole_small, whole_blank, chroma_small, dc_blank, ac_blank}

-- ---- what isn't of one kind

no_difference : (n : ℕ) → (pos n -ℤ pos n) ≡ pos 0
no_difference n = omega (arith, ints)

no_delta : (n : ℕ) → IsDelta (difference n n)
no_delta n = subst (λ (z : ℤ). nat_abs z ≤ 4) (sym (no_difference n)) (lit≤ tt)

delta_fits : (before qp : ℕ) → before ≡ qp → IsDelta (difference before qp)
delta_fits before qp e = subst (λ (n : ℕ). IsDelta (difference n qp)) (sym e) (no_delta qp)

pub qp_fits : (b : Bool) (before qp : ℕ) → before ≡ qp → qp ≤ 51 → QpFits b before qp
qp_fits true before qp e h = (h, delta_fits before qp e)
qp_fits false before qp e h = sym e

pub zeros_at : (n k : ℕ) → get_or {A = ℕ} (replicate n 0) k 0 ≡ 0
zeros_at zero k = refl
zeros_at (suc n) zero = refl
zeros_at (suc n) (suc k) = zeros_at n k

pub no_levels_at : (n k : ℕ) → level_at (replicate n (pos 0)) k ≡ pos 0
no_levels_at zero k = refl
no_levels_at (suc n) zero = refl
no_levels_at (suc n) (suc k) = no_levels_at n k

pub no_levels : (n : ℕ) → AreLevels (replicate n (pos 0))
no_levels n k = subst (λ (z : ℤ). nat_abs z ≤ 8191) (sym (no_levels_at n k)) (lit≤ tt)

-- ---- chroma

record ChromaFits (dc ac : List ℤ) : Type 0 where
  pub dc_length : length dc ≡ 8
  pub dc_levels : AreLevels dc
  pub ac_length : length ac ≡ 120
  pub ac_levels : AreLevels ac

chroma_fits : (wide : ℕ) (site : Site) (mode : ℕ) (source p : Planes) → PlanesFit source → PlanesFit p → ChromaFits (both_dc wide site mode source p) (both_ac wide site mode source p)
unfolding both_dc both_ac
chroma_fits wide site mode source p g h = record {
  dc_length = length-append _ _ ∙ ap₂ (λ (a b : ℕ). a + b) (length-chroma_dc_levels (wide / 2) site mode source.cb p.cb) (length-chroma_dc_levels (wide / 2) site mode source.cr p.cr);
  dc_levels = are_levels _ (append_small 8191 _ _ (chroma_dc_levels_small (wide / 2) site mode source.cb p.cb g.cb h.cb) (chroma_dc_levels_small (wide / 2) site mode source.cr p.cr g.cr h.cr));
  ac_length = length-append _ _ ∙ ap₂ (λ (a b : ℕ). a + b) (length-chroma_ac (wide / 2) site mode source.cb p.cb) (length-chroma_ac (wide / 2) site mode source.cr p.cr);
  ac_levels = are_levels _ (append_small 8191 _ _ (chroma_ac_levels_small (wide / 2) site mode source.cb p.cb g.cb h.cb) (chroma_ac_levels_small (wide / 2) site mode source.cr p.cr g.cr h.cr));
}

-- ---- modes

modes_append : (xs ys : List ℕ) → ((i : ℕ) → get_or xs i 0 ≤ 8) → ((i : ℕ) → get_or ys i 0 ≤ 8) → (i : ℕ) → get_or (xs ++ ys) i 0 ≤ 8
modes_append [] ys h g i = g i
modes_append (x ∷ xs) ys h g zero = h zero
modes_append (x ∷ xs) ys h g (suc i) = modes_append xs ys (λ j. h (suc j)) g i

pub none_small : (n i : ℕ) → get_or (replicate n 0) i 0 ≤ 8
none_small n i = let e = zeros_at n i in omega arith

modes8_blank : (modes : List ℕ) → length modes ≡ 4 → (i : ℕ) → 4 ≤ i → get_or {A = ℕ} (modes ++ replicate 12 0) i 0 ≡ 0
modes8_blank modes e i h = get_or-append_right modes (replicate 12 0) 4 i 0 e h ∙ zeros_at 12 (i - 4)

pub whole_modes : (m i : ℕ) → m ≤ 3 → get_or (m ∷ replicate 15 0) i 0 ≤ 8
whole_modes m zero h = omega arith
whole_modes m (suc i) h = none_small 15 i

pub whole_modes_blank : (m i : ℕ) → 1 ≤ i → get_or {A = ℕ} (m ∷ replicate 15 0) i 0 ≡ 0
whole_modes_blank m zero h = absurd (omega arith)
whole_modes_blank m (suc i) h = zeros_at 15 i

-- ---- the three kinds

intra4_in : (s : SliceKind) → is_in s MbKind.Intra4 ≡ true
intra4_in SliceKind.I = refl
intra4_in SliceKind.P = refl
intra4_in SliceKind.B = refl

intra8_in : (s : SliceKind) → is_in s MbKind.Intra8 ≡ true
intra8_in SliceKind.I = refl
intra8_in SliceKind.P = refl
intra8_in SliceKind.B = refl

pub intra16_in : (s : SliceKind) → is_in s MbKind.Intra16 ≡ true
intra16_in SliceKind.I = refl
intra16_in SliceKind.P = refl
intra16_in SliceKind.B = refl

pub intra4_moves : (view : View) (wide : ℕ) (site : Site) (modes : List ℕ) (chroma : ℕ) (source p : Planes) → HasMotion view (intra4_record wide site modes chroma source p)
unfolding intra4_record intra_record
intra4_moves view wide site modes chroma source p = record { same = refl }

pub intra8_moves : (view : View) (wide : ℕ) (site : Site) (modes : List ℕ) (chroma : ℕ) (source p : Planes) → HasMotion view (intra8_record wide site modes chroma source p)
unfolding intra8_record intra_record
intra8_moves view wide site modes chroma source p = record { same = refl }

pub intra16_moves : (view : View) (wide : ℕ) (site : Site) (mode chroma : ℕ) (source p : Planes) → HasMotion view (intra16_record wide site mode chroma source p)
unfolding intra16_record intra_record
intra16_moves view wide site mode chroma source p = record { same = refl }

pub intra4_fits : (near : Near) (wide : ℕ) (site : Site) (modes : List ℕ) (chroma : ℕ) (source p : Planes) → Stands near site → length modes ≡ 16 → AreModes modes → chroma ≤ 3 → PlanesFit source → PlanesFit p → IsRecord near (intra4_record wide site modes chroma source p)
unfolding intra4_record intra_record luma_pattern chroma_pattern
intra4_fits near wide site modes chroma source p s count m small g h =
    let levels : List ℤ = luma4_levels wide site modes source.luma p.luma in
    let long : length levels ≡ 256 = length-luma4 wide site modes source.luma p.luma in
    let dc : List ℤ = both_dc wide site chroma source p in
    let ac : List ℤ = both_ac wide site chroma source p in
    let c : ChromaFits dc ac = chroma_fits wide site chroma source p g h in
    record {
      in_slice = intra4_in near.kind;
      transform_fits = refl;
      left_modes = s.left_modes;
      above_modes = s.above_modes;
      modes_length = count;
      modes_known = m;
      modes_blank = λ i past. get_or_past modes i 0 (omega arith);
      whole_fits = tt;
      chroma_mode_fits = small;
      chroma_mode_blank = λ e. absurd cc;
      parts_fit = λ e. absurd cc;
      mvds_fit = λ e. absurd cc;
      mvd_is = refl;
      cbp_blank = λ e. absurd cc;
      luma_cbp_fits = bits_small (some_in levels 0) (some_in levels 1) (some_in levels 2) (some_in levels 3);
      chroma_cbp_fits = chroma_small (some_level ac) (some_level dc);
      qp_fits = qp_fits _ near.qp site.qp s.same_qp s.qp_fits;
      dc_length = refl;
      dc_levels = no_levels 16;
      dc_blank = λ e i. no_levels_at 16 i;
      luma_length = long;
      luma_levels = are_levels levels (luma4_small wide site modes source.luma p.luma g.luma h.luma);
      luma_blank = blank_by_pattern levels long;
      luma_some = λ e. absurd (cc);
      luma_places = λ e. absurd (cc);
      chroma_dc_length = c.dc_length;
      chroma_dc_levels = c.dc_levels;
      chroma_dc_blank = dc_blank (some_level ac) (some_level dc) dc refl;
      chroma_ac_length = c.ac_length;
      chroma_ac_levels = c.ac_levels;
      chroma_ac_blank = ac_blank (some_level ac) (some_level dc) ac refl;
    }

pub intra8_fits : (near : Near) (wide : ℕ) (site : Site) (modes : List ℕ) (chroma : ℕ) (source p : Planes) → Stands near site → near.t8x8 ≡ true → length modes ≡ 16 → AreModes modes → ((i : ℕ) → 4 ≤ i → get_or {A = ℕ} modes i 0 ≡ 0) → chroma ≤ 3 → PlanesFit source → PlanesFit p → IsRecord near (intra8_record wide site modes chroma source p)
unfolding intra8_record intra_record luma_pattern chroma_pattern
intra8_fits near wide site modes chroma source p s t8 count m blank small g h =
    let levels : List ℤ = luma8_levels wide site modes source.luma p.luma in
    let long : length levels ≡ 256 = length-luma8 wide site modes source.luma p.luma in
    let dc : List ℤ = both_dc wide site chroma source p in
    let ac : List ℤ = both_ac wide site chroma source p in
    let c : ChromaFits dc ac = chroma_fits wide site chroma source p g h in
    record {
      in_slice = intra8_in near.kind;
      transform_fits = (t8, refl);
      left_modes = s.left_modes;
      above_modes = s.above_modes;
      modes_length = count;
      modes_known = m;
      modes_blank = blank;
      whole_fits = tt;
      chroma_mode_fits = small;
      chroma_mode_blank = λ e. absurd cc;
      parts_fit = λ e. absurd cc;
      mvds_fit = λ e. absurd cc;
      mvd_is = refl;
      cbp_blank = λ e. absurd cc;
      luma_cbp_fits = bits_small (some_in levels 0) (some_in levels 1) (some_in levels 2) (some_in levels 3);
      chroma_cbp_fits = chroma_small (some_level ac) (some_level dc);
      qp_fits = qp_fits _ near.qp site.qp s.same_qp s.qp_fits;
      dc_length = refl;
      dc_levels = no_levels 16;
      dc_blank = λ e i. no_levels_at 16 i;
      luma_length = long;
      luma_levels = are_levels levels (luma8_small wide site modes source.luma p.luma g.luma h.luma);
      luma_blank = blank_by_pattern levels long;
      luma_some = λ e k inside on. some_by_pattern levels k inside on;
      luma_places = λ e. absurd (cc);
      chroma_dc_length = c.dc_length;
      chroma_dc_levels = c.dc_levels;
      chroma_dc_blank = dc_blank (some_level ac) (some_level dc) dc refl;
      chroma_ac_length = c.ac_length;
      chroma_ac_levels = c.ac_levels;
      chroma_ac_blank = ac_blank (some_level ac) (some_level dc) ac refl;
    }

pub intra16_fits : (near : Near) (wide : ℕ) (site : Site) (mode chroma : ℕ) (source p : Planes) → Stands near site → mode ≤ 3 → chroma ≤ 3 → PlanesFit source → PlanesFit p → IsRecord near (intra16_record wide site mode chroma source p)
unfolding intra16_record intra_record luma_pattern chroma_pattern
intra16_fits near wide site mode chroma source p s m small g h =
    let levels : List ℤ = luma16_levels wide site mode source.luma p.luma in
    let long : length levels ≡ 256 = length-luma16 wide site mode source.luma p.luma in
    let dc : List ℤ = both_dc wide site chroma source p in
    let ac : List ℤ = both_ac wide site chroma source p in
    let c : ChromaFits dc ac = chroma_fits wide site chroma source p g h in
    record {
      in_slice = intra16_in near.kind;
      transform_fits = refl;
      left_modes = s.left_modes;
      above_modes = s.above_modes;
      modes_length = refl;
      modes_known = λ i. whole_modes mode i m;
      modes_blank = whole_modes_blank mode;
      whole_fits = (m, whole_pattern (some_level levels));
      chroma_mode_fits = small;
      chroma_mode_blank = λ e. absurd cc;
      parts_fit = λ e. absurd cc;
      mvds_fit = λ e. absurd cc;
      mvd_is = refl;
      cbp_blank = λ e. absurd cc;
      luma_cbp_fits = whole_small (some_level levels);
      chroma_cbp_fits = chroma_small (some_level ac) (some_level dc);
      qp_fits = qp_fits true near.qp site.qp s.same_qp s.qp_fits;
      dc_length = length-dc16 wide site mode source.luma p.luma;
      dc_levels = are_levels _ (dc16_small wide site mode source.luma p.luma g.luma h.luma);
      dc_blank = λ e. absurd (cc);
      luma_length = long;
      luma_levels = are_levels levels (luma16_small wide site mode source.luma p.luma g.luma h.luma);
      luma_blank = whole_blank levels (some_level levels) refl long;
      luma_some = λ e. absurd (cc);
      luma_places = λ e. luma16_places wide site mode source.luma p.luma;
      chroma_dc_length = c.dc_length;
      chroma_dc_levels = c.dc_levels;
      chroma_dc_blank = dc_blank (some_level ac) (some_level dc) dc refl;
      chroma_ac_length = c.ac_length;
      chroma_ac_levels = c.ac_levels;
      chroma_ac_blank = ac_blank (some_level ac) (some_level dc) ac refl;
    }

pub records_are_coded : (near : Near) (width : ℕ) (site : Site) (kind : MbKind) (plan : MbPlan) (source p : Planes) → Stands near site → IsCodedKind near.t8x8 kind → ModesFit plan → PlanesFit source → PlanesFit p → IsRecord near (coded_record width site kind plan source p)
unfolding coded_record
records_are_coded near width site MbKind.Intra4 plan source p s k m g h = intra4_fits near (16 * width) site plan.modes4 plan.chroma_mode source p s m.modes4_length m.modes4 m.chroma_mode g h
records_are_coded near width site MbKind.Intra8 plan source p s k m g h =
    intra8_fits near (16 * width) site (plan.modes8 ++ replicate 12 0) plan.chroma_mode source p s k
    (length-append plan.modes8 (replicate 12 0) ∙ ap (λ (n : ℕ). n + 12) m.modes8_length) (modes_append plan.modes8 (replicate 12 0) m.modes8 (none_small 12)) (modes8_blank plan.modes8 m.modes8_length) m.chroma_mode g h
records_are_coded near width site MbKind.Intra16 plan source p s k m g h = intra16_fits near (16 * width) site plan.mode16 plan.chroma_mode source p s m.mode16 m.chroma_mode g h
records_are_coded near width site _ plan source p s k m g h = absurd k

-- what the next macroblock's QP is predicted from
pub record_qp : (width : ℕ) (site : Site) (kind : MbKind) (plan : MbPlan) (source p : Planes) → (coded_record width site kind plan source p).qp ≡ site.qp
unfolding coded_record intra4_record intra8_record intra16_record intra_record
record_qp width site kind plan source p = by (is_16x16 kind) (is_8x8 kind)
  where
    by : (a b : Bool) → (cond a (intra16_record (16 * width) site plan.mode16 plan.chroma_mode source p) (cond b (intra8_record (16 * width) site (plan.modes8 ++ replicate 12 0) plan.chroma_mode source p) (intra4_record (16 * width) site plan.modes4 plan.chroma_mode source p))).qp ≡ site.qp
    by true b = refl
    by false true = refl
    by false false = refl

-- intra macroblocks have no motion, which is what a decoder derives of them
pub coded_moves : (view : View) (width : ℕ) (site : Site) (kind : MbKind) (plan : MbPlan) (source p : Planes) → HasMotion view (coded_record width site kind plan source p)
unfolding coded_record
coded_moves view width site kind plan source p = by (is_16x16 kind) (is_8x8 kind)
  where
    by : (a b : Bool) → HasMotion view (cond a (intra16_record (16 * width) site plan.mode16 plan.chroma_mode source p) (cond b (intra8_record (16 * width) site (plan.modes8 ++ replicate 12 0) plan.chroma_mode source p) (intra4_record (16 * width) site plan.modes4 plan.chroma_mode source p)))
    by true b = intra16_moves view (16 * width) site plan.mode16 plan.chroma_mode source p
    by false true = intra8_moves view (16 * width) site (plan.modes8 ++ replicate 12 0) plan.chroma_mode source p
    by false false = intra4_moves view (16 * width) site plan.modes4 plan.chroma_mode source p
