-- The levels of coded macroblocks: their sizes, and how many there are.
use Rattle.std.proofs.Common.{◌≡◌, ◌≤◌, ◌-◌, ◌*◌, ◌-ℤ◌, ℕ, ℤ, pos, Bool, true, List, length, drop, ap, ◌∙◌, arith}
use Rattle.std.specs.Prelude.{slice_set}
use Rattle.std.proofs.lemmas.Int.{ints}
use Rattle.std.proofs.lemmas.List.{length-drop}
use Rattle.spec_residual.specs.declared.BlockKind.TheVariants.{Luma4, LumaDc, Chroma4}
use Rattle.spec_basics.specs.Bounds.{Within}
use Rattle.spec_residual.specs.Blocks.{item}
use Rattle.spec_reconstruction.specs.declared.Site.{Site}
use Rattle.spec_reconstruction.specs.Residuals.{differences, spectrum4, spectrum8, luma_levels4, luma_levels8, levels_without_dc}
use Rattle.spec_reconstruction.specs.InOrder.{levels_in_order}
use Rattle.spec_reconstruction.specs.Luma.{prediction4, prediction8, prediction16, build4, build8, choose4, choose8, place16, spectrum16, firsts16, luma4_levels, luma8_levels, luma16_dc, luma16_levels}
use Rattle.spec_reconstruction.specs.Chroma.{prediction_chroma, spectrum_chroma, chroma_dc, chroma_ac, chroma_dc_levels, chroma_ac_levels}
use Rattle.spec_record_laws.specs.Coded.{AreBytes}
use Rattle.spec_record_laws.proofs.Sums.{AreSmall}
use Rattle.spec_record_laws.proofs.Predicted.{block4_bytes, block8_bytes, block16_bytes, chroma_bytes}
use Rattle.spec_record_laws.proofs.Built.{rows_bytes, build4_bytes, build8_bytes, coded_bytes}
use Rattle.spec_record_laws.proofs.Levels.{listed_small, forward4_small, first_small, forward8_small, luma_dc_small, chroma_dc_small, set_small, zeros_small, steps_small, levels4_small, levels8_small, chroma_levels_small, length-levels4, length-levels8, length-chroma_dc, first_is_none, drop_small, joined_small, length-joined, places_none}

-- ---- differences

difference_small : (a b : ℕ) → a ≤ 255 → b ≤ 255 → Within 255 (pos a -ℤ pos b)
difference_small a b g h = record { low = omega (arith, ints); high = omega (arith, ints) }

pub differences_small : (n : ℕ) (source prediction : List ℕ) → AreBytes source → AreBytes prediction → AreSmall 255 (differences n source prediction)
unfolding differences
differences_small n source prediction g h = listed_small n 255 _ (λ k. difference_small _ _ (g.at k) (h.at k))

pub spectrum4_small : (source prediction : List ℕ) → AreBytes source → AreBytes prediction → AreSmall 9180 (spectrum4 source prediction)
unfolding spectrum4
spectrum4_small source prediction g h = forward4_small _ (differences_small 16 source prediction g h)

spectrum4_first : (source prediction : List ℕ) → AreBytes source → AreBytes prediction → Within 4080 (item (spectrum4 source prediction) 0)
unfolding spectrum4
spectrum4_first source prediction g h = first_small _ (differences_small 16 source prediction g h)

without_dc_small : (qp : ℕ) (xs : List ℤ) → AreSmall 9180 xs → AreSmall 8191 (levels_without_dc Luma4 true qp xs)
unfolding levels_without_dc
without_dc_small qp xs h = levels4_small _ Luma4 qp _ (set_small 9180 xs 0 (pos 0) h (record { low = omega (arith, ints); high = omega (arith, ints) }))

pub chroma_without_dc_small : (intra : Bool) (qp : ℕ) (xs : List ℤ) → AreSmall 9180 xs → AreSmall 8191 (levels_without_dc Chroma4 intra qp xs)
unfolding levels_without_dc
chroma_without_dc_small intra qp xs h = levels4_small _ Chroma4 qp _ (set_small 9180 xs 0 (pos 0) h (record { low = omega (arith, ints); high = omega (arith, ints) }))

-- ---- Intra 4x4

chosen4_small : (wide : ℕ) (site : Site) (modes source : List ℕ) (b : ℕ) (plane : List ℕ) → AreBytes source → AreBytes plane → AreSmall 8191 (choose4 wide site modes source b plane)
unfolding choose4 luma_levels4 prediction4
chosen4_small wide site modes source b plane g h = levels4_small _ Luma4 site.qp _ (spectrum4_small _ _ (rows_bytes wide _ _ 4 source 4 g) (block4_bytes wide _ plane _ _ _ h))

pub luma4_small : (wide : ℕ) (site : Site) (modes source plane : List ℕ) → AreBytes source → AreBytes plane → AreSmall 8191 (luma4_levels wide site modes source plane)
unfolding luma4_levels levels_in_order
luma4_small wide site modes source plane g h =
    joined_small 8191 _ 16 (λ b. chosen4_small wide site modes source b _ g (coded_bytes (build4 wide site modes) (choose4 wide site modes source) b plane (build4_bytes wide site modes) h))

length-chosen4 : (wide : ℕ) (site : Site) (modes source : List ℕ) (b : ℕ) (plane : List ℕ) → length (choose4 wide site modes source b plane) ≡ 16
unfolding choose4 luma_levels4
length-chosen4 wide site modes source b plane = length-levels4 _ Luma4 site.qp _

pub length-luma4 : (wide : ℕ) (site : Site) (modes source plane : List ℕ) → length (luma4_levels wide site modes source plane) ≡ 256
unfolding luma4_levels levels_in_order
length-luma4 wide site modes source plane = length-joined _ 16 16 (λ b. length-chosen4 wide site modes source b _)

-- ---- Intra 8x8

chosen8_small : (wide : ℕ) (site : Site) (modes source : List ℕ) (b : ℕ) (plane : List ℕ) → AreBytes source → AreBytes plane → AreSmall 8191 (choose8 wide site modes source b plane)
unfolding choose8 luma_levels8 prediction8 spectrum8
chosen8_small wide site modes source b plane g h =
    levels8_small _ site.qp _ (forward8_small _ (differences_small 64 _ _ (rows_bytes wide _ _ 8 source 8 g) (block8_bytes wide _ plane _ _ _ h)))

pub luma8_small : (wide : ℕ) (site : Site) (modes source plane : List ℕ) → AreBytes source → AreBytes plane → AreSmall 8191 (luma8_levels wide site modes source plane)
unfolding luma8_levels levels_in_order
luma8_small wide site modes source plane g h =
    joined_small 8191 _ 4 (λ b. chosen8_small wide site modes source b _ g (coded_bytes (build8 wide site modes) (choose8 wide site modes source) b plane (build8_bytes wide site modes) h))

length-chosen8 : (wide : ℕ) (site : Site) (modes source : List ℕ) (b : ℕ) (plane : List ℕ) → length (choose8 wide site modes source b plane) ≡ 64
unfolding choose8 luma_levels8
length-chosen8 wide site modes source b plane = length-levels8 _ site.qp _

pub length-luma8 : (wide : ℕ) (site : Site) (modes source plane : List ℕ) → length (luma8_levels wide site modes source plane) ≡ 256
unfolding luma8_levels levels_in_order
length-luma8 wide site modes source plane = length-joined _ 64 4 (λ b. length-chosen8 wide site modes source b _)

-- ---- Intra 16x16

prediction16_bytes : (wide : ℕ) (site : Site) (mode : ℕ) (plane : List ℕ) → AreBytes plane → AreBytes (prediction16 wide site mode plane)
unfolding prediction16
prediction16_bytes wide site mode plane h = block16_bytes wide mode plane site.near site.x site.y h

spectrum16_small : (wide : ℕ) (site : Site) (source prediction : List ℕ) (b : ℕ) → AreBytes source → AreBytes prediction → AreSmall 9180 (spectrum16 wide site source prediction b)
unfolding spectrum16
spectrum16_small wide site source prediction b g h = spectrum4_small _ _ (rows_bytes wide _ _ 4 source 4 g) (rows_bytes 16 _ _ 4 prediction 4 h)

spectrum16_first : (wide : ℕ) (site : Site) (source prediction : List ℕ) (b : ℕ) → AreBytes source → AreBytes prediction → Within 4080 (item (spectrum16 wide site source prediction b) 0)
unfolding spectrum16
spectrum16_first wide site source prediction b g h = spectrum4_first _ _ (rows_bytes wide _ _ 4 source 4 g) (rows_bytes 16 _ _ 4 prediction 4 h)

firsts_small : (wide : ℕ) (site : Site) (source prediction : List ℕ) → AreBytes source → AreBytes prediction → AreSmall 4080 (firsts16 wide site source prediction)
unfolding firsts16
firsts_small wide site source prediction g h =
    steps_small 4080 _ 16 _ (λ b d small. set_small 4080 d (place16 b) _ small (spectrum16_first wide site source prediction b g h)) (zeros_small 4080 16)

pub dc16_small : (wide : ℕ) (site : Site) (mode : ℕ) (source plane : List ℕ) → AreBytes source → AreBytes plane → AreSmall 8191 (luma16_dc wide site mode source plane)
unfolding luma16_dc
dc16_small wide site mode source plane g h = levels4_small _ LumaDc site.qp _ (luma_dc_small _ (firsts_small wide site source _ g (prediction16_bytes wide site mode plane h)))

pub length-dc16 : (wide : ℕ) (site : Site) (mode : ℕ) (source plane : List ℕ) → length (luma16_dc wide site mode source plane) ≡ 16
unfolding luma16_dc
length-dc16 wide site mode source plane = length-levels4 _ LumaDc site.qp _

pub luma16_small : (wide : ℕ) (site : Site) (mode : ℕ) (source plane : List ℕ) → AreBytes source → AreBytes plane → AreSmall 8191 (luma16_levels wide site mode source plane)
unfolding luma16_levels
luma16_small wide site mode source plane g h =
    joined_small 8191 _ 16 (λ b. without_dc_small site.qp _ (spectrum16_small wide site source _ b g (prediction16_bytes wide site mode plane h)))

length-without_dc : (qp : ℕ) (xs : List ℤ) → length (levels_without_dc Luma4 true qp xs) ≡ 16
unfolding levels_without_dc
length-without_dc qp xs = length-levels4 _ Luma4 qp _

none_without_dc : (qp : ℕ) (xs : List ℤ) → item (levels_without_dc Luma4 true qp xs) 0 ≡ pos 0
unfolding levels_without_dc
none_without_dc qp xs = first_is_none qp xs

pub length-luma16 : (wide : ℕ) (site : Site) (mode : ℕ) (source plane : List ℕ) → length (luma16_levels wide site mode source plane) ≡ 256
unfolding luma16_levels
length-luma16 wide site mode source plane = length-joined _ 16 16 (λ b. length-without_dc site.qp _)

pub luma16_places : (wide : ℕ) (site : Site) (mode : ℕ) (source plane : List ℕ) (b : ℕ) → item (luma16_levels wide site mode source plane) (16 * b) ≡ pos 0
unfolding luma16_levels
luma16_places wide site mode source plane b = places_none _ (λ b. length-without_dc site.qp _) (λ b. none_without_dc site.qp _) b

-- ---- chroma

prediction_chroma_bytes : (wide : ℕ) (site : Site) (mode : ℕ) (plane : List ℕ) → AreBytes plane → AreBytes (prediction_chroma wide site mode plane)
unfolding prediction_chroma
prediction_chroma_bytes wide site mode plane h = chroma_bytes wide mode plane site.near _ _ h

pub spectrum_chroma_small : (wide : ℕ) (site : Site) (source prediction : List ℕ) (b : ℕ) → AreBytes source → AreBytes prediction → AreSmall 9180 (spectrum_chroma wide site source prediction b)
unfolding spectrum_chroma
spectrum_chroma_small wide site source prediction b g h = spectrum4_small _ _ (rows_bytes wide _ _ 4 source 4 g) (rows_bytes 8 _ _ 4 prediction 4 h)

pub spectrum_chroma_first : (wide : ℕ) (site : Site) (source prediction : List ℕ) (b : ℕ) → AreBytes source → AreBytes prediction → Within 4080 (item (spectrum_chroma wide site source prediction b) 0)
unfolding spectrum_chroma
spectrum_chroma_first wide site source prediction b g h = spectrum4_first _ _ (rows_bytes wide _ _ 4 source 4 g) (rows_bytes 8 _ _ 4 prediction 4 h)

pub chroma_dc_levels_small : (wide : ℕ) (site : Site) (mode : ℕ) (source plane : List ℕ) → AreBytes source → AreBytes plane → AreSmall 8191 (chroma_dc wide site mode source plane)
unfolding chroma_dc chroma_dc_levels
chroma_dc_levels_small wide site mode source plane g h =
    chroma_levels_small _ _ _ (chroma_dc_small _ (listed_small 4 4080 _ (λ b. spectrum_chroma_first wide site source _ b g (prediction_chroma_bytes wide site mode plane h))))

pub length-chroma_dc_levels : (wide : ℕ) (site : Site) (mode : ℕ) (source plane : List ℕ) → length (chroma_dc wide site mode source plane) ≡ 4
unfolding chroma_dc chroma_dc_levels
length-chroma_dc_levels wide site mode source plane = length-chroma_dc _ _ _

pub chroma_ac_levels_small : (wide : ℕ) (site : Site) (mode : ℕ) (source plane : List ℕ) → AreBytes source → AreBytes plane → AreSmall 8191 (chroma_ac wide site mode source plane)
unfolding chroma_ac chroma_ac_levels
chroma_ac_levels_small wide site mode source plane g h =
    joined_small 8191 _ 4 (λ b. drop_small 8191 1 _ (chroma_without_dc_small _ _ _ (spectrum_chroma_small wide site source _ b g (prediction_chroma_bytes wide site mode plane h))))

pub length-ac_block : (intra : Bool) (qp : ℕ) (xs : List ℤ) → length (drop 1 (levels_without_dc Chroma4 intra qp xs)) ≡ 15
unfolding levels_without_dc
length-ac_block intra qp xs =
    length-drop 1 _ ∙ ap (λ (n : ℕ). n - 1) (length-levels4 _ Chroma4 qp (slice_set xs 0 (pos 0)))

pub length-chroma_ac : (wide : ℕ) (site : Site) (mode : ℕ) (source plane : List ℕ) → length (chroma_ac wide site mode source plane) ≡ 60
unfolding chroma_ac chroma_ac_levels
length-chroma_ac wide site mode source plane = length-joined _ 15 4 (λ b. length-ac_block _ _ _)
