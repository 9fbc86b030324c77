-- The plan of a macroblock, by its parts.
use Rattle.std.proofs.Common.{◌≡◌, ◌+◌, ◌*◌, ℕ, Bool, List, [], ◌∷◌, cond, replicate, ap, ap₂, ◌∙◌}
use Rattle.enc_tables.specs.declared.records.MbPlan.{MbPlan}
use Rattle.enc_tables.specs.declared.records.PartPlan.{PartPlan}
use Rattle.enc_tables.specs.Plans.{blank_part}
use Rattle.spec_film.specs.Films.{Planes}
use Rattle.spec_intra.specs.declared.Avail.{Avail}
use Rattle.spec_intra.specs.Block.{line}
use Rattle.spec_intra.specs.Near.{macroblock_avail}
use Rattle.spec_choice.specs.declared.ModeCost.{ModeCost}
use Rattle.spec_choice.specs.IntraPlans.{best16, best_chroma, best4_of, best8_of, total, intra_plan}

abbrev made : ℕ → List ℕ → List ℕ → ℕ → ℕ → ℕ → ℕ → List PartPlan → MbPlan
made mode16 modes8 modes4 chroma_mode cost16 cost8 cost4 parts = record {
  mode16 = mode16;
  modes8 = modes8;
  modes4 = modes4;
  chroma_mode = chroma_mode;
  intra = cost16 ∷ cost8 ∷ cost4 ∷ [];
  parts = parts;
}

module _ (t8x8 : Bool) (source : Planes) (row column : ℕ) where
  abbrev modes8_at : Avail → ℕ → List ℕ
  modes8_at mb wide = cond t8x8 (line 4 (λ k. (best8_of wide source.luma mb (16 * column) (16 * row) k).mode)) (replicate 4 0)

  abbrev cost8_at : Avail → ℕ → ℕ
  cost8_at mb wide = cond t8x8 (total 4 (λ k. (best8_of wide source.luma mb (16 * column) (16 * row) k).cost)) 0

  abbrev modes4_at : Avail → ℕ → List ℕ
  modes4_at mb wide = line 16 (λ b. (best4_of wide source.luma mb (16 * column) (16 * row) b).mode)

  abbrev cost4_at : Avail → ℕ → ℕ
  cost4_at mb wide = total 16 (λ b. (best4_of wide source.luma mb (16 * column) (16 * row) b).cost)

  abbrev plan_at : Avail → ℕ → ℕ → MbPlan
  plan_at mb wide wide_chroma =
      made (best16 wide source.luma mb (16 * column) (16 * row)).mode (modes8_at mb wide) (modes4_at mb wide)
      (best_chroma wide_chroma source.cb source.cr mb (8 * column) (8 * row)).mode
      (best16 wide source.luma mb (16 * column) (16 * row)).cost (cost8_at mb wide) (cost4_at mb wide) (replicate 9 blank_part)

  module _ (width first : ℕ) (mb : Avail) (wide wide_chroma : ℕ) (is_mb : mb ≡ macroblock_avail width (first * width) (row * width + column))
      (is_wide : wide ≡ 16 * width) (is_chroma : wide_chroma ≡ 8 * width) where
    abbrev whole_at : ModeCost
    whole_at = best16 wide source.luma mb (16 * column) (16 * row)

    settled : plan_at mb wide wide_chroma ≡ intra_plan width first t8x8 source row column
    unfolding intra_plan
    settled =
        ap (λ (a : Avail). plan_at a wide wide_chroma) is_mb
        ∙ ap₂ (λ (w c : ℕ). plan_at (macroblock_avail width (first * width) (row * width + column)) w c) is_wide is_chroma

    pub plan_is : (whole chroma : ModeCost) (modes8 modes4 : List ℕ) (cost8 cost4 : ℕ) (parts : List PartPlan)
        → whole ≡ best16 wide source.luma mb (16 * column) (16 * row)
        → modes8 ≡ modes8_at mb wide → cost8 ≡ cost8_at mb wide → modes4 ≡ modes4_at mb wide → cost4 ≡ cost4_at mb wide
        → chroma ≡ best_chroma wide_chroma source.cb source.cr mb (8 * column) (8 * row)
        → parts ≡ replicate 9 blank_part
        → made whole.mode modes8 modes4 chroma.mode whole.cost cost8 cost4 parts ≡ intra_plan width first t8x8 source row column
    plan_is whole chroma modes8 modes4 cost8 cost4 parts a b c d e f g =
        ap (λ (w : ModeCost). made w.mode modes8 modes4 chroma.mode w.cost cost8 cost4 parts) a
        ∙ ap₂ (λ (l : List ℕ) (n : ℕ). made whole_at.mode l modes4 chroma.mode whole_at.cost n cost4 parts) b c
        ∙ ap₂ (λ (l : List ℕ) (n : ℕ). made whole_at.mode (modes8_at mb wide) l chroma.mode whole_at.cost (cost8_at mb wide) n parts) d e
        ∙ ap₂ (λ (m : ModeCost) (p : List PartPlan). made whole_at.mode (modes8_at mb wide) (modes4_at mb wide) m.mode whole_at.cost (cost8_at mb wide) (cost4_at mb wide) p) f g
        ∙ settled
