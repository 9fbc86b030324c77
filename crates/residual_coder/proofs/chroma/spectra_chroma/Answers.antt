use Rattle.std.proofs.Common.{◌≡◌, ◌≤◌, ◌<◌, ◌+◌, ◌-◌, ◌*◌, ◌∷◌, ℕ, ℤ, List, [], length, pos, Bool, take, drop, arith, refl, ◌∙◌, sym, ap, subst, w32}
use Rattle.std.proofs.lemmas.Grind.{common_steps}
use Rattle.std.proofs.lemmas.Int.{to_z-of_z}
use Rattle.std.proofs.lemmas.List.{length-set}
use mir.Val.{SFits}
use Rattle.picture_planes.specs.Samples.{samples_of}
use Rattle.spec_basics.specs.Bounds.{Within}
use Rattle.spec_residual.specs.Blocks.{item}
use Rattle.spec_residual.specs.declared.BlockKind.TheVariants.{Chroma4}
use Rattle.spec_residual.proofs.Listed.{is_listed}
use Rattle.spec_reconstruction.specs.declared.Site.{Site}
use Rattle.spec_reconstruction.specs.InOrder.{joined}
use Rattle.spec_reconstruction.specs.Chroma.{spectrum_chroma}
use Rattle.spec_reconstruction.specs.Residuals.{levels_without_dc}
use Rattle.residual_coder.specs.Made.{IsQuantised, others_chroma}
use Rattle.residual_coder.proofs.BlockLaws.{item_next, small_next}
use Rattle.residual_coder.proofs.ChromaLaws.{without_first}
use Rattle.residual_coder.proofs.InOrderLaws.{joined_none, joined_next, piece_long, block_next, all_taken}
use Rattle.residual_coder.proofs.chroma.spectra_chroma.Goals as goal

first_at : ℕ → Site → List ℕ → List ℕ → ℕ → ℤ
first_at wide site source prediction b = item (spectrum_chroma wide site source prediction b) 0

levels_at : Bool → ℕ → Site → ℕ → List ℕ → List ℕ → ℕ → List ℤ
levels_at intra wide site qp source prediction b = drop 1 (levels_without_dc Chroma4 intra qp (spectrum_chroma wide site source prediction b))

pub loop-b-init : goal.loop-b-init
unfolding levels_at
loop-b-init c = record {
  long = refl;
  few = refl;
  firsts = λ k h. absurd (omega arith);
  small = λ k h. absurd (omega arith);
  ac = joined_none (levels_at c.args.intra c.args.source.now.width c.args.site.now c.args.qp (samples_of c.args.source.now) c.args.prediction.now) [];
  quantised = λ b h. absurd (omega arith);
}

others : (block : List ℤ) → length block ≡ 16 → take 15 (drop 1 block) ≡ drop 1 block
others block long = grind (arith, common_steps)

fifteen : (block : List ℤ) → length block ≡ 16 → length (drop 1 block) ≡ 15
fifteen block long = grind (arith, common_steps)

pub loop-b-preserved : goal.loop-b-preserved
unfolding first_at levels_at
loop-b-preserved c =
    let wide = c.args.source.now.width in
    let site = c.args.site.now in
    let qp = c.args.qp in
    let source = samples_of c.args.source.now in
    let prediction = c.args.prediction.now in
    let b = c.loop-b.b in
    let block = c.levels_without_dc-block.result in
    let r : SFits w32 c.first_of-first.result = record { sfits = c.first_of-first.type_inv } in
    let back = to_z-of_z w32 c.first_of-first.result r ∙ c.first_of-first.ensures in
    let P : ℤ → Type 0 = λ z. Within 4080 z in
    let Q : List ℤ → Type 0 = λ l. IsQuantised Chroma4 qp (pos 0 ∷ l) in
    let inside : b < length c.loop-b.firsts = omega (arith, c.loop-b-test.true, c.loop-b.invariant.few) in
    let k : b * 15 + 15 - b * 15 ≡ 15 = omega arith in
    let room : b * 15 + 15 ≤ length c.loop-b.ac = omega (arith, c.loop-b.invariant.long, c.loop-b-test.true) in
    let long : length block ≡ 16 = omega arith in
    let is_rest : c.copy_from_slice.new.self ≡ drop 1 block = c.copy_from_slice.ensures.after ∙ others block long in
    let piece : length c.copy_from_slice.new.self ≡ 15 = ap (λ (l : List ℤ). length l) is_rest ∙ fifteen block long in
    let chosen = is_rest ∙ ap (λ (l : List ℤ). drop 1 l) (c.levels_without_dc-block.ensures.value ∙ ap (λ (l : List ℤ). levels_without_dc Chroma4 c.args.intra qp l) c.spectrum_chroma-spectrum.ensures.value) in
    let made : IsQuantised Chroma4 qp block = record { intra = c.args.intra; small = c.levels_without_dc-block.ensures.small; made = c.levels_without_dc-block.ensures.made } in
    record {
      long = piece_long c.loop-b.ac c.copy_from_slice.new.self (b * 15) 15 (b * 15 + 15 - b * 15) room piece k ∙ c.loop-b.invariant.long;
      few = simp length-set c.loop-b.invariant.few;
      firsts = item_next (first_at wide site source prediction) c.loop-b.firsts b _ inside (back ∙ ap (λ (l : List ℤ). item l 0) c.spectrum_chroma-spectrum.ensures.value) c.loop-b.invariant.firsts;
      small = small_next 4080 c.loop-b.firsts b _ inside (subst P (sym back) c.spectrum_chroma-spectrum.ensures.first) c.loop-b.invariant.small;
      ac = joined_next (levels_at c.args.intra wide site qp source prediction) b 15 (b * 15 + 15 - b * 15) c.loop-b.ac c.copy_from_slice.new.self room piece k chosen c.loop-b.invariant.ac;
      quantised = block_next Q c.loop-b.ac c.copy_from_slice.new.self b 15 (b * 15 + 15 - b * 15) room piece (subst Q (sym is_rest) (without_first Chroma4 qp block made)) c.loop-b.invariant.quantised;
    }

others_are : (intra : Bool) (wide : ℕ) (site : Site) (qp : ℕ) (source prediction : List ℕ) (xs : List ℤ) → xs ≡ joined (λ b. drop 1 (levels_without_dc Chroma4 intra qp (spectrum_chroma wide site source prediction b))) 4 → xs ≡ others_chroma intra wide site qp source prediction
unfolding others_chroma
others_are intra wide site qp source prediction xs e = e

pub returns-clause-firsts : goal.returns-clause-firsts
returns-clause-firsts c = is_listed 4 _ c.loop-b.firsts c.loop-b.invariant.few (λ p h. c.loop-b.invariant.firsts p (omega arith))

pub returns-clause-ac : goal.returns-clause-ac
returns-clause-ac c =
    let e : c.loop-b.b ≡ 4 = omega arith in
    others_are c.args.intra c.args.source.now.width c.args.site.now c.args.qp (samples_of c.args.source.now) c.args.prediction.now c.loop-b.ac
    (all_taken c.loop-b.ac _ 4 15 c.loop-b.b c.loop-b.invariant.long e c.loop-b.invariant.ac
    ∙ ap (λ (n : ℕ). joined (λ b. drop 1 (levels_without_dc Chroma4 c.args.intra c.args.qp (spectrum_chroma c.args.source.now.width c.args.site.now (samples_of c.args.source.now) c.args.prediction.now b))) n) e)
