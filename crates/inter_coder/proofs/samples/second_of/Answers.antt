use Rattle.std.proofs.Common.{◌≡◌, ◌-◌, ℕ, ℤ, List, length, take, drop, arith, ◌∙◌}
use Rattle.std.proofs.lemmas.Grind.{common_steps}
use Rattle.inter_coder.proofs.samples.second_of.Goals as goal

rest : (xs : List ℤ) (n k : ℕ) → k ≡ length xs - n → take k (drop n xs) ≡ drop n xs
rest xs n k e = grind (arith, common_steps)

pub returns : goal.returns
returns c = (c.copy_from_slice.ensures.after ∙ rest c.args.mb.now.chroma_dc 4 4 (omega arith), c.copy_from_slice-2.ensures.after ∙ rest c.args.mb.now.chroma_ac 60 60 (omega arith))
