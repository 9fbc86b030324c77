use Rattle.std.proofs.Common.{ℕ, ◌≡◌, ◌-◌, ◌++◌, [], ◌∷◌, sym, ap, subst, ◌∙◌, replicate}
use Rattle.spec_bits.specs.Bits.{bits_of_bytes}
use Rattle.spec_bits.specs.Units.{unit_bytes, filler_unit}
use Rattle.spec_bits.proofs.Escapes.{escape-filler}
use Rattle.nal_writer.specs.Runs.{Grows}
use Rattle.nal_writer.proofs.Pieces.{cut_back, failed, succeeded}
use Rattle.nal_writer.proofs.units.filler.Goals as goal

filler_is : (n : ℕ) → 0 ∷ 0 ∷ 1 ∷ 12 ∷ (replicate (n - 5) 255 ++ (128 ∷ [])) ≡ filler_unit n
unfolding filler_unit unit_bytes
filler_is n = ap (λ l. 0 ∷ 0 ∷ 1 ∷ 12 ∷ l) (sym (escape-filler (n - 5)))

pub returns-then-is_err : goal.returns-then-is_err
returns-then-is_err c =
    let g = subst (λ l. Grows c.args.out.now c.put_filler.new.out (bits_of_bytes l) c.put_filler.result) (filler_is c.args.bytes) c.put_filler.ensures in
    let f = failed c.args.out.now c.put_filler.new.out (bits_of_bytes (filler_unit c.args.bytes)) c.put_filler.result (sym c.is_err.ensures.value ∙ c.if-is_err.true) g in
    (f.0, cut_back c.args.out.now c.put_filler.new.out c.cut.new.self c.len-start.result c.len-start.ensures.len f.1 c.cut.ensures)

pub returns : goal.returns
returns c =
    let g = subst (λ l. Grows c.args.out.now c.put_filler.new.out (bits_of_bytes l) c.put_filler.result) (filler_is c.args.bytes) c.put_filler.ensures in
    succeeded c.args.out.now c.put_filler.new.out (bits_of_bytes (filler_unit c.args.bytes)) c.put_filler.result (sym c.is_err.ensures.value ∙ c.if-is_err.false) g
