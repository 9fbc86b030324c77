-- Laws of the 03 bytes.
use Rattle.std.proofs.Common.{ℕ, ◌≡◌, ◌<◌, Bool, true, false, List, [], ◌∷◌, ◌++◌, refl, ap, ◌∙◌, arith, replicate}
use Rattle.std.specs.Prelude.{nat_le, ◌&&◌}
use Rattle.std.specs.List.{All}
use Rattle.std.proofs.lemmas.Bool.Decides.{nat_tests}
use Rattle.std.proofs.lemmas.List.Elements.{All-nil, All-cons, All-head, All-tail, All-append, All-replicate}
use Rattle.spec_bits.specs.Units.{escape, zeros_after}

pub escape-none : (before : ℕ) → escape before [] ≡ []
unfolding escape
escape-none before = refl

-- a byte 03 is put in
pub escape-put : (before b : ℕ) (bytes : List ℕ) → (nat_le 2 before && nat_le b 3) ≡ true → escape before (b ∷ bytes) ≡ 3 ∷ escape 0 (b ∷ bytes)
unfolding escape
escape-put before b bytes h = rw h refl

-- none is put in
pub escape-keep : (before b : ℕ) (bytes : List ℕ) → (nat_le 2 before && nat_le b 3) ≡ false → escape before (b ∷ bytes) ≡ b ∷ escape (zeros_after before b) bytes
unfolding escape
escape-keep before b bytes h = rw h refl

-- bytes above 3 stand as they are
pub escape-large : (before : ℕ) (bytes : List ℕ) → All (λ b. 3 < b) bytes → escape before bytes ≡ bytes
escape-large before [] h = escape-none before
escape-large before (b ∷ bytes) h =
    let large : 3 < b = All-head (λ b. 3 < b) b bytes h in
    escape-keep before b bytes (unneeded (nat_le 2 before) b large) ∙ ap (λ bs. b ∷ bs) (escape-large (zeros_after before b) bytes (All-tail (λ b. 3 < b) b bytes h))
  where
    unneeded : (t : Bool) (b : ℕ) → 3 < b → (t && nat_le b 3) ≡ false
    unneeded true b h = grind (arith, nat_tests)
    unneeded false b h = refl

pub escape-filler : (count : ℕ) → escape 0 (replicate count 255 ++ (128 ∷ [])) ≡ replicate count 255 ++ (128 ∷ [])
escape-filler count =
    escape-large 0 (replicate count 255 ++ (128 ∷ [])) (All-append (λ b. 3 < b) (replicate count 255) (128 ∷ []) (All-replicate (λ b. 3 < b) count 255 (omega arith)) (All-cons (λ b. 3 < b) 128 [] (omega arith) (All-nil (λ b. 3 < b))))
