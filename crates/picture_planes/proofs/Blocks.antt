-- The buffer from a place on.
use Rattle.std.proofs.Common.{◌≡◌, ℕ, zero, suc, ◌+◌, ◌-◌, ◌*◌, ◌<◌, ◌≤◌, List, length, get_or, take, drop, ap, ◌∙◌, arith}
use Rattle.std.proofs.lemmas.Grind.{common_steps}
use Rattle.std.proofs.lemmas.List.{get_or-drop, length-drop}

pub tail_is : (n : ℕ) (xs : List ℕ) → take (length xs - n) (drop n xs) ≡ drop n xs
tail_is n xs = grind (arith, common_steps)

pub block_at : (xs : List ℕ) (width c r i j : ℕ) → get_or (drop (r * width + c) xs) (j * width + i) 0 ≡ get_or xs ((r + j) * width + (c + i)) 0
block_at xs width c r i j = get_or-drop (r * width + c) xs (j * width + i) 0 ∙ ap (λ (m : ℕ). get_or xs m 0) (omega arith)

more : (a b c : ℕ) → a ≤ b → a * c ≤ b * c
more a b c p = grind arith

pub rows_fit : (xs : List ℕ) (width height c r w h : ℕ) → length xs ≡ width * height → c + w ≤ width → r + h ≤ height → 0 < h → (h - 1) * width + w ≤ length (drop (r * width + c) xs)
rows_fit xs width height c r w zero e p q s = absurd (omega arith)
rows_fit xs width height c r w (suc h) e p q s =
    let d : suc h - 1 ≡ h = omega arith in
    let m = more (r + suc h) height width q in
    let f : (r + suc h) * width ≡ r * width + h * width + width = omega arith in
    rw (d, length-drop (r * width + c) xs) (omega arith)
