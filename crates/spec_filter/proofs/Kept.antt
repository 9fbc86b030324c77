-- Lines, parts and steps that leave what they are given as it is.
use Rattle.std.proofs.Common.{◌≡◌, ℕ, zero, suc, ◌+◌, ◌*◌, ◌&&◌, Bool, true, false, List, refl, ap, ◌∙◌, sym, nat_lt, ◌<◌, ◌≤◌, cond, lt-ltb, le-ltb}
use Rattle.std.proofs.lemmas.List.{set-get_or}
use Rattle.enc_tables.specs.Steps.{steps}
use Rattle.spec_filter.specs.declared.SampleLine.{SampleLine}
use Rattle.spec_filter.specs.declared.EdgeRule.{EdgeRule}
use Rattle.spec_filter.specs.Lines.{filtered, is_filtered, weak, strong}
use Rattle.spec_filter.specs.Edges.{line_at, with_line, line_filtered, part_filtered}

-- a line put where it stands
pub line_kept : (xs : List ℕ) (start step : ℕ) → with_line xs start step (line_at xs start step) ≡ xs
unfolding with_line line_at
line_kept xs start step = simp set-get_or

-- which line the filter gives, by its tests
unmoved : {A : Type 0} (a b : Bool) (x l : A) → b ≡ false → cond (a && b) x l ≡ l
unmoved true b x l e = rw e refl
unmoved false b x l e = refl

moved_weak : {A : Type 0} (a b c : Bool) (w s l : A) → a ≡ true → b ≡ true → c ≡ true → cond (a && b) (cond c w s) l ≡ w
moved_weak a b c w s l d e f = rw (d, e, f) refl

moved_strong : {A : Type 0} (a b c : Bool) (w s l : A) → a ≡ true → b ≡ true → c ≡ false → cond (a && b) (cond c w s) l ≡ s
moved_strong a b c w s l d e f = rw (d, e, f) refl

not_filtered : (r : EdgeRule) (l : SampleLine) → is_filtered r l ≡ false → filtered r l ≡ l
unfolding filtered
not_filtered r l h = unmoved (nat_lt 0 r.strength) (is_filtered r l) _ l h

pub line_weak : (r : EdgeRule) (xs : List ℕ) (start step : ℕ) (l : SampleLine) → l ≡ line_at xs start step → 0 < r.strength → is_filtered r l ≡ true → r.strength < 4
    → with_line xs start step (weak r l) ≡ line_filtered r start step xs
unfolding line_filtered filtered
line_weak r xs start step l e some h few =
    ap (λ (m : SampleLine). with_line xs start step m) (sym (moved_weak (nat_lt 0 r.strength) (is_filtered r l) (nat_lt r.strength 4) (weak r l) (strong r l) l (lt-ltb 0 r.strength some) h (lt-ltb r.strength 4 few)))
    ∙ ap (λ (m : SampleLine). with_line xs start step (filtered r m)) e

pub line_strong : (r : EdgeRule) (xs : List ℕ) (start step : ℕ) (l : SampleLine) → l ≡ line_at xs start step → 0 < r.strength → is_filtered r l ≡ true → 4 ≤ r.strength
    → with_line xs start step (strong r l) ≡ line_filtered r start step xs
unfolding line_filtered filtered
line_strong r xs start step l e some h many =
    ap (λ (m : SampleLine). with_line xs start step m) (sym (moved_strong (nat_lt 0 r.strength) (is_filtered r l) (nat_lt r.strength 4) (weak r l) (strong r l) l (lt-ltb 0 r.strength some) h (le-ltb r.strength 4 many)))
    ∙ ap (λ (m : SampleLine). with_line xs start step (filtered r m)) e

pub line_left : (r : EdgeRule) (xs : List ℕ) (start step : ℕ) (l : SampleLine) → l ≡ line_at xs start step → is_filtered r l ≡ false → xs ≡ line_filtered r start step xs
unfolding line_filtered
line_left r xs start step l e h =
    sym (line_kept xs start step) ∙ ap (λ (m : SampleLine). with_line xs start step m) (sym e ∙ sym (not_filtered r l h) ∙ ap (λ (m : SampleLine). filtered r m) e)

pub steps_left : {A : Type 0} (f : ℕ → A → A) (n : ℕ) (a : A) → ((i : ℕ) (b : A) → f i b ≡ b) → steps f n a ≡ a
unfolding steps
steps_left f zero a h = refl
steps_left f (suc n) a h = h n (steps f n a) ∙ steps_left f n a h

not_filtered_0 : (r : EdgeRule) (l : SampleLine) → r.strength ≡ 0 → filtered r l ≡ l
unfolding filtered
not_filtered_0 r l h = rw h refl

line_left_0 : (r : EdgeRule) (start step : ℕ) (xs : List ℕ) → r.strength ≡ 0 → line_filtered r start step xs ≡ xs
unfolding line_filtered
line_left_0 r start step xs h = ap (λ (l : SampleLine). with_line xs start step l) (not_filtered_0 r (line_at xs start step) h) ∙ line_kept xs start step

-- strength 0 leaves a part as it is
pub part_left : (r : EdgeRule) (n start step across : ℕ) (xs : List ℕ) → r.strength ≡ 0 → part_filtered r n start step across xs ≡ xs
unfolding part_filtered
part_left r n start step across xs h = steps_left (λ j. line_filtered r (start + j * across) step) n xs (λ j ys. line_left_0 r (start + j * across) step ys h)
