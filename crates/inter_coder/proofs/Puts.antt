-- Blocks that are put into rows.
use Rattle.std.proofs.Common.{◌≡◌, ◌<◌, ◌≤◌, ◌+◌, ◌*◌, ◌/◌, ◌%◌, ℕ, List, length, get_or, take, drop, refl, sym, ap, ap₂, ◌∙◌, inl, inr, arith, rules}
use Rattle.std.proofs.lemmas.Bool.{cases_lt}
use Rattle.std.proofs.lemmas.Nat.{mul-add-lt}
use Rattle.std.proofs.lemmas.List.{places}
use Rattle.std.proofs.lemmas.Grind.{common_steps}
use Rattle.std.proofs.Math.Nat.{mul-le-mul_right}
use borrow.Rule.Slice.PartMut.{put_mid}
use Rattle.spec_inter.specs.Blocks.{RowsOf}

part_below : (xs ys : List ℕ) (a k i : ℕ) → a ≤ length xs → i < a → get_or (put_mid a k xs ys) i 0 ≡ get_or xs i 0
part_below xs ys a k i p q = search (rules, places)

part_inside : (xs ys : List ℕ) (a k i : ℕ) → a ≤ length xs → i < length ys → get_or (put_mid a k xs ys) (a + i) 0 ≡ get_or ys i 0
part_inside xs ys a k i p q = search (rules, places)

part_behind : (xs ys : List ℕ) (a k i : ℕ) → a + k ≤ length xs → length ys ≡ k → a + k ≤ i → get_or (put_mid a k xs ys) i 0 ≡ get_or xs i 0
part_behind xs ys a k i p q r = grind (arith, common_steps)

part_long : (xs ys : List ℕ) (a k : ℕ) → a + k ≤ length xs → length ys ≡ k → length (put_mid a k xs ys) ≡ length xs
part_long xs ys a k p q = grind (arith, common_steps)

row_long : (xs : List ℕ) (a k : ℕ) → a + k ≤ length xs → length (take k (drop a xs)) ≡ k
row_long xs a k p = grind (arith, common_steps)

row_place : (xs : List ℕ) (a k i : ℕ) → i < k → get_or (take k (drop a xs)) i 0 ≡ get_or xs (a + i) 0
row_place xs a k i p = grind (arith, common_steps)

-- the first n rows of a block of `side` columns are put at column x of row y, and all else is old
pub record Putting (side x y wide n : ℕ) (block old now : List ℕ) : Type 0 where
  pub long : length now ≡ length old
  pub inside : (i j : ℕ) → i < side → j < n → get_or now ((y + j) * wide + (x + i)) 0 ≡ get_or block (j * side + i) 0
  pub others : (c r : ℕ) → c < wide → (x ≤ c → c < x + side → y ≤ r → r < y + n → ⊥) → get_or now (r * wide + c) 0 ≡ get_or old (r * wide + c) 0

pub put_none : (side x y wide : ℕ) (block old : List ℕ) → Putting side x y wide 0 block old old
put_none side x y wide block old = record { long = refl; inside = λ i j a b. absurd (omega (arith, b)); others = λ c r a no. refl }

module _ (side x y wide j : ℕ) (block old now : List ℕ) (from k k' : ℕ) (ys : List ℕ) where
  pub put_next : Putting side x y wide j block old now → from ≡ (y + j) * wide + x → j < side → x + side ≤ wide → (y + side) * wide ≤ length old → side * side ≤ length block
      → k ≡ side → k' ≡ side → ys ≡ take k' (drop (j * side) block) → Putting side x y wide (j + 1) block old (put_mid from k now ys)
  put_next done at_from less columns rows whole at_k at_k' is_row =
      let end : (y + j + 1) * wide ≤ (y + side) * wide = mul-le-mul_right wide (omega (arith, less)) in
      let here : (y + j + 1) * wide ≡ (y + j) * wide + wide = grind arith in
      let last : (j + 1) * side ≤ side * side = mul-le-mul_right side (omega (arith, less)) in
      let before : (j + 1) * side ≡ j * side + side = grind arith in
      let room : from + k ≤ length now = omega (arith, end, here, at_from, at_k, columns, rows, done.long) in
      let row_is : ys ≡ take side (drop (j * side) block) = is_row ∙ ap (λ (m : ℕ). take m (drop (j * side) block)) at_k' in
      let row : length ys ≡ side = ap (λ (l : List ℕ). length l) row_is ∙ row_long block (j * side) side (omega (arith, last, before, whole)) in
      let long : length ys ≡ k = omega (arith, row, at_k) in
      record {
        long = part_long now ys from k room long ∙ done.long;
        inside = λ i m a b. elim (cases_lt m j) [
          | inl l ↦ (let up : (y + m) * wide + (x + i) < (y + j) * wide = omega (arith, mul-add-lt (y + m) wide (x + i) (y + j) (omega (arith, l)) (omega (arith, a, columns))) in
              part_below now ys from k ((y + m) * wide + (x + i)) (omega (arith, room)) (omega (arith, up, at_from)) ∙ done.inside i m a l)
          | inr g ↦ (let e : m ≡ j = omega (arith, b, g) in
              let at : (y + m) * wide + (x + i) ≡ from + i = ap (λ (t : ℕ). (y + t) * wide + (x + i)) e ∙ omega (arith, at_from) in
              let place : j * side + i ≡ m * side + i = ap (λ (t : ℕ). t * side + i) (sym e) in
              ap (λ (t : ℕ). get_or (put_mid from k now ys) t 0) at
              ∙ part_inside now ys from k i (omega (arith, room)) (omega (arith, row, a))
              ∙ ap (λ (l : List ℕ). get_or l i 0) row_is
              ∙ row_place block (j * side) side i a
              ∙ ap (λ (t : ℕ). get_or block t 0) place)
        ];
        others = λ c r a no. elim (cases_lt r (y + j)) [
          | inl l ↦ (let up : r * wide + c < (y + j) * wide = omega (arith, mul-add-lt r wide c (y + j) l a) in
              part_below now ys from k (r * wide + c) (omega (arith, room)) (omega (arith, up, at_from)) ∙ done.others c r a (λ p q s t. no p q s (omega (arith, t))))
          | inr g ↦ elim (cases_lt (y + j) r) [
            | inl l ↦ (let down : (y + j + 1) * wide ≤ r * wide = mul-le-mul_right wide (omega (arith, l)) in
                part_behind now ys from k (r * wide + c) room long (omega (arith, down, here, at_from, at_k, columns)) ∙ done.others c r a (λ p q s t. no p q s (omega (arith, t))))
            | inr h ↦ (let e : r ≡ y + j = omega (arith, g, h) in
                let at : r * wide ≡ (y + j) * wide = ap (λ (t : ℕ). t * wide) e in
                elim (cases_lt c x) [
                  | inl l ↦ part_below now ys from k (r * wide + c) (omega (arith, room)) (omega (arith, at, at_from, l)) ∙ done.others c r a (λ p q s t. no p q s (omega (arith, t)))
                  | inr u ↦ elim (cases_lt c (x + side)) [
                    | inl v ↦ absurd (no u v (omega (arith, e)) (omega (arith, e)))
                    | inr v ↦ part_behind now ys from k (r * wide + c) room long (omega (arith, at, at_from, at_k, v)) ∙ done.others c r a (λ p q s t. no p q s (omega (arith, t)))
                  ]
                ])
          ]
        ];
      }

-- ---- four blocks, each in its place

-- of rows of 16, the first k blocks of 8x8 are those of f
pub record Parted16 (f : ℕ → ℕ → ℕ) (k : ℕ) (out : List ℕ) : Type 0 where
  pub long : length out ≡ 256
  pub at : (i j : ℕ) → i < 16 → j < 16 → 2 * (j / 8) + i / 8 < k → get_or out (j * 16 + i) 0 ≡ f i j

pub none_parted16 : (f : ℕ → ℕ → ℕ) (out : List ℕ) → length out ≡ 256 → Parted16 f 0 out
none_parted16 f out long = record { long = long; at = λ i j a b h. absurd (omega (arith, h)) }

pub next_parted16 : (f g : ℕ → ℕ → ℕ) (k x y : ℕ) (block old new : List ℕ) → k < 4 → x ≡ 8 * (k % 2) → y ≡ 8 * (k / 2) → Parted16 f k old → Putting 8 x y 16 8 block old new → RowsOf g 8 8 block
    → ((i j : ℕ) → i < 8 → j < 8 → g i j ≡ f (x + i) (y + j)) → Parted16 f (k + 1) new
next_parted16 f g k x y block old new less at_x at_y done put rows same = record {
  long = put.long ∙ done.long;
  at = λ i j a b h. elim (cases_lt (2 * (j / 8) + i / 8) k) [
    | inl l ↦ put.others i j a (λ p q s t. omega (arith, less, at_x, at_y, l, p, q, s, t)) ∙ done.at i j a b l
    | inr u ↦ (let e : 2 * (j / 8) + i / 8 ≡ k = omega (arith, h, u) in
        let across : x + i % 8 ≡ i = omega (arith, less, at_x, e, a) in
        let down : y + j % 8 ≡ j = omega (arith, less, at_y, e, a) in
        ap₂ (λ (r c : ℕ). get_or new (r * 16 + c) 0) (sym down) (sym across)
        ∙ put.inside (i % 8) (j % 8) (omega arith) (omega arith)
        ∙ rows.at (i % 8) (j % 8) (omega arith) (omega arith)
        ∙ same (i % 8) (j % 8) (omega arith) (omega arith)
        ∙ ap₂ f across down)
  ];
}

pub all_parted16 : (f : ℕ → ℕ → ℕ) (k : ℕ) (out : List ℕ) → 4 ≤ k → Parted16 f k out → RowsOf f 16 16 out
all_parted16 f k out all done = record { at = λ i j a b. done.at i j a b (omega (arith, all, a, b)) }

-- of rows of 8, the first k blocks of 4x4
pub record Parted8 (f : ℕ → ℕ → ℕ) (k : ℕ) (out : List ℕ) : Type 0 where
  pub long : length out ≡ 64
  pub at : (i j : ℕ) → i < 8 → j < 8 → 2 * (j / 4) + i / 4 < k → get_or out (j * 8 + i) 0 ≡ f i j

pub none_parted8 : (f : ℕ → ℕ → ℕ) (out : List ℕ) → length out ≡ 64 → Parted8 f 0 out
none_parted8 f out long = record { long = long; at = λ i j a b h. absurd (omega (arith, h)) }

pub next_parted8 : (f g : ℕ → ℕ → ℕ) (k x y : ℕ) (block old new : List ℕ) → k < 4 → x ≡ 4 * (k % 2) → y ≡ 4 * (k / 2) → Parted8 f k old → Putting 4 x y 8 4 block old new → RowsOf g 4 4 block
    → ((i j : ℕ) → i < 4 → j < 4 → g i j ≡ f (x + i) (y + j)) → Parted8 f (k + 1) new
next_parted8 f g k x y block old new less at_x at_y done put rows same = record {
  long = put.long ∙ done.long;
  at = λ i j a b h. elim (cases_lt (2 * (j / 4) + i / 4) k) [
    | inl l ↦ put.others i j a (λ p q s t. omega (arith, less, at_x, at_y, l, p, q, s, t)) ∙ done.at i j a b l
    | inr u ↦ (let e : 2 * (j / 4) + i / 4 ≡ k = omega (arith, h, u) in
        let across : x + i % 4 ≡ i = omega (arith, less, at_x, e, a) in
        let down : y + j % 4 ≡ j = omega (arith, less, at_y, e, a) in
        ap₂ (λ (r c : ℕ). get_or new (r * 8 + c) 0) (sym down) (sym across)
        ∙ put.inside (i % 4) (j % 4) (omega arith) (omega arith)
        ∙ rows.at (i % 4) (j % 4) (omega arith) (omega arith)
        ∙ same (i % 4) (j % 4) (omega arith) (omega arith)
        ∙ ap₂ f across down)
  ];
}

pub all_parted8 : (f : ℕ → ℕ → ℕ) (k : ℕ) (out : List ℕ) → 4 ≤ k → Parted8 f k out → RowsOf f 8 8 out
all_parted8 f k out all done = record { at = λ i j a b. done.at i j a b (omega (arith, all, a, b)) }
