use Rattle.std.proofs.Common.{◌≡◌, ◌≤◌, ◌<◌, ◌+◌, ◌-◌, ◌*◌, ℕ, zero, suc, arith, inl, inr, ◌⊎◌, sym, ap, ◌∙◌, subst, refl, nat_eq, nat_lt}
use Rattle.std.specs.Prelude.{if◌then◌else◌}
use Rattle.std.proofs.lemmas.Int.{ints}
use Rattle.std.proofs.lemmas.Bool.Decides.{nat_tests}
use Rattle.std.proofs.lemmas.Bool.{cases_lt}
use Rattle.spec_search.specs.declared.blocks.Spot.{Spot}
use Rattle.std.specs.Prelude.{nat_abs, max, pos, negsuc, ℤ, ◌-ℤ◌}
use Rattle.spec_search.specs.Scan.{next, spot_at, next_at, InRange, ring_of, Before, dx_of, dy_of, window_size, ScanOrder}

-- on the rim of the square of its ring
pub record OnRing (s : Spot) : Type 0 where
  pub across : s.column ≤ 2 * s.ring
  pub down : s.row ≤ 2 * s.ring
  pub rim : (s.row ≡ 0) ⊎ (s.row ≡ 2 * s.ring) ⊎ (s.column ≡ 0) ⊎ (s.column ≡ 2 * s.ring)

-- how many vectors come before one
abbrev pub rank_at : ℕ → ℕ → ℕ → ℕ
rank_at k a b = (2 * k - 1) * (2 * k - 1) + (if nat_eq b 0 then a else (if nat_lt b (2 * k) then 2 * k + 1 + 2 * (b - 1) + (if nat_eq a 0 then 0 else 1) else 6 * k - 1 + a))

abbrev pub rank : Spot → ℕ
rank s = rank_at s.ring s.column s.row

-- s is tried before t
abbrev pub Sooner : Spot → Spot → Type 0
Sooner s t = (s.ring < t.ring) ⊎ ((s.ring ≡ t.ring) × (s.row < t.row)) ⊎ ((s.ring ≡ t.ring) × (s.row ≡ t.row) × (s.column < t.column))

abbrev pub IsRank : Type 0
IsRank = (n : ℕ) → OnRing (spot_at n) × (rank (spot_at n) ≡ n)

abbrev pub EachOnce : Type 0
EachOnce = (s : Spot) → OnRing s → spot_at (rank s) ≡ s

abbrev pub InOrder : Type 0
InOrder = (s t : Spot) → OnRing s → OnRing t → Sooner s t → rank s < rank t

-- the places of a window are those below the square of its side
abbrev pub InWindow : Type 0
InWindow = (s : Spot) (r : ℕ) → OnRing s → s.ring ≤ r → rank s < (2 * r + 1) * (2 * r + 1)

abbrev base : ℕ → ℕ
base k = (2 * k - 1) * (2 * k - 1)

top : (k a b : ℕ) → b ≡ 0 → rank_at k a b ≡ base k + a
top k a b e = grind (arith, nat_tests)

left : (k a b : ℕ) → 0 < b → b < 2 * k → a ≡ 0 → rank_at k a b ≡ base k + (2 * k + 1 + 2 * (b - 1))
left k a b p q e = grind (arith, nat_tests)

right : (k a b : ℕ) → 0 < b → b < 2 * k → 0 < a → rank_at k a b ≡ base k + (2 * k + 1 + 2 * (b - 1) + 1)
right k a b p q e = grind (arith, nat_tests)

low : (k a b : ℕ) → 0 < b → 2 * k ≤ b → rank_at k a b ≡ base k + (6 * k - 1 + a)
low k a b p q = grind (arith, nat_tests)

squares : (k : ℕ) → 0 < k → base (k + 1) ≡ base k + 8 * k
squares zero p = absurd (omega arith)
squares (suc k) p = let e : 2 * (suc k + 1) - 1 ≡ 2 * k + 3 = omega arith in let f : 2 * suc k - 1 ≡ 2 * k + 1 = omega arith in rw (e, f) (omega arith)

rank_of : (s : Spot) (k a b : ℕ) → s.ring ≡ k → s.column ≡ a → s.row ≡ b → rank s ≡ rank_at k a b
rank_of s k a b p q r = rw (p, q, r) refl

-- the one after, in its three cases
ring_same : (k a b : ℕ) → (a < 2 * k) ⊎ (b < 2 * k) → (next_at k a b).ring ≡ k
ring_same k a b r = grind (arith, nat_tests)

column_more : (k a b : ℕ) → a < 2 * k → (b ≡ 0) ⊎ (2 * k ≤ b) → (next_at k a b).column ≡ a + 1
column_more k a b p r = grind (arith, nat_tests)

column_last : (k a b : ℕ) → a < 2 * k → 0 < b → b < 2 * k → (next_at k a b).column ≡ 2 * k
column_last k a b p q r = grind (arith, nat_tests)

row_same : (k a b : ℕ) → a < 2 * k → (next_at k a b).row ≡ b
row_same k a b p = grind (arith, nat_tests)

column_first : (k a b : ℕ) → 2 * k ≤ a → (next_at k a b).column ≡ 0
column_first k a b p = grind (arith, nat_tests)

row_more : (k a b : ℕ) → 2 * k ≤ a → b < 2 * k → (next_at k a b).row ≡ b + 1
row_more k a b p q = grind (arith, nat_tests)

ring_more : (k a b : ℕ) → 2 * k ≤ a → 2 * k ≤ b → (next_at k a b).ring ≡ k + 1
ring_more k a b p q = grind (arith, nat_tests)

row_first : (k a b : ℕ) → 2 * k ≤ a → 2 * k ≤ b → (next_at k a b).row ≡ 0
row_first k a b p q = grind (arith, nat_tests)

ring_next : (k a b : ℕ) → a ≡ 2 * k → b ≡ 2 * k → base (k + 1) ≡ rank_at k a b + 1
ring_next zero a b p q = rw (top zero a b q) (omega arith)
ring_next (suc k) a b p q = squares (suc k) (omega arith) ∙ (let l = low (suc k) a b (omega arith) (omega arith) in omega arith)

-- the next one stands at the next rank
pub next_rank : (k a b : ℕ) → a ≤ 2 * k → b ≤ 2 * k → (b ≡ 0) ⊎ (b ≡ 2 * k) ⊎ (a ≡ 0) ⊎ (a ≡ 2 * k) → rank (next_at k a b) ≡ rank_at k a b + 1
next_rank k a b p q r = elim (cases_lt a (2 * k)) [
  | inl lt ↦ elim (cases_lt 0 b) [
    | inl some ↦ elim (cases_lt b (2 * k)) [
      | inl inside ↦ (let z : a ≡ 0 = grind arith in
          rank_of (next_at k a b) k (2 * k) b (ring_same k a b (inl lt)) (column_last k a b lt some inside) (row_same k a b lt)
          ∙ right k (2 * k) b some inside (omega arith) ∙ (let l = left k a b some inside z in omega arith))
      | inr end ↦ rank_of (next_at k a b) k (a + 1) b (ring_same k a b (inl lt)) (column_more k a b lt (inr end)) (row_same k a b lt)
          ∙ low k (a + 1) b some end ∙ (let l = low k a b some end in omega arith)
    ]
    | inr none ↦ (let z : b ≡ 0 = omega arith in
        rank_of (next_at k a b) k (a + 1) b (ring_same k a b (inl lt)) (column_more k a b lt (inl z)) (row_same k a b lt)
        ∙ top k (a + 1) b z ∙ (let l = top k a b z in omega arith))
  ]
  | inr last ↦ elim (cases_lt b (2 * k)) [
    | inl inside ↦ rank_of (next_at k a b) k 0 (b + 1) (ring_same k a b (inr inside)) (column_first k a b last) (row_more k a b last inside)
        ∙ elim (cases_lt (b + 1) (2 * k)) [
          | inl still ↦ left k 0 (b + 1) (omega arith) still refl ∙ elim (cases_lt 0 b) [
            | inl some ↦ (let l = right k a b some inside (omega arith) in omega arith)
            | inr none ↦ (let l = top k a b (omega arith) in omega arith)
          ]
          | inr end ↦ low k 0 (b + 1) (omega arith) end ∙ (let l = right k a b (omega arith) inside (omega arith) in omega arith)
        ]
    | inr end ↦ rank_of (next_at k a b) (k + 1) 0 0 (ring_more k a b last end) (column_first k a b last) (row_first k a b last end)
        ∙ top (k + 1) 0 0 refl ∙ (let l = ring_next k a b (omega arith) (omega arith) in omega arith)
  ]
]

on_ring_of : (s : Spot) (k a b : ℕ) → s.ring ≡ k → s.column ≡ a → s.row ≡ b → a ≤ 2 * k → b ≤ 2 * k → (b ≡ 0) ⊎ (b ≡ 2 * k) ⊎ (a ≡ 0) ⊎ (a ≡ 2 * k) → OnRing s
on_ring_of s k a b p q r x y z = record { across = omega arith; down = omega arith; rim = grind arith }

pub next_on : (s : Spot) → OnRing s → OnRing (next s)
next_on s h =
    let k = s.ring in let a = s.column in let b = s.row in
    elim (cases_lt s.column (2 * s.ring)) [
      | inl lt ↦ elim (cases_lt 0 s.row) [
        | inl some ↦ elim (cases_lt s.row (2 * s.ring)) [
          | inl inside ↦ on_ring_of (next s) k (2 * k) b (ring_same k a b (inl lt)) (column_last k a b lt some inside) (row_same k a b lt) (omega arith) (omega arith) (inr (inr (inr refl)))
          | inr end ↦ on_ring_of (next s) k (a + 1) b (ring_same k a b (inl lt)) (column_more k a b lt (inr end)) (row_same k a b lt) (omega arith) (omega arith) (inr (inl (omega arith)))
        ]
        | inr none ↦ (let z : s.row ≡ 0 = omega arith in on_ring_of (next s) k (a + 1) b (ring_same k a b (inl lt)) (column_more k a b lt (inl z)) (row_same k a b lt) (omega arith) (omega arith) (inl z))
      ]
      | inr last ↦ elim (cases_lt s.row (2 * s.ring)) [
        | inl inside ↦ on_ring_of (next s) k 0 (b + 1) (ring_same k a b (inr inside)) (column_first k a b last) (row_more k a b last inside) (omega arith) (omega arith) (inr (inr (inl refl)))
        | inr end ↦ on_ring_of (next s) (k + 1) 0 0 (ring_more k a b last end) (column_first k a b last) (row_first k a b last end) (omega arith) (omega arith) (inl refl)
      ]
    ]

pub on : (n : ℕ) → OnRing (spot_at n)
unfolding spot_at
on zero = record { across = omega arith; down = omega arith; rim = inl refl }
on (suc n) = next_on (spot_at n) (on n)

pub ranked : (n : ℕ) → rank (spot_at n) ≡ n
unfolding spot_at
ranked zero = refl
ranked (suc n) = let h = on n in next_rank (spot_at n).ring (spot_at n).column (spot_at n).row h.across h.down h.rim ∙ ap (λ (v : ℕ). v + 1) (ranked n) ∙ omega arith

pub is_rank : IsRank
is_rank n = (on n, ranked n)

mul-le-mul : (a b c d : ℕ) → a ≤ b → c ≤ d → a * c ≤ b * d
mul-le-mul a b c d p q = grind arith

wider : (a b : ℕ) → a < b → (2 * a + 1) * (2 * a + 1) ≤ base b
wider a b p = mul-le-mul (2 * a + 1) (2 * b - 1) (2 * a + 1) (2 * b - 1) (omega arith) (omega arith)

odd : (k : ℕ) → base (k + 1) ≡ (2 * k + 1) * (2 * k + 1)
odd k = let e : 2 * (k + 1) - 1 ≡ 2 * k + 1 = omega arith in rw e refl

-- a rank lies below the square of its ring's side
pub ring_high : (k a b : ℕ) → a ≤ 2 * k → b ≤ 2 * k → rank_at k a b < (2 * k + 1) * (2 * k + 1)
ring_high zero a b p q = let t = top zero a b (omega arith) in omega arith
ring_high (suc k) a b p q =
    let e = squares (suc k) (omega arith) in
    let f = odd (suc k) in
    elim (cases_lt 0 b) [
      | inl some ↦ elim (cases_lt b (2 * suc k)) [
        | inl inside ↦ elim (cases_lt 0 a) [
          | inl far ↦ (let l = right (suc k) a b some inside far in omega arith)
          | inr near ↦ (let l = left (suc k) a b some inside (omega arith) in omega arith)
        ]
        | inr end ↦ (let l = low (suc k) a b some end in omega arith)
      ]
      | inr none ↦ (let l = top (suc k) a b (omega arith) in omega arith)
    ]

pub ring_low : (k a b : ℕ) → base k ≤ rank_at k a b
ring_low k a b = omega arith

-- in one ring
row_order : (k a b c d : ℕ) → a ≤ 2 * k → b < d → d ≤ 2 * k → rank_at k a b < rank_at k c d
row_order k a b c d p q r = elim (cases_lt d (2 * k)) [
  | inl inside ↦ (let low_d : base k + (2 * k + 1 + 2 * (d - 1)) ≤ rank_at k c d = elim (cases_lt 0 c) [
    | inl far ↦ (let l = right k c d (omega arith) inside far in omega arith)
    | inr near ↦ (let l = left k c d (omega arith) inside (omega arith) in omega arith)
  ] in
      elim (cases_lt 0 b) [
        | inl some ↦ elim (cases_lt 0 a) [
          | inl far ↦ (let l = right k a b some (omega arith) far in omega arith)
          | inr near ↦ (let l = left k a b some (omega arith) (omega arith) in omega arith)
        ]
        | inr none ↦ (let l = top k a b (omega arith) in omega arith)
      ])
  | inr end ↦ (let m = low k c d (omega arith) end in elim (cases_lt 0 b) [
    | inl some ↦ elim (cases_lt 0 a) [
      | inl far ↦ (let l = right k a b some (omega arith) far in omega arith)
      | inr near ↦ (let l = left k a b some (omega arith) (omega arith) in omega arith)
    ]
    | inr none ↦ (let l = top k a b (omega arith) in omega arith)
  ])
]

column_order : (k a b c : ℕ) → a < c → c ≤ 2 * k → b ≤ 2 * k → (b ≡ 0) ⊎ (b ≡ 2 * k) ⊎ (a ≡ 0) ⊎ (a ≡ 2 * k) → rank_at k a b < rank_at k c b
column_order k a b c p q r rim = elim (cases_lt 0 b) [
  | inl some ↦ elim (cases_lt b (2 * k)) [
    | inl inside ↦ (let m = right k c b some inside (omega arith) in let z : a ≡ 0 = grind arith in let l = left k a b some inside z in omega arith)
    | inr end ↦ (let m = low k c b some end in let l = low k a b some end in omega arith)
  ]
  | inr none ↦ (let m = top k c b (omega arith) in let l = top k a b (omega arith) in omega arith)
]

pub in_order : InOrder
in_order s t p q (inl lt) =
    let h = ring_high s.ring s.column s.row p.across p.down in
    let w = wider s.ring t.ring lt in
    let l = ring_low t.ring t.column t.row in
    omega arith
in_order s t p q (inr (inl e)) =
    let d : t.row ≤ 2 * s.ring = omega (arith, e.0, q.down) in
    subst (λ (k : ℕ). rank s < rank_at k t.column t.row) e.0 (row_order s.ring s.column s.row t.column t.row p.across e.1 d)
in_order s t p q (inr (inr e)) =
    let c : t.column ≤ 2 * s.ring = omega (arith, e.0, q.across) in
    subst (λ (k : ℕ). rank s < rank_at k t.column t.row) e.0
    (subst (λ (b : ℕ). rank s < rank_at s.ring t.column b) e.1 (column_order s.ring s.column s.row t.column e.2 c p.down p.rim))

spot_same : (s t : Spot) → s.ring ≡ t.ring → s.row ≡ t.row → s.column ≡ t.column → s ≡ t
spot_same s t p q r = ap (λ (k : ℕ). record s { ring = k }) p ∙ ap (λ (b : ℕ). record s { ring = t.ring; row = b }) q ∙ ap (λ (a : ℕ). record t { column = a }) r

one_spot : (s t : Spot) → OnRing s → OnRing t → rank s ≡ rank t → s ≡ t
one_spot s t p q e = elim (cases_lt s.ring t.ring) [
  | inl lt ↦ absurd (let o = in_order s t p q (inl lt) in omega arith)
  | inr ge ↦ elim (cases_lt t.ring s.ring) [
    | inl lt ↦ absurd (let o = in_order t s q p (inl lt) in omega arith)
    | inr le ↦ (let k : s.ring ≡ t.ring = omega arith in elim (cases_lt s.row t.row) [
      | inl lt ↦ absurd (let o = in_order s t p q (inr (inl (k, lt))) in omega arith)
      | inr ge2 ↦ elim (cases_lt t.row s.row) [
        | inl lt ↦ absurd (let o = in_order t s q p (inr (inl (sym k, lt))) in omega arith)
        | inr le2 ↦ (let b : s.row ≡ t.row = omega arith in elim (cases_lt s.column t.column) [
          | inl lt ↦ absurd (let o = in_order s t p q (inr (inr (k, b, lt))) in omega arith)
          | inr ge3 ↦ elim (cases_lt t.column s.column) [
            | inl lt ↦ absurd (let o = in_order t s q p (inr (inr (sym k, sym b, lt))) in omega arith)
            | inr le3 ↦ spot_same s t k b (omega arith)
          ]
        ])
      ]
    ])
  ]
]

pub each_once : EachOnce
each_once s h = one_spot (spot_at (rank s)) s (on (rank s)) h (ranked (rank s))

pub in_window : InWindow
in_window s r h le =
    let a = ring_high s.ring s.column s.row h.across h.down in
    let b = mul-le-mul (2 * s.ring + 1) (2 * r + 1) (2 * s.ring + 1) (2 * r + 1) (omega arith) (omega arith) in
    omega arith

-- the rings of a window's places
pub ring_within : (n r : ℕ) → n < (2 * r + 1) * (2 * r + 1) → (spot_at n).ring ≤ r
ring_within n r p = elim (cases_lt r (spot_at n).ring) [
  | inl lt ↦ absurd (
      let w = wider r (spot_at n).ring lt in
      let l = ring_low (spot_at n).ring (spot_at n).column (spot_at n).row in
      let k = ranked n in
      omega arith)
  | inr le ↦ le
]

pub after_one : (n : ℕ) → 0 < n → next (spot_at (n - 1)) ≡ spot_at n
unfolding spot_at
after_one zero p = absurd (omega arith)
after_one (suc n) p = let e : suc n - 1 ≡ n = omega arith in rw e refl

pub arrived : (n : ℕ) (s t : Spot) → 0 < n → s ≡ spot_at (n - 1) → t ≡ next s → t ≡ spot_at n
arrived n s t p e f = f ∙ ap next e ∙ after_one n p

-- what is known of a vector of the window
pub record Within (r : ℕ) (s : Spot) : Type 0 where
  pub on_ring : OnRing s
  pub ring : s.ring ≤ r

pub within : (n r : ℕ) (s : Spot) → n < (2 * r + 1) * (2 * r + 1) → s ≡ spot_at n → Within r s
within n r s p e = subst (λ (t : Spot). Within r t) (sym e) (record { on_ring = on n; ring = ring_within n r p })

-- VECTORS AND RINGS

sooner_or : (s t : Spot) → OnRing s → OnRing t → rank s < rank t → Sooner s t
sooner_or s t p q e = elim (cases_lt s.ring t.ring) [
  | inl lt ↦ inl lt
  | inr ge ↦ elim (cases_lt t.ring s.ring) [
    | inl lt ↦ absurd (let o = in_order t s q p (inl lt) in omega arith)
    | inr le ↦ (let k : s.ring ≡ t.ring = omega arith in elim (cases_lt s.row t.row) [
      | inl lt ↦ inr (inl (k, lt))
      | inr ge2 ↦ elim (cases_lt t.row s.row) [
        | inl lt ↦ absurd (let o = in_order t s q p (inr (inl (sym k, lt))) in omega arith)
        | inr le2 ↦ (let b : s.row ≡ t.row = omega arith in elim (cases_lt s.column t.column) [
          | inl lt ↦ inr (inr (k, b, lt))
          | inr ge3 ↦ elim (cases_lt t.column s.column) [
            | inl lt ↦ absurd (let o = in_order t s q p (inr (inr (sym k, sym b, lt))) in omega arith)
            | inr le3 ↦ absurd (let z : s ≡ t = spot_same s t k b (omega arith) in let y = ap rank z in omega arith)
          ]
        ])
      ]
    ])
  ]
]

abs_of : (a k : ℕ) → nat_abs (pos a -ℤ pos k) ≡ (a - k) + (k - a)
abs_of a k = elim (cases_lt a k) [
  | inl lt ↦ (let z : pos a -ℤ pos k ≡ negsuc (k - a - 1) = omega (arith, ints) in ap nat_abs z ∙ omega arith)
  | inr ge ↦ (let z : pos a -ℤ pos k ≡ pos (a - k) = omega (arith, ints) in ap nat_abs z ∙ omega arith)
]

-- on its ring the greater of the two sizes is the ring's number
ring_is : (s : Spot) → OnRing s → ring_of (dx_of s) (dy_of s) ≡ s.ring
ring_is s h =
    let k = s.ring in let a = s.column in let b = s.row in
    let x = abs_of s.column s.ring in
    let y = abs_of s.row s.ring in
    let r = h.rim in
    rw (x, y) (widest s.ring s.column s.row h.across h.down r)
  where
    widest : (k a b : ℕ) → a ≤ 2 * k → b ≤ 2 * k → (b ≡ 0) ⊎ (b ≡ 2 * k) ⊎ (a ≡ 0) ⊎ (a ≡ 2 * k) → max ((a - k) + (k - a)) ((b - k) + (k - b)) ≡ k
    widest k a b p q (inl r) = omega arith
    widest k a b p q (inr (inl r)) = omega arith
    widest k a b p q (inr (inr (inl r))) = omega arith
    widest k a b p q (inr (inr (inr r))) = omega arith

-- where a part of a vector lies on a ring
placed : ℤ → ℕ → ℕ
placed (pos n) k = n + k
placed (negsuc n) k = k - suc n

placed_back : (u : ℤ) (k : ℕ) → nat_abs u ≤ k → pos (placed u k) -ℤ pos k ≡ u
unfolding placed
placed_back (pos n) k p = omega (arith, ints)
placed_back (negsuc n) k p = omega (arith, ints)

placed_most : (u : ℤ) (k : ℕ) → nat_abs u ≤ k → placed u k ≤ 2 * k
unfolding placed
placed_most (pos n) k p = omega arith
placed_most (negsuc n) k p = omega arith

placed_rim : (u : ℤ) (k : ℕ) → nat_abs u ≡ k → (placed u k ≡ 0) ⊎ (placed u k ≡ 2 * k)
unfolding placed
placed_rim (pos n) k p = inr (omega arith)
placed_rim (negsuc n) k p = inl (omega arith)

spot_of : ℤ → ℤ → Spot
spot_of u v = record { ring = ring_of u v; column = placed u (ring_of u v); row = placed v (ring_of u v) }

rim_of : (a b k : ℕ) → ((a ≡ 0) ⊎ (a ≡ 2 * k)) ⊎ ((b ≡ 0) ⊎ (b ≡ 2 * k)) → (b ≡ 0) ⊎ (b ≡ 2 * k) ⊎ (a ≡ 0) ⊎ (a ≡ 2 * k)
rim_of a b k (inl (inl e)) = inr (inr (inl e))
rim_of a b k (inl (inr e)) = inr (inr (inr e))
rim_of a b k (inr (inl e)) = inl e
rim_of a b k (inr (inr e)) = inr (inl e)

widest_is : (a b : ℕ) → (a ≡ max a b) ⊎ (b ≡ max a b)
widest_is a b = elim (cases_lt a b) [ inl lt ↦ inr (omega arith) | inr ge ↦ inl (omega arith) ]

spot_on : (u v : ℤ) → OnRing (spot_of u v)
unfolding spot_of
spot_on u v = record {
  across = placed_most u (ring_of u v) (omega arith);
  down = placed_most v (ring_of u v) (omega arith);
  rim = rim_of (placed u (ring_of u v)) (placed v (ring_of u v)) (ring_of u v) (elim (widest_is (nat_abs u) (nat_abs v)) [
    | inl e ↦ inl (placed_rim u (ring_of u v) e)
    | inr e ↦ inr (placed_rim v (ring_of u v) e)
  ]);
}

spot_ring : (u v : ℤ) → (spot_of u v).ring ≡ ring_of u v
unfolding spot_of
spot_ring u v = refl

spot_dx : (u v : ℤ) → dx_of (spot_of u v) ≡ u
unfolding spot_of
spot_dx u v = placed_back u (ring_of u v) (omega arith)

spot_dy : (u v : ℤ) → dy_of (spot_of u v) ≡ v
unfolding spot_of
spot_dy u v = placed_back v (ring_of u v) (omega arith)

-- the place at which a vector stands
pub place_of : ℤ → ℤ → ℕ
place_of u v = rank (spot_of u v)

pub at_place : (u v : ℤ) → (dx_of (spot_at (place_of u v)) ≡ u) × (dy_of (spot_at (place_of u v)) ≡ v)
unfolding place_of
at_place u v =
    let e = each_once (spot_of u v) (spot_on u v) in
    (ap dx_of e ∙ spot_dx u v, ap dy_of e ∙ spot_dy u v)

pub place_inside : (range : ℕ) (u v : ℤ) → InRange range u v → place_of u v < window_size range
unfolding place_of
place_inside range u v h =
    let r = spot_ring u v in
    let a = h.across in
    let b = h.down in
    in_window (spot_of u v) range (spot_on u v) (omega arith)

ring_inside : (s : Spot) (range : ℕ) → OnRing s → s.ring ≤ range → InRange range (dx_of s) (dy_of s)
ring_inside s range h p =
    let a = abs_of s.column s.ring in
    let b = abs_of s.row s.ring in
    let x = h.across in
    let y = h.down in
    record { across = omega arith; down = omega arith }

sooner_before : (s t : Spot) → OnRing s → OnRing t → Sooner s t → Before (dx_of s) (dy_of s) (dx_of t) (dy_of t)
sooner_before s t p q (inl lt) = inl (rw (ring_is s p, ring_is t q) lt)
sooner_before s t p q (inr (inl h)) = inr (inl (ring_is s p ∙ h.0 ∙ sym (ring_is t q), (let e = h.0 in let l = h.1 in omega (arith, ints))))
sooner_before s t p q (inr (inr h)) = inr (inr (ring_is s p ∙ h.0 ∙ sym (ring_is t q), (let e = h.0 in let l = h.1 in omega (arith, ints)), (let e = h.0 in let l = h.2 in omega (arith, ints))))

pub before_place : (m n : ℕ) → m < n → Before (dx_of (spot_at m)) (dy_of (spot_at m)) (dx_of (spot_at n)) (dy_of (spot_at n))
before_place m n p =
    let a = ranked m in
    let b = ranked n in
    sooner_before (spot_at m) (spot_at n) (on m) (on n) (sooner_or (spot_at m) (spot_at n) (on m) (on n) (omega arith))

pub scan_order : ScanOrder
scan_order = record {
  inside = λ range n p. ring_inside (spot_at n) range (on n) (ring_within n range p);
  reached = λ range u v h. (let e = at_place u v in (place_of u v, place_inside range u v h, e.0, e.1));
  order = before_place;
}
