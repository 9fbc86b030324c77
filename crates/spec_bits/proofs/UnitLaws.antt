-- Units are read back.
use Rattle.std.proofs.Common.{ℕ, zero, suc, ◌≡◌, ◌+◌, ◌-◌, ◌<◌, ◌≤◌, Bool, true, false, List, [], ◌∷◌, ◌++◌, length, get_or, refl, sym, ap, ap₂, subst, ◌∙◌, arith, Option, Some, None, append_assoc, append-nil, replicate}
use Rattle.std.specs.Prelude.{nat_le, nat_lt, ◌&&◌, ◌==◌, cond, option_and_then, map}
use Rattle.std.specs.Option.{option_map}
use Rattle.std.specs.List.{flat_map, All}
use Rattle.std.proofs.lemmas.Bool.Decides.{nat_tests}
use Rattle.std.proofs.lemmas.List.Elements.{All-head, All-tail}
use Rattle.spec_bits.specs.Units.{escape, unescape, small_next, zeros_after, parted, with_bytes, begun, start_code, header_byte, unit_bytes, units_of, nal_of, nals_of, Nal, IsNal, written}
use Rattle.spec_bits.proofs.Escapes.{escape-none, escape-put, escape-keep}

-- ---- payloads

pub unescape-escape : (before : ℕ) (bytes : List ℕ) → unescape before (escape before bytes) ≡ bytes
unfolding escape unescape
unescape-escape before [] = refl
unescape-escape before (b ∷ bytes) = go (nat_le 2 before) (nat_le b 3) refl refl (unescape-escape (zeros_after 0 b) bytes) (unescape-escape (zeros_after before b) bytes)
  where
    apart : (b : ℕ) → nat_le b 3 ≡ false → (b == 3) ≡ false
    apart b h = grind (arith, nat_tests)

    skip : (u : Bool) (x y : List ℕ) (w : Bool) → cond (u && false && w) x y ≡ y
    skip true x y w = refl
    skip false x y w = refl

    go : (two small : Bool) → nat_le 2 before ≡ two → nat_le b 3 ≡ small
        → unescape (zeros_after 0 b) (escape (zeros_after 0 b) bytes) ≡ bytes → unescape (zeros_after before b) (escape (zeros_after before b) bytes) ≡ bytes
        → unescape before (cond (two && small) (3 ∷ b ∷ escape (zeros_after 0 b) bytes) (b ∷ escape (zeros_after before b) bytes)) ≡ b ∷ bytes
    go true true t s h k =
        ap₂ (λ u w. cond (u && (3 == 3) && w) (unescape 0 (b ∷ escape (zeros_after 0 b) bytes)) (3 ∷ unescape (zeros_after before 3) (b ∷ escape (zeros_after 0 b) bytes))) t s
        ∙ ap (λ bs. b ∷ bs) h
    go true false t s h k =
        ap (λ u. cond (nat_le 2 before && u && small_next (escape (zeros_after before b) bytes)) (unescape 0 (escape (zeros_after before b) bytes)) (b ∷ unescape (zeros_after before b) (escape (zeros_after before b) bytes))) (apart b s)
        ∙ skip (nat_le 2 before) _ _ (small_next (escape (zeros_after before b) bytes)) ∙ ap (λ bs. b ∷ bs) k
    go false small t s h k =
        ap (λ u. cond (u && (b == 3) && small_next (escape (zeros_after before b) bytes)) (unescape 0 (escape (zeros_after before b) bytes)) (b ∷ unescape (zeros_after before b) (escape (zeros_after before b) bytes))) t
        ∙ ap (λ bs. b ∷ bs) k

-- ---- where a payload ends

abbrev Ends : List ℕ → Type 0
Ends [] = Unit {0}
Ends (b ∷ []) = 0 < b
Ends (b ∷ c ∷ bytes) = Ends (c ∷ bytes)

ends_tail : (b : ℕ) (bytes : List ℕ) → Ends (b ∷ bytes) → Ends bytes
ends_tail b [] h = tt
ends_tail b (c ∷ bytes) h = h

ends_zero : (bytes : List ℕ) → Ends (0 ∷ bytes) → length bytes ≡ 0 → ⊥
ends_zero [] h e = omega (arith, h)
ends_zero (c ∷ bytes) h e = omega (arith, e)

ends_from : (bytes : List ℕ) → 0 < get_or bytes (length bytes - 1) 1 → Ends bytes
ends_from [] h = tt
ends_from (b ∷ []) h = h
ends_from (b ∷ c ∷ bytes) h =
    let e : suc (suc (length bytes)) - 1 ≡ suc (suc (length bytes) - 1) = omega arith in
    ends_from (c ∷ bytes) (subst (λ i. 0 < get_or (b ∷ c ∷ bytes) i 1) e h)

-- ---- parting

-- bytes of a unit in front of what is parted
abbrev ahead : List ℕ → List ℕ × List (List ℕ) → List ℕ × List (List ℕ)
ahead bytes parts = (bytes ++ parts.0, parts.1)

map_map : {A B C : Type 0} (f : B → C) (g : A → B) (o : Option A) → option_map f (option_map g o) ≡ option_map (λ a. f (g a)) o
map_map f g (Some a) = refl
map_map f g None = refl

map_same : {A B : Type 0} (f g : A → B) (o : Option A) → ((a : A) → f a ≡ g a) → option_map f o ≡ option_map g o
map_same f g (Some a) h = ap (λ b. Some b) (h a)
map_same f g None h = refl

-- a byte that isn't 00, and behind two bytes 00 is neither 01 nor 02
parted-byte : (before b : ℕ) (bytes : List ℕ) → before ≤ 2 → (b == 0) ≡ false → (2 ≤ before → 2 < b) → parted before (b ∷ bytes) ≡ option_map (with_bytes before b) (parted 0 bytes)
unfolding parted
parted-byte zero b bytes h e t = rw e refl
parted-byte (suc zero) b bytes h e t = rw e refl
parted-byte (suc (suc zero)) b bytes h e t =
    let large : 2 < b = t (omega arith) in
    let one : (b == 1) ≡ false = grind (arith, nat_tests) in
    let two : nat_lt 2 b ≡ true = grind (arith, nat_tests) in
    rw (e, one, two) refl
parted-byte (suc (suc (suc n))) b bytes h e t = absurd (omega arith)

parted-zero : (before : ℕ) (bytes : List ℕ) → before ≤ 2 → parted before (0 ∷ bytes) ≡ parted (before + 1) bytes
unfolding parted
parted-zero before bytes h = let t : nat_lt before 3 ≡ true = grind (arith, nat_tests) in rw t refl

zero_between : (n : ℕ) (bytes : List ℕ) → replicate (n + 1) 0 ++ bytes ≡ replicate n 0 ++ (0 ∷ bytes)
zero_between zero bytes = refl
zero_between (suc n) bytes = let e : suc n + 1 ≡ suc (n + 1) = omega arith in rw e (ap (λ bs. 0 ∷ bs) (zero_between n bytes))

-- a payload, escaped, behind so many bytes 00
Claim : ℕ → List ℕ → List ℕ → Type 0
Claim before bytes rest = parted before (escape before bytes ++ rest) ≡ option_map (ahead (replicate before 0 ++ escape before bytes)) (parted 0 rest)

middle_zero : (before : ℕ) (tail rest : List ℕ) → before ≤ 2 → parted (before + 1) (tail ++ rest) ≡ option_map (ahead (replicate (before + 1) 0 ++ tail)) (parted 0 rest)
    → parted before (0 ∷ (tail ++ rest)) ≡ option_map (ahead (replicate before 0 ++ (0 ∷ tail))) (parted 0 rest)
middle_zero before tail rest h ih =
    parted-zero before (tail ++ rest) h ∙ ih ∙ map_same (ahead (replicate (before + 1) 0 ++ tail)) (ahead (replicate before 0 ++ (0 ∷ tail))) (parted 0 rest) (λ p. ap (λ l. (l ++ p.0, p.1)) (zero_between before tail))

middle_byte : (before b : ℕ) (tail rest : List ℕ) → before ≤ 2 → (b == 0) ≡ false → (2 ≤ before → 2 < b) → parted 0 (tail ++ rest) ≡ option_map (ahead tail) (parted 0 rest)
    → parted before (b ∷ (tail ++ rest)) ≡ option_map (ahead (replicate before 0 ++ (b ∷ tail))) (parted 0 rest)
middle_byte before b tail rest h e t ih =
    parted-byte before b (tail ++ rest) h e t ∙ ap (λ o. option_map (with_bytes before b) o) ih ∙ map_map (with_bytes before b) (ahead tail) (parted 0 rest)
    ∙ map_same (λ p. with_bytes before b (ahead tail p)) (ahead (replicate before 0 ++ (b ∷ tail))) (parted 0 rest) (λ p. ap (λ l. (l, p.1)) (sym (append_assoc (replicate before 0) (b ∷ tail) p.0)))

not_zero : (n : ℕ) → (suc n == 0) ≡ false
not_zero n = grind (arith, nat_tests)

after_byte : (before n : ℕ) → zeros_after before (suc n) ≡ 0
after_byte before n = rw (not_zero n) refl

large_enough : (before b : ℕ) → (nat_le 2 before && nat_le b 3) ≡ false → 2 ≤ before → 2 < b
large_enough before b t h = let two : nat_le 2 before ≡ true = grind (arith, nat_tests) in let e : nat_le b 3 ≡ false = rw two at t in grind (arith, nat_tests)

after_small : (before b : ℕ) → before ≤ 2 → (nat_le 2 before && nat_le b 3) ≡ false → zeros_after before b ≤ 2
after_small before zero h t = fewer (λ k. let l : 2 < 0 = large_enough before 0 t k in omega arith)
  where
    fewer : (2 ≤ before → ⊥) → before + 1 ≤ 2
    fewer f = omega (arith, f)
after_small before (suc n) h t = rw (not_zero n) (omega arith)

after_none : (before b : ℕ) (bytes : List ℕ) → Ends (b ∷ bytes) → length bytes ≡ 0 → zeros_after before b ≡ 0
after_none before zero bytes e k = absurd (ends_zero bytes e k)
after_none before (suc n) bytes e k = after_byte before n

claim_keep : (before b : ℕ) (bytes rest : List ℕ) → before ≤ 2 → (nat_le 2 before && nat_le b 3) ≡ false → Claim (zeros_after before b) bytes rest → Claim before (b ∷ bytes) rest
unfolding Claim
claim_keep before b bytes rest h t ih =
    ap (λ l. parted before (l ++ rest)) (escape-keep before b bytes t) ∙ go b (large_enough before b t) ih
    ∙ ap (λ l. option_map (ahead (replicate before 0 ++ l)) (parted 0 rest)) (sym (escape-keep before b bytes t))
  where
    go : (b : ℕ) → (2 ≤ before → 2 < b) → Claim (zeros_after before b) bytes rest
        → parted before (b ∷ (escape (zeros_after before b) bytes ++ rest)) ≡ option_map (ahead (replicate before 0 ++ (b ∷ escape (zeros_after before b) bytes))) (parted 0 rest)
    go zero l ih = middle_zero before (escape (before + 1) bytes) rest h ih
    go (suc n) l ih =
        let k : Claim 0 bytes rest = subst (λ z. Claim z bytes rest) (after_byte before n) ih in
        ap (λ z. parted before (suc n ∷ (escape z bytes ++ rest))) (after_byte before n)
        ∙ middle_byte before (suc n) (escape 0 bytes) rest h (not_zero n) l k
        ∙ ap (λ z. option_map (ahead (replicate before 0 ++ (suc n ∷ escape z bytes))) (parted 0 rest)) (sym (after_byte before n))

nothing_ahead : (o : Option (List ℕ × List (List ℕ))) → o ≡ option_map (ahead []) o
nothing_ahead (Some p) = refl
nothing_ahead None = refl

claim : (before : ℕ) (bytes rest : List ℕ) → before ≤ 2 → Ends bytes → (length bytes ≡ 0 → before ≡ 0) → Claim before bytes rest
unfolding Claim
claim before [] rest h e k =
    subst (λ z. parted z (escape z [] ++ rest) ≡ option_map (ahead (replicate z 0 ++ escape z [])) (parted 0 rest)) (sym (k refl))
    (ap (λ l. parted 0 (l ++ rest)) (escape-none 0) ∙ nothing_ahead (parted 0 rest) ∙ ap (λ l. option_map (ahead l) (parted 0 rest)) (sym (escape-none 0)))
claim before (b ∷ bytes) rest h e k = go (nat_le 2 before && nat_le b 3) refl (λ z l m. claim z bytes rest l (ends_tail b bytes e) m)
  where
    go : (t : Bool) → (nat_le 2 before && nat_le b 3) ≡ t → ((z : ℕ) → z ≤ 2 → (length bytes ≡ 0 → z ≡ 0) → Claim z bytes rest) → Claim before (b ∷ bytes) rest
    go false t ih = claim_keep before b bytes rest h t (ih (zeros_after before b) (after_small before b h t) (after_none before b bytes e))
    go true t ih =
        let inner : Claim 0 (b ∷ bytes) rest = claim_keep 0 b bytes rest (omega arith) refl (ih (zeros_after 0 b) (after_small 0 b (omega arith) refl) (after_none 0 b bytes e)) in
        ap (λ l. parted before (l ++ rest)) (escape-put before b bytes t)
        ∙ middle_byte before 3 (escape 0 (b ∷ bytes)) rest h refl (λ _. omega arith) inner
        ∙ ap (λ l. option_map (ahead (replicate before 0 ++ l)) (parted 0 rest)) (sym (escape-put before b bytes t))

-- ---- units

parted-start : (long : Bool) (bytes : List ℕ) → parted 0 (start_code long ++ bytes) ≡ option_map begun (parted 0 bytes)
unfolding parted
parted-start false bytes = refl
parted-start true bytes = refl

unit_of : Bool × Nal → List ℕ
unit_of u = header_byte u.1.ref_idc u.1.kind ∷ escape 0 u.1.payload

unit_parted : (u : Bool × Nal) (rest : List ℕ) → IsNal u.1 → parted 0 (written u ++ rest) ≡ option_map (λ p. begun (ahead (unit_of u) p)) (parted 0 rest)
unfolding unit_bytes unit_of Claim
unit_parted u rest h =
    let header = header_byte u.1.ref_idc u.1.kind in
    let nonzero : (header == 0) ≡ false = above header (omega (arith, h.kind_from)) in
    ap (λ l. parted 0 l) (append_assoc (start_code u.0) (header ∷ escape 0 u.1.payload) rest)
    ∙ parted-start u.0 (header ∷ (escape 0 u.1.payload ++ rest))
    ∙ ap (λ o. option_map begun o)
    (middle_byte 0 header (escape 0 u.1.payload) rest (omega arith) nonzero (λ k. absurd (omega arith)) (claim 0 u.1.payload rest (omega arith) (ends_from u.1.payload h.ends.last) (λ _. refl)))
    ∙ map_map begun (ahead (header ∷ escape 0 u.1.payload)) (parted 0 rest)
  where
    above : (n : ℕ) → 0 < n → (n == 0) ≡ false
    above n h = grind (arith, nat_tests)

all_parted : (us : List (Bool × Nal)) → All (λ u. IsNal u.1) us → parted 0 (flat_map written us) ≡ Some ([], map unit_of us)
unfolding parted unit_of
all_parted [] h = refl
all_parted (u ∷ us) h =
    unit_parted u (flat_map written us) (All-head (λ u. IsNal u.1) u us h)
    ∙ ap (λ o. option_map (λ p. begun (ahead (unit_of u) p)) o) (all_parted us (All-tail (λ u. IsNal u.1) u us h))
    ∙ ap (λ l. let x : List ℕ × List (List ℕ) = ([], l ∷ map unit_of us) in Some x) (append-nil (unit_of u))

same_nal : (n : Nal) (r k : ℕ) (p : List ℕ) → r ≡ n.ref_idc → k ≡ n.kind → p ≡ n.payload → (let x : Nal = record { ref_idc = r; kind = k; payload = p } in x ≡ n)
same_nal n r k p a b c =
    ap (λ x. let y : Nal = record { ref_idc = x; kind = k; payload = p } in y) a
    ∙ ap (λ x. let y : Nal = record { ref_idc = n.ref_idc; kind = x; payload = p } in y) b
    ∙ ap (λ x. let y : Nal = record { ref_idc = n.ref_idc; kind = n.kind; payload = x } in y) c

read_nal : (u : Bool × Nal) → IsNal u.1 → nal_of (unit_of u) ≡ Some u.1
unfolding unit_of
read_nal u h =
    let small : nat_lt (header_byte u.1.ref_idc u.1.kind) 128 ≡ true = below (header_byte u.1.ref_idc u.1.kind) (omega (arith, h.ref_idc, h.kind_to)) in
    rw small (ap (λ (n : Nal). Some n) (same_nal u.1 _ _ _ (omega (arith, h.kind_to)) (omega (arith, h.kind_to)) (unescape-escape 0 u.1.payload)))
  where
    below : (n : ℕ) → n < 128 → nat_lt n 128 ≡ true
    below n h = grind (arith, nat_tests)

read_nals : (us : List (Bool × Nal)) → All (λ u. IsNal u.1) us → nals_of (map unit_of us) ≡ Some (map (λ u. u.1) us)
read_nals [] h = refl
read_nals (u ∷ us) h =
    ap (λ o. option_and_then (λ nal. option_map (λ nals. nal ∷ nals) (nals_of (map unit_of us))) o) (read_nal u (All-head (λ u. IsNal u.1) u us h))
    ∙ ap (λ o. option_map (λ nals. u.1 ∷ nals) o) (read_nals us (All-tail (λ u. IsNal u.1) u us h))

-- the units of written units are those that were written, whatever their start codes
pub units_are_read_back : (us : List (Bool × Nal)) → All (λ u. IsNal u.1) us → units_of (flat_map written us) ≡ Some (map (λ u. u.1) us)
unfolding units_of
units_are_read_back us h =
    ap (λ o. option_and_then (λ parts. elim parts.0 [ [] ↦ nals_of parts.1 | b ∷ rest ↦ None ]) o) (all_parted us h) ∙ read_nals us h
