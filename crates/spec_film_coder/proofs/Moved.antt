-- The list behind a command: it has as many entries as before, and the same pictures.
use Rattle.std.proofs.Common.{◌≡◌, ◌≤◌, ◌<◌, ◌+◌, ◌-◌, ◌%◌, ℕ, zero, suc, Bool, true, false, cond, not, List, [], ◌∷◌, length, take, Some, refl, ap, subst, ◌∙◌, arith, length-take-le}
use Rattle.std.specs.Prelude.{◌==◌}
use Rattle.std.specs.List.{AllByRecursion, filter, find}
use Rattle.std.proofs.lemmas.Bool.Decides.{nat_tests}
use Rattle.spec_lists.specs.References.{Reference}
use Rattle.spec_lists.specs.Orders.{Falling}
use Rattle.spec_lists.specs.Lists.{is_so_far, in_front}
use Rattle.spec_lists.proofs.Sorted.{plain_distance}

-- ---- how many there are

abbrev others : ℕ → ℕ → List Reference → List Reference
others n far rs = filter (λ q. not (is_so_far n far q)) rs

-- a picture of a smaller frame_num lies farther
is_farther : (n far m q : ℕ) → n < 65536 → q < m → m < n → n - m ≡ far → ((n + 65536 - q) % 65536 == far) ≡ false
is_farther n far m q small lt le e =
    let d : (n + 65536 - q) % 65536 ≡ n - q = plain_distance n q (omega (arith, lt, le)) small in differ ((n + 65536 - q) % 65536) far (omega (arith, d, lt, le, e))
  where
    differ : (a b : ℕ) → b < a → (a == b) ≡ false
    differ a b h = grind (arith, nat_tests)

none_taken : (n far m : ℕ) (rs : List Reference) → n < 65536 → m < n → n - m ≡ far → AllByRecursion (λ q. q.frame_num < m) rs → others n far rs ≡ rs
none_taken n far m [] small lt e h = refl
none_taken n far m (r ∷ rs) small lt e h =
    ap (λ b. cond (not b) (r ∷ others n far rs) (others n far rs)) (is_farther n far m r.frame_num small h.0 lt e)
    ∙ ap (λ (qs : List Reference). r ∷ qs) (none_taken n far m rs small lt e h.1)

one_more : (n far : ℕ) (r : Reference) (rs : List Reference) (b : Bool) → is_so_far n far r ≡ b → n < 65536 → r.frame_num < n → AllByRecursion (λ q. q.frame_num < r.frame_num) rs → length rs ≤ 1 + length (others n far rs)
    → length (r ∷ rs) ≤ 1 + length (others n far (r ∷ rs))
one_more n far r rs true e small lt below ih =
    let d : (n + 65536 - r.frame_num) % 65536 ≡ n - r.frame_num = plain_distance n r.frame_num lt small in
    let same : (n + 65536 - r.frame_num) % 65536 ≡ far = equal ((n + 65536 - r.frame_num) % 65536) far e in
    let rest : others n far rs ≡ rs = none_taken n far r.frame_num rs small lt (omega (arith, d, same)) below in
    let whole : others n far (r ∷ rs) ≡ rs = ap (λ b. cond (not b) (r ∷ others n far rs) (others n far rs)) e ∙ rest in
    let long : length (others n far (r ∷ rs)) ≡ length rs = ap (λ (qs : List Reference). length qs) whole in
    omega (arith, long)
  where
    equal : (a b : ℕ) → (a == b) ≡ true → a ≡ b
    equal a b h = grind (arith, nat_tests)
one_more n far r rs false e small lt below ih =
    let whole : others n far (r ∷ rs) ≡ r ∷ others n far rs = ap (λ b. cond (not b) (r ∷ others n far rs) (others n far rs)) e in
    let long : length (others n far (r ∷ rs)) ≡ length (r ∷ others n far rs) = ap (λ (qs : List Reference). length qs) whole in
    omega (arith, long, ih)

-- no two have the same frame_num, so one is taken at most
one_taken : (n far : ℕ) (rs : List Reference) → n < 65536 → AllByRecursion (λ r. r.frame_num < n) rs → Falling (λ r. r.frame_num) rs → length rs ≤ 1 + length (others n far rs)
one_taken n far [] small low falls = omega arith
one_taken n far (r ∷ rs) small low falls = one_more n far r rs (is_so_far n far r) refl small low.0 falls.0 (one_taken n far rs small low.1 falls.1)

pub in_front_long : (n far : ℕ) (held : List Reference) (named : Reference) → n < 65536 → AllByRecursion (λ r. r.frame_num < n) held → Falling (λ r. r.frame_num) held → length (in_front (length held) (is_so_far n far) held named) ≡ length held
in_front_long n far held named small low falls =
    let some = one_taken n far held small low falls in length-take-le (length held) (named ∷ others n far held) (omega (arith, some))

-- ---- which they are

pub taken : (F : Reference → Type 0) (n : ℕ) (rs : List Reference) → AllByRecursion F rs → AllByRecursion F (take n rs)
taken F zero rs h = tt
taken F (suc n) [] h = tt
taken F (suc n) (r ∷ rs) h = (h.0, taken F n rs h.1)

either : (F : Reference → Type 0) (b : Bool) (r : Reference) (rs : List Reference) → F r → AllByRecursion F rs → AllByRecursion F (cond b (r ∷ rs) rs)
either F true r rs f h = (f, h)
either F false r rs f h = h

filtered : (F : Reference → Type 0) (is : Reference → Bool) (rs : List Reference) → AllByRecursion F rs → AllByRecursion F (filter is rs)
filtered F is [] h = tt
filtered F is (r ∷ rs) h = either F (is r) r (filter is rs) h.0 (filtered F is rs h.1)

by_test : (F : Reference → Type 0) (is : Reference → Bool) (r one : Reference) (rs : List Reference) (b : Bool) → F r → (find is rs ≡ Some one → F one) → cond b (Some r) (find is rs) ≡ Some one → F one
by_test F is r one rs true f rest e = let same : r ≡ one = cc in subst F same f
by_test F is r one rs false f rest e = rest e

found_has : (F : Reference → Type 0) (is : Reference → Bool) (rs : List Reference) (one : Reference) → AllByRecursion F rs → find is rs ≡ Some one → F one
found_has F is [] one h e = absurd cc
found_has F is (r ∷ rs) one h e = by_test F is r one rs (is r) h.0 (λ k. found_has F is rs one h.1 k) e

pub in_front_has : (F : Reference → Type 0) (n : ℕ) (is : Reference → Bool) (rs : List Reference) (one : Reference) → AllByRecursion F rs → find is rs ≡ Some one → AllByRecursion F (in_front n is rs one)
in_front_has F n is rs one h e = taken F n (one ∷ filter (λ q. not (is q)) rs) (found_has F is rs one h e, filtered F (λ q. not (is q)) rs h)

-- ---- the command has room in a header

passes_test : (is : Reference → Bool) (r one : Reference) (rs : List Reference) (b : Bool) → is r ≡ b → (find is rs ≡ Some one → is one ≡ true) → cond b (Some r) (find is rs) ≡ Some one → is one ≡ true
passes_test is r one rs true t rest e = let same : r ≡ one = cc in subst (λ (q : Reference). is q ≡ true) same t
passes_test is r one rs false t rest e = rest e

found_is : (is : Reference → Bool) (rs : List Reference) (one : Reference) → find is rs ≡ Some one → is one ≡ true
found_is is [] one e = absurd cc
found_is is (r ∷ rs) one e = passes_test is r one rs (is r) refl (λ k. found_is is rs one k) e

pub command_small : (n d : ℕ) (held : List Reference) (one : Reference) → find (is_so_far n (d + 1)) held ≡ Some one → d < 65536
command_small n d held one e = small ((n + 65536 - one.frame_num) % 65536) d (omega arith) (found_is (is_so_far n (d + 1)) held one e)
  where
    equal : (a b : ℕ) → (a == b) ≡ true → a ≡ b
    equal a b h = grind (arith, nat_tests)

    small : (a d : ℕ) → a < 65536 → (a == d + 1) ≡ true → d < 65536
    small a d lt e = let same = equal a (d + 1) e in omega (arith, same)
