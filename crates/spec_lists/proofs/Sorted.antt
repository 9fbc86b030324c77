-- The lists of references that are held with the newest first.
use Rattle.std.proofs.Common.{ℕ, ◌+◌, ◌-◌, ◌*◌, ◌%◌, ◌≡◌, ◌≤◌, ◌<◌, List, [], ◌∷◌, ◌++◌, length, take, Bool, true, false, cond, Option, Some, None, refl, ap, ap₂, ◌∙◌, arith, le-ltb, length-append}
use Rattle.std.specs.Prelude.{nat_lt, nat_le, ◌==◌, ◌||◌, option_and_then}
use Rattle.std.specs.Option.{option_map}
use Rattle.std.specs.List.{AllByRecursion, filter}
use Rattle.std.proofs.lemmas.Bool.Decides.{nat_tests}
use Rattle.std.proofs.lemmas.Grind.{common_steps}
use Rattle.std.proofs.Math.Nat.{add-mul-mod_self_right, mod-eq_of_lt}
use Rattle.enc_tables.specs.declared.records.SliceKind.{SliceKind}
use Rattle.enc_tables.specs.declared.records.SliceKind.TheVariants.{P, B}
use Rattle.spec_headers.specs.declared.heads.SliceHead.{SliceHead}
use Rattle.spec_lists.specs.References.{Reference}
use Rattle.spec_lists.specs.Orders.{Rising, Falling}
use Rattle.spec_lists.specs.Lists.{Lists, nearer_first, nearest_first, number_distance, by_number, shown_before, shown_behind, exchanged, other_way, initial0, initial1, cut, modified, lists_of}

-- ---- lists that are in order already

at_front : (far : Reference → ℕ) (r : Reference) (rs : List Reference) → AllByRecursion (λ q. far r ≤ far q) rs → nearer_first far r rs ≡ r ∷ rs
unfolding nearer_first
at_front far r [] h = refl
at_front far r (q ∷ qs) h = rw (le-ltb (far q) (far r) h.0) refl

pub stays : (far : Reference → ℕ) (rs : List Reference) → Rising far rs → nearest_first far rs ≡ rs
unfolding nearest_first
stays far [] h = refl
stays far (r ∷ rs) h = ap (λ (qs : List Reference). nearer_first far r qs) (stays far rs h.1) ∙ at_front far r rs h.0

all_pass : (p : Reference → Bool) (rs : List Reference) → AllByRecursion (λ r. p r ≡ true) rs → filter p rs ≡ rs
all_pass p [] h = refl
all_pass p (r ∷ rs) h = ap (λ b. cond b (r ∷ filter p rs) (filter p rs)) h.0 ∙ ap (λ (qs : List Reference). r ∷ qs) (all_pass p rs h.1)

none_passes : (p : Reference → Bool) (rs : List Reference) → AllByRecursion (λ r. p r ≡ false) rs → filter p rs ≡ []
none_passes p [] h = refl
none_passes p (r ∷ rs) h = ap (λ b. cond b (r ∷ filter p rs) (filter p rs)) h.0 ∙ none_passes p rs h.1

-- ---- held references: the newest first, by falling picture order count and falling frame_num

each : (F G : Reference → Type 0) (rs : List Reference) → ((r : Reference) → F r → G r) → AllByRecursion F rs → AllByRecursion G rs
each F G [] f h = tt
each F G (r ∷ rs) f h = (f r h.0, each F G rs f h.1)

both : (F G : Reference → Type 0) (rs : List Reference) → AllByRecursion F rs → AllByRecursion G rs → AllByRecursion (λ r. F r × G r) rs
both F G [] h k = tt
both F G (r ∷ rs) h k = ((h.0, k.0), both F G rs h.1 k.1)

-- below a frame_num the distance is the difference
pub plain_distance : (n m : ℕ) → m < n → n < 65536 → (n + 65536 - m) % 65536 ≡ n - m
plain_distance n m h k =
    let e : n + 65536 - m ≡ (n - m) + 1 * 65536 = omega (arith, h) in
    ap (λ x. x % 65536) e ∙ add-mul-mod_self_right (n - m) 1 65536 ∙ mod-eq_of_lt (omega (arith, k))

numbers_rise : (n : ℕ) (rs : List Reference) → n < 65536 → AllByRecursion (λ r. r.frame_num < n) rs → Falling (λ r. r.frame_num) rs → Rising (number_distance n) rs
numbers_rise n [] small low h = tt
numbers_rise n (r ∷ rs) small low h = (
  each (λ q. (q.frame_num < r.frame_num) × (q.frame_num < n)) (λ q. number_distance n r ≤ number_distance n q) rs
      (λ q k. let d = plain_distance n r.frame_num low.0 small in let e = plain_distance n q.frame_num k.1 small in omega (arith, d, e, k.0))
      (both (λ q. q.frame_num < r.frame_num) (λ q. q.frame_num < n) rs h.0 low.1),
  numbers_rise n rs small low.1 h.1,
)

-- P: all that are held, the newest first
pub p_list : (n : ℕ) (held : List Reference) → n < 65536 → AllByRecursion (λ r. r.frame_num < n) held → Falling (λ r. r.frame_num) held → by_number n held ≡ held
p_list n held small low h = stays (number_distance n) held (numbers_rise n held small low h)

below_rise : (poc : ℕ) (rs : List Reference) → Falling (λ r. r.poc) rs → Rising (λ r. poc - r.poc) rs
below_rise poc [] h = tt
below_rise poc (r ∷ rs) h = (each (λ q. q.poc < r.poc) (λ q. poc - r.poc ≤ poc - q.poc) rs (λ q k. omega (arith, k)) h.0, below_rise poc rs h.1)

less : (a b : ℕ) → a < b → nat_lt a b ≡ true
less a b h = grind (arith, nat_tests)

not_less : (a b : ℕ) → a < b → nat_lt b a ≡ false
not_less a b h = grind (arith, nat_tests)

-- B: behind the picture only the newest is shown, and before it all others
pub b_before : (poc : ℕ) (new : Reference) (rs : List Reference) → poc < new.poc → AllByRecursion (λ r. r.poc < poc) rs → Falling (λ r. r.poc) rs → shown_before poc (new ∷ rs) ≡ rs
b_before poc new rs late low h =
    ap (λ b. nearest_first (λ r. poc - r.poc) (cond b (new ∷ filter (λ r. nat_lt r.poc poc) rs) (filter (λ r. nat_lt r.poc poc) rs))) (not_less poc new.poc late)
    ∙ ap (λ (qs : List Reference). nearest_first (λ r. poc - r.poc) qs) (all_pass (λ r. nat_lt r.poc poc) rs (each (λ r. r.poc < poc) (λ r. nat_lt r.poc poc ≡ true) rs (λ r k. less r.poc poc k) low))
    ∙ stays (λ r. poc - r.poc) rs (below_rise poc rs h)

pub b_behind : (poc : ℕ) (new : Reference) (rs : List Reference) → poc < new.poc → AllByRecursion (λ r. r.poc < poc) rs → shown_behind poc (new ∷ rs) ≡ new ∷ []
b_behind poc new rs late low =
    ap (λ b. nearest_first (λ r. r.poc - poc) (cond b (new ∷ filter (λ r. nat_lt poc r.poc) rs) (filter (λ r. nat_lt poc r.poc) rs))) (less poc new.poc late)
    ∙ ap (λ (qs : List Reference). nearest_first (λ r. r.poc - poc) (new ∷ qs)) (none_passes (λ r. nat_lt poc r.poc) rs (each (λ r. r.poc < poc) (λ r. nat_lt poc r.poc ≡ false) rs (λ r k. not_less r.poc poc k) low))
    ∙ stays (λ r. r.poc - poc) (new ∷ []) (tt, tt)

-- ---- the lists of headers that have as many entries

pub cut_all : (xs : List Reference) → cut (length xs) xs ≡ Some xs
cut_all xs = rw (is_le (length xs)) (ap (λ (ys : List Reference). Some ys) (all_taken xs))
  where
    is_le : (n : ℕ) → nat_le n n ≡ true
    is_le n = grind (arith, nat_tests)

    all_taken : (xs : List Reference) → take (length xs) xs ≡ xs
    all_taken xs = grind (arith, common_steps)

cut_front : (xs ys : List Reference) → cut (length xs) (xs ++ ys) ≡ Some xs
cut_front xs ys =
    let long : length (xs ++ ys) ≡ length xs + length ys = length-append xs ys in
    ap₂ (λ (b : Bool) (zs : List Reference). cond b (Some zs) None) (is_le (length xs) (length (xs ++ ys)) (omega (arith, long))) (front xs ys)
  where
    is_le : (m n : ℕ) → m ≤ n → nat_le m n ≡ true
    is_le m n h = grind (arith, nat_tests)

    front : (xs ys : List Reference) → take (length xs) (xs ++ ys) ≡ xs
    front xs ys = grind (arith, common_steps)

-- by the parts of a header
unfoldable pub by_parts : SliceHead → List Reference → SliceKind → Option ℕ → ℕ → ℕ → Option Lists
by_parts h held kind moved refs0 refs1 =
    option_and_then (λ list0. option_map (λ list1. record { list0 = list0; list1 = list1 }) (cut refs1 (initial1 h kind held)))
    (option_and_then (modified h held moved) (cut refs0 (initial0 h kind held)))

parts_are : (h : SliceHead) (held : List Reference) (kind : SliceKind) (refs0 refs1 : ℕ) → h.kind ≡ kind → h.moved ≡ None → h.refs0 ≡ refs0 → h.refs1 ≡ refs1 → lists_of h held ≡ by_parts h held kind None refs0 refs1
unfolding lists_of by_parts
parts_are h held kind refs0 refs1 k m a b =
    ap (λ x. by_parts h held x h.moved h.refs0 h.refs1) k ∙ ap (λ x. by_parts h held kind x h.refs0 h.refs1) m ∙ ap₂ (λ x y. by_parts h held kind None x y) a b

pub parts_with : (h : SliceHead) (held : List Reference) (kind : SliceKind) (moved : Option ℕ) (refs0 refs1 : ℕ) → h.kind ≡ kind → h.moved ≡ moved → h.refs0 ≡ refs0 → h.refs1 ≡ refs1 → lists_of h held ≡ by_parts h held kind moved refs0 refs1
unfolding lists_of by_parts
parts_with h held kind moved refs0 refs1 k m a b =
    ap (λ x. by_parts h held x h.moved h.refs0 h.refs1) k ∙ ap (λ x. by_parts h held kind x h.refs0 h.refs1) m ∙ ap₂ (λ x y. by_parts h held kind moved x y) a b

-- the lists of a P picture without a command
pub p_lists : (h : SliceHead) (held : List Reference) → h.kind ≡ P → h.refs0 ≡ length held → h.refs1 ≡ 0 → h.moved ≡ None → h.frame_num < 65536 → AllByRecursion (λ r. r.frame_num < h.frame_num) held → Falling (λ r. r.frame_num) held
    → lists_of h held ≡ Some (record { list0 = held; list1 = [] })
unfolding by_parts
p_lists h held kind some none unmoved small low falls =
    parts_are h held P (length held) 0 kind unmoved some none
    ∙ ap (λ (l : List Reference). option_and_then (λ list0. option_map (λ list1. let x : Lists = record { list0 = list0; list1 = list1 } in x) (cut 0 [])) (option_and_then (modified h held None) (cut (length held) l))) (p_list h.frame_num held small low falls)
    ∙ ap (λ o. option_and_then (λ list0. option_map (λ list1. let x : Lists = record { list0 = list0; list1 = list1 } in x) (cut 0 [])) (option_and_then (modified h held None) o)) (cut_all held)

-- the lists of a B picture: the newest reference is shown behind it
pub b_lists : (h : SliceHead) (new : Reference) (rs : List Reference) → h.kind ≡ B → h.refs0 ≡ length rs → h.refs1 ≡ 1 → h.moved ≡ None → 1 ≤ length rs → h.poc < new.poc → AllByRecursion (λ r. r.poc < h.poc) rs → Falling (λ r. r.poc) rs
    → lists_of h (new ∷ rs) ≡ Some (record { list0 = rs; list1 = new ∷ [] })
unfolding by_parts
b_lists h new rs kind some one unmoved more late low falls =
    let early : shown_before h.poc (new ∷ rs) ≡ rs = b_before h.poc new rs late low falls in
    let behind : shown_behind h.poc (new ∷ rs) ≡ new ∷ [] = b_behind h.poc new rs late low in
    let held : List Reference = new ∷ rs in
    parts_are h held B (length rs) 1 kind unmoved some one
    ∙ ap₂ (λ (l m : List Reference). option_and_then (λ list0. option_map (λ list1. let x : Lists = record { list0 = list0; list1 = list1 } in x) (cut 1 (other_way l m))) (option_and_then (modified h held None) (cut (length rs) (l ++ m)))) early behind
    ∙ ap (λ o. option_and_then (λ list0. option_map (λ list1. let x : Lists = record { list0 = list0; list1 = list1 } in x) (cut 1 (other_way rs (new ∷ [])))) (option_and_then (modified h held None) o)) (cut_front rs (new ∷ []))
    ∙ ap (λ b. option_map (λ list1. let x : Lists = record { list0 = rs; list1 = list1 } in x) (cut 1 (cond (b || false) (exchanged (new ∷ rs)) (new ∷ rs)))) (some_there (length rs) more)
    ∙ ap (λ o. option_map (λ list1. let x : Lists = record { list0 = rs; list1 = list1 } in x) o) (cut_front (new ∷ []) rs)
  where
    some_there : (n : ℕ) → 1 ≤ n → (n == 0) ≡ false
    some_there n h = grind (arith, nat_tests)
