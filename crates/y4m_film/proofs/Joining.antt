-- Samples that are read part by part.
use Rattle.std.proofs.Common.{ℕ, ◌+◌, ◌-◌, ◌≡◌, ◌<◌, ◌≤◌, List, length, drop, Option, Some, None, ap, ◌∙◌, arith, subst, length-drop}
use Rattle.std.specs.Prelude.{IfSome}
use Rattle.std.specs.Option.{option_map}
use Rattle.enc_edge.specs.declared.studio.Place.TheVariants.{Input}
use Rattle.enc_edge.specs.Seen.{Seen}
use Rattle.enc_edge.specs.Calls.{took, LaterFailed}
use Rattle.enc_edge.specs.Reads.{ReadFailedWithin}
use Rattle.enc_edge.proofs.Spots.{took_more, read_step}
use Rattle.y4m_film.specs.Parts.{PartRead}

-- ---- of bytes that are told

both_told : (a b n : ℕ) (P Q : List ℕ → Type 0) (o : Option (List ℕ)) → n ≡ a → IfSome o (λ l. (a ≤ length l) × P l) → IfSome (option_map (drop n) o) (λ l. (b ≤ length l) × Q l)
    → IfSome o (λ l. (a + b ≤ length l) × (P l × Q (drop a l)))
both_told a b n P Q None is p q = tt
both_told a b n P Q (Some left) is p q =
    let r : (b ≤ length (drop a left)) × Q (drop a left) = subst (λ (k : ℕ). (b ≤ length (drop k left)) × Q (drop k left)) is q in
    (longer (length left) (length (drop a left)) (length-drop a left) p.0 r.0, (p.1, r.1))
  where
    longer : (l d : ℕ) → d ≡ l - a → a ≤ l → b ≤ d → a + b ≤ l
    longer l d is h k = omega arith

ends_told : (a n m : ℕ) (P : List ℕ → Type 0) (o : Option (List ℕ)) → n ≡ a → IfSome o (λ l. (a ≤ length l) × P l) → IfSome (option_map (drop n) o) (λ l. length l ≡ m) → IfSome o (λ l. length l ≡ n + m)
ends_told a n m P None is p q = tt
ends_told a n m P (Some left) is p q = sum (length left) (length (drop n left)) (length-drop n left) p.0 q
  where
    sum : (l d : ℕ) → d ≡ l - n → a ≤ l → d ≡ m → l ≡ n + m
    sum l d e h k = omega arith

there_told : (a n m : ℕ) (P : List ℕ → Type 0) (o : Option (List ℕ)) → n ≡ a → IfSome o (λ l. (a ≤ length l) × P l) → IfSome (option_map (drop n) o) (λ l. m ≤ length l) → IfSome o (λ l. n + m ≤ length l)
there_told a n m P None is p q = tt
there_told a n m P (Some left) is p q = sum (length left) (length (drop n left)) (length-drop n left) p.0 q
  where
    sum : (l d : ℕ) → d ≡ l - n → a ≤ l → m ≤ d → n + m ≤ l
    sum l d e h k = omega arith

mapped : (all : ℕ) (P Q : List ℕ → Type 0) (o : Option (List ℕ)) → ((left : List ℕ) → all ≤ length left → P left → Q left) → IfSome o (λ l. (all ≤ length l) × P l) → IfSome o (λ l. (all ≤ length l) × Q l)
mapped all P Q None f p = tt
mapped all P Q (Some left) f p = (p.0, f left p.0 p.1)

-- ---- parts

-- a part, and then the next one
pub part_then : (a b n m : ℕ) (P Q : List ℕ → Type 0) (first mid last : Seen) → n ≡ a → PartRead a n P first mid → PartRead b m Q mid last
    → PartRead (a + b) (n + m) (λ left. P left × Q (drop a left)) first last
part_then a b n m P Q first mid last is p q = record {
  within = omega (arith, p.within, q.within);
  change = read_step n m first mid last p.change q.change;
  whole = λ all. both_told a b n P Q first.input.bytes is (p.whole is)
      (subst (λ (s : Seen). IfSome s.input.bytes (λ l. (b ≤ length l) × Q l)) p.change (q.whole (rest n m a b is all)));
  few = λ some. ends_told a n m P first.input.bytes is (p.whole is)
      (subst (λ (s : Seen). IfSome s.input.bytes (λ l. length l ≡ m)) p.change (q.few (less n m a b is some)));
}
  where
    rest : (n m a b : ℕ) → n ≡ a → n + m ≡ a + b → m ≡ b
    rest n m a b e h = omega arith

    less : (n m a b : ℕ) → n ≡ a → n + m < a + b → m < b
    less n m a b e h = omega arith

-- the input ended in the first part
pub part_few : (a b n : ℕ) (P Q : List ℕ → Type 0) (first mid : Seen) → n < a → PartRead a n P first mid → PartRead (a + b) n Q first mid
part_few a b n P Q first mid few p = record {
  within = omega (arith, p.within);
  change = p.change;
  whole = λ all. absurd (never n a b few all);
  few = λ some. p.few few;
}
  where
    never : (n a b : ℕ) → n < a → n ≡ a + b → ⊥
    never n a b h e = omega arith

-- what is known of the bytes tells something else
pub part_of : (all n : ℕ) (P Q : List ℕ → Type 0) (first last : Seen) → ((left : List ℕ) → all ≤ length left → P left → Q left) → PartRead all n P first last → PartRead all n Q first last
part_of all n P Q first last f p = record {
  within = p.within;
  change = p.change;
  whole = λ is. mapped all P Q first.input.bytes f (p.whole is);
  few = p.few;
}

pub part_counts : (all other n : ℕ) (P : List ℕ → Type 0) (first last : Seen) → all ≡ other → PartRead all n P first last → PartRead other n P first last
part_counts all other n P first last is p = subst (λ (k : ℕ). PartRead k n P first last) is p

-- a read failed behind a part
pub fail_then : (a b n : ℕ) (P : List ℕ → Type 0) (first mid last : Seen) → n ≡ a → PartRead a n P first mid → ReadFailedWithin b mid last → ReadFailedWithin (a + b) first last
fail_then a b n P first mid last is p f = record {
  count = n + f.count;
  few = omega (arith, f.few);
  there = there_told a n f.count P first.input.bytes is (p.whole is) (subst (λ (s : Seen). IfSome s.input.bytes (λ l. f.count ≤ length l)) p.change f.there);
  failed = subst (λ (s : Seen). LaterFailed Input s last) (ap (took Input f.count) p.change ∙ took_more n f.count first) f.failed;
}

-- and in it
pub fail_more : (a b : ℕ) (first last : Seen) → ReadFailedWithin a first last → ReadFailedWithin (a + b) first last
fail_more a b first last f = record { count = f.count; few = omega (arith, f.few); there = f.there; failed = f.failed }

pub fail_counts : (all other : ℕ) (first last : Seen) → all ≡ other → ReadFailedWithin all first last → ReadFailedWithin other first last
fail_counts all other first last is f = subst (λ (k : ℕ). ReadFailedWithin k first last) is f
