-- Changes of one place after another.
use Rattle.std.proofs.Common.{ℕ, ◌+◌, ◌≡◌, List, [], ◌++◌, take, drop, Option, Some, None, refl, ap, sym, ◌∙◌, append_assoc}
use Rattle.std.proofs.Common.{arith, rules, length-drop}
use Rattle.enc_edge.specs.declared.studio.Out.TheVariants.{Stream, Recon, Report}
use Rattle.enc_edge.specs.declared.studio.Place.{Place}
use Rattle.enc_edge.specs.declared.studio.Place.TheVariants.{Input, Output}
use Rattle.std.proofs.Common.{length, ◌-◌, ◌≤◌, ◌<◌, min, subst}
use Rattle.std.proofs.Math.Seq.{take-add, take-append-add}
use Rattle.std.proofs.lemmas.List.{take_rest, take-append-le}
use Rattle.std.specs.Prelude.{IfSome}
use borrow.Rule.Slice.PartMut.{put_mid, post_of}
use Rattle.std.proofs.lemmas.Slice.{take-put_mid_below}
use Rattle.std.proofs.lemmas.Grind.{common_steps}
use Rattle.enc_edge.specs.Seen.{Seen, spot_at, with_spot}
use Rattle.enc_edge.specs.Calls.{wrote, took}
use Rattle.std.specs.Option.{option_map}

append_none : (o : Option (List ℕ)) → option_map (λ xs. xs ++ []) o ≡ o
append_none None = refl
append_none (Some xs) = ap (λ ys. Some ys) (search rules)

append_more : (a b : List ℕ) (o : Option (List ℕ)) → option_map (λ xs. xs ++ b) (option_map (λ xs. xs ++ a) o) ≡ option_map (λ xs. xs ++ (a ++ b)) o
append_more a b None = refl
append_more a b (Some xs) = ap (λ ys. Some ys) (append_assoc xs a b)

abbrev with_bytes : Place → Option (List ℕ) → Seen → Seen
with_bytes place bytes s = with_spot place (record (spot_at place s) { bytes = bytes }) s

pub drop_more : (a b : ℕ) (xs : List ℕ) → drop b (drop a xs) ≡ drop (a + b) xs
drop_more a b xs = grind (arith, common_steps)

-- nothing was written
pub wrote_none : (p : Place) (s : Seen) → wrote p [] s ≡ s
wrote_none Input s = ap (λ o. with_bytes Input o s) (append_none s.input.bytes)
wrote_none (Output Stream) s = ap (λ o. with_bytes (Output Stream) o s) (append_none s.stream.bytes)
wrote_none (Output Recon) s = ap (λ o. with_bytes (Output Recon) o s) (append_none s.recon.bytes)
wrote_none (Output Report) s = ap (λ o. with_bytes (Output Report) o s) (append_none s.report.bytes)

-- one piece after another
pub wrote_more : (p : Place) (a b : List ℕ) (s : Seen) → wrote p b (wrote p a s) ≡ wrote p (a ++ b) s
wrote_more Input a b s = ap (λ o. with_bytes Input o s) (append_more a b s.input.bytes)
wrote_more (Output Stream) a b s = ap (λ o. with_bytes (Output Stream) o s) (append_more a b s.stream.bytes)
wrote_more (Output Recon) a b s = ap (λ o. with_bytes (Output Recon) o s) (append_more a b s.recon.bytes)
wrote_more (Output Report) a b s = ap (λ o. with_bytes (Output Report) o s) (append_more a b s.report.bytes)

take_option : (a b : ℕ) (o : Option (List ℕ)) → option_map (drop b) (option_map (drop a) o) ≡ option_map (drop (a + b)) o
take_option a b None = refl
take_option a b (Some xs) = ap (λ ys. Some ys) (drop_more a b xs)

-- one piece after another
pub took_more : (a b : ℕ) (s : Seen) → took Input b (took Input a s) ≡ took Input (a + b) s
took_more a b s = ap (λ o. with_bytes Input o s) (take_option a b s.input.bytes)

take_none : (o : Option (List ℕ)) → option_map (drop 0) o ≡ o
take_none None = refl
take_none (Some xs) = refl

pub took_none : (s : Seen) → took Input 0 s ≡ s
took_none s = ap (λ o. with_bytes Input o s) (take_none s.input.bytes)

-- a turn of a loop that writes what is left of the bytes
pub write_step : (p : Place) (a n : ℕ) (bytes : List ℕ) (first mid last : Seen)
    → mid ≡ wrote p (take a bytes) first → last ≡ wrote p (take n (take (length bytes - a) (drop a bytes))) mid → last ≡ wrote p (take (a + n) bytes) first
write_step p a n bytes first mid last h k =
    k ∙ ap (λ part. wrote p (take n part) mid) (take_rest bytes a) ∙ ap (wrote p (take n (drop a bytes))) h ∙ wrote_more p (take a bytes) (take n (drop a bytes)) first
    ∙ ap (λ bs. wrote p bs first) (sym (take-add a n bytes))

pub read_step : (a n : ℕ) (first mid last : Seen) → mid ≡ took Input a first → last ≡ took Input n mid → last ≡ took Input (a + n) first
read_step a n first mid last h k = k ∙ ap (took Input n) h ∙ took_more a n first

-- what was read so far
abbrev pub HasRead : ℕ → List ℕ → Option (List ℕ) → Type 0
HasRead done buf o = IfSome o (λ left. (done ≤ length left) × (take done buf ≡ take done left))

-- what one read gave
abbrev pub Gave : ℕ → List ℕ → Option (List ℕ) → Type 0
Gave n part o = IfSome o (λ left. (n ≤ length left) × (take n part ≡ take n left) × (n ≡ 0 → left ≡ []))

front_len : (a : ℕ) (buf : List ℕ) → a ≤ length buf → length (take a buf) ≡ a
front_len a buf h = grind (arith, common_steps)

take_put : (a n k : ℕ) (buf part : List ℕ) → a ≤ length buf → n ≤ length part → take (a + n) (put_mid a k buf part) ≡ take a buf ++ take n part
take_put a n k buf part in_buf in_part =
    let l : length (take a buf) ≡ a = front_len a buf in_buf in
    ap (λ m. take (m + n) (put_mid a k buf part)) (sym l) ∙ take-append-add (take a buf) (part ++ post_of a k buf) n
    ∙ ap (λ xs. take a buf ++ xs) (take-append-le n part (post_of a k buf) in_part)

join_read : (a n k : ℕ) (buf part left : List ℕ) → a ≤ length buf → n ≤ length part
    → (a ≤ length left) × (take a buf ≡ take a left) → (n ≤ length (drop a left)) × (take n part ≡ take n (drop a left)) × (n ≡ 0 → drop a left ≡ [])
    → (a + n ≤ length left) × (take (a + n) (put_mid a k buf part) ≡ take (a + n) left)
join_read a n k buf part left in_buf in_part before now =
    let l : length (drop a left) ≡ length left - a = length-drop a left in
    let now_len = now.0 in let before_len = before.0 in (
      omega arith,
      take_put a n k buf part in_buf in_part
          ∙ ap (λ xs. xs ++ take n part) before.1 ∙ ap (λ xs. take a left ++ xs) now.1 ∙ sym (take-add a n left),
    )

pub has_read_more : (a n k : ℕ) (buf part : List ℕ) (first mid : Seen) → a ≤ length buf → n ≤ length part
    → mid ≡ took Input a first → HasRead a buf first.input.bytes → Gave n part mid.input.bytes → HasRead (a + n) (put_mid a k buf part) first.input.bytes
has_read_more a n k buf part first mid in_buf in_part h before now =
    go first.input.bytes before (subst (λ s. Gave n part s.input.bytes) h now)
  where
    go : (o : Option (List ℕ)) → HasRead a buf o → Gave n part (option_map (drop a) o) → HasRead (a + n) (put_mid a k buf part) o
    go None b w = tt
    go (Some left) b w = join_read a n k buf part left in_buf in_part b w

end_read : (a : ℕ) (buf left : List ℕ) → a < length buf → (a ≤ length left) × (take a buf ≡ take a left) → drop a left ≡ []
    → a ≡ min (length buf) (length left)
end_read a buf left in_buf before none =
    let l : length (drop a left) ≡ length left - a = length-drop a left in
    let z : length (drop a left) ≡ 0 = ap length none in
    let before_len = before.0 in omega arith

pub has_read_end : (a n k : ℕ) (buf part : List ℕ) (first mid : Seen) → a < length buf → length (put_mid a k buf part) ≡ length buf → n ≡ 0
    → mid ≡ took Input a first → HasRead a buf first.input.bytes → Gave n part mid.input.bytes
    → IfSome first.input.bytes (λ left. (a ≡ min (length (put_mid a k buf part)) (length left)) × (take a (put_mid a k buf part) ≡ take a left))
has_read_end a n k buf part first mid in_buf same zero h before now =
    go first.input.bytes before (subst (λ s. Gave n part s.input.bytes) h now)
  where
    go : (o : Option (List ℕ)) → HasRead a buf o → Gave n part (option_map (drop a) o) → IfSome o (λ left. (a ≡ min (length (put_mid a k buf part)) (length left)) × (take a (put_mid a k buf part) ≡ take a left))
    go None b w = tt
    go (Some left) b w = (
      end_read a buf left in_buf b (w.2 zero) ∙ ap (λ m. min m (length left)) (sym same),
      take-put_mid_below a k buf part a (omega arith) (omega arith) ∙ b.1,
    )

pub part_len : (a : ℕ) (buf part : List ℕ) → length part ≡ length (take (length buf - a) (drop a buf)) → length part ≡ length buf - a
part_len a buf part h = h ∙ ap length (take_rest buf a) ∙ length-drop a buf
