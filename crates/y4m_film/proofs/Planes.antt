-- The planes of a picture are read one after another.
use Rattle.std.proofs.Common.{ℕ, ◌+◌, ◌*◌, ◌/◌, ◌≡◌, ◌<◌, ◌≤◌, List, drop, Ok, Err, true, refl, ap, ap₂, sym, ◌∙◌, arith}
use Rattle.std.proofs.lemmas.Grind.{common_steps}
use Rattle.enc_edge.specs.Seen.{Seen}
use Rattle.enc_edge.specs.declared.studio.Place.TheVariants.{Input}
use Rattle.enc_edge.specs.Calls.{took}
use Rattle.enc_edge.specs.Reads.{ReadFailedWithin}
use Rattle.y4m_film.specs.declared.pictures.FrameFault.TheVariants.{CutFrame}
use Rattle.y4m_film.specs.FrameEnds.{PlanesEnd}
use Rattle.spec_film.specs.declared.FilmHead.{FilmHead}
use Rattle.spec_film.specs.Padding.{padded_size, padded_plane}
use Rattle.spec_film.proofs.PaddingLaws.{padded_of_front}
use Rattle.spec_film.specs.Films.{Planes, AllowedHead, luma_count, chroma_count, planes_count, planes_at, padded}
use Rattle.y4m_film.specs.Parts.{PartRead}
use Rattle.y4m_film.proofs.Fits.{within}
use Rattle.y4m_film.proofs.Joining.{part_then, part_few, part_of, part_counts, fail_then, fail_more, fail_counts}

module _ (head : FilmHead) (allowed : AllowedHead head) where
  abbrev a : ℕ
  a = head.height * head.width

  abbrev c : ℕ
  c = head.height / 2 * (head.width / 2)

  -- a plane of bytes, padded
  abbrev pub LumaIs : List ℕ → List ℕ → Type 0
  LumaIs y left = y ≡ padded_plane head.width head.height (padded_size head.width) (padded_size head.height) left

  abbrev pub ChromaIs : List ℕ → List ℕ → Type 0
  ChromaIs cb left = cb ≡ padded_plane (head.width / 2) (head.height / 2) (padded_size head.width / 2) (padded_size head.height / 2) left

  -- by the sizes of the plane
  pub luma_as : (wide high n : ℕ) (y : List ℕ) (first mid : Seen) → wide ≡ padded_size head.width → high ≡ padded_size head.height → PartRead a n (λ left. y ≡ padded_plane head.width head.height wide high left) first mid → PartRead a n (LumaIs y) first mid
  luma_as wide high n y first mid we he p =
      part_of a n (λ left. y ≡ padded_plane head.width head.height wide high left) (LumaIs y) first mid (λ left long e. e ∙ ap₂ (λ (u v : ℕ). padded_plane head.width head.height u v left) we he) p

  pub chroma_as : (wide high n : ℕ) (y : List ℕ) (first mid : Seen) → wide ≡ padded_size head.width / 2 → high ≡ padded_size head.height / 2 → PartRead c n (λ left. y ≡ padded_plane (head.width / 2) (head.height / 2) wide high left) first mid → PartRead c n (ChromaIs y) first mid
  chroma_as wide high n y first mid we he p =
      part_of c n (λ left. y ≡ padded_plane (head.width / 2) (head.height / 2) wide high left) (ChromaIs y) first mid (λ left long e. e ∙ ap₂ (λ (u v : ℕ). padded_plane (head.width / 2) (head.height / 2) u v left) we he) p

  pub total : a + c + c ≡ planes_count head
  total = sums head.width head.height (head.width / 2) (head.height / 2)
    where
      sums : (w h x y : ℕ) → h * w + y * x + y * x ≡ w * h + x * y + x * y
      sums w h x y = grind arith

  luma_turned : a ≡ luma_count head
  luma_turned = turn head.width head.height
    where
      turn : (w h : ℕ) → h * w ≡ w * h
      turn w h = grind arith

  chroma_turned : c ≡ chroma_count head
  chroma_turned = turn (head.width / 2) (head.height / 2)
    where
      turn : (w h : ℕ) → h * w ≡ w * h
      turn w h = grind arith

  dropped : (i j : ℕ) (xs : List ℕ) → drop j (drop i xs) ≡ drop (i + j) xs
  dropped i j xs = grind (arith, common_steps)

  -- the three planes are those of the picture
  planes_told : (y cb cr left : List ℕ) → LumaIs y left → ChromaIs cb (drop a left) → ChromaIs cr (drop (a + c) left)
      → (let p : Planes = record { luma = y; cb = cb; cr = cr } in p ≡ padded head (planes_at head left))
  planes_told y cb cr left ye cbe cre =
      let w = within head allowed in
      let luma = ye ∙ sym (padded_of_front head.width head.height (padded_size head.width) (padded_size head.height) (luma_count head) left w.high_some (omega (arith, luma_turned))) in
      let first = cbe ∙ ap (λ (n : ℕ). padded_plane (head.width / 2) (head.height / 2) (padded_size head.width / 2) (padded_size head.height / 2) (drop n left)) luma_turned
      ∙ sym (padded_of_front (head.width / 2) (head.height / 2) (padded_size head.width / 2) (padded_size head.height / 2) (chroma_count head) (drop (luma_count head) left) w.half_high_some (omega (arith, chroma_turned))) in
      let second = cre ∙ ap₂ (λ (n m : ℕ). padded_plane (head.width / 2) (head.height / 2) (padded_size head.width / 2) (padded_size head.height / 2) (drop (n + m) left)) luma_turned chroma_turned
      ∙ sym (padded_of_front (head.width / 2) (head.height / 2) (padded_size head.width / 2) (padded_size head.height / 2) (chroma_count head) (drop (luma_count head + chroma_count head) left) w.half_high_some (omega (arith, chroma_turned))) in
      ap (λ (l : List ℕ). let p : Planes = record { luma = l; cb = cb; cr = cr } in p) luma
      ∙ ap (λ (l : List ℕ). let p : Planes = record { luma = (padded head (planes_at head left)).luma; cb = l; cr = cr } in p) first
      ∙ ap (λ (l : List ℕ). let p : Planes = record { luma = (padded head (planes_at head left)).luma; cb = (padded head (planes_at head left)).cb; cr = l } in p) second

  -- all three were read, or the input ended in the third
  pub three_read : (y cb cr : List ℕ) (n m k : ℕ) (first mid next last : Seen) → n ≡ a → m ≡ c → PartRead a n (LumaIs y) first mid → PartRead c m (ChromaIs cb) mid next → PartRead c k (ChromaIs cr) next last
      → PartRead (planes_count head) (n + m + k) (λ left. (let p : Planes = record { luma = y; cb = cb; cr = cr } in p ≡ padded head (planes_at head left))) first last
  three_read y cb cr n m k first mid next last na mc p q r =
      part_counts (a + c + c) (planes_count head) (n + m + k) _ first last total
      (part_of (a + c + c) (n + m + k) _ _ first last (λ left long all. planes_told y cb cr left all.0.0 all.0.1 all.1)
      (part_then (a + c) c (n + m) k (λ left. LumaIs y left × ChromaIs cb (drop a left)) (ChromaIs cr) first next last (ap₂ (λ (i j : ℕ). i + j) na mc)
      (part_then a c n m (LumaIs y) (ChromaIs cb) first mid next na p q) r))

  -- the input ended in the first, and in the second
  pub first_few : (y : List ℕ) (Q : List ℕ → Type 0) (n : ℕ) (first mid : Seen) → n < a → PartRead a n (LumaIs y) first mid → PartRead (planes_count head) n Q first mid
  first_few y Q n first mid few p = part_counts (a + (c + c)) (planes_count head) n Q first mid (assoc a c ∙ total) (part_few a (c + c) n (LumaIs y) Q first mid few p)
    where
      assoc : (x z : ℕ) → x + (z + z) ≡ x + z + z
      assoc x z = omega arith

  pub second_few : (y cb : List ℕ) (Q : List ℕ → Type 0) (n m : ℕ) (first mid next : Seen) → n ≡ a → m < c → PartRead a n (LumaIs y) first mid → PartRead c m (ChromaIs cb) mid next → PartRead (planes_count head) (n + m) Q first next
  second_few y cb Q n m first mid next na few p q =
      part_counts (a + c + c) (planes_count head) (n + m) Q first next total
      (part_few (a + c) c (n + m) (λ left. LumaIs y left × ChromaIs cb (drop a left)) Q first next (omega (arith, na, few)) (part_then a c n m (LumaIs y) (ChromaIs cb) first mid next na p q))

  -- a read failed
  pub first_failed : (first last : Seen) → ReadFailedWithin a first last → ReadFailedWithin (planes_count head) first last
  first_failed first last f = fail_counts (a + (c + c)) (planes_count head) first last (assoc a c ∙ total) (fail_more a (c + c) first last f)
    where
      assoc : (x z : ℕ) → x + (z + z) ≡ x + z + z
      assoc x z = omega arith

  pub second_failed : (y : List ℕ) (n : ℕ) (first mid last : Seen) → n ≡ a → PartRead a n (LumaIs y) first mid → ReadFailedWithin c mid last → ReadFailedWithin (planes_count head) first last
  second_failed y n first mid last na p f = fail_counts (a + c + c) (planes_count head) first last total (fail_more (a + c) c first last (fail_then a c n (LumaIs y) first mid last na p f))

  pub third_failed : (y cb : List ℕ) (n m : ℕ) (first mid next last : Seen) → n ≡ a → m ≡ c → PartRead a n (LumaIs y) first mid → PartRead c m (ChromaIs cb) mid next → ReadFailedWithin c next last → ReadFailedWithin (planes_count head) first last
  third_failed y cb n m first mid next last na mc p q f =
      fail_counts (a + c + c) (planes_count head) first last total
      (fail_then (a + c) c (n + m) (λ left. LumaIs y left × ChromaIs cb (drop a left)) first next last (ap₂ (λ (i j : ℕ). i + j) na mc) (part_then a c n m (LumaIs y) (ChromaIs cb) first mid next na p q) f)

-- ---- behind the line

pub planes_cut : (head : FilmHead) (number line n : ℕ) (planes : Planes) (P : List ℕ → Type 0) (old new : Seen) → n < planes_count head → PartRead (planes_count head) n P old new → PlanesEnd head number line planes old new (Err (CutFrame number (line + n)))
planes_cut head number line n planes P old new few p = (refl, n, refl, few, record { change = p.change; content = p.few few })

pub planes_whole : (head : FilmHead) (number line n : ℕ) (planes : Planes) (old new : Seen) → planes_count head ≤ n → PartRead (planes_count head) n (λ left. planes ≡ padded head (planes_at head left)) old new → PlanesEnd head number line planes old new (Ok true)
planes_whole head number line n planes old new enough p =
    let all : n ≡ planes_count head = omega (arith, p.within) in
    (refl, record { change = p.change ∙ ap (λ (k : ℕ). took Input k old) all; content = p.whole all })
