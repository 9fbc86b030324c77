-- Pictures of I_PCM macroblocks stay as they are: their quantisation parameter counts 0, and so is every threshold.
use Rattle.std.proofs.Common.{◌≡◌, ◌+◌, ◌-◌, ◌*◌, ◌/◌, ◌%◌, ◌==◌, ◌&&◌, ℕ, Bool, true, false, cond, nat_lt, List, length, refl, sym, ap, ap₂, ◌∙◌, arith, ℤ, le-ltb, All, inl, inr}
use Rattle.std.specs.Int.{abs_diff}
use Rattle.std.proofs.lemmas.Bool.{cases_lt}
use Rattle.std.proofs.lemmas.List.Elements.{All-get_or}
use Rattle.std.proofs.lemmas.List.{get_or_past}
use Rattle.enc_tables.specs.Records.{blank_record, no_record}
use Rattle.enc_tables.specs.Steps.{steps}
use Rattle.enc_tables.specs.declared.records.MbRecord.{MbRecord}
use Rattle.enc_tables.specs.Kinds.{is_pcm}
use Rattle.spec_film.specs.Films.{Planes}
use Rattle.spec_filter.specs.declared.SampleLine.{SampleLine}
use Rattle.spec_filter.specs.declared.EdgeRule.{EdgeRule}
use Rattle.spec_filter.specs.declared.EdgeIndices.{EdgeIndices}
use Rattle.spec_filter.specs.declared.MbEdges.{MbEdges}
use Rattle.spec_filter.specs.declared.Layout.{Layout}
use Rattle.spec_filter.specs.Lines.{is_filtered}
use Rattle.spec_filter.specs.Strengths.{filter_qp, filter_index, rule_at}
use Rattle.spec_filter.specs.Edges.{line_at, line_filtered, part_filtered, edge_filtered}
use Rattle.spec_filter.specs.Macroblocks.{indices, edges_between, luma_vertical, luma_horizontal, chroma_vertical, chroma_horizontal, luma_macroblock, chroma_macroblock}
use Rattle.spec_filter.specs.Pictures.{record_at, edges_of, luma_filtered, chroma_filtered, picture_filtered, rows_of}
use Rattle.spec_filter.proofs.Kept.{line_left, steps_left}

none_near : (a : Bool) (b : Bool) (n t : ℕ) → t ≡ 0 → (nat_lt n t && a && b) ≡ false
none_near a b n t e = rw (e, le-ltb n 0 (omega arith)) refl

not_near : (r : EdgeRule) (l : SampleLine) → r.alpha ≡ 0 → is_filtered r l ≡ false
unfolding is_filtered
not_near r l e = none_near _ _ (abs_diff l.p0 l.q0) r.alpha e

edge_left : (rule : ℕ → EdgeRule) (n start step across : ℕ) (xs : List ℕ) → ((g : ℕ) → (rule g).alpha ≡ 0) → edge_filtered rule n start step across xs ≡ xs
unfolding edge_filtered part_filtered
edge_left rule n start step across xs none =
    steps_left (λ g. steps (λ j. line_filtered (rule g) (start + n * g * across + j * across) step) n) 4 xs (λ g ys.
    steps_left (λ j. line_filtered (rule g) (start + n * g * across + j * across) step) n ys (λ j zs.
    sym (line_left (rule g) zs (start + n * g * across + j * across) step (line_at zs (start + n * g * across + j * across) step) refl (not_near (rule g) _ (none g)))))

no_threshold : (chroma : Bool) (index bs : ℕ) → index ≡ 0 → (rule_at chroma index bs).alpha ≡ 0
unfolding rule_at
no_threshold chroma index bs e = rw e refl

cond_left : (b : Bool) (us xs : List ℕ) → us ≡ xs → cond b us xs ≡ xs
cond_left true us xs e = e
cond_left false us xs e = refl

cond_zero : (b : Bool) (m n : ℕ) → m ≡ 0 → n ≡ 0 → cond b m n ≡ 0
cond_zero true m n e f = e
cond_zero false m n e f = f

pub record NoIndices (e : EdgeIndices) : Type 0 where
  pub left : e.left ≡ 0
  pub above : e.above ≡ 0
  pub inner : e.inner ≡ 0

luma_left : (e : MbEdges) (at : Layout) (x y : ℕ) (xs : List ℕ) → NoIndices e.luma → luma_macroblock e at x y xs ≡ xs
unfolding luma_macroblock luma_vertical luma_horizontal
luma_left e at x y xs none =
    steps_left (luma_horizontal e at x y) 4 (steps (luma_vertical e at x y) 4 xs) (λ k ys. cond_left _ _ ys (edge_left _ _ _ _ _ ys (λ g. no_threshold false _ _ (cond_zero (k == 0) e.luma.above e.luma.inner none.above none.inner))))
    ∙ steps_left (luma_vertical e at x y) 4 xs (λ k ys. cond_left _ _ ys (edge_left _ _ _ _ _ ys (λ g. no_threshold false _ _ (cond_zero (k == 0) e.luma.left e.luma.inner none.left none.inner))))

chroma_left : (e : MbEdges) (at : Layout) (x y : ℕ) (xs : List ℕ) → NoIndices e.chroma → chroma_macroblock e at x y xs ≡ xs
unfolding chroma_macroblock chroma_vertical chroma_horizontal
chroma_left e at x y xs none =
    steps_left (chroma_horizontal e at x y) 2 (steps (chroma_vertical e at x y) 2 xs) (λ k ys. cond_left _ _ ys (edge_left _ _ _ _ _ ys (λ g. no_threshold true _ _ (cond_zero (k == 0) e.chroma.above e.chroma.inner none.above none.inner))))
    ∙ steps_left (chroma_vertical e at x y) 2 xs (λ k ys. cond_left _ _ ys (edge_left _ _ _ _ _ ys (λ g. no_threshold true _ _ (cond_zero (k == 0) e.chroma.left e.chroma.inner none.left none.inner))))

pcm_qp : (chroma : Bool) (mb : MbRecord) → is_pcm mb.kind ≡ true → filter_qp chroma mb ≡ 0
unfolding filter_qp
pcm_qp true mb e = rw e refl
pcm_qp false mb e = rw e refl

pcm_index : (chroma : Bool) (p q : MbRecord) → is_pcm p.kind ≡ true → is_pcm q.kind ≡ true → filter_index chroma p q ≡ 0
pcm_index chroma p q a b = ap₂ (λ (m n : ℕ). (m + n + 1) / 2) (pcm_qp chroma p a) (pcm_qp chroma q b)

pcm_indices : (chroma : Bool) (left above mb : MbRecord) → is_pcm left.kind ≡ true → is_pcm above.kind ≡ true → is_pcm mb.kind ≡ true → NoIndices (indices chroma left above mb)
pcm_indices chroma left above mb l a m = record { left = pcm_index chroma left mb l m; above = pcm_index chroma above mb a m; inner = pcm_index chroma mb mb m m }

module _ (records : List MbRecord) (all : All (λ r. is_pcm r.kind ≡ true) records) where
  pcm_at : (m : ℕ) → is_pcm (record_at records m).kind ≡ true
  unfolding blank_record
  pcm_at m = elim (cases_lt m (length records)) [
    | inl lt ↦ All-get_or (λ r. is_pcm r.kind ≡ true) records m no_record lt all
    | inr le ↦ ap (λ (r : MbRecord). is_pcm r.kind) (get_or_past records m no_record le)
  ]

  module _ (pictures0 pictures1 : List ℤ) (width : ℕ) where
    none_luma : (m : ℕ) → NoIndices (edges_of pictures0 pictures1 records width m).luma
    unfolding edges_of edges_between
    none_luma m = pcm_indices false _ _ _ (pcm_at (m - 1)) (pcm_at (m - width)) (pcm_at m)

    none_chroma : (m : ℕ) → NoIndices (edges_of pictures0 pictures1 records width m).chroma
    unfolding edges_of edges_between
    none_chroma m = pcm_indices true _ _ _ (pcm_at (m - 1)) (pcm_at (m - width)) (pcm_at m)

    luma_stays : (at : Layout) (n : ℕ) (xs : List ℕ) → luma_filtered (edges_of pictures0 pictures1 records width) width at n xs ≡ xs
    unfolding luma_filtered
    luma_stays at n xs = steps_left (λ m. luma_macroblock (edges_of pictures0 pictures1 records width m) at (m % width) (m / width)) n xs (λ m ys. luma_left _ at (m % width) (m / width) ys (none_luma m))

    chroma_stays : (at : Layout) (n : ℕ) (xs : List ℕ) → chroma_filtered (edges_of pictures0 pictures1 records width) width at n xs ≡ xs
    unfolding chroma_filtered
    chroma_stays at n xs = steps_left (λ m. chroma_macroblock (edges_of pictures0 pictures1 records width m) at (m % width) (m / width)) n xs (λ m ys. chroma_left _ at (m % width) (m / width) ys (none_chroma m))

planes_same : (a b c : List ℕ) (p : Planes) → a ≡ p.luma → b ≡ p.cb → c ≡ p.cr → (let q : Planes = record { luma = a; cb = b; cr = c } in q ≡ p)
planes_same a b c p x y z =
    let f : List ℕ → List ℕ → List ℕ → Planes = λ a b c. record { luma = a; cb = b; cr = c } in
    ap (λ (l : List ℕ). f l b c) x ∙ ap (λ (l : List ℕ). f p.luma l c) y ∙ ap (λ (l : List ℕ). f p.luma p.cb l) z

pub pcm_stays : (pictures0 pictures1 : List ℤ) (records : List MbRecord) (width : ℕ) (planes : Planes) → All (λ r. is_pcm r.kind ≡ true) records
    → picture_filtered pictures0 pictures1 records width planes ≡ planes
unfolding picture_filtered
pcm_stays pictures0 pictures1 records width planes all =
    planes_same _ _ _ planes
    (luma_stays records all pictures0 pictures1 (width / 16) (rows_of width) (length records) planes.luma)
    (chroma_stays records all pictures0 pictures1 (width / 16) (rows_of (width / 2)) (length records) planes.cb)
    (chroma_stays records all pictures0 pictures1 (width / 16) (rows_of (width / 2)) (length records) planes.cr)
