-- The edges of a macroblock (ITU-T H.264, clause 8.7): the vertical ones from left to right, then the horizontal ones downwards.
use Rattle.std.specs.Prelude.{ℕ, Bool, true, false, not, cond, ◌+◌, ◌-◌, ◌*◌, ◌/◌, ◌%◌, ◌==◌, ◌&&◌, ◌||◌, List, map, slice_index, ℤ}
use Rattle.std.specs.List.{range_with_len}
use Rattle.enc_tables.specs.Steps.{steps}
use Rattle.enc_tables.specs.declared.records.MbRecord.{MbRecord}
use Rattle.spec_filter.specs.declared.EdgeIndices.{EdgeIndices}
use Rattle.spec_filter.specs.declared.MbEdges.{MbEdges}
use Rattle.spec_filter.specs.declared.Layout.{Layout}
use Rattle.spec_filter.specs.Strengths.{strength, filter_index, rule_at}
use Rattle.spec_filter.specs.Edges.{edge_filtered}

-- bS of part g of edge k between a macroblock and the one before it, at its left or above
unfoldable pub vertical_strength : List ℤ → List ℤ → MbRecord → MbRecord → ℕ → ℕ → ℕ
vertical_strength pictures0 pictures1 before mb k g =
    strength pictures0 pictures1 (k == 0) (cond (k == 0) before mb) g ((k + 3) % 4) mb g k

unfoldable pub horizontal_strength : List ℤ → List ℤ → MbRecord → MbRecord → ℕ → ℕ → ℕ
horizontal_strength pictures0 pictures1 before mb k g =
    strength pictures0 pictures1 (k == 0) (cond (k == 0) before mb) ((k + 3) % 4) g mb k g

-- all sixteen, edge after edge
unfoldable pub strengths : (ℕ → ℕ → ℕ) → List ℕ
strengths bs = map (λ i. bs (i / 4) (i % 4)) (range_with_len 0 16)

abbrev pub indices : Bool → MbRecord → MbRecord → MbRecord → EdgeIndices
indices chroma left above mb = record {
  left = filter_index chroma left mb;
  above = filter_index chroma above mb;
  inner = filter_index chroma mb mb;
}

-- of a macroblock at column x of row y, and the macroblocks at its left and above
unfoldable pub edges_between : List ℤ → List ℤ → ℕ → ℕ → MbRecord → MbRecord → MbRecord → MbEdges
edges_between pictures0 pictures1 x y left above mb = record {
  left = not (x == 0);
  above = not (y == 0);
  transform8 = mb.transform8;
  vertical = strengths (vertical_strength pictures0 pictures1 left mb);
  horizontal = strengths (horizontal_strength pictures0 pictures1 above mb);
  luma = indices false left above mb;
  chroma = indices true left above mb;
}

-- an edge of the picture isn't filtered, nor is a luma edge inside an 8x8 transform block
abbrev pub has_luma_edge : Bool → Bool → ℕ → Bool
has_luma_edge outer transform8 k = (outer || not (k == 0)) && not (transform8 && k % 2 == 1)

abbrev pub has_chroma_edge : Bool → ℕ → Bool
has_chroma_edge outer k = outer || not (k == 0)

-- edge k of the macroblock at column x of row y: four luma edges, and two chroma edges, which have bS of luma edges 0 and 2
unfoldable pub luma_vertical : MbEdges → Layout → ℕ → ℕ → ℕ → List ℕ → List ℕ
luma_vertical e at x y k xs =
    cond (has_luma_edge e.left e.transform8 k)
    (edge_filtered (λ g. rule_at false (cond (k == 0) e.luma.left e.luma.inner) (slice_index e.vertical (4 * k + g))) 4
    (at.origin + 16 * y * at.stride + 16 * x + 4 * k - 4) 1 at.stride xs)
    xs

unfoldable pub luma_horizontal : MbEdges → Layout → ℕ → ℕ → ℕ → List ℕ → List ℕ
luma_horizontal e at x y k xs =
    cond (has_luma_edge e.above e.transform8 k)
    (edge_filtered (λ g. rule_at false (cond (k == 0) e.luma.above e.luma.inner) (slice_index e.horizontal (4 * k + g))) 4
    (at.origin + (16 * y + 4 * k - 4) * at.stride + 16 * x) at.stride 1 xs)
    xs

unfoldable pub chroma_vertical : MbEdges → Layout → ℕ → ℕ → ℕ → List ℕ → List ℕ
chroma_vertical e at x y k xs =
    cond (has_chroma_edge e.left k)
    (edge_filtered (λ g. rule_at true (cond (k == 0) e.chroma.left e.chroma.inner) (slice_index e.vertical (8 * k + g))) 2
    (at.origin + 8 * y * at.stride + 8 * x + 4 * k - 4) 1 at.stride xs)
    xs

unfoldable pub chroma_horizontal : MbEdges → Layout → ℕ → ℕ → ℕ → List ℕ → List ℕ
chroma_horizontal e at x y k xs =
    cond (has_chroma_edge e.above k)
    (edge_filtered (λ g. rule_at true (cond (k == 0) e.chroma.above e.chroma.inner) (slice_index e.horizontal (8 * k + g))) 2
    (at.origin + (8 * y + 4 * k - 4) * at.stride + 8 * x) at.stride 1 xs)
    xs

unfoldable pub luma_macroblock : MbEdges → Layout → ℕ → ℕ → List ℕ → List ℕ
luma_macroblock e at x y xs = steps (luma_horizontal e at x y) 4 (steps (luma_vertical e at x y) 4 xs)

unfoldable pub chroma_macroblock : MbEdges → Layout → ℕ → ℕ → List ℕ → List ℕ
chroma_macroblock e at x y xs = steps (chroma_horizontal e at x y) 2 (steps (chroma_vertical e at x y) 2 xs)
