-- How the pictures of a film are coded: the slices of each, by the written choice or as the coarsest ones, whatever its kind is.
use Rattle.std.specs.Prelude.{ℕ, zero, suc, ◌+◌, ◌-◌, ◌*◌, ◌/◌, ◌%◌, Bool, true, List, [], ◌∷◌, ◌++◌, map, Option, None, if◌then◌else◌}
use Rattle.enc_tables.specs.declared.records.MbRecord.{MbRecord}
use Rattle.enc_tables.specs.declared.records.PlanStep.{PlanStep}
use Rattle.spec_film.specs.Films.{Planes}
use Rattle.spec_headers.specs.declared.heads.SeqHead.{SeqHead}
use Rattle.spec_headers.specs.declared.heads.SliceHead.{SliceHead}
use Rattle.spec_headers.specs.Heads.{idr_head}
use Rattle.spec_lists.specs.References.{Reference}
use Rattle.spec_lists.specs.Lists.{Lists}
use Rattle.spec_slice_payload.specs.Layer.{Format, Slice}
use Rattle.spec_inter_plans.specs.InterPlans.{picture_compared}
use Rattle.spec_coded.specs.Tasks.{Task, task_records}
use Rattle.spec_coded.specs.Coarsest.{coarsest_records}
use Rattle.spec_tasks.specs.Entries.{command_of}
use Rattle.spec_tasks.specs.Choosing.{head_by, task_by, search_by, plan_by}
use Rattle.spec_decoder.specs.Sets.{across_of, down_of}
use Rattle.spec_decoder.specs.Macroblocks.{Slice as Read}
use Rattle.spec_decoder.specs.Frames.{frames, blank_planes, lists_by}
use Rattle.spec_buffer.specs.Buffer.{Rate}
use Rattle.spec_coding.specs.Encoding.{State, Went, encoded, spelled, in_order}
use Rattle.spec_coding.specs.Trials.{Coder, Film, choice_of}
use Rattle.spec_encoding.specs.Frames.{slices_built}
use Rattle.spec_encoding.specs.Encoding.{with_payload}

-- the sequence parameter set, how many slices a picture has, whether 8x8 transforms are used, and the range of the search
pub record CoderSettings : Type 0 where
  pub sequence : SeqHead
  pub slices : ℕ
  pub t8x8 : Bool
  pub range : ℕ

-- what they say of one picture: macroblocks in a row, and rows of them; how many slices; whether 8x8 transforms are used; and the range
pub record Shape : Type 0 where
  pub across : ℕ
  pub down : ℕ
  pub slices : ℕ
  pub t8x8 : Bool
  pub range : ℕ

abbrev pub shape : CoderSettings → Shape
shape c = record { across = across_of c.sequence; down = down_of c.sequence; slices = c.slices; t8x8 = c.t8x8; range = c.range }

-- what the parameter sets tell the picture's slices
abbrev pub format : Shape → Format
format s = record { across = s.across; total = s.across * s.down; t8x8 = s.t8x8 }

-- the first row of macroblocks of slice k, its first macroblock, and how many it has
abbrev pub first_row : Shape → ℕ → ℕ
first_row s k = k * s.down / s.slices

abbrev pub first_of : Shape → ℕ → ℕ
first_of s k = first_row s k * s.across

abbrev pub count_of : Shape → ℕ → ℕ
count_of s k = (first_row s (k + 1) - first_row s k) * s.across

-- ---- headers

-- of a slice that begins with this macroblock; number: how many IDR pictures there were before
abbrev pub head_at : PlanStep → List Reference → ℕ → Option ℕ → ℕ → ℕ → SliceHead
head_at st held number moved qp first = if st.idr then idr_head first 0 (number % 2) 0 qp true else head_by st held moved first qp

-- ---- slices, one behind another

-- a rule makes the records of a slice with this header, of so many macroblocks, over what was built before
abbrev pub Rule : Type 0
Rule = SliceHead → ℕ → Planes → List MbRecord

abbrev pub slice_by : Shape → (ℕ → SliceHead) → Rule → ℕ → Planes → Slice
slice_by s head rule k p = record { head = head (first_of s k); records = rule (head (first_of s k)) (count_of s k) p }

-- the first slices of a picture
unfoldable pub slices_to : Shape → List Reference → (ℕ → SliceHead) → Rule → ℕ → List Slice
slices_to s held head rule zero = []
slices_to s held head rule (suc k) =
    let before = slices_to s held head rule k in
    before ++ slice_by s head rule k (slices_built s.across held before (blank_planes s.across s.down)) ∷ []

-- ---- pictures

-- what a slice is coded from
abbrev pub task_of : Shape → List Reference → Planes → SliceHead → Task
task_of s held source h =
    let lists = lists_by h held in task_by (format s) h lists source (plan_by (format s) h lists source s.range)

abbrev pub plain_rule : Shape → List Reference → Planes → Rule
plain_rule s held source h n p = task_records (task_of s held source h) p n

abbrev pub coarsest_rule : Shape → List Reference → Planes → Rule
coarsest_rule s held source h n p = coarsest_records (task_of s held source h) p n

-- by the written choice, at a QP
abbrev pub plain_head : PlanStep → List Reference → ℕ → ℕ → Planes → ℕ → SliceHead
plain_head st held number qp source = head_at st held number (command_of st.kind st.frame_num source held) qp

unfoldable pub plain_picture : Shape → List Reference → PlanStep → ℕ → ℕ → Planes → List Slice
plain_picture s held st number qp source = slices_to s held (plain_head st held number qp source) (plain_rule s held source) s.slices

-- the coarsest coding, at the greatest QP and without a command
abbrev pub coarsest_head : PlanStep → List Reference → ℕ → ℕ → SliceHead
coarsest_head st held number = head_at st held number None 51

unfoldable pub coarsest_picture : Shape → List Reference → PlanStep → ℕ → Planes → List Slice
coarsest_picture s held st number source = slices_to s held (coarsest_head st held number) (coarsest_rule s held source) s.slices

-- how many vectors are compared for a picture: its lists are those of any of its slices
abbrev pub lists_at : PlanStep → List Reference → Planes → Lists
lists_at st held source = lists_by (plain_head st held 0 0 source 0) held

unfoldable pub compared_at : Shape → List Reference → PlanStep → Planes → ℕ
compared_at s held st source = picture_compared (search_by (format s) (lists_at st held source) source s.range) s.down

-- THE CODER
abbrev pub film_coder : CoderSettings → Coder Read
film_coder c = record {
  plain = λ held st number qp source. map (with_payload (format (shape c))) (plain_picture (shape c) held st number qp source);
  coarsest = λ held st number source. map (with_payload (format (shape c))) (coarsest_picture (shape c) held st number source);
  compared = compared_at (shape c);
}

-- ---- films

-- reorders: whether there are B pictures
abbrev pub film_of : CoderSettings → Rate → Bool → Film
film_of c rate reorders = record { sequence = c.sequence; flags = (true, c.t8x8); rate = rate; reorders = reorders }

-- THE ENCODING of steps with their pictures, from a state on, with trials and the ledger
unfoldable pub film_encoded : CoderSettings → Rate → Bool → State → List (PlanStep × Planes) → Went Read
film_encoded c rate reorders s xs = encoded frames c.sequence (choice_of (film_of c rate reorders) (film_coder c)) s xs

-- its bytes, and the pictures that are kept, in display order
abbrev pub film_bytes : CoderSettings → Rate → Bool → State → List (PlanStep × Planes) → List ℕ
film_bytes c rate reorders s xs = spelled c.sequence (true, c.t8x8) (film_encoded c rate reorders s xs).done

abbrev pub film_shown : CoderSettings → Rate → Bool → State → List (PlanStep × Planes) → List Planes
film_shown c rate reorders s xs = in_order c.sequence (film_encoded c rate reorders s xs).done
