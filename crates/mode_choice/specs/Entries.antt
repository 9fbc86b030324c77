-- Entries of lists as the plan's definition has them.
use Rattle.std.specs.Prelude.{ℕ, ◌<◌, ◌≤◌, List, slice_index_or}
use Rattle.enc_tables.specs.Records.{zero_vector}
use Rattle.spec_inter_plans.specs.InterPlans.{Listed}
use Rattle.subpel_filter.specs.Predicted.{IsShort}
use Rattle.mode_choice.specs.declared.entries.Entry.{Entry}

abbrev pub as_listed : Entry → Listed
as_listed e = record { number = e.number; vector = e.vector; cost = e.cost }

abbrev pub blank_entry : Entry
blank_entry = record { number = 0; vector = zero_vector; cost = 0 }

abbrev pub entry_at : List Entry → ℕ → Entry
entry_at entries k = slice_index_or entries k blank_entry

abbrev pub entry_cost : Entry → ℕ
entry_cost e = e.cost

-- an entry of a list of so many, whose vector stays within the margin of a picture
pub record IsEntry (count : ℕ) (e : Entry) : Type 0 where
  pub inside : e.number < count
  pub short : IsShort e.vector
  pub small : e.cost ≤ 65292
