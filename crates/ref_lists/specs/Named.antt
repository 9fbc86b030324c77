-- The lists of an encoder's pictures, in the words of the decoder's definition (ITU-T H.264, clause 8.2.4).
use Rattle.std.specs.Prelude.{ℕ, ℤ, ◌≡◌, ◌≤◌, List, [], ◌∷◌, length, take}
use Rattle.std.specs.List.{AllByRecursion}
use Rattle.enc_tables.specs.declared.records.SliceKind.{SliceKind}
use Rattle.enc_tables.specs.declared.records.SliceKind.TheVariants.{I, P, B}
use Rattle.spec_lists.specs.References.{Reference as Shown}
use Rattle.spec_lists.specs.Reordering.{difference}
use Rattle.spec_lists.specs.Lists.{Lists as ShownLists, no_lists, by_number, shown_before, shown_behind}
use Rattle.ref_lists.specs.declared.naming.Lists.{Lists}
use Rattle.ref_lists.specs.Held.{all_seen, all_seen_from}
use Rattle.ref_lists.specs.Entries.{entries, next_number, AreInOrder, ArePlaces}

-- what the places of both lists mean
abbrev pub named : Lists → ShownLists
named l = record { list0 = entries (all_seen l.held.now) l.list0.items; list1 = entries (all_seen l.held.now) l.list1.items }

-- with order counts from an origin
abbrev pub named_from : ℤ → Lists → ShownLists
named_from origin l = record { list0 = entries (all_seen_from origin l.held.now) l.list0.items; list1 = entries (all_seen_from origin l.held.now) l.list1.items }

-- The lists of a picture of a kind and an order count, before any command: of P all that are held by falling PicNum (clause 8.2.4.2.1); of
-- B those that are shown before it, by falling order count, and the one that is shown next behind it (clause 8.2.4.2.3).
abbrev pub lists_at : SliceKind → ℕ → List Shown → ShownLists
lists_at I poc held = no_lists
lists_at P poc held = record { list0 = by_number (next_number held) held; list1 = [] }
lists_at B poc held = record { list0 = shown_before poc held; list1 = take 1 (shown_behind poc held) }

-- a B picture has an entry in list 0
abbrev pub HasEntries : SliceKind → ShownLists → Type 0
HasEntries I l = Unit {0}
HasEntries P l = Unit {0}
HasEntries B l = 1 ≤ length l.list0

-- the lists are those of a P picture before any command: list 0 names all that are held, the newest first
pub record AreOfP (l : Lists) : Type 0 where
  pub order : AreInOrder l.held.now
  pub few : length l.held.now ≤ 4
  pub list0 : entries (all_seen l.held.now) l.list0.items ≡ all_seen l.held.now
  pub inside : ArePlaces (length l.held.now) l.list0.items
  pub list1 : l.list1.items ≡ []

-- no entry of a list is less different from a source than the first one
abbrev pub FirstIsLeast : List ℕ → List Shown → Type 0
FirstIsLeast source [] = Unit {0}
FirstIsLeast source (r ∷ rs) = AllByRecursion (λ q. difference source r.planes.luma ≤ difference source q.planes.luma) rs
