-- What is kept of a picture once its access unit is written.
use Rattle.std.specs.Prelude.{◌≡◌, ◌+◌, ◌∷◌, take, if◌then◌else◌}
use Rattle.enc_tables.specs.declared.records.PlanStep.{PlanStep}
use Rattle.enc_tables.specs.declared.records.SliceKind.{SliceKind}
use Rattle.enc_tables.specs.declared.records.SliceKind.TheVariants.{I, P, B}
use Rattle.picture_planes.specs.declared.picture.Picture.{Picture}
use Rattle.spec_buffer.specs.Ledger.{spent}
use Rattle.spec_lists.specs.References.{slid}
use Rattle.ref_lists.specs.declared.held.Reference.{Reference}
use Rattle.ref_lists.specs.declared.store.RefStore.{RefStore}
use Rattle.ref_lists.specs.Held.{seen, IsMade}
use Rattle.ref_lists.specs.Stored.{references_of, held_of, places_of, width_of, height_of, SameStore, order_counts, IsNumberedNext, IsShownLast}
use Rattle.buffer_control.specs.Seen.{rate_of as rate_in, spent_of}
use Rattle.picture_coder.specs.declared.coder.PictureCoder.{PictureCoder}
use Rattle.picture_coder.specs.Coders.{lent_reference}
use Rattle.picture_coder.specs.Lending.{with_reference}
use Rattle.enc_session.specs.declared.engine.Engine.{Engine}
use Rattle.enc_session.specs.declared.units.Made.{Made}
use Rattle.enc_session.specs.Ready.{units_in}

-- a reference may be taken into the store
abbrev pub IsNext : RefStore → Reference → Type 0
IsNext store r = IsNumberedNext r.frame_num (held_of store) × IsShownLast r.poc (order_counts (references_of store))

-- it was taken into the store, and the coder has another one of the store's size
pub record IsSlid (old new : RefStore) (c d : PictureCoder) : Type 0 where
  pub held : held_of new ≡ slid (places_of old) (seen (lent_reference c)) (held_of old)
  pub counts : order_counts (references_of new) ≡ take (places_of old) ((lent_reference c).poc ∷ order_counts (references_of old))
  pub size : SameStore old new
  pub coder : d ≡ with_reference c (lent_reference d)
  pub made : IsMade (width_of old) (height_of old) (lent_reference d)

-- by the kind of the picture: of a B picture the samples are in the slot, and the slot's are with the coder
abbrev pub KeptLeft : SliceKind → RefStore → RefStore → PictureCoder → PictureCoder → Picture → Picture → Type 0
KeptLeft I old new c d p q = IsSlid old new c d × (q ≡ p)
KeptLeft P old new c d p q = IsSlid old new c d × (q ≡ p)
KeptLeft B old new c d p q = (new ≡ old) × (q ≡ (lent_reference c).picture) × (d ≡ with_reference c (record (lent_reference c) { picture = p }))

-- the numbers
pub record Taken (st : PlanStep) (m : Made) (old new : Engine) : Type 0 where
  pub ledger : spent_of new.ledger ≡ spent (rate_in old.ledger) (spent_of old.ledger) m.bits m.filler
  pub rate : rate_in new.ledger ≡ rate_in old.ledger
  pub idrs : new.idrs ≡ (if st.idr then old.idrs + 1 else old.idrs)
  pub last_idr : new.last_idr ≡ (if st.idr then units_in old else old.last_idr)
  pub compared : new.compared ≡ old.compared + m.compared
  pub settings : new.settings ≡ old.settings
  pub head : new.head ≡ old.head
  pub level : new.level ≡ old.level
  pub display : new.display ≡ old.display
  pub number : new.number ≡ old.number
  pub unit : new.unit ≡ old.unit
  pub payload : new.payload ≡ old.payload
