-- A session before its first group.
use Rattle.std.proofs.Common.{ℕ, ◌+◌, ◌*◌, ◌%◌, ◌==◌, ◌≡◌, ◌≤◌, Bool, true, false, List, [], ◌∷◌, None, Ok, refl, ap, ap₂, subst, arith}
use Rattle.std.specs.Prelude.{◌≤ℤ◌, pos}
use Rattle.std.specs.List.{AllByRecursion}
use Rattle.std.proofs.lemmas.Nat.{mod-mul-add}
use Rattle.spec_basics.specs.Sizes.{in_macroblocks}
use Rattle.spec_film.specs.declared.FilmHead.{FilmHead}
use Rattle.spec_film.specs.Films.{AllowedHead}
use Rattle.spec_words.specs.declared.command.Settings.{Settings}
use Rattle.spec_words.specs.Choices.{early_of}
use Rattle.spec_buffer.specs.Buffer.{IsRate}
use Rattle.spec_buffer.specs.Ledger.{Ledger as Spent, fresh}
use Rattle.spec_lists.specs.References.{Reference as Shown}
use Rattle.spec_coding.specs.Encoding.{State}
use Rattle.spec_session.specs.Settings.{AreInRange, completed, settled}
use Rattle.spec_session.specs.Encodings.{rate_of}
use Rattle.spec_session.proofs.Settling.{completes, rate_is}
use Rattle.bit_strings.specs.BitText.{BitText}
use Rattle.picture_planes.specs.Clamped.{rounded}
use Rattle.ref_lists.specs.declared.held.Reference.{Reference}
use Rattle.ref_lists.specs.declared.store.RefStore.{RefStore}
use Rattle.ref_lists.specs.Held.{all_seen}
use Rattle.ref_lists.specs.Stored.{references_of, held_of, places_of, width_of, height_of}
use Rattle.buffer_control.specs.declared.Ledger.{Ledger}
use Rattle.buffer_control.specs.Seen.{rate_of as rate_in, spent_of}
use Rattle.picture_coder.specs.declared.coder.PictureCoder.{PictureCoder}
use Rattle.enc_session.specs.declared.engine.Engine.{Engine}
use Rattle.enc_session.specs.Ready.{unit_room}
use Rattle.enc_session.specs.Beginning.{HasCoder, Begins}

-- ---- what completed settings give

pub rows : (s : Settings) (h : FilmHead) (level : ℕ) → completed s h ≡ Ok (settled s h level) → s.slices ≤ in_macroblocks h.height
rows s h level e = (completes s h (settled s h level) e).rows

pub rate : (s : Settings) (h : FilmHead) (level : ℕ) → AllowedHead h → completed s h ≡ Ok (settled s h level) → IsRate (rate_of (settled s h level))
rate s h level a e = rate_is s h (settled s h level) a (completes s h (settled s h level) e)

-- ---- nothing is held yet

none_held : (rs : List Reference) → all_seen rs ≡ [] → AllByRecursion (λ r. pos 0 ≤ℤ r.poc) rs
none_held [] e = tt
none_held (r ∷ rs) e = absurd cc

-- a film begins with an IDR picture
start_whole : (n : ℕ) → 1 ≤ n → 0 % n ≡ 0
start_whole n some = let e : 0 * n + 0 ≡ 0 = omega arith in subst (λ (m : ℕ). m % n ≡ 0) e (mod-mul-add 0 n 0 some)

start_is_idr : (n : ℕ) → 1 ≤ n → (0 % n == 0) ≡ true
start_is_idr n some = ap (λ (m : ℕ). m == 0) (start_whole n some)

never : (b : Bool) {X : Type 0} → b ≡ true → b ≡ false → X
never true e f = absurd cc
never false e f = absurd cc

-- ---- what codes a film, at its start

abbrev pub first_of : Settings → FilmHead → ℕ → PictureCoder → RefStore → Ledger → BitText → BitText → Engine
first_of s h level coder store ledger unit payload = record {
  settings = s;
  head = h;
  level = level;
  coder = coder;
  store = store;
  ledger = ledger;
  idrs = 0;
  last_idr = 0;
  compared = 0;
  display = 0;
  number = 0;
  unit = unit;
  payload = payload;
}

pub begins : (s : Settings) (h : FilmHead) (level : ℕ) (coder : PictureCoder) (store : RefStore) (ledger : Ledger) (unit payload : BitText)
    → AreInRange s → early_of s ≡ None → AllowedHead h → completed s h ≡ Ok (settled s h level) → HasCoder s h coder
    → held_of store ≡ [] → (width_of store ≡ rounded h.width) × (height_of store ≡ rounded h.height) × (places_of store ≡ s.refs)
    → rate_in ledger ≡ rate_of (settled s h level) → spent_of ledger ≡ fresh s.qp
    → unit ≡ record { text = []; room = unit_room s.cpb; made = unit_room s.cpb } → payload ≡ record { text = []; room = 8192; made = 8192 }
    → Begins s h level (first_of s h level coder store ledger unit payload)
begins s h level coder store ledger unit payload range early head complete has none size rate nothing room small = record {
  settings = refl;
  head = refl;
  level_is = refl;
  state = ap₂ (λ (held : List Shown) (spent : Spent). let t : State = record { held = held; ledger = spent; idrs = 0; last_idr = 0; compared = 0 } in t) none nothing;
  place = refl;
  keeps = record {
    holds = record {
      range = range;
      early = early;
      head = head;
      complete = complete;
      coder = has.made;
      sizes = has.sizes;
      coder_room = has.room;
      width = size.0;
      height = size.1;
      places = size.2;
      rate = rate;
      payload = small;
      unit = ap (λ (b : BitText). b.made) room;
      idrs = omega arith;
      last_idr = omega arith;
      compared = omega arith;
      origin = none_held (references_of store) none;
    };
    counted = ap (λ (t : Spent). t.units) nothing;
    goes_on = λ e. never (0 % s.idr == 0) (start_is_idr s.idr range.idr_least) e;
  };
}
