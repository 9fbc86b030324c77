-- What the calls of a run make together.
use Rattle.std.proofs.Common.{ℕ, ◌+◌, ◌≤◌, ◌≡◌, List, [], length, drop, Option, Some, None, Result, Ok, Err, refl, ap, sym, ◌∙◌, subst, arith}
use Rattle.std.specs.Prelude.{◌≢◌, IfSome}
use Rattle.std.specs.Option.{option_map}
use Rattle.enc_edge.specs.declared.studio.Out.{Out}
use Rattle.enc_edge.specs.declared.studio.Out.TheVariants.{Stream, Recon, Report}
use Rattle.enc_edge.specs.declared.studio.Place.TheVariants as places
use Rattle.enc_edge.specs.Seen.{Seen}
use Rattle.enc_edge.specs.Calls.{took, opened, LaterFailed}
use Rattle.enc_edge.specs.Reads.{Took, TookSome, ReadFailed}
use Rattle.enc_edge.proofs.Spots.{took_more}
use Rattle.spec_film.specs.declared.FilmHead.{FilmHead}
use Rattle.spec_film.specs.declared.InputFault.{InputFault}
use Rattle.spec_film.specs.declared.InputFault.TheVariants as faults
use Rattle.spec_film.specs.declared.HeadFault.{HeadFault}
use Rattle.spec_film.specs.declared.HeadFault.TheVariants as heads
use Rattle.spec_film.specs.Films.{Film, AllowedHead, FilmEnd, Ended, Faulty, most_pictures, pictures_of, read_head, film_of, film_from}
use Rattle.spec_words.specs.declared.command.Settings.{Settings}
use Rattle.spec_words.specs.declared.command.SettingFault.{SettingFault}
use Rattle.spec_words.specs.Choices.{early_of}
use Rattle.spec_coding.specs.Encoding.{Refusal}
use Rattle.spec_session.specs.Settings.{SessionSettings, AreInRange, completed, setting_of, settled, unless_early}
use Rattle.spec_session.specs.Encodings.{encoding}
use Rattle.spec_session.specs.Groups.{coded_by, coded_pictures}
use Rattle.spec_session.specs.Outputs.{Outputs, AreFronts, outputs_of, written_to, written_whole}
use Rattle.spec_session.proofs.Settling.{completes}
use Rattle.spec_session.proofs.WholeFilms.{keeps_promises, keeps_buffer}
use Rattle.enc_session.specs.declared.ends.OpenEnd.{OpenEnd}
use Rattle.enc_session.specs.declared.ends.OpenEnd.TheVariants as opens
use Rattle.enc_session.specs.Left.{added}
use Rattle.y4m_film.specs.LineReads.{LineUnread}
use Rattle.y4m_film.specs.Taken.{HeadIs, IsFilm, PicturesTaken}
use Rattle.y4m_film.proofs.Remaining.{of_both}
use Rattle.y4m_film.proofs.Behind.{film_is, told_both, told_taken, told_film, told_none, told_no_head}
use Rattle.encode_film.specs.declared.ends.EncodeEnd.{EncodeEnd}
use Rattle.encode_film.specs.declared.ends.EncodeEnd.TheVariants.{Open, Read, Write, Input, Setting, Buffer, OutOfMemory}
use Rattle.encode_film.specs.Calls.{Settles, OutputsOpened, OutputsClosed}
use Rattle.encode_film.specs.Faults.{head_end, open_end}
use Rattle.encode_film.specs.Groups.{AllWritten, FilmBroken, GroupUnread, OutputCut, PictureRefused, PicturesLeft}
use Rattle.encode_film.specs.Leaving.{Leaves}
use Rattle.encode_film.specs.Outputs.{Names, reading, all_open, all_shut, encoded_to, outputs_by, put}
use Rattle.encode_film.specs.Runs.{AllEncoded, Encoded, NoFilm, ReadFault, Refused, SettingsFit, WriteFault, no_head, cut_short, cut, closing, in_head, in_group}

-- ---- before an output is open

-- the head was read from the first n bytes of the input, which stands open
pub record AtHead (names : Names) (head : FilmHead) (n : ℕ) (old mid : Seen) : Type 0 where
  pub allowed : AllowedHead head
  pub change : mid ≡ reading names n old
  pub told : IfSome old.input.bytes (HeadIs head n)

pub head_read : (names : Names) (head : FilmHead) (n : ℕ) (old first second : Seen) → AllowedHead head → first ≡ opened places.Input names.input old
    → Took n (λ left. (n ≤ length left) × HeadIs head n left) first second → AtHead names head n old second
head_read names head n old first second allowed is t = record {
  allowed = allowed;
  change = t.change ∙ ap (took places.Input n) is;
  told = subst (λ (s : Seen). IfSome s.input.bytes (HeadIs head n)) is (of_both (λ left. n ≤ length left) (HeadIs head n) first.input.bytes t.content);
}

-- reading the head failed
head_unread : (names : Names) (s : Settings) (old first new : Seen) → first ≡ opened places.Input names.input old → ReadFailed first new → ReadFault names s old new
head_unread names s old first new is failed = in_head failed.0 (subst (λ (x : Seen). LaterFailed places.Input (took places.Input failed.0 x) new) is failed.1)

-- there is no head
no_head_there : (names : Names) (s : Settings) (fault : HeadFault) (old first new : Seen) → first ≡ opened places.Input names.input old → TookSome (λ left. read_head left ≡ Err fault) first new → NoFilm names s (faults.Head fault) old new
no_head_there names s fault old first new is t =
    no_head t.0 (t.1.change ∙ ap (took places.Input t.0) is) (told_no_head fault old.input.bytes (subst (λ (x : Seen). IfSome x.input.bytes (λ left. read_head left ≡ Err fault)) is t.1.content))

-- one of the two
pub head_stopped : (names : Names) (s : Settings) (old first new : Seen) (end : EncodeEnd) → first ≡ opened places.Input names.input old → (fault : HeadFault) → end ≡ head_end fault
    → (fault ≡ heads.ReadFault → LineUnread first new) → (fault ≢ heads.ReadFault → TookSome (λ left. read_head left ≡ Err fault) first new) → Leaves names s old new (Err end)
head_stopped names s old first new end is fault ends unread broken = subst (λ (e : EncodeEnd). Leaves names s old new (Err e)) (sym ends) (by fault unread broken)
  where
    by : (f : HeadFault) → (f ≡ heads.ReadFault → LineUnread first new) → (f ≢ heads.ReadFault → TookSome (λ left. read_head left ≡ Err f) first new) → Leaves names s old new (Err (head_end f))
    by heads.ReadFault unread broken = let u = unread refl in head_unread names s old first new is (u.count, u.failed)
    by heads.NotY4m unread broken = no_head_there names s heads.NotY4m old first new is (broken (λ e. cc))
    by heads.LongLine unread broken = no_head_there names s heads.LongLine old first new is (broken (λ e. cc))
    by heads.BadNumber unread broken = no_head_there names s heads.BadNumber old first new is (broken (λ e. cc))
    by heads.Chroma unread broken = no_head_there names s heads.Chroma old first new is (broken (λ e. cc))
    by heads.Interlace unread broken = no_head_there names s heads.Interlace old first new is (broken (λ e. cc))
    by heads.Missing unread broken = no_head_there names s heads.Missing old first new is (broken (λ e. cc))
    by heads.Size unread broken = no_head_there names s heads.Size old first new is (broken (λ e. cc))
    by heads.OddSize unread broken = no_head_there names s heads.OddSize old first new is (broken (λ e. cc))

-- ---- a session

setting_so : (s : Settings) (h : FilmHead) (r : Result SessionSettings SettingFault) → early_of s ≡ None → completed s h ≡ r → setting_of s h ≡ r
setting_so s h r early is = ap (λ (o : Option SettingFault). unless_early o (completed s h)) early ∙ is

pub settles : (s : Settings) (h : FilmHead) (f : SessionSettings) → completed s h ≡ Ok f → Settles s h f
settles s h f is = let c = completes s h f is in c.settled_is ∙ ap (λ (l : ℕ). settled s h l) (sym (ap (λ (g : SessionSettings). g.level) c.settled_is))

pub session_refused : (names : Names) (s : Settings) (head : FilmHead) (n : ℕ) (old mid : Seen) (end : OpenEnd) (e : EncodeEnd) → AtHead names head n old mid → early_of s ≡ None → e ≡ open_end end
    → ((fault : SettingFault) → end ≡ opens.Setting fault → completed s head ≡ Err fault) → Leaves names s old mid (Err e)
session_refused names s head n old mid end e r early is refused = subst (λ (x : EncodeEnd). Leaves names s old mid (Err x)) (sym is) (by end refused)
  where
    by : (x : OpenEnd) → ((fault : SettingFault) → x ≡ opens.Setting fault → completed s head ≡ Err fault) → Leaves names s old mid (Err (open_end x))
    by (opens.Setting fault) so = record { count = n; head = head; refused = setting_so s head (Err fault) early (so fault refl); now = r.change; told = r.told }
    by opens.OutOfMemory so = record { count = n; head = head; now = r.change; told = r.told }

-- the settings fit the head
pub record Fitted (names : Names) (s : Settings) (head : FilmHead) (f : SessionSettings) (n : ℕ) (old mid : Seen) : Type 0 where
  pub allowed : AllowedHead head
  pub setting_is : setting_of s head ≡ Ok f
  pub change : mid ≡ reading names n old
  pub told : IfSome old.input.bytes (HeadIs head n)

pub fitted : (names : Names) (s : Settings) (head : FilmHead) (f : SessionSettings) (n : ℕ) (old mid : Seen) → AtHead names head n old mid → early_of s ≡ None → completed s head ≡ Ok f → Fitted names s head f n old mid
fitted names s head f n old mid r early is = record { allowed = r.allowed; setting_is = setting_so s head (Ok f) early is; change = r.change; told = r.told }

fits_so : (names : Names) (s : Settings) (head : FilmHead) (f : SessionSettings) (n : ℕ) (old mid : Seen) → Fitted names s head f n old mid → SettingsFit names s old mid
fits_so names s head f n old mid r = record { count = n; head = head; settings = f; setting_is = r.setting_is; now = r.change; told = r.told }

pub unopened : (names : Names) (s : Settings) (head : FilmHead) (f : SessionSettings) (n : ℕ) (old mid new : Seen) (end : EncodeEnd) → Fitted names s head f n old mid → OutputsOpened names mid new (Err end) → Leaves names s old new (Err end)
unopened names s head f n old mid new (Open places.Input) r failed = absurd failed
unopened names s head f n old mid new (Open (places.Output Stream)) r failed = (mid, fits_so names s head f n old mid r, failed)
unopened names s head f n old mid new (Open (places.Output Recon)) r failed = (mid, fits_so names s head f n old mid r, failed)
unopened names s head f n old mid new (Open (places.Output Report)) r failed = (mid, fits_so names s head f n old mid r, failed)
unopened names s head f n old mid new Read r failed = absurd failed
unopened names s head f n old mid new (Write out) r failed = absurd failed
unopened names s head f n old mid new (Input fault) r failed = absurd failed
unopened names s head f n old mid new (Setting fault) r failed = absurd failed
unopened names s head f n old mid new (Buffer picture need have) r failed = absurd failed
unopened names s head f n old mid new OutOfMemory r failed = absurd failed

-- ---- all places are open

pub record Begun (names : Names) (s : Settings) (head : FilmHead) (f : SessionSettings) (n : ℕ) (old mid : Seen) : Type 0 where
  pub range : AreInRange s
  pub allowed : AllowedHead head
  pub setting_is : setting_of s head ≡ Ok f
  pub change : mid ≡ all_open names (reading names n old)
  pub told : IfSome old.input.bytes (HeadIs head n)

pub begun : (names : Names) (s : Settings) (head : FilmHead) (f : SessionSettings) (n : ℕ) (old read mid : Seen) → AreInRange s → Fitted names s head f n old read → mid ≡ all_open names read → Begun names s head f n old mid
begun names s head f n old read mid range r is = record { range = range; allowed = r.allowed; setting_is = r.setting_is; change = is ∙ ap (λ (x : Seen). all_open names x) r.change; told = r.told }

-- what was written, from the start on
from_start : (names : Names) (s : Settings) (head : FilmHead) (f : SessionSettings) (n m : ℕ) (o : Outputs) (old mid last : Seen) → Begun names s head f n old mid → last ≡ put o m mid → last ≡ encoded_to names o (n + m) old
from_start names s head f n m o old mid last b is =
    is ∙ ap (λ (x : Seen). put o m x) b.change ∙ ap (λ (x : Seen). added o (all_open names x)) (took_more n m (opened places.Input names.input old))

-- what is told of the bytes behind the head
behind : (names : Names) (s : Settings) (head : FilmHead) (f : SessionSettings) (n : ℕ) (old mid : Seen) (P : List ℕ → Type 0) → Begun names s head f n old mid → IfSome mid.input.bytes P → IfSome (option_map (drop n) old.input.bytes) P
behind names s head f n old mid P b told = subst (λ (x : Seen). IfSome x.input.bytes P) b.change told

-- what is told of the film
film_told : (head : FilmHead) (n : ℕ) (P : List ℕ → Type 0) (Q : Film → Type 0) (o : Option (List ℕ)) → ((left : List ℕ) → P left → Q (film_from (Ok (head, left)))) → IfSome o (HeadIs head n) → IfSome (option_map (drop n) o) P → IfSome o (λ left. Q (film_of left))
film_told head n P Q None turn is told = tt
film_told head n P Q (Some left) turn is told = subst Q (sym (film_is head n left is)) (turn (drop n left) told)

unread : (names : Names) (s : Settings) (head : FilmHead) (f : SessionSettings) (n : ℕ) (old mid new : Seen) → Begun names s head f n old mid → GroupUnread head f mid new → ReadFault names s old new
unread names s head f n old mid new b u =
    in_group (n + u.count) u.groups u.between
    (record {
      head = head;
      settings = f;
      pictures = u.pictures;
      setting_is = b.setting_is;
      size = u.coded.size;
      none_refused = u.coded.none_refused;
      now = from_start names s head f n u.count (written_to f (encoding f u.pictures).done) old mid u.between b u.coded.change;
      buffer = keeps_buffer s head f u.pictures b.range b.allowed b.setting_is u.coded.are.are u.coded.are.few;
      whole = n + u.coded.whole;
      within = also n u.coded.whole u.count u.coded.within;
      told = told_taken head n u.coded.whole u.pictures old.input.bytes b.told (behind names s head f n old mid (PicturesTaken head u.coded.whole u.pictures) b u.coded.told);
    })
    u.failed
  where
    also : (a c d : ℕ) → c ≤ d → a + c ≤ a + d
    also a c d h = omega arith

broken : (names : Names) (s : Settings) (head : FilmHead) (f : SessionSettings) (n : ℕ) (fault : InputFault) (old mid new : Seen) → Begun names s head f n old mid → FilmBroken head f fault mid new → NoFilm names s fault old new
broken names s head f n fault old mid new b u =
    cut_short (record {
      count = n + u.count;
      head = head;
      settings = f;
      groups = u.groups;
      pictures = u.pictures;
      setting_is = b.setting_is;
      size = u.size;
      none_refused = u.none_refused;
      now = from_start names s head f n u.count (written_to f (encoding f u.pictures).done) old mid new b u.change;
      buffer = keeps_buffer s head f u.pictures b.range b.allowed b.setting_is u.are.are u.are.few;
      told = film_told head n (λ left. ((pictures_of most_pictures head left).1 ≡ Faulty fault) × (coded_by f (Faulty fault) (pictures_of most_pictures head left).0 ≡ u.pictures))
          (λ (film : Film). (film.head ≡ Some head) × (film.end ≡ Faulty fault) × (coded_pictures f film ≡ u.pictures)) old.input.bytes
          (λ left t. (refl, t.0, ap (λ (e : FilmEnd). coded_by f e (pictures_of most_pictures head left).0) t.0 ∙ t.1)) b.told
          (behind names s head f n old mid (λ left. ((pictures_of most_pictures head left).1 ≡ Faulty fault) × (coded_by f (Faulty fault) (pictures_of most_pictures head left).0 ≡ u.pictures)) b u.told);
    })

refused : (names : Names) (s : Settings) (head : FilmHead) (f : SessionSettings) (n : ℕ) (r : Refusal) (old mid new : Seen) → Begun names s head f n old mid → PictureRefused head f r mid new → Refused names s r old new
refused names s head f n r old mid new b u = record {
  count = n + u.count;
  head = head;
  settings = f;
  pictures = u.pictures;
  setting_is = b.setting_is;
  refused = u.refused;
  now = from_start names s head f n u.count (written_to f (encoding f u.pictures).done) old mid new b u.change;
  buffer = keeps_buffer s head f u.pictures b.range b.allowed b.setting_is u.are.are u.are.few;
  told = film_told head n (λ left. encoding f (coded_by f (pictures_of most_pictures head left).1 (pictures_of most_pictures head left).0) ≡ encoding f u.pictures)
      (λ (film : Film). (film.head ≡ Some head) × (encoding f (coded_pictures f film) ≡ encoding f u.pictures)) old.input.bytes (λ left t. (refl, t)) b.told
      (behind names s head f n old mid (λ left. encoding f (coded_by f (pictures_of most_pictures head left).1 (pictures_of most_pictures head left).0) ≡ encoding f u.pictures) b u.told);
}

unwritten : (names : Names) (s : Settings) (head : FilmHead) (f : SessionSettings) (n : ℕ) (out : Out) (old mid new : Seen) → Begun names s head f n old mid → OutputCut head f out mid new → WriteFault names s out old new
unwritten names s head f n out old mid new b u =
    cut (record {
      count = n + u.count;
      head = head;
      settings = f;
      pictures = u.pictures;
      setting_is = b.setting_is;
      written = u.written;
      fronts = u.fronts;
      buffer = keeps_buffer s head f u.pictures b.range b.allowed b.setting_is u.are.are u.are.few;
      failed = subst (λ (x : Seen). LaterFailed (places.Output out) x new) (from_start names s head f n u.count u.written old mid (put u.written u.count mid) b refl) u.failed;
      told = film_told head n (λ left. AreFronts u.written (outputs_by f (pictures_of most_pictures head left))) (λ (film : Film). (film.head ≡ Some head) × AreFronts u.written (outputs_of f film)) old.input.bytes (λ left t. (refl, t)) b.told
          (behind names s head f n old mid (λ left. AreFronts u.written (outputs_by f (pictures_of most_pictures head left))) b u.told);
    })

-- not all was encoded
pub stopped : (names : Names) (s : Settings) (head : FilmHead) (f : SessionSettings) (n : ℕ) (old mid new : Seen) (end : EncodeEnd) → Begun names s head f n old mid → PicturesLeft head f mid new (Err end) → Leaves names s old new (Err end)
stopped names s head f n old mid new (Open place) b l = absurd l
stopped names s head f n old mid new Read b l = unread names s head f n old mid new b l
stopped names s head f n old mid new (Write out) b l = unwritten names s head f n out old mid new b l
stopped names s head f n old mid new (Input fault) b l = broken names s head f n fault old mid new b l
stopped names s head f n old mid new (Setting fault) b l = absurd l
stopped names s head f n old mid new (Buffer picture need have) b l = refused names s head f n (record { picture = picture; need = need; have = have }) old mid new b l
stopped names s head f n old mid new OutOfMemory b l = absurd l

-- ---- closing

all_encoded : (names : Names) (s : Settings) (head : FilmHead) (f : SessionSettings) (n : ℕ) (old mid last : Seen) → Begun names s head f n old mid → AllWritten head f mid last → AllEncoded names s old last
all_encoded names s head f n old mid last b a = record {
  count = n + a.count;
  head = head;
  settings = f;
  pictures = a.pictures;
  setting_is = b.setting_is;
  keeps = keeps_promises s head f a.pictures b.range b.allowed b.setting_is a.are.are a.are.few a.none_refused;
  now = from_start names s head f n a.count (written_whole f (encoding f a.pictures).done) old mid last b a.change;
  whole = told_both (λ left. drop (n + a.count) left ≡ []) (λ left. IsFilm left head a.pictures Ended) old.input.bytes
      (told_none head n a.count old.input.bytes b.told (behind names s head f n old mid (λ left. drop a.count left ≡ []) b (ended mid.input.bytes a.told)))
      (told_film head n a.pictures Ended old.input.bytes b.told (behind names s head f n old mid (λ left. pictures_of most_pictures head left ≡ (a.pictures, Ended)) b (are mid.input.bytes a.told)));
}
  where
    ended : (o : Option (List ℕ)) → IfSome o (λ left. (pictures_of most_pictures head left ≡ (a.pictures, Ended)) × (drop a.count left ≡ [])) → IfSome o (λ left. drop a.count left ≡ [])
    ended None t = tt
    ended (Some left) t = t.1

    are : (o : Option (List ℕ)) → IfSome o (λ left. (pictures_of most_pictures head left ≡ (a.pictures, Ended)) × (drop a.count left ≡ [])) → IfSome o (λ left. pictures_of most_pictures head left ≡ (a.pictures, Ended))
    are None t = tt
    are (Some left) t = t.0

encoded_so : (names : Names) (s : Settings) (old mid new : Seen) → AllEncoded names s old mid → new ≡ all_shut mid → Encoded names s old new
encoded_so names s old mid new a is = record {
  count = a.count;
  head = a.head;
  settings = a.settings;
  pictures = a.pictures;
  setting_is = a.setting_is;
  keeps = a.keeps;
  closed = is ∙ ap (λ (x : Seen). all_shut x) a.now;
  whole = a.whole;
}

-- all pictures were encoded, and the outputs were to be closed
pub closed : (names : Names) (s : Settings) (head : FilmHead) (f : SessionSettings) (n : ℕ) (old mid last new : Seen) (r : Result (Unit {0}) EncodeEnd) → Begun names s head f n old mid → AllWritten head f mid last → OutputsClosed last new r → Leaves names s old new r
closed names s head f n old mid last new (Ok done) b a l = encoded_so names s old last new (all_encoded names s head f n old mid last b a) l
closed names s head f n old mid last new (Err (Write out)) b a l = closing last (all_encoded names s head f n old mid last b a) l
closed names s head f n old mid last new (Err (Open place)) b a l = absurd l
closed names s head f n old mid last new (Err Read) b a l = absurd l
closed names s head f n old mid last new (Err (Input fault)) b a l = absurd l
closed names s head f n old mid last new (Err (Setting fault)) b a l = absurd l
closed names s head f n old mid last new (Err (Buffer picture need have)) b a l = absurd l
closed names s head f n old mid last new (Err OutOfMemory) b a l = absurd l
