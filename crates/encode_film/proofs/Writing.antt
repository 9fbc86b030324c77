-- What is written, part by part.
use Rattle.std.proofs.Common.{ℕ, ◌≡◌, ◌+◌, ◌++◌, List, [], take, drop, Result, Ok, Err, refl, ap, sym, ◌∙◌, subst, append-nil, append_assoc}
use Rattle.std.proofs.lemmas.List.{take-append-drop}
use Rattle.enc_edge.specs.declared.studio.Out.{Out}
use Rattle.enc_edge.specs.declared.studio.Out.TheVariants.{Stream, Recon, Report}
use Rattle.enc_edge.specs.declared.studio.Place.TheVariants as places
use Rattle.enc_edge.specs.Seen.{Seen, Spot}
use Rattle.enc_edge.specs.Calls.{LaterFailed, took, wrote}
use Rattle.enc_edge.proofs.Spots.{wrote_none, wrote_more, took_more, took_none}
use Rattle.y4m_film.specs.Writes.{FrontWritten}
use Rattle.spec_film.specs.declared.FilmHead.{FilmHead}
use Rattle.spec_film.specs.Written.{head_text, film_text}
use Rattle.spec_words.specs.declared.command.Settings.{Settings}
use Rattle.spec_report.specs.declared.ReportHead.{ReportHead}
use Rattle.spec_report.specs.Lines.{head_line}
use Rattle.spec_pictures.specs.Accesses.{accesses_bytes}
use Rattle.spec_coding.specs.Encoding.{placed_all}
use Rattle.spec_coding.specs.Report.{picture_lines}
use Rattle.spec_session.specs.Settings.{SessionSettings, settled}
use Rattle.spec_session.specs.Encodings.{report_head}
use Rattle.spec_session.specs.Outputs.{Outputs, IsFront, AreFronts, joined, written_to}
use Rattle.enc_session.specs.Left.{added, CutShort}
use Rattle.encode_film.specs.declared.ends.EncodeEnd.{EncodeEnd}
use Rattle.encode_film.specs.declared.ends.EncodeEnd.TheVariants as ends
use Rattle.encode_film.specs.Calls.{Settles, TextWritten}
use Rattle.encode_film.specs.Lines.{line_alone}
use Rattle.encode_film.specs.Outputs.{put}

-- ---- parts

same_spots : (s : Seen) (a b c d e g : Spot) → a ≡ b → c ≡ d → e ≡ g
    → (let x : Seen = record s { stream = a; recon = c; report = e } in let y : Seen = record s { stream = b; recon = d; report = g } in x ≡ y)
same_spots s a b c d e g e1 e2 e3 = rw (e1, e2, e3) refl

pub added_both : (a b : Outputs) (s : Seen) → added b (added a s) ≡ added (joined a b) s
added_both a b s =
    same_spots s
    (wrote (places.Output Stream) b.stream (wrote (places.Output Stream) a.stream s)).stream (wrote (places.Output Stream) (a.stream ++ b.stream) s).stream
    (wrote (places.Output Recon) b.recon (wrote (places.Output Recon) a.recon s)).recon (wrote (places.Output Recon) (a.recon ++ b.recon) s).recon
    (wrote (places.Output Report) b.report (wrote (places.Output Report) a.report s)).report (wrote (places.Output Report) (a.report ++ b.report) s).report
    (ap (λ (t : Seen). t.stream) (wrote_more (places.Output Stream) a.stream b.stream s))
    (ap (λ (t : Seen). t.recon) (wrote_more (places.Output Recon) a.recon b.recon s))
    (ap (λ (t : Seen). t.report) (wrote_more (places.Output Report) a.report b.report s))

-- one output alone
pub recon_alone : List ℕ → Outputs
recon_alone text = record { stream = []; recon = text; report = [] }

pub added_recon : (text : List ℕ) (s : Seen) → wrote (places.Output Recon) text s ≡ added (recon_alone text) s
unfolding recon_alone
added_recon text s =
    ap (wrote (places.Output Recon) text) (sym (ap (wrote (places.Output Report) []) (wrote_none (places.Output Stream) s) ∙ wrote_none (places.Output Report) s))

pub added_line : (line : List ℕ) (s : Seen) → wrote (places.Output Report) line s ≡ added (line_alone line) s
added_line line s =
    sym (wrote_none (places.Output Recon) (wrote (places.Output Report) line (wrote (places.Output Stream) [] s)) ∙ ap (wrote (places.Output Report) line) (wrote_none (places.Output Stream) s))

-- more bytes are taken behind what was written
pub put_then : (o : Outputs) (n m : ℕ) (s : Seen) → took places.Input m (put o n s) ≡ put o (n + m) s
put_then o n m s = ap (λ (t : Seen). added o t) (took_more n m s)

pub put_more : (a b : Outputs) (n : ℕ) (s : Seen) → added b (put a n s) ≡ put (joined a b) n s
put_more a b n s = added_both a b (took places.Input n s)

pub put_none : (o : Outputs) (s : Seen) → added o s ≡ put o 0 s
put_none o s = ap (λ (t : Seen). added o t) (sym (took_none s))

-- ---- fronts

front_behind : (xs ys zs : List ℕ) → IsFront ys zs → IsFront (xs ++ ys) (xs ++ zs)
front_behind xs ys zs front = (front.0, append_assoc xs ys front.0 ∙ ap (λ (rest : List ℕ). xs ++ rest) front.1)

pub fronts_joined : (a w d : Outputs) → AreFronts w d → AreFronts (joined a w) (joined a d)
fronts_joined a w d fronts = record {
  stream = front_behind a.stream w.stream d.stream fronts.stream;
  recon = front_behind a.recon w.recon d.recon fronts.recon;
  report = front_behind a.report w.report d.report fronts.report;
}

none_in : (xs : List ℕ) → IsFront [] xs
none_in xs = (xs, refl)

take_in : (n : ℕ) (xs : List ℕ) → IsFront (take n xs) xs
take_in n xs = (drop n xs, take-append-drop n xs)

-- a write failed behind something that was written
pub cut_joined : (a d : Outputs) (out : Out) (old mid new : Seen) → mid ≡ added a old → CutShort out d mid new → CutShort out (joined a d) old new
cut_joined a d out old mid new is cut = record {
  written = joined a cut.written;
  fronts = fronts_joined a cut.written d cut.fronts;
  failed = subst (λ (s : Seen). LaterFailed (places.Output out) s new) (ap (added cut.written) is ∙ added_both a cut.written old) cut.failed;
}

pub text_joined : (a d : Outputs) (old mid new : Seen) (r : Result (Unit {0}) EncodeEnd) → mid ≡ added a old → TextWritten d mid new r → TextWritten (joined a d) old new r
text_joined a d old mid new (Ok done) is text = text ∙ ap (added d) is ∙ added_both a d old
text_joined a d old mid new (Err (ends.Write out)) is text = cut_joined a d out old mid new is text
text_joined a d old mid new (Err (ends.Open place)) is text = absurd text
text_joined a d old mid new (Err ends.Read) is text = absurd text
text_joined a d old mid new (Err (ends.Input fault)) is text = absurd text
text_joined a d old mid new (Err (ends.Setting fault)) is text = absurd text
text_joined a d old mid new (Err (ends.Buffer picture need have)) is text = absurd text
text_joined a d old mid new (Err ends.OutOfMemory) is text = absurd text

-- ---- lines and heads

pub line_cut : (line : List ℕ) (n : ℕ) (old new : Seen) → LaterFailed (places.Output Report) (wrote (places.Output Report) (take n line) old) new → CutShort Report (line_alone line) old new
line_cut line n old new failed = record {
  written = line_alone (take n line);
  fronts = record { stream = none_in []; recon = none_in []; report = take_in n line };
  failed = subst (λ (s : Seen). LaterFailed (places.Output Report) s new) (added_line (take n line) old) failed;
}

start_text : SessionSettings → Outputs
start_text f = record { stream = []; recon = head_text f.head; report = head_line (report_head f) }

start_is : (f : SessionSettings) → written_to f [] ≡ start_text f
unfolding accesses_bytes placed_all film_text picture_lines start_text
start_is f = outputs_are (append-nil (head_text f.head)) (append-nil (head_line (report_head f)))
  where
    outputs_are : {a b c d : List ℕ} → a ≡ b → c ≡ d → (let x : Outputs = record { stream = []; recon = a; report = c } in let y : Outputs = record { stream = []; recon = b; report = d } in x ≡ y)
    outputs_are e1 e2 = rw (e1, e2) refl

head_of : (s : Settings) (h : FilmHead) (f : SessionSettings) → Settles s h f → f.head ≡ h
head_of s h f is = ap (λ (g : SessionSettings). g.head) is

pub head_cut : (s : Settings) (h : FilmHead) (f : SessionSettings) (old new : Seen) → Settles s h f → FrontWritten Recon (head_text h) old new → CutShort Recon (written_to f []) old new
unfolding start_text recon_alone
head_cut s h f old new is front =
    subst (λ (o : Outputs). CutShort Recon o old new) (sym (start_is f))
    (record {
      written = recon_alone (take front.count (head_text h));
      fronts = record { stream = none_in []; recon = subst (λ (g : FilmHead). IsFront (take front.count (head_text h)) (head_text g)) (sym (head_of s h f is)) (take_in front.count (head_text h)); report = none_in (head_line (report_head f)) };
      failed = subst (λ (t : Seen). LaterFailed (places.Output Recon) t new) (added_recon (take front.count (head_text h)) old) front.failed;
    })

pub heads_written : (s : Settings) (h : FilmHead) (f : SessionSettings) (level : ℕ) (line bytes : List ℕ) (old mid new : Seen) (r : Result (Unit {0}) EncodeEnd) → Settles s h f → level ≡ f.level
    → line ≡ head_line (record { rate = s.rate; cpb = s.cpb; delay = s.delay; level = level; slices = s.slices }) → bytes ≡ line → mid ≡ wrote (places.Output Recon) (head_text h) old → TextWritten (line_alone bytes) mid new r
    → TextWritten (written_to f []) old new r
unfolding start_text recon_alone
heads_written s h f level line bytes old mid new r is levels lines shown wrote_head text =
    subst (λ (o : Outputs). TextWritten o old new r)
    (outputs_are (append-nil (head_text h) ∙ ap (λ (g : FilmHead). head_text g) (sym (head_of s h f is))) (shown ∙ lines ∙ ap (λ (x : ReportHead). head_line x) (head_is ∙ ap (λ (g : SessionSettings). report_head g) (sym is))) ∙ sym (start_is f))
    (text_joined (recon_alone (head_text h)) (line_alone bytes) old mid new r (wrote_head ∙ added_recon (head_text h) old) text)
  where
    outputs_are : {a b c d : List ℕ} → a ≡ b → c ≡ d → (let x : Outputs = record { stream = []; recon = a; report = c } in let y : Outputs = record { stream = []; recon = b; report = d } in x ≡ y)
    outputs_are e1 e2 = rw (e1, e2) refl

    head_is : (let x : ReportHead = record { rate = s.rate; cpb = s.cpb; delay = s.delay; level = level; slices = s.slices } in x ≡ report_head (settled s h f.level))
    head_is = ap (λ (l : ℕ). let x : ReportHead = record { rate = s.rate; cpb = s.cpb; delay = s.delay; level = l; slices = s.slices } in x) levels
