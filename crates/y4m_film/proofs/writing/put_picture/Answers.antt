use Rattle.std.proofs.Common.{◌≡◌, List, ℕ, ◌++◌, ◌/◌, ap, subst, ◌∙◌}
use Rattle.picture_planes.specs.Samples.{samples_of}
use Rattle.spec_film.specs.Cropping.{cropped_plane}
use Rattle.spec_film.specs.Written.{frame_line, picture_text}
use Rattle.enc_edge.specs.declared.studio.Place.TheVariants.{Output}
use Rattle.enc_edge.specs.Calls.{wrote}
use Rattle.y4m_film.specs.Waits.{waits}
use Rattle.y4m_film.specs.Writes.{FrontWritten}
use Rattle.y4m_film.proofs.LineBytes.{if_err, err_then, ok_then}
use Rattle.y4m_film.proofs.Appending.{gathered_all, gathered_failed, shown_is}
use Rattle.y4m_film.proofs.writing.put_picture.Goals as goal

pub returns-in_err-put_planes-clause-err : goal.returns-in_err-put_planes-clause-err
unfolding picture_text
returns-in_err-put_planes-clause-err g c =
    let seen = g.S.Studio.seen in
    let line : waits c.add.new.self ≡ frame_line = c.add.ensures.bytes ∙ ap (λ xs. xs ++ frame_line) c.new-waiting.ensures.bytes in
    if_err c.from_residual.result
    (subst (λ (xs : List ℕ). FrontWritten c.args.out (frame_line ++ xs) (seen c.args.studio.now) (seen c.put_planes.new.studio)) (shown_is c.args.head.now c.args.picture.now c.requires.sizes)
    (subst (λ (xs : List ℕ). FrontWritten c.args.out (xs ++ (cropped_plane c.args.picture.now.y.width c.args.head.now.width c.args.head.now.height (samples_of c.args.picture.now.y) ++ (cropped_plane c.args.picture.now.cb.width (c.args.head.now.width / 2) (c.args.head.now.height / 2) (samples_of c.args.picture.now.cb) ++ cropped_plane c.args.picture.now.cr.width (c.args.head.now.width / 2) (c.args.head.now.height / 2) (samples_of c.args.picture.now.cr)))) (seen c.args.studio.now) (seen c.put_planes.new.studio)) line c.in_err-put_planes.ensures.err))

pub returns-clause-err : goal.returns-clause-err
unfolding picture_text
returns-clause-err g c =
    let seen = g.S.Studio.seen in
    let line : waits c.add.new.self ≡ frame_line = c.add.ensures.bytes ∙ ap (λ xs. xs ++ frame_line) c.new-waiting.ensures.bytes in
    err_then c.put.result
    (λ f. subst (λ (xs : List ℕ). FrontWritten c.args.out (frame_line ++ xs) (seen c.args.studio.now) (seen c.put.new.studio)) (shown_is c.args.head.now c.args.picture.now c.requires.sizes)
    (subst (λ (xs : List ℕ). FrontWritten c.args.out (xs ++ (cropped_plane c.args.picture.now.y.width c.args.head.now.width c.args.head.now.height (samples_of c.args.picture.now.y) ++ (cropped_plane c.args.picture.now.cb.width (c.args.head.now.width / 2) (c.args.head.now.height / 2) (samples_of c.args.picture.now.cb) ++ cropped_plane c.args.picture.now.cr.width (c.args.head.now.width / 2) (c.args.head.now.height / 2) (samples_of c.args.picture.now.cr)))) (seen c.args.studio.now) (seen c.put.new.studio)) line
    (gathered_failed c.args.out (waits c.add.new.self) (cropped_plane c.args.picture.now.y.width c.args.head.now.width c.args.head.now.height (samples_of c.args.picture.now.y) ++ (cropped_plane c.args.picture.now.cb.width (c.args.head.now.width / 2) (c.args.head.now.height / 2) (samples_of c.args.picture.now.cb) ++ cropped_plane c.args.picture.now.cr.width (c.args.head.now.width / 2) (c.args.head.now.height / 2) (samples_of c.args.picture.now.cr))) (waits c.put_planes.new.waiting) (seen c.args.studio.now) (seen c.put_planes.new.studio) (seen c.put.new.studio) c.in_ok-put_planes.ensures.ok f)))
    c.put.ensures.err

pub returns-clause-ok : goal.returns-clause-ok
unfolding picture_text
returns-clause-ok g c =
    let seen = g.S.Studio.seen in
    let line : waits c.add.new.self ≡ frame_line = c.add.ensures.bytes ∙ ap (λ xs. xs ++ frame_line) c.new-waiting.ensures.bytes in
    ok_then c.put.result
    (λ w. gathered_all c.args.out (waits c.add.new.self) (cropped_plane c.args.picture.now.y.width c.args.head.now.width c.args.head.now.height (samples_of c.args.picture.now.y) ++ (cropped_plane c.args.picture.now.cb.width (c.args.head.now.width / 2) (c.args.head.now.height / 2) (samples_of c.args.picture.now.cb) ++ cropped_plane c.args.picture.now.cr.width (c.args.head.now.width / 2) (c.args.head.now.height / 2) (samples_of c.args.picture.now.cr))) (waits c.put_planes.new.waiting) (seen c.args.studio.now) (seen c.put_planes.new.studio) (seen c.put.new.studio) c.in_ok-put_planes.ensures.ok w
    ∙ ap (λ (xs : List ℕ). wrote (Output c.args.out) (xs ++ (cropped_plane c.args.picture.now.y.width c.args.head.now.width c.args.head.now.height (samples_of c.args.picture.now.y) ++ (cropped_plane c.args.picture.now.cb.width (c.args.head.now.width / 2) (c.args.head.now.height / 2) (samples_of c.args.picture.now.cb) ++ cropped_plane c.args.picture.now.cr.width (c.args.head.now.width / 2) (c.args.head.now.height / 2) (samples_of c.args.picture.now.cr)))) (seen c.args.studio.now)) line
    ∙ ap (λ (xs : List ℕ). wrote (Output c.args.out) (frame_line ++ xs) (seen c.args.studio.now)) (shown_is c.args.head.now c.args.picture.now c.requires.sizes))
    c.put.ensures.ok
