use Rattle.std.proofs.Common.{◌≡◌, ◌∙◌, ap, map, subst, sym, List, ℕ, Result, Err}
use Rattle.spec_words.specs.declared.command.Command.{Command}
use Rattle.spec_words.specs.declared.command.Command.TheVariants.{Store, Encode, Trial}
use Rattle.spec_words.specs.declared.command.WordsEnd.{WordsEnd}
use Rattle.spec_words.specs.Commands.{Answers, Meaning, Means, meaning_of}
use Rattle.store_film.specs.Leaving.{Leaves}
use Rattle.encode_cli.specs.Doing.{Does}
use Rattle.encode_cli.proofs.Leaving.{stored_left}
use Rattle.encode_cli.proofs.Meanings.{faulted, means_in_range, meant, unread}
use Rattle.encode_cli.proofs.run.answer.Goals as goal

pub encode_named-requires-clause-range : goal.encode_named-requires-clause-range
encode_named-requires-clause-range g c κs within =
    let words = map (λ w. w.now) c.args.words.now in
    means_in_range words (Encode c.in-Ok-Encode.input c.in-Ok-Encode.outputs c.in-Ok-Encode.settings)
    (meant (meaning_of words) c.in-Ok-Encode.field-0 c.in-Ok-Encode.ensures ∙ ap (λ (x : Command). Means x) c.in-Ok-Encode.field-0-is)

pub encode_made-requires-clause-range : goal.encode_made-requires-clause-range
encode_made-requires-clause-range g c κs within =
    let words = map (λ w. w.now) c.args.words.now in
    (means_in_range words (Trial c.in-Ok-Trial.made c.in-Ok-Trial.outputs c.in-Ok-Trial.settings)
    (meant (meaning_of words) c.in-Ok-Trial.field-0 c.in-Ok-Trial.ensures ∙ ap (λ (x : Command). Means x) c.in-Ok-Trial.field-0-is)).1

pub encode_made-requires-clause-width : goal.encode_made-requires-clause-width
encode_made-requires-clause-width g c κs within =
    let words = map (λ w. w.now) c.args.words.now in
    (means_in_range words (Trial c.in-Ok-Trial.made c.in-Ok-Trial.outputs c.in-Ok-Trial.settings)
    (meant (meaning_of words) c.in-Ok-Trial.field-0 c.in-Ok-Trial.ensures ∙ ap (λ (x : Command). Means x) c.in-Ok-Trial.field-0-is)).0.width

pub encode_made-requires-clause-height : goal.encode_made-requires-clause-height
encode_made-requires-clause-height g c κs within =
    let words = map (λ w. w.now) c.args.words.now in
    (means_in_range words (Trial c.in-Ok-Trial.made c.in-Ok-Trial.outputs c.in-Ok-Trial.settings)
    (meant (meaning_of words) c.in-Ok-Trial.field-0 c.in-Ok-Trial.ensures ∙ ap (λ (x : Command). Means x) c.in-Ok-Trial.field-0-is)).0.height

pub encode_made-requires-clause-count : goal.encode_made-requires-clause-count
encode_made-requires-clause-count g c κs within =
    let words = map (λ w. w.now) c.args.words.now in
    (means_in_range words (Trial c.in-Ok-Trial.made c.in-Ok-Trial.outputs c.in-Ok-Trial.settings)
    (meant (meaning_of words) c.in-Ok-Trial.field-0 c.in-Ok-Trial.ensures ∙ ap (λ (x : Command). Means x) c.in-Ok-Trial.field-0-is)).0.count

pub returns-in-Ok-Store : goal.returns-in-Ok-Store
returns-in-Ok-Store g c =
    let seen = g.S.Studio.seen in
    let m = meaning_of (map (λ w. w.now) c.args.words.now) in
    let is = meant m c.in-Ok-Store.field-0 c.in-Ok-Store.ensures ∙ ap (λ (x : Command). Means x) c.in-Ok-Store.field-0-is in
    let input = subst (λ (x : List ℕ). Leaves x c.as_str-in-Ok-Store.result.now (seen c.args.studio.now) (seen c.store.new.studio) c.store.result) c.as_str.ensures c.store.ensures in
    let both = subst (λ (x : List ℕ). Leaves c.in-Ok-Store.input x (seen c.args.studio.now) (seen c.store.new.studio) c.store.result) c.as_str-in-Ok-Store.ensures input in
    subst (λ (x : Meaning). Does x (seen c.args.studio.now) (seen c.store.new.studio) c.stored_outcome.result) (sym is)
    (stored_left c.in-Ok-Store.input c.in-Ok-Store.output (seen c.args.studio.now) (seen c.store.new.studio) c.store.result c.stored_outcome.result c.stored_outcome.ensures both)

pub returns-in-Ok-Encode : goal.returns-in-Ok-Encode
returns-in-Ok-Encode g c =
    let seen = g.S.Studio.seen in
    let m = meaning_of (map (λ w. w.now) c.args.words.now) in
    let is = meant m c.in-Ok-Encode.field-0 c.in-Ok-Encode.ensures ∙ ap (λ (x : Command). Means x) c.in-Ok-Encode.field-0-is in
    subst (λ (x : Meaning). Does x (seen c.args.studio.now) (seen c.encode_named.new.studio) c.encode_named.result) (sym is) (c.encode_named.ensures.left, c.encode_named.ensures.decided)

pub returns-in-Ok-Trial : goal.returns-in-Ok-Trial
returns-in-Ok-Trial g c =
    let seen = g.S.Studio.seen in
    let m = meaning_of (map (λ w. w.now) c.args.words.now) in
    let is = meant m c.in-Ok-Trial.field-0 c.in-Ok-Trial.ensures ∙ ap (λ (x : Command). Means x) c.in-Ok-Trial.field-0-is in
    subst (λ (x : Meaning). Does x (seen c.args.studio.now) (seen c.encode_made.new.studio) c.encode_made.result) (sym is) (c.encode_made.ensures.left, c.encode_made.ensures.decided)

pub returns-in-Err-Fault : goal.returns-in-Err-Fault
returns-in-Err-Fault g c =
    let seen = g.S.Studio.seen in
    let m = meaning_of (map (λ w. w.now) c.args.words.now) in
    faulted m c.in-Err-Fault.fault (seen c.args.studio.now) (subst (λ (x : WordsEnd). Answers m (Err x)) c.in-Err-Fault.field-0-is c.in-Err-Fault.ensures)

pub returns-in-Err-OutOfMemory : goal.returns-in-Err-OutOfMemory
returns-in-Err-OutOfMemory g c =
    let seen = g.S.Studio.seen in
    let m = meaning_of (map (λ w. w.now) c.args.words.now) in
    unread m (seen c.args.studio.now) (subst (λ (x : WordsEnd). Answers m (Err x)) c.in-Err-OutOfMemory.field-0-is c.in-Err-OutOfMemory.ensures)
