use Rattle.std.proofs.Common.{map}
use Rattle.spec_words.specs.Commands.{meaning_of}
use Rattle.encode_cli.proofs.Deciding.{are_refused, are_refused_by_clap, encode_answers, encode_left, store_answers, store_left, trial_answers, trial_input, trial_left, was_encoded, was_stored, was_tried, words_refused}
use Rattle.encode_cli.proofs.run.run.Goals as goal

pub returns-clause-words : goal.returns-clause-words
returns-clause-words g c = let seen = g.S.Studio.seen in words_refused (meaning_of (map (λ w. w.now) c.args.words.now)) (seen c.args.studio.now) (seen c.answer.new.studio) c.answer.result c.answer.ensures

pub returns-clause-refused : goal.returns-clause-refused
returns-clause-refused g c = let seen = g.S.Studio.seen in are_refused (meaning_of (map (λ w. w.now) c.args.words.now)) (seen c.args.studio.now) (seen c.answer.new.studio) c.answer.result c.answer.ensures

pub returns-clause-refused_by_clap : goal.returns-clause-refused_by_clap
returns-clause-refused_by_clap g c = let seen = g.S.Studio.seen in are_refused_by_clap (meaning_of (map (λ w. w.now) c.args.words.now)) (seen c.args.studio.now) (seen c.answer.new.studio) c.answer.result c.answer.ensures

pub returns-clause-encoded : goal.returns-clause-encoded
returns-clause-encoded g c = let seen = g.S.Studio.seen in was_encoded (meaning_of (map (λ w. w.now) c.args.words.now)) (seen c.args.studio.now) (seen c.answer.new.studio) c.answer.result c.answer.ensures

pub returns-clause-tried : goal.returns-clause-tried
returns-clause-tried g c = let seen = g.S.Studio.seen in was_tried (meaning_of (map (λ w. w.now) c.args.words.now)) (seen c.args.studio.now) (seen c.answer.new.studio) c.answer.result c.answer.ensures

pub returns-clause-stored : goal.returns-clause-stored
returns-clause-stored g c = let seen = g.S.Studio.seen in was_stored (meaning_of (map (λ w. w.now) c.args.words.now)) (seen c.args.studio.now) (seen c.answer.new.studio) c.answer.result c.answer.ensures

pub returns-clause-encode_left : goal.returns-clause-encode_left
returns-clause-encode_left g c = let seen = g.S.Studio.seen in encode_left (meaning_of (map (λ w. w.now) c.args.words.now)) (seen c.args.studio.now) (seen c.answer.new.studio) c.answer.result c.answer.ensures

pub returns-clause-trial_left : goal.returns-clause-trial_left
returns-clause-trial_left g c = let seen = g.S.Studio.seen in trial_left (meaning_of (map (λ w. w.now) c.args.words.now)) (seen c.args.studio.now) (seen c.answer.new.studio) c.answer.result c.answer.ensures

pub returns-clause-store_left : goal.returns-clause-store_left
returns-clause-store_left g c = let seen = g.S.Studio.seen in store_left (meaning_of (map (λ w. w.now) c.args.words.now)) (seen c.args.studio.now) (seen c.answer.new.studio) c.answer.result c.answer.ensures

pub returns-clause-trial_input : goal.returns-clause-trial_input
returns-clause-trial_input g c = let seen = g.S.Studio.seen in trial_input (meaning_of (map (λ w. w.now) c.args.words.now)) (seen c.args.studio.now) (seen c.answer.new.studio) c.answer.result c.answer.ensures

pub returns-clause-encode_answers : goal.returns-clause-encode_answers
returns-clause-encode_answers g c = let seen = g.S.Studio.seen in encode_answers (meaning_of (map (λ w. w.now) c.args.words.now)) (seen c.args.studio.now) (seen c.answer.new.studio) c.answer.result c.answer.ensures

pub returns-clause-trial_answers : goal.returns-clause-trial_answers
returns-clause-trial_answers g c = let seen = g.S.Studio.seen in trial_answers (meaning_of (map (λ w. w.now) c.args.words.now)) (seen c.args.studio.now) (seen c.answer.new.studio) c.answer.result c.answer.ensures

pub returns-clause-store_answers : goal.returns-clause-store_answers
returns-clause-store_answers g c = let seen = g.S.Studio.seen in store_answers (meaning_of (map (λ w. w.now) c.args.words.now)) (seen c.args.studio.now) (seen c.answer.new.studio) c.answer.result c.answer.ensures
