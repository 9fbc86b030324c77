-- What each command takes, in clap's own terms: options that take one value and may stand once, and nothing else.
use Rattle.std.specs.Prelude.{ℕ, List, [], ◌∷◌, Some, true, codes, map}
use Rattle.std.specs.Borrow.{Bor}
use Rattle.clap.specs.Words.{App, Rule, Text, new_app, new_rule, with_rule}
use Rattle.clap.specs.declared.builder.value_parser.ValueParser.TheVariants.{Names, Unsigned}

-- ---- options

-- --name with any text
abbrev pub text_rule : Text → Rule
text_rule name = record (new_rule name) { long = Some name; required = true }

-- --name with a number between two bounds, read as u64 is read
abbrev pub bounded_rule : Text → ℕ → ℕ → Rule
bounded_rule name low high = record (new_rule name) { long = Some name; parser = Some (Unsigned low high) }

-- the same, where it may not be left out
abbrev pub number_rule : Text → ℕ → ℕ → Rule
number_rule name low high = record (bounded_rule name low high) { required = true }

-- the same, where it is `usual` if it is left out
abbrev pub usual_rule : Text → ℕ → ℕ → Text → Rule
usual_rule name low high usual = record (bounded_rule name low high) { defaults = usual ∷ [] }

-- --name with one of some names, which is `usual` where it is left out
abbrev pub choice_rule : Text → Bor (List (Bor Text)) → Text → Rule
choice_rule name names usual = record (new_rule name) { long = Some name; parser = Some (Names names); defaults = usual ∷ [] }

-- ---- commands

abbrev pub with_input : App → App
with_input app = with_rule app (text_rule (codes "in"))

abbrev pub with_outputs : App → App
with_outputs app = with_rule (with_rule (with_rule app (text_rule (codes "out"))) (text_rule (codes "recon"))) (text_rule (codes "report"))

abbrev pub with_made : App → App
with_made app = with_rule (with_rule (with_rule (with_rule app (number_rule (codes "seed") 0 18446744073709551615))
    (number_rule (codes "width") 16 1920)) (number_rule (codes "height") 16 1088)) (number_rule (codes "pictures") 0 300)

abbrev pub with_buffer : App → App
with_buffer app = with_rule (with_rule (with_rule app (number_rule (codes "bitrate") 64 360000000))
    (bounded_rule (codes "cpb") 16 4000000000)) (bounded_rule (codes "delay") 0 4294967295)

abbrev pub with_coding : App → App
with_coding app = with_rule (with_rule (with_rule (with_rule app (usual_rule (codes "qp") 0 51 (codes "26")))
    (usual_rule (codes "refs") 1 4 (codes "2"))) (usual_rule (codes "bframes") 0 4 (codes "2"))) (usual_rule (codes "idr") 1 600 (codes "250"))

abbrev pub with_work : App → App
with_work app = with_rule (with_rule (with_rule (with_rule app (usual_rule (codes "range") 1 32 (codes "16")))
    (usual_rule (codes "slices") 1 255 (codes "1"))) (usual_rule (codes "workers") 1 64 (codes "1"))) (usual_rule (codes "level") 0 255 (codes "0"))

-- a text, and two names, that stand nowhere: clap reads names and not where they stand (see `Places` of the proofs)
abbrev pub placeless : Text → Bor Text
placeless text = record { ref_ptr = (0, 0); now = text }

abbrev pub on_off : Bor (List (Bor Text))
on_off = record { ref_ptr = (0, 0); now = map placeless (codes "on" ∷ codes "off" ∷ []) }

abbrev pub with_transforms : Bor (List (Bor Text)) → App → App
with_transforms names app = with_rule app (choice_rule (codes "t8x8") names (codes "on"))

abbrev pub with_settings : Bor (List (Bor Text)) → App → App
with_settings names app = with_transforms names (with_work (with_coding (with_buffer app)))

abbrev pub store_app : App
store_app = with_rule (with_input (new_app (codes "store"))) (text_rule (codes "out"))

abbrev pub encode_app : Bor (List (Bor Text)) → App
encode_app names = with_settings names (with_outputs (with_input (new_app (codes "encode"))))

abbrev pub trial_app : Bor (List (Bor Text)) → App
trial_app names = with_settings names (with_outputs (with_made (new_app (codes "trial"))))
