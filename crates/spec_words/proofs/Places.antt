-- clap makes the same of words wherever the names that an option allows stand in memory.
use Rattle.std.proofs.Common.{◌≡◌, ◌∙◌, ◌&&◌, ◌||◌, ap, ap₂, sym, drop, refl, true, false, not, cond, Bool, ℕ, zero, suc, List, [], ◌∷◌, map, fold}
use Rattle.std.specs.Prelude.{Option, Some, None, option_map, find, is_some, if◌then◌else◌, slice_get, length, codes, encode_utf8}
use Rattle.std.specs.List.{list_any}
use Rattle.std.specs.Option.{option_map_or}
use Rattle.std.specs.Borrow.{Bor}
use Rattle.std.specs.Str.{bytes_eq, chars}
use Rattle.clap.specs.Lexer.{long_of, short_of}
use Rattle.clap.specs.Facts.{explicit_source, parser_of_value, unwrap_or_range}
use Rattle.clap.specs.Values.{reading_of, refused_kind, same_text}
use Rattle.clap.specs.ValueTests.{accepts}
use Rattle.clap.specs.Kinds.{Kinds, check_kinds, or_else, range_kinds, request_kinds, value_kinds, values_kinds}
use Rattle.clap.specs.Simple.{Shape, built, entered, matches_of}
use Rattle.clap.specs.Takes.{is_given}
use Rattle.clap.specs.Walk as walking
use Rattle.clap.specs.Walk.{Held, Names, Outcome, Row, Rule, Step, Text, Waiting, Walk, action_of, after_flag, after_step, arg_by_id, arg_by_index, arg_by_long, arg_by_short, attached_value, bundle, bundle_met, bundle_step, default_rows, finished, flag_met, has_row, is_empty, is_multiple, is_pending, long_met, long_or_other, long_word, most_values, next_position, nothing_held, option_met, option_word, plain_word, pushed, reacted, reading_by, rows_after, settled, settled_rows, short_met, short_or_plain, short_word, subcommand_met, subcommand_or_other, takes_several, takes_values, to_positional, used, used_as, used_by_id, values_or_missing, walk, walk_from, walked, walked_from, with_default, word_met}
use Rattle.clap.specs.Faults.{action_fault, bundle_fault, bundle_step_fault, built_fault, check_fault, count_fault, default_fault, defaults_fault, entered_fault, fault_of, flag_word_fault, flags_fault, level_fault, long_fault, option_fault, other_fault, positional_fault, react_fault, repeat_fault, set_fault, settle_fault, short_fault, step_fault, stray_fault, turn_fault, use_fault, walk_fault, word_fault}
use Rattle.clap.specs.declared.builder.action.ArgAction.{ArgAction}
use Rattle.clap.specs.declared.builder.action.ArgAction.TheVariants.{Set, Append, SetTrue, SetFalse, Count}
use Rattle.clap.specs.declared.builder.value_parser.ValueParser.{ValueParser}
use Rattle.clap.specs.declared.builder.value_parser.ValueParser.TheVariants as vp
use Rattle.clap.specs.declared.error.kind.ErrorKind.{ErrorKind}
use Rattle.clap.specs.declared.error.kind.ErrorKind.TheVariants as kind
use Rattle.spec_words.specs.Options.{encode_app, on_off, placeless, trial_app}

-- ---- parsers

abbrev moved_names : Bor (List (Bor Text)) → Bor (List (Bor Text))
moved_names names = record { ref_ptr = (0, 0); now = map (λ name. placeless name.now) names.now }

-- a parser whose names stand nowhere
abbrev moved : ValueParser → ValueParser
moved (vp.Names names) = vp.Names (moved_names names)
moved other = other

names_same : (ic : Bool) (t : Text) (names : List (Bor Text))
    → list_any (λ name. same_text ic name.now t) (map (λ name. placeless name.now) names) ≡ list_any (λ name. same_text ic name.now t) names
names_same ic t [] = refl
names_same ic t (n ∷ ns) = ap (λ b. same_text ic n.now t || b) (names_same ic t ns)

accepts_same : (ic : Bool) (p : ValueParser) (t : Text) → accepts ic (moved p) t ≡ accepts ic p t
accepts_same ic (vp.Names names) t = names_same ic t names.now
accepts_same ic other t = refl

refusal_same : (p : ValueParser) → refused_kind (moved p) ≡ refused_kind p
refusal_same (vp.Names names) = refl
refusal_same other = refl

reading_same : (p : ValueParser) → reading_of (moved p) ≡ reading_of p
reading_same (vp.Names names) = refl
reading_same other = refl

-- ---- rules

abbrev at_rule : Rule → Rule
at_rule a = record a { parser = option_map moved a.parser }

abbrev at_rules : List Rule → List Rule
at_rules = map at_rule

find_next : (a : Rule) (b : Bool) (x y : Option Rule) → x ≡ option_map at_rule y → cond b (Some (at_rule a)) x ≡ option_map at_rule (cond b (Some a) y)
find_next a true x y h = refl
find_next a false x y h = h

find_same : (p : Rule → Bool) (c : List Rule) → ((a : Rule) → p (at_rule a) ≡ p a) → find p (at_rules c) ≡ option_map at_rule (find p c)
find_same p [] h = refl
find_same p (a ∷ c) h = ap (λ b. cond b (Some (at_rule a)) (find p (at_rules c))) (h a) ∙ find_next a (p a) _ _ (find_same p c h)

id_same : (c : List Rule) (id : Text) → arg_by_id (at_rules c) id ≡ option_map at_rule (arg_by_id c id)
id_same c id = find_same _ c (λ a. refl)

long_same : (c : List Rule) (name : Text) → arg_by_long (at_rules c) name ≡ option_map at_rule (arg_by_long c name)
long_same c name = find_same _ c (λ a. refl)

short_same : (c : List Rule) (x : ℕ) → arg_by_short (at_rules c) x ≡ option_map at_rule (arg_by_short c x)
short_same c x = find_same _ c (λ a. refl)

index_same : (c : List Rule) (i : ℕ) → arg_by_index (at_rules c) i ≡ option_map at_rule (arg_by_index c i)
index_same c i = find_same _ c (λ a. refl)

parser_reading : (p : Option ValueParser) → reading_of (parser_of_value (option_map moved p)) ≡ reading_of (parser_of_value p)
parser_reading None = refl
parser_reading (Some p) = reading_same p

rule_reading : (a : Rule) → reading_by (at_rule a) ≡ reading_by a
rule_reading a = parser_reading a.parser

-- ---- the walk

used_same : (a : Rule) (vs : List Text) (rows : List Row) → used (at_rule a) vs rows ≡ used a vs rows
used_same a [] rows = ap (λ how. used_as (action_of a) a.id how a.missing rows) (rule_reading a)
used_same a (v ∷ vs) rows = ap (λ how. used_as (action_of a) a.id how (v ∷ vs) rows) (rule_reading a)

settled_rows_same : (c : List Rule) (p : Option (Text × List Text)) (rows : List Row) → settled_rows (at_rules c) p rows ≡ settled_rows c p rows
settled_rows_same c None rows = refl
settled_rows_same c (Some p) rows = ap (λ o. used_by_id o p.1 rows) (id_same c p.0) ∙ go (arg_by_id c p.0)
  where
    go : (o : Option Rule) → used_by_id (option_map at_rule o) p.1 rows ≡ used_by_id o p.1 rows
    go None = refl
    go (Some a) = used_same a p.1 rows

settled_same : (c : List Rule) (h : Held) → settled (at_rules c) h ≡ settled c h
settled_same c h = ap (λ (rows : List Row). record h { rows = rows; pending = None }) (settled_rows_same c h.pending h.rows)

reacted_same : (c : List Rule) (a : Rule) (vs : List Text) (h : Held) → reacted (at_rules c) (at_rule a) vs h ≡ reacted c a vs h
reacted_same c a vs h =
    ap (λ (rows : List Row). record h { rows = rows; pending = None })
    (used_same a vs (settled_rows (at_rules c) h.pending h.rows) ∙ ap (λ rows. used a vs rows) (settled_rows_same c h.pending h.rows))

option_met_same : (c : List Rule) (a : Rule) (v : Option Text) (h : Held) → option_met (at_rules c) (at_rule a) v h ≡ option_met c a v h
option_met_same c a (Some v) h = ap (λ (x : Held). (x, walking.done)) (reacted_same c a (v ∷ []) h)
option_met_same c a None h = ap (λ (x : Held). (record x { pending = Some (a.id, []) }, walking.waits a.id)) (settled_same c h)

flag_met_same : (c : List Rule) (a : Rule) (v : Option Text) (h : Held) → flag_met (at_rules c) (at_rule a) v h ≡ flag_met c a v h
flag_met_same c a (Some v) h = refl
flag_met_same c a None h = ap (λ (x : Held). (x, walking.done)) (reacted_same c a [] h)

long_met_same : (c : List Rule) (o : Option Rule) (v : Option Text) (h : Held) → long_met (at_rules c) (option_map at_rule o) v h ≡ long_met c o v h
long_met_same c None v h = refl
long_met_same c (Some a) v h = ap₂ (λ (x y : Held × Outcome). if takes_values a then x else y) (option_met_same c a v h) (flag_met_same c a v h)

short_met_same : (c : List Rule) (o : Option Rule) (rest : Text) (h : Held) (f g : Held → Held × Outcome) → ((x : Held) → f x ≡ g x)
    → short_met (at_rules c) (option_map at_rule o) rest h f ≡ short_met c o rest h g
short_met_same c None rest h f g same = refl
short_met_same c (Some a) rest h f g same =
    ap₂ (λ (x y : Held × Outcome). if takes_values a then x else y) (option_met_same c a (attached_value rest) h) (ap f (reacted_same c a [] h) ∙ same (reacted c a [] h))

bundle_step_same : (c : List Rule) (o : Option ℕ) (flags : Text) (skip : ℕ) (so_far : Outcome) (h : Held) (f g : Text → ℕ → Outcome → Held → Held × Outcome)
    → ((t : Text) (n : ℕ) (e : Outcome) (x : Held) → f t n e x ≡ g t n e x)
    → bundle_step (at_rules c) o flags skip so_far h f ≡ bundle_step c o flags skip so_far h g
bundle_step_same c None flags skip so_far h f g same = refl
bundle_step_same c (Some x) flags zero so_far h f g same =
    let rest = drop (length (encode_utf8 x)) flags in
    ap (λ o. short_met (at_rules c) o rest h (f rest 0 walking.done)) (short_same c x)
    ∙ short_met_same c (arg_by_short c x) rest h (f rest 0 walking.done) (g rest 0 walking.done) (λ y. same rest 0 walking.done y)
bundle_step_same c (Some x) flags (suc k) so_far h f g same = same _ k so_far h

bundle_met_same : (c : List Rule) (k : ℕ) (flags : Text) (skip : ℕ) (so_far : Outcome) (h : Held) → bundle_met (at_rules c) k flags skip so_far h ≡ bundle_met c k flags skip so_far h
unfolding bundle_met
bundle_met_same c zero flags skip so_far h = refl
bundle_met_same c (suc k) flags skip so_far h = bundle_step_same c (slice_get (chars flags) 0) flags skip so_far h _ _ (λ t n e x. bundle_met_same c k t n e x)

option_word_same : (o : Option Rule) (id word : Text) (h : Held) → option_word (option_map at_rule o) id word h ≡ option_word o id word h
option_word_same None id word h = refl
option_word_same (Some a) id word h = refl

plain_word_same : (c : List Rule) (w : Waiting) (word : Text) (h : Held) → plain_word (at_rules c) w word h ≡ plain_word c w word h
plain_word_same c walking.idle word h = refl
plain_word_same c (walking.option id) word h =
    ap (λ (m : Held × Waiting). (m.0, walking.next m.1)) (ap (λ o. option_word o id word h) (id_same c id) ∙ option_word_same (arg_by_id c id) id word h)
plain_word_same c walking.positional word h = refl

after_flag_same : (c : List Rule) (w : Waiting) (word : Text) (h : Held) (e : Outcome) → after_flag (at_rules c) w word h e ≡ after_flag c w word h e
after_flag_same c w word h walking.done = refl
after_flag_same c w word h (walking.waits id) = refl
after_flag_same c w word h walking.plain = plain_word_same c w word h
after_flag_same c w word h walking.refused = plain_word_same c w word h

flag_same : (c : List Rule) (w : Waiting) (word : Text) (m n : Held × Outcome) → m ≡ n → after_flag (at_rules c) w word m.0 m.1 ≡ after_flag c w word n.0 n.1
flag_same c w word m n same = ap (λ (m : Held × Outcome). after_flag (at_rules c) w word m.0 m.1) same ∙ after_flag_same c w word n.0 n.1

long_word_same : (c : List Rule) (w : Waiting) (word name : Text) (v : Option Text) (h : Held) → long_word (at_rules c) w word name v h ≡ long_word c w word name v h
long_word_same c w word name v h =
    flag_same c w word (long_met (at_rules c) (arg_by_long (at_rules c) name) v h) (long_met c (arg_by_long c name) v h)
    (ap (λ o. long_met (at_rules c) o v h) (long_same c name) ∙ long_met_same c (arg_by_long c name) v h)

bundle_same : (c : List Rule) (flags : Text) (h : Held) → bundle (at_rules c) flags h ≡ bundle c flags h
bundle_same c flags h = bundle_met_same c (length flags) flags h.skip walking.plain (record h { skip = 0 })

short_or_plain_same : (c : List Rule) (w : Waiting) (word : Text) (o : Option Text) (h : Held) → short_or_plain (at_rules c) w word o h ≡ short_or_plain c w word o h
short_or_plain_same c w word (Some flags) h = flag_same c w word (bundle (at_rules c) flags h) (bundle c flags h) (bundle_same c flags h)
short_or_plain_same c w word None h = plain_word_same c w word h

long_or_other_same : (c : List Rule) (w : Waiting) (word : Text) (o : Option (Text × Option Text)) (h : Held) → long_or_other (at_rules c) w word o h ≡ long_or_other c w word o h
long_or_other_same c w word (Some p) h = long_word_same c w word p.0 p.1 h
long_or_other_same c w word None h = short_or_plain_same c w word (short_of word) h

subcommand_or_other_same : (c : List Rule) (o : Option Text) (w : Waiting) (position : ℕ) (word : Text) (h : Held)
    → subcommand_or_other (at_rules c) o w position word h ≡ subcommand_or_other c o w position word h
subcommand_or_other_same c (Some name) w position word h = refl
subcommand_or_other_same c None w position word h =
    ap (λ (x : Held × Step). if bytes_eq word (45 ∷ 45 ∷ []) then (h, walking.trailing position) else x) (long_or_other_same c w word (long_of word) h)

word_met_same : (c : List Rule) (names : Names) (t : Bool) (w : Waiting) (position : ℕ) (word : Text) (h : Held)
    → word_met (at_rules c) names t w position word h ≡ word_met c names t w position word h
word_met_same c names t w position word h =
    ap (λ (x : Held × Step). if t then (h, walking.value) else x) (subcommand_or_other_same c (subcommand_met names w word) w position word h)

to_positional_same : (c : List Rule) (o : Option Rule) (word : Text) (w : Walk) (h : Held) → to_positional (at_rules c) (option_map at_rule o) word w h ≡ to_positional c o word w h
to_positional_same c None word w h = refl
to_positional_same c (Some a) word w h = ap (λ (x : Held). record {
  held = pushed a.id word (if is_pending a h.pending && takes_several a then h else x);
  waiting = if is_multiple a then walking.positional else walking.idle;
  position = next_position a w.position;
  is_trailing = w.is_trailing || a.trailing_var_arg;
  stopped = None;
}) (settled_same c h)

after_step_same : (c : List Rule) (word : Text) (w : Walk) (h : Held) (s : Step) → after_step (at_rules c) word w h s ≡ after_step c word w h s
after_step_same c word w h (walking.next waiting) = refl
after_step_same c word w h (walking.trailing position) = refl
after_step_same c word w h (walking.subcommand name) = refl
after_step_same c word w h walking.value = ap (λ o. to_positional (at_rules c) o word w h) (index_same c w.position) ∙ to_positional_same c (arg_by_index c w.position) word w h

walked_from_same : (c : List Rule) (names : Names) (o : Option (Text × List Text)) (w : Walk) (word : Text) → walked_from (at_rules c) names o w word ≡ walked_from c names o w word
walked_from_same c names (Some p) w word = refl
walked_from_same c names None w word =
    let met = word_met c names w.is_trailing w.waiting w.position word w.held in
    ap (λ (m : Held × Step). after_step (at_rules c) word w m.0 m.1) (word_met_same c names w.is_trailing w.waiting w.position word w.held)
    ∙ after_step_same c word w met.0 met.1

walked_same : (c : List Rule) (names : Names) (w : Walk) (word : Text) → walked (at_rules c) names w word ≡ walked c names w word
unfolding walked
walked_same c names w word = walked_from_same c names w.stopped w word

walks_same : (c : List Rule) (names : Names) (words : List Text) (w : Walk) → fold (walked (at_rules c) names) w words ≡ fold (walked c names) w words
walks_same c names [] w = refl
walks_same c names (word ∷ words) w = ap (λ w. fold (walked (at_rules c) names) w words) (walked_same c names w word) ∙ walks_same c names words (walked c names w word)

with_default_same : (rows : List Row) (a : Rule) → with_default rows (at_rule a) ≡ with_default rows a
with_default_same rows a = ap (λ how. if has_row a.id rows then rows else default_rows a.id how a.defaults rows) (rule_reading a)

defaults_same : (c : List Rule) (rows : List Row) → fold with_default rows (at_rules c) ≡ fold with_default rows c
defaults_same [] rows = refl
defaults_same (a ∷ c) rows = ap (λ rows. fold with_default rows (at_rules c)) (with_default_same rows a) ∙ defaults_same c (with_default rows a)

finished_same : (c : List Rule) (h : Held) → finished (at_rules c) h ≡ finished c h
finished_same c h = ap (λ rows. fold with_default rows (at_rules c)) (settled_rows_same c h.pending h.rows) ∙ defaults_same c (settled_rows c h.pending h.rows)

-- the rows of a parse
rows_same : (c : List Rule) (names : Names) (words : List Text) → rows_after (at_rules c) names words ≡ rows_after c names words
rows_same c names words =
    ap (λ (w : Walk). finished (at_rules c) w.held) (walks_same c names words (walk_from nothing_held)) ∙ finished_same c (walk c names nothing_held words).held

-- ---- faults of values

value_same : (ic : Bool) (p : Option ValueParser) (v : Text) → value_kinds ic (parser_of_value (option_map moved p)) v ≡ value_kinds ic (parser_of_value p) v
value_same ic None v = refl
value_same ic (Some p) v = ap₂ (λ (b : Bool) (k : ErrorKind). if b then [] else k ∷ []) (accepts_same ic p v) (refusal_same p)

values_same : (ic : Bool) (p : Option ValueParser) (vs : List Text) → values_kinds ic (parser_of_value (option_map moved p)) vs ≡ values_kinds ic (parser_of_value p) vs
values_same ic p [] = refl
values_same ic p (v ∷ vs) = ap₂ or_else (value_same ic p v) (values_same ic p vs)

count_same : (a : Rule) (vs : List Text) (rows : List Row) → count_fault (at_rule a) vs rows ≡ count_fault a vs rows
count_same a [] rows = value_same a.ignore_case a.parser _
count_same a (v ∷ vs) rows = values_same a.ignore_case a.parser (v ∷ vs)

set_same : (again : Bool) (a : Rule) (vs : List Text) (rows : List Row) → set_fault again (at_rule a) vs rows ≡ set_fault again a vs rows
set_same again a vs rows = ap (λ k. or_else (repeat_fault again a.id rows) k) (values_same a.ignore_case a.parser vs)

action_same : (act : ArgAction) (again : Bool) (a : Rule) (vs : List Text) (rows : List Row) → action_fault act again (at_rule a) vs rows ≡ action_fault act again a vs rows
action_same Set again a vs rows = set_same again a vs rows
action_same SetTrue again a vs rows = set_same again a vs rows
action_same SetFalse again a vs rows = set_same again a vs rows
action_same Append again a vs rows = values_same a.ignore_case a.parser vs
action_same Count again a vs rows = count_same a vs rows
action_same other again a vs rows = refl

use_same : (again : Bool) (a : Rule) (vs : List Text) (rows : List Row) → use_fault again (at_rule a) vs rows ≡ use_fault again a vs rows
use_same again a [] rows = ap (λ k. or_else (range_kinds (unwrap_or_range a.range).start_inclusive (most_values a) 0) k) (action_same (action_of a) again a a.missing rows)
use_same again a (v ∷ vs) rows =
    ap (λ k. or_else (range_kinds (unwrap_or_range a.range).start_inclusive (most_values a) (length (v ∷ vs))) k) (action_same (action_of a) again a (v ∷ vs) rows)

-- ---- faults of the walk

settle_rows_same : (c : List Rule) (again : Bool) (p : Option (Text × List Text)) (rows : List Row)
    → option_map_or (λ p. option_map_or (λ a. use_fault again a p.1 rows) (arg_by_id (at_rules c) p.0) []) p []
    ≡ option_map_or (λ p. option_map_or (λ a. use_fault again a p.1 rows) (arg_by_id c p.0) []) p []
settle_rows_same c again None rows = refl
settle_rows_same c again (Some p) rows = ap (λ o. option_map_or (λ a. use_fault again a p.1 rows) o []) (id_same c p.0) ∙ go (arg_by_id c p.0)
  where
    go : (o : Option Rule) → option_map_or (λ a. use_fault again a p.1 rows) (option_map at_rule o) [] ≡ option_map_or (λ a. use_fault again a p.1 rows) o []
    go None = refl
    go (Some a) = use_same again a p.1 rows

settle_same : (c : List Rule) (again : Bool) (h : Held) → settle_fault (at_rules c) again h ≡ settle_fault c again h
settle_same c again h = settle_rows_same c again h.pending h.rows

react_same : (c : List Rule) (again : Bool) (a : Rule) (vs : List Text) (h : Held) → react_fault (at_rules c) again (at_rule a) vs h ≡ react_fault c again a vs h
react_same c again a vs h =
    ap₂ or_else (settle_same c again h)
    (use_same again a vs (settled_rows (at_rules c) h.pending h.rows) ∙ ap (λ rows. use_fault again a vs rows) (settled_rows_same c h.pending h.rows))

option_same : (c : List Rule) (again : Bool) (a : Rule) (v : Option Text) (h : Held) → option_fault (at_rules c) again (at_rule a) v h ≡ option_fault c again a v h
option_same c again a (Some v) h = react_same c again a (v ∷ []) h
option_same c again a None h = settle_same c again h

long_fault_same : (c : List Rule) (again : Bool) (o : Option Rule) (v : Option Text) (h : Held) → long_fault (at_rules c) again (option_map at_rule o) v h ≡ long_fault c again o v h
long_fault_same c again None v h = refl
long_fault_same c again (Some a) v h =
    ap₂ (λ (x y : Kinds). if takes_values a then x else (if is_some v then kind.TooManyValues ∷ [] else y)) (option_same c again a v h) (react_same c again a [] h)

short_fault_same : (c : List Rule) (again : Bool) (o : Option Rule) (rest : Text) (h : Held) (f g : Held → Kinds) → ((x : Held) → f x ≡ g x)
    → short_fault (at_rules c) again (option_map at_rule o) rest h f ≡ short_fault c again o rest h g
short_fault_same c again None rest h f g same = refl
short_fault_same c again (Some a) rest h f g same =
    ap₂ (λ (x y : Kinds). if takes_values a then x else y) (option_same c again a (attached_value rest) h)
    (ap₂ or_else (react_same c again a [] h) (ap f (reacted_same c a [] h) ∙ same (reacted c a [] h)))

bundle_step_fault_same : (c : List Rule) (again : Bool) (o : Option ℕ) (flags : Text) (skip : ℕ) (h : Held) (f g : Text → ℕ → Held → Kinds)
    → ((t : Text) (n : ℕ) (x : Held) → f t n x ≡ g t n x)
    → bundle_step_fault (at_rules c) again o flags skip h f ≡ bundle_step_fault c again o flags skip h g
bundle_step_fault_same c again None flags skip h f g same = refl
bundle_step_fault_same c again (Some x) flags zero h f g same =
    let rest = drop (length (encode_utf8 x)) flags in
    ap (λ o. short_fault (at_rules c) again o rest h (f rest 0)) (short_same c x)
    ∙ short_fault_same c again (arg_by_short c x) rest h (f rest 0) (g rest 0) (λ y. same rest 0 y)
bundle_step_fault_same c again (Some x) flags (suc k) h f g same = same _ k h

flags_fault_same : (c : List Rule) (again : Bool) (k : ℕ) (flags : Text) (skip : ℕ) (h : Held) → flags_fault (at_rules c) again k flags skip h ≡ flags_fault c again k flags skip h
unfolding flags_fault
flags_fault_same c again zero flags skip h = refl
flags_fault_same c again (suc k) flags skip h = bundle_step_fault_same c again (slice_get (chars flags) 0) flags skip h _ _ (λ t n x. flags_fault_same c again k t n x)

flag_word_fault_same : (c : List Rule) (again : Bool) (o : Option (Text × Option Text)) (word : Text) (h : Held)
    → flag_word_fault (at_rules c) again o word h ≡ flag_word_fault c again o word h
flag_word_fault_same c again (Some p) word h = ap (λ o. long_fault (at_rules c) again o p.1 h) (long_same c p.0) ∙ long_fault_same c again (arg_by_long c p.0) p.1 h
flag_word_fault_same c again None word h = go (short_of word)
  where
    go : (o : Option Text) → option_map_or (λ flags. bundle_fault (at_rules c) again flags h) o [] ≡ option_map_or (λ flags. bundle_fault c again flags h) o []
    go None = refl
    go (Some flags) = flags_fault_same c again (length flags) flags h.skip (record h { skip = 0 })

abbrev at_shape : Shape → Shape
at_shape s = record s { rules = at_rules s.rules }

other_fault_same : (s : Shape) (o : Option Text) (word : Text) (h : Held) → other_fault (at_shape s) o word h ≡ other_fault s o word h
other_fault_same s (Some name) word h = refl
other_fault_same s None word h =
    ap (λ (k : Kinds). if bytes_eq word (45 ∷ 45 ∷ []) then [] else k) (flag_word_fault_same s.rules s.args_override_self (long_of word) word h)

word_fault_same : (s : Shape) (names : Names) (t : Bool) (w : Waiting) (word : Text) (h : Held) → word_fault (at_shape s) names t w word h ≡ word_fault s names t w word h
word_fault_same s names t w word h = ap (λ (k : Kinds). if t then [] else k) (other_fault_same s (subcommand_met names w word) word h)

step_fault_same : (s : Shape) (position : ℕ) (h : Held) (step : Step) → step_fault (at_shape s) position h step ≡ step_fault s position h step
step_fault_same s position h (walking.next waiting) = refl
step_fault_same s position h (walking.trailing place) = refl
step_fault_same s position h (walking.subcommand name) = refl
step_fault_same s position h walking.value =
    ap (λ o. option_map_or (λ a. positional_fault (at_rules s.rules) s.args_override_self a h) o (stray_fault s)) (index_same s.rules position) ∙ go (arg_by_index s.rules position)
  where
    go : (o : Option Rule) → option_map_or (λ a. positional_fault (at_rules s.rules) s.args_override_self a h) (option_map at_rule o) (stray_fault s)
        ≡ option_map_or (λ a. positional_fault s.rules s.args_override_self a h) o (stray_fault s)
    go None = refl
    go (Some a) = ap (λ (k : Kinds). if is_pending a h.pending && takes_several a then [] else k) (settle_same s.rules s.args_override_self h)

turn_fault_same : (s : Shape) (names : Names) (w : Walk) (word : Text) → turn_fault (at_shape s) names w word ≡ turn_fault s names w word
turn_fault_same s names w word =
    let met = word_met s.rules names w.is_trailing w.waiting w.position word w.held in
    ap₂ (λ (x y : Kinds). if is_some w.stopped then [] else or_else x y)
    (word_fault_same s names w.is_trailing w.waiting word w.held)
    (ap (λ (m : Held × Step). step_fault (at_shape s) w.position m.0 m.1) (word_met_same s.rules names w.is_trailing w.waiting w.position word w.held)
    ∙ step_fault_same s w.position met.0 met.1)

walk_fault_same : (s : Shape) (names : Names) (words : List Text) (w : Walk) → walk_fault (at_shape s) names w words ≡ walk_fault s names w words
unfolding walk_fault
walk_fault_same s names [] w = refl
walk_fault_same s names (word ∷ words) w =
    ap₂ or_else (turn_fault_same s names w word)
    (ap (λ w. walk_fault (at_shape s) names w words) (walked_same s.rules names w word) ∙ walk_fault_same s names words (walked s.rules names w word))

-- ---- faults after the walk

default_fault_same : (rows : List Row) (a : Rule) → default_fault rows (at_rule a) ≡ default_fault rows a
default_fault_same rows a =
    ap (λ (k : Kinds). if has_row a.id rows || is_empty a.defaults then [] else or_else (request_kinds (action_of a)) k) (values_same a.ignore_case a.parser a.defaults)

defaults_fault_same : (c : List Rule) (rows : List Row) → defaults_fault rows (at_rules c) ≡ defaults_fault rows c
unfolding defaults_fault
defaults_fault_same [] rows = refl
defaults_fault_same (a ∷ c) rows =
    ap₂ or_else (default_fault_same rows a)
    (ap (λ rows. defaults_fault rows (at_rules c)) (with_default_same rows a) ∙ defaults_fault_same c (with_default rows a))

wanted_same : (c : List Rule) (rows : List Row) → list_any (λ a. a.required && not (is_given a.id rows)) (at_rules c) ≡ list_any (λ a. a.required && not (is_given a.id rows)) c
wanted_same [] rows = refl
wanted_same (a ∷ c) rows = ap (λ b. (a.required && not (is_given a.id rows)) || b) (wanted_same c rows)

check_same : (s : Shape) (rows : List Row) (b : Bool) → check_fault (at_shape s) rows b ≡ check_fault s rows b
check_same s rows b = ap (λ wanted. check_kinds
    (not b && (s.arg_required_else_help && not (list_any (λ r. explicit_source r.source) rows)))
    (not b && s.subcommand_required) (not (s.subcommand_negates_reqs && b) && wanted)) (wanted_same s.rules rows)

end_same : (s : Shape) (end : Held) (b : Bool) → or_else (settle_fault (at_rules s.rules) s.args_override_self end)
    (or_else (defaults_fault (settled (at_rules s.rules) end).rows (at_rules s.rules)) (check_fault (at_shape s) (finished (at_rules s.rules) end) b))
    ≡ or_else (settle_fault s.rules s.args_override_self end) (or_else (defaults_fault (settled s.rules end).rows s.rules) (check_fault s (finished s.rules end) b))
end_same s end b =
    ap₂ or_else (settle_same s.rules s.args_override_self end)
    (ap₂ or_else
    (ap (λ rows. defaults_fault rows (at_rules s.rules)) (settled_rows_same s.rules end.pending end.rows) ∙ defaults_fault_same s.rules (settled_rows s.rules end.pending end.rows))
    (ap (λ rows. check_fault (at_shape s) rows b) (finished_same s.rules end) ∙ check_same s (finished s.rules end) b))

level_same : (s : Shape) (names : Names) (h : Held) (words : List Text) (b : Bool) (below : Kinds) → level_fault (at_shape s) names h words b below ≡ level_fault s names h words b below
level_same s names h words b below =
    ap₂ (λ (x y : Kinds). or_else x (or_else below y)) (walk_fault_same s names words (walk_from h))
    (ap (λ (w : Walk). or_else (settle_fault (at_rules s.rules) s.args_override_self w.held)
    (or_else (defaults_fault (settled (at_rules s.rules) w.held).rows (at_rules s.rules)) (check_fault (at_shape s) (finished (at_rules s.rules) w.held) b)))
    (walks_same s.rules names words (walk_from h))
    ∙ end_same s (walk s.rules names h words).held b)

-- the faults of a built command with no subcommand
built_same : (s : Shape) (words : List Text) → built_fault (record { top = at_shape s; subs = [] }) nothing_held words ≡ built_fault (record { top = s; subs = [] }) nothing_held words
built_same s words =
    ap (λ (w : Walk). level_fault (at_shape s) [] nothing_held words (is_some (entered (record { top = at_shape s; subs = [] }) w.stopped)) (entered_fault (record { top = at_shape s; subs = [] }) w.stopped))
    (walks_same s.rules [] words (walk_from nothing_held))
    ∙ level_same s [] nothing_held words _ _

-- ---- the commands

placed : (names : List (Bor Text)) → map (λ name. placeless name.now) names ≡ map placeless (map (λ name. name.now) names)
placed [] = refl
placed (n ∷ ns) = ap (λ (xs : List (Bor Text)). placeless n.now ∷ xs) (placed ns)

moved_is : (names : Bor (List (Bor Text))) → map (λ name. name.now) names.now ≡ codes "on" ∷ codes "off" ∷ [] → moved_names names ≡ on_off
moved_is names h = ap (λ (xs : List (Bor Text)). record { ref_ptr = (0, 0); now = xs }) (placed names.now ∙ ap (map placeless) h)

pub encode_faults : (names : Bor (List (Bor Text))) (words : List Text) → map (λ name. name.now) names.now ≡ codes "on" ∷ codes "off" ∷ []
    → fault_of (encode_app names) words ≡ fault_of (encode_app on_off) words
encode_faults names words h = sym (built_same (built (encode_app names)).top (drop 1 words)) ∙ ap (λ names. fault_of (encode_app names) words) (moved_is names h)

pub encode_rows : (names : Bor (List (Bor Text))) (words : List Text) → map (λ name. name.now) names.now ≡ codes "on" ∷ codes "off" ∷ []
    → matches_of (encode_app names) words ≡ matches_of (encode_app on_off) words
encode_rows names words h = sym (rows_same (built (encode_app names)).top.rules [] (drop 1 words)) ∙ ap (λ names. matches_of (encode_app names) words) (moved_is names h)

pub trial_faults : (names : Bor (List (Bor Text))) (words : List Text) → map (λ name. name.now) names.now ≡ codes "on" ∷ codes "off" ∷ []
    → fault_of (trial_app names) words ≡ fault_of (trial_app on_off) words
trial_faults names words h = sym (built_same (built (trial_app names)).top (drop 1 words)) ∙ ap (λ names. fault_of (trial_app names) words) (moved_is names h)

pub trial_rows : (names : Bor (List (Bor Text))) (words : List Text) → map (λ name. name.now) names.now ≡ codes "on" ∷ codes "off" ∷ []
    → matches_of (trial_app names) words ≡ matches_of (trial_app on_off) words
trial_rows names words h = sym (rows_same (built (trial_app names)).top.rules [] (drop 1 words)) ∙ ap (λ names. matches_of (trial_app names) words) (moved_is names h)
