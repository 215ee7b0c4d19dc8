-- How words are refused: as no command, or at a limit.
use Rattle.std.proofs.Common.{◌≡◌, Bool, true, false, cond, List, [], ◌∷◌, codes, Result, Ok, Err, refl}
use Rattle.std.specs.Prelude.{◌^◌, not, nat_lt, nat_le, length}
use Rattle.std.specs.List.{before_first, after_first}
use Rattle.std.specs.Prelude.{◌==◌}
use Rattle.std.specs.Str.{bytes_eq}
use Rattle.clap.specs.Faults.{fault_of}
use Rattle.clap.specs.Kinds.{Kinds}
use Rattle.clap.specs.Simple.{App, matches_of}
use Rattle.clap.specs.Walk.{Row, Text}
use Rattle.cap_base.specs.Check.{number_of}
use Rattle.cap_base.specs.Steps.{◌>>=◌, ◌>>◌, gather}
use Rattle.cap_base.specs.declared.check.Check.TheVariants.{CallCount}
use Rattle.cap_session.specs.declared.form.Form.TheVariants as forms
use Rattle.purecap.specs.declared.faults.Failure.{Failure}
use Rattle.purecap.specs.declared.faults.Failure.TheVariants.{Usage, Limit}
use Rattle.purecap.specs.WordRules.{is_long, is_name, is_path, parsed, refuse, too_long, unless_faulty, value_of, values_of}
use Rattle.std.specs.Option.{option_map_or}
use Rattle.std.specs.List.{list_any}
use Rattle.purecap.specs.LinkWords.{LinkWords, asked_by as link_asked, is_no_name, is_no_path, link_app, link_of, link_words}
use Rattle.purecap.specs.DemoWords.{demo_app, demo_words, is_numeral, number_in, number_of as number_word}
use Rattle.purecap.specs.ProgramWords.{ProgramWords, call_of, form_of, has_long_name, limits_checked, paths_checked, program_of}
use Rattle.purecap.specs.SlotWords.{is_slot, slot_in, slot_of}
use Rattle.purecap.specs.Words.{Show, Load, Link, Demo, Init, Reach, Audit, LoadWords, audit_app, audit_of, audit_words, command_of, init_app, init_of, init_words, load_app, load_of, load_words, reach_app, reach_of, reach_words, show_app, show_of, show_words}
use Rattle.purecap.proofs.Ways.{is_of_words, or_fails}

abbrev Fits : {A : Type 0} → Result A Failure → Type 0
Fits r = or_fails is_of_words r ≡ true

bind_fails : {A B : Type 0} (r : Result A Failure) (f : A → Result B Failure) → Fits r → ((x : A) → Fits (f x)) → Fits (r >>= f)
bind_fails (Ok x) f h more = more x
bind_fails (Err e) f h more = h

then_fails : {B : Type 0} (u : Result (Unit {0}) Failure) (r : Result B Failure) → Fits u → Fits r → Fits (u >> r)
then_fails (Ok v) r h more = more
then_fails (Err e) r h more = h

refuse_fails : (fails : Bool) (failure : Failure) → is_of_words failure ≡ true → Fits (refuse fails failure)
refuse_fails true failure h = h
refuse_fails false failure h = refl

choice_fails : {A : Type 0} (b : Bool) (x y : Result A Failure) → Fits x → Fits y → Fits (cond b x y)
choice_fails true x y xs ys = xs
choice_fails false x y xs ys = ys

faulty_fails : (kinds : Kinds) (rows : List Row) → Fits (unless_faulty kinds rows)
faulty_fails [] rows = refl
faulty_fails (kind ∷ kinds) rows = refl

parsed_fails : (app : App) (words : List Text) → Fits (parsed app words)
unfolding parsed
parsed_fails app words = faulty_fails (fault_of app words) (matches_of app words)

form_fails : (word : Text) → Fits (form_of word)
form_fails word =
    choice_fails (bytes_eq word (codes "open")) (Ok forms.Open) _ refl (choice_fails (bytes_eq word (codes "global")) (Ok forms.Global) _ refl (choice_fails (bytes_eq word (codes "try")) (Ok forms.Try) (Err Usage) refl refl))

call_fails : (word : Text) → Fits (call_of word)
unfolding call_of
call_fails word =
    let name = after_first (λ byte. byte == 0x3a) word in
    bind_fails (form_of (before_first (λ byte. byte == 0x3a) word)) _ (form_fails (before_first (λ byte. byte == 0x3a) word))
    (λ form. then_fails (refuse (not (is_name name)) Usage) (Ok (record { form = form; name = name })) (refuse_fails (not (is_name name)) Usage refl) refl)

calls_fail : (words : List Text) → Fits (gather call_of words)
calls_fail [] = refl
calls_fail (word ∷ words) = bind_fails (call_of word) _ (call_fails word) (λ y. bind_fails (gather call_of words) _ (calls_fail words) (λ ys. refl))

show_fails : (image : Text) → Fits (show_of image)
unfolding show_of
show_fails image =
    then_fails _ (Ok (Show image)) (then_fails (refuse (not (is_path image)) Usage) (refuse (is_long image) too_long) (refuse_fails (not (is_path image)) Usage refl) (refuse_fails (is_long image) too_long refl)) refl

program_fails : (rows : List Row) → Fits (program_of rows)
unfolding program_of
program_fails rows = bind_fails (gather call_of (values_of rows (codes "call"))) _ (calls_fail (values_of rows (codes "call"))) (λ calls. refl)

paths_fail : (asked : ProgramWords) → Fits (paths_checked asked)
unfolding paths_checked
paths_fail asked = then_fails _ _ (refuse_fails (not (is_path asked.dir)) Usage refl) (refuse_fails (not (is_path asked.main)) Usage refl)

limits_fail : (asked : ProgramWords) → Fits (limits_checked asked)
unfolding limits_checked
limits_fail asked =
    let short_dir = refuse_fails (is_long asked.dir) too_long refl in
    let short_main = then_fails _ _ short_dir (refuse_fails (is_long asked.main) too_long refl) in
    let short_names = then_fails _ _ short_main (refuse_fails (has_long_name asked.calls) too_long refl) in
    then_fails _ _ short_names (refuse_fails (nat_lt 64 (length asked.calls)) (Limit (number_of CallCount)) refl)

load_fails : (asked : LoadWords) → Fits (load_of asked)
unfolding load_of
load_fails asked =
    let image = refuse_fails (not (is_path asked.image)) Usage refl in
    let paths = then_fails _ _ image (paths_fail asked.program) in
    let short = then_fails _ _ paths (refuse_fails (is_long asked.image) too_long refl) in
    then_fails _ (Ok (Load asked)) (then_fails _ _ short (limits_fail asked.program)) refl

init_fails : (asked : ProgramWords) → Fits (init_of asked)
unfolding init_of
init_fails asked = then_fails _ (Ok (Init asked)) (then_fails _ _ (paths_fail asked) (limits_fail asked)) refl

slot_fails : (word : Text) → Fits (slot_of word)
unfolding slot_of
slot_fails word = then_fails (refuse (not (is_slot word)) Usage) (Ok (slot_in word)) (refuse_fails (not (is_slot word)) Usage refl) refl

reach_fails : (image word : Text) → Fits (reach_of image word)
unfolding reach_of
reach_fails image word =
    then_fails _ _ (refuse_fails (not (is_path image)) Usage refl)
    (bind_fails (slot_of word) _ (slot_fails word) (λ slot. then_fails _ (Ok (Reach image slot)) (refuse_fails (is_long image) too_long refl) refl))

audit_fails : (image : Text) (asked : ProgramWords) → Fits (audit_of image asked)
unfolding audit_of
audit_fails image asked =
    let path = refuse_fails (not (is_path image)) Usage refl in
    let paths = then_fails _ _ path (paths_fail asked) in
    let short = then_fails _ _ paths (refuse_fails (is_long image) too_long refl) in
    then_fails _ (Ok (Audit image asked)) (then_fails _ _ short (limits_fail asked)) refl

show_words_fail : (words : List Text) → Fits (show_words words)
unfolding show_words
show_words_fail words = bind_fails (parsed show_app words) _ (parsed_fails show_app words) (λ rows. show_fails (value_of rows (codes "image")))

load_words_fail : (words : List Text) → Fits (load_words words)
unfolding load_words
load_words_fail words =
    bind_fails (parsed load_app words) _ (parsed_fails load_app words) (λ rows.
    bind_fails (program_of rows) _ (program_fails rows) (λ program. load_fails (record { image = value_of rows (codes "image"); program = program })))

init_words_fail : (words : List Text) → Fits (init_words words)
unfolding init_words
init_words_fail words =
    bind_fails (parsed init_app words) _ (parsed_fails init_app words) (λ rows. bind_fails (program_of rows) _ (program_fails rows) (λ program. init_fails program))

reach_words_fail : (words : List Text) → Fits (reach_words words)
unfolding reach_words
reach_words_fail words =
    bind_fails (parsed reach_app words) _ (parsed_fails reach_app words) (λ rows. reach_fails (value_of rows (codes "image")) (value_of rows (codes "slot")))

audit_words_fail : (words : List Text) → Fits (audit_words words)
unfolding audit_words
audit_words_fail words =
    bind_fails (parsed audit_app words) _ (parsed_fails audit_app words) (λ rows.
    bind_fails (program_of rows) _ (program_fails rows) (λ program. audit_fails (value_of rows (codes "image")) program))

link_fails : (asked : LinkWords) → Fits (link_of asked)
unfolding link_of
link_fails asked =
    let output = refuse_fails (is_no_path asked.output) Usage refl in
    let inputs = then_fails _ _ output (refuse_fails (list_any is_no_path asked.inputs) Usage refl) in
    let soname = then_fails _ _ inputs (refuse_fails (option_map_or is_no_name asked.soname false) Usage refl) in
    let short_output = then_fails _ _ soname (refuse_fails (is_long asked.output) too_long refl) in
    let short_inputs = then_fails _ _ short_output (refuse_fails (list_any is_long asked.inputs) too_long refl) in
    let short_soname = then_fails _ _ short_inputs (refuse_fails (option_map_or is_long asked.soname false) too_long refl) in
    let few = then_fails _ _ short_soname (refuse_fails (nat_lt 256 (length asked.inputs)) (Limit (number_of CallCount)) refl) in
    then_fails _ (Ok asked) few refl

link_words_fail : (words : List Text) → Fits (link_words words)
unfolding link_words
link_words_fail words = bind_fails (parsed link_app words) _ (parsed_fails link_app words) (λ rows. link_fails (link_asked rows))

number_fails : (word : Text) → Fits (number_word word)
unfolding number_word
number_fails word =
    then_fails _ (Ok (number_in word)) (then_fails _ _ (refuse_fails (not (is_numeral word)) Usage refl) (refuse_fails (nat_le (2 ^ 32) (number_in word)) Usage refl)) refl

demo_words_fail : (words : List Text) → Fits (demo_words words)
unfolding demo_words
demo_words_fail words = bind_fails (parsed demo_app words) _ (parsed_fails demo_app words) (λ rows. number_fails (value_of rows (codes "number")))

pub words_fail : (words : List Text) → or_fails is_of_words (command_of words) ≡ true
unfolding command_of
words_fail [] = refl
words_fail (first ∷ words) =
    choice_fails (bytes_eq first (codes "show")) (show_words (first ∷ words)) _ (show_words_fail (first ∷ words))
    (choice_fails (bytes_eq first (codes "load")) (load_words (first ∷ words)) _ (load_words_fail (first ∷ words))
    (choice_fails (bytes_eq first (codes "link")) (link_words (first ∷ words) >>= λ asked. Ok (Link asked)) _ (bind_fails (link_words (first ∷ words)) _ (link_words_fail (first ∷ words)) (λ asked. refl))
    (choice_fails (bytes_eq first (codes "demo")) (demo_words (first ∷ words) >>= λ number. Ok (Demo number)) _ (bind_fails (demo_words (first ∷ words)) _ (demo_words_fail (first ∷ words)) (λ number. refl))
    (choice_fails (bytes_eq first (codes "init")) (init_words (first ∷ words)) _ (init_words_fail (first ∷ words))
    (choice_fails (bytes_eq first (codes "reach")) (reach_words (first ∷ words)) _ (reach_words_fail (first ∷ words))
    (choice_fails (bytes_eq first (codes "audit")) (audit_words (first ∷ words)) (Err Usage) (audit_words_fail (first ∷ words)) refl))))))
