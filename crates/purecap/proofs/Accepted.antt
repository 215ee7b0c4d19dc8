-- What holds of the words that are accepted, and why the others are refused.
use Rattle.std.proofs.Common.{◌≡◌, Bool, true, false, cond, not, nat_lt, List, [], ◌∷◌, length, codes, Result, Ok, Err, IfOk, refl, sym, ap, subst, ◌∙◌, arith}
use Rattle.std.specs.Prelude.{All, ◌==◌}
use Rattle.std.specs.List.{before_first, after_first}
use Rattle.std.specs.Str.{bytes_eq}
use Rattle.std.proofs.lemmas.Bool.{not-false, or_parts}
use Rattle.std.proofs.lemmas.Bool.Decides.{nat_tests}
use Rattle.std.proofs.lemmas.List.Elements.{All-nil, All-cons}
use Rattle.clap.proofs.WalkLemmas.{both}
use Rattle.clap.specs.Walk.{Row, Text}
use Rattle.cap_base.specs.Check.{number_of}
use Rattle.cap_base.specs.Steps.{◌>>=◌, ◌>>◌, gather}
use Rattle.cap_base.specs.declared.check.Check.TheVariants.{CallCount}
use Rattle.cap_session.specs.Calls.{Call}
use Rattle.purecap.specs.declared.faults.Failure.{Failure}
use Rattle.purecap.specs.declared.faults.Failure.TheVariants.{Usage, Limit}
use Rattle.purecap.specs.declared.words.Command.{Command as Given}
use Rattle.purecap.specs.WordRules.{Meant, has_slash, is_long, is_name, is_path, parsed, refuse, too_long, value_of, values_of}
use Rattle.purecap.specs.LinkWords.{link_words}
use Rattle.purecap.proofs.Passing.{bind_passed, then_passed, refuse_passed, path_passed}
use Rattle.purecap.specs.DemoWords.{demo_words}
use Rattle.purecap.proofs.LinkAccepted.{link_passed}
use Rattle.purecap.proofs.DemoAccepted.{demo_passed}
use Rattle.purecap.specs.ProgramWords.{ProgramWords, IsCallName, IsProgram, call_of, form_of, has_long_name, limits_checked, paths_checked, program_of}
use Rattle.purecap.specs.SlotWords.{slot_of}
use Rattle.purecap.specs.Words.{Command, Show, Load, Link, Demo, Init, Reach, Audit, LoadWords, IsAccepted, audit_app, audit_of, audit_words, command_of, init_app, init_of, init_words, load_app, load_of, load_words, meaning, reach_app, reach_of, reach_words, show_app, show_of, show_words}

choice_passed : {A Goal : Type 0} (b : Bool) (x y z : A) → cond b x y ≡ z → (x ≡ z → Goal) → (y ≡ z → Goal) → Goal
choice_passed true x y z h first second = first h
choice_passed false x y z h first second = second h

abbrev accept : Command → Result Command Failure
accept command = Ok command

-- ---- names

call_passed : (word : Text) (call : Call) → call_of word ≡ Ok call → is_name call.name ≡ true
unfolding call_of
call_passed word call h =
    let one = bind_passed (form_of (before_first (λ byte. byte == 0x3a) word)) _ call h in
    let two = then_passed (refuse (not (is_name (after_first (λ byte. byte == 0x3a) word))) Usage) _ call one.2 in
    let name : after_first (λ byte. byte == 0x3a) word ≡ call.name = ap (λ (r : Result Call Failure). name_in r) two.1 in
    subst (λ t. is_name t ≡ true) name (not-false (is_name (after_first (λ byte. byte == 0x3a) word)) (refuse_passed _ Usage two.0))
  where
    name_in : Result Call Failure → Text
    name_in (Ok c) = c.name
    name_in (Err e) = []

calls_passed : (words : List Text) (calls : List Call) → gather call_of words ≡ Ok calls → has_long_name calls ≡ false → All IsCallName calls
calls_passed [] [] h short = All-nil IsCallName
calls_passed [] (call ∷ calls) h short = absurd (cc)
calls_passed (word ∷ words) calls h short =
    let one = bind_passed (call_of word) (λ y. gather call_of words >>= λ ys. Ok (y ∷ ys)) calls h in
    let two = bind_passed (gather call_of words) (λ ys. Ok (one.0 ∷ ys)) calls one.2 in
    let made : one.0 ∷ two.0 ≡ calls = ap calls_in two.2 in
    let parts = or_parts (is_long one.0.name) (has_long_name two.0) (subst (λ cs. has_long_name cs ≡ false) (sym made) short) in
    let name = both (is_path one.0.name) (not (has_slash one.0.name)) (call_passed word one.0 one.1) in
    subst (All IsCallName) made (All-cons IsCallName one.0 two.0 (path_passed one.0.name name.0 parts.0, not-true (has_slash one.0.name) name.1) (calls_passed words two.0 two.1 parts.1))
  where
    calls_in : Result (List Call) Failure → List Call
    calls_in (Ok cs) = cs
    calls_in (Err e) = []

    not-true : (b : Bool) → not b ≡ true → b ≡ false
    not-true true e = cc
    not-true false e = refl

-- ---- commands

same_command : (a b : Command) → accept a ≡ accept b → a ≡ b
same_command a b h = cc

show_passed : (image : Text) (command : Command) → show_of image ≡ Ok command → IsAccepted command
unfolding show_of
show_passed image command h =
    let made = then_passed (refuse (not (is_path image)) Usage >> refuse (is_long image) too_long) (Ok (Show image)) command h in
    let steps = then_passed (refuse (not (is_path image)) Usage) (refuse (is_long image) too_long) tt made.0 in
    subst IsAccepted (same_command (Show image) command made.1)
    (path_passed image (not-false (is_path image) (refuse_passed _ Usage steps.0)) (refuse_passed (is_long image) too_long steps.1))

-- a program whose checks are passed, and whose calls were read
program_passed : (asked : ProgramWords) (words : List Text) → gather call_of words ≡ Ok asked.calls → paths_checked asked ≡ Ok tt → limits_checked asked ≡ Ok tt → IsProgram asked
unfolding paths_checked limits_checked
program_passed asked words calls paths limits =
    let two = then_passed (refuse (not (is_path asked.dir)) Usage) (refuse (not (is_path asked.main)) Usage) tt paths in
    let short_dir = refuse (is_long asked.dir) too_long in
    let short_main = short_dir >> refuse (is_long asked.main) too_long in
    let short_names = short_main >> refuse (has_long_name asked.calls) too_long in
    let h4 = then_passed short_names (refuse (nat_lt 64 (length asked.calls)) (Limit (number_of CallCount))) tt limits in
    let h3 = then_passed short_main (refuse (has_long_name asked.calls) too_long) tt h4.0 in
    let h2 = then_passed short_dir (refuse (is_long asked.main) too_long) tt h3.0 in
    let count = refuse_passed (nat_lt 64 (length asked.calls)) (Limit (number_of CallCount)) h4.1 in
    record {
      dir = path_passed asked.dir (not-false (is_path asked.dir) (refuse_passed _ Usage two.0)) (refuse_passed (is_long asked.dir) too_long h2.0);
      main = path_passed asked.main (not-false (is_path asked.main) (refuse_passed _ Usage two.1)) (refuse_passed (is_long asked.main) too_long h2.1);
      names = calls_passed words asked.calls calls (refuse_passed (has_long_name asked.calls) too_long h3.1);
      few = grind (arith, nat_tests, count);
    }

-- the calls of a program that was read
program_calls : (rows : List Row) (asked : ProgramWords) → program_of rows ≡ Ok asked → gather call_of (values_of rows (codes "call")) ≡ Ok asked.calls
unfolding program_of
program_calls rows asked h =
    let one = bind_passed (gather call_of (values_of rows (codes "call"))) _ asked h in
    one.1 ∙ ap (λ (r : Result ProgramWords Failure). Ok (calls_in r)) one.2
  where
    calls_in : Result ProgramWords Failure → List Call
    calls_in (Ok p) = p.calls
    calls_in (Err e) = []

load_passed : (asked : LoadWords) (words : List Text) (command : Command) → gather call_of words ≡ Ok asked.program.calls → load_of asked ≡ Ok command → IsAccepted command
unfolding load_of
load_passed asked words command calls h =
    let image = refuse (not (is_path asked.image)) Usage in
    let paths = image >> paths_checked asked.program in
    let short = paths >> refuse (is_long asked.image) too_long in
    let made = then_passed (short >> limits_checked asked.program) (Ok (Load asked)) command h in
    let h3 = then_passed short (limits_checked asked.program) tt made.0 in
    let h2 = then_passed paths (refuse (is_long asked.image) too_long) tt h3.0 in
    let h1 = then_passed image (paths_checked asked.program) tt h2.0 in
    subst IsAccepted (same_command (Load asked) command made.1) (record {
      image = path_passed asked.image (not-false (is_path asked.image) (refuse_passed _ Usage h1.0)) (refuse_passed (is_long asked.image) too_long h2.1);
      program = program_passed asked.program words calls h1.1 h3.1;
    })

init_passed : (asked : ProgramWords) (words : List Text) (command : Command) → gather call_of words ≡ Ok asked.calls → init_of asked ≡ Ok command → IsAccepted command
unfolding init_of
init_passed asked words command calls h =
    let made = then_passed (paths_checked asked >> limits_checked asked) (Ok (Init asked)) command h in
    let checks = then_passed (paths_checked asked) (limits_checked asked) tt made.0 in
    subst IsAccepted (same_command (Init asked) command made.1) (program_passed asked words calls checks.0 checks.1)

reach_passed : (image word : Text) (command : Command) → reach_of image word ≡ Ok command → IsAccepted command
unfolding reach_of
reach_passed image word command h =
    let one = then_passed (refuse (not (is_path image)) Usage) _ command h in
    let two = bind_passed (slot_of word) _ command one.1 in
    let three = then_passed (refuse (is_long image) too_long) (Ok (Reach image two.0)) command two.2 in
    subst IsAccepted (same_command (Reach image two.0) command three.1)
    (path_passed image (not-false (is_path image) (refuse_passed _ Usage one.0)) (refuse_passed (is_long image) too_long three.0))

audit_passed : (image : Text) (asked : ProgramWords) (words : List Text) (command : Command) → gather call_of words ≡ Ok asked.calls → audit_of image asked ≡ Ok command → IsAccepted command
unfolding audit_of
audit_passed image asked words command calls h =
    let path = refuse (not (is_path image)) Usage in
    let paths = path >> paths_checked asked in
    let short = paths >> refuse (is_long image) too_long in
    let made = then_passed (short >> limits_checked asked) (Ok (Audit image asked)) command h in
    let h3 = then_passed short (limits_checked asked) tt made.0 in
    let h2 = then_passed paths (refuse (is_long image) too_long) tt h3.0 in
    let h1 = then_passed path (paths_checked asked) tt h2.0 in
    subst IsAccepted (same_command (Audit image asked) command made.1) (
      path_passed image (not-false (is_path image) (refuse_passed _ Usage h1.0)) (refuse_passed (is_long image) too_long h2.1),
      program_passed asked words calls h1.1 h3.1,
    )

show_words_passed : (words : List Text) (command : Command) → show_words words ≡ Ok command → IsAccepted command
unfolding show_words
show_words_passed words command h =
    let one = bind_passed (parsed show_app words) (λ rows. show_of (value_of rows (codes "image"))) command h in
    show_passed (value_of one.0 (codes "image")) command one.2

load_words_passed : (words : List Text) (command : Command) → load_words words ≡ Ok command → IsAccepted command
unfolding load_words
load_words_passed words command h =
    let one = bind_passed (parsed load_app words) (λ rows. program_of rows >>= λ program. load_of (record { image = value_of rows (codes "image"); program = program })) command h in
    let two = bind_passed (program_of one.0) (λ program. load_of (record { image = value_of one.0 (codes "image"); program = program })) command one.2 in
    load_passed (record { image = value_of one.0 (codes "image"); program = two.0 }) (values_of one.0 (codes "call")) command (program_calls one.0 two.0 two.1) two.2

init_words_passed : (words : List Text) (command : Command) → init_words words ≡ Ok command → IsAccepted command
unfolding init_words
init_words_passed words command h =
    let one = bind_passed (parsed init_app words) (λ rows. program_of rows >>= λ program. init_of program) command h in
    let two = bind_passed (program_of one.0) (λ program. init_of program) command one.2 in
    init_passed two.0 (values_of one.0 (codes "call")) command (program_calls one.0 two.0 two.1) two.2

reach_words_passed : (words : List Text) (command : Command) → reach_words words ≡ Ok command → IsAccepted command
unfolding reach_words
reach_words_passed words command h =
    let one = bind_passed (parsed reach_app words) (λ rows. reach_of (value_of rows (codes "image")) (value_of rows (codes "slot"))) command h in
    reach_passed (value_of one.0 (codes "image")) (value_of one.0 (codes "slot")) command one.2

audit_words_passed : (words : List Text) (command : Command) → audit_words words ≡ Ok command → IsAccepted command
unfolding audit_words
audit_words_passed words command h =
    let one = bind_passed (parsed audit_app words) (λ rows. program_of rows >>= λ program. audit_of (value_of rows (codes "image")) program) command h in
    let two = bind_passed (program_of one.0) (λ program. audit_of (value_of one.0 (codes "image")) program) command one.2 in
    audit_passed (value_of one.0 (codes "image")) two.0 (values_of one.0 (codes "call")) command (program_calls one.0 two.0 two.1) two.2

link_command_passed : (words : List Text) (command : Command) → (link_words words >>= λ asked. Ok (Link asked)) ≡ Ok command → IsAccepted command
link_command_passed words command h =
    let one = bind_passed (link_words words) (λ asked. Ok (Link asked)) command h in
    subst IsAccepted (same_command (Link one.0) command one.2) (link_passed words one.0 one.1)

demo_command_passed : (words : List Text) (command : Command) → (demo_words words >>= λ number. Ok (Demo number)) ≡ Ok command → IsAccepted command
demo_command_passed words command h =
    let one = bind_passed (demo_words words) (λ number. Ok (Demo number)) command h in
    subst IsAccepted (same_command (Demo one.0) command one.2) (demo_passed words one.0 one.1)

pub command_passed : (words : List Text) (command : Command) → command_of words ≡ Ok command → IsAccepted command
unfolding command_of
command_passed [] command h = absurd (cc)
command_passed (first ∷ words) command h =
    choice_passed (bytes_eq first (codes "show")) (show_words (first ∷ words)) _ (Ok command) h (show_words_passed (first ∷ words) command) (λ h.
    choice_passed (bytes_eq first (codes "load")) (load_words (first ∷ words)) _ (Ok command) h (load_words_passed (first ∷ words) command) (λ h.
    choice_passed (bytes_eq first (codes "link")) (link_words (first ∷ words) >>= λ asked. Ok (Link asked)) _ (Ok command) h (link_command_passed (first ∷ words) command) (λ h.
    choice_passed (bytes_eq first (codes "demo")) (demo_words (first ∷ words) >>= λ number. Ok (Demo number)) _ (Ok command) h (demo_command_passed (first ∷ words) command) (λ h.
    choice_passed (bytes_eq first (codes "init")) (init_words (first ∷ words)) _ (Ok command) h (init_words_passed (first ∷ words) command) (λ h.
    choice_passed (bytes_eq first (codes "reach")) (reach_words (first ∷ words)) _ (Ok command) h (reach_words_passed (first ∷ words) command) (λ h.
    choice_passed (bytes_eq first (codes "audit")) (audit_words (first ∷ words)) (Err Usage) (Ok command) h (audit_words_passed (first ∷ words) command) (λ h. absurd (cc))))))))

-- each command that is accepted has what the definition promises
pub accepted : (words : List Text) (given : Result Given Failure) → Meant meaning given (command_of words) → IfOk given (λ command. IsAccepted (meaning command))
accepted words (Ok command) meant = command_passed words (meaning command) meant
accepted words (Err failure) meant = tt
