-- What words say of a program that is to be loaded: where its libraries stand, how names are looked up, the program itself,
-- and what is opened once it has started. `load`, `init` and `audit` ask for one alike.
use Rattle.std.specs.Prelude.{◌≡◌, ◌≤◌, ℕ, Bool, false, not, ◌==◌, nat_lt, List, length, map, codes, Result, Ok, Err, if◌then◌else◌, All, string_bytes}
use Rattle.std.specs.List.{list_any, before_first, after_first}
use Rattle.std.specs.Str.{bytes_eq}
use Rattle.clap.specs.Simple.{App, with_rule}
use Rattle.clap.specs.Walk.{Row, Text}
use Rattle.cap_base.specs.Check.{number_of}
use Rattle.cap_base.specs.Steps.{◌>>=◌, ◌>>◌, gather}
use Rattle.cap_base.specs.declared.check.Check.TheVariants.{CallCount}
use Rattle.cap_scope.specs.declared.choice.Rule.{Rule as LookUp}
use Rattle.cap_scope.specs.declared.choice.Rule.TheVariants.{NonWeak, First}
use Rattle.cap_session.specs.declared.form.Form.{Form}
use Rattle.cap_session.specs.declared.form.Form.TheVariants as forms
use Rattle.cap_session.specs.Calls.{Call}
use Rattle.cap_session.specs.Mappings.{IsName}
use Rattle.purecap.specs.declared.faults.Failure.{Failure}
use Rattle.purecap.specs.declared.faults.Failure.TheVariants.{Usage, Limit}
use Rattle.purecap.specs.declared.words.program.ProgramWords.{ProgramWords as Given}
use Rattle.purecap.specs.declared.words.program.CallWord.{CallWord}
use Rattle.purecap.specs.WordRules.{operand, last_operands, option_or, flag, value_of, values_of, refuse, has_slash, is_long, is_name, is_path, too_long}

-- a program, and the libraries that are opened later
pub record ProgramWords : Type 0 where
  pub dir : List ℕ
  pub rule : LookUp
  pub main : List ℕ
  pub calls : List Call

-- a command's own arguments, and behind them `[-L DIR] [--first-found] MAIN [CALL...]`
abbrev pub with_program : App → App
with_program app =
    with_rule (with_rule (with_rule (with_rule app
    (option_or (codes "dir") 0x4c (codes "."))) (flag (codes "first-found")))
    (operand (codes "main"))) (last_operands (codes "call"))

-- the form of a call, by what stands before the colon
abbrev pub form_of : Text → Result Form Failure
form_of word =
    if bytes_eq word (codes "open") then Ok forms.Open
    else (if bytes_eq word (codes "global") then Ok forms.Global
    else (if bytes_eq word (codes "try") then Ok forms.Try
    else Err Usage))

-- `open:NAME`, `global:NAME` or `try:NAME`
unfoldable pub call_of : Text → Result Call Failure
call_of word = do
  form ← form_of (before_first (λ byte. byte == 0x3a) word)
  let name = after_first (λ byte. byte == 0x3a) word
  refuse (not (is_name name)) Usage >> Ok (record { form = form; name = name })

-- the rule by which definitions are chosen
abbrev pub rule_of : List Row → LookUp
rule_of rows = if bytes_eq (value_of rows (codes "first-found")) (codes "true") then First else NonWeak

-- what the arguments say of the program
unfoldable pub program_of : List Row → Result ProgramWords Failure
program_of rows = do
  calls ← gather call_of (values_of rows (codes "call"))
  Ok (record { dir = value_of rows (codes "dir"); rule = rule_of rows; main = value_of rows (codes "main"); calls = calls })

-- its paths are paths
unfoldable pub paths_checked : ProgramWords → Result (Unit {0}) Failure
paths_checked asked = refuse (not (is_path asked.dir)) Usage >> refuse (not (is_path asked.main)) Usage

-- the name of a call is too long
abbrev pub has_long_name : List Call → Bool
has_long_name calls = list_any (λ call. is_long call.name) calls

-- no path and no name is too long, and there are not too many calls
unfoldable pub limits_checked : ProgramWords → Result (Unit {0}) Failure
limits_checked asked =
    refuse (is_long asked.dir) too_long
    >> refuse (is_long asked.main) too_long
    >> refuse (has_long_name asked.calls) too_long
    >> refuse (nat_lt 64 (length asked.calls)) (Limit (number_of CallCount))

-- ---- the program that was given

abbrev pub call_meant : CallWord → Call
call_meant word = record { form = word.form; name = string_bytes word.name }

abbrev pub program_meant : Given → ProgramWords
program_meant words = record {
  dir = string_bytes words.dir;
  rule = words.rule;
  main = string_bytes words.main;
  calls = map call_meant words.calls.items;
}

-- ---- what holds of each program that is accepted

-- a name without a slash
abbrev pub IsCallName : Call → Type 0
IsCallName call = IsName call.name × (has_slash call.name ≡ false)

pub record IsProgram (asked : ProgramWords) : Type 0 where
  pub dir : IsName asked.dir
  pub main : IsName asked.main
  pub names : All IsCallName asked.calls
  pub few : length asked.calls ≤ 64
