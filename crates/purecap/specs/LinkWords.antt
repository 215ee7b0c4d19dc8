-- What the words of `link` ask for.
use Rattle.std.specs.Prelude.{◌≡◌, ◌≤◌, ℕ, Bool, true, false, not, nat_lt, List, length, map, codes, Option, Some, option_map, Result, Ok, All, IfSome, string_bytes}
use Rattle.std.specs.Option.{option_map_or}
use Rattle.std.specs.List.{list_any}
use Rattle.clap.specs.Lexer.{usize_max}
use Rattle.clap.specs.Simple.{App, new_app, new_rule, with_rule}
use Rattle.clap.specs.Walk.{Row, Rule, Text, first_of}
use Rattle.cap_base.specs.Check.{number_of}
use Rattle.cap_base.specs.Steps.{◌>>=◌, ◌>>◌}
use Rattle.cap_base.specs.declared.check.Check.TheVariants.{CallCount}
use Rattle.cap_session.specs.Mappings.{IsName}
use Rattle.purecap.specs.declared.faults.Failure.{Failure}
use Rattle.purecap.specs.declared.faults.Failure.TheVariants.{Usage, Limit}
use Rattle.purecap.specs.declared.words.link.LinkWords.{LinkWords as Given}
use Rattle.purecap.specs.WordRules.{has_slash, is_long, is_name, is_path, parsed, refuse, required_option, too_long, value_of, values_of}

-- what `link` is asked for; the name is that of a shared object (DT_SONAME), and a program has none
pub record LinkWords : Type 0 where
  pub output : List ℕ
  pub soname : Option (List ℕ)
  pub inputs : List (List ℕ)

-- ---- the command line

-- a value behind a long word, which may be missing; it is there once at most
abbrev pub long_option : Text → Rule
long_option id = record (new_rule id) { long = Some id }

-- the words behind all other operands, one at least
abbrev pub required_operands : Text → Rule
required_operands id = record (new_rule id) { range = Some (record { start_inclusive = 1; end_inclusive = usize_max }); required = true }

-- `link -o OUT [--shared SONAME] FILE...`
unfoldable pub link_app : App
link_app =
    with_rule (with_rule (with_rule (new_app (codes "link"))
    (required_option (codes "output") 0x6f)) (long_option (codes "shared"))) (required_operands (codes "file"))

-- ---- what the words ask for

abbrev pub is_no_path : Text → Bool
is_no_path word = not (is_path word)

abbrev pub is_no_name : Text → Bool
is_no_name word = not (is_name word)

-- `link` of files that was asked for in this form
unfoldable pub link_of : LinkWords → Result LinkWords Failure
link_of asked =
    refuse (is_no_path asked.output) Usage
    >> refuse (list_any is_no_path asked.inputs) Usage
    >> refuse (option_map_or is_no_name asked.soname false) Usage
    >> refuse (is_long asked.output) too_long
    >> refuse (list_any is_long asked.inputs) too_long
    >> refuse (option_map_or is_long asked.soname false) too_long
    >> refuse (nat_lt 256 (length asked.inputs)) (Limit (number_of CallCount))
    >> Ok asked

-- what the arguments of `link` say
abbrev pub asked_by : List Row → LinkWords
asked_by rows = record {
  output = value_of rows (codes "output");
  soname = first_of (codes "shared") rows;
  inputs = values_of rows (codes "file");
}

unfoldable pub link_words : List Text → Result LinkWords Failure
link_words words = do
  rows ← parsed link_app words
  link_of (asked_by rows)

-- the words that the program was given
abbrev pub link_meant : Given → LinkWords
link_meant words = record {
  output = string_bytes words.output;
  soname = option_map string_bytes words.soname;
  inputs = map string_bytes words.inputs.items;
}

-- ---- what holds of each `link` that is accepted

-- the name of a shared object has no slash
abbrev pub IsSoname : List ℕ → Type 0
IsSoname name = IsName name × (has_slash name ≡ false)

pub record IsLink (asked : LinkWords) : Type 0 where
  pub output : IsName asked.output
  pub inputs : All IsName asked.inputs
  pub few : length asked.inputs ≤ 256
  pub soname : IfSome asked.soname IsSoname
