-- Words, arguments and the rules that the commands share.
use Rattle.std.specs.Prelude.{◌≡◌, ℕ, Bool, true, false, not, ◌&&◌, ◌==◌, nat_lt, List, [], ◌∷◌, length, Some, unwrap_or, Result, Ok, Err}
use Rattle.std.specs.List.{list_any}
use Rattle.clap.specs.Lexer.{usize_max}
use Rattle.clap.specs.Simple.{App, new_rule, matches_of}
use Rattle.clap.specs.Faults.{fault_of}
use Rattle.clap.specs.Kinds.{Kinds}
use Rattle.clap.specs.Walk.{Row, Rule, Text, first_of, all_of}
use Rattle.clap.specs.declared.builder.action.ArgAction.TheVariants.{SetTrue}
use Rattle.cap_base.specs.Check.{number_of}
use Rattle.cap_base.specs.Text.{is_plain}
use Rattle.cap_base.specs.declared.check.Check.TheVariants.{PathLength}
use Rattle.purecap.specs.declared.faults.Failure.{Failure}
use Rattle.purecap.specs.declared.faults.Failure.TheVariants.{Usage, Limit, NoMemory}

-- ---- arguments

-- a word in a place of its own, which must be there
abbrev pub operand : Text → Rule
operand id = record (new_rule id) { required = true }

-- the words behind all other operands, as many as there are
abbrev pub last_operands : Text → Rule
last_operands id = record (new_rule id) { range = Some (record { start_inclusive = 1; end_inclusive = usize_max }) }

-- a value behind a letter, which must be there, or is `value` where it is not; it is there once at most
abbrev pub required_option : Text → ℕ → Rule
required_option id letter = record (new_rule id) { short = Some letter; required = true }

abbrev pub option_or : Text → ℕ → Text → Rule
option_or id letter value = record (new_rule id) { short = Some letter; defaults = value ∷ [] }

-- a word that is there or is not
abbrev pub flag : Text → Rule
flag id = record (new_rule id) { long = Some id; action = Some SetTrue }

-- the matches of words that have no fault; a call for help is one
abbrev pub unless_faulty : Kinds → List Row → Result (List Row) Failure
unless_faulty [] rows = Ok rows
unless_faulty (kind ∷ kinds) rows = Err Usage

-- what the words give to each argument
unfoldable pub parsed : App → List Text → Result (List Row) Failure
parsed app words = unless_faulty (fault_of app words) (matches_of app words)

-- the one value of an argument, and all its values
abbrev pub value_of : List Row → Text → Text
value_of rows id = unwrap_or (first_of id rows) []

abbrev pub values_of : List Row → Text → List Text
values_of rows id = unwrap_or (all_of id rows) []

-- ---- the rules of this program

abbrev pub refuse : Bool → Failure → Result (Unit {0}) Failure
refuse true failure = Err failure
refuse false failure = Ok tt

-- a path has printable ASCII characters alone, and is not empty; a name has no slash either
abbrev pub is_path : Text → Bool
is_path word = nat_lt 0 (length word) && is_plain word

abbrev pub has_slash : Text → Bool
has_slash word = list_any (λ byte. byte == 0x2f) word

abbrev pub is_name : Text → Bool
is_name word = is_path word && not (has_slash word)

-- longer than a path or a name may be
abbrev pub is_long : Text → Bool
is_long word = nat_lt 255 (length word)

abbrev pub too_long : Failure
too_long = Limit (number_of PathLength)

-- ---- what a call gives

-- memory ran out, or the failure is the one that is said here
abbrev pub FailsAs : {Y : Type 0} → Failure → Result Y Failure → Type 0
FailsAs NoMemory said = Unit {0}
FailsAs failure said = said ≡ Err failure

-- a call gives, seen by view, the value or the failure that is said here; memory may run out instead
abbrev pub Meant : {X Y : Type 0} → (X → Y) → Result X Failure → Result Y Failure → Type 0
Meant view (Ok x) said = said ≡ Ok (view x)
Meant view (Err failure) said = FailsAs failure said
