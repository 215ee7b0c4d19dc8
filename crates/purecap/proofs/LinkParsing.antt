-- What the words of `link` give.
use Rattle.std.proofs.Common.{Global, ◌≡◌, List, map, Option, Some, None, option_map, refl, sym, ap, ◌∙◌}
use Rattle.std.specs.Borrow.{Bor}
use Rattle.std.specs.List.{list_any}
use Rattle.std.specs.Prelude.{string_bytes, true, String}
use Rattle.clap.proofs.OnLiterals.{clap_on_literals}
use Rattle.clap.proofs.WalkLemmas.{first_value-rows, list_any-map}
use Rattle.clap.specs.Words.{Text, first_of, first_value, is_simple_and_free, rows_of}
use Rattle.clap.specs.declared.parser.matches.Found.{Found}
use Rattle.purecap.specs.WordRules.{is_long}
use Rattle.purecap.specs.LinkWords.{is_no_path, link_app}

-- the command is simple, and no argument has a rule on another
pub link_simple : is_simple_and_free link_app ≡ true
unfolding link_app clap_on_literals
link_simple = refl

pub bad_paths : (inputs : List (String Global)) → list_any (λ (input : String Global). is_no_path (string_bytes input)) inputs ≡ list_any is_no_path (map string_bytes inputs)
bad_paths inputs = list_any-map is_no_path string_bytes inputs

pub long_paths : (inputs : List (String Global)) → list_any (λ (input : String Global). is_long (string_bytes input)) inputs ≡ list_any is_long (map string_bytes inputs)
long_paths inputs = list_any-map is_long string_bytes inputs

-- the value of an argument that has one, and of one that has none
pub soname_read : (f : Found) (id : Text) (o : Option (Bor Text)) (text : Bor Text) → option_map (λ s. s.now) o ≡ first_value f id → o ≡ Some text → first_of id (rows_of f) ≡ Some text.now
soname_read f id o text read is = sym (first_value-rows f id) ∙ sym read ∙ ap (option_map (λ s. s.now)) is

pub no_soname_read : (f : Found) (id : Text) (o : Option (Bor Text)) → option_map (λ s. s.now) o ≡ first_value f id → o ≡ None → first_of id (rows_of f) ≡ None
no_soname_read f id o read is = sym (first_value-rows f id) ∙ sym read ∙ ap (option_map (λ s. s.now)) is
