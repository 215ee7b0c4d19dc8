-- What a parse of a simple command gives.
use Rattle.std.proofs.Common.{◌≡◌, ◌⊎◌, inl, inr, true, List, [], ◌∷◌, map, Option, Some, None, Ok, Err, refl, sym, ap, ◌∙◌}
use Rattle.std.specs.Prelude.{unwrap_or, option_map, string_bytes}
use Rattle.std.specs.Borrow.{Bor}
use Rattle.std.specs.List.{list_any}
use Rattle.cap_session.specs.Calls.{Call}
use Rattle.purecap.specs.declared.words.program.CallWord.{CallWord}
use Rattle.clap.specs.Words.{App, Row, Text, first_value, found_of, fault_of, is_simple, is_simple_and_free, built, matches_of, rows_of, HasMatchesOf, IsAmong}
use Rattle.clap.specs.Faults.{is_free_app}
use Rattle.clap.specs.Matches.{matched_of, raw_values}
use Rattle.clap.specs.declared.error.kind.ErrorKind.{ErrorKind}
use Rattle.clap.specs.declared.error.kind.ErrorKind.TheVariants.{OutOfMemory}
use Rattle.clap.specs.declared.parser.matches.ArgMatches.{ArgMatches}
use Rattle.clap.specs.declared.parser.matches.Found.{Found}
use Rattle.clap.proofs.OnLiterals.{clap_on_literals}
use Rattle.clap.proofs.WalkLemmas.{first_value-rows, raw_values-rows, list_any-map, both}
use Rattle.purecap.specs.declared.faults.Failure.TheVariants.{Usage}
use Rattle.purecap.specs.WordRules.{is_long, unless_faulty, parsed, value_of, values_of}
use Rattle.purecap.specs.ProgramWords.{call_meant, has_long_name}
use Rattle.purecap.specs.Words.{show_app, load_app, init_app, reach_app, audit_app}

taken : (kinds : List ErrorKind) (rows found : List Row) → kinds ≡ [] → found ≡ rows → unless_faulty kinds rows ≡ Ok found
taken kinds rows found none same = ap (λ k. unless_faulty k rows) none ∙ ap (λ r. Ok r) (sym same)

-- a parse that succeeds
pub parse_takes : (app : App) (words : List Text) (m : ArgMatches) → is_simple_and_free app ≡ true → fault_of app words ≡ [] → HasMatchesOf app words m → parsed app words ≡ Ok (rows_of (found_of m))
unfolding parsed
parse_takes app words m free none are =
    taken (fault_of app words) (matches_of app words) (rows_of (found_of m)) none (are (both (is_simple app) (is_free_app (built app)) free).0).0

refused : (kinds : List ErrorKind) (rows : List Row) (kind : ErrorKind) → (kind ≡ OutOfMemory) ⊎ IsAmong kind kinds → (kind ≡ OutOfMemory → ⊥) → unless_faulty kinds rows ≡ Err Usage
refused [] rows kind (inl h) other = absurd (other h)
refused [] rows kind (inr h) other = absurd h
refused (k ∷ ks) rows kind h other = refl

-- a parse that fails for another cause than want of memory
pub parse_refuses : (app : App) (words : List Text) (kind : ErrorKind) → (kind ≡ OutOfMemory) ⊎ IsAmong kind (fault_of app words) → (kind ≡ OutOfMemory → ⊥) → parsed app words ≡ Err Usage
unfolding parsed
parse_refuses app words kind kinds other = refused (fault_of app words) (matches_of app words) kind kinds other

-- the one value of an argument
pub value_read : (f : Found) (id : Text) (o : Option (Bor Text)) (d : Bor Text) → d.now ≡ [] → option_map (λ s. s.now) o ≡ first_value f id → (unwrap_or o d).now ≡ value_of (rows_of f) id
value_read f id o d none read = go o ∙ ap (λ t. unwrap_or t []) (read ∙ first_value-rows f id)
  where
    go : (o : Option (Bor Text)) → (unwrap_or o d).now ≡ unwrap_or (option_map (λ s. s.now) o) []
    go None = none
    go (Some s) = refl

-- all values of an argument that has some, and of one that has none
pub values_read : (f : Found) (id : Text) (o : Option (Bor (List (Bor Text)))) (texts : Bor (List (Bor Text))) → option_map (λ s. map (λ v. v.now) s.now) o ≡ option_map raw_values (matched_of f id) → o ≡ Some texts
    → values_of (rows_of f) id ≡ map (λ v. v.now) texts.now
values_read f id o texts read is =
    ap (λ t. unwrap_or t []) (sym (raw_values-rows f id) ∙ sym read ∙ ap (option_map (λ s. map (λ v. v.now) s.now)) is)

pub no_values_read : (f : Found) (id : Text) (o : Option (Bor (List (Bor Text)))) → option_map (λ s. map (λ v. v.now) s.now) o ≡ option_map raw_values (matched_of f id) → o ≡ None → values_of (rows_of f) id ≡ []
no_values_read f id o read is =
    ap (λ t. unwrap_or t []) (sym (raw_values-rows f id) ∙ sym read ∙ ap (option_map (λ s. map (λ v. v.now) s.now)) is)

-- the commands are simple, and no argument has a rule on another
pub show_simple : is_simple_and_free show_app ≡ true
unfolding show_app clap_on_literals
show_simple = refl

pub load_simple : is_simple_and_free load_app ≡ true
unfolding load_app clap_on_literals
load_simple = refl

pub init_simple : is_simple_and_free init_app ≡ true
unfolding init_app clap_on_literals
init_simple = refl

pub reach_simple : is_simple_and_free reach_app ≡ true
unfolding reach_app clap_on_literals
reach_simple = refl

pub audit_simple : is_simple_and_free audit_app ≡ true
unfolding audit_app clap_on_literals
audit_simple = refl

pub long_names : (calls : List CallWord) → list_any (λ (call : CallWord). is_long (string_bytes call.name)) calls ≡ has_long_name (map call_meant calls)
long_names calls = list_any-map (λ (call : Call). is_long call.name) call_meant calls
