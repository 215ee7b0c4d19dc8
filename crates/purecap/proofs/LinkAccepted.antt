-- What holds of the words of `link` that are accepted.
use Rattle.std.proofs.Common.{Global, ◌≡◌, ℕ, ◌≢◌, Bool, true, false, not, nat_lt, List, [], ◌∷◌, length, Option, Some, None, Result, Ok, refl, sym, subst, arith}
use Rattle.std.specs.Prelude.{All, IfSome, nat_le, map, String}
use Rattle.std.specs.String.{string_bytes}
use Rattle.std.specs.List.{list_any}
use Rattle.std.specs.Option.{option_map_or}
use Rattle.std.proofs.lemmas.Bool.{not-false, or_parts}
use Rattle.std.proofs.lemmas.Bool.Decides.{nat_tests}
use Rattle.std.proofs.lemmas.List.Elements.{All-nil, All-cons, All-head, All-tail}
use Rattle.clap.proofs.WalkLemmas.{both}
use Rattle.clap.specs.Walk.{Text}
use Rattle.cap_base.specs.Check.{number_of}
use Rattle.cap_base.specs.Steps.{◌>>◌}
use Rattle.cap_base.specs.Text.{is_plain, is_plain_byte}
use Rattle.cap_base.specs.declared.check.Check.TheVariants.{CallCount}
use Rattle.cap_base.specs.declared.kind.Kind.{Kind}
use Rattle.cap_link.specs.Linked.{IsInputName}
use Rattle.cap_session.specs.Mappings.{IsName}
use Rattle.cap_syms.specs.Output.{soname_of}
use Rattle.purecap.specs.declared.faults.Failure.{Failure}
use Rattle.purecap.specs.declared.faults.Failure.TheVariants.{Usage, Limit}
use Rattle.purecap.specs.WordRules.{has_slash, is_long, is_name, is_path, parsed, refuse, too_long}
use Rattle.purecap.specs.LinkWords.{LinkWords, IsLink, IsSoname, asked_by, is_no_name, is_no_path, link_app, link_of, link_words}
use Rattle.purecap.specs.Linking.{kind_of}
use Rattle.purecap.proofs.Passing.{bind_passed, then_passed, refuse_passed, path_passed}

pub paths_passed : (inputs : List Text) → list_any is_no_path inputs ≡ false → list_any is_long inputs ≡ false → All IsName inputs
paths_passed [] good short = All-nil IsName
paths_passed (input ∷ inputs) good short =
    let one = or_parts (is_no_path input) (list_any is_no_path inputs) good in
    let two = or_parts (is_long input) (list_any is_long inputs) short in
    All-cons IsName input inputs (path_passed input (not-false (is_path input) one.0) two.0) (paths_passed inputs one.1 two.1)

not-true : (b : Bool) → not b ≡ true → b ≡ false
not-true true e = cc
not-true false e = refl

name_passed : (soname : Option Text) → option_map_or is_no_name soname false ≡ false → option_map_or is_long soname false ≡ false → IfSome soname IsSoname
name_passed None good short = tt
name_passed (Some name) good short =
    let parts = both (is_path name) (not (has_slash name)) (not-false (is_name name) good) in
    (path_passed name parts.0 short, not-true (has_slash name) parts.1)

abbrev accept : LinkWords → Result LinkWords Failure
accept asked = Ok asked

same_asked : (a b : LinkWords) → accept a ≡ accept b → a ≡ b
same_asked a b h = cc

link_of_passed : (asked given : LinkWords) → link_of asked ≡ Ok given → IsLink given
unfolding link_of
link_of_passed asked given h =
    let output = refuse (is_no_path asked.output) Usage in
    let inputs = output >> refuse (list_any is_no_path asked.inputs) Usage in
    let soname = inputs >> refuse (option_map_or is_no_name asked.soname false) Usage in
    let short_output = soname >> refuse (is_long asked.output) too_long in
    let short_inputs = short_output >> refuse (list_any is_long asked.inputs) too_long in
    let short_soname = short_inputs >> refuse (option_map_or is_long asked.soname false) too_long in
    let few = short_soname >> refuse (nat_lt 256 (length asked.inputs)) (Limit (number_of CallCount)) in
    let made = then_passed few (Ok asked) given h in
    let h7 = then_passed short_soname (refuse (nat_lt 256 (length asked.inputs)) (Limit (number_of CallCount))) tt made.0 in
    let h6 = then_passed short_inputs (refuse (option_map_or is_long asked.soname false) too_long) tt h7.0 in
    let h5 = then_passed short_output (refuse (list_any is_long asked.inputs) too_long) tt h6.0 in
    let h4 = then_passed soname (refuse (is_long asked.output) too_long) tt h5.0 in
    let h3 = then_passed inputs (refuse (option_map_or is_no_name asked.soname false) Usage) tt h4.0 in
    let h2 = then_passed output (refuse (list_any is_no_path asked.inputs) Usage) tt h3.0 in
    let count = refuse_passed (nat_lt 256 (length asked.inputs)) (Limit (number_of CallCount)) h7.1 in
    subst IsLink (same_asked asked given made.1) (record {
      output = path_passed asked.output (not-false (is_path asked.output) (refuse_passed _ Usage h2.0)) (refuse_passed (is_long asked.output) too_long h4.1);
      inputs = paths_passed asked.inputs (refuse_passed _ Usage h2.1) (refuse_passed (list_any is_long asked.inputs) too_long h5.1);
      few = grind (arith, nat_tests, count);
      soname = name_passed asked.soname (refuse_passed _ Usage h3.1) (refuse_passed (option_map_or is_long asked.soname false) too_long h6.1);
    })

pub link_passed : (words : List Text) (asked : LinkWords) → link_words words ≡ Ok asked → IsLink asked
unfolding link_words
link_passed words asked h =
    let one = bind_passed (parsed link_app words) (λ rows. link_of (asked_by rows)) asked h in
    link_of_passed (asked_by one.0) asked one.2

-- ---- names of inputs

no_zeros : (text : List ℕ) → is_plain text ≡ true → All (λ b. b ≢ 0) text
no_zeros [] plain = All-nil (λ b. b ≢ 0)
no_zeros (b ∷ text) plain =
    let parts = both (is_plain_byte b) (is_plain text) plain in
    let above = (both (nat_le 0x20 b) (nat_le b 0x7e) parts.0).0 in
    All-cons (λ b. b ≢ 0) b text (λ e. grind (arith, nat_tests, above, e)) (no_zeros text parts.1)

pub input_name : (name : List ℕ) → IsName name → IsInputName name
input_name name is = record { short = is.1.short; no_zero = no_zeros name is.1.plain }

soname_named : (soname : Option (List ℕ)) → IfSome soname IsSoname → IfSome (soname_of (kind_of soname)) IsInputName
soname_named None is = tt
soname_named (Some name) is = input_name name is.0

pub kind_named : (soname : Option (List ℕ)) (kind : Kind) → kind ≡ kind_of soname → IfSome soname IsSoname → IfSome (soname_of kind) IsInputName
kind_named soname kind same is = subst (λ (k : Kind). IfSome (soname_of k) IsInputName) (sym same) (soname_named soname is)

-- the words of inputs that were accepted
pub inputs_named : (inputs : List (String Global)) → All IsName (map string_bytes inputs) → All (λ (input : String Global). IsName (string_bytes input)) inputs
inputs_named [] all = All-nil (λ (input : String Global). IsName (string_bytes input))
inputs_named (input ∷ inputs) all =
    All-cons (λ (i : String Global). IsName (string_bytes i)) input inputs (All-head IsName (string_bytes input) (map string_bytes inputs) all)
    (inputs_named inputs (All-tail IsName (string_bytes input) (map string_bytes inputs) all))
