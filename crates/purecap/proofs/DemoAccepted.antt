-- What holds of the number of `demo`, and why other words are refused.
use Rattle.std.proofs.Common.{◌≡◌, ℕ, ◌^◌, ◌<◌, Bool, true, false, not, nat_lt, List, [], ◌∷◌, length, codes, Result, Ok, Err, refl, sym, ap, subst, ◌∙◌, arith}
use Rattle.std.specs.Prelude.{◌&&◌, nat_le}
use Rattle.std.specs.Char.{is_ascii_digit}
use Rattle.std.specs.List.{list_all}
use Rattle.std.specs.Result.{OkIff}
use Rattle.std.specs.Str.{all_ascii_digits}
use Rattle.std.specs.Str.Parse.{ParsesUnsigned}
use Rattle.std.proofs.lemmas.Bool.Decides.{nat_tests}
use Rattle.std.proofs.lemmas.Str.Parse.{parse_digits, numerals_by_value, tells_all_ascii_digits}
use Rattle.clap.proofs.OnLiterals.{clap_on_literals}
use Rattle.clap.proofs.WalkLemmas.{both}
use Rattle.clap.specs.Walk.{Text}
use Rattle.clap.specs.Words.{is_simple_and_free}
use Rattle.cap_base.specs.Steps.{◌>>◌}
use Rattle.purecap.specs.declared.faults.Failure.{Failure}
use Rattle.purecap.specs.declared.faults.Failure.TheVariants.{Usage}
use Rattle.purecap.specs.WordRules.{parsed, refuse, value_of}
use Rattle.purecap.specs.DemoWords.{demo_app, demo_words, has_digits, has_leading_zero, is_numeral, number_in, number_of}
use Rattle.purecap.proofs.Passing.{bind_passed, then_passed, refuse_passed}

-- the command is simple, and no argument has a rule on another
pub demo_simple : is_simple_and_free demo_app ≡ true
unfolding demo_app clap_on_literals
demo_simple = refl

abbrev accept : ℕ → Result ℕ Failure
accept n = Ok n

same : (m n : ℕ) → accept m ≡ accept n → m ≡ n
same m n e = cc

number_passed : (word : Text) (number : ℕ) → number_of word ≡ Ok number → number < 2 ^ 32
unfolding number_of
number_passed word number h =
    let checks = refuse (not (is_numeral word)) Usage >> refuse (nat_le (2 ^ 32) (number_in word)) Usage in
    let made = then_passed checks (Ok (number_in word)) number h in
    let steps = then_passed (refuse (not (is_numeral word)) Usage) (refuse (nat_le (2 ^ 32) (number_in word)) Usage) tt made.0 in
    let small = refuse_passed (nat_le (2 ^ 32) (number_in word)) Usage steps.1 in
    subst (λ (n : ℕ). n < 2 ^ 32) (same (number_in word) number made.1) (grind (arith, nat_tests, small))

pub demo_passed : (words : List Text) (number : ℕ) → demo_words words ≡ Ok number → number < 2 ^ 32
unfolding demo_words
demo_passed words number h =
    let one = bind_passed (parsed demo_app words) (λ rows. number_of (value_of rows (codes "number"))) number h in
    number_passed (value_of one.0 (codes "number")) number one.2

-- ---- a word that was parsed

all_digits : (word : Text) → list_all is_ascii_digit word ≡ all_ascii_digits word
all_digits [] = refl
all_digits (byte ∷ word) = ap (λ (b : Bool). is_ascii_digit byte && b) (all_digits word)

-- a numeral has digits alone, one at least
digits_of : (word : Text) → is_numeral word ≡ true → (nat_lt 0 (length word) ≡ true) × (all_ascii_digits word ≡ true)
unfolding is_numeral
digits_of word is =
    let parts = both (has_digits word) (not (has_leading_zero word)) is in
    let digits = both (nat_lt 0 (length word)) (list_all is_ascii_digit word) parts.0 in
    (digits.0, sym (all_digits word) ∙ digits.1)

pub no_numeral : (word : Text) → not (is_numeral word) ≡ true → number_of word ≡ Err Usage
unfolding number_of
no_numeral word is = ap (λ (b : Bool). refuse b Usage >> refuse (nat_le (2 ^ 32) (number_in word)) Usage >> Ok (number_in word)) is

module _ (word : Text) (is : is_numeral word ≡ true) where
  by_size : (large : Bool) → nat_le (2 ^ 32) (number_in word) ≡ large → number_of word ≡ (refuse large Usage >> Ok (number_in word))
  unfolding number_of
  by_size large e =
      ap (λ (b : Bool). refuse (not b) Usage >> refuse (nat_le (2 ^ 32) (number_in word)) Usage >> Ok (number_in word)) is
      ∙ ap (λ (b : Bool). refuse b Usage >> Ok (number_in word)) e

  decided : {E : Type 0} (r : Result ℕ E) → ParsesUnsigned 32 10 word r → OkIff r ((0 < length word) × (number_in word < 2 ^ 32)) (number_in word)
  unfolding number_in
  decided r parses = parse_digits (numerals_by_value (λ ds. all_ascii_digits ds ≡ true) tells_all_ascii_digits) 32 word r parses (digits_of word is).1

  pub numeral_read : {E : Type 0} (r : Result ℕ E) (number : ℕ) → r ≡ Ok number → ParsesUnsigned 32 10 word r → number_of word ≡ Ok number
  numeral_read {E} r number same parses =
      let d : ((0 < length word) × (number_in word < 2 ^ 32)) × (number ≡ number_in word) = subst (λ (q : Result ℕ E). OkIff q ((0 < length word) × (number_in word < 2 ^ 32)) (number_in word)) same (decided r parses) in
      let less : number_in word < 2 ^ 32 = d.0.1 in
      let small : nat_le (2 ^ 32) (number_in word) ≡ false = grind (arith, nat_tests, less) in
      by_size false small ∙ ap accept (sym d.1)

  pub numeral_large : {E : Type 0} (e : E) → ParsesUnsigned {E = E} 32 10 word (Err e) → number_of word ≡ Err Usage
  numeral_large e parses = by_size true (is_large (nat_le (2 ^ 32) (number_in word)) refl)
    where
      is_large : (b : Bool) → nat_le (2 ^ 32) (number_in word) ≡ b → nat_le (2 ^ 32) (number_in word) ≡ true
      is_large true same = same
      is_large false same =
          let digits : nat_lt 0 (length word) ≡ true = (digits_of word is).0 in
          let some : 0 < length word = grind (arith, nat_tests, digits) in
          let less : number_in word < 2 ^ 32 = grind (arith, nat_tests, same) in
          absurd (decided (Err e) parses (some, less))
