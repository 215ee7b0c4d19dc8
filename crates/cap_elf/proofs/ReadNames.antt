-- The names of the libraries that an object that was read needs, and its own.
use Rattle.std.proofs.Common.{◌≡◌, ℕ, ◌<◌, List, [], length, None, Ok, subst, arith}
use Rattle.std.specs.Prelude.{ok_or, not, ◌&&◌, ◌==◌, nat_lt, All, IfSome}
use Rattle.std.proofs.lemmas.Bool.{ltb-false, eqb-false, and_parts, not-false, not-true}
use Rattle.std.proofs.lemmas.List.Elements.{All-nil, All-push}
use Rattle.cap_base.specs.declared.check.Check.TheVariants.{NeededName, NameLength}
use Rattle.cap_base.specs.Text.{is_plain}
use Rattle.cap_base.specs.Steps.{fault}
use Rattle.cap_elf.specs.declared.decode.DynEntry.{DynEntry}
use Rattle.cap_elf.specs.Numbers.{DT_NEEDED, DT_SONAME}
use Rattle.cap_elf.specs.Names.{name_of, has_slash, is_file_name}
use Rattle.cap_elf.specs.FileNames.{NamesView, file_name_of, name_step, names_of}
use Rattle.cap_elf.specs.IsRead.{IsFileName}
use Rattle.cap_elf.proofs.Passing.{bind_passed, check_passed, choice_passed, steps_keep, same_value}

pub some_from : (n : ℕ) → (n ≡ 0 → ⊥) → 0 < n
some_from n ne = omega (arith, ne)

file_name_passed : (strings : List ℕ) (e : DynEntry) (name : List ℕ) → file_name_of strings e ≡ Ok name → IsFileName name
unfolding file_name_of
file_name_passed strings e name passed =
    let found = bind_passed (ok_or (name_of strings e.value) (fault NeededName e.at)) _ name passed in
    let n = found.0 in
    let checked = check_passed (not (is_file_name n)) NeededName e.at _ name found.2 in
    let short = check_passed (nat_lt 255 (length n)) NameLength 0 _ name checked.1 in
    let test = not-false (is_file_name n) checked.0 in
    let most = and_parts (not (length n == 0) && is_plain n) (not (has_slash n)) test in
    let first = and_parts (not (length n == 0)) (is_plain n) most.0 in
    subst IsFileName (same_value n name short.1) (record {
      plain = first.1;
      some = some_from (length n) (eqb-false (length n) 0 (not-true (length n == 0) first.0));
      short = ltb-false 255 (length n) short.0;
      no_slash = not-true (has_slash n) most.1;
    })

pub record AreFileNames (names : NamesView) : Type 0 where
  pub needed : All IsFileName names.needed
  pub soname : IfSome names.soname IsFileName

name_keeps : (strings : List ℕ) (names : NamesView) (e : DynEntry) (next : NamesView) → AreFileNames names → name_step strings names e ≡ Ok next → AreFileNames next
unfolding name_step
name_keeps strings names e next are passed =
    choice_passed (e.tag == DT_NEEDED) _ _ (Ok next) passed
    (λ _ needed.
    let one = bind_passed (file_name_of strings e) _ next needed in
    subst AreFileNames (same_value _ next one.2) (record {
      needed = All-push IsFileName names.needed one.0 are.needed (file_name_passed strings e one.0 one.1);
      soname = are.soname;
    }))
    (λ _ other. choice_passed (e.tag == DT_SONAME) _ _ (Ok next) other
    (λ _ soname.
    let one = bind_passed (file_name_of strings e) _ next soname in
    subst AreFileNames (same_value _ next one.2) (record { needed = are.needed; soname = file_name_passed strings e one.0 one.1 }))
    (λ _ none. subst AreFileNames (same_value names next none) are))

pub names_passed : (strings : List ℕ) (listed : List DynEntry) (names : NamesView) → names_of strings listed ≡ Ok names → AreFileNames names
names_passed strings listed names passed =
    steps_keep (name_step strings) AreFileNames (name_keeps strings) (record { needed = []; soname = None }) listed names
    (record { needed = All-nil IsFileName; soname = tt }) passed
