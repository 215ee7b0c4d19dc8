-- What holds of the files of every link: the objects are sound, and the needed names are those of libraries.
use Rattle.std.proofs.Common.{◌≡◌, ℕ, suc, zero, ◌+◌, ◌-◌, ◌^◌, ◌≤◌, ◌<◌, Bool, true, false, not, cond, List, [], ◌∷◌, ◌++◌, length, drop, refl, ap, subst, arith, length-drop, Option, Some, None, Result, Ok, Err}
use Rattle.std.specs.Prelude.{◌≢◌, ◌==◌, ◌&&◌, nat_le, All, IfSome, option_to_list}
use Rattle.std.specs.List.{list_any, list_all, enumerate_from, suffix_len, AllByRecursion}
use Rattle.std.specs.Str.{bytes_eq}
use Rattle.std.proofs.lemmas.Bool.{or_from}
use Rattle.cap_base.specs.Steps.{in_file}
use Rattle.cap_base.specs.Text.{is_plain_byte}
use Rattle.cap_base.specs.Text.{is_plain as is_printable}
use Rattle.cap_base.specs.declared.refusal.Fault.{Fault}
use Rattle.cap_elf.specs.DynView.{DynRecords, dyn_view}
use Rattle.cap_elf.specs.Header.{lacks_flags}
use Rattle.cap_elf.specs.IsRead.{IsFileName}
use Rattle.cap_elf.specs.IsRelRead.{IsRelRead}
use Rattle.cap_elf.specs.ReadLaws.{AreFileBytes, AreFields, ReadLaws}
use Rattle.cap_elf.specs.RelObject.{RelObject}
use Rattle.cap_elf.specs.RelView.{rel_view}
use Rattle.cap_elf.proofs.Passing.{bind_passed, choice_passed, same_value}
use Rattle.cap_link.specs.Inputs.{Input, FilesRead, none_read, is_shared, is_slash, needed_name, with_shared, with_relocatable, shared_input, relocatable_input, read_input, read_step, files_of}
use Rattle.cap_link.specs.Linked.{IsInputName, flags_of}
use Rattle.cap_link.proofs.Placing.{all-both}
use Rattle.cap_link.proofs.Numbers.{recursed, all-weaker}
use Rattle.cap_link.proofs.Filling.{steps-keep}
use Rattle.cap_link.proofs.Plain.{IsGoodName}

-- ---- names without zero bytes
abbrev pub Positive : ℕ → Type 0
Positive b = 0 < b

not-zero : (b : ℕ) → 0 < b → (b == 0) ≡ false
not-zero b h = grind arith

no-zero : (name : List ℕ) → AllByRecursion Positive name → list_any (λ b. b == 0) name ≡ false
no-zero [] h = refl
no-zero (b ∷ bs) h = or_from (b == 0) (list_any (λ (x : ℕ). x == 0) bs) (not-zero b h.0) (no-zero bs h.1)

good-name : (name : List ℕ) → AllByRecursion Positive name → length name ≤ 255 → IsGoodName name
good-name name h short = record { no_zero = no-zero name h; short = short }

first-and : (a b : Bool) → (a && b) ≡ true → a ≡ true
first-and true b h = refl
first-and false b h = h

second-and : (a b : Bool) → (a && b) ≡ true → b ≡ true
second-and true b h = h
second-and false b h = absurd (cc)

low-positive : (b : ℕ) → nat_le 0x20 b ≡ true → 0 < b
low-positive b h = let le : 0x20 ≤ b = grind arith in omega (arith, le)

plain-positive : (b : ℕ) → is_plain_byte b ≡ true → 0 < b
plain-positive b h = low-positive b (first-and (nat_le 0x20 b) (nat_le b 0x7e) h)

printable-positive : (text : List ℕ) → is_printable text ≡ true → AllByRecursion Positive text
printable-positive [] h = tt
printable-positive (b ∷ bs) h = (plain-positive b (first-and (is_plain_byte b) (list_all is_plain_byte bs) h), printable-positive bs (second-and (is_plain_byte b) (list_all is_plain_byte bs) h))

drop-all : {X : Type 0} (P : X → Type 0) (n : ℕ) (xs : List X) → AllByRecursion P xs → AllByRecursion P (drop n xs)
drop-all P zero xs h = h
drop-all P (suc n) [] h = tt
drop-all P (suc n) (x ∷ xs) h = drop-all P n xs h.1

input-positive : (name : List ℕ) → IsInputName name → AllByRecursion Positive name
input-positive name h = all-weaker (λ (b : ℕ). b ≢ 0) Positive name (λ b x. omega (arith, x)) (recursed (λ (b : ℕ). b ≢ 0) name h.no_zero)

pub input-name : (name : List ℕ) → IsInputName name → IsGoodName name
input-name name h = good-name name (input-positive name h) h.short

pub own-names-good : (own : Option (List ℕ)) → IfSome own IsInputName → AllByRecursion IsGoodName (option_to_list own)
own-names-good None h = tt
own-names-good (Some name) h = (input-name name h, tt)

needed-good : (word : List ℕ) (own : Option (List ℕ)) → IsInputName word → IfSome own IsFileName → IsGoodName (needed_name word own)
needed-good word None h g =
    let n = length word - suffix_len (λ (b : ℕ). not (is_slash b)) word in
    let short = h.short in
    good-name (drop n word) (drop-all Positive n word (input-positive word h)) (omega (arith, length-drop n word, short))
needed-good word (Some name) h g = good-name name (printable-positive name g.plain) g.short

-- ---- files
pub record AreSound (files : FilesRead) : Type 0 where
  pub rels : AllByRecursion IsRelRead files.rels
  pub fields : AllByRecursion AreFields files.rels
  pub needed : AllByRecursion IsGoodName files.needed

abbrev pub IsGoodInput : ℕ × Input → Type 0
IsGoodInput p = IsInputName p.1.0 × AreFileBytes p.1.1

one-new : (b : Bool) (xs : List (List ℕ)) (x : List ℕ) → IsGoodName x → AllByRecursion IsGoodName xs → AllByRecursion IsGoodName (cond b xs (xs ++ x ∷ []))
one-new true xs x h g = g
one-new false xs x h g = all-both IsGoodName xs (x ∷ []) g (h, tt)

abbrev pub passing : {A : Type 0} → A → Result A Fault
passing x = Ok x

file-passed : {Y : Type 0} (number : ℕ) (r : Result Y Fault) (y : Y) → in_file number r ≡ Ok y → r ≡ Ok y
file-passed number (Ok x) y h = let e : x ≡ y = cc in ap passing e
file-passed number (Err f) y h = absurd (cc)

shared-kept : ReadLaws → (files : FilesRead) (number : ℕ) (word bytes : List ℕ) (next : FilesRead) → AreSound files → IsInputName word → shared_input files number word bytes ≡ Ok next → AreSound next
shared-kept laws files number word bytes next h name e =
    let one = bind_passed (dyn_view bytes) (λ object. Ok (with_shared files number word object)) next e in
    let object : DynRecords = one.0 in
    let same : with_shared files number word object ≡ next = same_value (with_shared files number word object) next one.2 in
    let good = needed-good word object.soname name (laws.dyn bytes object one.1).soname_is in
    let made : AreSound (with_shared files number word object) = record {
      rels = h.rels;
      fields = h.fields;
      needed = one-new (list_any (bytes_eq (needed_name word object.soname)) files.needed) files.needed (needed_name word object.soname) good h.needed;
    } in
    subst AreSound same made

relocatable-kept : ReadLaws → (files : FilesRead) (number : ℕ) (bytes : List ℕ) (next : FilesRead) → AreSound files → AreFileBytes bytes → relocatable_input files number bytes ≡ Ok next → AreSound next
relocatable-kept laws files number bytes next h are e =
    let one = bind_passed (rel_view number bytes) (λ object. Ok (with_relocatable files object)) next e in
    let object : RelObject = one.0 in
    let same : with_relocatable files object ≡ next = same_value (with_relocatable files object) next one.2 in
    let made : AreSound (with_relocatable files object) = record {
      rels = all-both IsRelRead files.rels (object ∷ []) h.rels (laws.rel number bytes object are one.1, tt);
      fields = all-both AreFields files.rels (object ∷ []) h.fields (laws.rel_fields number bytes object are one.1, tt);
      needed = h.needed;
    } in
    subst AreSound same made

step-kept : ReadLaws → (files : FilesRead) (p : ℕ × Input) (next : FilesRead) → AreSound files → IsGoodInput p → read_step files p ≡ Ok next → AreSound next
unfolding read_step
step-kept laws files p next h good e =
    let f = file-passed p.0 (read_input files p.0 p.1) next e in
    choice_passed (is_shared p.1.1) (shared_input files p.0 p.1.0 p.1.1) (relocatable_input files p.0 p.1.1) (passing next) f
    (λ _ x. shared-kept laws files p.0 p.1.0 p.1.1 next h good.0 x)
    (λ _ x. relocatable-kept laws files p.0 p.1.1 next h good.1 x)

inputs-good : (n : ℕ) (inputs : List Input) → AllByRecursion (λ i. IsInputName i.0) inputs → AllByRecursion (λ i. AreFileBytes i.1) inputs → AllByRecursion IsGoodInput (enumerate_from n inputs)
inputs-good n [] h g = tt
inputs-good n (i ∷ is) h g = ((h.0, g.0), inputs-good (n + 1) is h.1 g.1)

pub files-sound : ReadLaws → (inputs : List Input) (files : FilesRead) → All (λ i. IsInputName i.0) inputs → All (λ i. AreFileBytes i.1) inputs → files_of inputs ≡ Ok files → AreSound files
files-sound laws inputs files names bytes e =
    steps-keep AreSound IsGoodInput read_step (λ a p b x y z. step-kept laws a p b x y z) none_read (enumerate_from 0 inputs) files
    (record { rels = tt; fields = tt; needed = tt })
    (inputs-good 0 inputs (recursed (λ (i : Input). IsInputName i.0) inputs names) (recursed (λ (i : Input). AreFileBytes i.1) inputs bytes)) e

-- ---- flags
pub record AreFlags (flags : ℕ) : Type 0 where
  pub fits : flags < 2 ^ 32
  pub pure : lacks_flags flags ≡ false

pub flags-good : (rels : List RelObject) → AllByRecursion AreFields rels → AreFlags (flags_of rels)
flags-good [] h = record { fits = omega arith; pure = refl }
flags-good (r ∷ rels) h = record { fits = h.0.flags; pure = h.0.pure }
