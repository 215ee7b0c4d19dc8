-- The sections of a relocatable object that was read.
use Rattle.std.proofs.Common.{◌≡◌, ℕ, ◌+◌, ◌^◌, ◌≤◌, Bool, true, false, cond, List, [], ◌∷◌, ◌++◌, Ok, refl, subst, arith}
use Rattle.std.specs.Prelude.{max, not, ◌&&◌, ◌||◌, ◌==◌, nat_lt, All, IsTrue, ok_or}
use Rattle.std.specs.Int.{is_power_of_two}
use Rattle.std.proofs.lemmas.Bool.{ltb-false, not-false, both_ways, cond_both}
use Rattle.std.proofs.lemmas.List.Elements.{All-nil, All-push}
use Rattle.cap_base.specs.declared.check.Check.TheVariants.{SectionType, SectionFlags, SectionRange, SectionAlignment, SectionAlignmentLimit, SectionSize, SectionNames}
use Rattle.cap_base.specs.Steps.{fault}
use Rattle.cap_elf.specs.declared.records.Class.{Class}
use Rattle.cap_elf.specs.declared.records.Class.TheVariants.{Ro, Code, Init, Fini, Relro, Data, Bss, Dropped}
use Rattle.cap_elf.specs.declared.records.Section.{Section}
use Rattle.cap_elf.specs.Numbers.{SHT_NOTE, SHT_NOBITS, SHT_INIT_ARRAY, SHT_FINI_ARRAY, SHF_WRITE, SHF_ALLOC, SHF_EXECINSTR}
use Rattle.cap_elf.specs.declared.sections.SectionHeader.{SectionHeader}
use Rattle.cap_elf.specs.Classes.{is_kept, is_bss}
use Rattle.cap_elf.specs.Names.{rest_of}
use Rattle.cap_elf.specs.RelObject.{has_content}
use Rattle.cap_elf.specs.SectionTypes.{has_flag, type_fails, flags_fail, is_relro_name, class_of}
use Rattle.cap_elf.specs.Sections.{section_of, section_step, sections_of}
use Rattle.cap_elf.proofs.Passing.{bind_passed, check_passed, steps_keep, same_value}

in_memory : (loaded note : Bool) → (not loaded || note) ≡ false → loaded ≡ true
in_memory true note h = refl
in_memory false note h = absurd (cc)

third_false : (a b c : Bool) → (a && b && c) ≡ false → a ≡ true → b ≡ true → c ≡ false
third_false true true c h x y = h
third_false false b c h x y = absurd (cc)
third_false true false c h x y = absurd (cc)

second_false : (a b : Bool) → (not a && b) ≡ false → a ≡ false → b ≡ false
second_false false b h x = h
second_false true b h x = absurd (cc)

-- sections of zeros are in memory, and have no bytes in the file; other kept ones have
record TellsClass (h : SectionHeader) (class : Class) : Type 0 where
  pub zeros : is_bss class ≡ true → (has_flag h SHF_ALLOC ≡ true) × ((h.kind == SHT_NOBITS) ≡ true)
  pub content : (is_kept class && not (is_bss class)) ≡ true → (h.kind == SHT_NOBITS) ≡ false

dropped : (h : SectionHeader) → TellsClass h Dropped
dropped h = record { zeros = λ e. absurd (cc); content = λ e. absurd (cc) }

not_zeros : (h : SectionHeader) (class : Class) → is_bss class ≡ false → (h.kind == SHT_NOBITS) ≡ false → TellsClass h class
not_zeros h class other some = record { zeros = λ e. absurd (both_ways (is_bss class) other e); content = λ _. some }

class_tells : (name : List ℕ) (h : SectionHeader) → TellsClass h (class_of name h)
unfolding class_of
class_tells name h =
    let last = cond (is_relro_name name) Relro Data in
    let ro = cond (not (has_flag h SHF_WRITE)) Ro last in
    let fini = cond (h.kind == SHT_FINI_ARRAY) Fini ro in
    let init = cond (h.kind == SHT_INIT_ARRAY) Init fini in
    let some = cond (has_flag h SHF_EXECINSTR) Code init in
    let no_zeros : (h.kind == SHT_NOBITS) ≡ false → is_bss some ≡ false = λ _.
    cond_both (has_flag h SHF_EXECINSTR) Code init (λ c. is_bss c ≡ false) (λ _. refl) (λ _.
    cond_both (h.kind == SHT_INIT_ARRAY) Init fini (λ c. is_bss c ≡ false) (λ _. refl) (λ _.
    cond_both (h.kind == SHT_FINI_ARRAY) Fini ro (λ c. is_bss c ≡ false) (λ _. refl) (λ _.
    cond_both (not (has_flag h SHF_WRITE)) Ro last (λ c. is_bss c ≡ false) (λ _. refl) (λ _.
    cond_both (is_relro_name name) Relro Data (λ c. is_bss c ≡ false) (λ _. refl) (λ _. refl))))) in
    cond_both (not (has_flag h SHF_ALLOC) || (h.kind == SHT_NOTE)) Dropped (cond (h.kind == SHT_NOBITS) Bss some) (TellsClass h)
    (λ _. dropped h)
    (λ kept. cond_both (h.kind == SHT_NOBITS) Bss some (TellsClass h)
    (λ zeros. record { zeros = λ _. (in_memory (has_flag h SHF_ALLOC) (h.kind == SHT_NOTE) kept, zeros); content = λ e. absurd (cc) })
    (λ other. not_zeros h some (no_zeros other) other))

-- a section's alignment is a power of two, and its size is bounded by the file or a limit
pub record IsReadSection (file_len : ℕ) (s : Section) : Type 0 where
  pub align_power : IsTrue (is_power_of_two s.align)
  pub align_high : s.align ≤ 65536
  pub zeros_high : is_bss s.class ≡ true → s.size ≤ 2 ^ 26
  pub in_file : has_content s ≡ true → s.offset + s.size ≤ file_len

above_one : (align : ℕ) → align ≤ 65536 → max align 1 ≤ 65536
above_one align high = omega (arith, high)

section_passed : (file_len : ℕ) (names : List ℕ) (h : SectionHeader) (s : Section) → section_of file_len names h ≡ Ok s → IsReadSection file_len s
unfolding section_of
section_passed file_len names h s passed =
    let type = check_passed (type_fails h) SectionType h.at _ s passed in
    let name = bind_passed (ok_or (rest_of names h.name) (fault SectionNames h.at)) _ s type.1 in
    let flags = check_passed (flags_fail name.0 h) SectionFlags h.at _ s name.2 in
    let outside = nat_lt file_len (h.offset + h.size) in
    let range = check_passed (not (h.kind == SHT_NOBITS) && outside) SectionRange h.at _ s flags.1 in
    let power = check_passed (not (is_power_of_two (max h.align 1))) SectionAlignment h.at _ s range.1 in
    let high = check_passed (nat_lt 65536 h.align) SectionAlignmentLimit 0 _ s power.1 in
    let zeros = check_passed (has_flag h SHF_ALLOC && (h.kind == SHT_NOBITS) && nat_lt (2 ^ 26) h.size) SectionSize 0 _ s high.1 in
    let tells = class_tells name.0 h in
    subst (IsReadSection file_len) (same_value _ s zeros.1) (record {
      align_power = not-false (is_power_of_two (max h.align 1)) power.0;
      align_high = above_one h.align (ltb-false 65536 h.align high.0);
      zeros_high = λ bss. let is = tells.zeros bss in ltb-false (2 ^ 26) h.size (third_false (has_flag h SHF_ALLOC) (h.kind == SHT_NOBITS) (nat_lt (2 ^ 26) h.size) zeros.0 is.0 is.1);
      in_file = λ some. ltb-false file_len (h.offset + h.size) (second_false (h.kind == SHT_NOBITS) outside range.0 (tells.content some));
    })

section_keeps : (file_len : ℕ) (names : List ℕ) (sections : List Section) (h : SectionHeader) (next : List Section) → All (IsReadSection file_len) sections → section_step file_len names sections h ≡ Ok next → All (IsReadSection file_len) next
unfolding section_step
section_keeps file_len names sections h next are passed =
    let one = bind_passed (section_of file_len names h) _ next passed in
    subst (All (IsReadSection file_len)) (same_value (sections ++ one.0 ∷ []) next one.2)
    (All-push (IsReadSection file_len) sections one.0 are (section_passed file_len names h one.0 one.1))

pub sections_passed : (file_len : ℕ) (names : List ℕ) (headers : List SectionHeader) (sections : List Section) → sections_of file_len names headers ≡ Ok sections → All (IsReadSection file_len) sections
sections_passed file_len names headers sections passed =
    steps_keep (section_step file_len names) (All (IsReadSection file_len)) (section_keeps file_len names) [] headers sections
    (All-nil (IsReadSection file_len)) passed
