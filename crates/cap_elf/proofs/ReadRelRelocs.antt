-- The relocations of a relocatable object that was read.
use Rattle.std.proofs.Common.{◌≡◌, ℕ, ◌+◌, ◌*◌, ◌^◌, ◌≤◌, ◌<◌, Bool, true, false, cond, List, [], ◌∷◌, ◌++◌, length, Some, Ok, refl, sym, subst, ◌∙◌, arith, length-append}
use Rattle.std.specs.Prelude.{not, ◌||◌, ◌==◌, nat_le, nat_lt, All, slice_index_or}
use Rattle.std.specs.Option.{is_some}
use Rattle.std.specs.List.{range_with_len}
use Rattle.std.proofs.lemmas.Bool.{ltb-false, leb-false, or_parts}
use Rattle.std.proofs.lemmas.List.Elements.{All-nil, All-cons, All-map, All-set, All-append}
use Rattle.std.proofs.lemmas.List.FromFn.{length-map-range_with_len, length-range_with_len, get_or-range_with_len}
use Rattle.cap_base.specs.declared.check.Check.TheVariants.{RelocationSection, RelocationCount, RelocationSymbol}
use Rattle.cap_base.specs.Steps.{steps}
use Rattle.cap_elf.specs.declared.decode.Table.{Table}
use Rattle.cap_elf.specs.declared.records.Reloc.{Reloc}
use Rattle.cap_elf.specs.declared.records.Section.{Section}
use Rattle.cap_elf.specs.declared.rel_relocs.Target.{Target}
use Rattle.cap_elf.specs.Numbers.{SHT_SYMTAB, SHT_RELA}
use Rattle.cap_elf.specs.declared.sections.SectionHeader.{SectionHeader}
use Rattle.cap_elf.specs.Classes.{is_kept}
use Rattle.cap_elf.specs.Records.{table}
use Rattle.cap_elf.specs.RelObject.{no_section}
use Rattle.cap_elf.specs.Sections.{header_at, records_in}
use Rattle.cap_elf.specs.RelRelocs.{target_at, targets_at, no_target, target_step, targets_of, place_or_none, kept_relocs, rel_reloc_at, relocs_step, relocs_at, names_symbol, name_symbols, rel_relocs_of}
use Rattle.cap_elf.proofs.Passing.{bind_passed, check_passed, then_passed, refused_passed, choice_passed, steps_keep, steps_keep_all, same_value}

-- a section of the object, of which it is known whether it is kept
record IsTarget (sections : List Section) (t : Target) : Type 0 where
  pub section : t.section < length sections
  pub kept : t.is_kept ≡ is_kept (slice_index_or sections t.section no_section).class

below : (sections : List Section) → All (λ i. i < length sections) (range_with_len 0 (length sections))
below sections = λ k d lt.
    let len = length-range_with_len 0 (length sections) in
    let inside : k < length sections = omega (arith, len, lt) in
    let is = get_or-range_with_len 0 (length sections) k d inside in
    omega (arith, is, inside)

untouched : (sections : List Section) → All (IsTarget sections) (targets_at sections)
untouched sections =
    All-map (IsTarget sections) (target_at sections) (range_with_len 0 (length sections))
    (λ k d lt. record { section = below sections k d lt; kept = refl })

target_keeps : (file_len : ℕ) (headers : List SectionHeader) (sections : List Section) (targets : List Target) (h : SectionHeader) (next : List Target) → All (IsTarget sections) targets
    → target_step file_len headers targets h ≡ Ok next → All (IsTarget sections) next
unfolding target_step
target_keeps file_len headers sections targets h next are passed =
    let old = slice_index_or targets h.info no_target in
    choice_passed (not (h.kind == SHT_RELA)) _ _ (Ok next) passed
    (λ _ same. subst (All (IsTarget sections)) (same_value targets next same) are)
    (λ _ other.
    let place = bind_passed (records_in file_len h RelocationSection) _ next other in
    let link = check_passed (not ((header_at headers h.link).kind == SHT_SYMTAB)) RelocationSection h.at _ next place.2 in
    let some = check_passed ((h.info == 0) || nat_le (length targets) h.info) RelocationSection h.at _ next link.1 in
    let first = check_passed (is_some old.relocs) RelocationSection h.at _ next some.1 in
    let inside = leb-false (length targets) h.info (or_parts (h.info == 0) (nat_le (length targets) h.info) some.0).1 in
    let is = are h.info no_target inside in
    subst (All (IsTarget sections)) (same_value _ next first.1)
    (All-set (IsTarget sections) targets h.info (record old { relocs = Some place.0 }) (record { section = is.section; kept = is.kept }) are))

targets_passed : (file_len : ℕ) (headers : List SectionHeader) (sections : List Section) (targets : List Target) → targets_of file_len headers sections ≡ Ok targets → All (IsTarget sections) targets
targets_passed file_len headers sections targets passed =
    steps_keep (target_step file_len headers) (All (IsTarget sections)) (target_keeps file_len headers sections) (targets_at sections) headers targets (untouched sections) passed

-- a relocation of a section that is kept
pub record IsOfKept (sections : List Section) (r : Reloc) : Type 0 where
  pub section : r.section < length sections
  pub kept : is_kept (slice_index_or sections r.section no_section).class ≡ true

of_section : (bytes : List ℕ) (section at : ℕ) → (rel_reloc_at bytes section at).section ≡ section
unfolding rel_reloc_at
of_section bytes section at = refl

is_of_kept : (sections : List Section) (t : Target) (r : Reloc) → r.section ≡ t.section → IsTarget sections t → t.is_kept ≡ true → IsOfKept sections r
is_of_kept sections t r same is kept = record {
  section = subst (λ (n : ℕ). n < length sections) (sym same) is.section;
  kept = subst (λ (n : ℕ). is_kept (slice_index_or sections n no_section).class ≡ true) (sym same) (sym is.kept ∙ kept);
}

some_kept_of : (kept : Bool) (place : Table) (k : ℕ) → k < (cond kept place (record { at = 0; count = 0 })).count → kept ≡ true
some_kept_of true place k lt = refl
some_kept_of false place k lt = absurd (omega (arith, lt))

-- a section with relocations is kept
some_kept : (t : Target) (k : ℕ) → k < (kept_relocs t).count → t.is_kept ≡ true
unfolding kept_relocs
some_kept t k lt = some_kept_of t.is_kept (place_or_none t.relocs) k lt

table_of_kept : (bytes : List ℕ) (sections : List Section) (t : Target) → IsTarget sections t
    → All (IsOfKept sections) (table (rel_reloc_at bytes t.section) (kept_relocs t).at 24 (kept_relocs t).count)
table_of_kept bytes sections t is =
    let place = kept_relocs t in
    All-map (IsOfKept sections) (λ i. rel_reloc_at bytes t.section (place.at + 24 * i)) (range_with_len 0 place.count) (λ k d lt.
    let len = length-range_with_len 0 place.count in
    let inside : k < place.count = omega (arith, len, lt) in
    let at = place.at + 24 * slice_index_or (range_with_len 0 place.count) k d in
    is_of_kept sections t (rel_reloc_at bytes t.section at) (of_section bytes t.section at) is (some_kept t k inside))

pub record AreOfKept (sections : List Section) (relocs : List Reloc) : Type 0 where
  pub each : All (IsOfKept sections) relocs
  pub few : length relocs ≤ 2 ^ 20

few_from : (all old new count : ℕ) → all ≡ old + new → new ≡ count → old + count ≤ 2 ^ 20 → all ≤ 2 ^ 20
few_from all old new count sum same few = omega (arith, sum, same, few)

relocs_keep : (bytes : List ℕ) (sections : List Section) (relocs : List Reloc) (t : Target) (next : List Reloc) → AreOfKept sections relocs → IsTarget sections t → relocs_step bytes relocs t ≡ Ok next → AreOfKept sections next
unfolding relocs_step
relocs_keep bytes sections relocs t next are is passed =
    let place = kept_relocs t in
    let more = table (rel_reloc_at bytes t.section) place.at 24 place.count in
    let few = check_passed (nat_lt (2 ^ 20) (length relocs + place.count)) RelocationCount 0 _ next passed in
    let count : length more ≡ place.count = length-map-range_with_len (λ i. rel_reloc_at bytes t.section (place.at + 24 * i)) 0 place.count in
    subst (AreOfKept sections) (same_value (relocs ++ more) next few.1) (record {
      each = All-append (IsOfKept sections) relocs more are.each (table_of_kept bytes sections t is);
      few = few_from (length (relocs ++ more)) (length relocs) (length more) place.count (length-append relocs more) count (ltb-false (2 ^ 20) (length relocs + place.count) few.0);
    })

names_passed : (symbols : ℕ) (relocs : List Reloc) → name_symbols symbols relocs ≡ Ok tt → All (λ r. r.symbol < symbols) relocs
unfolding names_symbol
names_passed symbols [] passed = All-nil (λ r. r.symbol < symbols)
names_passed symbols (r ∷ rs) passed =
    let one = bind_passed (names_symbol symbols tt r) (λ u. steps (names_symbol symbols) u rs) tt passed in
    let fits = refused_passed (nat_le symbols r.symbol) RelocationSymbol r.at one.0 one.1 in
    All-cons (λ q. q.symbol < symbols) r rs (leb-false symbols r.symbol fits) (names_passed symbols rs one.2)

pub record AreRelocs (sections : List Section) (symbols : ℕ) (relocs : List Reloc) : Type 0 where
  pub of_kept : AreOfKept sections relocs
  pub names : All (λ r. r.symbol < symbols) relocs

pub relocs_passed : (bytes : List ℕ) (headers : List SectionHeader) (sections : List Section) (symbols : ℕ) (relocs : List Reloc) → rel_relocs_of bytes headers sections symbols ≡ Ok relocs
    → AreRelocs sections symbols relocs
unfolding rel_relocs_of
relocs_passed bytes headers sections symbols relocs passed =
    let targets = bind_passed (targets_of (length bytes) headers sections) _ relocs passed in
    let read = bind_passed (relocs_at bytes targets.0) _ relocs targets.2 in
    let fits = then_passed (name_symbols symbols read.0) _ relocs read.2 in
    let are = targets_passed (length bytes) headers sections targets.0 targets.1 in
    subst (AreRelocs sections symbols) (same_value read.0 relocs fits.1) (record {
      of_kept = steps_keep_all (relocs_step bytes) (AreOfKept sections) (IsTarget sections) (relocs_keep bytes sections) [] targets.0 read.0
          (record { each = All-nil (IsOfKept sections); few = omega arith }) are read.1;
      names = names_passed symbols read.0 fits.0;
    })
