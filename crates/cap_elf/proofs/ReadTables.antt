-- The tables of a shared object that was read.
use Rattle.std.proofs.Common.{◌≡◌, ℕ, ◌+◌, ◌-◌, ◌*◌, ◌%◌, ◌^◌, ◌≤◌, ◌<◌, true, List, [], ◌∷◌, length, Option, Some, None, Ok, suc, refl, sym, subst, ap, ◌∙◌, arith}
use Rattle.std.specs.Prelude.{not, ◌||◌, ◌==◌, nat_le, nat_lt, find, All, ok_or, unwrap_or, slice_index}
use Rattle.std.proofs.lemmas.Bool.{leb-true, leb-false, ltb-false, eqb-true, eqb-false, or_parts, and_parts, and_from, le-leb, both_ways, not-false}
use Rattle.std.proofs.lemmas.List.FromFn.{length-map-range_with_len, get_or-map-range_with_len}
use Rattle.std.proofs.lemmas.List.Elements.{All-nil, All-cons, All-head, All-tail}
use Rattle.std.proofs.lemmas.List.Folds.{Any-from_list_any}
use Rattle.cap_base.specs.Field.{number_at}
use Rattle.cap_base.specs.declared.check.Check.TheVariants as checks
use Rattle.cap_base.specs.Steps.{fault, steps}
use Rattle.cap_elf.specs.declared.records.Segment.{Segment}
use Rattle.cap_elf.specs.declared.records.DynReloc.{DynReloc}
use Rattle.cap_elf.specs.declared.records.Arrays.{Arrays}
use Rattle.cap_elf.specs.declared.decode.DynEntry.{DynEntry}
use Rattle.cap_elf.specs.declared.decode.Table.{Table}
use Rattle.cap_elf.specs.declared.tables.HashPlace.{HashPlace}
use Rattle.cap_elf.specs.declared.tables.Lists.{Lists}
use Rattle.cap_elf.specs.Numbers.{DT_HASH, DT_SYMTAB, DT_SYMENT, DT_RELA, DT_RELASZ, DT_RELAENT, DT_JMPREL, DT_PLTRELSZ, DT_PLTREL, DT_CAP_RELOCS, DT_CAP_RELOCSZ, DT_INIT_ARRAY, DT_INIT_ARRAYSZ, DT_FINI_ARRAY, DT_FINI_ARRAYSZ}
use Rattle.cap_elf.specs.Ends.{end_of, holds, spans, file_place, table_place, is_in_memory}
use Rattle.cap_elf.specs.Records.{table}
use Rattle.cap_elf.specs.Dynamic.{value_of}
use Rattle.cap_elf.specs.Tables.{hash_of, symbols_of, list_of, lists_of, is_value}
use Rattle.cap_elf.specs.Relocs.{symbol_fits, symbols_fit}
use Rattle.cap_elf.specs.Arrays.{array_of, arrays_of}
use Rattle.cap_elf.specs.IsRead.{Ascend, IsArray}
use Rattle.cap_elf.proofs.Passing.{bind_passed, check_passed, refused_passed, choice_passed, some_passed, map_passed, same_value, find_passes, find_all}
use Rattle.cap_elf.proofs.ReadSegments.{IsLoad, AreLoads}
use Rattle.cap_elf.proofs.ReadNames.{some_from}

ascend_tail : (s : Segment) (ss : List Segment) → Ascend (s ∷ ss) → Ascend ss
ascend_tail s ss up = λ i j d lt inside. up (suc i) (suc j) d (omega arith) (omega arith)

ascend_head : (s : Segment) (ss : List Segment) → Ascend (s ∷ ss) → All (λ t. end_of s ≤ t.vaddr) ss
ascend_head s ss up = λ k d lt. up 0 (suc k) d (omega arith) (omega arith)

record IsHeld (s : Segment) (address size : ℕ) : Type 0 where
  pub begins : s.vaddr ≤ address
  pub ends : address + size ≤ s.vaddr + s.filesz

held : (s : Segment) (address size : ℕ) → holds s address size ≡ true → IsHeld s address size
held s address size test =
    let parts = and_parts (nat_le s.vaddr address) (nat_le (address + size) (s.vaddr + s.filesz)) test in
    record { begins = leb-true s.vaddr address parts.0; ends = leb-true (address + size) (s.vaddr + s.filesz) parts.1 }

-- what holds a range that isn't empty holds each longer one from the same address on, where any segment does
same_segment : (file_len address few more : ℕ) → 0 < few → few ≤ more → (loads : List Segment) (s t : Segment) → All (IsLoad file_len) loads → Ascend loads
    → find (λ u. holds u address few) loads ≡ Some s → find (λ u. holds u address more) loads ≡ Some t → s ≡ t
same_segment file_len address few more some le [] s t are up here there = absurd (cc)
same_segment file_len address few more some le (x ∷ xs) s t are up here there =
    choice_passed (holds x address few) (Some x) (find (λ u. holds u address few) xs) (Some s) here
    (λ x_holds x_is_s. choice_passed (holds x address more) (Some x) (find (λ u. holds u address more) xs) (Some t) there
    (λ _ x_is_t. cc)
    (λ _ later.
    let x_held = held x address few x_holds in
    let t_held = held t address more (find_passes (λ u. holds u address more) xs t later) in
    let behind = find_all (λ u. holds u address more) (λ u. end_of x ≤ u.vaddr) xs t later (ascend_head x xs up) in
    let load = All-head (IsLoad file_len) x xs are in
    absurd (omega (arith, x_held.begins, x_held.ends, t_held.begins, behind, load.file_part))))
    (λ x_misses later. choice_passed (holds x address more) (Some x) (find (λ u. holds u address more) xs) (Some t) there
    (λ x_holds _.
    let x_held = held x address more x_holds in
    absurd (both_ways (holds x address few) x_misses
    (and_from (nat_le x.vaddr address) (nat_le (address + few) (x.vaddr + x.filesz)) (le-leb x.vaddr address x_held.begins)
    (le-leb (address + few) (x.vaddr + x.filesz) (omega (arith, x_held.ends))))))
    (λ _ later_too. same_segment file_len address few more some le xs s t (All-tail (IsLoad file_len) x xs are) (ascend_tail x xs up) later later_too))

same_place : (file_len address few more : ℕ) (loads : List Segment) (p q : ℕ) → 0 < few → few ≤ more → AreLoads file_len loads → file_place loads address few ≡ Some p → file_place loads address more ≡ Some q → p ≡ q
same_place file_len address few more loads p q some le are here there =
    let one = map_passed (λ s. s.offset + (address - s.vaddr)) (find (λ u. holds u address few) loads) p here in
    let two = map_passed (λ s. s.offset + (address - s.vaddr)) (find (λ u. holds u address more) loads) q there in
    let same = same_segment file_len address few more some le loads one.0 two.0 are.each are.ascend one.1 two.1 in
    sym one.2 ∙ ap (λ (s : Segment). s.offset + (address - s.vaddr)) same ∙ two.2

-- a hash table of the right size, with a bucket and a chain at least
pub record IsHash (bytes : List ℕ) (h : HashPlace) : Type 0 where
  pub buckets : 0 < number_at 4 bytes h.words.at
  pub chains : number_at 4 bytes (h.words.at + 4) ≡ h.symbols
  pub some : 0 < h.symbols
  pub count : h.words.count ≡ 2 + number_at 4 bytes h.words.at + h.symbols

abbrev hash_at : List ℕ → ℕ → ℕ → HashPlace
hash_at bytes head place = record { words = record { at = place; count = 2 + number_at 4 bytes head + number_at 4 bytes (head + 4) }; symbols = number_at 4 bytes (head + 4) }

hash_at_same : (bytes : List ℕ) (head place : ℕ) → head ≡ place → 0 < number_at 4 bytes head → 0 < number_at 4 bytes (head + 4)
    → IsHash bytes (hash_at bytes head place)
hash_at_same bytes head place same buckets chains =
    subst (λ (p : ℕ). IsHash bytes (hash_at bytes head p)) same
    (record { buckets = buckets; chains = refl; some = chains; count = refl })

pub hash_passed : (bytes : List ℕ) (loads : List Segment) (used : List DynEntry) (at : ℕ) (h : HashPlace) → AreLoads (length bytes) loads → hash_of bytes loads used at ≡ Ok h → IsHash bytes h
unfolding hash_of
hash_passed bytes loads used at h are passed =
    let address = bind_passed (ok_or (value_of used DT_HASH) (fault checks.NoHashTable at)) _ h passed in
    let head = bind_passed (ok_or (file_place loads address.0 8) (fault checks.HashTable at)) _ h address.2 in
    let buckets = number_at 4 bytes head.0 in
    let chains = number_at 4 bytes (head.0 + 4) in
    let some = check_passed ((buckets == 0) || (chains == 0)) checks.HashTable at _ h head.2 in
    let place = bind_passed (ok_or (file_place loads address.0 (8 + 4 * (buckets + chains))) (fault checks.HashTable at)) _ h some.1 in
    let parts = or_parts (buckets == 0) (chains == 0) some.0 in
    let same = same_place (length bytes) address.0 8 (8 + 4 * (buckets + chains)) loads head.0 place.0 (omega arith) (omega arith) are
    (some_passed (file_place loads address.0 8) (fault checks.HashTable at) head.0 head.1)
    (some_passed (file_place loads address.0 (8 + 4 * (buckets + chains))) (fault checks.HashTable at) place.0 place.1) in
    subst (IsHash bytes) {x = hash_at bytes head.0 place.0} (same_value (hash_at bytes head.0 place.0) h place.2)
    (hash_at_same bytes head.0 place.0 same (some_from buckets (eqb-false buckets 0 parts.0)) (some_from chains (eqb-false chains 0 parts.1)))

pub record AreWords (words : List ℕ) (symbols : ℕ) : Type 0 where
  pub buckets : 0 < slice_index words 0
  pub chains : slice_index words 1 ≡ symbols
  pub len : length words ≡ 2 + slice_index words 0 + slice_index words 1

pub words_are : (bytes : List ℕ) (h : HashPlace) → IsHash bytes h → AreWords (table (number_at 4 bytes) h.words.at 4 h.words.count) h.symbols
words_are bytes h is =
    let read : ℕ → ℕ = λ i. number_at 4 bytes (h.words.at + 4 * i) in
    let zero : h.words.at + 4 * 0 ≡ h.words.at = omega arith in
    let first : slice_index (table (number_at 4 bytes) h.words.at 4 h.words.count) 0 ≡ number_at 4 bytes h.words.at
    = get_or-map-range_with_len read 0 h.words.count 0 0 0 (omega (arith, is.count)) refl ∙ ap (number_at 4 bytes) zero in
    let second : slice_index (table (number_at 4 bytes) h.words.at 4 h.words.count) 1 ≡ number_at 4 bytes (h.words.at + 4)
    = get_or-map-range_with_len read 0 h.words.count 1 1 0 (omega (arith, is.count)) refl in
    let len : length (table (number_at 4 bytes) h.words.at 4 h.words.count) ≡ h.words.count = length-map-range_with_len read 0 h.words.count in
    record {
      buckets = omega (arith, first, is.buckets);
      chains = second ∙ is.chains;
      len = omega (arith, len, first, second, is.count, is.chains);
    }

pub record IsCounted (count : ℕ) (t : Table) : Type 0 where
  pub same : t.count ≡ count
  pub few : count ≤ 2 ^ 20

pub symbols_counted : (loads : List Segment) (used : List DynEntry) (count at : ℕ) (t : Table) → symbols_of loads used count at ≡ Ok t → IsCounted count t
unfolding symbols_of
symbols_counted loads used count at t passed =
    let few = check_passed (nat_lt (2 ^ 20) count) checks.SymbolCount 0 _ t passed in
    let place = bind_passed (ok_or (table_place loads (value_of used DT_SYMTAB) (24 * count)) (fault checks.SymbolTable at)) _ t few.1 in
    let width = check_passed (not (unwrap_or (value_of used DT_SYMENT) 0 == 24)) checks.SymbolTable at _ t place.2 in
    subst (IsCounted count) (same_value _ t width.1) (record { same = refl; few = ltb-false (2 ^ 20) count few.0 })

abbrev pub AreFew : Lists → Type 0
AreFew l = l.relocs.count + l.jumps.count + l.cap_relocs.count ≤ 2 ^ 20

pub lists_counted : (loads : List Segment) (used : List DynEntry) (at : ℕ) (l : Lists) → lists_of loads used at ≡ Ok l → AreFew l
unfolding lists_of
lists_counted loads used at l passed =
    let relocs = bind_passed (list_of loads (value_of used DT_RELA) (value_of used DT_RELASZ) (is_value (value_of used DT_RELAENT) 24) 24 at) _ l passed in
    let jumps = bind_passed (list_of loads (value_of used DT_JMPREL) (value_of used DT_PLTRELSZ) (is_value (value_of used DT_PLTREL) 7) 24 at) _ l relocs.2 in
    let caps = bind_passed (list_of loads (value_of used DT_CAP_RELOCS) (value_of used DT_CAP_RELOCSZ) true 40 at) _ l jumps.2 in
    let few = check_passed (nat_lt (2 ^ 20) (relocs.0.count + jumps.0.count + caps.0.count)) checks.RelocationCount 0 _ l caps.2 in
    subst AreFew (same_value _ l few.1) (ltb-false (2 ^ 20) (relocs.0.count + jumps.0.count + caps.0.count) few.0)

-- each relocation names a symbol
pub fits_passed : (symbols : ℕ) (relocs : List DynReloc) → symbols_fit symbols relocs ≡ Ok tt → All (λ r. r.symbol < symbols) relocs
unfolding symbol_fits
fits_passed symbols [] passed = All-nil (λ r. r.symbol < symbols)
fits_passed symbols (r ∷ rs) passed =
    let one = bind_passed (symbol_fits symbols tt r) (λ u. steps (symbol_fits symbols) u rs) tt passed in
    let fits = refused_passed (nat_le symbols r.symbol) checks.RelocationSymbol r.at one.0 one.1 in
    All-cons (λ q. q.symbol < symbols) r rs (leb-false symbols r.symbol fits) (fits_passed symbols rs one.2)

-- a range in the memory of a segment
memory_passed : (loads : List Segment) (span address size : ℕ) → All (λ s. end_of s ≤ span) loads → is_in_memory loads address size ≡ true → address + size ≤ span
memory_passed loads span address size within test =
    let any = Any-from_list_any (λ s. spans s address size) loads test in
    let parts = and_parts (nat_le any.1.vaddr address) (nat_le (address + size) (end_of any.1)) any.4 in
    let ends = leb-true (address + size) (end_of any.1) parts.1 in
    let inside = subst (λ (s : Segment). end_of s ≤ span) any.3 (within any.0 any.1 any.2) in
    omega (arith, ends, inside)

array_passed : (loads : List Segment) (span : ℕ) (address size : Option ℕ) (at : ℕ) (array : ℕ × ℕ) → All (λ s. end_of s ≤ span) loads → array_of loads address size at ≡ Ok array → IsArray span array.0 array.1
unfolding array_of
array_passed loads span None size at array within passed =
    subst (λ (a : ℕ × ℕ). IsArray span a.0 a.1) (same_value (0, 0) array passed) (record { begins = refl; whole = refl; within = omega arith })
array_passed loads span (Some address) size at array within passed =
    let len = bind_passed (ok_or size (fault checks.Array at)) _ array passed in
    let test = not ((address % 16) == 0) || not ((len.0 % 16) == 0) in
    let checked = check_passed (test || not (is_in_memory loads address len.0)) checks.Array at _ array len.2 in
    let most = or_parts test (not (is_in_memory loads address len.0)) checked.0 in
    let first = or_parts (not ((address % 16) == 0)) (not ((len.0 % 16) == 0)) most.0 in
    subst (λ (a : ℕ × ℕ). IsArray span a.0 a.1) (same_value (address, len.0) array checked.1) (record {
      begins = eqb-true (address % 16) 0 (not-false ((address % 16) == 0) first.0);
      whole = eqb-true (len.0 % 16) 0 (not-false ((len.0 % 16) == 0) first.1);
      within = memory_passed loads span address len.0 within (not-false (is_in_memory loads address len.0) most.1);
    })

pub record AreArrays (span : ℕ) (a : Arrays) : Type 0 where
  pub init : IsArray span a.init_at a.init_size
  pub fini : IsArray span a.fini_at a.fini_size

pub arrays_passed : (loads : List Segment) (used : List DynEntry) (at span : ℕ) (arrays : Arrays) → All (λ s. end_of s ≤ span) loads → arrays_of loads used at ≡ Ok arrays → AreArrays span arrays
unfolding arrays_of
arrays_passed loads used at span arrays within passed =
    let init = bind_passed (array_of loads (value_of used DT_INIT_ARRAY) (value_of used DT_INIT_ARRAYSZ) at) _ arrays passed in
    let fini = bind_passed (array_of loads (value_of used DT_FINI_ARRAY) (value_of used DT_FINI_ARRAYSZ) at) _ arrays init.2 in
    subst (AreArrays span) (same_value _ arrays fini.2) (record {
      init = array_passed loads span (value_of used DT_INIT_ARRAY) (value_of used DT_INIT_ARRAYSZ) at init.0 within init.1;
      fini = array_passed loads span (value_of used DT_FINI_ARRAY) (value_of used DT_FINI_ARRAYSZ) at fini.0 within fini.1;
    })
