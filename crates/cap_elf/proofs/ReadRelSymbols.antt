-- The symbols of a relocatable object that was read.
use Rattle.std.proofs.Common.{◌≡◌, ℕ, ◌+◌, ◌-◌, ◌*◌, ◌%◌, ◌^◌, ◌≤◌, ◌<◌, Bool, true, false, List, [], ◌∷◌, ◌++◌, length, Ok, refl, sym, subst, ap, ◌∙◌, arith, length-append}
use Rattle.std.specs.Prelude.{◌≢◌, not, ◌&&◌, ◌||◌, ◌==◌, nat_le, nat_lt, All, slice_index, slice_index_or}
use Rattle.std.specs.Int.{is_power_of_two}
use Rattle.std.proofs.lemmas.Bool.{ltb-false, leb-false, eqb-true, eq-eqb, or_parts, not-false, both_ways}
use Rattle.std.proofs.lemmas.List.Elements.{All-nil, All-cons, All-push, All-map}
use Rattle.std.proofs.lemmas.List.FromFn.{length-map-range_with_len}
use Rattle.cap_base.specs.Lists.{numbers_between}
use Rattle.cap_base.specs.declared.check.Check.TheVariants.{SymbolCount, SymbolPlace, CommonSymbol, SectionSize, SymbolKindPlace}
use Rattle.cap_elf.specs.declared.decode.SymbolEntry.{SymbolEntry}
use Rattle.cap_elf.specs.declared.records.Place.{Place}
use Rattle.cap_elf.specs.declared.records.Place.TheVariants.{Undefined, Absolute, Common, Section as InSection}
use Rattle.cap_elf.specs.declared.records.Section.{Section}
use Rattle.cap_elf.specs.declared.records.Symbol.{Symbol}
use Rattle.cap_elf.specs.declared.sections.SectionHeader.{SectionHeader}
use Rattle.cap_elf.specs.Named.{NamedSymbol}
use Rattle.cap_elf.specs.Classes.{is_kept, is_code, is_array}
use Rattle.cap_elf.specs.Records.{symbol_entry_at}
use Rattle.cap_elf.specs.RelObject.{no_section}
use Rattle.cap_elf.specs.Symbols.{checked_name, null_named}
use Rattle.cap_elf.specs.RelSymbols.{SymtabView, symtab_in, symtab_of, rel_symbol_at, rel_symbols_at, is_past, is_misplaced, common_fails, common_passes, section_passes, place_passes, rel_symbol_step, rel_named_in}
use Rattle.cap_elf.specs.IsRelRead.{IsInSection, IsCommon, IsPlaced, IsRelSymbol}
use Rattle.cap_elf.proofs.Passing.{bind_passed, check_passed, then_passed, refused_passed, steps_keep_all, steps_grow, same_value}
use Rattle.cap_elf.proofs.ReadSymbols.{IsNamedSymbol, with_name, name_passed, null_is}

-- facts from tests that failed
first_from : (a b : Bool) → (a && b) ≡ false → a ≡ true → b ≡ false
first_from true b h x = h
first_from false b h x = absurd (cc)

inside_from : (kept : Bool) (end size : ℕ) → (kept && nat_lt size end) ≡ false → kept ≡ true → end ≤ size
inside_from kept end size h x = ltb-false size end (first_from kept (nat_lt size end) h x)

function_from : (kept code : Bool) (kind : ℕ) → (kept && (kind == 2) && not code) ≡ false → kept ≡ true → kind ≡ 2 → code ≡ true
function_from true code kind h x same = not-false code (first_from (kind == 2) (not code) h (eq-eqb kind 2 same))
function_from false code kind h x same = absurd (cc)

other_from : (class : Bool) (kind n : ℕ) → (class && (kind == n)) ≡ false → class ≡ true → kind ≢ n
other_from class kind n h x same = both_ways (kind == n) (first_from class (kind == n) h x) (eq-eqb kind n same)

label_from : (class : Bool) (kind size : ℕ) → (class && ((kind == 1) || not (size == 0))) ≡ false → class ≡ true → (kind ≢ 1) × (size ≡ 0)
label_from class kind size h x =
    let parts = or_parts (kind == 1) (not (size == 0)) (first_from class ((kind == 1) || not (size == 0)) h x) in
    (λ same. both_ways (kind == 1) parts.0 (eq-eqb kind 1 same), eqb-true size 0 (not-false (size == 0) parts.1))

local_from : (kept : Bool) (binding : ℕ) → (not kept && not (binding == 0)) ≡ false → kept ≡ false → binding ≡ 0
local_from false binding h x = eqb-true binding 0 (not-false (binding == 0) h)
local_from true binding h x = absurd (cc)

in_section : (home : Section) (s : Symbol) → is_past home s ≡ false → is_misplaced home s ≡ false → IsInSection s home
unfolding is_past is_misplaced
in_section home s past misplaced =
    let kept = is_kept home.class in
    let code = is_code home.class in
    let array = is_array home.class in
    let function_fails = kept && (s.kind == 2) && not code in
    let object_fails = code && (s.kind == 1) in
    let label_fails = array && ((s.kind == 1) || not (s.size == 0)) in
    let local_fails = not kept && not (s.binding == 0) in
    let three = or_parts (function_fails || object_fails || label_fails) local_fails misplaced in
    let two = or_parts (function_fails || object_fails) label_fails three.0 in
    let one = or_parts function_fails object_fails two.0 in
    record {
      within = inside_from kept (s.value + s.size) home.size past;
      function = function_from kept code s.kind one.0;
      object = other_from code s.kind 1 one.1;
      label = label_from array s.kind s.size two.1;
      dropped = local_from kept s.binding three.1;
    }

common_passed : (s : Symbol) → common_passes s ≡ Ok tt → IsCommon s
unfolding common_passes common_fails
common_passed s passed =
    let first = not (s.binding == 1) || not (is_power_of_two s.value) in
    let fails = check_passed (first || nat_lt 65536 s.value) CommonSymbol s.at _ tt passed in
    let size = refused_passed (nat_lt (2 ^ 26) s.size) SectionSize 0 tt fails.1 in
    let two = or_parts first (nat_lt 65536 s.value) fails.0 in
    let one = or_parts (not (s.binding == 1)) (not (is_power_of_two s.value)) two.0 in
    record {
      global = eqb-true s.binding 1 (not-false (s.binding == 1) one.0);
      power = not-false (is_power_of_two s.value) one.1;
      align_high = ltb-false 65536 s.value two.1;
      size_high = ltb-false (2 ^ 26) s.size size;
    }

section_place_passed : (sections : List Section) (s : Symbol) (n : ℕ) → section_passes sections s n ≡ Ok tt → IsPlaced sections s (InSection n)
unfolding section_passes
section_place_passed sections s n passed =
    let home = slice_index_or sections n no_section in
    let some = check_passed (nat_le (length sections) n) SymbolPlace s.at _ tt passed in
    let past = check_passed (is_past home s) SymbolPlace s.at _ tt some.1 in
    let misplaced = refused_passed (is_misplaced home s) SymbolKindPlace s.at tt past.1 in
    (leb-false (length sections) n some.0, in_section home s past.0 misplaced)

place_passed : (sections : List Section) (s : Symbol) (place : Place) → place_passes sections s place ≡ Ok tt → IsPlaced sections s place
place_passed sections s Undefined passed = tt
place_passed sections s Absolute passed = tt
place_passed sections s Common passed = common_passed s passed
place_passed sections s (InSection n) passed = section_place_passed sections s n passed

-- symbols that passed their checks, the null symbol first
pub record AreRelSymbols (sections : List Section) (at : ℕ) (named : List NamedSymbol) : Type 0 where
  pub each : All IsNamedSymbol named
  pub placed : All (λ n. IsRelSymbol sections n.symbol) named
  pub others : List NamedSymbol
  pub first : named ≡ null_named at ∷ others

symbol_keeps : (strings : List ℕ) (sections : List Section) (at : ℕ) (named : List NamedSymbol) (e : SymbolEntry) (next : List NamedSymbol) → AreRelSymbols sections at named → e.symbol.visibility < 4
    → rel_symbol_step strings sections named e ≡ Ok next → AreRelSymbols sections at next
unfolding rel_symbol_step
symbol_keeps strings sections at named e next are visible passed =
    let one = bind_passed (checked_name strings e) _ next passed in
    let place = then_passed (place_passes sections e.symbol e.symbol.place) _ next one.2 in
    let n = with_name e.symbol one.0 in
    let is = name_passed strings e one.0 one.1 in
    subst (AreRelSymbols sections at) (same_value (named ++ n ∷ []) next place.1) (record {
      each = All-push IsNamedSymbol named n are.each is;
      placed = All-push (λ m. IsRelSymbol sections m.symbol) named n are.placed (record {
        kind = is.symbol.kind;
        binding = is.symbol.binding;
        visibility = visible;
        placed = place_passed sections e.symbol e.symbol.place place.0;
      });
      others = are.others ++ n ∷ [];
      first = ap (λ l. l ++ n ∷ []) are.first;
    })

mod_few : (n : ℕ) → n % 4 < 4
mod_few n = omega arith

visibility_few : (bytes : List ℕ) (at : ℕ) → (rel_symbol_at bytes at).symbol.visibility < 4
unfolding rel_symbol_at symbol_entry_at
visibility_few bytes at = mod_few (slice_index bytes (at + 5))

null_placed : (sections : List Section) (at : ℕ) → IsRelSymbol sections (null_named at).symbol
null_placed sections at = record { kind = omega arith; binding = omega arith; visibility = omega arith; placed = tt }

one_more : (strings : List ℕ) (sections : List Section) (named : List NamedSymbol) (e : SymbolEntry) (next : List NamedSymbol) → rel_symbol_step strings sections named e ≡ Ok next → length next ≡ length named + 1
unfolding rel_symbol_step
one_more strings sections named e next passed =
    let one = bind_passed (checked_name strings e) _ next passed in
    let place = then_passed (place_passes sections e.symbol e.symbol.place) _ next one.2 in
    let n = with_name e.symbol one.0 in
    ap length (sym (same_value (named ++ n ∷ []) next place.1)) ∙ length-append named (n ∷ [])

pub record HasSymbols (sections : List Section) (t : SymtabView) (named : List NamedSymbol) : Type 0 where
  pub are : AreRelSymbols sections t.place.at named
  pub len : length named ≡ 1 + (t.place.count - 1)

pub rel_symbols_passed : (bytes : List ℕ) (sections : List Section) (t : SymtabView) (named : List NamedSymbol) → rel_named_in bytes sections t ≡ Ok named → HasSymbols sections t named
rel_symbols_passed bytes sections t named passed =
    let at = t.place.at in
    let read : ℕ → SymbolEntry = λ i. rel_symbol_at bytes (at + 24 * i) in
    let entries = rel_symbols_at bytes t.place in
    let grown = steps_grow (rel_symbol_step t.strings sections) (one_more t.strings sections) (null_named at ∷ []) entries named passed in
    let count : length entries ≡ t.place.count - 1 = length-map-range_with_len read 1 (t.place.count - 1) in
    record {
      are = steps_keep_all (rel_symbol_step t.strings sections) (AreRelSymbols sections at) (λ e. e.symbol.visibility < 4) (symbol_keeps t.strings sections at) (null_named at ∷ []) entries named
          (record {
            each = All-cons IsNamedSymbol (null_named at) [] (null_is at) (All-nil IsNamedSymbol);
            placed = All-cons (λ n. IsRelSymbol sections n.symbol) (null_named at) [] (null_placed sections at) (All-nil (λ n. IsRelSymbol sections n.symbol));
            others = [];
            first = refl;
          })
          (All-map (λ e. e.symbol.visibility < 4) read (numbers_between 1 t.place.count) (λ k d lt. visibility_few bytes (at + 24 * slice_index_or (numbers_between 1 t.place.count) k d)))
          passed;
      len = omega (arith, grown, count);
    }

-- a symbol table with so many symbols at most
pub symtab_few : (bytes : List ℕ) (headers : List SectionHeader) (t : SymtabView) → symtab_of bytes headers ≡ Ok t → t.place.count ≤ 2 ^ 20
unfolding symtab_of
symtab_few bytes headers t passed =
    let read = bind_passed (symtab_in bytes headers) _ t passed in
    let few = check_passed (nat_lt (2 ^ 20) read.0.place.count) SymbolCount 0 _ t read.2 in
    subst (λ (s : SymtabView). s.place.count ≤ 2 ^ 20) (same_value read.0 t few.1) (ltb-false (2 ^ 20) read.0.place.count few.0)
