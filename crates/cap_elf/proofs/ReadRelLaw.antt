-- What each relocatable object that was read has.
use Rattle.std.proofs.Common.{◌≡◌, ℕ, ◌+◌, ◌-◌, ◌^◌, ◌≤◌, ◌<◌, Bool, true, false, cond, List, [], ◌∷◌, length, take, drop, Ok, refl, sym, subst, ap, ◌∙◌, arith}
use Rattle.std.specs.Prelude.{not, All, codes, slice_range, slice_index_or}
use Rattle.std.proofs.lemmas.Bool.{and_from}
use Rattle.std.proofs.lemmas.List.{length-map, length-drop, length-take-le, get_or-map}
use Rattle.std.proofs.lemmas.List.Elements.{All-map, All-weaker}
use Rattle.cap_elf.specs.declared.records.Section.{Section}
use Rattle.cap_elf.specs.declared.records.Symbol.{Symbol}
use Rattle.cap_elf.specs.Named.{NamedSymbol}
use Rattle.cap_elf.specs.Classes.{is_kept, is_bss}
use Rattle.cap_elf.specs.Header.{header_of}
use Rattle.cap_elf.specs.Records.{table, null_symbol}
use Rattle.cap_elf.specs.RelObject.{RelObject, rel_object, has_content, content_of, contents_of, no_section}
use Rattle.cap_elf.specs.Sections.{section_table_of, section_header_at, section_names_of, sections_of}
use Rattle.cap_elf.specs.Symbols.{null_named}
use Rattle.cap_elf.specs.RelSymbols.{symtab_of, rel_named_in}
use Rattle.cap_elf.specs.RelRelocs.{rel_relocs_of}
use Rattle.cap_elf.specs.RelView.{RelView, rel_records_of}
use Rattle.cap_elf.specs.IsRead.{IsShort, IsNamed}
use Rattle.cap_elf.specs.IsRelRead.{IsSection, IsRelSymbol, IsRelRead, AreInside}
use Rattle.cap_elf.proofs.Passing.{bind_passed, same_value}
use Rattle.cap_elf.proofs.ReadSymbols.{IsNamedSymbol, symbols_in, names_in, zip_named}
use Rattle.cap_elf.proofs.ReadRelSections.{IsReadSection, sections_passed}
use Rattle.cap_elf.proofs.ReadRelSymbols.{rel_symbols_passed, symtab_few}
use Rattle.cap_elf.proofs.ReadRelRelocs.{relocs_passed}

-- the object of what was read
abbrev pub object_of : ℕ → List ℕ → RelView → RelObject
object_of number bytes r = rel_object number r.flags r.sections r.symbols r.names r.relocs bytes

zeros_low : (size : ℕ) → size ≤ 2 ^ 26 → size ≤ 2 ^ 62
zeros_low size few = omega (arith, few)

part_low : (offset size file_len : ℕ) → offset + size ≤ file_len → file_len ≤ 2 ^ 62 → size ≤ 2 ^ 62
part_low offset size file_len inside low = omega (arith, inside, low)

-- a kept section is no larger than the file or the limit of zeros
size_low : (file_len : ℕ) (s : Section) (bss : Bool) → is_bss s.class ≡ bss → file_len ≤ 2 ^ 62 → IsReadSection file_len s → is_kept s.class ≡ true → s.size ≤ 2 ^ 62
size_low file_len s true zeros low is kept = zeros_low s.size (is.zeros_high zeros)
size_low file_len s false other low is kept =
    part_low s.offset s.size file_len (is.in_file (and_from (is_kept s.class) (not (is_bss s.class)) kept (ap not other))) low

is_section : (file_len : ℕ) → file_len ≤ 2 ^ 62 → (s : Section) → IsReadSection file_len s → IsSection s
is_section file_len low s is = record {
  align_power = is.align_power;
  align_high = is.align_high;
  size_high = size_low file_len s (is_bss s.class) refl low is;
  zeros_high = is.zeros_high;
}

taken : (bytes : List ℕ) (offset size : ℕ) → offset + size ≤ length bytes → length (slice_range bytes offset (offset + size)) ≡ size
taken bytes offset size inside =
    let rest = length-drop offset bytes in
    let part : offset + size - offset ≡ size = omega arith in
    ap (λ n. length (take n (drop offset bytes))) part ∙ length-take-le size (drop offset bytes) (omega (arith, rest, inside))

-- the bytes of a section are as long as it is
content_len : (bytes : List ℕ) (s : Section) → has_content s ≡ true → s.offset + s.size ≤ length bytes → length (content_of bytes s) ≡ s.size
content_len bytes s some inside =
    ap (λ b. length (cond b (slice_range bytes s.offset (s.offset + s.size)) [])) some ∙ taken bytes s.offset s.size inside

content_at : (bytes : List ℕ) (sections : List Section) (i : ℕ) → i < length sections → slice_index_or (contents_of bytes sections) i [] ≡ content_of bytes (slice_index_or sections i no_section)
content_at bytes sections i lt = get_or-map (content_of bytes) sections i no_section [] lt

some_from : (len count : ℕ) → len ≡ 1 + (count - 1) → 0 < len
some_from len count same = omega (arith, same)

few_from : (all len count : ℕ) → all ≡ len → len ≡ 1 + (count - 1) → count ≤ 2 ^ 20 → all ≤ 2 ^ 20
few_from all len count total same few = omega (arith, total, same, few)

within : (symbol count len all : ℕ) → symbol < count → len ≡ 1 + (count - 1) → all ≡ len → symbol < all
within symbol count len all lt same total = omega (arith, lt, same, total)

null_is : (at : ℕ) (named others : List NamedSymbol) → named ≡ null_named at ∷ others
    → slice_index_or (symbols_in named) 0 (null_symbol 0) ≡ null_symbol (slice_index_or (symbols_in named) 0 (null_symbol 0)).at
null_is at named others first =
    let e : slice_index_or (symbols_in named) 0 (null_symbol 0) ≡ null_symbol at = ap (λ l. slice_index_or (symbols_in l) 0 (null_symbol 0)) first in
    e ∙ ap (λ (s : Symbol). null_symbol s.at) (sym e)

-- each relocatable object that was read is sound, and its sections lie in the file
pub rel_read_is : (number : ℕ) (bytes : List ℕ) (r : RelView) → length bytes ≤ 2 ^ 62 → length r.sections < 2 ^ 16 → rel_records_of bytes ≡ Ok r
    → IsRelRead (object_of number bytes r) × AreInside (length bytes) r.sections
unfolding rel_records_of
rel_read_is number bytes r low few passed =
    let flags = bind_passed (header_of 1 bytes) _ r passed in
    let place = bind_passed (section_table_of bytes) _ r flags.2 in
    let headers = table (section_header_at bytes) place.0.at 64 place.0.count in
    let names = bind_passed (section_names_of bytes headers) _ r place.2 in
    let sections = bind_passed (sections_of (length bytes) names.0 headers) _ r names.2 in
    let symtab = bind_passed (symtab_of bytes headers) _ r sections.2 in
    let named = bind_passed (rel_named_in bytes sections.0 symtab.0) _ r symtab.2 in
    let relocs = bind_passed (rel_relocs_of bytes headers sections.0 symtab.0.place.count) _ r named.2 in
    let whole = same_value _ r relocs.2 in
    let few_sections : length sections.0 < 2 ^ 16 = subst (λ (n : ℕ). n < 2 ^ 16) (ap (λ (v : RelView). length v.sections) (sym whole)) few in
    let sections_are = sections_passed (length bytes) names.0 headers sections.0 sections.1 in
    let inside : AreInside (length bytes) sections.0 = λ k d lt. (sections_are k d lt).in_file in
    let n = named.0 in
    let count = symtab.0.place.count in
    let n_is = rel_symbols_passed bytes sections.0 symtab.0 n named.1 in
    let symbol_len : length (symbols_in n) ≡ length n = length-map n (λ s. s.symbol) in
    let name_len : length (names_in n) ≡ length n = length-map n (λ s. s.name) in
    let relocs_are = relocs_passed bytes headers sections.0 count relocs.0 relocs.1 in
    subst (λ (v : RelView). IsRelRead (object_of number bytes v) × AreInside (length bytes) v.sections) whole (
      record {
        section_few = few_sections;
        sections_are = λ k d lt. is_section (length bytes) low (slice_index_or sections.0 k d) (sections_are k d lt);
        symbol_some = subst (λ (m : ℕ). 0 < m) (sym symbol_len) (some_from (length n) count n_is.len);
        symbol_few = few_from (length (symbols_in n)) (length n) count symbol_len n_is.len (symtab_few bytes headers symtab.0 symtab.1);
        null_first = null_is symtab.0.place.at n n_is.are.others n_is.are.first;
        symbols_are = All-map (λ s. IsRelSymbol sections.0 s) (λ s. s.symbol) n n_is.are.placed;
        name_count = name_len ∙ sym symbol_len;
        null_name = ap (λ l. slice_index_or (names_in l) 0 (codes "-")) n_is.are.first;
        names_are = All-map (λ s. IsShort s) (λ s. s.name) n (All-weaker IsNamedSymbol (λ s. IsShort s.name) (λ s h. h.name) n n_is.are.each);
        named = subst (All IsNamed) (sym (zip_named n)) (All-map IsNamed (λ s. (s.symbol, s.name)) n (All-weaker IsNamedSymbol (λ s. IsNamed (s.symbol, s.name)) (λ s h. h.named) n n_is.are.each));
        reloc_few = relocs_are.of_kept.few;
        relocs_are = λ k d lt. record {
          section = (relocs_are.of_kept.each k d lt).section;
          kept = (relocs_are.of_kept.each k d lt).kept;
          symbol = within (slice_index_or relocs.0 k d).symbol count (length n) (length (symbols_in n)) (relocs_are.names k d lt) n_is.len symbol_len;
        };
        content_count = length-map sections.0 (content_of bytes);
        contents_are = λ i lt some. ap length (content_at bytes sections.0 i lt) ∙ content_len bytes (slice_index_or sections.0 i no_section) some (inside i no_section lt some);
      },
      inside,
    )
