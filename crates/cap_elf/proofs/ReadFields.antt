-- The numbers of an object that was read fit their fields.
use Rattle.std.proofs.Common.{◌≡◌, ℕ, zero, suc, ◌+◌, ◌*◌, ◌^◌, ◌≤◌, ◌<◌, false, List, [], ◌∷◌, ◌++◌, length, drop, Ok, refl, sym, subst, ap, ◌∙◌, arith}
use Rattle.std.specs.Prelude.{All, FitsSigned, slice_index, slice_index_or, nat_lt}
use Rattle.std.specs.Prelude.{ℤ, pos, ◌%◌}
use Rattle.std.specs.Int.{w64, cast_signed, int_wrap, int_rem_euclid}
use Rattle.std.specs.Int.RustNames.{unsigned_abs}
use Rattle.std.proofs.lemmas.Int.{int_rem_euclid_is, SFits-int_wrap}
use Rattle.std.specs.List.{range_with_len}
use Rattle.std.proofs.Common.{length-append, mod-eq_of_lt}
use Rattle.std.proofs.lemmas.List.FromFn.{length-map-range_with_len}
use Rattle.std.proofs.lemmas.List.Elements.{All-nil, All-cons, All-push, All-map, All-append}
use Rattle.byteorder.specs.Numbers.{little_from-lt}
use Rattle.cap_base.specs.Field.{number_at}
use Rattle.cap_base.specs.Lists.{numbers_between}
use Rattle.cap_base.specs.declared.check.Check.TheVariants.{SectionHeaders, RelocationCount, FileHeader, Magic, FileClass, ByteOrder, IdentVersion, Machine, FileVersion, FileType, PureCapability}
use Rattle.cap_elf.specs.declared.decode.SymbolEntry.{SymbolEntry}
use Rattle.cap_elf.specs.declared.records.Reloc.{Reloc}
use Rattle.cap_elf.specs.declared.records.Section.{Section}
use Rattle.cap_elf.specs.declared.rel_relocs.Target.{Target}
use Rattle.cap_elf.specs.declared.sections.SectionHeader.{SectionHeader}
use Rattle.cap_elf.specs.Named.{NamedSymbol}
use Rattle.cap_elf.specs.Header.{header_of, lacks_flags}
use Rattle.cap_elf.specs.Records.{table, symbol_entry_at}
use Rattle.cap_elf.specs.declared.decode.Table.{Table}
use Rattle.cap_elf.specs.Sections.{section_table_of, section_header_at, section_names_of, section_of, section_step, sections_of}
use Rattle.cap_elf.specs.Symbols.{checked_name, null_named}
use Rattle.cap_elf.specs.RelSymbols.{SymtabView, symtab_of, rel_symbol_at, rel_symbols_at, place_passes, rel_symbol_step, rel_named_in}
use Rattle.cap_elf.specs.RelRelocs.{targets_of, kept_relocs, rel_reloc_at, relocs_step, relocs_at, name_symbols, rel_relocs_of}
use Rattle.cap_elf.specs.RelView.{RelView, rel_records_of, rel_view}
use Rattle.cap_elf.specs.RelObject.{RelObject, rel_object}
use Rattle.cap_elf.specs.ReadLaws.{SymbolFits, RelocFits, AreFields}
use Rattle.cap_elf.proofs.Passing.{bind_passed, check_passed, then_passed, steps_keep, steps_keep_all, steps_grow, same_value}
use Rattle.cap_elf.proofs.ReadRelLaw.{rel_read_is}
use Rattle.cap_elf.specs.IsRelRead.{IsRelRead}

-- each byte of the rest of a file is one
byte_at : (bytes : List ℕ) → All (λ b. b < 256) bytes → (at k : ℕ) → slice_index (drop at bytes) k < 256
byte_at [] are zero k = omega arith
byte_at [] are (suc at) k = omega arith
byte_at (b ∷ bs) are zero zero = are 0 0 (omega arith)
byte_at (b ∷ bs) are zero (suc k) = byte_at bs (λ i d lt. are (suc i) d (omega (arith, lt))) zero k
byte_at (b ∷ bs) are (suc at) k = byte_at bs (λ i d lt. are (suc i) d (omega (arith, lt))) at k

number_fits : (bytes : List ℕ) → All (λ b. b < 256) bytes → (n at : ℕ) → number_at n bytes at < 256 ^ n
number_fits bytes are n at = little_from-lt 0 n (drop at bytes) (byte_at bytes are at)

wrapped_is : (n : ℕ) → n < 2 ^ 64 → int_wrap w64 (pos n) ≡ cast_signed w64 n
unfolding int_wrap
wrapped_is n lt =
    let same : n + 0 ≡ n = omega arith in
    let e : int_rem_euclid (pos n) (pos (2 ^ 64)) ≡ pos (n % 2 ^ 64) = int_rem_euclid_is (pos n) (pos (2 ^ 64)) (2 ^ 64) 0 n (omega arith) refl (ap pos same) in
    ap (λ (z : ℤ). cast_signed w64 (unsigned_abs z)) e ∙ ap (λ (m : ℕ). cast_signed w64 m) (mod-eq_of_lt lt)

signed_fits : (n : ℕ) → n < 2 ^ 64 → FitsSigned w64 (cast_signed w64 n)
signed_fits n lt = subst (λ (z : ℤ). FitsSigned w64 z) (wrapped_is n lt) (SFits-int_wrap w64 (pos n))

symbol_fits : (bytes : List ℕ) → All (λ b. b < 256) bytes → (at : ℕ) → SymbolFits (rel_symbol_at bytes at).symbol
unfolding rel_symbol_at symbol_entry_at
symbol_fits bytes are at = record { value = number_fits bytes are 8 (at + 8); size = number_fits bytes are 8 (at + 16) }

reloc_fits : (bytes : List ℕ) → All (λ b. b < 256) bytes → (section at : ℕ) → RelocFits (rel_reloc_at bytes section at)
unfolding rel_reloc_at
reloc_fits bytes are section at = record {
  kind = number_fits bytes are 4 (at + 8);
  offset = number_fits bytes are 8 at;
  addend = signed_fits (number_at 8 bytes (at + 16)) (number_fits bytes are 8 (at + 16));
}

abbrev EachFits : List NamedSymbol → Type 0
EachFits named = All (λ n. SymbolFits n.symbol) named

symbol_keeps : (strings : List ℕ) (sections : List Section) (named : List NamedSymbol) (e : SymbolEntry) (next : List NamedSymbol) → EachFits named → SymbolFits e.symbol
    → rel_symbol_step strings sections named e ≡ Ok next → EachFits next
unfolding rel_symbol_step
symbol_keeps strings sections named e next all fits passed =
    let one = bind_passed (checked_name strings e) _ next passed in
    let place = then_passed (place_passes sections e.symbol e.symbol.place) _ next one.2 in
    let n : NamedSymbol = record { symbol = e.symbol; name = one.0 } in
    subst EachFits (same_value (named ++ n ∷ []) next place.1) (All-push (λ m. SymbolFits m.symbol) named n all fits)

symbols_fit : (bytes : List ℕ) → All (λ b. b < 256) bytes → (sections : List Section) (t : SymtabView) (named : List NamedSymbol) → rel_named_in bytes sections t ≡ Ok named → EachFits named
symbols_fit bytes are sections t named passed =
    let at = t.place.at in
    let read : ℕ → SymbolEntry = λ i. rel_symbol_at bytes (at + 24 * i) in
    steps_keep_all (rel_symbol_step t.strings sections) EachFits (λ e. SymbolFits e.symbol) (symbol_keeps t.strings sections) (null_named at ∷ []) (rel_symbols_at bytes t.place) named
    (All-cons (λ m. SymbolFits m.symbol) (null_named at) [] (record { value = omega arith; size = omega arith }) (All-nil (λ m. SymbolFits m.symbol)))
    (All-map (λ e. SymbolFits e.symbol) read (numbers_between 1 t.place.count) (λ k d lt. symbol_fits bytes are (at + 24 * slice_index_or (numbers_between 1 t.place.count) k d)))
    passed

relocs_keep : (bytes : List ℕ) → All (λ b. b < 256) bytes → (relocs : List Reloc) (t : Target) (next : List Reloc) → All RelocFits relocs → relocs_step bytes relocs t ≡ Ok next → All RelocFits next
unfolding relocs_step
relocs_keep bytes are relocs t next all passed =
    let place = kept_relocs t in
    let more = table (rel_reloc_at bytes t.section) place.at 24 place.count in
    let few = check_passed (nat_lt (2 ^ 20) (length relocs + place.count)) RelocationCount 0 _ next passed in
    subst (All RelocFits) (same_value (relocs ++ more) next few.1) (All-append RelocFits relocs more all
    (All-map RelocFits (λ i. rel_reloc_at bytes t.section (place.at + 24 * i)) (range_with_len 0 place.count)
    (λ k d lt. reloc_fits bytes are t.section (place.at + 24 * slice_index_or (range_with_len 0 place.count) k d))))

relocs_fit : (bytes : List ℕ) → All (λ b. b < 256) bytes → (headers : List SectionHeader) (sections : List Section) (symbols : ℕ) (relocs : List Reloc) → rel_relocs_of bytes headers sections symbols ≡ Ok relocs → All RelocFits relocs
unfolding rel_relocs_of
relocs_fit bytes are headers sections symbols relocs passed =
    let targets = bind_passed (targets_of (length bytes) headers sections) _ relocs passed in
    let read = bind_passed (relocs_at bytes targets.0) _ relocs targets.2 in
    let fits = then_passed (name_symbols symbols read.0) _ relocs read.2 in
    subst (All RelocFits) (same_value read.0 relocs fits.1)
    (steps_keep (relocs_step bytes) (All RelocFits) (relocs_keep bytes are) [] targets.0 read.0 (All-nil RelocFits) read.1)

-- the flags of a file whose header passes
record AreFlags (bytes : List ℕ) (flags : ℕ) : Type 0 where
  pub is : flags ≡ number_at 4 bytes 48
  pub pure : lacks_flags flags ≡ false

flags_are : (file_type : ℕ) (bytes : List ℕ) (flags : ℕ) → header_of file_type bytes ≡ Ok flags → AreFlags bytes flags
unfolding header_of
flags_are file_type bytes flags passed =
    let a = check_passed _ FileHeader _ _ flags passed in
    let b = check_passed _ Magic _ _ flags a.1 in
    let c = check_passed _ FileClass _ _ flags b.1 in
    let d = check_passed _ ByteOrder _ _ flags c.1 in
    let e = check_passed _ IdentVersion _ _ flags d.1 in
    let f = check_passed _ Machine _ _ flags e.1 in
    let g = check_passed _ FileVersion _ _ flags f.1 in
    let h = check_passed _ FileType _ _ flags g.1 in
    let i = check_passed _ PureCapability _ _ flags h.1 in
    let same = same_value _ flags i.1 in
    record { is = sym same; pure = ap lacks_flags (sym same) ∙ i.0 }

record_fields : (bytes : List ℕ) → All (λ b. b < 256) bytes → (number : ℕ) (r : RelView) → rel_records_of bytes ≡ Ok r → AreFields (rel_object number r.flags r.sections r.symbols r.names r.relocs bytes)
unfolding rel_records_of
record_fields bytes are number r passed =
    let flags = bind_passed (header_of 1 bytes) _ r passed in
    let place = bind_passed (section_table_of bytes) _ r flags.2 in
    let headers = table (section_header_at bytes) place.0.at 64 place.0.count in
    let names = bind_passed (section_names_of bytes headers) _ r place.2 in
    let sections = bind_passed (sections_of (length bytes) names.0 headers) _ r names.2 in
    let symtab = bind_passed (symtab_of bytes headers) _ r sections.2 in
    let named = bind_passed (rel_named_in bytes sections.0 symtab.0) _ r symtab.2 in
    let relocs = bind_passed (rel_relocs_of bytes headers sections.0 symtab.0.place.count) _ r named.2 in
    let whole = same_value _ r relocs.2 in
    let f = flags_are 1 bytes flags.0 flags.1 in
    subst (λ (v : RelView). AreFields (rel_object number v.flags v.sections v.symbols v.names v.relocs bytes)) whole (record {
      flags = subst (λ (n : ℕ). n < 2 ^ 32) (sym f.is) (number_fits bytes are 4 48);
      pure = f.pure;
      symbols = All-map SymbolFits (λ s. s.symbol) named.0 (symbols_fit bytes are sections.0 symtab.0 named.0 named.1);
      relocs = relocs_fit bytes are headers sections.0 symtab.0.place.count relocs.0 relocs.1;
    })

pub fields_are : (bytes : List ℕ) → All (λ b. b < 256) bytes → (number : ℕ) (object : RelObject) → rel_view number bytes ≡ Ok object → AreFields object
unfolding rel_view
fields_are bytes are number object passed =
    let r = bind_passed (rel_records_of bytes) _ object passed in
    subst AreFields (same_value _ object r.2) (record_fields bytes are number r.0 r.1)

pub number_is : (number : ℕ) (bytes : List ℕ) (object : RelObject) → rel_view number bytes ≡ Ok object → object.number ≡ number
unfolding rel_view
number_is number bytes object passed =
    let r = bind_passed (rel_records_of bytes) _ object passed in
    ap (λ (o : RelObject). o.number) (sym (same_value _ object r.2))

one_section : (file_len : ℕ) (names : List ℕ) (sections : List Section) (h : SectionHeader) (next : List Section) → section_step file_len names sections h ≡ Ok next → length next ≡ length sections + 1
unfolding section_step
one_section file_len names sections h next passed =
    let one = bind_passed (section_of file_len names h) _ next passed in
    ap length (sym (same_value (sections ++ one.0 ∷ []) next one.2)) ∙ length-append sections (one.0 ∷ [])

sections_len : (file_len : ℕ) (names : List ℕ) (headers : List SectionHeader) (sections : List Section) → sections_of file_len names headers ≡ Ok sections → length sections ≡ length headers
sections_len file_len names headers sections passed =
    let grown = steps_grow (section_step file_len names) (one_section file_len names) [] headers sections passed in
    omega (arith, grown)

few_from : (sections headers count number : ℕ) → sections ≡ headers → headers ≡ count → count ≡ number → number < 65536 → sections < 2 ^ 16
few_from sections headers count number a b c fits = omega (arith, a, b, c, fits)

few_sections : (bytes : List ℕ) → All (λ b. b < 256) bytes → (r : RelView) → rel_records_of bytes ≡ Ok r → length r.sections < 2 ^ 16
unfolding rel_records_of section_table_of
few_sections bytes are r passed =
    let flags = bind_passed (header_of 1 bytes) _ r passed in
    let place = bind_passed (section_table_of bytes) _ r flags.2 in
    let headers = table (section_header_at bytes) place.0.at 64 place.0.count in
    let names = bind_passed (section_names_of bytes headers) _ r place.2 in
    let sections = bind_passed (sections_of (length bytes) names.0 headers) _ r names.2 in
    let symtab = bind_passed (symtab_of bytes headers) _ r sections.2 in
    let named = bind_passed (rel_named_in bytes sections.0 symtab.0) _ r symtab.2 in
    let relocs = bind_passed (rel_relocs_of bytes headers sections.0 symtab.0.place.count) _ r named.2 in
    let whole = same_value _ r relocs.2 in
    let count = same_value _ place.0 (check_passed _ SectionHeaders 40 _ place.0 place.1).1 in
    let counted : place.0.count ≡ number_at 2 bytes 60 = ap (λ (t : Table). t.count) (sym count) in
    let fits : number_at 2 bytes 60 < 65536 = number_fits bytes are 2 60 in
    let len : length headers ≡ place.0.count = length-map-range_with_len (λ i. section_header_at bytes (place.0.at + 64 * i)) 0 place.0.count in
    let grown = sections_len (length bytes) names.0 headers sections.0 sections.1 in
    let few : length sections.0 < 2 ^ 16 = few_from (length sections.0) (length headers) place.0.count (number_at 2 bytes 60) grown len counted fits in
    subst (λ (v : RelView). length v.sections < 2 ^ 16) whole few

pub sound_is : (bytes : List ℕ) → All (λ b. b < 256) bytes → length bytes ≤ 2 ^ 62 → (number : ℕ) (object : RelObject) → rel_view number bytes ≡ Ok object → IsRelRead object
unfolding rel_view
sound_is bytes are long number object passed =
    let r = bind_passed (rel_records_of bytes) _ object passed in
    subst IsRelRead (same_value _ object r.2) (rel_read_is number bytes r.0 long (few_sections bytes are r.0 r.1) r.1).0
