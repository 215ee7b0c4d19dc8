-- What each shared object that was read has.
use Rattle.std.proofs.Common.{◌≡◌, ℕ, ◌+◌, ◌-◌, ◌*◌, ◌^◌, ◌≤◌, ◌<◌, true, List, [], ◌∷◌, length, Ok, sym, subst, ap, ◌∙◌, arith, length-append}
use Rattle.std.specs.Prelude.{not, All, AllPairs, ◌≢◌, IfSome, ok_or, zip, codes, slice_index_or}
use Rattle.std.specs.List.{list_any}
use Rattle.std.proofs.lemmas.Bool.{not-false}
use Rattle.std.proofs.lemmas.List.{length-map}
use Rattle.std.proofs.lemmas.List.FromFn.{length-map-range_with_len}
use Rattle.std.proofs.lemmas.List.Elements.{All-map, All-weaker}
use Rattle.cap_base.specs.declared.check.Check.TheVariants.{NoSegment, DynamicHeader}
use Rattle.cap_base.specs.Steps.{fault}
use Rattle.cap_elf.specs.declared.records.Symbol.{Symbol}
use Rattle.cap_elf.specs.declared.decode.Table.{Table}
use Rattle.cap_elf.specs.Named.{NamedSymbol}
use Rattle.cap_elf.specs.Ends.{end_of, highest_end, has_memory, IsInFile}
use Rattle.cap_elf.specs.Header.{header_of}
use Rattle.cap_elf.specs.Records.{table, program_header_at, symbol_entry_at, reloc_at, cap_reloc_at}
use Rattle.cap_elf.specs.Segments.{headers_of, loads_of}
use Rattle.cap_elf.specs.Marks.{marks_of}
use Rattle.cap_elf.specs.Dynamic.{listed_of, used_of}
use Rattle.cap_elf.specs.Tables.{strings_of, hash_of, symbols_of, lists_of}
use Rattle.cap_elf.specs.Symbols.{named_in, null_named}
use Rattle.cap_elf.specs.Relocs.{relocs_in, symbols_fit}
use Rattle.cap_elf.specs.FileNames.{names_of}
use Rattle.cap_elf.specs.Arrays.{arrays_of}
use Rattle.cap_elf.specs.Stages.{MappedView, TablesView, mapped_of, tables_of}
use Rattle.cap_elf.specs.DynView.{DynRecords, dyn_view, span_of}
use Rattle.cap_elf.specs.IsRead.{AreDistinct, IsRead, IsRelro, IsNamed, IsSymbol, IsShort}
use Rattle.cap_elf.proofs.Passing.{bind_passed, check_passed, then_passed, same_value}
use Rattle.cap_elf.specs.Exported.{is_exported}
use Rattle.cap_elf.proofs.Apart.{fewer_apart}
use Rattle.cap_elf.proofs.ReadSegments.{AreLoads, fold-max, loads_passed, align_passed, end_low, end_some, rounded_up, segments_passed}
use Rattle.cap_elf.proofs.ReadRelro.{relro_passed}
use Rattle.cap_elf.proofs.ReadNames.{names_passed}
use Rattle.cap_elf.proofs.ReadSymbols.{IsNamedSymbol, symbols_passed, length_passed, symbols_in, names_in, zip_named, exported_same, exported_of}
use Rattle.cap_elf.proofs.ReadTables.{IsHash, IsCounted, AreFew, hash_passed, words_are, symbols_counted, lists_counted, fits_passed, arrays_passed}

length-table : {X : Type 0} (read : ℕ → X) (at size count : ℕ) → length (table read at size count) ≡ count
length-table read at size count = length-map-range_with_len (λ i. read (at + size * i)) 0 count

record IsMapped (bytes : List ℕ) (m : MappedView) : Type 0 where
  pub loads : AreLoads (length bytes) m.loads
  pub some : list_any has_memory m.loads ≡ true
  pub relro : IfSome m.relro (IsRelro m.loads)

mapped_passed : (bytes : List ℕ) (m : MappedView) → mapped_of bytes ≡ Ok m → IsMapped bytes m
unfolding mapped_of
mapped_passed bytes m passed =
    let flags = bind_passed (header_of 3 bytes) _ m passed in
    let place = bind_passed (headers_of bytes) _ m flags.2 in
    let headers = table (program_header_at bytes) place.0.at 56 place.0.count in
    let loads = bind_passed (loads_of (length bytes) headers) _ m place.2 in
    let some = check_passed (not (list_any has_memory loads.0)) NoSegment 32 _ m loads.2 in
    let marks = bind_passed (marks_of loads.0 headers) _ m some.1 in
    let dynamic = bind_passed (ok_or marks.0.dynamic (fault DynamicHeader 32)) _ m marks.2 in
    subst (IsMapped bytes) (same_value _ m dynamic.2) (record {
      loads = loads_passed (length bytes) headers loads.0 loads.1;
      some = not-false (list_any has_memory loads.0) some.0;
      relro = relro_passed loads.0 headers marks.0 marks.1;
    })

record AreTables (bytes : List ℕ) (t : TablesView) : Type 0 where
  pub hash : IsHash bytes t.hash
  pub symbols : IsCounted t.hash.symbols t.symbols
  pub lists : AreFew t.lists

tables_passed : (bytes : List ℕ) (m : MappedView) (t : TablesView) → AreLoads (length bytes) m.loads → tables_of bytes m ≡ Ok t → AreTables bytes t
unfolding tables_of
tables_passed bytes m t are passed =
    let at = m.dynamic.at in
    let listed = bind_passed (listed_of bytes m.dynamic) _ t passed in
    let used = bind_passed (used_of listed.0) _ t listed.2 in
    let strings = bind_passed (strings_of bytes m.loads used.0 at) _ t used.2 in
    let hash = bind_passed (hash_of bytes m.loads used.0 at) _ t strings.2 in
    let symbols = bind_passed (symbols_of m.loads used.0 hash.0.symbols at) _ t hash.2 in
    let lists = bind_passed (lists_of m.loads used.0 at) _ t symbols.2 in
    subst (AreTables bytes) (same_value _ t lists.2) (record {
      hash = hash_passed bytes m.loads used.0 at hash.0 are hash.1;
      symbols = symbols_counted m.loads used.0 hash.0.symbols at symbols.0 symbols.1;
      lists = lists_counted m.loads used.0 at lists.0 lists.1;
    })

record HasNames (count : ℕ) (named : List NamedSymbol) : Type 0 where
  pub each : All IsNamedSymbol named
  pub distinct : AllPairs (λ a b. a ≢ b) (exported_of named)
  pub null : slice_index_or (names_in named) 0 (codes "-") ≡ []
  pub len : length named ≡ count

named_passed : (bytes strings : List ℕ) (place : Table) (named : List NamedSymbol) → 0 < place.count → named_in bytes strings place ≡ Ok named → HasNames place.count named
named_passed bytes strings place named some passed =
    let entries = table (symbol_entry_at bytes) (place.at + 24) 24 (place.count - 1) in
    let are = symbols_passed strings place.at entries named passed in
    let len = length_passed strings (null_named place.at ∷ []) entries named passed in
    let entry_len : length entries ≡ place.count - 1 = length-table (symbol_entry_at bytes) (place.at + 24) 24 (place.count - 1) in
    record {
      each = are.each;
      distinct = are.distinct;
      null = ap (λ l. slice_index_or (names_in l) 0 (codes "-")) are.first;
      len = omega (arith, len, entry_len);
    }

are_distinct : (named : List NamedSymbol) → AllPairs (λ a b. a ≢ b) (exported_of named) → AreDistinct (symbols_in named) (names_in named)
are_distinct named apart = λ test fewer.
    fewer_apart (λ (a b : List ℕ). a ≢ b) (λ (s : Symbol × List ℕ). s.1) (λ s. test s.0) (λ s. is_exported s.0) (zip (symbols_in named) (names_in named)) (λ s. fewer s.0)
    (subst (AllPairs (λ a b. a ≢ b)) (sym (exported_same named)) apart)

positive_from : (a b : ℕ) → a ≡ b → 0 < b → 0 < a
positive_from a b same some = omega arith

at_most : (a b c : ℕ) → a ≤ b → b ≤ c → a ≤ c
at_most a b c first second = omega arith

some_below : (a b : ℕ) → 0 < a → a ≤ b → 0 < b
some_below a b some le = omega arith

few_from : (a b c n : ℕ) → a ≡ b → b ≡ c → c ≤ n → a ≤ n
few_from a b c n first second few = omega arith

few_relocs : (all first second caps a b c : ℕ) → all ≡ first + second → first ≡ a → second ≡ b → caps ≡ c → a + b + c ≤ 2 ^ 20 → all + caps ≤ 2 ^ 20
few_relocs all first second caps a b c sum one two three few = omega arith

-- what stands in a stage's records holds of the whole
record_parts : (bytes : List ℕ) (r : DynRecords) → dyn_view bytes ≡ Ok r → IsRead r × All (IsInFile (length bytes)) r.segments
unfolding dyn_view
record_parts bytes r passed =
    let mapped = bind_passed (mapped_of bytes) _ r passed in
    let m = mapped.0 in
    let m_is = mapped_passed bytes m mapped.1 in
    let tables = bind_passed (tables_of bytes m) _ r mapped.2 in
    let t = tables.0 in
    let t_is = tables_passed bytes m t m_is.loads tables.1 in
    let names = bind_passed (names_of t.strings t.listed) _ r tables.2 in
    let arrays = bind_passed (arrays_of m.loads t.used m.dynamic.at) _ r names.2 in
    let named = bind_passed (named_in bytes t.strings t.symbols) _ r arrays.2 in
    let n = named.0 in
    let relocs = relocs_in bytes t.lists in
    let fits = then_passed (symbols_fit t.symbols.count relocs) _ r named.2 in
    let count : t.symbols.count ≡ t.hash.symbols = t_is.symbols.same in
    let n_is = named_passed bytes t.strings t.symbols n (positive_from t.symbols.count t.hash.symbols count t_is.hash.some) named.1 in
    let symbol_len : length (symbols_in n) ≡ length n = length-map n (λ s. s.symbol) in
    let name_len : length (names_in n) ≡ length n = length-map n (λ s. s.name) in
    let files = names_passed t.strings t.listed names.0 names.1 in
    let ends = fold-max end_of 0 m.loads in
    let up = rounded_up (highest_end m.loads) in
    let low = end_low (length bytes) m.loads m_is.loads in
    let above = end_some 0 m.loads m_is.some in
    let within = All-weaker (λ s. end_of s ≤ highest_end m.loads) (λ s. end_of s ≤ span_of m.loads) (λ s h. at_most (end_of s) (highest_end m.loads) (span_of m.loads) h up.above) m.loads ends.1 in
    let array = arrays_passed m.loads t.used m.dynamic.at (span_of m.loads) arrays.0 within arrays.1 in
    let align = align_passed (length bytes) m.loads m_is.loads in
    let words = words_are bytes t.hash t_is.hash in
    let rela = table (reloc_at bytes) t.lists.relocs.at 24 t.lists.relocs.count in
    let jump = table (reloc_at bytes) t.lists.jumps.at 24 t.lists.jumps.count in
    let caps = table (cap_reloc_at bytes) t.lists.cap_relocs.at 40 t.lists.cap_relocs.count in
    let rela_len : length rela ≡ t.lists.relocs.count = length-table (reloc_at bytes) t.lists.relocs.at 24 t.lists.relocs.count in
    let jump_len : length jump ≡ t.lists.jumps.count = length-table (reloc_at bytes) t.lists.jumps.at 24 t.lists.jumps.count in
    let cap_len : length caps ≡ t.lists.cap_relocs.count = length-table (cap_reloc_at bytes) t.lists.cap_relocs.at 40 t.lists.cap_relocs.count in
    let total : length (symbols_in n) ≡ t.symbols.count = symbol_len ∙ n_is.len in
    subst (λ (q : DynRecords). IsRead q × All (IsInFile (length bytes)) q.segments) (same_value _ r fits.1) (
      record {
        align_power = align.power;
        align_low = align.low;
        align_high = align.high;
        aligned = (fold-max (λ s. s.align) 4096 m.loads).1;
        span_some = some_below (highest_end m.loads) (span_of m.loads) above up.above;
        span_pages = up.pages;
        span_high = up.high low;
        segments_are = segments_passed (length bytes) m.loads m_is.loads;
        ascend = m_is.loads.ascend;
        relro_is = m_is.relro;
        symbol_some = positive_from (length (symbols_in n)) t.hash.symbols (total ∙ count) t_is.hash.some;
        symbol_few = few_from (length (symbols_in n)) t.symbols.count t.hash.symbols (2 ^ 20) total count t_is.symbols.few;
        symbols_are = All-map (λ s. IsSymbol s) (λ s. s.symbol) n (All-weaker IsNamedSymbol (λ s. IsSymbol s.symbol) (λ s h. h.symbol) n n_is.each);
        name_count = name_len ∙ sym symbol_len;
        null_name = n_is.null;
        names_are = All-map (λ s. IsShort s) (λ s. s.name) n (All-weaker IsNamedSymbol (λ s. IsShort s.name) (λ s h. h.name) n n_is.each);
        named = subst (All IsNamed) (sym (zip_named n)) (All-map IsNamed (λ s. (s.symbol, s.name)) n (All-weaker IsNamedSymbol (λ s. IsNamed (s.symbol, s.name)) (λ s h. h.named) n n_is.each));
        distinct = are_distinct n n_is.distinct;
        references = subst (λ k. All (λ q. q.symbol < k) relocs) (sym total) (fits_passed t.symbols.count relocs fits.0);
        reloc_few = few_relocs (length relocs) (length rela) (length jump) (length caps) t.lists.relocs.count t.lists.jumps.count t.lists.cap_relocs.count
            (length-append rela jump) rela_len jump_len cap_len t_is.lists;
        hash_buckets = words.buckets;
        hash_chains = words.chains ∙ sym count ∙ sym total;
        hash_len = words.len;
        init_is = array.init;
        fini_is = array.fini;
        needed_are = files.needed;
        soname_is = files.soname;
      },
      λ k d lt. let load = m_is.loads.each k d lt in (load.in_file, load.file_part, load.low),
    )

-- each shared object that was read is sound
pub read_is : (bytes : List ℕ) (r : DynRecords) → dyn_view bytes ≡ Ok r → IsRead r
read_is bytes r passed = (record_parts bytes r passed).0

-- its segments lie in the file
pub read_in_file : (bytes : List ℕ) (r : DynRecords) → dyn_view bytes ≡ Ok r → All (IsInFile (length bytes)) r.segments
read_in_file bytes r passed = (record_parts bytes r passed).1
