-- The file is read back as it was planned.
use Rattle.std.proofs.Common.{◌≡◌, ℕ, ◌+◌, ◌-◌, ◌*◌, ◌^◌, ◌<◌, ◌≤◌, Bool, true, false, List, [], ◌∷◌, ◌++◌, length, map, replicate, drop, Option, Some, None, Ok, refl, ap, ◌∙◌, arith, length-append, length-drop}
use Rattle.std.proofs.Common.{⊎_elim}
use Rattle.std.proofs.lemmas.Bool.{and_parts, cases_Bool}
use Rattle.cap_elf.specs.FileNames.{names_of}
use Rattle.cap_elf.specs.Arrays.{arrays_of}
use Rattle.std.specs.List.{list_all}
use Rattle.std.specs.Prelude.{option_to_list, ◌&&◌}
use Rattle.std.specs.List.{flat_map, AllByRecursion}
use Rattle.std.proofs.lemmas.List.{append-nil}
use Rattle.cap_base.specs.Field.{number_at}
use Rattle.cap_elf.specs.declared.decode.DynEntry.{DynEntry}
use Rattle.cap_elf.specs.declared.records.DynReloc.{DynReloc}
use Rattle.cap_elf.specs.declared.records.CapReloc.{CapReloc}
use Rattle.cap_elf.specs.Ends.{highest_end}
use Rattle.cap_elf.specs.Records.{table, symbol_entry_at, reloc_at, cap_reloc_at}
use Rattle.cap_elf.specs.Stages.{MappedView, TablesView, tables_of}
use Rattle.cap_elf.specs.DynView.{dyn_view, align_of}
use Rattle.cap_readback.specs.Stands.{Stands, AreSmall}
use Rattle.cap_readback.specs.Written.{segments_of}
use Rattle.cap_readback.specs.Lists.{placed, Entry, entry_fields, entry_read, list_if, own_entries, needed_entries, table_entries}
use Rattle.cap_readback.specs.Content.{Planned, symbol_read, named_of, Name, Ends, IsLibrary, is_taken, symbol_bytes, entry_of, IsGood, reloc_bytes, reloc_read, IsGoodReloc, cap_fields, cap_bytes, cap_read}
use Rattle.cap_elf.specs.Named.{NamedSymbol}
use Rattle.cap_readback.specs.View.{own_offset, IsOwn, has_some, Content, strings, is_whole, is_plain, Refused, symbol_count, values, entries, dynamics, words, IsWritten, IsPlanned, view_of}
use Rattle.cap_readback.proofs.Reading.{stands-back, table-read}
use Rattle.cap_readback.proofs.Segments.{mapped-is}
use Rattle.cap_readback.proofs.Dynamic.{listed-is, no-end, no-flag, used_entries, used-is, used-tell}
use Rattle.cap_readback.proofs.Names.{names-are, names-not, refused-bind}
use Rattle.cap_readback.proofs.Tables.{strings-is, hash-is, symbols-is, table_if, lists-is, arrays-is, arrays-not}
use Rattle.cap_readback.proofs.Symbols.{symbol-entry-is, reloc-is, cap-is, symbols-are, relocs-fit, words-are}

-- ---- the entries are small
pub all-append : {X : Type 0} (P : X → Type 0) (xs ys : List X) → AllByRecursion P xs → AllByRecursion P ys → AllByRecursion P (xs ++ ys)
all-append P [] ys a b = b
all-append P (x ∷ xs) ys a b = (a.0, all-append P xs ys a.1 b)

pub all-if : {X : Type 0} (P : X → Type 0) (b : Bool) (xs : List X) → AllByRecursion P xs → AllByRecursion P (list_if b xs)
all-if P true xs h = h
all-if P false xs h = tt

abbrev IsSmall : Entry → Type 0
IsSmall e = AreSmall (entry_fields e)

pub offset-inside : (bytes : List ℕ) (n : Name) → Ends bytes n → n.0 < length bytes
offset-inside bytes n h =
    let a : length (drop n.0 bytes) ≡ length ((n.1 ++ 0 ∷ []) ++ h.rest) = ap length h.is in
    omega (arith, a, length-drop n.0 bytes, length-append (n.1 ++ 0 ∷ []) h.rest, length-append n.1 (0 ∷ []))

needed-small : (bytes : List ℕ) (names : List Name) → length bytes ≤ 2 ^ 26 → AllByRecursion (IsLibrary bytes) names → AllByRecursion IsSmall (needed_entries (map (λ n. n.0) names))
needed-small bytes [] short h = tt
needed-small bytes (n ∷ ns) short h =
    let inside = offset-inside bytes n h.0.stands in
    ((omega arith, (omega (arith, inside, short), tt)), needed-small bytes ns short h.1)

own-small : (bytes : List ℕ) (own : Option Name) → length bytes ≤ 2 ^ 26 → IsOwn bytes own → AllByRecursion IsSmall (own_entries (own_offset own))
own-small bytes None short h = tt
own-small bytes (Some n) short h =
    let inside = offset-inside bytes n h.stands in
    ((omega arith, (omega (arith, inside, short), tt)), tt)

dynamics-small : (c : Content) → IsPlanned c → AllByRecursion IsSmall (dynamics c)
dynamics-small c p =
    let l = p.laid in
    let v = values c in
    let short : length (strings c) ≤ 2 ^ 26 = omega (arith, p.names_in, l) in
    let small : (t x : ℕ) → t < 2 ^ 64 → x ≤ 2 ^ 26 → IsSmall (t, x) = λ (t x : ℕ) (a : t < 2 ^ 64) (b : x ≤ 2 ^ 26). (a, (omega arith, tt)) in
    let relas : AllByRecursion IsSmall ((7, v.relas) ∷ (8, v.relas_size) ∷ (9, 24) ∷ []) = (small 7 v.relas (omega arith) (omega (arith, p.relas_in)), (small 8 v.relas_size (omega arith) (omega (arith, p.relas_in)), (small 9 24 (omega arith) (omega arith), tt))) in
    let caps : AllByRecursion IsSmall ((0x7000c000, v.caps) ∷ (0x7000c001, v.caps_size) ∷ []) = (small 0x7000c000 v.caps (omega arith) (omega (arith, p.caps_in)), (small 0x7000c001 v.caps_size (omega arith) (omega (arith, p.caps_in)), tt)) in
    let init : AllByRecursion IsSmall ((25, v.init) ∷ (27, v.init_size) ∷ []) = (small 25 v.init (omega arith) (omega (arith, p.init.end)), (small 27 v.init_size (omega arith) (omega (arith, p.init.end)), tt)) in
    let fini : AllByRecursion IsSmall ((26, v.fini) ∷ (28, v.fini_size) ∷ []) = (small 26 v.fini (omega arith) (omega (arith, p.fini.end)), (small 28 v.fini_size (omega arith) (omega (arith, p.fini.end)), tt)) in
    let rest = all-append IsSmall (list_if (has_some c.relas) ((7, v.relas) ∷ (8, v.relas_size) ∷ (9, 24) ∷ [])) (list_if (has_some c.caps) ((0x7000c000, v.caps) ∷ (0x7000c001, v.caps_size) ∷ []) ++ (list_if c.has_init ((25, v.init) ∷ (27, v.init_size) ∷ []) ++ list_if c.has_fini ((26, v.fini) ∷ (28, v.fini_size) ∷ [])))
    (all-if IsSmall (has_some c.relas) ((7, v.relas) ∷ (8, v.relas_size) ∷ (9, 24) ∷ []) relas)
    (all-append IsSmall (list_if (has_some c.caps) ((0x7000c000, v.caps) ∷ (0x7000c001, v.caps_size) ∷ [])) (list_if c.has_init ((25, v.init) ∷ (27, v.init_size) ∷ []) ++ list_if c.has_fini ((26, v.fini) ∷ (28, v.fini_size) ∷ []))
    (all-if IsSmall (has_some c.caps) ((0x7000c000, v.caps) ∷ (0x7000c001, v.caps_size) ∷ []) caps)
    (all-append IsSmall (list_if c.has_init ((25, v.init) ∷ (27, v.init_size) ∷ [])) (list_if c.has_fini ((26, v.fini) ∷ (28, v.fini_size) ∷ []))
    (all-if IsSmall c.has_init ((25, v.init) ∷ (27, v.init_size) ∷ []) init)
    (all-if IsSmall c.has_fini ((26, v.fini) ∷ (28, v.fini_size) ∷ []) fini))) in
    let tables : AllByRecursion IsSmall (table_entries (has_some c.relas) (has_some c.caps) c.has_init c.has_fini v) =
    (small 4 v.hash (omega arith) (omega (arith, p.words_in)), (small 5 v.strings (omega arith) (omega (arith, p.names_in)), (small 6 v.symbols (omega arith) (omega (arith, p.symbols_in)), (small 10 v.strings_size (omega arith) short, (small 11 24 (omega arith) (omega arith), rest))))) in
    all-append IsSmall (entries c) ((0, 0) ∷ [])
    (all-append IsSmall (needed_entries (map (λ (n : Name). n.0) c.needed)) (own_entries (own_offset c.own) ++ table_entries (has_some c.relas) (has_some c.caps) c.has_init c.has_fini v)
    (needed-small (strings c) c.needed short p.needed)
    (all-append IsSmall (own_entries (own_offset c.own)) (table_entries (has_some c.relas) (has_some c.caps) c.has_init c.has_fini v) (own-small (strings c) c.own short p.own) tables))
    ((omega arith, (omega arith, tt)), tt)

-- ---- the stages
abbrev mapped : Content → MappedView
mapped c = record { flags = c.flags; loads = segments_of c.at; relro = Some (c.at.table_start, c.at.table_end); dynamic = record { at = c.at.dynamic_at; count = length (dynamics c) } }

abbrev listed : Content → List DynEntry
listed c = placed entry_read c.at.dynamic_at 16 0 (entries c)

abbrev used : Content → List DynEntry
used c = used_entries (map (λ n. n.0) c.needed) (own_offset c.own) (has_some c.relas) (has_some c.caps) c.has_init c.has_fini (values c) c.at.dynamic_at

abbrev tables : Content → TablesView
tables c = record {
  listed = listed c;
  used = used c;
  strings = strings c;
  hash = record { words = record { at = c.at.hash_at; count = 2 + c.buckets + symbol_count c }; symbols = symbol_count c };
  symbols = record { at = c.at.symbols_at; count = symbol_count c };
  lists = record { cap_relocs = table_if (has_some c.caps) c.at.cap_relocs_at (length c.caps); relocs = table_if (has_some c.relas) c.at.relas_at (length c.relas); jumps = record { at = 0; count = 0 } };
}

tables-are : (bytes : List ℕ) (c : Content) → IsWritten bytes c → IsPlanned c → tables_of bytes (mapped c) ≡ Ok (tables c)
unfolding tables_of
tables-are bytes c w p =
    let ns = map (λ (n : Name). n.0) c.needed in
    let own = own_offset c.own in
    let r = has_some c.relas in
    let k = has_some c.caps in
    let v = values c in
    let t = c.at.dynamic_at in
    let tell = used-tell ns own r k c.has_init c.has_fini v t in
    let small_words = p.words in
    rw (
      listed-is bytes t (entries c) (dynamics-small c p) w.dynamics (no-end ns own r k c.has_init c.has_fini v t),
      used-is ns own r k c.has_init c.has_fini v t,
      strings-is bytes c.at (used c) r k c.has_init c.has_fini v c.names t tell refl p.names_in w.names,
      hash-is bytes c.at (used c) r k c.has_init c.has_fini v c.buckets (symbol_count c) c.more t tell p.some_bucket (omega arith) p.words.0 p.words.1.0 (omega (arith, p.words_in)) w.words,
      symbols-is c.at (used c) r k c.has_init c.has_fini v (symbol_count c) t tell p.few_symbols p.symbols_in,
      lists-is c.at (used c) r k c.has_init c.has_fini v (length c.relas) (length c.caps) t tell refl refl p.relas_in p.caps_in p.few_relocs,
    ) refl

relocs-table : (bytes : List ℕ) (symbols at : ℕ) (rs : List DynReloc) → AllByRecursion (IsGoodReloc symbols) rs → Stands bytes at (flat_map reloc_bytes rs)
    → table (reloc_at bytes) (table_if (has_some rs) at (length rs)).at 24 (table_if (has_some rs) at (length rs)).count ≡ placed reloc_read at 24 0 rs
relocs-table bytes symbols at [] good h = refl
relocs-table bytes symbols at (r ∷ rs) good h =
    table-read (reloc_at bytes) reloc_bytes reloc_read (IsGoodReloc symbols) bytes at 24 (r ∷ rs) (λ x. refl) (λ q x g s. reloc-is symbols bytes q x g s) good h

caps-table : (bytes : List ℕ) (at : ℕ) (cs : List CapReloc) → AllByRecursion (λ p. AreSmall (cap_fields p)) cs → Stands bytes at (flat_map cap_bytes cs)
    → table (cap_reloc_at bytes) (table_if (has_some cs) at (length cs)).at 40 (table_if (has_some cs) at (length cs)).count ≡ placed cap_read at 40 0 cs
caps-table bytes at [] good h = refl
caps-table bytes at (c ∷ cs) good h =
    table-read (cap_reloc_at bytes) cap_bytes cap_read (λ p. AreSmall (cap_fields p)) bytes at 40 (c ∷ cs) (λ x. refl) (λ q x g s. cap-is bytes q x g s) good h

symbols-table : (bytes : List ℕ) (c : Content) → IsWritten bytes c → IsPlanned c → table (symbol_entry_at bytes) (c.at.symbols_at + 24) 24 (symbol_count c - 1) ≡ placed entry_of (c.at.symbols_at + 24) 24 0 c.symbols
symbols-table bytes c w p =
    let count : symbol_count c - 1 ≡ length c.symbols = omega arith in
    ap (table (symbol_entry_at bytes) (c.at.symbols_at + 24) 24) count
    ∙ table-read (symbol_entry_at bytes) symbol_bytes entry_of (IsGood (strings c)) bytes (c.at.symbols_at + 24) 24 c.symbols (λ x. refl) (λ q x g s. symbol-entry-is (strings c) bytes q x g s) p.symbols
    (stands-back bytes c.at.symbols_at (c.at.symbols_at + 24) (replicate 24 0) (flat_map symbol_bytes c.symbols) refl w.symbols)

-- the whole file is read back as it was planned
symbols-of-named : (at size n : ℕ) (ps : List Planned) → map (λ (x : NamedSymbol). x.symbol) (placed named_of at size n ps) ≡ placed symbol_read at size n ps
symbols-of-named at size n [] = refl
symbols-of-named at size n (p ∷ ps) = ap (λ xs. symbol_read (at + size * n) p ∷ xs) (symbols-of-named at size (n + 1) ps)

names-of-named : (at size n : ℕ) (ps : List Planned) → map (λ (x : NamedSymbol). x.name) (placed named_of at size n ps) ≡ map (λ (p : Planned). p.name.1) ps
names-of-named at size n [] = refl
names-of-named at size n (p ∷ ps) = ap (λ xs. p.name.1 ∷ xs) (names-of-named at size (n + 1) ps)

pub dyn-view-is : (bytes : List ℕ) (c : Content) → IsWritten bytes c → IsPlanned c → is_plain c ≡ true → dyn_view bytes ≡ Ok (view_of c)
unfolding dyn_view
dyn-view-is bytes c w p plain =
    let parts = and_parts (list_all is_taken c.needed) (list_all is_taken (option_to_list c.own) && (is_whole c.has_init c.at.init_size && is_whole c.has_fini c.at.fini_size)) plain in
    let parts_2 = and_parts (list_all is_taken (option_to_list c.own)) (is_whole c.has_init c.at.init_size && is_whole c.has_fini c.at.fini_size) parts.1 in
    let ns = map (λ (n : Name). n.0) c.needed in
    let own = own_offset c.own in
    let r = has_some c.relas in
    let k = has_some c.caps in
    let v = values c in
    let t = c.at.dynamic_at in
    let l = p.laid in
    let tell = used-tell ns own r k c.has_init c.has_fini v t in
    let relocs = relocs-table bytes (symbol_count c) c.at.relas_at c.relas p.relas w.relas in
    let all_relocs = append-nil (placed reloc_read c.at.relas_at 24 0 c.relas) in
    let word_count : 2 + c.buckets + symbol_count c ≡ length (words c) = omega (arith, p.word_count) in
    let hash = ap (table (number_at 4 bytes) c.at.hash_at 4) word_count ∙ words-are bytes c.at.hash_at (words c) p.words w.words in
    let top : highest_end (segments_of c.at) ≡ c.at.mem_end = omega arith in
    let align : align_of (segments_of c.at) ≡ c.at.align = omega arith in
    rw (
      mapped-is bytes c.at (length (dynamics c)) c.flags c.entry l (record { long = w.long; header = w.header; segments = w.segments }) p.flags p.entry p.pure,
      tables-are bytes c w p,
      names-are (strings c) c.needed c.own r k c.has_init c.has_fini v t p.needed p.own parts.0 parts_2.0,
      arrays-is c.at (used c) r k c.has_init c.has_fini v t tell p.init p.fini parts_2.1,
      symbols-table bytes c w p,
      symbols-are (strings c) c.at.symbols_at (c.at.symbols_at + 24) c.symbols p.symbols p.new,
      symbols-of-named (c.at.symbols_at + 24) 24 0 c.symbols,
      names-of-named (c.at.symbols_at + 24) 24 0 c.symbols,
      relocs,
      all_relocs,
      relocs-fit (symbol_count c) c.at.relas_at 0 c.relas p.relas,
      caps-table bytes c.at.cap_relocs_at c.caps p.caps w.caps,
      hash,
      tell.symbolic,
      no-flag ns own r k c.has_init c.has_fini v t,
      top,
      align,
    ) refl

-- any other file is refused by a name or by an array
pub dyn-view-not : (bytes : List ℕ) (c : Content) → IsWritten bytes c → IsPlanned c → is_plain c ≡ false → Refused (dyn_view bytes)
unfolding dyn_view
dyn-view-not bytes c w p plain =
    let ns = map (λ (n : Name). n.0) c.needed in
    let own = own_offset c.own in
    let r = has_some c.relas in
    let k = has_some c.caps in
    let v = values c in
    let t = c.at.dynamic_at in
    let tell = used-tell ns own r k c.has_init c.has_fini v t in
    let names_taken = list_all is_taken c.needed && list_all is_taken (option_to_list c.own) in
    let whole = is_whole c.has_init c.at.init_size && is_whole c.has_fini c.at.fini_size in
    rw (mapped-is bytes c.at (length (dynamics c)) c.flags c.entry p.laid (record { long = w.long; header = w.header; segments = w.segments }) p.flags p.entry p.pure, tables-are bytes c w p)
    (⊎_elim (λ (yes : names_taken ≡ true).
    let parts = and_parts (list_all is_taken c.needed) (list_all is_taken (option_to_list c.own)) yes in
    let no : whole ≡ false = rw (parts.0, parts.1) at plain in
    rw (names-are (strings c) c.needed c.own r k c.has_init c.has_fini v t p.needed p.own parts.0 parts.1)
    (refused-bind (arrays_of (segments_of c.at) (used c) t) _ (arrays-not c.at (used c) r k c.has_init c.has_fini v t tell p.init p.fini no)))
    (λ (no : names_taken ≡ false). refused-bind (names_of (strings c) (listed c)) _ (names-not (strings c) c.needed c.own r k c.has_init c.has_fini v t p.needed p.own no))
    (cases_Bool names_taken))
