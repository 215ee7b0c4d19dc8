-- The tables that the dynamic table names are read back.
use Rattle.std.proofs.Common.{◌≡◌, ℕ, ◌+◌, ◌-◌, ◌*◌, ◌/◌, ◌%◌, ◌^◌, ◌<◌, ◌≤◌, Bool, true, false, List, [], ◌∷◌, length, take, drop, get_or, Some, None, Ok, Err, refl, ap, ◌∙◌, arith}
use Rattle.std.specs.Prelude.{nat_lt, nat_le, ◌||◌, ◌&&◌, ◌==◌, slice_range, slice_index}
use Rattle.std.specs.List.{flat_map, list_any}
use Rattle.std.proofs.lemmas.Bool.{le-ltb, le-leb, ne_eqb, and_from, or_left, or_right}
use Rattle.std.proofs.lemmas.List.{take_at}
use Rattle.cap_elf.specs.declared.records.Segment.{Segment}
use Rattle.cap_elf.specs.declared.decode.DynEntry.{DynEntry}
use Rattle.cap_elf.specs.declared.decode.Table.{Table}
use Rattle.cap_elf.specs.Ends.{file_place, spans, end_of, is_in_memory}
use Rattle.cap_elf.specs.Tables.{strings_of, hash_of, symbols_of, list_of, lists_of, is_value}
use Rattle.cap_elf.specs.Arrays.{array_of, arrays_of}
use Rattle.cap_layout.specs.declared.parts.Parts.{Parts}
use Rattle.cap_readback.specs.Stands.{Stands, fields}
use Rattle.cap_readback.specs.Written.{segments_of, segment_from}
use Rattle.cap_readback.specs.Lists.{Values, Tell, option_if}
use Rattle.cap_readback.specs.View.{pair_if, IsArray, is_whole, Refused}
use Rattle.std.proofs.Common.{⊎_elim, inr}
use Rattle.std.proofs.lemmas.Bool.{and_parts, cases_Bool, true≢false}
use Rattle.cap_base.specs.declared.check.Check.TheVariants.{Array}
use Rattle.cap_readback.specs.Content.{terminated, word_bytes}
use Rattle.cap_readback.proofs.Reading.{stands-front, stands-fields}
use Rattle.cap_readback.proofs.Names.{ends-in-zero}
use Rattle.cap_readback.proofs.Segments.{place-in-ro}

not-zero : (n : ℕ) → 0 < n → (n == 0) ≡ false
not-zero n h = ne_eqb n 0 (λ (e : n ≡ 0). omega (arith, e, h))

-- the bytes of a chunk are what a slice of the file is
pub slice-stands : (bytes : List ℕ) (at : ℕ) (xs : List ℕ) → Stands bytes at xs → slice_range bytes at (at + length xs) ≡ xs
slice-stands bytes at xs h =
    let size : at + length xs - at ≡ length xs = omega arith in
    ap (λ k. take k (drop at bytes)) size ∙ ap (take (length xs)) h.is ∙ take_at xs h.rest (length xs) refl

-- the string table
pub strings-is : (bytes : List ℕ) (at : Parts) (used : List DynEntry) (relas caps init fini : Bool) (v : Values) (names : List (List ℕ)) (t : ℕ) → Tell used relas caps init fini v
    → v.strings_size ≡ length (0 ∷ terminated names) → v.strings + v.strings_size ≤ at.ro_end → Stands bytes v.strings (0 ∷ terminated names)
    → strings_of bytes (segments_of at) used t ≡ Ok (0 ∷ terminated names)
unfolding strings_of
strings-is bytes at used relas caps init fini v names t tell size inside stands =
    let xs = 0 ∷ terminated names in
    let tell_size = tell.strings_size ∙ ap Some size in
    let place = place-in-ro at v.strings (length xs) (omega (arith, size, inside)) in
    let range = slice-stands bytes v.strings xs stands in
    let some = not-zero (length xs) (omega arith) in
    let last : slice_index xs (length xs - 1) ≡ 0 = (let e : length xs - 1 ≡ length (terminated names) = omega arith in ap (λ k. get_or xs k 0) e ∙ ends-in-zero names) in
    rw (tell_size, tell.strings, place, range, some, last) refl

-- the hash table
pub hash-is : (bytes : List ℕ) (at : Parts) (used : List DynEntry) (relas caps init fini : Bool) (v : Values) (buckets chains : ℕ) (more : List ℕ) (t : ℕ) → Tell used relas caps init fini v
    → 0 < buckets → 0 < chains → buckets < 2 ^ 32 → chains < 2 ^ 32 → v.hash + (8 + 4 * (buckets + chains)) ≤ at.ro_end → Stands bytes v.hash (flat_map word_bytes (buckets ∷ chains ∷ more))
    → hash_of bytes (segments_of at) used t ≡ Ok (record { words = record { at = v.hash; count = 2 + buckets + chains }; symbols = chains })
unfolding hash_of
hash-is bytes at used relas caps init fini v buckets chains more t tell b c b_fits c_fits inside stands =
    let two = (4, buckets) ∷ (4, chains) ∷ [] in
    let r = stands-fields bytes v.hash two (b_fits, (c_fits, tt)) (stands-front bytes v.hash (fields two) (flat_map word_bytes more) stands) in
    let head = place-in-ro at v.hash 8 (omega (arith, inside)) in
    let whole = place-in-ro at v.hash (8 + 4 * (buckets + chains)) inside in
    rw (tell.hash, head, r.0, r.1.0, not-zero buckets b, not-zero chains c, whole) refl

-- the symbol table
pub symbols-is : (at : Parts) (used : List DynEntry) (relas caps init fini : Bool) (v : Values) (count t : ℕ) → Tell used relas caps init fini v
    → count ≤ 2 ^ 20 → v.symbols + 24 * count ≤ at.ro_end
    → symbols_of (segments_of at) used count t ≡ Ok (record { at = v.symbols; count = count })
unfolding symbols_of
symbols-is at used relas caps init fini v count t tell few inside =
    rw (le-ltb (2 ^ 20) count few, tell.symbols, place-in-ro at v.symbols (24 * count) inside, tell.symbol_size) refl

-- the lists of relocations
abbrev pub table_if : Bool → ℕ → ℕ → Table
table_if true at count = record { at = at; count = count }
table_if false at count = record { at = 0; count = 0 }

list-24 : (loads : List Segment) (b : Bool) (at count t : ℕ) → file_place loads at (24 * count) ≡ Some at
    → list_of loads (option_if b at) (option_if b (24 * count)) (is_value (option_if b 24) 24) 24 t ≡ Ok (table_if b at count)
unfolding list_of
list-24 loads false at count t h = refl
list-24 loads true at count t h =
    let whole : 24 * count % 24 ≡ 0 = omega arith in
    let many : 24 * count / 24 ≡ count = omega arith in
    rw (h, whole, many) refl

list-40 : (loads : List Segment) (b : Bool) (at count t : ℕ) → file_place loads at (40 * count) ≡ Some at
    → list_of loads (option_if b at) (option_if b (40 * count)) true 40 t ≡ Ok (table_if b at count)
unfolding list_of
list-40 loads false at count t h = refl
list-40 loads true at count t h =
    let whole : 40 * count % 40 ≡ 0 = omega arith in
    let many : 40 * count / 40 ≡ count = omega arith in
    rw (h, whole, many) refl

list-none : (loads : List Segment) (b : Bool) (width t : ℕ) → list_of loads None None b width t ≡ Ok (record { at = 0; count = 0 })
unfolding list_of
list-none loads b width t = refl

count-if : (b : Bool) (at count : ℕ) → (table_if b at count).count ≤ count
count-if true at count = omega arith
count-if false at count = omega arith

pub lists-is : (at : Parts) (used : List DynEntry) (relas caps init fini : Bool) (v : Values) (rela_count cap_count t : ℕ) → Tell used relas caps init fini v
    → v.relas_size ≡ 24 * rela_count → v.caps_size ≡ 40 * cap_count → v.relas + 24 * rela_count ≤ at.ro_end → v.caps + 40 * cap_count ≤ at.ro_end → rela_count + cap_count ≤ 2 ^ 20
    → lists_of (segments_of at) used t ≡ Ok (record { cap_relocs = table_if caps v.caps cap_count; relocs = table_if relas v.relas rela_count; jumps = record { at = 0; count = 0 } })
unfolding lists_of
lists-is at used relas caps init fini v rela_count cap_count t tell rs cs rin cin few =
    let loads = segments_of at in
    let r_size = tell.relas_size ∙ ap (option_if relas) rs in
    let c_size = tell.caps_size ∙ ap (option_if caps) cs in
    let r = list-24 loads relas v.relas rela_count t (place-in-ro at v.relas (24 * rela_count) rin) in
    let c = list-40 loads caps v.caps cap_count t (place-in-ro at v.caps (40 * cap_count) cin) in
    let j = list-none loads (is_value None 7) 24 t in
    let rc = count-if relas v.relas rela_count in
    let cc2 = count-if caps v.caps cap_count in
    let sum : nat_lt (2 ^ 20) ((table_if relas v.relas rela_count).count + 0 + (table_if caps v.caps cap_count).count) ≡ false = le-ltb (2 ^ 20) ((table_if relas v.relas rela_count).count + 0 + (table_if caps v.caps cap_count).count) (omega (arith, rc, cc2, few)) in
    rw (tell.relas_at, r_size, tell.rela_size, r, tell.jumps_at, tell.jumps_size, tell.jumps_kind, j, tell.caps_at, c_size, c, sum) refl

-- ---- arrays
any-third : {X : Type 0} (p : X → Bool) (a b c : X) (ds : List X) → p c ≡ true → list_any p (a ∷ b ∷ c ∷ ds) ≡ true
any-third p a b c ds h = or_right (p a) (p b || (p c || list_any p ds)) (or_right (p b) (p c || list_any p ds) (or_left (p c) (list_any p ds) h))

in-table : (at : Parts) (start size : ℕ) → IsArray at start size → is_in_memory (segments_of at) start size ≡ true
in-table at start size h =
    let s1 = segment_from 4 at.align 0 at.ro_end at.ro_end in
    let s2 = segment_from 5 at.align at.code_start at.code_end at.code_end in
    let s3 = segment_from 6 at.align at.table_start at.table_end at.table_end in
    let s4 = segment_from 6 at.align at.data_start at.file_end at.mem_end in
    any-third (λ (s : Segment). spans s start size) s1 s2 s3 (s4 ∷ [])
    (and_from (nat_le s3.vaddr start) (nat_le (start + size) (end_of s3)) (le-leb at.table_start start h.from) (le-leb (start + size) (end_of s3) (omega (arith, h.end))))

array-is : (at : Parts) (b : Bool) (start size t : ℕ) → IsArray at start size → is_whole b size ≡ true → array_of (segments_of at) (option_if b start) (option_if b size) t ≡ Ok (pair_if b start size)
unfolding array_of
array-is at false start size t h whole = refl
array-is at true start size t h whole = rw (h.start_whole, whole, in-table at start size h) refl

array-not : (at : Parts) (b : Bool) (start size t : ℕ) → IsArray at start size → is_whole b size ≡ false → array_of (segments_of at) (option_if b start) (option_if b size) t ≡ Err (record { check = Array; at = t })
unfolding array_of
array-not at false start size t h whole = absurd (true≢false whole)
array-not at true start size t h whole = rw (h.start_whole, whole) refl

pub arrays-not : (at : Parts) (used : List DynEntry) (relas caps init fini : Bool) (v : Values) (t : ℕ) → Tell used relas caps init fini v → IsArray at v.init v.init_size → IsArray at v.fini v.fini_size
    → (is_whole init v.init_size && is_whole fini v.fini_size) ≡ false → Refused (arrays_of (segments_of at) used t)
unfolding arrays_of
arrays-not at used relas caps init fini v t tell i f whole =
    ⊎_elim (λ (yes : is_whole init v.init_size ≡ true).
    let no : is_whole fini v.fini_size ≡ false = rw yes at whole in
    record { fault = record { check = Array; at = t }; is = rw (tell.init_at, tell.init_size, array-is at init v.init v.init_size t i yes, tell.fini_at, tell.fini_size, array-not at fini v.fini v.fini_size t f no) refl; check = inr refl })
    (λ (no : is_whole init v.init_size ≡ false).
    record { fault = record { check = Array; at = t }; is = rw (tell.init_at, tell.init_size, array-not at init v.init v.init_size t i no) refl; check = inr refl })
    (cases_Bool (is_whole init v.init_size))

pub arrays-is : (at : Parts) (used : List DynEntry) (relas caps init fini : Bool) (v : Values) (t : ℕ) → Tell used relas caps init fini v → IsArray at v.init v.init_size → IsArray at v.fini v.fini_size → (is_whole init v.init_size && is_whole fini v.fini_size) ≡ true
    → arrays_of (segments_of at) used t ≡ Ok (record { init_at = (pair_if init v.init v.init_size).0; init_size = (pair_if init v.init v.init_size).1; fini_at = (pair_if fini v.fini v.fini_size).0; fini_size = (pair_if fini v.fini v.fini_size).1 })
unfolding arrays_of
arrays-is at used relas caps init fini v t tell i f whole =
    let parts = and_parts (is_whole init v.init_size) (is_whole fini v.fini_size) whole in
    rw (tell.init_at, tell.init_size, array-is at init v.init v.init_size t i parts.0, tell.fini_at, tell.fini_size, array-is at fini v.fini v.fini_size t f parts.1) refl
