-- The segments are read back.
use Rattle.std.proofs.Common.{◌≡◌, ℕ, ◌+◌, ◌-◌, ◌*◌, ◌/◌, ◌%◌, ◌^◌, ◌<◌, ◌≤◌, max, min, Bool, true, false, List, [], ◌∷◌, ◌++◌, length, map, Option, Some, None, Ok, refl, ap, ◌∙◌, arith}
use Rattle.std.specs.Prelude.{nat_lt, nat_le, ◌||◌, ◌&&◌, ◌==◌, bit_and}
use Rattle.std.specs.List.{enumerate_from, list_any, AllByRecursion}
use Rattle.std.specs.Int.{is_power_of_two}
use Rattle.std.proofs.Common.{⊎_elim}
use Rattle.std.proofs.lemmas.List.{append-nil}
use Rattle.std.proofs.lemmas.Bool.{leb-true, and_parts, and_from, and_right, or_left, or_right, cases_Bool, false≢true}
use Rattle.cap_elf.specs.declared.program.Marks.{Marks}
use Rattle.cap_elf.specs.Header.{header_of, lacks_flags}
use Rattle.cap_elf.specs.Ends.{has_memory}
use Rattle.cap_elf.specs.Records.{table, program_header_at}
use Rattle.cap_elf.specs.Marks.{mark_step, marks_of}
use Rattle.cap_elf.specs.Stages.{mapped_of}
use Rattle.cap_readback.proofs.Header.{header-is, headers-is, program-headers-are}
use Rattle.std.proofs.lemmas.Bool.{le-ltb, lt-ltb, le-leb, eq-eqb}
use Rattle.cap_elf.specs.declared.records.Segment.{Segment}
use Rattle.cap_elf.specs.declared.decode.Table.{Table}
use Rattle.cap_elf.specs.Ends.{highest_end, holds, file_place, is_writable_at, writable_range}
use Rattle.cap_elf.specs.Segments.{headers_of, range_fails, alignment_fails, load_of, load_step, loads_of}
use Rattle.cap_layout.specs.declared.parts.Parts.{Parts}
use Rattle.cap_readback.specs.Written.{segment_read, segment_from, segments_of, headers_of_file, dynamic_segment, relro_segment}
use Rattle.cap_readback.specs.Plan.{AreLaid, HasHeaders}

pub both-false : (a b : Bool) → a ≡ false → b ≡ false → (a || b) ≡ false
both-false a b x y = rw (x, y) refl

-- the checks of a segment whose addresses are its offsets
range-passes : (file_len flags align start file_end mem_end : ℕ) → start ≤ file_end → file_end ≤ mem_end → file_end ≤ file_len → mem_end ≤ 2 ^ 26
    → range_fails file_len (segment_from flags align start file_end mem_end) ≡ false
range-passes file_len flags align start file_end mem_end a b c d =
    rw (le-ltb (mem_end - start) (file_end - start) (omega arith), le-ltb file_len (start + (file_end - start)) (omega arith), le-ltb (2 ^ 62) (start + (mem_end - start)) (omega arith)) refl

alignment-passes : (flags align start file_end mem_end : ℕ) → is_power_of_two align ≡ true → 1 ≤ align → align ≤ 2 ^ 26
    → alignment_fails (segment_from flags align start file_end mem_end) ≡ false
alignment-passes flags align start file_end mem_end p low high =
    let e : max align 1 ≡ align = omega arith in
    rw (e, p, le-ltb (2 ^ 26) align high, eq-eqb (start % align) (start % align) refl) refl

-- one segment more
load-more : (file_len flags align start file_end mem_end place : ℕ) (loads : List Segment) → start ≤ file_end → file_end ≤ mem_end → file_end ≤ file_len → mem_end ≤ 2 ^ 26
    → is_power_of_two align ≡ true → 1 ≤ align → align ≤ 2 ^ 26 → highest_end loads ≤ start → (bit_and flags 3 == 3) ≡ false
    → load_step file_len loads (record { kind = 1; segment = segment_from flags align start file_end mem_end; at = place }) ≡ Ok (loads ++ segment_from flags align start file_end mem_end ∷ [])
unfolding load_step load_of
load-more file_len flags align start file_end mem_end place loads a b c d p low high order wx =
    rw (range-passes file_len flags align start file_end mem_end a b c d, alignment-passes flags align start file_end mem_end p low high, le-ltb start (highest_end loads) order, wx) refl

-- a header that maps nothing
load-skip : (file_len kind place : ℕ) (s : Segment) (loads : List Segment) → (kind == 7) ≡ false → (kind == 1) ≡ false → load_step file_len loads (record { kind = kind; segment = s; at = place }) ≡ Ok loads
unfolding load_step load_of
load-skip file_len kind place s loads a b = rw (a, b) (ap Ok (append-nil loads))

abbrev s_ro : Parts → Segment
s_ro at = segment_from 4 at.align 0 at.ro_end at.ro_end

abbrev s_code : Parts → Segment
s_code at = segment_from 5 at.align at.code_start at.code_end at.code_end

abbrev s_table : Parts → Segment
s_table at = segment_from 6 at.align at.table_start at.table_end at.table_end

-- the loads are the four segments
pub loads-are : (at : Parts) (count file_len : ℕ) → AreLaid at count → file_len ≡ at.file_end
    → loads_of file_len (map (λ p. segment_read (64 + 56 * p.0) p.1) (enumerate_from 0 (headers_of_file at count))) ≡ Ok (segments_of at)
loads-are at count file_len l e =
    let s1 = load-more file_len 4 at.align 0 at.ro_end at.ro_end 64 [] (omega arith) (omega arith) (omega arith) (omega arith) l.power (omega arith) l.small (omega arith) refl in
    let s2 = load-more file_len 5 at.align at.code_start at.code_end at.code_end 120 (s_ro at ∷ []) (omega arith) (omega arith) (omega arith) (omega arith) l.power (omega arith) l.small (omega arith) refl in
    let s3 = load-more file_len 6 at.align at.table_start at.table_end at.table_end 176 (s_ro at ∷ s_code at ∷ []) (omega arith) (omega arith) (omega arith) (omega arith) l.power (omega arith) l.small (omega arith) refl in
    let s4 = load-more file_len 6 at.align at.data_start at.file_end at.mem_end 232 (s_ro at ∷ s_code at ∷ s_table at ∷ []) (omega arith) (omega arith) (omega arith) (omega arith) l.power (omega arith) l.small (omega arith) refl in
    let s5 = load-skip file_len 2 288 (dynamic_segment at count) (segments_of at) refl refl in
    let s6 = load-skip file_len 0x6474e552 344 (relro_segment at) (segments_of at) refl refl in
    rw (s1, s2, s3, s4, s5, s6) refl

-- ---- places
-- a range in the file bytes of a segment stands at its own address, where all addresses are offsets
pub place-same : (loads : List Segment) (address size : ℕ) → AllByRecursion (λ s. s.offset ≡ s.vaddr) loads → list_any (λ s. holds s address size) loads ≡ true → file_place loads address size ≡ Some address
place-same [] address size same h = absurd (false≢true h)
place-same (s ∷ ss) address size same h =
    ⊎_elim (λ (y : holds s address size ≡ true).
    let low : s.vaddr ≤ address = leb-true s.vaddr address (and_parts (nat_le s.vaddr address) (nat_le (address + size) (s.vaddr + s.filesz)) y).0 in
    let here : s.offset + (address - s.vaddr) ≡ address = omega (arith, low, same.0) in
    rw y (ap Some here))
    (λ (n : holds s address size ≡ false). rw n (place-same ss address size same.1 (rw n at h)))
    (cases_Bool (holds s address size))

pub segments-same : (at : Parts) → AllByRecursion (λ s. s.offset ≡ s.vaddr) (segments_of at)
segments-same at = (refl, (refl, (refl, (refl, tt))))

pub holds-true : (s : Segment) (address size : ℕ) → s.vaddr ≤ address → address + size ≤ s.vaddr + s.filesz → holds s address size ≡ true
holds-true s address size a b = and_from (nat_le s.vaddr address) (nat_le (address + size) (s.vaddr + s.filesz)) (le-leb s.vaddr address a) (le-leb (address + size) (s.vaddr + s.filesz) b)

-- a part of the first segment, and of the third, stands at its address
pub place-in-ro : (at : Parts) (address size : ℕ) → address + size ≤ at.ro_end → file_place (segments_of at) address size ≡ Some address
place-in-ro at address size h =
    place-same (segments_of at) address size (segments-same at) (rw (holds-true (s_ro at) address size (omega arith) (omega arith)) refl)

pub place-in-table : (at : Parts) (address size : ℕ) → at.table_start ≤ address → address + size ≤ at.table_end → file_place (segments_of at) address size ≡ Some address
place-in-table at address size a b =
    let three : holds (s_table at) address size ≡ true = holds-true (s_table at) address size a (omega arith) in
    place-same (segments_of at) address size (segments-same at)
    (or_right (holds (s_ro at) address size) (holds (s_code at) address size || (holds (s_table at) address size || (holds (segment_from 6 at.align at.data_start at.file_end at.mem_end) address size || false)))
    (or_right (holds (s_code at) address size) (holds (s_table at) address size || (holds (segment_from 6 at.align at.data_start at.file_end at.mem_end) address size || false))
    (or_left (holds (s_table at) address size) (holds (segment_from 6 at.align at.data_start at.file_end at.mem_end) address size || false) three)))

-- ---- marks
mark-skip : (loads : List Segment) (m : Marks) (s : Segment) (place : ℕ) → mark_step loads m (record { kind = 1; segment = s; at = place }) ≡ Ok m
unfolding mark_step
mark-skip loads m s place = refl

mark-dynamic : (loads : List Segment) (address count align place : ℕ) → file_place loads address (16 * count) ≡ Some address
    → mark_step loads (record { dynamic = None; relro = None }) (record { kind = 2; segment = segment_from 6 align address (address + 16 * count) (address + 16 * count); at = place })
    ≡ Ok (record { dynamic = Some (record { at = address; count = count }); relro = None })
unfolding mark_step
mark-dynamic loads address count align place h =
    let size : address + 16 * count - address ≡ 16 * count = omega arith in
    let whole : 16 * count % 16 ≡ 0 = omega arith in
    let many : 16 * count / 16 ≡ count = omega arith in
    rw (size, h, whole, many) refl

mark-relro : (loads : List Segment) (d : Option Table) (s : Segment) (place : ℕ) (range : ℕ × ℕ) → writable_range loads s.vaddr s.memsz ≡ Some range
    → mark_step loads (record { dynamic = d; relro = None }) (record { kind = 0x6474e552; segment = s; at = place }) ≡ Ok (record { dynamic = d; relro = Some range })
unfolding mark_step
mark-relro loads d s place range h = rw h refl

relro-range : (at : Parts) (count : ℕ) → AreLaid at count → writable_range (segments_of at) at.table_start (at.table_end - at.table_start) ≡ Some (at.table_start, at.table_end)
relro-range at count l =
    let w1 : is_writable_at (s_ro at) at.table_start ≡ false = and_right (nat_le 0 at.table_start && nat_lt at.table_start (0 + (at.ro_end - 0))) false refl in
    let w2 : is_writable_at (s_code at) at.table_start ≡ false = and_right (nat_le at.code_start at.table_start && nat_lt at.table_start (at.code_start + (at.code_end - at.code_start))) false refl in
    let w3 : is_writable_at (s_table at) at.table_start ≡ true = rw (le-leb at.table_start at.table_start (omega arith), lt-ltb at.table_start (at.table_start + (at.table_end - at.table_start)) (omega arith)) refl in
    let end : min (at.table_start + (at.table_end - at.table_start)) (at.table_start + (at.table_end - at.table_start)) ≡ at.table_end = omega arith in
    rw (w1, w2, w3, end) refl

pub marks-are : (at : Parts) (count : ℕ) → AreLaid at count
    → marks_of (segments_of at) (map (λ p. segment_read (64 + 56 * p.0) p.1) (enumerate_from 0 (headers_of_file at count)))
    ≡ Ok (record { dynamic = Some (record { at = at.dynamic_at; count = count }); relro = Some (at.table_start, at.table_end) })
marks-are at count l =
    let none : Marks = record { dynamic = None; relro = None } in
    let loads = segments_of at in
    let m1 = mark-skip loads none (s_ro at) 64 in
    let m2 = mark-skip loads none (s_code at) 120 in
    let m3 = mark-skip loads none (s_table at) 176 in
    let m4 = mark-skip loads none (segment_from 6 at.align at.data_start at.file_end at.mem_end) 232 in
    let m5 = mark-dynamic loads at.dynamic_at count 16 288 (place-in-table at at.dynamic_at (16 * count) (omega arith) (omega arith)) in
    let m6 = mark-relro loads (Some (record { at = at.dynamic_at; count = count })) (relro_segment at) 344 (at.table_start, at.table_end) (relro-range at count l) in
    rw (m1, m2, m3, m4, m5, m6) refl

-- the first stage, from what each of its steps gives
mapped_is : (bytes : List ℕ) (flags : ℕ) (place : Table) (loads : List Segment) (marks : Marks) (dynamic : Table)
    → header_of 3 bytes ≡ Ok flags
    → headers_of bytes ≡ Ok place
    → loads_of (length bytes) (table (program_header_at bytes) place.at 56 place.count) ≡ Ok loads
    → list_any has_memory loads ≡ true
    → marks_of loads (table (program_header_at bytes) place.at 56 place.count) ≡ Ok marks
    → marks.dynamic ≡ Some dynamic
    → mapped_of bytes ≡ Ok (record { flags = flags; loads = loads; relro = marks.relro; dynamic = dynamic })
unfolding mapped_of
mapped_is bytes flags place loads marks dynamic h1 h2 h3 h4 h5 h6 = rw (h1, h2, h3, h4, h5, h6) refl

-- ---- the whole stage
pub mapped-is : (bytes : List ℕ) (at : Parts) (count flags entry : ℕ) → AreLaid at count → HasHeaders bytes at count flags entry
    → flags < 2 ^ 32 → entry < 2 ^ 64 → lacks_flags flags ≡ false
    → mapped_of bytes ≡ Ok (record { flags = flags; loads = segments_of at; relro = Some (at.table_start, at.table_end); dynamic = record { at = at.dynamic_at; count = count } })
mapped-is bytes at count flags entry l has f e set =
    let headers = map (λ p. segment_read (64 + 56 * p.0) p.1) (enumerate_from 0 (headers_of_file at count)) in
    let same : table (program_header_at bytes) 64 56 6 ≡ headers = program-headers-are bytes at count flags entry l has in
    mapped_is bytes flags (record { at = 64; count = 6 }) (segments_of at) (record { dynamic = Some (record { at = at.dynamic_at; count = count }); relro = Some (at.table_start, at.table_end) }) (record { at = at.dynamic_at; count = count })
    (header-is bytes flags entry f e set (omega (arith, has.long)) has.header)
    (headers-is bytes flags entry f e (omega (arith, has.long)) has.header)
    (ap (loads_of (length bytes)) same ∙ loads-are at count (length bytes) l has.long)
    (rw (lt-ltb 0 (at.ro_end - 0) (omega arith)) refl)
    (ap (marks_of (segments_of at)) same ∙ marks-are at count l)
    refl
