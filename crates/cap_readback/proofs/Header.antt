-- The headers of a file are read back.
use Rattle.std.proofs.Common.{◌≡◌, ℕ, ◌+◌, ◌*◌, ◌^◌, ◌<◌, ◌≤◌, false, List, length, map, drop, get_or, Ok, refl, sym, ap, ◌∙◌, arith}
use Rattle.std.specs.Prelude.{slice_index}
use Rattle.std.specs.List.{enumerate_from}
use Rattle.std.proofs.lemmas.Bool.{le-ltb}
use Rattle.std.proofs.lemmas.List.{get_or-drop}
use Rattle.cap_base.specs.Field.{number_at}
use Rattle.cap_elf.specs.declared.records.Segment.{Segment}
use Rattle.cap_elf.specs.Header.{header_of, lacks_flags}
use Rattle.cap_elf.specs.Records.{table, program_header_at}
use Rattle.cap_elf.specs.Segments.{headers_of}
use Rattle.cap_layout.specs.declared.parts.Parts.{Parts}
use Rattle.cap_readback.specs.Stands.{Stands, fields, AreSmall, AreRead}
use Rattle.cap_readback.specs.Written.{header_fields, segment_fields, segment_bytes, segment_read, headers_of_file}
use Rattle.cap_readback.specs.Plan.{AreLaid, HasHeaders}
use Rattle.cap_readback.proofs.Reading.{stands-fields, table-read}

-- a byte is a number of one byte
pub byte-number : (bytes : List ℕ) (at x : ℕ) → number_at 1 bytes at ≡ x → slice_index bytes at ≡ x
byte-number bytes at x h =
    let place : at ≡ at + 0 = omega arith in
    let one : slice_index (drop at bytes) 0 + 256 * 0 ≡ x = h in
    let there : slice_index (drop at bytes) 0 ≡ get_or bytes (at + 0) 0 = get_or-drop at bytes 0 0 in
    ap (λ k. get_or bytes k 0) place ∙ sym there ∙ omega (arith, one)

header-fields : (bytes : List ℕ) (flags entry : ℕ) → flags < 2 ^ 32 → entry < 2 ^ 64 → Stands bytes 0 (fields (header_fields flags entry)) → AreRead bytes 0 (header_fields flags entry)
header-fields bytes flags entry f e h =
    stands-fields bytes 0 (header_fields flags entry)
    (omega arith, (omega arith, (omega arith, (omega arith, (omega arith, (omega arith, (omega arith, (omega arith, (omega arith, (omega arith, (omega arith, (omega arith, (omega arith, (omega arith, (omega arith, (omega arith, (omega arith, (omega arith, (omega arith, tt)))))))))))))))))))
    h

-- the header passes its checks, and gives the flags
pub header-is : (bytes : List ℕ) (flags entry : ℕ) → flags < 2 ^ 32 → entry < 2 ^ 64 → lacks_flags flags ≡ false → 64 ≤ length bytes → Stands bytes 0 (fields (header_fields flags entry)) → header_of 3 bytes ≡ Ok flags
unfolding header_of
header-is bytes flags entry f e set long h =
    let r = header-fields bytes flags entry f e h in
    let b4 = byte-number bytes 4 2 r.1.0 in
    let b5 = byte-number bytes 5 1 r.1.1.0 in
    let b6 = byte-number bytes 6 1 r.1.1.1.0 in
    rw (le-ltb (length bytes) 64 long, r.0, b4, b5, b6, r.1.1.1.1.1.1.1.0, r.1.1.1.1.1.1.1.1.0, r.1.1.1.1.1.1.0, r.1.1.1.1.1.1.1.1.1.1.1.1.0, set) refl

-- the table of program headers is where the header says
pub headers-is : (bytes : List ℕ) (flags entry : ℕ) → flags < 2 ^ 32 → entry < 2 ^ 64 → 400 ≤ length bytes → Stands bytes 0 (fields (header_fields flags entry)) → headers_of bytes ≡ Ok (record { at = 64; count = 6 })
unfolding headers_of
headers-is bytes flags entry f e long h =
    let r = header-fields bytes flags entry f e h in
    rw (r.1.1.1.1.1.1.1.1.1.1.0, r.1.1.1.1.1.1.1.1.1.1.1.1.1.1.1.0, r.1.1.1.1.1.1.1.1.1.1.1.1.1.1.0, le-ltb (length bytes) 400 long) refl

-- a program header is read back where its fields fit
pub IsSmallHeader : ℕ × Segment → Type 0
IsSmallHeader p = AreSmall (segment_fields p)

pub program-header-is : (bytes : List ℕ) (at : ℕ) (p : ℕ × Segment) → AreSmall (segment_fields p) → Stands bytes at (segment_bytes p) → program_header_at bytes at ≡ segment_read at p
unfolding program_header_at
program-header-is bytes at p small h =
    let r = stands-fields bytes at (segment_fields p) small h in
    rw (r.0, r.1.0, r.1.1.0, r.1.1.1.0, r.1.1.1.1.1.0, r.1.1.1.1.1.1.0, r.1.1.1.1.1.1.1.0) refl

-- all six
pub program-headers-are : (bytes : List ℕ) (at : Parts) (count flags entry : ℕ) → AreLaid at count → HasHeaders bytes at count flags entry
    → table (program_header_at bytes) 64 56 6 ≡ map (λ p. segment_read (64 + 56 * p.0) p.1) (enumerate_from 0 (headers_of_file at count))
program-headers-are bytes at count flags entry laid has =
    table-read (program_header_at bytes) segment_bytes segment_read (λ p. AreSmall (segment_fields p)) bytes 64 56 (headers_of_file at count) (λ p. refl) (λ q p small h. program-header-is bytes q p small h)
    ((omega arith, (omega arith, (omega arith, (omega arith, (omega arith, (omega arith, (omega arith, (omega arith, tt)))))))), ((omega arith, (omega arith, (omega arith, (omega arith, (omega arith, (omega arith, (omega arith, (omega arith, tt)))))))), ((omega arith, (omega arith, (omega arith, (omega arith, (omega arith, (omega arith, (omega arith, (omega arith, tt)))))))), ((omega arith, (omega arith, (omega arith, (omega arith, (omega arith, (omega arith, (omega arith, (omega arith, tt)))))))), ((omega arith, (omega arith, (omega arith, (omega arith, (omega arith, (omega arith, (omega arith, (omega arith, tt)))))))), ((omega arith, (omega arith, (omega arith, (omega arith, (omega arith, (omega arith, (omega arith, (omega arith, tt)))))))), tt))))))
    has.segments
