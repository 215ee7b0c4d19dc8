-- Where segments lie, and where they end.
use Rattle.std.specs.Prelude.{ℕ, ◌+◌, ◌-◌, ◌≤◌, ◌^◌, max, nat_le, nat_lt, min, Bool, ◌&&◌, ◌==◌, bit_and, List, fold, find, Option}
use Rattle.std.specs.Option.{option_map, option_and_then}
use Rattle.std.specs.List.{list_any}
use Rattle.cap_elf.specs.declared.records.Segment.{Segment}

-- the first address behind the segment
abbrev pub end_of : Segment → ℕ
end_of s = s.vaddr + s.memsz

-- the highest of all ends, 0 where there is none
abbrev pub highest_end : List Segment → ℕ
highest_end loads = fold (λ end s. max end (end_of s)) 0 loads

-- the segment's bytes are in a file of this length, and its addresses are low
abbrev pub IsInFile : ℕ → Segment → Type 0
IsInFile file_len s = (s.offset + s.filesz ≤ file_len) × (s.filesz ≤ s.memsz) × (s.vaddr + s.memsz ≤ 2 ^ 62)

-- a range of addresses is in the file bytes of the segment
abbrev pub holds : Segment → ℕ → ℕ → Bool
holds s address size = nat_le s.vaddr address && nat_le (address + size) (s.vaddr + s.filesz)

-- the file offset of a range of addresses, counted from the first segment that holds it
abbrev pub file_place : List Segment → ℕ → ℕ → Option ℕ
file_place loads address size = option_map (λ s. s.offset + (address - s.vaddr)) (find (λ s. holds s address size) loads)

-- the same for an address that may be missing
abbrev pub table_place : List Segment → Option ℕ → ℕ → Option ℕ
table_place loads address size = option_and_then (λ a. file_place loads a size) address

-- the segment may be written (PF_W)
abbrev pub writes : Segment → Bool
writes s = bit_and s.flags 2 == 2

-- the segment has this address, and may be written
abbrev pub is_writable_at : Segment → ℕ → Bool
is_writable_at s address = nat_le s.vaddr address && nat_lt address (end_of s) && writes s

-- the range from an address of a writable segment on, cut at the segment's end
abbrev pub writable_range : List Segment → ℕ → ℕ → Option (ℕ × ℕ)
writable_range loads address size = option_map (λ s. (address, min (address + size) (end_of s))) (find (λ s. is_writable_at s address) loads)

-- the segment has an address
abbrev pub has_memory : Segment → Bool
has_memory s = nat_lt 0 s.memsz

-- a range of addresses is in the memory of a segment
abbrev pub spans : Segment → ℕ → ℕ → Bool
spans s address size = nat_le s.vaddr address && nat_le (address + size) (end_of s)

-- a range of addresses is in the memory of one of them
abbrev pub is_in_memory : List Segment → ℕ → ℕ → Bool
is_in_memory loads address size = list_any (λ s. spans s address size) loads
