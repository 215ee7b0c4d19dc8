-- What stands in the mapping of an object before it is relocated (gABI, "Program Loading").
use Rattle.std.specs.Prelude.{ℕ, ◌+◌, ◌-◌, ◌&&◌, nat_le, nat_lt, Bool, List, map, find, slice_index, Option, Some, None}
use Rattle.cap_base.specs.Lists.{numbers_between}
use Rattle.cap_elf.specs.declared.records.Segment.{Segment}
use Rattle.cap_elf.specs.DynView.{DynRecords}

-- an address, before the object is placed, is one of the first p_filesz of the segment, which stand in the file
abbrev pub has_file_byte : ℕ → Segment → Bool
has_file_byte at s = nat_le s.vaddr at && nat_lt at (s.vaddr + s.filesz)

-- the byte of the file that the segment has at the address, or 0 where no segment has one
abbrev pub byte_in : List ℕ → ℕ → Option Segment → ℕ
byte_in file at None = 0
byte_in file at (Some s) = slice_index file (s.offset + (at - s.vaddr))

-- what stands at an address
abbrev pub mapped_byte : List ℕ → List Segment → ℕ → ℕ
mapped_byte file segments at = byte_in file at (find (has_file_byte at) segments)

-- the bytes of the whole span
abbrev pub mapped_bytes : List ℕ → DynRecords → List ℕ
mapped_bytes file object = map (mapped_byte file object.segments) (numbers_between 0 object.span)
