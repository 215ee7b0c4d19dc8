-- What the stores of an object's segments make of a memory.
use Rattle.std.specs.Prelude.{ℕ, ◌+◌, ◌≤◌, List, fold, take, drop}
use Rattle.cap_elf.specs.declared.records.Segment.{Segment}
use Rattle.cap_mem.specs.Tagged.{TaggedMemory, with_bytes}

-- the bytes of the file that the segment has: p_filesz from p_offset on
abbrev pub file_part : List ℕ → Segment → List ℕ
file_part file s = take s.filesz (drop s.offset file)

-- after they were stored at p_vaddr
abbrev pub with_segment : List ℕ → TaggedMemory → Segment → TaggedMemory
with_segment file memory s = with_bytes memory (memory.base + s.vaddr) (file_part file s)

-- the same for one segment after the other
abbrev pub with_segments : List ℕ → TaggedMemory → List Segment → TaggedMemory
with_segments file memory segments = fold (with_segment file) memory segments

-- the segment's part of the file lies in a mapping and in a file of these lengths
pub record PartFits (span file_len : ℕ) (s : Segment) : Type 0 where
  pub in_span : s.vaddr + s.filesz ≤ span
  pub in_file : s.offset + s.filesz ≤ file_len
