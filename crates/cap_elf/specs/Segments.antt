-- The program headers: the segments that are mapped (gABI, "Program Header").
use Rattle.std.specs.Prelude.{ℕ, ◌+◌, ◌*◌, ◌%◌, ◌^◌, max, Bool, not, ◌||◌, ◌==◌, nat_lt, List, [], ◌++◌, length, bit_and, if◌then◌else◌, Option, Some, None, option_to_list, Result, Ok}
use Rattle.std.specs.Int.{is_power_of_two}
use Rattle.cap_base.specs.Field.{number_at}
use Rattle.cap_base.specs.declared.check.Check.TheVariants.{ProgramHeaders, ThreadLocal, SegmentRange, SegmentAlignment, SegmentOrder, WritableCode}
use Rattle.cap_base.specs.declared.refusal.Fault.{Fault}
use Rattle.cap_elf.specs.declared.records.Segment.{Segment}
use Rattle.cap_elf.specs.declared.decode.ProgramHeader.{ProgramHeader}
use Rattle.cap_elf.specs.declared.decode.Table.{Table}
use Rattle.cap_elf.specs.Numbers.{PT_LOAD, PT_TLS}
use Rattle.cap_elf.specs.Ends.{highest_end}
use Rattle.cap_base.specs.Steps.{◌>>=◌, ◌>>◌, refuse, steps}

-- where the program headers stand (e_phoff), and how many they are (e_phnum)
unfoldable pub headers_of : List ℕ → Result Table Fault
headers_of bytes = do
  let at = number_at 8 bytes 32
  let count = number_at 2 bytes 56
  refuse (count == 0 || not (number_at 2 bytes 54 == 56) || nat_lt (length bytes) (at + 56 * count)) ProgramHeaders 32
  Ok (record { at = at; count = count })

-- more bytes in the file than in memory, bytes outside the file, or addresses above 2^62
abbrev pub range_fails : ℕ → Segment → Bool
range_fails file_len s = nat_lt s.memsz s.filesz || nat_lt file_len (s.offset + s.filesz) || nat_lt (2 ^ 62) (s.vaddr + s.memsz)

-- p_align is no power of two up to 2^26, or p_vaddr and p_offset differ modulo it; an alignment of 0 counts as 1
abbrev pub alignment_fails : Segment → Bool
alignment_fails s =
    let align = max s.align 1 in
    not (is_power_of_two align) || nat_lt (2 ^ 26) align || not (s.offset % align == s.vaddr % align)

-- PF_W and PF_X
abbrev pub is_writable_code : Segment → Bool
is_writable_code s = bit_and s.flags 3 == 3

-- the segment that a program header maps, where it maps one. `end` is the highest end of the earlier ones
unfoldable pub load_of : ℕ → ℕ → ProgramHeader → Result (Option Segment) Fault
load_of file_len end h = do
  refuse (h.kind == PT_TLS) ThreadLocal h.at
  if not (h.kind == PT_LOAD) then Ok None else do
    refuse (range_fails file_len h.segment) SegmentRange h.at
    refuse (alignment_fails h.segment) SegmentAlignment h.at
    refuse (nat_lt h.segment.vaddr end) SegmentOrder h.at
    refuse (is_writable_code h.segment) WritableCode h.at
    Ok (Some h.segment)

-- the segments so far, and that of one more header
unfoldable pub load_step : ℕ → List Segment → ProgramHeader → Result (List Segment) Fault
load_step file_len loads h = do
  s ← load_of file_len (highest_end loads) h
  Ok (loads ++ option_to_list s)

-- the segments that the headers map, in order
abbrev pub loads_of : ℕ → List ProgramHeader → Result (List Segment) Fault
loads_of file_len headers = steps (load_step file_len) [] headers
