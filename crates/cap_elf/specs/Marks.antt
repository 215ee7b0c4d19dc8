-- The program headers that map nothing: the dynamic table (PT_DYNAMIC) and the part that is read-only later
-- (PT_GNU_RELRO).
use Rattle.std.specs.Prelude.{◌/◌, ◌%◌, not, ◌||◌, ◌==◌, List, if◌then◌else◌, Some, None, is_some, is_none, unwrap_or, Result, Ok}
use Rattle.cap_base.specs.declared.check.Check.TheVariants.{DynamicHeader, RelroHeader}
use Rattle.cap_base.specs.declared.refusal.Fault.{Fault}
use Rattle.cap_elf.specs.declared.records.Segment.{Segment}
use Rattle.cap_elf.specs.declared.decode.ProgramHeader.{ProgramHeader}
use Rattle.cap_elf.specs.declared.program.Marks.{Marks}
use Rattle.cap_elf.specs.Numbers.{PT_DYNAMIC, PT_GNU_RELRO}
use Rattle.cap_elf.specs.Ends.{file_place, writable_range}
use Rattle.cap_base.specs.Steps.{◌>>◌, refuse, steps}

-- what the headers so far tell, and one more
unfoldable pub mark_step : List Segment → Marks → ProgramHeader → Result Marks Fault
mark_step loads marks h =
    if h.kind == PT_DYNAMIC then (do
      let place = file_place loads h.segment.vaddr h.segment.filesz
      refuse (is_some marks.dynamic || not (h.segment.filesz % 16 == 0) || is_none place) DynamicHeader h.at
      Ok (record marks { dynamic = Some (record { at = unwrap_or place 0; count = h.segment.filesz / 16 }) }))
    else if h.kind == PT_GNU_RELRO then (do
      let range = writable_range loads h.segment.vaddr h.segment.memsz
      refuse (is_some marks.relro || is_none range) RelroHeader h.at
      Ok (record marks { relro = range }))
    else Ok marks

-- what all of them tell
abbrev pub marks_of : List Segment → List ProgramHeader → Result Marks Fault
marks_of loads headers = steps (mark_step loads) (record { dynamic = None; relro = None }) headers
