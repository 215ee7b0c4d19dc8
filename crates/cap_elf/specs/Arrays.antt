-- The arrays of initial and final calls.
use Rattle.std.specs.Prelude.{ℕ, ◌%◌, not, ◌||◌, ◌==◌, List, Option, Some, None, ok_or, Result, Ok}
use Rattle.cap_base.specs.declared.check.Check.TheVariants as checks
use Rattle.cap_base.specs.declared.refusal.Fault.{Fault}
use Rattle.cap_elf.specs.declared.records.Segment.{Segment}
use Rattle.cap_elf.specs.declared.decode.DynEntry.{DynEntry}
use Rattle.cap_elf.specs.declared.records.Arrays.{Arrays}
use Rattle.cap_elf.specs.Numbers.{DT_INIT_ARRAY, DT_INIT_ARRAYSZ, DT_FINI_ARRAY, DT_FINI_ARRAYSZ}
use Rattle.cap_elf.specs.Ends.{is_in_memory}
use Rattle.cap_elf.specs.Dynamic.{value_of}
use Rattle.cap_base.specs.Steps.{◌>>=◌, ◌>>◌, refuse, fault}

-- the address and the size of an array: 0 and 0 where it has no address
unfoldable pub array_of : List Segment → Option ℕ → Option ℕ → ℕ → Result (ℕ × ℕ) Fault
array_of loads None size table_at = Ok (0, 0)
array_of loads (Some address) size table_at = do
  size ← ok_or size (fault checks.Array table_at)
  refuse (not (address % 16 == 0) || not (size % 16 == 0) || not (is_in_memory loads address size)) checks.Array table_at
  Ok (address, size)

-- DT_INIT_ARRAY, and then DT_FINI_ARRAY
unfoldable pub arrays_of : List Segment → List DynEntry → ℕ → Result Arrays Fault
arrays_of loads used table_at = do
  init ← array_of loads (value_of used DT_INIT_ARRAY) (value_of used DT_INIT_ARRAYSZ) table_at
  fini ← array_of loads (value_of used DT_FINI_ARRAY) (value_of used DT_FINI_ARRAYSZ) table_at
  Ok (record { init_at = init.0; init_size = init.1; fini_at = fini.0; fini_size = fini.1 })
