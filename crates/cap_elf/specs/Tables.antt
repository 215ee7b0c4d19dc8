-- The tables that the dynamic table names.
use Rattle.std.specs.Prelude.{ℕ, ◌+◌, ◌-◌, ◌*◌, ◌/◌, ◌%◌, ◌^◌, Bool, true, false, not, ◌||◌, ◌==◌, nat_lt, List, slice_range, slice_index, Option, Some, None, ok_or, unwrap_or, Result, Ok}
use Rattle.cap_base.specs.Field.{number_at}
use Rattle.cap_base.specs.declared.check.Check.TheVariants.{StringTable, NoHashTable, HashTable, SymbolCount, SymbolTable, RelocationTable, RelocationCount}
use Rattle.cap_base.specs.declared.refusal.Fault.{Fault}
use Rattle.cap_elf.specs.declared.records.Segment.{Segment}
use Rattle.cap_elf.specs.declared.decode.DynEntry.{DynEntry}
use Rattle.cap_elf.specs.declared.decode.Table.{Table}
use Rattle.cap_elf.specs.declared.tables.HashPlace.{HashPlace}
use Rattle.cap_elf.specs.declared.tables.Lists.{Lists}
use Rattle.cap_elf.specs.Numbers.{DT_HASH, DT_STRTAB, DT_STRSZ, DT_SYMTAB, DT_SYMENT, DT_RELA, DT_RELASZ, DT_RELAENT, DT_JMPREL, DT_PLTRELSZ, DT_PLTREL, DT_CAP_RELOCS, DT_CAP_RELOCSZ}
use Rattle.cap_elf.specs.Ends.{file_place, table_place}
use Rattle.cap_elf.specs.Dynamic.{value_of}
use Rattle.cap_base.specs.Steps.{◌>>=◌, ◌>>◌, refuse, fault}

-- the bytes of the string table, the first and the last of which are 0 (gABI, "String Table")
unfoldable pub strings_of : List ℕ → List Segment → List DynEntry → ℕ → Result (List ℕ) Fault
strings_of bytes loads used table_at = do
  let size = unwrap_or (value_of used DT_STRSZ) 0
  place ← ok_or (table_place loads (value_of used DT_STRTAB) size) (fault StringTable table_at)
  let strings = slice_range bytes place (place + size)
  refuse (size == 0 || not (slice_index strings 0 == 0) || not (slice_index strings (size - 1) == 0)) StringTable table_at
  Ok strings

-- where the words of the hash table stand, and how many symbols it tells of: nbucket, nchain, as many buckets and as
-- many chains; "the number of symbol table entries should equal nchain" (gABI, "Hash Table")
unfoldable pub hash_of : List ℕ → List Segment → List DynEntry → ℕ → Result HashPlace Fault
hash_of bytes loads used table_at = do
  address ← ok_or (value_of used DT_HASH) (fault NoHashTable table_at)
  head ← ok_or (file_place loads address 8) (fault HashTable table_at)
  let buckets = number_at 4 bytes head
  let chains = number_at 4 bytes (head + 4)
  refuse (buckets == 0 || chains == 0) HashTable table_at
  place ← ok_or (file_place loads address (8 + 4 * (buckets + chains))) (fault HashTable table_at)
  Ok (record { words = record { at = place; count = 2 + buckets + chains }; symbols = chains })

-- where so many symbols stand (DT_SYMTAB, DT_SYMENT)
unfoldable pub symbols_of : List Segment → List DynEntry → ℕ → ℕ → Result Table Fault
symbols_of loads used count table_at = do
  refuse (nat_lt (2 ^ 20) count) SymbolCount 0
  place ← ok_or (table_place loads (value_of used DT_SYMTAB) (24 * count)) (fault SymbolTable table_at)
  refuse (not (unwrap_or (value_of used DT_SYMENT) 0 == 24)) SymbolTable table_at
  Ok (record { at = place; count = count })

-- where a list of records of this width stands: nowhere, if it has no address
unfoldable pub list_of : List Segment → Option ℕ → Option ℕ → Bool → ℕ → ℕ → Result Table Fault
list_of loads None size fits width table_at = Ok (record { at = 0; count = 0 })
list_of loads (Some address) size fits width table_at = do
  size ← ok_or size (fault RelocationTable table_at)
  refuse (not fits || not (size % width == 0)) RelocationTable table_at
  place ← ok_or (file_place loads address size) (fault RelocationTable table_at)
  Ok (record { at = place; count = size / width })

-- the entry is there, and has this value
abbrev pub is_value : Option ℕ → ℕ → Bool
is_value None n = false
is_value (Some m) n = m == n

-- where the relocations stand (DT_RELA, DT_JMPREL, `__cap_relocs`), in the order of the checks
unfoldable pub lists_of : List Segment → List DynEntry → ℕ → Result Lists Fault
lists_of loads used table_at = do
  relocs ← list_of loads (value_of used DT_RELA) (value_of used DT_RELASZ) (is_value (value_of used DT_RELAENT) 24) 24 table_at
  jumps ← list_of loads (value_of used DT_JMPREL) (value_of used DT_PLTRELSZ) (is_value (value_of used DT_PLTREL) DT_RELA) 24 table_at
  cap_relocs ← list_of loads (value_of used DT_CAP_RELOCS) (value_of used DT_CAP_RELOCSZ) true 40 table_at
  refuse (nat_lt (2 ^ 20) (relocs.count + jumps.count + cap_relocs.count)) RelocationCount 0
  Ok (record { cap_relocs = cap_relocs; relocs = relocs; jumps = jumps })
