-- The header of the file (gABI, "ELF Header").
use Rattle.std.specs.Prelude.{ℕ, Bool, not, ◌==◌, nat_lt, List, length, slice_index, bit_and, Result, Ok}
use Rattle.cap_base.specs.Field.{number_at}
use Rattle.cap_base.specs.declared.check.Check.TheVariants.{FileHeader, Magic, FileClass, ByteOrder, IdentVersion, Machine, FileVersion, FileType, PureCapability}
use Rattle.cap_base.specs.declared.refusal.Fault.{Fault}
use Rattle.cap_base.specs.Steps.{◌>>◌, refuse}

-- the two flags of the pure-capability profile are not both set
abbrev pub lacks_flags : ℕ → Bool
lacks_flags flags = not (bit_and flags 0x30000 == 0x30000)

-- the checks of the header of a file of this type; it gives the flags
unfoldable pub header_of : ℕ → List ℕ → Result ℕ Fault
header_of file_type bytes = do
  refuse (nat_lt (length bytes) 64) FileHeader (length bytes)
  refuse (not (number_at 4 bytes 0 == 0x464c457f)) Magic 0
  refuse (not (slice_index bytes 4 == 2)) FileClass 4
  refuse (not (slice_index bytes 5 == 1)) ByteOrder 5
  refuse (not (slice_index bytes 6 == 1)) IdentVersion 6
  refuse (not (number_at 2 bytes 18 == 243)) Machine 18
  refuse (not (number_at 4 bytes 20 == 1)) FileVersion 20
  refuse (not (number_at 2 bytes 16 == file_type)) FileType 16
  refuse (lacks_flags (number_at 4 bytes 48)) PureCapability 48
  Ok (number_at 4 bytes 48)
